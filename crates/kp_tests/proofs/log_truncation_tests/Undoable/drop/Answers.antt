use Rattle.std.proofs.Common.{[], sym, append-nil}
use Rattle.kp_tests.proofs.log_truncation_tests.Undoable.drop.Goals as goal

pub close-kept-requires-clause-boundary : goal.close-kept-requires-clause-boundary
close-kept-requires-clause-boundary c = record {
  front = c.self.inside.log.log;
  begins = record { rest = []; is = append-nil c.self.inside.log.log };
  ends = sym c.end_offset-end.ensures.value;
}
