use Rattle.std.proofs.Common.{◌≡◌, ◌+◌, ◌++◌, ◌<◌, ◌^◌, length}
use Rattle.kp_script.specs.Parsed.{calls_in}
use Rattle.kp_script.specs.Seen.{seen_header}
use Rattle.kp_script.proofs.Reading.{Progress}
use Rattle.kp_script.proofs.script.parse.Given as goal

abbrev pub invariant-loop-next : goal.invariant-loop-next
invariant-loop-next l = record {
  progress : Progress l.fn.bytes (seen_header l.header) (calls_in l.sections.items ++ l.last) l.number l.rest;
  events : l.events ≡ length (calls_in l.sections.items ++ l.last);
  room : l.number + length l.rest < 2 ^ 64;
}

abbrev pub decreases-loop-next : goal.decreases-loop-next
decreases-loop-next l = length l.rest
