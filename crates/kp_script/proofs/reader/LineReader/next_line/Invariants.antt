use Rattle.std.proofs.Common.{◌≡◌, ℕ, List}
use Rattle.std.specs.Io.KnownBytes.{Consumes}
use Rattle.kp_words.specs.Words.{Lacks}
use Rattle.kp_script.specs.Reads.{kept_of}
use Rattle.kp_script.proofs.reader.LineReader.next_line.Given as goal

abbrev pub invariant-loop : goal.invariant-loop
invariant-loop g l = record {
  taken : (taken : List ℕ) × Lacks 10 taken × (l.self.line.items ≡ kept_of taken)
      × Consumes (g.R.Read.remaining l.fn.self.inner) (g.R.Read.remaining l.self.inner) taken;
  failed : l.self.failed ≡ l.fn.self.failed;
}
