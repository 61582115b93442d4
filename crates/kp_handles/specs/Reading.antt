-- What a read puts into a handle (own rule).
use Rattle.std.specs.Prelude.{ℕ, Bool, Option, Result}
use Rattle.kp_types.specs.declared.refusal.Refusal.{Refusal}
use Rattle.kp_node.specs.CallerCalls.{Reads, ReadsCommitted}
use Rattle.kp_node.specs.Fetches.{Fetches}
use Rattle.kp_handles.specs.Called.{GiveCalled}
use Rattle.kp_handles.specs.Objects.{ObjectView, batches, fetched, records}
use Rattle.kp_handles.specs.Outs.{isolation_in}
use Rattle.kp_handles.specs.declared.misuse.Misuse.{Misuse}

abbrev pub ReadCalled : ℕ → (old new other then out wrote : Option ObjectView) → Result (Result (Unit {0}) Refusal) Misuse → Type 0
ReadCalled from old new other then out wrote done = GiveCalled (λ read. batches read.items) (Reads from) old new other then out wrote done

abbrev pub CommittedCalled : ℕ → (old new other then out wrote : Option ObjectView) → Result (Result (Unit {0}) Refusal) Misuse → Type 0
CommittedCalled from old new other then out wrote done = GiveCalled records (ReadsCommitted from) old new other then out wrote done

abbrev pub FetchCalled : (from most : ℕ) → (read_committed : Bool) → (old new other then out wrote : Option ObjectView) → Result (Result (Unit {0}) Refusal) Misuse → Type 0
FetchCalled from most read_committed old new other then out wrote done =
    GiveCalled fetched (Fetches from most (isolation_in read_committed)) old new other then out wrote done
