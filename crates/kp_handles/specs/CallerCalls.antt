-- What calls of callers' passes do that kp_board's contracts don't say (own rule).
use Rattle.std.specs.Prelude.{◌≡◌, ◌⊎◌, ◌<◌, ◌≤◌, ℕ, true, Option, Some, None, Result, Ok, Err}
use Rattle.kp_types.specs.declared.refusal.Refusal.{Refusal}
use Rattle.kp_board.specs.Plays.{Learned}
use Rattle.kp_board.specs.Views.{CallerView, with_receipts}
use Rattle.kp_handles.specs.Objects.{ObjectView, caller, is_open}
use Rattle.kp_handles.specs.declared.misuse.Misuse.{Misuse}
use Rattle.kp_handles.specs.declared.misuse.Misuse.TheVariants.{Closed, OtherKind}

-- of a call that isn't refused, by what it answers
abbrev pub Answers : {X : Type 0} → (X → Type 0) → Result X Refusal → Type 0
Answers P (Ok x) = P x
Answers P (Err refusal) = ⊥

-- the pass, which was c and is d now, looked at this node's watermark, where the board of n nodes has such a node
abbrev pub LearnsMark : (m n : ℕ) → (c d : CallerView) → Option ℕ → Type 0
LearnsMark m n c d (Some w) = (m < n) × Learned c d m w
LearnsMark m n c d None = (n ≤ m) × (d ≡ c)

-- why they took over none
abbrev pub BadCallers : Option ObjectView → Option ObjectView → Misuse → Type 0
BadCallers old other Closed = (old ≡ None) ⊎ (other ≡ None)
BadCallers old other OtherKind =
    (is_open old ≡ true) × (is_open other ≡ true)
    × ((n : ℕ) → (m : ℕ) → (c : CallerView) → (d : CallerView) → old ≡ Some (caller n c) → other ≡ Some (caller m d) → ⊥)
BadCallers old other _ = ⊥

-- Of two callers' passes the second took over the receipts that the first one has, as `Board::tell_receipts` says; or they weren't those,
-- and nothing has changed.
abbrev pub ReceiptsTold : (old new other then : Option ObjectView) → Result (Unit {0}) Misuse → Type 0
ReceiptsTold old new other then (Ok done) =
    (n : ℕ) × (m : ℕ) × (c : CallerView) × (d : CallerView) × (old ≡ Some (caller n c)) × (new ≡ Some (caller n c))
    × (other ≡ Some (caller m d)) × (then ≡ Some (caller m (with_receipts d c.receipts)))
ReceiptsTold old new other then (Err why) = (new ≡ old) × (then ≡ other) × BadCallers old other why
