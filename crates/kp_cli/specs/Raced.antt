-- What a race leaves (own rule).
use Rattle.std.specs.Prelude.{◌++◌, ◌≡◌, ℕ, Bool, true, false, List, Option, Result, Ok, Err, codes}
use Rattle.std.specs.Fmt.{decimal}
use Rattle.kp_types.specs.declared.counted.Counted.{Counted}
use Rattle.kp_types.specs.declared.refusal.Refusal.{Refusal}
use Rattle.kp_types.specs.Devices.{Tells}
use Rattle.kp_race.specs.declared.outcome.Outcome.{Outcome}
use Rattle.kp_cli.specs.Told.{Prints, complaint, status_of_refusal}

-- whether all nodes agree
abbrev pub agree_word : Bool → List ℕ
agree_word true = codes "yes\n"
agree_word false = codes "no\n"

-- the five lines of what came of a race
abbrev pub race_lines : Outcome → List ℕ
race_lines outcome =
    codes "nodes " ++ (decimal outcome.nodes
    ++ (codes "\nreceipts " ++ (decimal outcome.receipts
    ++ (codes "\nacknowledged " ++ (decimal outcome.acknowledged
    ++ (codes "\ncommitted " ++ (decimal outcome.committed
    ++ (codes "\nagree " ++ agree_word outcome.agree))))))))

-- 0 where all nodes agree, and 1 where they don't
abbrev pub agree_status : Bool → ℕ
agree_status true = 0
agree_status false = 1

-- What a race leaves that gave this answer: its lines, or where it was refused, the refusal on standard error alone.
abbrev pub LeavesRace : {W E : Type 0} → (W → Option (List ℕ)) → (E → Option (List ℕ)) → Result Outcome Refusal
    → (out out_new : Counted W) → (err err_new : Counted E) → (status : ℕ) → Type 0
LeavesRace held told (Ok outcome) out out_new err err_new status =
    Prints held told (race_lines outcome) (agree_status outcome.agree) out out_new err err_new status
LeavesRace held told (Err refusal) out out_new err err_new status =
    (out_new ≡ out) × Tells told err err_new (complaint refusal) × (status ≡ status_of_refusal refusal)

-- What a race leaves, whichever of the answers that it may give it gave.
abbrev pub EndsRace : {W E : Type 0} → (W → Option (List ℕ)) → (E → Option (List ℕ)) → (may : Result Outcome Refusal → Type 0)
    → (out out_new : Counted W) → (err err_new : Counted E) → (status : ℕ) → Type 0
EndsRace held told may out out_new err err_new status =
    (answer : Result Outcome Refusal) × may answer × LeavesRace held told answer out out_new err err_new status
