-- When a node takes up the controller's record.
use Rattle.std.specs.Prelude.{◌≡◌, ℕ, ◌≤◌, nat_lt, ◌==◌, ◌&&◌, not, Bool, false, List, [], ◌∷◌, Option, Some, unwrap_or}
use Rattle.std.specs.Option.{option_map_or}
use Rattle.kp_types.specs.Causes.{first_of}
use Rattle.kp_types.specs.declared.refusal.Refusal.{Refusal}
use Rattle.kp_types.specs.declared.refusal.Refusal.TheVariants as refusals
use Rattle.kp_model.specs.Log.{Batch}
use Rattle.kp_model.specs.World.{Leader, LeaderAndIsr, Node}
use Rattle.kp_model.specs.Adopting.{is_news}
use Rattle.kp_model.specs.Fetching.{last_epoch}

-- The log has no epoch above the record's, as in each world of a run (own).
abbrev pub IsWithin : LeaderAndIsr → List Batch → Type 0
IsWithin c log = (l : Leader) → c.leader ≡ Some l → unwrap_or (last_epoch log) 0 ≤ l.epoch

-- node n would lead in an epoch below its log's last one, where none of its batches could be appended (own)
abbrev pub leads_back : LeaderAndIsr → ℕ → List Batch → Bool
leads_back c n log = option_map_or (λ l. (l.node == n) && nat_lt l.epoch (unwrap_or (last_epoch log) 0)) c.leader false

-- why node n, which is up, doesn't take the record up
abbrev pub adopt_cause : LeaderAndIsr → ℕ → Node → Option Refusal
adopt_cause c n x =
    first_of ((not (is_news c n x), refusals.StaleRecord) ∷ (leads_back c n x.log, refusals.StaleRecord) ∷ [])
