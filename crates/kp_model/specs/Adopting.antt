-- Adopt: a node takes up the leader that the controller's record names (Kafka replication design; KIP-320 for fencing; own:
-- who led and was restarted has to be elected anew).
use Rattle.std.specs.Prelude.{◌≡◌, ℕ, nat_lt, ◌==◌, Bool, true, false, if◌then◌else◌, List, Option, Some, None}
use Rattle.std.specs.Option.{option_map_or}
use Rattle.kp_model.specs.Log.{Batch, end_of}
use Rattle.kp_model.specs.World.{Leader, LeaderAndIsr, Mode, Leads, Follows, Node, no_reports}
use Rattle.kp_model.specs.Event.{Reply, NowLeads, NowFollows}
use Rattle.kp_model.specs.Effect.{mode_epoch, Effect, becomes}

-- the epoch is above this one, if there is one
abbrev pub is_above : Option ℕ → ℕ → Bool
is_above own epoch = option_map_or (λ o. nat_lt o epoch) own true

-- The record's epoch is above the node's own; an idle node has none. The node that the record names must not have taken up
-- that epoch before, in any life: who led and was restarted has to be elected anew.
abbrev pub is_news : LeaderAndIsr → ℕ → Node → Bool
is_news r n x = option_map_or (λ l. is_above (if l.node == n then x.kept else mode_epoch x.mode) l.epoch) r.leader false

-- node n under this leader: it leads, with its log's end as its start, no reports and nothing pending, or it follows
abbrev pub under : LeaderAndIsr → Leader → ℕ → List Batch → Mode × Reply
under r l n log =
    if l.node == n
    then (
      Leads (record { epoch = l.epoch; isr = r.isr; version = r.version; pending = None; start = end_of log; reported = no_reports }),
      NowLeads l.epoch (end_of log),
    )
    else (
      Follows (record { leader = l.node; epoch = l.epoch }),
      NowFollows l.node l.epoch,
    )

abbrev pub Adopts : LeaderAndIsr → ℕ → Node → Option Leader → Effect → Type 0
Adopts c n x None e = ⊥
Adopts c n x (Some l) e = let role = under c l n x.log in e ≡ becomes (record x { kept = Some l.epoch; mode = role.0 }) role.1
