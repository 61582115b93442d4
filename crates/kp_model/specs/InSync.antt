-- Join, leave and learn: a leader proposes another in-sync set to the controller, and learns what was decided (own as a whole,
-- after KIP-497).
use Rattle.std.specs.Prelude.{◌≡◌, ℕ, nat_lt, nat_le, ◌==◌, ◌&&◌, ◌||◌, not, Bool, false, if◌then◌else◌, List, [], ◌∷◌, Option, Some, None, bytes_eq}
use Rattle.std.specs.Option.{option_map_or}
use Rattle.kp_types.specs.Causes.{first_of}
use Rattle.kp_types.specs.declared.refusal.Refusal.{Refusal}
use Rattle.kp_types.specs.declared.refusal.Refusal.TheVariants as refusals
use Rattle.kp_model.specs.World.{LeaderAndIsr, Leading, Leads, Node, Proposal, Decision, Proposes, report_of}
use Rattle.kp_model.specs.Event.{SentProposal, Learned}
use Rattle.kp_model.specs.Controller.{is_member, with_member, without_member, has_epoch}
use Rattle.kp_model.specs.Effect.{Effect, becomes, sends}

-- the record that leader n knows
abbrev pub known_by : ℕ → Leading → LeaderAndIsr
known_by n l = record { leader = Some (record { node = n; epoch = l.epoch }); isr = l.isr; version = l.version }

-- ---- join and leave

-- its reported end is at least the leader's watermark and at least where its leadership began
abbrev pub is_caught_up : ℕ → Leading → ℕ → Bool
is_caught_up watermark l m = option_map_or (λ e. nat_le watermark e && nat_le l.start e) (report_of l m) false

-- A leader asks for one change at a time. What it has asked for already it may send anew, without a test.
abbrev pub change_cause : Option (List ℕ) → List ℕ → Option Refusal → Option Refusal
change_cause None isr tests = tests
change_cause (Some pending) isr tests = if bytes_eq pending isr then None else Some refusals.ChangePending

-- What stands against a change where none is pending: the node to join hasn't caught up; the node to leave isn't in sync, or is
-- the leader itself.
abbrev pub join_tests : (watermark m : ℕ) → Leading → List (Bool × Refusal)
join_tests watermark m l = (not (is_caught_up watermark l m), refusals.NotCaughtUp) ∷ []

abbrev pub leave_tests : (n m : ℕ) → Leading → List (Bool × Refusal)
leave_tests n m l = (not (is_member m l.isr) || (m == n), refusals.NotInSync) ∷ []

abbrev pub join_cause : Node → ℕ → Leading → Option Refusal
join_cause x m l = change_cause l.pending (with_member m l.isr) (first_of (join_tests x.watermark m l))

abbrev pub leave_cause : ℕ → ℕ → Leading → Option Refusal
leave_cause n m l = change_cause l.pending (without_member m l.isr) (first_of (leave_tests n m l))

-- what leader n asks the controller for
abbrev pub proposal : ℕ → Leading → List ℕ → Proposal
proposal n l isr = record { from = n; known = known_by n l; isr = isr }

-- the set is pending, and the proposal is sent
abbrev pub Proposes-set : ℕ → Node → List ℕ → Leading → Effect → Type 0
Proposes-set n x isr l e =
    e ≡ sends (record x { mode = Leads (record l { pending = Some isr }) }) (Proposes (proposal n l isr)) (SentProposal isr l.version)

-- ---- learn

-- why a leader learns nothing from a decision: its record has another epoch, or isn't newer than the one that the leader knows
abbrev pub learn_cause : Decision → Leading → Option Refusal
learn_cause d l =
    first_of ((not (has_epoch d.decided (Some l.epoch)), refusals.StaleRecord) ∷ (not (nat_lt l.version d.decided.version), refusals.StaleAnswer) ∷ [])

-- the decided set and version are known then, and no change waits any more
abbrev pub Learns : Node → Decision → Leading → Effect → Type 0
Learns x d l e =
    let r = d.decided in
    e ≡ becomes (record x { mode = Leads (record l { isr = r.isr; version = r.version; pending = None }) }) (Learned r.isr r.version)
