-- What a leader asks for when it asks for a change of the in-sync replicas (own rule; Kafka's AlterPartition).
use Rattle.std.specs.Prelude.{◌≡◌, ℕ, List, Option}
use Rattle.std.specs.Option.{option_map}
use Rattle.kp_types.specs.Causes.{first_of}
use Rattle.kp_types.specs.declared.refusal.Refusal.{Refusal}
use Rattle.kp_model.specs.World.{Leading}
use Rattle.kp_model.specs.Event as model
use Rattle.kp_model.specs.Event.{Act}
use Rattle.kp_model.specs.Letter.{Letter, Proposing}
use Rattle.kp_model.specs.Controller.{with_member, without_member}
use Rattle.kp_model.specs.Effect.{WhereLeads}
use Rattle.kp_model.specs.InSync.{change_cause, join_tests, leave_tests, known_by, proposal}
use Rattle.kp_model.specs.Set.{members_of, record_of}
use Rattle.kp_replica.specs.declared.altering.Known.{Known}
use Rattle.kp_replica.specs.declared.altering.IsrChange.{IsrChange}
use Rattle.kp_replica.specs.declared.altering.IsrChange.TheVariants.{Join, Leave}
use Rattle.kp_replica.specs.NumberedNode.{NumberedNode}

-- the event that it is
abbrev pub change_act : IsrChange → Act
change_act (Join m) = model.Join m
change_act (Leave m) = model.Leave m

-- the in-sync replicas with it
abbrev pub changed_isr : IsrChange → List ℕ → List ℕ
changed_isr (Join m) isr = with_member m isr
changed_isr (Leave m) isr = without_member m isr

-- what stands against it where nothing is pending
abbrev pub first_cause : (n watermark : ℕ) → Leading → IsrChange → Option Refusal
first_cause n watermark l (Join m) = first_of (join_tests watermark m l)
first_cause n watermark l (Leave m) = first_of (leave_tests n m l)

-- and where a set may be pending: it is another one
abbrev pub isr_cause : (n watermark : ℕ) → Leading → IsrChange → Option Refusal
isr_cause n watermark l change = change_cause l.pending (changed_isr change l.isr) (first_cause n watermark l change)

-- The letter asks the controller for the changed set, in place of the record that the leader knows.
abbrev pub IsProposal : NumberedNode → IsrChange → Letter → Type 0
IsProposal m change letter =
    WhereLeads m.state.mode (λ l. letter ≡ Proposing (proposal m.number l (changed_isr change l.isr)))

-- The leader tells the record that it knows, the in-sync replicas that it has proposed, and what the others have reported.
abbrev pub IsKnownBy : NumberedNode → Known → Type 0
IsKnownBy m known =
    WhereLeads m.state.mode (λ l. (record_of known.record ≡ known_by m.number l) × (option_map members_of known.pending ≡ l.pending)
    × (known.reported ≡ l.reported))
