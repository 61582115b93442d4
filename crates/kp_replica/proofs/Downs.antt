-- A node that is down refuses all but its restart.
use Rattle.std.proofs.Common.{◌≡◌, ℕ, true, false, Option, Some, refl, sym, ap, ◌∙◌, subst}
use Rattle.std.proofs.lemmas.Bool.{cond_both}
use Rattle.kp_types.specs.declared.refusal.Refusal.{Refusal}
use Rattle.kp_types.specs.declared.refusal.Refusal.TheVariants as refusals
use Rattle.kp_model.specs.World.{LeaderAndIsr, Mode, Down, Idle, Leads, Follows, Node, Proposal, Message, Answers, Proposes}
use Rattle.kp_model.specs.Event.{Act, Receive, Refused}
use Rattle.kp_model.specs.Event as model
use Rattle.kp_model.specs.Effect.{is_down}
use Rattle.kp_model.specs.Fetching.{is_covered, take_cause, cut_cause}
use Rattle.kp_model.specs.Local.{cause, receive_cause}
use Rattle.kp_model.proofs.OneStep.Steps.{was_refused}
use Rattle.kp_replica.specs.NumberedNode.{NumberedNode, DoesUnder}

-- all that a node refuses while it is down, but messages
abbrev pub NeedsUp : Act → Type 0
NeedsUp (model.Receive m) = ⊥
NeedsUp model.Restart = ⊥
NeedsUp _ = Unit {0}

is_mode_down : (mode : Mode) → is_down mode ≡ true → mode ≡ Down
is_mode_down Down is = refl
is_mode_down Idle is = absurd cc
is_mode_down (Leads l) is = absurd cc
is_mode_down (Follows f) is = absurd cc

down_cause : (c : LeaderAndIsr) (n : ℕ) (x : Node) (act : Act) → x.mode ≡ Down → NeedsUp act → cause c n x act ≡ Some refusals.Down
down_cause c n x (model.Receive m) down asked = absurd asked
down_cause c n x model.Restart down asked = absurd asked
down_cause c n x _ down asked = rw down refl

down_receives : (c : LeaderAndIsr) (n : ℕ) (x : Node) (m : Message) → x.mode ≡ Down → receive_cause c n x m ≡ Some refusals.Down
down_receives c n x (Answers a) down =
    cond_both (is_covered a.log a.request) (take_cause x a) (cut_cause c n x a) (λ (o : Option Refusal). o ≡ Some refusals.Down) (λ e. rw down refl) (λ e. rw down refl)
down_receives c n x _ down = rw down refl

pub refuses_down : (c : LeaderAndIsr) (x : NumberedNode) (act : Act) (refusal : Refusal) → is_down x.state.mode ≡ true → refusal ≡ refusals.Down → NeedsUp act
    → DoesUnder c x x act (Refused refusal)
refuses_down c x act refusal down is asked = (
  was_refused c x.number x.state act refusal
      (subst (λ (r : Refusal). cause c x.number x.state act ≡ Some r) (sym is) (down_cause c x.number x.state act (is_mode_down x.state.mode down) asked)),
  (refl, refl),
)

pub refuses_message : (c : LeaderAndIsr) (x : NumberedNode) (m : Message) (refusal : Refusal) → is_down x.state.mode ≡ true → refusal ≡ refusals.Down
    → DoesUnder c x x (Receive m) (Refused refusal)
refuses_message c x m refusal down is = (
  was_refused c x.number x.state (Receive m) refusal
      (subst (λ (r : Refusal). cause c x.number x.state (Receive m) ≡ Some r) (sym is) (down_receives c x.number x.state m (is_mode_down x.state.mode down))),
  (refl, refl),
)

-- a proposal is the controller's: also a node that is up refuses it
pub refuses_proposal : (c : LeaderAndIsr) (x : NumberedNode) (p : Proposal) → is_down x.state.mode ≡ false → DoesUnder c x x (Receive (Proposes p)) (Refused refusals.StaleAnswer)
refuses_proposal c x p up =
    (was_refused c x.number x.state (Receive (Proposes p)) refusals.StaleAnswer (let is : cause c x.number x.state (Receive (Proposes p)) ≡ Some refusals.StaleAnswer = rw up refl in is), (refl, refl))

-- and a node that is up refuses a restart
pub refuses_up : (c : LeaderAndIsr) (x : NumberedNode) (refusal : Refusal) → is_down x.state.mode ≡ false → refusal ≡ refusals.Down → DoesUnder c x x model.Restart (Refused refusal)
refuses_up c x refusal up is =
    let cause_is : cause c x.number x.state model.Restart ≡ Some refusals.Down = rw up refl in
    (was_refused c x.number x.state model.Restart refusal (cause_is ∙ ap Some (sym is)), (refl, refl))
