-- What it takes that a follower asked.
use Rattle.std.proofs.Common.{◌≡◌, ℕ, Option, Some, None, refl, sym, ap, ◌∙◌, subst}
use Rattle.kp_types.specs.declared.refusal.Refusal.TheVariants as refusals
use Rattle.kp_model.specs.Log.{end_of}
use Rattle.kp_model.specs.World.{Follows, Following}
use Rattle.kp_model.specs.Event.{Ask, Refused}
use Rattle.kp_model.specs.Letter.{Fetching}
use Rattle.kp_model.specs.Fetching.{ask_cause, last_epoch}
use Rattle.kp_model.proofs.OneStep.Sending.{asks}
use Rattle.kp_model.proofs.OneStep.Steps.{was_refused}
use Rattle.kp_replica.specs.declared.replica.Following.{Following as CodeFollowing}
use Rattle.kp_replica.specs.declared.replica.Mode.{Mode as CodeMode}
use Rattle.kp_replica.specs.declared.replica.Mode.TheVariants as modes
use Rattle.kp_replica.specs.NumberedNode.{NumberedNode, Does}
use Rattle.kp_replica.specs.Modes.{mode_of}
use Rattle.kp_replica.specs.Sending.{DoesSending}

-- a follower asks by its log's end and its last epoch
pub asks_leader : (m : NumberedNode) (f : Following) (offset : ℕ) (last : Option ℕ) → m.state.mode ≡ Follows f → offset ≡ end_of m.state.log → last ≡ last_epoch m.state.log
    → DoesSending m m Ask (Fetching (record { from = m.number; to = f.leader; life = m.state.life; epoch = f.epoch; offset = offset; last = last; answering = None }))
asks_leader m f offset last mode at is =
    subst (λ (p : ℕ × Option ℕ). DoesSending m m Ask (Fetching (record { from = m.number; to = f.leader; life = m.state.life; epoch = f.epoch; offset = p.0; last = p.1; answering = None }))) (λ i. (sym at i, sym is i))
    (asks m.number m.state f mode, (refl, refl))

-- who doesn't follow has nobody to ask
asks_nobody : (m : CodeMode) → ((f : CodeFollowing) → m ≡ modes.Follows f → ⊥) → ask_cause (mode_of m) ≡ Some refusals.NotLeader
asks_nobody modes.Idle h = refl
asks_nobody (modes.Leads l) h = refl
asks_nobody (modes.Follows f) h = absurd (h f refl)

pub asks_not : (m : NumberedNode) (mode : CodeMode) → m.state.mode ≡ mode_of mode → ((f : CodeFollowing) → mode ≡ modes.Follows f → ⊥)
    → Does m m Ask (Refused refusals.NotLeader)
asks_not m mode is not_following = λ c. (was_refused c m.number m.state Ask refusals.NotLeader (ap ask_cause is ∙ asks_nobody mode not_following), (refl, refl))
