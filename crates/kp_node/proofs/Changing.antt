-- A leader asks for a change of the in-sync replicas.
use Rattle.std.proofs.Common.{◌≡◌, ℕ, List, [], Option, Some, None, Ok, Err, refl, sym, ap, subst, ◌∙◌, inl, inr}
use Rattle.kp_types.specs.Causes.{IsRefusedOnlyBy}
use Rattle.kp_types.specs.declared.refusal.Refusal.{Refusal}
use Rattle.kp_types.specs.declared.refusal.Refusal.TheVariants.{Memory}
use Rattle.kp_model.specs.World.{LeaderAndIsr, Leading, Node, Message, initial}
use Rattle.kp_model.specs.Event.{Act, Reply, Refused}
use Rattle.kp_model.specs.Letter.{Letter, Proposing, letter_of}
use Rattle.kp_model.specs.Effect.{Effect, becomes, sends}
use Rattle.kp_model.specs.InSync.{Proposes-set, proposal}
use Rattle.kp_model.specs.Local.{Happens, LacksMemory, Local, LocalBy, cause}
use Rattle.kp_model.specs.Laws.{KeepsMark}
use Rattle.kp_model.specs.Step.{IsGiven}
use Rattle.kp_model.proofs.OneStep.Steps.{where_leads}
use Rattle.kp_replica.specs.declared.altering.IsrChange.{IsrChange}
use Rattle.kp_replica.specs.declared.altering.IsrChange.TheVariants.{Join, Leave}
use Rattle.kp_replica.specs.Altering.{change_act, changed_isr, IsProposal}
use Rattle.kp_replica.specs.NumberedNode.{NumberedNode, Does}
use Rattle.kp_replica.specs.Sending.{DoesSending}
use Rattle.kp_node.specs.Calls.{Sent}
use Rattle.kp_node.proofs.Heard.{proposal_in}
use Rattle.kp_node.proofs.Serves.{none_sent}

-- a change is handed no message, and keeps the watermark
pub no_message : (messages : List Message) (change : IsrChange) → IsGiven messages (change_act change)
no_message messages (Join m) = tt
no_message messages (Leave m) = tt

pub keeps : (change : IsrChange) → KeepsMark (change_act change)
keeps (Join m) = tt
keeps (Leave m) = tt

-- ---- what is proposed

-- the proposal has one message
pub was_asked : (m m' : NumberedNode) (change : IsrChange) (letter : Letter) (message : Message) → IsProposal m change letter → DoesSending m m' (change_act change) letter → letter_of message ≡ letter
    → Sent m m' (change_act change) message letter
was_asked m m' change letter message asks does fits =
    let l = where_leads m.state.mode (λ (l : Leading). letter ≡ Proposing (proposal m.number l (changed_isr change l.isr))) asks in
    let p = proposal m.number l.0 (changed_isr change l.0.isr) in
    let is : does.0.message ≡ message = proposal_in does.0.message p (does.0.letter_is ∙ l.2) ∙ sym (proposal_in message p (fits ∙ l.2)) in
    subst (λ (z : Message). Sent m m' (change_act change) z letter) is ((does.0.letter_is, does.0.local), does.1)

-- ---- why it is refused

same_refusal : {f g : Refusal} → Refused f ≡ Refused g → f ≡ g
same_refusal e = cc

sends_one : (c : LeaderAndIsr) (n : ℕ) (x : Node) (change : IsrChange) (e : Effect) → Happens c n x (change_act change) e → e.sent ≡ [] → ⊥
sends_one c n x (Join m) e h none =
    let l = where_leads x.mode (λ (l : Leading). Proposes-set n x (changed_isr (Join m) l.isr) l e) h in none_sent _ [] (sym (ap (λ (f : Effect). f.sent) l.2) ∙ none)
sends_one c n x (Leave m) e h none =
    let l = where_leads x.mode (λ (l : Leading). Proposes-set n x (changed_isr (Leave m) l.isr) l e) h in none_sent _ [] (sym (ap (λ (f : Effect). f.sent) l.2) ∙ none)

lacks : (x : Node) (change : IsrChange) (e : Effect) → LacksMemory x (change_act change) e → e ≡ becomes x (Refused Memory)
lacks x (Join m) e h = h
lacks x (Leave m) e h = h

-- it was refused by this cause, and the node is as it was
record Stays (o : Option Refusal) (x y : Node) (f : Refusal) : Type 0 where
  node : y ≡ x
  by : o ≡ Some f

stays_by : (o : Option Refusal) (c : LeaderAndIsr) (n : ℕ) (x y : Node) (change : IsrChange) (f : Refusal) → (f ≡ Memory → ⊥) → LocalBy o c n x (change_act change) (becomes y (Refused f)) → Stays o x y f
stays_by (Some g) c n x y change f spared h = record { node = ap (λ (e : Effect). e.node) h; by = sym (ap Some (same_refusal (ap (λ (e : Effect). e.reply) h))) }
stays_by None c n x y change f spared (inl h) = absurd (sends_one c n x change _ h refl)
stays_by None c n x y change f spared (inr h) = absurd (spared (same_refusal (ap (λ (e : Effect). e.reply) (lacks x change _ h))))

stays : (c : LeaderAndIsr) (n : ℕ) (x y : Node) (change : IsrChange) (f : Refusal) → (f ≡ Memory → ⊥) → Local c n x (change_act change) (becomes y (Refused f)) → Stays (cause c n x (change_act change)) x y f
unfolding Local
stays c n x y change f spared h = stays_by (cause c n x (change_act change)) c n x y change f spared h

free_by : (o : Option Refusal) (c : LeaderAndIsr) (n : ℕ) (x y : Node) (act : Act) (message : Message) (reply : Reply) → LocalBy o c n x act (sends y message reply) → o ≡ None
free_by (Some g) c n x y act message reply h = absurd (none_sent message [] (ap (λ (e : Effect). e.sent) h))
free_by None c n x y act message reply h = refl

free : (c : LeaderAndIsr) (n : ℕ) (x y : Node) (act : Act) (message : Message) (reply : Reply) → Local c n x act (sends y message reply) → cause c n x act ≡ None
unfolding Local
free c n x y act message reply h = free_by (cause c n x act) c n x y act message reply h

pub stays_same : (m m' : NumberedNode) (change : IsrChange) (f : Refusal) → (f ≡ Memory → ⊥) → Does m m' (change_act change) (Refused f) → m' ≡ m
stays_same m m' change f spared does =
    let did = does (initial 0) in
    let s = stays (initial 0) m.number m.state m'.state change f spared did.0 in
    λ i. record { number = did.1.0 i; limits = did.1.1 i; state = s.node i }

pub refused_only : (A : Type 0) (m m' : NumberedNode) (change : IsrChange) (f : Refusal) → (f ≡ Memory → ⊥) → Does m m' (change_act change) (Refused f)
    → (c : LeaderAndIsr) → IsRefusedOnlyBy {A = A} (cause c m.number m.state (change_act change)) (Err f)
refused_only A m m' change f spared does c =
    subst (λ (o : Option Refusal). IsRefusedOnlyBy {A = A} o (Err f)) (sym (stays c m.number m.state m'.state change f spared (does c).0).by) refl

pub free_is : (m m' : NumberedNode) (change : IsrChange) (letter : Letter) → DoesSending m m' (change_act change) letter → (c : LeaderAndIsr) → cause c m.number m.state (change_act change) ≡ None
free_is m m' change letter does c = free c m.number m.state m'.state (change_act change) does.0.message _ (does.0.local c)

pub only_free : {A : Type 0} (o : Option Refusal) (x : A) → o ≡ None → IsRefusedOnlyBy o (Ok x)
only_free o x e = subst (λ (p : Option Refusal). IsRefusedOnlyBy p (Ok x)) (sym e) tt
