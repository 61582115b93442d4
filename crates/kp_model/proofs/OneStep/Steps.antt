-- What is known of a step that isn't refused.
use Rattle.std.proofs.Common.{◌≡◌, ℕ, zero, suc, Bool, true, false, cond, eqb, List, [], ◌∷◌, ◌++◌, length, Option, Some, None, refl, sym, ap, subst, append-nil, inl, inr}
use Rattle.std.specs.Prelude.{slice_get}
use Rattle.std.specs.List.{AllByRecursion}
use Rattle.kp_types.specs.declared.refusal.Refusal.{Refusal}
use Rattle.std.proofs.lemmas.Bool.{cond_both, eqb-true}
use Rattle.kp_model.specs.Log.{end_of}
use Rattle.kp_model.specs.World.{LeaderAndIsr, Leading, Following, Mode, Down, Idle, Leads, Follows, Node, Request, Proposal, Message, Answers, World, with_node, with_message, IsSent}
use Rattle.kp_model.specs.Event.{Act, Reply, Refused, SentBatches, SentDiverging}
use Rattle.kp_model.specs.Controller.{altered}
use Rattle.kp_model.specs.Effect.{Effect, becomes, sends, unless_leads, WhereLeads, WhereFollows}
use Rattle.kp_model.specs.Fetching.{reporting, piece, answer, epoch_answer, Serves}
use Rattle.kp_model.specs.Local.{Local, LocalBy, Happens, LacksMemory, cause}
use Rattle.kp_model.specs.Step.{decided_on, moved}

-- what a leader sends: batches, with a lifted report, or how far it has what is asked of
pub served_either : (P : Effect → Type 0) (x : Node) (r : Request) (l : Leading) (e : Effect)
    → P (sends (record x { mode = Leads (reporting l r.from (end_of r.log)) }) (Answers (answer x r)) (SentBatches (length (piece x.log r)) x.watermark))
    → P (sends x (Answers (answer x r)) (SentDiverging (epoch_answer x.log r))) → Serves x r l e → P e
served_either P x r l e lifts diverges h = elim h [ inl b ↦ subst P (sym b.1) lifts | inr b ↦ subst P (sym b.1) diverges ]

-- where only a leader acts
pub where_leads : (mode : Mode) (P : Leading → Type 0) → WhereLeads mode P → (l : Leading) × (mode ≡ Leads l) × P l
where_leads Down P h = absurd h
where_leads Idle P h = absurd h
where_leads (Leads l) P h = (l, refl, h)
where_leads (Follows f) P h = absurd h

pub where_follows : (mode : Mode) (P : Following → Type 0) → WhereFollows mode P → (f : Following) × (mode ≡ Follows f) × P f
where_follows Down P h = absurd h
where_follows Idle P h = absurd h
where_follows (Leads l) P h = absurd h
where_follows (Follows f) P h = (f, refl, h)

pub leads_cause : (mode : Mode) (c : Leading → Option Refusal) (l : Leading) → mode ≡ Leads l → unless_leads mode c ≡ None → c l ≡ None
leads_cause mode c l e h = rw e at h

-- one node changed
pub with_node_keeps : (P : Node → Type 0) (nodes : ℕ → Node) (n : ℕ) (x : Node) → ((m : ℕ) → P (nodes m)) → P x → (m : ℕ) → P (cond (eqb m n) x (nodes m))
with_node_keeps P nodes n x h p m = elim (eqb m n) as (λ (t : Bool). P (cond t x (nodes m))) [ true ↦ p | false ↦ h m ]

-- ---- what a step comes to

-- the node itself, put where it stood
pub with_node_same : (w : World) (n : ℕ) → with_node w n (w.nodes n) ≡ w
with_node_same w n = λ i. record w { nodes = λ m. same m i }
  where
    same : (m : ℕ) → cond (eqb m n) (w.nodes n) (w.nodes m) ≡ w.nodes m
    same m = cond_both (eqb m n) (w.nodes n) (w.nodes m) (λ (x : Node). x ≡ w.nodes m) (λ e. ap w.nodes (sym (eqb-true m n e))) (λ e. refl)

-- only the node changed
pub moved_becomes : (w : World) (n : ℕ) (x : Node) (reply : Reply) → moved w n (becomes x reply) ≡ with_node w n x
moved_becomes w n x reply = ap (λ (ms : List Message). record (with_node w n x) { messages = ms }) (append-nil w.messages)

pub becoming : (P : World → Type 0) (w : World) (n : ℕ) (e : Effect) (x : Node) (reply : Reply) → e ≡ becomes x reply → P (with_node w n x) → P (moved w n e)
becoming P w n e x reply is p =
    subst (λ (f : Effect). P (moved w n f)) (sym is) (subst P (sym (moved_becomes w n x reply)) p)

-- nothing changed
pub staying : (P : World → Type 0) (w : World) (n : ℕ) (e : Effect) (reply : Reply) → e ≡ becomes (w.nodes n) reply → P w → P (moved w n e)
staying P w n e reply is p = becoming P w n e (w.nodes n) reply is (subst P (sym (with_node_same w n)) p)

-- a message was sent besides
pub sending : (P : World → Type 0) (w : World) (n : ℕ) (e : Effect) (x : Node) (m : Message) (reply : Reply) → e ≡ sends x m reply → P (with_message (with_node w n x) m) → P (moved w n e)
sending P w n e x m reply is p = subst (λ (f : Effect). P (moved w n f)) (sym is) p

-- a decision leaves the leader
pub decided_leader : (c : LeaderAndIsr) (p : Proposal) → (decided_on c p).leader ≡ c.leader
decided_leader c p = cond_both _ (altered c p.isr) c (λ (r : LeaderAndIsr). r.leader ≡ c.leader) (λ e. refl) (λ e. refl)

-- ---- how a step is made

pub happened : (c : LeaderAndIsr) (n : ℕ) (x : Node) (act : Act) (e : Effect) → cause c n x act ≡ None → Happens c n x act e → Local c n x act e
unfolding Local
happened c n x act e free h = subst (λ (o : Option Refusal). LocalBy o c n x act e) (sym free) (inl h)

pub lacked_memory : (c : LeaderAndIsr) (n : ℕ) (x : Node) (act : Act) (e : Effect) → cause c n x act ≡ None → LacksMemory x act e → Local c n x act e
unfolding Local
lacked_memory c n x act e free h = subst (λ (o : Option Refusal). LocalBy o c n x act e) (sym free) (inr h)

pub was_refused : (c : LeaderAndIsr) (n : ℕ) (x : Node) (act : Act) (refusal : Refusal) → cause c n x act ≡ Some refusal → Local c n x act (becomes x (Refused refusal))
unfolding Local
was_refused c n x act refusal held = subst (λ (o : Option Refusal). LocalBy o c n x act (becomes x (Refused refusal))) (sym held) refl

-- ---- facts of each element

pub each_at : {A : Type 0} (P : A → Type 0) (xs : List A) (k : ℕ) (x : A) → AllByRecursion P xs → slice_get xs k ≡ Some x → P x
each_at P [] k x h e = absurd cc
each_at P (y ∷ ys) zero x h e = let same : y ≡ x = cc in subst P same h.0
each_at P (y ∷ ys) (suc k) x h e = each_at P ys k x h.1 e

-- what stands in a list stands in a longer one
pub get_front : {A : Type 0} (xs ys : List A) (i : ℕ) (x : A) → slice_get xs i ≡ Some x → slice_get (xs ++ ys) i ≡ Some x
get_front [] ys i x e = absurd cc
get_front (z ∷ zs) ys zero x e = e
get_front (z ∷ zs) ys (suc i) x e = get_front zs ys i x e

-- what holds of each message that was sent
pub each_sent : (P : Message → Type 0) (ms : List Message) (m : Message) → AllByRecursion P ms → IsSent ms m → P m
each_sent P ms m h s = each_at P ms s.0 m h s.1
