-- What it takes that a leader asked for a change of the in-sync replicas, or learned a decision.
use Rattle.std.proofs.Common.{◌≡◌, ℕ, Bool, true, false, eqb, List, [], ◌∷◌, Option, Some, None, Result, Err, refl, sym, ap, ◌∙◌, subst, inl, inr}
use Rattle.std.specs.Prelude.{◌||◌, not, bytes_eq, nat_lt}
use Rattle.std.specs.List.{filter}
use Rattle.std.proofs.lemmas.Bool.{eq-eqb, eqb-true, or_cases}
use Rattle.kp_types.specs.Causes.{first_of, IsRefusedOnlyBy}
use Rattle.kp_types.specs.declared.refusal.Refusal.{Refusal}
use Rattle.kp_types.specs.declared.refusal.Refusal.TheVariants as refusals
use Rattle.kp_model.specs.World.{LeaderAndIsr, Leading, Mode, Leads, Node, Decision, Proposes, Decides}
use Rattle.kp_model.specs.Event.{Receive, Learned, Refused, SentProposal}
use Rattle.kp_model.specs.Letter.{Proposing}
use Rattle.kp_model.specs.Controller.{has_epoch, is_member, with_member, without_member}
use Rattle.kp_model.specs.Effect.{Effect, becomes, sends, unless_leads, WhereLeads}
use Rattle.kp_model.specs.InSync.{learn_cause, proposal, Learns, Proposes-set}
use Rattle.kp_model.specs.Local.{Local, cause}
use Rattle.kp_replica.specs.declared.altering.IsrChange.{IsrChange}
use Rattle.kp_replica.specs.declared.altering.IsrChange.TheVariants.{Join, Leave}
use Rattle.kp_replica.specs.Altering.{change_act, changed_isr, isr_cause}
use Rattle.kp_replica.specs.NumberedNode.{NumberedNode, Does}
use Rattle.kp_replica.specs.Sending.{DoesSending}
use Rattle.kp_model.proofs.Safety.Members.{in_back}
use Rattle.kp_model.proofs.OneStep.Steps.{happened, was_refused}

-- ---- a set without the joiner isn't the one with it

neither : (a b : Bool) → (a || b) ≡ false → (a ≡ false) × (b ≡ false)
neither false false e = (refl, refl)
neither false true e = absurd cc
neither true b e = absurd cc

lists_apart : (n : ℕ) (xs ys : List ℕ) → is_member n xs ≡ false → is_member n ys ≡ true → bytes_eq xs ys ≡ false
lists_apart n [] [] h i = absurd cc
lists_apart n [] (y ∷ ys) h i = refl
lists_apart n (x ∷ xs) [] h i = absurd cc
lists_apart n (x ∷ xs) (y ∷ ys) h i = by_first (eqb x y) refl (lists_apart n xs ys (neither (eqb x n) (is_member n xs) h).1)
  where
    by_first : (t : Bool) → eqb x y ≡ t → (is_member n ys ≡ true → bytes_eq xs ys ≡ false) → bytes_eq (x ∷ xs) (y ∷ ys) ≡ false
    by_first false e later = rw e refl
    by_first true e later =
        let same : x ≡ y = eqb-true x y e in
        let other : eqb x n ≡ false = (neither (eqb x n) (is_member n xs) h).0 in
        let rest : is_member n ys ≡ true = elim (or_cases (eqb y n) (is_member n ys) i) [
          | inl here ↦ absurd (let both : eqb y n ≡ false = subst (λ (m : ℕ). eqb m n ≡ false) same other in cc)
          | inr there ↦ there
        ] in
        rw e (later rest)

pub never_joined : (n : ℕ) (set isr : List ℕ) → is_member n set ≡ false → false ≡ bytes_eq set (with_member n isr)
never_joined n set isr lacks =
    let low : List ℕ = filter (λ x. nat_lt x n) isr in
    let high : List ℕ = filter (λ x. nat_lt n x) isr in
    let here : is_member n (n ∷ high) ≡ true = (let same : eqb n n ≡ true = eq-eqb n n refl in rw same refl) in
    sym (lists_apart n set (with_member n isr) lacks (in_back low (n ∷ high) n here))

-- ---- why a change is refused

-- a leader's cause to refuse it
pub cause_is : (c : LeaderAndIsr) (n : ℕ) (x : Node) (l : Leading) (change : IsrChange) → x.mode ≡ Leads l → cause c n x (change_act change) ≡ isr_cause n x.watermark l change
cause_is c n x l (Join m) leads = rw leads refl
cause_is c n x l (Leave m) leads = rw leads refl

-- only a leader asks
pub not_leading : (c : LeaderAndIsr) (n : ℕ) (x : Node) (change : IsrChange) → ((why : Leading → Option Refusal) → unless_leads x.mode why ≡ Some refusals.NotLeader)
    → cause c n x (change_act change) ≡ Some refusals.NotLeader
not_leading c n x (Join m) h = h _
not_leading c n x (Leave m) h = h _

pub refused_exit : {A : Type 0} (o : Option Refusal) (r : Refusal) (result : Result A Refusal) → o ≡ Some r → result ≡ Err r → IsRefusedOnlyBy o result
refused_exit o r result is exit = rw (is, exit) refl

-- what is refused so, whatever the record is
pub refused_change : (m : NumberedNode) (change : IsrChange) (r : Refusal) → ((c : LeaderAndIsr) → cause c m.number m.state (change_act change) ≡ Some r)
    → Does m m (change_act change) (Refused r)
refused_change m change r is = λ c. (was_refused c m.number m.state (change_act change) r (is c), (refl, refl))

-- ---- that it is asked for

-- the leader with this set pending
abbrev pub with_pending : NumberedNode → Leading → List ℕ → NumberedNode
with_pending m l isr = record m { state = record m.state { mode = Leads (record l { pending = Some isr }) } }

abbrev proposing : LeaderAndIsr → ℕ → Node → Leading → List ℕ → Effect
proposing c n x l isr = sends (record x { mode = Leads (record l { pending = Some isr }) }) (Proposes (proposal n l isr)) (SentProposal isr l.version)

proposed : (c : LeaderAndIsr) (n : ℕ) (x : Node) (l : Leading) (change : IsrChange) → x.mode ≡ Leads l → isr_cause n x.watermark l change ≡ None
    → Local c n x (change_act change) (proposing c n x l (changed_isr change l.isr))
proposed c n x l (Join m) leads free =
    let isr = with_member m l.isr in
    let e = proposing c n x l isr in
    happened c n x (change_act (Join m)) e (cause_is c n x l (Join m) leads ∙ free)
    (subst (λ (k : Mode). WhereLeads k (λ l. Proposes-set n x (with_member m l.isr) l e)) (sym leads) refl)
proposed c n x l (Leave m) leads free =
    let isr = without_member m l.isr in
    let e = proposing c n x l isr in
    happened c n x (change_act (Leave m)) e (cause_is c n x l (Leave m) leads ∙ free)
    (subst (λ (k : Mode). WhereLeads k (λ l. Proposes-set n x (without_member m l.isr) l e)) (sym leads) refl)

pub proposes : (m : NumberedNode) (l : Leading) (change : IsrChange) (isr : List ℕ) → m.state.mode ≡ Leads l → isr_cause m.number m.state.watermark l change ≡ None → isr ≡ changed_isr change l.isr
    → DoesSending m (with_pending m l isr) (change_act change) (Proposing (proposal m.number l isr))
proposes m l change isr leads free is =
    subst (λ (set : List ℕ). DoesSending m (with_pending m l set) (change_act change) (Proposing (proposal m.number l set))) (sym is) (
      record {
        message = Proposes (proposal m.number l (changed_isr change l.isr));
        letter_is = refl;
        local = λ c. proposed c m.number m.state l change leads free;
      },
      (refl, refl),
    )

-- ---- that a decision is learned

pub learn_refused : (c : LeaderAndIsr) (m : NumberedNode) (d : Decision) (r : Refusal) → unless_leads m.state.mode (learn_cause d) ≡ Some r
    → Local c m.number m.state (Receive (Decides d)) (becomes m.state (Refused r))
learn_refused c m d r is = was_refused c m.number m.state (Receive (Decides d)) r is

-- the leader that knows the decided set and version
abbrev pub with_decided : NumberedNode → Leading → List ℕ → ℕ → NumberedNode
with_decided m l isr version = record m { state = record m.state { mode = Leads (record l { isr = isr; version = version; pending = None }) } }

pub learns : (m : NumberedNode) (l : Leading) (d : Decision) → m.state.mode ≡ Leads l → learn_cause d l ≡ None
    → Does m (with_decided m l d.decided.isr d.decided.version) (Receive (Decides d)) (Learned d.decided.isr d.decided.version)
learns m l d leads free = λ c.
    let y = with_decided m l d.decided.isr d.decided.version in
    let e : Effect = becomes y.state (Learned d.decided.isr d.decided.version) in
    let x = m.state in (
      happened c m.number x (Receive (Decides d)) e (ap (λ (k : Mode). unless_leads k (learn_cause d)) leads ∙ free)
          (subst (λ (k : Mode). WhereLeads k (λ l. Learns x d l e)) (sym leads) refl),
      (refl, refl),
    )

-- by its two tests
pub learn_cause_is : (d : Decision) (l : Leading) (mode : Mode) (has newer : Bool) → mode ≡ Leads l → has_epoch d.decided (Some l.epoch) ≡ has → nat_lt l.version d.decided.version ≡ newer
    → unless_leads mode (learn_cause d) ≡ first_of ((not has, refusals.StaleRecord) ∷ (not newer, refusals.StaleAnswer) ∷ [])
learn_cause_is d l mode has newer leads recorded rises = rw (leads, recorded, rises) refl
