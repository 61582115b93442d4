-- One step's whole: the facts go on, and what was committed stays committed and where it stands.
use Rattle.std.proofs.Common.{◌≡◌, ◌⊎◌, ℕ, ◌+◌, ◌≤◌, eqb, List, [], Some, None, refl, sym, ap, ◌∙◌, subst, arith, inl, inr}
use Rattle.std.specs.Prelude.{is_some}
use Rattle.std.proofs.lemmas.Bool.{cond_both, eqb-true, false≢true}
use Rattle.kp_model.specs.Beginning.{Begins}
use Rattle.kp_model.specs.Log.{Batch}
use Rattle.kp_model.specs.World.{Following, Follows, Node, World, with_node}
use Rattle.kp_model.specs.Controller.{next_epoch}
use Rattle.kp_model.proofs.Plain.Beginnings.{Begins-refl, Begins-trans}
use Rattle.kp_model.proofs.Kinship.Ledger.{Grows}
use Rattle.kp_model.proofs.Kinship.SoundLogs.{mode_bound, elections_of, WorldIsSound}
use Rattle.kp_model.proofs.Kinship.Kin.{History, IsKept, ModeIsKept}
use Rattle.kp_model.proofs.Safety.Held.{Sets, bound, IsCommitted, IsHeld, IsLed, IsOwn}
use Rattle.kp_model.proofs.Safety.HeldNodes.{NodeChange, changed_held, committed_after, epoch_after}

-- all facts of a world
pub record AllKept (w : World) (g : History) (t : Sets) : Type 0 where
  pub sound : WorldIsSound w
  pub kept : IsKept w g
  pub held : IsHeld w g t
  pub led : IsLed w g t
  pub own : IsOwn g t

-- the same epoch, or nothing was committed in it
abbrev pub IsAt : List Batch → ℕ → ℕ → Type 0
IsAt P e before = (e ≡ before) ⊎ (P ≡ [])

pub at_then : (e middle before : ℕ) (P : List Batch) → IsAt P e middle → IsAt P middle before → IsAt P e before
at_then e middle before P p q =
    elim p [ inl same ↦ elim q [ inl then ↦ inl (same ∙ then) | inr none ↦ inr none ] | inr none ↦ inr none ]

-- a step from w to new: a history and sets for which the facts hold there, and what stays
pub record Onto (w : World) (g : History) (t : Sets) (new : World) : Type 0 where
  pub next : History
  pub sets : Sets
  pub kept : IsKept new next
  pub held : IsHeld new next sets
  pub led : IsLed new next sets
  pub own : IsOwn next sets
  pub grows : Grows g.ledger next.ledger
  pub began : (e : ℕ) (first : List Batch) → t.began e ≡ Some first → sets.began e ≡ Some first
  pub committed : (P : List Batch) → IsCommitted w g t P → IsCommitted new next sets P
  pub epoch : (P : List Batch) (c : IsCommitted w g t P) → IsAt P (committed P c).epoch c.epoch
  pub stays : (m : ℕ) (P : List Batch) → IsCommitted w g t P → Begins P (w.nodes m).log → Begins P (new.nodes m).log

abbrev pub onto_same : (w : World) (g : History) (t : Sets) → AllKept w g t → Onto w g t w
onto_same w g t a =
    record {
      next = g;
      sets = t;
      kept = a.kept;
      held = a.held;
      led = a.led;
      own = a.own;
      grows = λ e. Begins-refl (g.ledger e);
      began = λ e first o. o;
      committed = λ P p. p;
      epoch = λ P p. inl refl;
      stays = λ m P p b. b;
    }

pub onto_then : (w v u : World) (g : History) (t : Sets) (o : Onto w g t v) → Onto v o.next o.sets u → Onto w g t u
onto_then w v u g t o p =
    record {
      next = p.next;
      sets = p.sets;
      kept = p.kept;
      held = p.held;
      led = p.led;
      own = p.own;
      grows = λ e. Begins-trans (o.grows e) (p.grows e);
      began = λ e first b. p.began e first (o.began e first b);
      committed = λ P c. p.committed P (o.committed P c);
      epoch = λ P c. at_then (p.committed P (o.committed P c)).epoch (o.committed P c).epoch c.epoch P (p.epoch P (o.committed P c)) (o.epoch P c);
      stays = λ m P c b. p.stays m P (o.committed P c) (o.stays m P c b);
    }

-- ---- one node changes, and no ledger

abbrev pub node_onto : (w : World) (g : History) (t : Sets) → AllKept w g t → (n : ℕ) (x : Node) → NodeChange w g t n x → IsKept (with_node w n x) g → IsLed (with_node w n x) g t
    → ((P : List Batch) → IsCommitted w g t P → Begins P (w.nodes n).log → Begins P x.log) → Onto w g t (with_node w n x)
node_onto w g t a n x c kept led stays =
    record {
      next = g;
      sets = t;
      kept = kept;
      held = changed_held w g t a.sound a.held a.kept n x c;
      led = led;
      own = a.own;
      grows = λ e. Begins-refl (g.ledger e);
      began = λ e first o. o;
      committed = committed_after w g t a.sound a.held a.kept n x c;
      epoch = λ P p. inl (epoch_after w g t a.sound a.held a.kept n x c P p);
      stays = λ m P p b. cond_both (eqb m n) x (w.nodes m) (λ (y : Node). Begins P y.log)
          (λ q. stays P p (subst (λ (j : ℕ). Begins P (w.nodes j).log) (eqb-true m n q) b)) (λ q. b);
    }

pub led_same : (w : World) (g : History) (t : Sets) (n : ℕ) (x : Node) → x.log ≡ (w.nodes n).log → IsLed w g t → IsLed (with_node w n x) g t
led_same w g t n x same led l e first o =
    cond_both (eqb l.node n) x (w.nodes l.node) (λ (y : Node). y.log ≡ g.ledger l.epoch)
    (λ q. same ∙ ap (λ (j : ℕ). (w.nodes j).log) (sym (eqb-true l.node n q)) ∙ led l e first o) (λ q. led l e first o)

-- a follower isn't the leader of an epoch that has begun
pub led_follows : (w : World) (g : History) (t : Sets) → AllKept w g t → (n : ℕ) (x : Node) (f : Following) → (w.nodes n).mode ≡ Follows f → IsLed (with_node w n x) g t
led_follows w g t a n x f mode l e first o =
    cond_both (eqb l.node n) x (w.nodes l.node) (λ (y : Node). y.log ≡ g.ledger l.epoch)
    (λ q. absurd (not_leader (eqb-true l.node n q))) (λ q. a.led l e first o)
  where
    not_leader : l.node ≡ n → ⊥
    not_leader is =
        let who : g.leader l.epoch ≡ n = a.kept.leader l e ∙ is in
        let reach : l.epoch + 1 ≤ bound w n = subst (λ (j : ℕ). l.epoch + 1 ≤ bound w j) who (a.held.begun l.epoch first o).1 in
        let at : bound w n ≡ f.epoch + 1 = ap (mode_bound (elections_of w)) mode in
        let within = (a.sound.nodes n).within in
        let top : elections_of w ≡ l.epoch + 1 = ap next_epoch e in
        let same : f.epoch ≡ l.epoch = omega arith in
        let kept : ModeIsKept g n (w.nodes n).log (Follows f) = subst (ModeIsKept g n (w.nodes n).log) mode (a.kept.nodes n).mode in
        kept (ap g.leader same ∙ who)

pub some_is : (x y : List Batch) → Some x ≡ Some y → x ≡ y
some_is x y e = cc

pub none_some : (x : List Batch) → None ≡ Some x → ⊥
none_some x e = false≢true (ap is_some e)
