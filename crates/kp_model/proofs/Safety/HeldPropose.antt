-- A leader asks for an in-sync change, and learns of one: what is held stays held.
use Rattle.std.proofs.Common.{◌≡◌, ◌⊎◌, ℕ, ◌+◌, ◌<◌, ◌≤◌, true, false, List, [], Option, Some, None, refl, sym, ap, ◌∙◌, subst, arith, inl, inr}
use Rattle.std.specs.Prelude.{max, is_some, ◌==◌}
use Rattle.std.specs.Option.{option_map_or, option_eq}
use Rattle.std.proofs.lemmas.Bool.{eqb-true, false≢true}
use Rattle.kp_model.specs.Beginning.{Begins}
use Rattle.kp_model.specs.Log.{Batch, end_of}
use Rattle.kp_model.specs.World.{Leader, LeaderAndIsr, Leading, Leads, Proposal, Decision, Proposes, Decides, World}
use Rattle.kp_model.specs.Controller.{next_epoch, has_epoch}
use Rattle.kp_model.specs.InSync.{known_by, proposal}
use Rattle.kp_model.proofs.Plain.Beginnings.{Begins-nil, Begins-trans}
use Rattle.kp_model.proofs.Kinship.SoundLogs.{mode_bound, elections_of, WorldIsSound}
use Rattle.kp_model.proofs.Kinship.Kin.{History, IsKept, ModeIsKept}
use Rattle.kp_model.proofs.Safety.Held.{Sets, IsIn, bound, Sent, Fetched, IsFit, CaughtUp, IsReady, Knows, IsOfLeader, RequestIsHeld, LeaderIsHeld, ProposalIsHeld, IsHeld, member_fit}
use Rattle.kp_model.proofs.Safety.HeldNodes.{NodeChange}
use Rattle.kp_model.proofs.Safety.HeldSteps.{own_request, leads_is}
use Rattle.kp_model.proofs.Safety.HeldMarks.{knows_most}
use Rattle.kp_model.proofs.Safety.HeldMessages.{Sending, kind}

-- ---- whom a leader of the last epoch finds caught up may become a member

module _ (w : World) (g : History) (t : Sets) (s : WorldIsSound w) (h : IsHeld w g t) (k : IsKept w g) (n : ℕ) (l : Leading) (mode : (w.nodes n).mode ≡ Leads l)
    (recorded : w.controller.leader ≡ Some (record { node = n; epoch = l.epoch })) where
  elections : elections_of w ≡ l.epoch + 1
  elections = ap next_epoch recorded

  kept : ModeIsKept g n (w.nodes n).log (Leads l)
  kept = subst (ModeIsKept g n (w.nodes n).log) mode (k.nodes n).mode

  held : LeaderIsHeld w g t (w.nodes n).log l
  held = h.leads n l mode

  -- it has what the leader began with
  new_fetched : (m : ℕ) → CaughtUp (w.nodes n).watermark l m → (P : List Batch) → Begins P (g.ledger l.epoch) → end_of P ≤ max (w.nodes n).watermark l.start → Fetched w m l.epoch P
  new_fetched m c P p e = held.fetched m c.end c.reported P p (let a = c.above_mark in let b = c.above_start in omega arith)

  new_bound : (m : ℕ) → CaughtUp (w.nodes n).watermark l m → bound w m ≡ l.epoch + 1
  new_bound m c =
      let f = new_fetched m c [] (Begins-nil (g.ledger l.epoch)) (omega arith) in
      let reach : f.request.epoch + 1 ≤ bound w m = subst (λ (j : ℕ). f.request.epoch + 1 ≤ bound w j) f.from (h.requests f.request f.sent).reach in
      let within = (s.nodes m).within in
      let epoch = f.epoch in
      let now = elections in
      omega arith

  new_log : (m : ℕ) → CaughtUp (w.nodes n).watermark l m → (P : List Batch) → Begins P held.begun.first → Begins P (w.nodes m).log
  new_log m c P p =
      let first = held.begun.first in
      let made = (h.begun l.epoch first held.begun.began).0 in
      let f = new_fetched m c first made (let a = held.start first held.begun.began in omega arith) in
      let request : RequestIsHeld (elections_of w) g t f.request (w.nodes m) = subst (λ (j : ℕ). RequestIsHeld (elections_of w) g t f.request (w.nodes j)) f.from (h.requests f.request f.sent) in
      let same : f.request.epoch + 1 ≡ bound w m = (let epoch = f.epoch in let b = new_bound m c in omega arith) in
      request.kept same P (Begins-trans p f.begins) (inl (subst (λ (j : ℕ). Begins P (g.ledger j)) (sym f.epoch) (Begins-trans p made)))

  pub caught_up_fit : (m : ℕ) → CaughtUp (w.nodes n).watermark l m → IsFit w g t m
  caught_up_fit m c =
      record {
        joined = λ e before here. absurd (let now = elections in let b = new_bound m c in omega arith);
        passed = λ e moved. h.passed_begun e l.epoch held.begun.first held.begun.began (let b = new_bound m c in omega arith);
        holds = λ e P moved p.
            (let lt : e < l.epoch = (let b = new_bound m c in omega arith) in
            new_log m c P (h.leaders_hold e l.epoch held.begun.first P held.begun.began lt p));
        reached = λ P p top ne.
            (let same : p.epoch ≡ l.epoch = (let now = elections in omega arith) in
            let leader : g.leader p.epoch ≡ n = ap g.leader same ∙ kept.1 in
            let within = subst (λ (j : ℕ). (z : Leading) → (w.nodes j).mode ≡ Leads z → z.epoch ≡ p.epoch → end_of P ≤ max (w.nodes j).watermark z.start) leader p.within in
            let made = subst (λ (e : ℕ). Begins P (g.ledger e)) same p.sure.made in
            let f = new_fetched m c P made (within l mode (sym same)) in
            inr (subst (λ (e : ℕ). Fetched w m e P) (sym same) f));
      }

some_is : (x y : List ℕ) → Some x ≡ Some y → x ≡ y
some_is x y e = cc

-- ---- propose: the set is pending, and the proposal is sent

module _ (w : World) (g : History) (t : Sets) (s : WorldIsSound w) (h : IsHeld w g t) (k : IsKept w g) (n : ℕ) (l : Leading) (mode : (w.nodes n).mode ≡ Leads l)
    (isr : List ℕ) (own : IsIn n isr) (asked : (p : Proposal) → Sent w (Proposes p) → IsOfLeader p (g.leader l.epoch) l.epoch → p.known.version ≡ l.version → isr ≡ p.isr)
    (knows : Knows t (record l { pending = Some isr })) (ready : (m : ℕ) → IsIn m isr → IsIn m l.isr ⊎ CaughtUp (w.nodes n).watermark l m) where
  abbrev asking : Leading
  asking = record l { pending = Some isr }

  mode_kept : ModeIsKept g n (w.nodes n).log (Leads l)
  mode_kept = subst (ModeIsKept g n (w.nodes n).log) mode (k.nodes n).mode

  asking_held : LeaderIsHeld w g t (w.nodes n).log asking
  asking_held =
      let old = h.leads n l mode in
      record {
        knows = knows;
        self = old.self;
        own = λ set e. subst (IsIn (g.leader l.epoch)) (some_is isr set e) (subst (λ (j : ℕ). IsIn j isr) (sym mode_kept.1) own);
        asked = λ p q of. ((old.asked p q of).0, λ same. ap Some (asked p q of same));
        begun = old.begun;
        start = old.start;
        fetched = old.fetched;
        reported = old.reported;
      }

  ready_asking : IsReady (w.nodes n).watermark asking
  ready_asking set pending m i =
      elim (ready m (subst (IsIn m) (sym (some_is isr set pending)) i)) [
        | inl old ↦ inl old
        | inr up ↦ inr (record { end = up.end; reported = up.reported; above_mark = up.above_mark; above_start = up.above_start })
      ]

  pub proposes : NodeChange w g t n (record (w.nodes n) { mode = Leads asking })
  proposes =
      let bound_is : bound w n ≡ l.epoch + 1 = ap (mode_bound (elections_of w)) mode in
      let own_kept = own_request w g t s h k n in
      record {
        moves = omega (arith, bound_is);
        within = (let within = (s.nodes n).within in omega (arith, bound_is));
        requests = λ y q from. record {
          reach = (let reach = (own_kept y q from).reach in omega (arith, bound_is));
          kept = λ top P p of. (own_kept y q from).kept (omega (arith, bound_is)) P p of;
        };
        watermark = inl (h.marks n);
        checkpoint = h.checkpoints n;
        leads = λ x e. subst (LeaderIsHeld w g t (w.nodes n).log) (leads_is asking x e) asking_held;
        ready = λ x e. subst (IsReady (w.nodes n).watermark) (leads_is asking x e) ready_asking;
        keeps = omega arith;
        kept = h.kept n;
        still_within = λ x e ep same leads P sure old. (let is = leads_is asking x e in
            subst (λ (y : Leading). end_of P ≤ max (w.nodes n).watermark y.start) is (old l mode (ap (λ (y : Leading). y.epoch) is ∙ same)));
        holds = λ e P i b p had. had;
      }

-- the proposal of a leader whose change is pending
pub proposing : (w : World) (g : History) (t : Sets) → WorldIsSound w → IsHeld w g t → IsKept w g → (n : ℕ) (l : Leading) → (w.nodes n).mode ≡ Leads l → (isr : List ℕ) → l.pending ≡ Some isr
    → Sending w g t (Proposes (proposal n l isr))
proposing w g t s h k n l mode isr pending =
    record {
      requests = λ r e. absurd (let other = ap kind e in omega arith);
      answers = λ a e. absurd (let other = ap kind e in omega arith);
      excused = λ r e. absurd (let other = ap kind e in omega arith);
      proposals = λ p e. subst (ProposalIsHeld w t) (proposed p e) (record {
        leader = record { node = n; epoch = l.epoch };
        named = refl;
        is_in = subst (λ (j : ℕ). IsIn j isr) mode_kept.1 (held.own isr pending);
        first = held.begun.first;
        began = held.begun.began;
        version = (let most = knows_most t l held.knows in let low = h.versions l.epoch in omega arith);
      });
      asked = λ p e m x leads of. subst (λ (q : Proposal). (q.known.version ≤ x.version) × (q.known.version ≡ x.version → x.pending ≡ Some q.isr)) (proposed p e)
          (itself m x leads (subst (λ (q : Proposal). IsOfLeader q (g.leader x.epoch) x.epoch) (sym (proposed p e)) of));
      fits = λ p e same m i.
          (let same_known : known_by n l ≡ w.controller = ap (λ (q : Proposal). q.known) (proposed p e) ∙ same in
          let recorded : w.controller.leader ≡ Some (record { node = n; epoch = l.epoch }) = ap (λ (r : LeaderAndIsr). r.leader) (sym same_known) in
          elim (h.ready n l mode isr pending m (subst (IsIn m) (ap (λ (q : Proposal). q.isr) (sym (proposed p e))) i)) [
            | inl old ↦ member_fit w g t h m (inl (subst (IsIn m) (ap (λ (r : LeaderAndIsr). r.isr) same_known) old))
            | inr up ↦ caught_up_fit w g t s h k n l mode recorded m up
          ]);
      decisions = λ d e. absurd (let other = ap kind e in omega arith);
    }
  where
    held : LeaderIsHeld w g t (w.nodes n).log l
    held = h.leads n l mode

    mode_kept : ModeIsKept g n (w.nodes n).log (Leads l)
    mode_kept = subst (ModeIsKept g n (w.nodes n).log) mode (k.nodes n).mode

    proposed : (p : Proposal) → Proposes (proposal n l isr) ≡ Proposes p → proposal n l isr ≡ p
    proposed p e = cc

    -- no other leader leads in this epoch
    itself : (m : ℕ) (x : Leading) → (w.nodes m).mode ≡ Leads x → IsOfLeader (proposal n l isr) (g.leader x.epoch) x.epoch → (l.version ≤ x.version) × (l.version ≡ x.version → x.pending ≡ Some isr)
    itself m x leads of =
        let other : ModeIsKept g m (w.nodes m).log (Leads x) = subst (ModeIsKept g m (w.nodes m).log) leads (k.nodes m).mode in
        let node : n ≡ g.leader x.epoch = ap (λ (o : Option Leader). option_map_or (λ y. y.node) o 0) of in
        let same : n ≡ m = node ∙ other.1 in
        let is : l ≡ x = leads_is l x (sym mode ∙ ap (λ (j : ℕ). (w.nodes j).mode) same ∙ leads) in
        subst (λ (y : Leading). (l.version ≤ y.version) × (l.version ≡ y.version → y.pending ≡ Some isr)) is (omega arith, λ e. pending)

-- ---- learn

-- the record has this epoch
pub epoch_of : (r : LeaderAndIsr) (epoch : ℕ) → has_epoch r (Some epoch) ≡ true → (y : Leader) × (r.leader ≡ Some y) × (y.epoch ≡ epoch)
epoch_of r epoch e = by_leader r.leader refl e
  where
    by_leader : (o : Option Leader) → r.leader ≡ o → option_map_or (λ y. option_eq ◌==◌ (Some y.epoch) (Some epoch)) o false ≡ true → (y : Leader) × (r.leader ≡ Some y) × (y.epoch ≡ epoch)
    by_leader None is t = absurd (false≢true t)
    by_leader (Some y) is t = (y, is, eqb-true y.epoch epoch t)

module _ (w : World) (g : History) (t : Sets) (s : WorldIsSound w) (h : IsHeld w g t) (k : IsKept w g) (n : ℕ) (l : Leading) (mode : (w.nodes n).mode ≡ Leads l)
    (d : Decision) (sent : Sent w (Decides d)) (has : has_epoch d.decided (Some l.epoch) ≡ true) (news : l.version < d.decided.version) where
  abbrev learned : Leading
  learned = record l { isr = d.decided.isr; version = d.decided.version; pending = None }

  -- the change that the leader asked for has been made
  record Made : Type 0 where
    version : d.decided.version ≡ t.version l.epoch
    isr : d.decided.isr ≡ t.members l.epoch
    pending : l.pending ≡ Some (t.members l.epoch)

  made : Made
  made =
      let y = epoch_of d.decided l.epoch has in
      let was = h.decisions d sent y.0 y.1 in
      let most : d.decided.version ≤ t.version l.epoch = subst (λ (e : ℕ). d.decided.version ≤ t.version e) y.2 was.version in
      elim (h.leads n l mode).knows [
        | inl now ↦ absurd (let same = now.0 in omega arith)
        | inr next ↦
            (let same = next.0 in
            let version : d.decided.version ≡ t.version l.epoch = omega arith in
            record {
              version = version;
              isr = was.members (version ∙ ap t.version (sym y.2)) ∙ ap t.members y.2;
              pending = next.1;
            })
      ]

  none_set : (set : List ℕ) → None ≡ Some set → ⊥
  none_set set e = false≢true (ap is_some e)

  learned_held : LeaderIsHeld w g t (w.nodes n).log learned
  learned_held =
      let old = h.leads n l mode in
      record {
        knows = inl (made.version, made.isr);
        self = subst (IsIn (g.leader l.epoch)) (sym made.isr) (old.own (t.members l.epoch) made.pending);
        own = λ set e. absurd (none_set set e);
        asked = λ p q of. (let low = (old.asked p q of).0 in (omega arith, λ same. absurd (omega arith)));
        begun = old.begun;
        start = old.start;
        fetched = old.fetched;
        reported = old.reported;
      }

  pub learns : NodeChange w g t n (record (w.nodes n) { mode = Leads learned })
  learns =
      let bound_is : bound w n ≡ l.epoch + 1 = ap (mode_bound (elections_of w)) mode in
      let own_kept = own_request w g t s h k n in
      record {
        moves = omega (arith, bound_is);
        within = (let within = (s.nodes n).within in omega (arith, bound_is));
        requests = λ y q from. record {
          reach = (let reach = (own_kept y q from).reach in omega (arith, bound_is));
          kept = λ top P p of. (own_kept y q from).kept (omega (arith, bound_is)) P p of;
        };
        watermark = inl (h.marks n);
        checkpoint = h.checkpoints n;
        leads = λ x e. subst (LeaderIsHeld w g t (w.nodes n).log) (leads_is learned x e) learned_held;
        ready = λ x e set pending. absurd (none_set set (ap (λ (y : Leading). y.pending) (leads_is learned x e) ∙ pending));
        keeps = omega arith;
        kept = h.kept n;
        still_within = λ x e ep same leads P sure old. (let is = leads_is learned x e in
            subst (λ (y : Leading). end_of P ≤ max (w.nodes n).watermark y.start) is (old l mode (ap (λ (y : Leading). y.epoch) is ∙ same)));
        holds = λ e P i b p had. had;
      }
