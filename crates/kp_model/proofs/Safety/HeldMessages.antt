-- Messages that are sent keep what is held.
use Rattle.std.proofs.Common.{◌≡◌, ◌⊎◌, ℕ, zero, suc, ◌+◌, ◌<◌, ◌≤◌, List, [], ◌∷◌, ◌++◌, Option, Some, None, refl, sym, ap, ◌∙◌, subst, arith, inl, inr}
use Rattle.std.specs.Prelude.{slice_get, slice_index_or, slice_set, max, unwrap_or}
use Rattle.std.proofs.lemmas.Bool.{cases_lt}
use Rattle.kp_model.specs.Beginning.{Begins}
use Rattle.kp_model.specs.Log.{Batch, end_of}
use Rattle.kp_model.specs.World.{Leading, Following, Leads, Follows, Node, Request, Answer, Message, Asks, Answers, World, with_message, report_of, Proposal, Decision, Proposes, Decides}
use Rattle.kp_model.specs.Fetching.{asked, answer, reporting}
use Rattle.kp_model.proofs.OneStep.Steps.{get_front}
use Rattle.kp_model.proofs.Kinship.SoundLogs.{mode_bound, elections_of, WorldIsSound}
use Rattle.kp_model.proofs.Kinship.Kin.{History, IsKept, ModeIsKept}
use Rattle.kp_model.proofs.Safety.Held.{Sets, bound, Sent, Fetched, Reached, IsPossible, HasPassed, IsCommitted, IsMark, RequestIsHeld, AnswerIsHeld, LeaderIsHeld, IsHeld, IsIn, IsMember, IsFit, IsOfLeader, IsReady, ProposalIsHeld, DecisionIsHeld, RecordWasHeld, member_fit}
use Rattle.kp_model.proofs.Safety.HeldNodes.{NodeChange, fetched_in, sure_in, reached_in}
use Rattle.kp_model.proofs.Safety.HeldSteps.{shorter_by_end, own_request, leads_is}

-- ---- what was sent stays sent

get_cases : {A : Type 0} (xs : List A) (y : A) (i : ℕ) (x : A) → slice_get (xs ++ y ∷ []) i ≡ Some x → (slice_get xs i ≡ Some x) ⊎ (y ≡ x)
get_cases [] y zero x e = inr cc
get_cases [] y (suc i) x e = absurd cc
get_cases (z ∷ zs) y zero x e = inl e
get_cases (z ∷ zs) y (suc i) x e = get_cases zs y i x e

pub sent_later : (w : World) (m x : Message) → Sent w x → Sent (with_message w m) x
sent_later w m x s = (s.0, get_front w.messages (m ∷ []) s.0 x s.1)

pub sent_cases : (w : World) (m x : Message) → Sent (with_message w m) x → Sent w x ⊎ (m ≡ x)
sent_cases w m x s = elim (get_cases w.messages m s.0 x s.1) [ inl old ↦ inl (s.0, old) | inr new ↦ inr new ]

-- which message it is, a request, an answer, a proposal or another
abbrev pub kind : Message → ℕ
kind (Asks r) = 0
kind (Answers a) = 1
kind (Proposes p) = 2
kind _ = 3

pub record Sending (w : World) (g : History) (t : Sets) (m : Message) : Type 0 where
  pub requests : (r : Request) → m ≡ Asks r → RequestIsHeld (elections_of w) g t r (w.nodes r.from)
  pub answers : (a : Answer) → m ≡ Answers a → AnswerIsHeld w g t a
  pub excused : (r : Request) → m ≡ Asks r → bound w r.from ≤ r.epoch + 1
  pub proposals : (p : Proposal) → m ≡ Proposes p → ProposalIsHeld w t p
  pub asked : (p : Proposal) → m ≡ Proposes p → (n : ℕ) (l : Leading) → (w.nodes n).mode ≡ Leads l → IsOfLeader p (g.leader l.epoch) l.epoch
      → (p.known.version ≤ l.version) × (p.known.version ≡ l.version → l.pending ≡ Some p.isr)
  pub fits : (p : Proposal) → m ≡ Proposes p → p.known ≡ w.controller → (x : ℕ) → IsIn x p.isr → IsFit w g t x
  pub decisions : (d : Decision) → m ≡ Decides d → DecisionIsHeld w g t d

module _ (w : World) (g : History) (t : Sets) (h : IsHeld w g t) (m : Message) (c : Sending w g t m) where
  member_sent : (x : ℕ) → IsMember (with_message w m) x → IsFit w g t x
  member_sent x i =
      elim i [
        | inl in_set ↦ member_fit w g t h x (inl in_set)
        | inr live ↦
            elim (sent_cases w m (Proposes (live.0)) live.1) [
              | inl old ↦ member_fit w g t h x (inr (live.0, old, live.2, live.3))
              | inr new ↦ c.fits live.0 new live.2 x live.3
            ]
      ]

  pub committed_sent : (P : List Batch) → IsCommitted w g t P → IsCommitted (with_message w m) g t P
  committed_sent P p =
      record {
        epoch = p.epoch;
        sure = sure_in w (with_message w m) g t p.epoch P (λ r s. sent_later w m (Asks r) s) p.sure;
        live = λ x i top ne. reached_in w (with_message w m) x p.epoch P (λ r s. sent_later w m (Asks r) s) ((member_sent x (inr i)).reached P p top ne);
        within = p.within;
      }

  pub epoch_sent : (P : List Batch) (p : IsCommitted w g t P) → (committed_sent P p).epoch ≡ p.epoch
  unfolding committed_sent
  epoch_sent P p = refl

  mark_sent : (log : List Batch) (offset : ℕ) → IsMark w g t log offset → IsMark (with_message w m) g t log offset
  mark_sent log offset p = record { list = p.list; begins = p.begins; ends = p.ends; committed = committed_sent p.list p.committed }

  answer_sent : (a : Answer) → AnswerIsHeld w g t a → AnswerIsHeld (with_message w m) g t a
  answer_sent a p = record { begun = p.begun; recent = p.recent; mark = mark_sent a.log a.watermark p.mark }

  passed_sent : (e : ℕ) → HasPassed w t e → HasPassed (with_message w m) t e
  passed_sent e p = record { member = p.member; is_in = p.is_in; moved = p.moved }

  before_sent : (e : ℕ) (P : List Batch) → IsPossible (with_message w m) g t e P → IsPossible w g t e P
  before_sent e P p = record { made = p.made; each = λ x i ne. elim (p.each x i ne) [ inl r ↦ elim r [ inl empty ↦ inl (inl empty) | inr f ↦ was x f ] | inr b ↦ inr b ] }
    where
      was : (x : ℕ) → Fetched (with_message w m) x e P → Reached w x e P ⊎ (bound w x ≤ e + 1)
      was x f =
          elim (sent_cases w m (Asks f.request) f.sent) [
            | inl old ↦ inl (inr (record { request = f.request; sent = old; from = f.from; epoch = f.epoch; begins = f.begins }))
            | inr new ↦
                (let free = c.excused f.request new in
                let epoch = f.epoch in
                inr (subst (λ (j : ℕ). bound w j ≤ e + 1) f.from (omega arith)))
          ]

  pub sent_held : IsHeld (with_message w m) g t
  sent_held =
      record {
        requests = λ r s. elim (sent_cases w m (Asks r) s) [ inl old ↦ h.requests r old | inr new ↦ c.requests r new ];
        answers = λ a s. elim (sent_cases w m (Answers a) s) [ inl old ↦ answer_sent a (h.answers a old) | inr new ↦ answer_sent a (c.answers a new) ];
        marks = λ n. mark_sent (w.nodes n).log (w.nodes n).watermark (h.marks n);
        checkpoints = λ n. mark_sent (w.nodes n).log (w.nodes n).checkpoint (h.checkpoints n);
        leads = λ n l e. (let p = h.leads n l e in record {
          knows = p.knows;
          self = p.self;
          own = p.own;
          asked = λ q i of. elim (sent_cases w m (Proposes q) i) [ inl old ↦ p.asked q old of | inr new ↦ c.asked q new n l e of ];
          begun = p.begun;
          start = p.start;
          fetched = λ x r q P b d. fetched_in w (with_message w m) x l.epoch P (λ y s. sent_later w m (Asks y) s) (p.fetched x r q P b d);
          reported = p.reported;
        });
        ready = h.ready;
        record_is = λ l e. record { members = (h.record_is l e).members; version = (h.record_is l e).version; leader = (h.record_is l e).leader };
        proposals = λ p s. (let old : ProposalIsHeld w t p = elim (sent_cases w m (Proposes p) s) [ inl q ↦ h.proposals p q | inr new ↦ c.proposals p new ] in
            record { leader = old.leader; named = old.named; is_in = old.is_in; first = old.first; began = old.began; version = old.version });
        decisions = λ d s l e. (let old : RecordWasHeld w g t d.decided l = elim (sent_cases w m (Decides d) s) [ inl q ↦ h.decisions d q l e | inr new ↦ c.decisions d new l e ] in
            record { leader = old.leader; elected = old.elected; version = old.version; members = old.members });
        versions = h.versions;
        kept = h.kept;
        led_kept = h.led_kept;
        begun = h.begun;
        not_begun = h.not_begun;
        later = h.later;
        joined = λ x e i. (member_sent x i).joined e;
        passed_begun = λ e e' first o lt. passed_sent e (h.passed_begun e e' first o lt);
        passed_member = λ x e i moved. passed_sent e ((member_sent x i).passed e moved);
        leaders_hold = λ e e' first P o lt p. h.leaders_hold e e' first P o lt (before_sent e P p);
        members_hold = λ x e P i moved p. (member_sent x i).holds e P moved (before_sent e P p);
      }

-- ---- ask
pub asks : (w : World) (g : History) (t : Sets) → IsHeld w g t → (n : ℕ) (f : Following) → (w.nodes n).mode ≡ Follows f → Sending w g t (Asks (asked n (w.nodes n) f))
asks w g t h n f mode =
    let bound_is : bound w n ≡ f.epoch + 1 = ap (mode_bound (elections_of w)) mode in
    let new : RequestIsHeld (elections_of w) g t (asked n (w.nodes n) f) (w.nodes n) = record { reach = omega (arith, bound_is); kept = λ top P p of. p } in
    record {
      requests = λ r e. (let same : asked n (w.nodes n) f ≡ r = cc in subst (λ (q : Request). RequestIsHeld (elections_of w) g t q (w.nodes q.from)) same new);
      answers = λ a e. absurd (let other = ap kind e in omega arith);
      excused = λ r e. (let same : asked n (w.nodes n) f ≡ r = cc in subst (λ (q : Request). bound w q.from ≤ q.epoch + 1) same (omega (arith, bound_is)));
      proposals = λ p e. absurd (let other = ap kind e in omega arith);
      asked = λ p e. absurd (let other = ap kind e in omega arith);
      fits = λ p e. absurd (let other = ap kind e in omega arith);
      decisions = λ d e. absurd (let other = ap kind e in omega arith);
    }

-- ---- serve: the report, then the answer
set_keeps : (xs : List (Option ℕ)) (i m new v : ℕ) → slice_index_or xs m None ≡ Some v
    → (slice_index_or (slice_set xs i (Some new)) m None ≡ Some v) ⊎ ((m ≡ i) × (slice_index_or (slice_set xs i (Some new)) m None ≡ Some new))
set_keeps [] i m new v e = inl e
set_keeps (x ∷ xs) zero zero new v e = inr (refl, refl)
set_keeps (x ∷ xs) zero (suc m) new v e = inl e
set_keeps (x ∷ xs) (suc i) zero new v e = inl e
set_keeps (x ∷ xs) (suc i) (suc m) new v e = elim (set_keeps xs i m new v e) [ inl old ↦ inl old | inr here ↦ inr (ap suc here.0, here.1) ]

-- a report is the new one of its node, or an old one
pub set_cases : (xs : List (Option ℕ)) (i m : ℕ) (new : Option ℕ) (v : ℕ) → slice_index_or (slice_set xs i new) m None ≡ Some v → ((m ≡ i) × (new ≡ Some v)) ⊎ (slice_index_or xs m None ≡ Some v)
set_cases [] i m new v e = inr e
set_cases (x ∷ xs) zero zero new v e = inl (refl, e)
set_cases (x ∷ xs) zero (suc m) new v e = inr e
set_cases (x ∷ xs) (suc i) zero new v e = inr e
set_cases (x ∷ xs) (suc i) (suc m) new v e = elim (set_cases xs i m new v e) [ inl here ↦ inl (ap suc here.0, here.1) | inr old ↦ inr old ]

module _ (w : World) (g : History) (t : Sets) (s : WorldIsSound w) (h : IsHeld w g t) (k : IsKept w g) (n : ℕ) (l : Leading) (mode : (w.nodes n).mode ≡ Leads l) (r : Request) (sent : Sent w (Asks r)) (epoch : r.epoch ≡ l.epoch) where
  -- the request's log begins the leader's: the report is lifted
  module _ (begins : Begins r.log (w.nodes n).log) where
    kept_now : ModeIsKept g n (w.nodes n).log (Leads l)
    kept_now = subst (ModeIsKept g n (w.nodes n).log) mode (k.nodes n).mode

    made_by : Begins r.log (g.ledger l.epoch)
    made_by = subst (Begins r.log) kept_now.0 begins

    fetched_by : (m v : ℕ) (P : List Batch) → Begins P (g.ledger l.epoch) → end_of P ≤ v → report_of (reporting l r.from (end_of r.log)) m ≡ Some v → Fetched w m l.epoch P
    fetched_by m v P q e is =
        elim (set_cases l.reported r.from m (Some (max (unwrap_or (report_of l r.from) 0) (end_of r.log))) v is) [
          | inr old ↦ (h.leads n l mode).fetched m v old P q e
          | inl new ↦
              (let given = new.1 in
              let value : max (unwrap_or (report_of l r.from) 0) (end_of r.log) ≡ v = cc in
              subst (λ (j : ℕ). Fetched w j l.epoch P) (sym new.0)
              (elim (cases_lt (end_of r.log) (end_of P)) [
                | inl more ↦ by_old (report_of l r.from) refl more (omega arith)
                | inr less ↦ record { request = r; sent = sent; from = refl; epoch = epoch; begins = shorter_by_end P r.log (g.ledger l.epoch) (k.logs l.epoch) q made_by less }
              ]))
        ]
      where
        by_old : (o : Option ℕ) → report_of l r.from ≡ o → end_of r.log < end_of P → end_of P ≤ max (unwrap_or o 0) (end_of r.log) → Fetched w r.from l.epoch P
        by_old None x more y = absurd (omega arith)
        by_old (Some u) x more y = (h.leads n l mode).fetched r.from u x P q (omega arith)

    reported_by : (m v : ℕ) → report_of (reporting l r.from (end_of r.log)) m ≡ Some v → (P : List Batch) × Begins P (g.ledger l.epoch) × (end_of P ≡ v)
    reported_by m v is =
        elim (set_cases l.reported r.from m (Some (max (unwrap_or (report_of l r.from) 0) (end_of r.log))) v is) [
          | inr old ↦ (h.leads n l mode).reported m v old
          | inl new ↦
              (let given = new.1 in
              let value : max (unwrap_or (report_of l r.from) 0) (end_of r.log) ≡ v = cc in
              by_old (report_of l r.from) refl made_by value)
        ]
      where
        by_old : (o : Option ℕ) → report_of l r.from ≡ o → Begins r.log (g.ledger l.epoch) → max (unwrap_or o 0) (end_of r.log) ≡ v → (P : List Batch) × Begins P (g.ledger l.epoch) × (end_of P ≡ v)
        by_old None x p y = (r.log, p, omega arith)
        by_old (Some u) x p y =
            elim (cases_lt u (end_of r.log)) [
              | inl lower ↦ (r.log, p, omega arith)
              | inr upper ↦ (let old = (h.leads n l mode).reported r.from u x in (old.0, old.1, (let ends = old.2 in omega arith)))
            ]

    abbrev after : Leading
    after = reporting l r.from (end_of r.log)

    abbrev pub lifted : Node
    lifted = record (w.nodes n) { mode = Leads after }

    after_held : LeaderIsHeld w g t (w.nodes n).log after
    after_held =
        let old = h.leads n l mode in
        record { knows = old.knows; self = old.self; own = old.own; asked = old.asked; begun = old.begun; start = old.start; fetched = λ m v is P q e. fetched_by m v P q e is; reported = λ m v is. reported_by m v is }

    -- what a node reported before, it has reported still, or more
    ready_after : IsReady (w.nodes n).watermark after
    ready_after set pending m i =
        elim (h.ready n l mode set pending m i) [
          | inl old ↦ inl old
          | inr up ↦
              elim (set_keeps l.reported r.from m (max (unwrap_or (report_of l r.from) 0) (end_of r.log)) up.end up.reported) [
                | inl same ↦ inr (record { end = up.end; reported = same; above_mark = up.above_mark; above_start = up.above_start })
                | inr new ↦
                    (let reported : report_of l r.from ≡ Some up.end = ap (report_of l) (sym new.0) ∙ up.reported in
                    let value = ap (λ (o : Option ℕ). unwrap_or o 0) reported in
                    let a = up.above_mark in
                    let b = up.above_start in
                    inr (record { end = max (unwrap_or (report_of l r.from) 0) (end_of r.log); reported = new.1; above_mark = omega arith; above_start = omega arith }))
              ]
        ]

    pub lifts : NodeChange w g t n lifted
    lifts =
        let bound_is : bound w n ≡ l.epoch + 1 = ap (mode_bound (elections_of w)) mode in
        let own = own_request w g t s h k n in
        record {
          moves = omega (arith, bound_is);
          within = (let within = (s.nodes n).within in omega (arith, bound_is));
          requests = λ y q from. record {
            reach = (let reach = (own y q from).reach in omega (arith, bound_is));
            kept = λ top P p of. (own y q from).kept (omega (arith, bound_is)) P p of;
          };
          watermark = inl (h.marks n);
          checkpoint = h.checkpoints n;
          leads = λ x e. subst (LeaderIsHeld w g t (w.nodes n).log) (leads_is after x e) after_held;
          ready = λ x e. subst (IsReady (w.nodes n).watermark) (leads_is after x e) ready_after;
          keeps = omega arith;
          kept = h.kept n;
          still_within = λ x e ep same leads P sure old. (let is = leads_is after x e in
              subst (λ (y : Leading). end_of P ≤ max (w.nodes n).watermark y.start) is (old l mode (ap (λ (y : Leading). y.epoch) is ∙ same)));
          holds = λ e P i b p had. had;
        }

  -- the answer that is sent then, in a world with all that is committed in this one
  pub answering : (v : World) → ((P : List Batch) → IsCommitted w g t P → IsCommitted v g t P) → Sending v g t (Answers (answer (w.nodes n) r))
  answering v committed =
      let a : Answer = answer (w.nodes n) r in
      let kept : ModeIsKept g n (w.nodes n).log (Leads l) = subst (ModeIsKept g n (w.nodes n).log) mode (k.nodes n).mode in
      let whole : g.ledger r.epoch ≡ (w.nodes n).log = ap g.ledger epoch ∙ sym kept.0 in
      let begun = (h.leads n l mode).begun in
      let mark = h.marks n in
      let new : AnswerIsHeld v g t a = record {
        begun = record { first = begun.first; began = ap t.began epoch ∙ begun.began; begins = begun.begins };
        recent = λ Q p b. subst (Begins Q) whole b;
        mark = record { list = mark.list; begins = mark.begins; ends = mark.ends; committed = committed mark.list mark.committed };
      } in
      record {
        requests = λ y e. absurd (let other = ap kind e in omega arith);
        answers = λ y e. (let same : a ≡ y = cc in subst (AnswerIsHeld v g t) same new);
        excused = λ y e. absurd (let other = ap kind e in omega arith);
        proposals = λ p e. absurd (let other = ap kind e in omega arith);
        asked = λ p e. absurd (let other = ap kind e in omega arith);
        fits = λ p e. absurd (let other = ap kind e in omega arith);
        decisions = λ d e. absurd (let other = ap kind e in omega arith);
      }
