-- The steps of one node keep what is held.
use Rattle.std.proofs.Common.{◌≡◌, ◌⊎◌, ℕ, ◌+◌, ◌≤◌, Bool, true, false, List, [], ◌∷◌, ◌++◌, Some, sym, ap, ◌∙◌, subst, append-nil, arith, inl, inr, Option}
use Rattle.std.specs.Prelude.{max, is_some}
use Rattle.std.proofs.lemmas.Bool.{cases_lt, false≢true}
use Rattle.kp_model.specs.Beginning.{Begins, IsCommonBeginning}
use Rattle.kp_model.specs.Log.{Batch, end_of, IsLog}
use Rattle.kp_model.specs.World.{Leader, Leading, Following, Mode, Down, Idle, Leads, Follows, Request, Answer, Asks, Answers, World, with_node}
use Rattle.kp_model.specs.Controller.{next_epoch}
use Rattle.kp_model.specs.Effect.{is_down}
use Rattle.kp_model.specs.Fetching.{piece, grown, mark_taken}
use Rattle.kp_model.proofs.Plain.Beginnings.{Begins-refl, Begins-trans, Begins-append, Begins-agree}
use Rattle.kp_model.proofs.Plain.Logs.{end_of-append, end_of-cons, Follow-rest, IsLog-begins}
use Rattle.kp_model.proofs.Kinship.SoundLogs.{mode_bound, elections_of, WorldIsSound}
use Rattle.kp_model.proofs.Kinship.Kin.{History, IsKept, Expects}
use Rattle.kp_model.proofs.Safety.Held.{Sets, IsReady, kept_bound, Sent, IsCommitted, IsMark, IsOf, RequestIsHeld, IsHeld, answer_has, cut_holds, committed_begins}
use Rattle.kp_model.proofs.Safety.HeldNodes.{NodeChange}

pub down_leads : (l : Leading) → Down ≡ Leads l → ⊥
down_leads l e = false≢true (sym (ap is_down e))

abbrev pub leads_test : Mode → Bool
leads_test Down = false
leads_test Idle = false
leads_test (Leads l) = true
leads_test (Follows f) = false

abbrev idle_test : Mode → Bool
idle_test Down = false
idle_test Idle = true
idle_test (Leads l) = false
idle_test (Follows f) = false

pub leads_is : (x y : Leading) → Leads x ≡ Leads y → x ≡ y
leads_is x y e = cc

pub follows_leads : (f : Following) (l : Leading) → Follows f ≡ Leads l → ⊥
follows_leads f l e = false≢true (ap leads_test e)

pub idle_leads : (l : Leading) → Idle ≡ Leads l → ⊥
idle_leads l e = false≢true (sym (ap idle_test e))

module _ (w : World) (g : History) (t : Sets) (s : WorldIsSound w) (h : IsHeld w g t) (k : IsKept w g) (n : ℕ) where
  -- what was asked in the last possible epoch
  squeezed : (r : Request) → Sent w (Asks r) → r.from ≡ n → r.epoch + 1 ≡ elections_of w → (P : List Batch) → Begins P r.log → IsOf g t r.epoch P → Begins P (w.nodes n).log
  squeezed r q from top =
      let held : RequestIsHeld (elections_of w) g t r (w.nodes n) = subst (λ (j : ℕ). RequestIsHeld (elections_of w) g t r (w.nodes j)) from (h.requests r q) in
      let reach = held.reach in
      let within = (s.nodes n).within in
      held.kept (omega arith)

  pub own_request : (r : Request) → Sent w (Asks r) → r.from ≡ n → RequestIsHeld (elections_of w) g t r (w.nodes n)
  own_request r q from = subst (λ (j : ℕ). RequestIsHeld (elections_of w) g t r (w.nodes j)) from (h.requests r q)

  -- ---- stop, and a take that memory cut short: the node is down with a log that has the old one
  pub goes_down : (log : List Batch) (kept : Option ℕ) → Begins (w.nodes n).log log → kept_bound (w.nodes n).kept ≤ kept_bound kept → kept_bound kept ≤ elections_of w
      → NodeChange w g t n (record (w.nodes n) { log = log; kept = kept; mode = Down })
  goes_down log kept longer more top =
      record {
        moves = (s.nodes n).within;
        within = omega arith;
        requests = λ r q from. record {
          reach = (let reach = (own_request r q from).reach in let within = (s.nodes n).within in omega arith);
          kept = λ top P p made. Begins-trans (squeezed r q from top P p made) longer;
        };
        watermark = inl (record { list = (h.marks n).list; begins = Begins-trans (h.marks n).begins longer; ends = (h.marks n).ends; committed = (h.marks n).committed });
        checkpoint = record { list = (h.checkpoints n).list; begins = Begins-trans (h.checkpoints n).begins longer; ends = (h.checkpoints n).ends; committed = (h.checkpoints n).committed };
        leads = λ l e. absurd (down_leads l e);
        ready = λ l e. absurd (down_leads l e);
        keeps = more;
        kept = top;
        still_within = λ l e. absurd (down_leads l e);
        holds = λ e P i b p had. Begins-trans had longer;
      }

  -- ---- restart
  pub restarts : NodeChange w g t n (record (w.nodes n) { watermark = (w.nodes n).checkpoint; life = (w.nodes n).life + 1; mode = Idle })
  restarts =
      record {
        moves = (s.nodes n).within;
        within = omega arith;
        requests = λ r q from. record {
          reach = (let reach = (own_request r q from).reach in let within = (s.nodes n).within in omega arith);
          kept = λ top P p made. squeezed r q from top P p made;
        };
        watermark = inl (h.checkpoints n);
        checkpoint = h.checkpoints n;
        leads = λ l e. absurd (idle_leads l e);
        ready = λ l e. absurd (idle_leads l e);
        keeps = omega arith;
        kept = h.kept n;
        still_within = λ l e. absurd (idle_leads l e);
        holds = λ e P i b p had. had;
      }

  -- ---- checkpoint, and a watermark that rises
  pub marks_change : (watermark checkpoint : ℕ) → (w.nodes n).watermark ≤ watermark → (IsMark w g t (w.nodes n).log watermark ⊎ IsMark (with_node w n (record (w.nodes n) { watermark = watermark; checkpoint = checkpoint })) g t (w.nodes n).log watermark)
      → IsMark w g t (w.nodes n).log checkpoint → ((l : Leading) → (w.nodes n).mode ≡ Leads l → IsReady watermark l)
      → NodeChange w g t n (record (w.nodes n) { watermark = watermark; checkpoint = checkpoint })
  marks_change watermark checkpoint rises p q ready =
      record {
        moves = omega arith;
        within = (s.nodes n).within;
        requests = λ r y from. record {
          reach = (own_request r y from).reach;
          kept = (own_request r y from).kept;
        };
        watermark = p;
        checkpoint = q;
        leads = h.leads n;
        ready = ready;
        keeps = omega arith;
        kept = h.kept n;
        still_within = λ l e epoch ep leads P sure old. (let o = old l e ep in omega arith);
        holds = λ e P i b y had. had;
      }

  -- ---- adopt: the node follows the record's leader
  pub follows_now : (l : Leader) (f : Following) → w.controller.leader ≡ Some l → f.epoch ≡ l.epoch → NodeChange w g t n (record (w.nodes n) { kept = Some l.epoch; mode = Follows f })
  follows_now l f e epoch =
      let elections : elections_of w ≡ l.epoch + 1 = ap next_epoch e in
      record {
        moves = (let within = (s.nodes n).within in omega arith);
        within = omega arith;
        requests = λ r q from. record {
          reach = (let reach = (own_request r q from).reach in let within = (s.nodes n).within in omega arith);
          kept = λ top P p made. squeezed r q from (omega arith) P p made;
        };
        watermark = inl (h.marks n);
        checkpoint = h.checkpoints n;
        leads = λ x m. absurd (follows_leads f x m);
        ready = λ x m. absurd (follows_leads f x m);
        keeps = (let old = h.kept n in omega arith);
        kept = omega arith;
        still_within = λ x m. absurd (follows_leads f x m);
        holds = λ ep P i b p had. had;
      }

-- ---- ends of beginnings of one log

pub shorter_by_end : (P L whole : List Batch) → IsLog whole → Begins P whole → Begins L whole → end_of P ≤ end_of L → Begins P L
shorter_by_end P L whole log p q ends =
    elim (Begins-agree p q) [
      | inl r ↦ r
      | inr r ↦ by_rest r.rest r.is
    ]
  where
    by_rest : (rest : List Batch) → L ++ rest ≡ P → Begins P L
    by_rest [] is = record { rest = []; is = append-nil P ∙ sym is ∙ append-nil L }
    by_rest (b ∷ bs) is =
        let tail = Follow-rest 0 0 L (b ∷ bs) (subst IsLog (sym is) (IsLog-begins p log)) in
        let wide = tail.2.some in
        absurd (omega (arith, end_of-append L (b ∷ bs), end_of-cons b bs, ap end_of is))

module _ (w : World) (g : History) (t : Sets) (s : WorldIsSound w) (h : IsHeld w g t) (k : IsKept w g) (n : ℕ) (a : Answer) (sent : Sent w (Answers a)) where
  -- ---- an answer with batches is taken
  pub takes : (f : Following) → Expects (w.nodes n) a f → Begins (grown (w.nodes n) a) (g.ledger f.epoch) → Begins a.log (g.ledger f.epoch)
      → NodeChange w g t n (record (w.nodes n) { log = grown (w.nodes n) a; watermark = max (w.nodes n).watermark (mark_taken (w.nodes n) a) })
  takes f x made answer =
      let longer : Begins (w.nodes n).log (grown (w.nodes n) a) = Begins-append (w.nodes n).log (piece a.log a.request) in
      let own = own_request w g t s h k n in
      record {
        moves = omega arith;
        within = (s.nodes n).within;
        requests = λ r y from. record {
          reach = (own r y from).reach;
          kept = λ top P p made. Begins-trans ((own r y from).kept top P p made) longer;
        };
        watermark =
            elim (cases_lt (w.nodes n).watermark (mark_taken (w.nodes n) a)) [
              | inl higher ↦
                  (let mark = (h.answers a sent).mark in
                  elim (cases_lt (end_of (grown (w.nodes n) a)) a.watermark) [
                    | inl short ↦
                        (let front = shorter_by_end (grown (w.nodes n) a) mark.list (g.ledger f.epoch) (k.logs f.epoch) made (Begins-trans mark.begins answer) (let e = mark.ends in omega arith) in
                        inl (record {
                          list = grown (w.nodes n) a;
                          begins = Begins-refl (grown (w.nodes n) a);
                          ends = omega arith;
                          committed = committed_begins w g t mark.list (grown (w.nodes n) a) front mark.committed;
                        }))
                    | inr all ↦
                        inl (record {
                          list = mark.list;
                          begins = shorter_by_end mark.list (grown (w.nodes n) a) (g.ledger f.epoch) (k.logs f.epoch) (Begins-trans mark.begins answer) made (let e = mark.ends in omega arith);
                          ends = (let e = mark.ends in omega arith);
                          committed = mark.committed;
                        })
                  ])
              | inr lower ↦
                  inl (record { list = (h.marks n).list; begins = Begins-trans (h.marks n).begins longer; ends = (let e = (h.marks n).ends in omega arith); committed = (h.marks n).committed })
            ];
        checkpoint = record { list = (h.checkpoints n).list; begins = Begins-trans (h.checkpoints n).begins longer; ends = (h.checkpoints n).ends; committed = (h.checkpoints n).committed };
        leads = λ l e. absurd (follows_leads f l (sym x.is ∙ e));
        ready = λ l e. absurd (follows_leads f l (sym x.is ∙ e));
        keeps = omega arith;
        kept = h.kept n;
        still_within = λ l e. absurd (follows_leads f l (sym x.is ∙ e));
        holds = λ e P i b p had. Begins-trans had longer;
      }

  -- ---- a diverging answer cuts
  pub cuts : (f : Following) (left common : List Batch) → (w.nodes n).mode ≡ Follows f → a.request.epoch ≡ f.epoch → a.request.log ≡ (w.nodes n).log → elections_of w ≡ f.epoch + 1
      → Begins left (w.nodes n).log → IsCommonBeginning common (w.nodes n).log a.log → Begins common left
      → NodeChange w g t n (record (w.nodes n) { log = left })
  cuts f left common mode epoch same now shorter c keeps =
      let own = own_request w g t s h k n in
      let held = h.answers a sent in
      let bound_is : mode_bound (elections_of w) (w.nodes n).mode ≡ f.epoch + 1 = ap (mode_bound (elections_of w)) mode in
      let stays = λ (P : List Batch) (p : Begins P (w.nodes n).log) (q : Begins P a.log). cut_holds left (w.nodes n).log a.log common P c keeps p q in
      let asked = λ (P : List Batch) (p : Begins P (w.nodes n).log). subst (Begins P) (sym same) p in
      let has = λ (P : List Batch) (p : IsCommitted w g t P) (q : Begins P (w.nodes n).log). answer_has w g t h k a sent (omega arith) P p (asked P q) in
      let kept_mark = λ (offset : ℕ) (m : IsMark w g t (w.nodes n).log offset).
      mark_on left offset m (stays m.list m.begins (has m.list m.committed m.begins)) in
      record {
        moves = omega arith;
        within = (s.nodes n).within;
        requests = λ r y from. record {
          reach = (own r y from).reach;
          kept = λ top P p of. (let at : r.epoch ≡ a.request.epoch = omega arith in
              let old = (own r y from).kept top P p of in
              elim of [
                | inl made ↦ stays P old (held.recent P (asked P old) (subst (λ (e : ℕ). Begins P (g.ledger e)) at made))
                | inr none ↦ absurd (false≢true (ap is_some (sym none ∙ ap t.began at ∙ held.begun.began)))
              ]);
        };
        watermark = inl (kept_mark (w.nodes n).watermark (h.marks n));
        checkpoint = kept_mark (w.nodes n).checkpoint (h.checkpoints n);
        leads = λ l e. absurd (follows_leads f l (sym mode ∙ e));
        ready = λ l e. absurd (follows_leads f l (sym mode ∙ e));
        keeps = omega arith;
        kept = h.kept n;
        still_within = λ l e. absurd (follows_leads f l (sym mode ∙ e));
        holds = λ e P i b p had.
            stays P had (Begins-trans (h.leaders_hold e a.request.epoch held.begun.first P held.begun.began (omega arith) p) held.begun.begins);
      }
    where
      mark_on : (log : List Batch) (offset : ℕ) (m : IsMark w g t (w.nodes n).log offset) → Begins m.list log → IsMark w g t log offset
      mark_on log offset m p = record { list = m.list; begins = p; ends = m.ends; committed = m.committed }
