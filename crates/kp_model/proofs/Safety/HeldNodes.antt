-- What is held stays held where one node changes.
use Rattle.std.proofs.Common.{◌≡◌, ◌⊎◌, ℕ, ◌+◌, ◌<◌, ◌≤◌, eqb, List, [], Option, Some, None, refl, sym, ap, ◌∙◌, subst, arith, inl, inr}
use Rattle.std.specs.Prelude.{max}
use Rattle.std.proofs.lemmas.Bool.{cases_eq, cases_lt, cond_both, eqb-true}
use Rattle.kp_model.specs.Beginning.{Begins}
use Rattle.kp_model.specs.Log.{Batch, end_of}
use Rattle.kp_model.specs.World.{Leading, Mode, Down, Idle, Leads, Follows, Node, Request, Asks, World, with_node}
use Rattle.kp_model.proofs.Plain.Beginnings.{Begins-nil}
use Rattle.kp_model.proofs.Kinship.SoundLogs.{mode_bound, elections_of, WorldIsSound}
use Rattle.kp_model.proofs.Kinship.Kin.{History, IsKept, ModeIsKept, with_node_each}
use Rattle.kp_model.proofs.Safety.Held.{Sets, IsIn, IsMember, IsReady, kept_bound, bound, Sent, Fetched, Reached, IsSure, IsPossible, HasPassed, IsCommitted, IsMark, RequestIsHeld, LeaderIsHeld, IsHeld, begins_nil}

-- ---- what carries over from one world to another

pub fetched_in : (old new : World) (m e : ℕ) (P : List Batch) → ((r : Request) → Sent old (Asks r) → Sent new (Asks r)) → Fetched old m e P → Fetched new m e P
fetched_in old new m e P s h =
    record { request = h.request; sent = s h.request h.sent; from = h.from; epoch = h.epoch; begins = h.begins }

pub reached_in : (old new : World) (m e : ℕ) (P : List Batch) → ((r : Request) → Sent old (Asks r) → Sent new (Asks r)) → Reached old m e P → Reached new m e P
reached_in old new m e P s r = elim r [ inl empty ↦ inl empty | inr f ↦ inr (fetched_in old new m e P s f) ]

pub sure_in : (old new : World) (g : History) (t : Sets) (e : ℕ) (P : List Batch) → ((r : Request) → Sent old (Asks r) → Sent new (Asks r)) → IsSure old g t e P → IsSure new g t e P
sure_in old new g t e P s h = record { made = h.made; each = λ m i ne. reached_in old new m e P s (h.each m i ne) }

-- what is possible was possible: no one asked, and nodes only move on
pub possible_before : (old new : World) (g : History) (t : Sets) (e : ℕ) (P : List Batch) → ((r : Request) → Sent new (Asks r) → Sent old (Asks r)) → ((m : ℕ) → bound old m ≤ bound new m)
    → IsPossible new g t e P → IsPossible old g t e P
possible_before old new g t e P s b h =
    record {
      made = h.made;
      each = λ m i ne. elim (h.each m i ne) [
        | inl f ↦ inl (reached_in new old m e P s f)
        | inr x ↦ inr (let grown = b m in omega arith)
      ];
    }

-- a member that moves on has what was possible till then
pub moved_holds : (w : World) (g : History) (t : Sets) → IsHeld w g t → IsKept w g → (m e : ℕ) (P : List Batch) → IsMember w m → e + 1 < elections_of w → bound w m ≤ e + 1
    → Begins P (g.ledger e) → (IsIn m (t.members e) → (m ≡ g.leader e → ⊥) → Reached w m e P) → Begins P (w.nodes m).log
moved_holds w g t h k m e P i before here made fetch =
    elim (cases_eq m (g.leader e)) [
      | inr ne ↦
          elim (fetch (h.joined m e i before here) ne) [
            | inl empty ↦ subst (λ (l : List Batch). Begins l (w.nodes m).log) (sym empty) (Begins-nil (w.nodes m).log)
            | inr f ↦
                (let held : RequestIsHeld (elections_of w) g t f.request (w.nodes m) = subst (λ (j : ℕ). RequestIsHeld (elections_of w) g t f.request (w.nodes j)) f.from (h.requests f.request f.sent) in
                let same : f.request.epoch + 1 ≡ bound w m = (let reach = held.reach in let epoch = f.epoch in omega arith) in
                held.kept same P f.begins (inl (subst (λ (j : ℕ). Begins P (g.ledger j)) (sym f.epoch) made)))
          ]
      | inl leads ↦ by_began leads (t.began e) refl
    ]
  where
    by_mode : m ≡ g.leader e → bound w m ≡ e + 1 → (mode : Mode) → (w.nodes m).mode ≡ mode → Begins P (w.nodes m).log
    by_mode leads b Down q = absurd (let c = ap (mode_bound (elections_of w)) q in omega arith)
    by_mode leads b Idle q = absurd (let c = ap (mode_bound (elections_of w)) q in omega arith)
    by_mode leads b (Leads l) q =
        let c = ap (mode_bound (elections_of w)) q in
        let same : l.epoch ≡ e = omega arith in
        let mode : ModeIsKept g m (w.nodes m).log (Leads l) = subst (ModeIsKept g m (w.nodes m).log) q (k.nodes m).mode in
        subst (Begins P) (sym (mode.0 ∙ ap g.ledger same)) made
    by_mode leads b (Follows f) q =
        let c = ap (mode_bound (elections_of w)) q in
        let same : f.epoch ≡ e = omega arith in
        let mode : ModeIsKept g m (w.nodes m).log (Follows f) = subst (ModeIsKept g m (w.nodes m).log) q (k.nodes m).mode in
        absurd (mode (ap g.leader same ∙ sym leads))

    by_began : m ≡ g.leader e → (o : Option (List Batch)) → t.began e ≡ o → Begins P (w.nodes m).log
    by_began leads None o =
        let none : P ≡ [] = begins_nil P (subst (Begins P) (h.not_begun e o) made) in
        subst (λ (l : List Batch). Begins l (w.nodes m).log) (sym none) (Begins-nil (w.nodes m).log)
    by_began leads (Some first) o =
        let reached : e + 1 ≤ bound w m = subst (λ (j : ℕ). e + 1 ≤ bound w j) (sym leads) (h.begun e first o).1 in
        by_mode leads (omega arith) (w.nodes m).mode refl

-- ---- one node changes, and no message is sent

pub record NodeChange (w : World) (g : History) (t : Sets) (n : ℕ) (x : Node) : Type 0 where
  pub moves : bound w n ≤ mode_bound (elections_of w) x.mode
  pub within : mode_bound (elections_of w) x.mode ≤ elections_of w
  pub requests : (r : Request) → Sent w (Asks r) → r.from ≡ n → RequestIsHeld (elections_of w) g t r x
  pub watermark : IsMark w g t x.log x.watermark ⊎ IsMark (with_node w n x) g t x.log x.watermark
  pub checkpoint : IsMark w g t x.log x.checkpoint
  pub leads : (l : Leading) → x.mode ≡ Leads l → LeaderIsHeld w g t x.log l
  pub ready : (l : Leading) → x.mode ≡ Leads l → IsReady x.watermark l
  pub keeps : kept_bound (w.nodes n).kept ≤ kept_bound x.kept
  pub kept : kept_bound x.kept ≤ elections_of w
  pub still_within : (l : Leading) → x.mode ≡ Leads l → (e : ℕ) → l.epoch ≡ e → g.leader e ≡ n → (P : List Batch) → IsSure w g t e P
      → ((old : Leading) → (w.nodes n).mode ≡ Leads old → old.epoch ≡ e → end_of P ≤ max (w.nodes n).watermark old.start) → end_of P ≤ max x.watermark l.start
  pub holds : (e : ℕ) (P : List Batch) → IsMember w n → e + 1 < mode_bound (elections_of w) x.mode → IsPossible w g t e P → Begins P (w.nodes n).log → Begins P x.log

module _ (w : World) (g : History) (t : Sets) (s : WorldIsSound w) (h : IsHeld w g t) (k : IsKept w g) (n : ℕ) (x : Node) (c : NodeChange w g t n x) where
  abbrev new : World
  new = with_node w n x

  bounds : (m : ℕ) → bound w m ≤ bound new m
  bounds m =
      cond_both (eqb m n) x (w.nodes m) (λ (y : Node). bound w m ≤ mode_bound (elections_of w) y.mode)
      (λ e. subst (λ (j : ℕ). bound w j ≤ mode_bound (elections_of w) x.mode) (sym (eqb-true m n e)) c.moves) (λ e. omega arith)

  pub committed_after : (P : List Batch) → IsCommitted w g t P → IsCommitted new g t P
  committed_after P p =
      record {
        epoch = p.epoch;
        sure = sure_in w new g t p.epoch P (λ r s. s) p.sure;
        live = λ m i top ne. reached_in w new m p.epoch P (λ r s. s) (p.live m i top ne);
        within = cond_both (eqb (g.leader p.epoch) n) x (w.nodes (g.leader p.epoch))
            (λ (y : Node). (l : Leading) → y.mode ≡ Leads l → l.epoch ≡ p.epoch → end_of P ≤ max y.watermark l.start)
            (λ e l m s. (let is = eqb-true (g.leader p.epoch) n e in
            c.still_within l m p.epoch s is P p.sure (subst (λ (j : ℕ). (old : Leading) → (w.nodes j).mode ≡ Leads old → old.epoch ≡ p.epoch → end_of P ≤ max (w.nodes j).watermark old.start) is p.within)))
            (λ e. p.within);
      }

  pub epoch_after : (P : List Batch) (p : IsCommitted w g t P) → (committed_after P p).epoch ≡ p.epoch
  unfolding committed_after
  epoch_after P p = refl

  mark_after : (log : List Batch) (offset : ℕ) → IsMark w g t log offset → IsMark new g t log offset
  mark_after log offset p = record { list = p.list; begins = p.begins; ends = p.ends; committed = committed_after p.list p.committed }

  passed_after : (e : ℕ) → HasPassed w t e → HasPassed new t e
  passed_after e p = record { member = p.member; is_in = p.is_in; moved = (let b = bounds p.member in let m = p.moved in omega arith) }

  leader_after : (log : List Batch) (l : Leading) → LeaderIsHeld w g t log l → LeaderIsHeld new g t log l
  leader_after log l p =
      record {
        knows = p.knows;
        self = p.self;
        own = p.own;
        asked = p.asked;
        begun = p.begun;
        start = p.start;
        fetched = λ m r e P q b. fetched_in w new m l.epoch P (λ y s. s) (p.fetched m r e P q b);
        reported = p.reported;
      }

  pub changed_held : IsHeld new g t
  changed_held =
      record {
        requests = λ r q. cond_both (eqb r.from n) x (w.nodes r.from) (RequestIsHeld (elections_of w) g t r) (λ e. c.requests r q (eqb-true r.from n e)) (λ e. h.requests r q);
        answers = λ a q. record {
          begun = (h.answers a q).begun;
          recent = (h.answers a q).recent;
          mark = mark_after a.log a.watermark (h.answers a q).mark;
        };
        marks = with_node_each (λ m y. IsMark new g t y.log y.watermark) w.nodes n x (λ m ne. mark_after (w.nodes m).log (w.nodes m).watermark (h.marks m)) (elim c.watermark [ inl p ↦ mark_after x.log x.watermark p | inr p ↦ p ]);
        checkpoints = with_node_each (λ m y. IsMark new g t y.log y.checkpoint) w.nodes n x (λ m ne. mark_after (w.nodes m).log (w.nodes m).checkpoint (h.checkpoints m)) (mark_after x.log x.checkpoint c.checkpoint);
        leads = with_node_each (λ m y. (l : Leading) → y.mode ≡ Leads l → LeaderIsHeld new g t y.log l) w.nodes n x
            (λ m ne l e. leader_after (w.nodes m).log l (h.leads m l e)) (λ l e. leader_after x.log l (c.leads l e));
        ready = with_node_each (λ m y. (l : Leading) → y.mode ≡ Leads l → IsReady y.watermark l) w.nodes n x (λ m ne. h.ready m) c.ready;
        record_is = λ l e. record { members = (h.record_is l e).members; version = (h.record_is l e).version; leader = (h.record_is l e).leader };
        proposals = λ p q. (let old = h.proposals p q in record { leader = old.leader; named = old.named; is_in = old.is_in; first = old.first; began = old.began; version = old.version });
        decisions = λ d q l e. (let old = h.decisions d q l e in record { leader = old.leader; elected = old.elected; version = old.version; members = old.members });
        versions = h.versions;
        kept = λ m. cond_both (eqb m n) x (w.nodes m) (λ (y : Node). kept_bound y.kept ≤ elections_of w) (λ e. c.kept) (λ e. h.kept m);
        led_kept = λ e first o. (let old = h.led_kept e first o in
            cond_both (eqb (g.leader e) n) x (w.nodes (g.leader e)) (λ (y : Node). e + 1 ≤ kept_bound y.kept)
            (λ q. (let more = c.keeps in let at : e + 1 ≤ kept_bound (w.nodes n).kept = subst (λ (j : ℕ). e + 1 ≤ kept_bound (w.nodes j).kept) (eqb-true (g.leader e) n q) old in omega arith))
            (λ q. old));
        begun = λ e first o. ((h.begun e first o).0, (let b = bounds (g.leader e) in let r = (h.begun e first o).1 in omega arith));
        not_begun = h.not_begun;
        later = h.later;
        joined = λ m e i before here. h.joined m e i before (let b = bounds m in omega arith);
        passed_begun = λ e e' first o lt. passed_after e (h.passed_begun e e' first o lt);
        passed_member = λ m e i moved.
            elim (cases_lt (e + 1) (bound w m)) [
              | inl old ↦ passed_after e (h.passed_member m e i old)
              | inr not ↦ (let top = within_all m in record { member = m; is_in = h.joined m e i (omega arith) not; moved = moved })
            ];
        leaders_hold = λ e e' first P o lt p. h.leaders_hold e e' first P o lt (before e P p);
        members_hold = λ m e P i moved p. holds_each m e P i moved p;
      }
    where
      before : (e : ℕ) (P : List Batch) → IsPossible new g t e P → IsPossible w g t e P
      before e P p = possible_before w new g t e P (λ r s. s) bounds p

      within_all : (m : ℕ) → bound new m ≤ elections_of w
      within_all m =
          cond_both (eqb m n) x (w.nodes m) (λ (y : Node). mode_bound (elections_of w) y.mode ≤ elections_of w) (λ e. c.within) (λ e. (s.nodes m).within)

      had : (m e : ℕ) (P : List Batch) → IsMember w m → e + 1 < bound new m → IsPossible new g t e P → Begins P (w.nodes m).log
      had m e P i moved p =
          elim (cases_lt (e + 1) (bound w m)) [
            | inl old ↦ h.members_hold m e P i old (before e P p)
            | inr not ↦
                (let top = within_all m in
                moved_holds w g t h k m e P i (omega arith) not p.made
                (λ is_in ne. elim (p.each m is_in ne) [ inl f ↦ reached_in new w m e P (λ r s. s) f | inr excused ↦ absurd (omega arith) ]))
          ]

      holds_each : (m e : ℕ) (P : List Batch) → IsMember w m → e + 1 < bound new m → IsPossible new g t e P → Begins P (new.nodes m).log
      holds_each m e P i moved p =
          cond_both (eqb m n) x (w.nodes m) (λ (y : Node). e + 1 < mode_bound (elections_of w) y.mode → Begins P y.log)
          (λ q b. (let is = eqb-true m n q in
          c.holds e P (subst (IsMember w) is i) b (before e P p) (subst (λ (j : ℕ). Begins P (w.nodes j).log) is (had m e P i moved p))))
          (λ q b. had m e P i moved p) moved
