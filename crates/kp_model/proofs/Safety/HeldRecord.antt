-- Elections keep what is held, and what a change of sets and versions keeps.
use Rattle.std.proofs.Common.{◌≡◌, ◌⊎◌, ℕ, ◌+◌, ◌<◌, ◌≤◌, Bool, true, false, cond, eqb, List, [], Option, Some, None, refl, sym, ap, ◌∙◌, subst, arith, inl, inr}
use Rattle.std.specs.Prelude.{max}
use Rattle.std.proofs.lemmas.Bool.{cases_eq, cases_lt, eq-eqb, ne_eqb, false≢true}
use Rattle.kp_model.specs.Beginning.{Begins}
use Rattle.kp_model.specs.Log.{Batch, end_of}
use Rattle.kp_model.specs.World.{Leader, Leading, Mode, Down, Idle, Leads, Follows, World, with_record, LeaderAndIsr}
use Rattle.kp_model.specs.Controller.{elected, next_epoch}
use Rattle.kp_model.proofs.Plain.Beginnings.{Begins-nil, Begins-trans}
use Rattle.kp_model.proofs.Kinship.SoundLogs.{mode_bound, bound_later, elections_of, WorldIsSound}
use Rattle.kp_model.proofs.Kinship.Kin.{History, IsKept, elected_history}
use Rattle.kp_model.proofs.Safety.Held.{Sets, IsIn, bound, Reached, IsPossible, HasPassed, IsCommitted, IsMark, RequestIsHeld, IsHeld, begins_nil, Knows, IsLive, IsMember, IsOfLeader, kept_bound}
use Rattle.kp_model.proofs.Safety.HeldNodes.{reached_in}

abbrev pub with_members : Sets → ℕ → List ℕ → ℕ → Sets
with_members t e set version = record t { members = λ k. cond (eqb k e) set (t.members k); version = λ k. cond (eqb k e) version (t.version k) }

pub members_other : (t : Sets) (e : ℕ) (set : List ℕ) (version k : ℕ) → (k ≡ e → ⊥) → (with_members t e set version).members k ≡ t.members k
members_other t e set version k ne = let there : eqb k e ≡ false = ne_eqb k e ne in rw there refl

pub members_at : (t : Sets) (e : ℕ) (set : List ℕ) (version : ℕ) → (with_members t e set version).members e ≡ set
members_at t e set version = let here : eqb e e ≡ true = eq-eqb e e refl in rw here refl

pub version_other : (t : Sets) (e : ℕ) (set : List ℕ) (version k : ℕ) → (k ≡ e → ⊥) → (with_members t e set version).version k ≡ t.version k
version_other t e set version k ne = let there : eqb k e ≡ false = ne_eqb k e ne in rw there refl

pub version_at : (t : Sets) (e : ℕ) (set : List ℕ) (version : ℕ) → (with_members t e set version).version e ≡ version
version_at t e set version = let here : eqb e e ≡ true = eq-eqb e e refl in rw here refl

pub knows_other : (t : Sets) (e : ℕ) (set : List ℕ) (version : ℕ) (l : Leading) → (l.epoch ≡ e → ⊥) → Knows t l → Knows (with_members t e set version) l
knows_other t e set version l ne (inl now) =
    inl (now.0 ∙ sym (version_other t e set version l.epoch ne), now.1 ∙ sym (members_other t e set version l.epoch ne))
knows_other t e set version l ne (inr next) =
    inr (next.0 ∙ sym (version_other t e set version l.epoch ne), next.1 ∙ ap Some (sym (members_other t e set version l.epoch ne)))

-- no version is above the new one
pub versions_rise : (t : Sets) (e : ℕ) (set : List ℕ) (old version : ℕ) → old ≤ version → ((k : ℕ) → t.version k ≤ old) → (k : ℕ) → (with_members t e set version).version k ≤ version
versions_rise t e set old version less each k =
    elim (cases_eq k e) [
      | inl same ↦ (let at : (with_members t e set version).version k ≡ version = ap (with_members t e set version).version same ∙ version_at t e set version in omega arith)
      | inr ne ↦ (let at = version_other t e set version k ne in let low = each k in omega arith)
    ]

-- ---- elect: a new epoch, with the set as it stands
module _ (w : World) (g : History) (t : Sets) (s : WorldIsSound w) (h : IsHeld w g t) (k : IsKept w g) (n : ℕ) (member : IsIn n w.controller.isr) where
  abbrev pub new_world : World
  new_world = with_record w (elected w.controller n)

  abbrev pub new_history : History
  new_history = elected_history g n (elections_of w)

  abbrev pub new_sets : Sets
  new_sets = with_members t (elections_of w) w.controller.isr (w.controller.version + 1)

  bounds : (m : ℕ) → bound w m ≤ bound new_world m
  bounds m = bound_later (elections_of w) (elections_of w + 1) (w.nodes m).mode (omega arith)

  old_leader : (e : ℕ) → e < elections_of w → new_history.leader e ≡ g.leader e
  old_leader e lt = let there : eqb e (elections_of w) ≡ false = ne_eqb e (elections_of w) (λ (q : e ≡ elections_of w). omega arith) in rw there refl

  old_members : (e : ℕ) → e < elections_of w → new_sets.members e ≡ t.members e
  old_members e lt = members_other t (elections_of w) w.controller.isr (w.controller.version + 1) e (λ (q : e ≡ elections_of w). omega arith)

  -- nothing is made in the new epoch yet
  old_or_nil : (e : ℕ) (P : List Batch) → Begins P (g.ledger e) → (e < elections_of w) ⊎ (P ≡ [])
  old_or_nil e P p =
      elim (cases_lt e (elections_of w)) [
        | inl lt ↦ inl lt
        | inr ge ↦ inr (begins_nil P (subst (Begins P) (k.later e ge) p))
      ]

  -- no proposal is of the new record
  unlive : (m : ℕ) → IsLive new_world m → ⊥
  unlive m i = let old = (h.proposals i.0 i.1).version in let same = ap (λ (r : LeaderAndIsr). r.version) i.2 in omega arith

  -- its sets and versions stay
  old_version : (e : ℕ) → e < elections_of w → new_sets.version e ≡ t.version e
  old_version e lt = version_other t (elections_of w) w.controller.isr (w.controller.version + 1) e (λ (q : e ≡ elections_of w). omega arith)

  possible_old : (e : ℕ) (P : List Batch) → e < elections_of w → IsPossible new_world new_history new_sets e P → IsPossible w g t e P
  possible_old e P lt p =
      record {
        made = p.made;
        each = λ m i ne. elim (p.each m (subst (IsIn m) (sym (old_members e lt)) i) (λ same. ne (same ∙ old_leader e lt))) [
          | inl f ↦ inl (reached_in new_world w m e P (λ r q. q) f)
          | inr b ↦ inr (let grown = bounds m in omega arith)
        ];
      }

  -- what is committed stays so in its epoch; nothing is committed in each
  pub committed_at : (P : List Batch) (p : IsCommitted w g t P) → (c : IsCommitted new_world new_history new_sets P) × ((c.epoch ≡ p.epoch) ⊎ (P ≡ []))
  committed_at P p =
      elim (old_or_nil p.epoch P p.sure.made) [
        | inl lt ↦ (
          record {
            epoch = p.epoch;
            sure = record {
              made = p.sure.made;
              each = λ m i ne. reached_in w new_world m p.epoch P (λ r q. q) (p.sure.each m (subst (IsIn m) (old_members p.epoch lt) i) (λ same. ne (same ∙ sym (old_leader p.epoch lt))));
            };
            live = λ m i. absurd (unlive m i);
            within = subst (λ (x : ℕ). (l : Leading) → (w.nodes x).mode ≡ Leads l → l.epoch ≡ p.epoch → end_of P ≤ max (w.nodes x).watermark l.start) (sym (old_leader p.epoch lt)) p.within;
          },
          inl refl,
        )
        | inr none ↦ (subst (IsCommitted new_world new_history new_sets) (sym none) nothing, inr none)
      ]
    where
      nothing : IsCommitted new_world new_history new_sets []
      nothing = record { epoch = 0; sure = record { made = Begins-nil (g.ledger 0); each = λ m i ne. inl refl }; live = λ m i top ne. inl refl; within = λ l e q. omega arith }

  abbrev pub committed_elected : (P : List Batch) → IsCommitted w g t P → IsCommitted new_world new_history new_sets P
  committed_elected P p = (committed_at P p).0

  pub epoch_elected : (P : List Batch) (p : IsCommitted w g t P) → ((committed_elected P p).epoch ≡ p.epoch) ⊎ (P ≡ [])
  epoch_elected P p = (committed_at P p).1

  leader_of : (o : Option Leader) → w.controller.leader ≡ o → 0 < elections_of w → (l : Leader) × (w.controller.leader ≡ Some l) × (elections_of w ≡ l.epoch + 1)
  leader_of None e some = absurd (let none = ap next_epoch e in omega arith)
  leader_of (Some l) e some = (l, e, ap next_epoch e)

  -- who hasn't moved on from an epoch is one of its members
  is_member_of : (m e : ℕ) → IsIn m w.controller.isr → e < elections_of w → bound w m ≤ e + 1 → IsIn m (t.members e)
  is_member_of m e i lt here =
      elim (cases_lt (e + 1) (elections_of w)) [
        | inl before ↦ h.joined m e (inl i) before here
        | inr last ↦
            (let l = leader_of w.controller.leader refl (omega arith) in
            let now = l.2 in
            let same : l.0.epoch ≡ e = omega arith in
            subst (IsIn m) (sym (h.record_is l.0 l.1).members ∙ ap t.members same) i)
      ]

  last_epoch : (mode : Mode) (x : ℕ) → mode_bound (elections_of w) mode ≤ x → x < mode_bound (elections_of w + 1) mode → (mode_bound (elections_of w) mode ≡ x) × (x ≡ elections_of w)
  last_epoch Down x a b = (omega arith, omega arith)
  last_epoch Idle x a b = (omega arith, omega arith)
  last_epoch (Leads l) x a b = absurd (omega arith)
  last_epoch (Follows f) x a b = absurd (omega arith)

  passed_elected : (e : ℕ) → e < elections_of w → HasPassed w t e → HasPassed new_world new_sets e
  passed_elected e lt p =
      record { member = p.member; is_in = subst (IsIn p.member) (sym (old_members e lt)) p.is_in; moved = (let moved = p.moved in let grown = bounds p.member in omega arith) }

  mark_elected : (log : List Batch) (offset : ℕ) → IsMark w g t log offset → IsMark new_world new_history new_sets log offset
  mark_elected log offset p = record { list = p.list; begins = p.begins; ends = p.ends; committed = committed_elected p.list p.committed }

  begun_before : (e : ℕ) (first : List Batch) → t.began e ≡ Some first → e < elections_of w
  begun_before e first o =
      elim (cases_lt e (elections_of w)) [
        | inl lt ↦ lt
        | inr ge ↦ absurd (let none = sym (h.later e ge) ∙ o in false≢true (ap is_some_list none))
      ]
    where
      is_some_list : Option (List Batch) → Bool
      is_some_list None = false
      is_some_list (Some x) = true

  -- an idle or down member has what was possible in the last epoch
  had_last : (m e : ℕ) (P : List Batch) → IsIn m w.controller.isr → bound w m ≡ e + 1 → e + 1 ≡ elections_of w → Begins P (g.ledger e) → (IsIn m (t.members e) → (m ≡ g.leader e → ⊥) → Reached w m e P) → Begins P (w.nodes m).log
  had_last m e P i b last made fetch =
      elim (cases_eq m (g.leader e)) [
        | inr ne ↦
            elim (fetch (is_member_of m e i (omega arith) (omega arith)) ne) [
              | inl empty ↦ subst (λ (l : List Batch). Begins l (w.nodes m).log) (sym empty) (Begins-nil (w.nodes m).log)
              | inr f ↦
                  (let held : RequestIsHeld (elections_of w) g t f.request (w.nodes m) = subst (λ (j : ℕ). RequestIsHeld (elections_of w) g t f.request (w.nodes j)) f.from (h.requests f.request f.sent) in
                  let same : f.request.epoch + 1 ≡ bound w m = (let epoch = f.epoch in omega arith) in
                  held.kept same P f.begins (inl (subst (λ (j : ℕ). Begins P (g.ledger j)) (sym f.epoch) made)))
            ]
        | inl leads ↦
            (let l = leader_of w.controller.leader refl (omega arith) in
            let now = l.2 in
            let same : l.0.epoch ≡ e = omega arith in
            let node : l.0.node ≡ m = sym (k.leader l.0 l.1) ∙ ap g.leader same ∙ sym leads in
            Begins-trans made (subst (λ (j : ℕ). Begins (g.ledger e) (w.nodes j).log) node (subst (λ (j : ℕ). Begins (g.ledger j) (w.nodes l.0.node).log) same (k.current l.0 l.1))))
      ]

  in_set : (m : ℕ) → IsMember new_world m → IsIn m w.controller.isr
  in_set m (inl i) = i
  in_set m (inr live) = absurd (unlive m live)

  pub elect_held : IsHeld new_world new_history new_sets
  elect_held =
      record {
        requests = λ r q. (let old = h.requests r q in record {
          reach = (let reach = old.reach in let grown = bounds r.from in omega arith);
          kept = λ top. (let reach = old.reach in let grown = bounds r.from in old.kept (omega arith));
        });
        answers = λ a q. (let old = h.answers a q in record {
          begun = record { first = old.begun.first; began = old.begun.began; begins = old.begun.begins };
          recent = old.recent;
          mark = mark_elected a.log a.watermark old.mark;
        });
        marks = λ m. mark_elected (w.nodes m).log (w.nodes m).watermark (h.marks m);
        checkpoints = λ m. mark_elected (w.nodes m).log (w.nodes m).checkpoint (h.checkpoints m);
        leads = λ m l e. (let old = h.leads m l e in
            let within = (s.nodes m).within in
            let bound_is : bound w m ≡ l.epoch + 1 = ap (mode_bound (elections_of w)) e in
            record {
              knows = knows_other t (elections_of w) w.controller.isr (w.controller.version + 1) l (λ (q : l.epoch ≡ elections_of w). omega arith) old.knows;
              self = subst (λ (x : ℕ). IsIn x l.isr) (sym (old_leader l.epoch (omega arith))) old.self;
              own = λ set pending. subst (λ (x : ℕ). IsIn x set) (sym (old_leader l.epoch (omega arith))) (old.own set pending);
              asked = λ p q of. old.asked p q (subst (λ (x : ℕ). IsOfLeader p x l.epoch) (old_leader l.epoch (omega arith)) of);
              begun = record { first = old.begun.first; began = old.begun.began; begins = old.begun.begins };
              start = old.start;
              fetched = λ x v q P p b. (let f = old.fetched x v q P p b in
                  record { request = f.request; sent = f.sent; from = f.from; epoch = f.epoch; begins = f.begins });
              reported = old.reported;
            });
        record_is = λ l e. (let same : record { node = n; epoch = elections_of w } ≡ l = cc in
            record {
              members = ap new_sets.members (sym (ap (λ (x : Leader). x.epoch) same)) ∙ members_at t (elections_of w) w.controller.isr (w.controller.version + 1);
              version = ap new_sets.version (sym (ap (λ (x : Leader). x.epoch) same)) ∙ version_at t (elections_of w) w.controller.isr (w.controller.version + 1);
              leader = subst (λ (x : Leader). IsIn x.node w.controller.isr) same member;
            });
        ready = h.ready;
        proposals = λ p q. (let old = h.proposals p q in
            record { leader = old.leader; named = old.named; is_in = old.is_in; first = old.first; began = old.began; version = (let low = old.version in omega arith) });
        decisions = λ d q l e. (let old = h.decisions d q l e in let elected = old.elected in record {
          leader = old_leader l.epoch (omega arith) ∙ old.leader;
          elected = omega arith;
          version = (let same = old_version l.epoch (omega arith) in let low = old.version in omega arith);
          members = λ is. old.members (let same = old_version l.epoch (omega arith) in omega arith) ∙ sym (old_members l.epoch (omega arith));
        });
        versions = versions_rise t (elections_of w) w.controller.isr w.controller.version (w.controller.version + 1) (omega arith) h.versions;
        kept = λ m. (let low = h.kept m in omega arith);
        led_kept = λ e first o. subst (λ (x : ℕ). e + 1 ≤ kept_bound (w.nodes x).kept) (sym (old_leader e (begun_before e first o))) (h.led_kept e first o);
        begun = λ e first o. (let old = h.begun e first o in
            (old.0, subst (λ (x : ℕ). e + 1 ≤ bound new_world x) (sym (old_leader e (begun_before e first o))) (let reach = old.1 in let grown = bounds (g.leader e) in omega arith)));
        not_begun = h.not_begun;
        later = λ e ge. h.later e (omega arith);
        joined = λ m e i before here. (let lt : e < elections_of w = omega arith in let grown = bounds m in
            subst (IsIn m) (sym (old_members e lt)) (is_member_of m e (in_set m i) lt (omega arith)));
        passed_begun = λ e e' first o lt. (let last = begun_before e' first o in passed_elected e (omega arith) (h.passed_begun e e' first o lt));
        passed_member = λ m e i moved.
            elim (cases_lt (e + 1) (bound w m)) [
              | inl old ↦ (let within = (s.nodes m).within in passed_elected e (omega arith) (h.passed_member m e (inl (in_set m i)) old))
              | inr not ↦
                  (let last = last_epoch (w.nodes m).mode (e + 1) not moved in
                  let end = last.1 in
                  let lt : e < elections_of w = omega arith in
                  record { member = m; is_in = subst (IsIn m) (sym (old_members e lt)) (is_member_of m e (in_set m i) lt not); moved = moved })
            ];
        leaders_hold = λ e e' first P o lt p. (let last = begun_before e' first o in h.leaders_hold e e' first P o lt (possible_old e P (omega arith) p));
        members_hold = λ m e P i moved p.
            elim (cases_lt (e + 1) (bound w m)) [
              | inl old ↦ (let within = (s.nodes m).within in h.members_hold m e P (inl (in_set m i)) old (possible_old e P (omega arith) p))
              | inr not ↦
                  (let last = last_epoch (w.nodes m).mode (e + 1) not moved in
                  let end = last.1 in
                  let lt : e < elections_of w = omega arith in
                  had_last m e P (in_set m i) last.0 last.1 p.made
                  (λ is_in ne. elim (p.each m (subst (IsIn m) (sym (old_members e lt)) is_in) (λ same. ne (same ∙ old_leader e lt))) [
                    | inl f ↦ reached_in new_world w m e P (λ r q. q) f
                    | inr excused ↦ absurd (omega arith)
                  ]))
            ];
      }
