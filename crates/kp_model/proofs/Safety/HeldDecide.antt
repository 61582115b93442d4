-- The controller follows a proposal: what is held stays held.
use Rattle.std.proofs.Common.{◌≡◌, ℕ, ◌+◌, ◌<◌, List, Some, refl, sym, ap, ◌∙◌, subst, arith, inl, inr}
use Rattle.std.specs.Prelude.{is_some}
use Rattle.std.proofs.lemmas.Bool.{cases_eq, cases_lt, false≢true}
use Rattle.kp_model.specs.Log.{Batch}
use Rattle.kp_model.specs.World.{Leader, LeaderAndIsr, Leading, Proposal, Decision, Proposes, Decides, World, with_record}
use Rattle.kp_model.specs.Controller.{altered, next_epoch}
use Rattle.kp_model.proofs.Kinship.SoundLogs.{elections_of, WorldIsSound}
use Rattle.kp_model.proofs.Kinship.Kin.{History, IsKept}
use Rattle.kp_model.proofs.Safety.Held.{Sets, IsIn, IsLive, IsMember, Sent, Reached, IsPossible, HasPassed, IsCommitted, IsMark, IsOfLeader, Knows, LeaderIsHeld, ProposalIsHeld, DecisionIsHeld, IsHeld}
use Rattle.kp_model.proofs.Safety.HeldNodes.{reached_in, fetched_in}
use Rattle.kp_model.proofs.Safety.HeldMarks.{knows_most}
use Rattle.kp_model.proofs.Safety.HeldMessages.{Sending, kind}
use Rattle.kp_model.proofs.Safety.HeldRecord.{with_members, members_other, members_at, version_other, version_at, knows_other, versions_rise}

module _ (w : World) (g : History) (t : Sets) (s : WorldIsSound w) (h : IsHeld w g t) (k : IsKept w g) (p : Proposal) (sent : Sent w (Proposes p)) (same : p.known ≡ w.controller) where
  abbrev pub new_world : World
  new_world = with_record w (altered w.controller p.isr)

  proposed : ProposalIsHeld w t p
  proposed = h.proposals p sent

  abbrev pub led : Leader
  led = (h.proposals p sent).leader

  abbrev version : ℕ
  version = w.controller.version + 1

  abbrev pub new_sets : Sets
  new_sets = with_members t led.epoch p.isr version

  recorded : w.controller.leader ≡ Some led
  recorded = ap (λ (r : LeaderAndIsr). r.leader) (sym same) ∙ (h.proposals p sent).named

  elections : elections_of w ≡ led.epoch + 1
  elections = ap next_epoch recorded

  -- no proposal is of the new record
  unlive : (m : ℕ) → IsLive new_world m → ⊥
  unlive m i = let old = (h.proposals i.0 i.1).version in let is = ap (λ (r : LeaderAndIsr). r.version) i.2 in omega arith

  -- who becomes a member might become one before
  was_member : (m : ℕ) → IsMember new_world m → IsMember w m
  was_member m (inl i) = inr (p, sent, same, i)
  was_member m (inr live) = absurd (unlive m live)

  other_members : (e : ℕ) → (e ≡ led.epoch → ⊥) → new_sets.members e ≡ t.members e
  other_members e ne = members_other t led.epoch p.isr version e ne

  earlier_members : (e : ℕ) → e < led.epoch → new_sets.members e ≡ t.members e
  earlier_members e lt = other_members e (λ (q : e ≡ led.epoch). omega arith)

  pub committed_decided : (P : List Batch) → IsCommitted w g t P → IsCommitted new_world g new_sets P
  committed_decided P c =
      record {
        epoch = c.epoch;
        sure = record { made = c.sure.made; each = λ m i ne. reached_in w new_world m c.epoch P (λ r q. q) (member m i ne) };
        live = λ m i. absurd (unlive m i);
        within = c.within;
      }
    where
      member : (m : ℕ) → IsIn m (new_sets.members c.epoch) → (m ≡ g.leader c.epoch → ⊥) → Reached w m c.epoch P
      member m i ne =
          elim (cases_eq c.epoch led.epoch) [
            | inr other ↦ c.sure.each m (subst (IsIn m) (other_members c.epoch other) i) ne
            | inl is ↦
                (let asked : IsIn m p.isr = subst (IsIn m) (ap new_sets.members is ∙ members_at t led.epoch p.isr version) i in
                c.live m (p, sent, same, asked) (let now = elections in omega arith) ne)
          ]

  pub epoch_decided : (P : List Batch) (c : IsCommitted w g t P) → (committed_decided P c).epoch ≡ c.epoch
  unfolding committed_decided
  epoch_decided P c = refl

  mark_decided : (log : List Batch) (offset : ℕ) → IsMark w g t log offset → IsMark new_world g new_sets log offset
  mark_decided log offset m = record { list = m.list; begins = m.begins; ends = m.ends; committed = committed_decided m.list m.committed }

  passed_decided : (e : ℕ) → e < led.epoch → HasPassed w t e → HasPassed new_world new_sets e
  passed_decided e lt m = record { member = m.member; is_in = subst (IsIn m.member) (sym (earlier_members e lt)) m.is_in; moved = m.moved }

  possible_decided : (e : ℕ) (P : List Batch) → e < led.epoch → IsPossible new_world g new_sets e P → IsPossible w g t e P
  possible_decided e P lt c =
      record {
        made = c.made;
        each = λ m i ne. elim (c.each m (subst (IsIn m) (sym (earlier_members e lt)) i) ne) [
          | inl f ↦ inl (reached_in new_world w m e P (λ r q. q) f)
          | inr b ↦ inr b
        ];
      }

  -- the leader of the last epoch, if it leads still, has this change pending
  knows_decided : (log : List Batch) (l : Leading) → LeaderIsHeld w g t log l → Knows new_sets l
  knows_decided log l old =
      elim (cases_eq l.epoch led.epoch) [
        | inr other ↦ knows_other t led.epoch p.isr version l other old.knows
        | inl is ↦
            (let node : g.leader l.epoch ≡ led.node = ap g.leader is ∙ k.leader led recorded in
            let of : IsOfLeader p (g.leader l.epoch) l.epoch = proposed_named ∙ (λ i. Some (record { node = sym node i; epoch = sym is i })) in
            let asked = old.asked p sent of in
            let low = asked.0 in
            let most = knows_most t l old.knows in
            let now : t.version l.epoch ≡ w.controller.version = ap t.version is ∙ (h.record_is led recorded).version in
            let known = ap (λ (r : LeaderAndIsr). r.version) same in
            let pending = asked.1 (omega arith) in
            let new : new_sets.version l.epoch ≡ version = ap new_sets.version is ∙ version_at t led.epoch p.isr version in
            inr (omega arith, pending ∙ ap Some (sym (ap new_sets.members is ∙ members_at t led.epoch p.isr version))))
      ]
    where
      proposed_named : p.known.leader ≡ Some led
      proposed_named = (h.proposals p sent).named

  pub decide_held : IsHeld new_world g new_sets
  decide_held =
      record {
        requests = λ r q. (let old = h.requests r q in record { reach = old.reach; kept = old.kept });
        answers = λ a q. (let old = h.answers a q in record {
          begun = record { first = old.begun.first; began = old.begun.began; begins = old.begun.begins };
          recent = old.recent;
          mark = mark_decided a.log a.watermark old.mark;
        });
        marks = λ m. mark_decided (w.nodes m).log (w.nodes m).watermark (h.marks m);
        checkpoints = λ m. mark_decided (w.nodes m).log (w.nodes m).checkpoint (h.checkpoints m);
        leads = λ m l e. (let old = h.leads m l e in record {
          knows = knows_decided (w.nodes m).log l old;
          self = old.self;
          own = old.own;
          asked = old.asked;
          begun = record { first = old.begun.first; began = old.begun.began; begins = old.begun.begins };
          start = old.start;
          fetched = λ x v q P b d. fetched_in w new_world x l.epoch P (λ y z. z) (old.fetched x v q P b d);
          reported = old.reported;
        });
        ready = h.ready;
        record_is = λ l e. (let is : led ≡ l = leader_is led l (sym recorded ∙ e) in
            record {
              members = ap new_sets.members (sym (ap (λ (y : Leader). y.epoch) is)) ∙ members_at t led.epoch p.isr version;
              version = ap new_sets.version (sym (ap (λ (y : Leader). y.epoch) is)) ∙ version_at t led.epoch p.isr version;
              leader = subst (λ (y : Leader). IsIn y.node p.isr) is (h.proposals p sent).is_in;
            });
        proposals = λ q i. (let old = h.proposals q i in
            record { leader = old.leader; named = old.named; is_in = old.is_in; first = old.first; began = old.began; version = (let low = old.version in omega arith) });
        decisions = λ d i l e. (let old = h.decisions d i l e in
            elim (cases_eq l.epoch led.epoch) [
              | inr other ↦
                  (let at = version_other t led.epoch p.isr version l.epoch other in
                  record {
                    leader = old.leader;
                    elected = old.elected;
                    version = (let low = old.version in omega arith);
                    members = λ is. old.members (omega arith) ∙ sym (other_members l.epoch other);
                  })
              | inl is ↦
                  (let at : new_sets.version l.epoch ≡ version = ap new_sets.version is ∙ version_at t led.epoch p.isr version in
                  let most = h.versions l.epoch in
                  let low = old.version in
                  record { leader = old.leader; elected = old.elected; version = omega arith; members = λ top. absurd (omega arith) })
            ]);
        versions = versions_rise t led.epoch p.isr w.controller.version version (omega arith) h.versions;
        kept = h.kept;
        led_kept = h.led_kept;
        begun = h.begun;
        not_begun = h.not_begun;
        later = h.later;
        joined = λ m e i before here. (let now = elections in subst (IsIn m) (sym (earlier_members e (omega arith))) (h.joined m e (was_member m i) before here));
        passed_begun = λ e e' first o lt. (let last = earlier e' first o in passed_decided e (omega arith) (h.passed_begun e e' first o lt));
        passed_member = λ m e i moved. (let within = (s.nodes m).within in let now = elections in passed_decided e (omega arith) (h.passed_member m e (was_member m i) moved));
        leaders_hold = λ e e' first P o lt c. (let last = earlier e' first o in h.leaders_hold e e' first P o lt (possible_decided e P (omega arith) c));
        members_hold = λ m e P i moved c. (let within = (s.nodes m).within in let now = elections in h.members_hold m e P (was_member m i) moved (possible_decided e P (omega arith) c));
      }
    where
      leader_is : (x y : Leader) → Some x ≡ Some y → x ≡ y
      leader_is x y e = cc

      earlier : (e : ℕ) (first : List Batch) → t.began e ≡ Some first → e < led.epoch + 1
      earlier e first o =
          elim (cases_lt e (led.epoch + 1)) [
            | inl lt ↦ lt
            | inr ge ↦ absurd (let now = elections in let none = sym (h.later e (omega arith)) ∙ o in false≢true (ap is_some none))
          ]

-- ---- the decision is sent, with the record as it is

pub deciding : (w : World) (g : History) (t : Sets) → IsHeld w g t → IsKept w g → (p : Proposal) → Sending w g t (Decides (record { proposal = p; decided = w.controller }))
deciding w g t h k p =
    record {
      requests = λ r e. absurd (let other = ap kind e in omega arith);
      answers = λ a e. absurd (let other = ap kind e in omega arith);
      excused = λ r e. absurd (let other = ap kind e in omega arith);
      proposals = λ q e. absurd (let other = ap kind e in omega arith);
      asked = λ q e. absurd (let other = ap kind e in omega arith);
      fits = λ q e. absurd (let other = ap kind e in omega arith);
      decisions = λ d e. subst (DecisionIsHeld w g t) (decided d e) now;
    }
  where
    decided : (d : Decision) → Decides (record { proposal = p; decided = w.controller }) ≡ Decides d → record { proposal = p; decided = w.controller } ≡ d
    decided d e = cc

    now : DecisionIsHeld w g t (record { proposal = p; decided = w.controller })
    now l e =
        let is = h.record_is l e in
        let top = ap next_epoch e in
        record { leader = k.leader l e; elected = omega arith; version = (let at = is.version in omega arith); members = λ same. sym is.members }
