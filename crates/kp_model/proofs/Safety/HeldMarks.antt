-- A leader's watermark rises to what is sure.
use Rattle.std.proofs.Common.{◌≡◌, ◌⊎◌, ℕ, ◌<◌, ◌≤◌, Bool, true, false, cond, eqb, List, [], ◌∷◌, ◌++◌, map, Option, Some, None, refl, sym, ap, ◌∙◌, subst, arith, inl, inr, ◌+◌}
use Rattle.std.specs.Prelude.{max, min, unwrap_or, is_some}
use Rattle.std.specs.List.{filter_map, list_all, fold}
use Rattle.std.proofs.lemmas.Bool.{cases_eq, cases_lt, cases_Bool, cond_both, eqb-true, eqb-false, false≢true, or_cases}
use Rattle.kp_model.specs.Beginning.{Begins}
use Rattle.kp_model.specs.Log.{Batch, end_of}
use Rattle.kp_model.specs.World.{LeaderAndIsr, Leading, Leads, Node, World, with_node, report_of}
use Rattle.kp_model.specs.Controller.{is_member, without_member, next_epoch}
use Rattle.kp_model.specs.Raising.{counted, known_ends, least_end, raised}
use Rattle.kp_model.proofs.Plain.Beginnings.{Begins-refl}
use Rattle.kp_model.proofs.Kinship.SoundLogs.{WorldIsSound, elections_of}
use Rattle.kp_model.proofs.Kinship.Kin.{History, IsKept, ModeIsKept}
use Rattle.kp_model.proofs.Safety.Held.{Sets, IsIn, IsLive, IsOfLeader, Knows, CaughtUp, IsReady, IsSure, Reached, IsMark, LeaderIsHeld, IsHeld}
use Rattle.kp_model.proofs.Safety.Members.{in_front, in_back}
use Rattle.kp_model.proofs.Safety.HeldNodes.{NodeChange, sure_in, reached_in}
use Rattle.kp_model.proofs.Safety.HeldSteps.{marks_change, leads_is}

-- ---- the least of what is known

fold_min_le : (x : ℕ) (xs : List ℕ) → fold min x xs ≤ x
fold_min_le x [] = omega arith
fold_min_le x (y ∷ ys) = let lower = fold_min_le (min x y) ys in omega arith

abbrev Known : ℕ → Option ℕ → Type 0
Known least None = ⊥
Known least (Some r) = least ≤ r

-- each is known, and none is below the least
abbrev AllKnown : ℕ → List (Option ℕ) → Type 0
AllKnown least [] = Unit {0}
AllKnown least (e ∷ es) = Known least e × AllKnown least es

fold_known : (x : ℕ) (es : List (Option ℕ)) → list_all is_some es ≡ true → AllKnown (fold min x (filter_map (λ e. e) es)) es
fold_known x [] a = tt
fold_known x (None ∷ es) a = absurd (false≢true a)
fold_known x (Some r ∷ es) a =
    (let lower = fold_min_le (min x r) (filter_map (λ e. e) es) in omega arith, fold_known (min x r) es a)

-- it is one of them
abbrev IsOne : ℕ → List (Option ℕ) → Type 0
IsOne least [] = ⊥
IsOne least (e ∷ es) = (e ≡ Some least) ⊎ IsOne least es

fold_one : (x : ℕ) (es : List (Option ℕ)) → list_all is_some es ≡ true → (fold min x (filter_map (λ e. e) es) ≡ x) ⊎ IsOne (fold min x (filter_map (λ e. e) es)) es
fold_one x [] a = inl refl
fold_one x (None ∷ es) a = absurd (false≢true a)
fold_one x (Some r ∷ es) a =
    elim (fold_one (min x r) es a) [
      | inl same ↦
          elim (cases_lt r x) [
            | inl lower ↦ inr (inl (ap Some (let m : min x r ≡ r = omega arith in sym m ∙ sym same)))
            | inr upper ↦ inl (let m : min x r ≡ x = omega arith in same ∙ m)
          ]
      | inr one ↦ inr (inr one)
    ]

-- ---- the members' reports

reports_each : (least n : ℕ) (reported : ℕ → Option ℕ) (isr : List ℕ) → AllKnown least (map reported (without_member n isr)) → (m : ℕ) → IsIn m isr → (m ≡ n → ⊥) → (r : ℕ) × (reported m ≡ Some r) × (least ≤ r)
reports_each least n reported [] a m i ne = absurd (false≢true i)
reports_each least n reported (x ∷ xs) a m i ne =
    elim (cases_Bool (eqb x n)) [
      | inl own ↦
          (let rest : AllKnown least (map reported (without_member n xs)) = rw own at a in
          elim (or_cases (eqb x m) (is_member m xs) i) [
            | inl here ↦ absurd (ne (sym (eqb-true x m here) ∙ eqb-true x n own))
            | inr there ↦ reports_each least n reported xs rest m there ne
          ])
      | inr other ↦
          (let both : AllKnown least (reported x ∷ map reported (without_member n xs)) = rw other at a in
          elim (or_cases (eqb x m) (is_member m xs) i) [
            | inl here ↦ known_at (reported m) refl (subst (λ (j : ℕ). Known least (reported j)) (eqb-true x m here) both.0)
            | inr there ↦ reports_each least n reported xs both.1 m there ne
          ])
    ]
  where
    known_at : (o : Option ℕ) → reported m ≡ o → Known least o → (r : ℕ) × (reported m ≡ Some r) × (least ≤ r)
    known_at None e k = absurd k
    known_at (Some r) e k = (r, e, k)

reports_one : (least n : ℕ) (reported : ℕ → Option ℕ) (isr : List ℕ) → IsOne least (map reported (without_member n isr)) → (m : ℕ) × (reported m ≡ Some least)
reports_one least n reported [] o = absurd o
reports_one least n reported (x ∷ xs) o =
    elim (cases_Bool (eqb x n)) [
      | inl own ↦ (let rest = rw own at o in reports_one least n reported xs rest)
      | inr other ↦
          (let both : (reported x ≡ Some least) ⊎ IsOne least (map reported (without_member n xs)) = rw other at o in
          elim both [ inl here ↦ (x, here) | inr there ↦ reports_one least n reported xs there ])
    ]

-- ---- what is counted

pub pending_counted : (l : Leading) (set : List ℕ) → l.pending ≡ Some set → (m : ℕ) → IsIn m set → IsIn m (counted l)
pending_counted l set e m i = subst (λ (o : Option (List ℕ)). IsIn m (l.isr ++ unwrap_or o [])) (sym e) (in_back l.isr set m i)

pub knows_counted : (t : Sets) (l : Leading) → Knows t l → (m : ℕ) → IsIn m (t.members l.epoch) → IsIn m (counted l)
knows_counted t l (inl now) m i = in_front l.isr (unwrap_or l.pending []) m (subst (IsIn m) (sym now.1) i)
knows_counted t l (inr next) m i = pending_counted l (t.members l.epoch) next.1 m i

pub knows_most : (t : Sets) (l : Leading) → Knows t l → l.version ≤ t.version l.epoch
knows_most t l (inl now) = (let same = now.0 in omega arith)
knows_most t l (inr next) = (let same = next.0 in omega arith)

-- ---- raise

abbrev others_of : ℕ → Leading → List (Option ℕ)
others_of n l = map (report_of l) (without_member n (counted l))

least_is : (n : ℕ) (log : List Batch) (l : Leading) (least : ℕ) → least_end (known_ends n log l) ≡ Some least
    → (list_all is_some (others_of n l) ≡ true) × (fold min (end_of log) (filter_map (λ e. e) (others_of n l)) ≡ least)
least_is n log l least e = by_test (list_all is_some (others_of n l)) refl e
  where
    by_test : (b : Bool) → list_all is_some (others_of n l) ≡ b → cond b (Some (fold min (end_of log) (filter_map (λ e. e) (others_of n l)))) None ≡ Some least
        → (list_all is_some (others_of n l) ≡ true) × (fold min (end_of log) (filter_map (λ e. e) (others_of n l)) ≡ least)
    by_test true a f = (a, cc)
    by_test false a f = absurd (false≢true (ap is_some f))

least_facts : (n : ℕ) (log : List Batch) (l : Leading) (least : ℕ) → least_end (known_ends n log l) ≡ Some least → AllKnown least (others_of n l)
least_facts n log l least e =
    let facts = least_is n log l least e in subst (λ (j : ℕ). AllKnown j (others_of n l)) facts.1 (fold_known (end_of log) (others_of n l) facts.0)

-- what each of the known and the pending set has reported of the leader's log is sure, in a set that a proposal asks for, too
pub record IsCounted (w : World) (g : History) (t : Sets) (n : ℕ) (l : Leading) (least : ℕ) : Type 0 where
  pub list : List Batch
  pub begins : Begins list (w.nodes n).log
  pub ends : end_of list ≡ least
  pub sure : IsSure w g t l.epoch list
  pub live : (m : ℕ) → IsLive w m → l.epoch + 1 ≡ elections_of w → (m ≡ g.leader l.epoch → ⊥) → Reached w m l.epoch list

module _ (w : World) (g : History) (t : Sets) (h : IsHeld w g t) (k : IsKept w g) (n : ℕ) (l : Leading) (mode : (w.nodes n).mode ≡ Leads l) where
  kept : ModeIsKept g n (w.nodes n).log (Leads l)
  kept = subst (ModeIsKept g n (w.nodes n).log) mode (k.nodes n).mode

  held : LeaderIsHeld w g t (w.nodes n).log l
  held = h.leads n l mode

  -- the leader's own proposal is pending as long as the controller would follow it
  live_counted : (x : ℕ) (i : IsLive w x) → l.epoch + 1 ≡ elections_of w → (m : ℕ) → IsIn m (i.0).isr → IsIn m (counted l)
  live_counted x i top m is_in =
      let p = i.0 in
      let proposed = h.proposals p i.1 in
      let leader : w.controller.leader ≡ Some proposed.leader = ap (λ (r : LeaderAndIsr). r.leader) (sym i.2) ∙ proposed.named in
      let now = ap next_epoch leader in
      let epoch : proposed.leader.epoch ≡ l.epoch = omega arith in
      let node : proposed.leader.node ≡ g.leader l.epoch = sym (k.leader proposed.leader leader) ∙ ap g.leader epoch in
      let named : IsOfLeader p (g.leader l.epoch) l.epoch = proposed.named ∙ (λ j. Some (record { node = node j; epoch = epoch j })) in
      let asked = held.asked p i.1 named in
      let record_is = h.record_is proposed.leader leader in
      let version : t.version l.epoch ≡ p.known.version = ap t.version (sym epoch) ∙ record_is.version ∙ ap (λ (r : LeaderAndIsr). r.version) (sym i.2) in
      let most = knows_most t l held.knows in
      let low = asked.0 in
      pending_counted l p.isr (asked.1 (omega arith)) m is_in

  pub counted_to : (least : ℕ) → least_end (known_ends n (w.nodes n).log l) ≡ Some least → IsCounted w g t n l least
  counted_to least e =
      let facts = least_is n (w.nodes n).log l least e in
      let made : (P : List Batch) × Begins P (g.ledger l.epoch) × (end_of P ≡ least) =
      elim (fold_one (end_of (w.nodes n).log) (others_of n l) facts.0) [
        | inl own ↦ ((w.nodes n).log, subst (Begins (w.nodes n).log) kept.0 (Begins-refl (w.nodes n).log), sym own ∙ facts.1)
        | inr one ↦
            (let of = reports_one least n (report_of l) (counted l) (subst (λ (j : ℕ). IsOne j (others_of n l)) facts.1 one) in
            held.reported of.0 least of.1)
      ] in
      let all : AllKnown least (others_of n l) = subst (λ (j : ℕ). AllKnown j (others_of n l)) facts.1 (fold_known (end_of (w.nodes n).log) (others_of n l) facts.0) in
      record {
        list = made.0;
        begins = subst (Begins made.0) (sym kept.0) made.1;
        ends = made.2;
        sure =
            record {
              made = made.1;
              each = λ m i ne. (let member = knows_counted t l held.knows m i in
                  let report = reports_each least n (report_of l) (counted l) all m member (λ same. ne (same ∙ sym kept.1)) in
                  let ends = made.2 in
                  let lower = report.2 in
                  inr (held.fetched m report.0 report.1 made.0 made.1 (omega arith)));
            };
        live = λ m i top ne. (let member = live_counted m i top m in
            let report = reports_each least n (report_of l) (counted l) all m (member i.3) (λ same. ne (same ∙ sym kept.1)) in
            let ends = made.2 in
            let lower = report.2 in
            inr (held.fetched m report.0 report.1 made.0 made.1 (omega arith)));
      }

  raised_mark : (mark : ℕ) (o : Option ℕ) → least_end (known_ends n (w.nodes n).log l) ≡ o → mark ≡ max (w.nodes n).watermark (unwrap_or o 0)
      → IsMark w g t (w.nodes n).log mark ⊎ IsMark (with_node w n (record (w.nodes n) { watermark = mark })) g t (w.nodes n).log mark
  raised_mark mark None e is =
      inl (record { list = (h.marks n).list; begins = (h.marks n).begins; ends = (let ends = (h.marks n).ends in omega arith); committed = (h.marks n).committed })
  raised_mark mark (Some least) e is =
      elim (cases_lt (w.nodes n).watermark least) [
        | inr lower ↦ inl (record { list = (h.marks n).list; begins = (h.marks n).begins; ends = (let ends = (h.marks n).ends in omega arith); committed = (h.marks n).committed })
        | inl higher ↦ inr (new_mark (counted_to least e) higher)
      ]
    where
      new_mark : IsCounted w g t n l least → (w.nodes n).watermark < least → IsMark (with_node w n (record (w.nodes n) { watermark = mark })) g t (w.nodes n).log mark
      new_mark p higher =
          record {
            list = p.list;
            begins = p.begins;
            ends = (let ends = p.ends in omega arith);
            committed = record {
              epoch = l.epoch;
              sure = sure_in w (with_node w n (record (w.nodes n) { watermark = mark })) g t l.epoch p.list (λ r s. s) p.sure;
              live = λ m i top ne. reached_in w (with_node w n (record (w.nodes n) { watermark = mark })) m l.epoch p.list (λ r s. s) (p.live m i top ne);
              within = cond_both (eqb (g.leader l.epoch) n) (record (w.nodes n) { watermark = mark }) (w.nodes (g.leader l.epoch))
                  (λ (y : Node). (x : Leading) → y.mode ≡ Leads x → x.epoch ≡ l.epoch → end_of p.list ≤ max y.watermark x.start)
                  (λ q x m s. (let ends = p.ends in omega arith))
                  (λ q. absurd (eqb-false (g.leader l.epoch) n q kept.1));
            };
          }

-- whom the leader has proposed has reported what the watermark is raised to
ready_raised : (n : ℕ) (x : Node) (l : Leading) (mark : ℕ) → IsIn n l.isr → IsReady x.watermark l → (o : Option ℕ) → least_end (known_ends n x.log l) ≡ o → mark ≡ max x.watermark (unwrap_or o 0) → IsReady mark l
ready_raised n x l mark own ready o e is set pending m i =
    elim (ready set pending m i) [
      | inl old ↦ inl old
      | inr up ↦
          elim (cases_eq m n) [
            | inl same ↦ inl (subst (λ (j : ℕ). IsIn j l.isr) (sym same) own)
            | inr ne ↦ inr (record { end = up.end; reported = up.reported; above_mark = above o e is m i up ne; above_start = up.above_start })
          ]
    ]
  where
    above : (o : Option ℕ) → least_end (known_ends n x.log l) ≡ o → mark ≡ max x.watermark (unwrap_or o 0) → (m : ℕ) → IsIn m set → (up : CaughtUp x.watermark l m) → (m ≡ n → ⊥) → mark ≤ up.end
    above None e is m i up ne = (let low = up.above_mark in omega arith)
    above (Some least) e is m i up ne =
        let facts = least_facts n x.log l least e in
        let report = reports_each least n (report_of l) (counted l) facts m (pending_counted l set pending m i) ne in
        let same : report.0 ≡ up.end = (let both = sym report.1 ∙ up.reported in cc) in
        let low = up.above_mark in
        let lower = report.2 in
        omega arith

pub raises : (w : World) (g : History) (t : Sets) → WorldIsSound w → IsHeld w g t → IsKept w g → (n : ℕ) (l : Leading) → (w.nodes n).mode ≡ Leads l
    → NodeChange w g t n (record (w.nodes n) { watermark = raised n (w.nodes n) l })
raises w g t s h k n l mode =
    let kept : ModeIsKept g n (w.nodes n).log (Leads l) = subst (ModeIsKept g n (w.nodes n).log) mode (k.nodes n).mode in
    let own : IsIn n l.isr = subst (λ (j : ℕ). IsIn j l.isr) kept.1 (h.leads n l mode).self in
    marks_change w g t s h k n (raised n (w.nodes n) l) (w.nodes n).checkpoint (omega arith)
    (raised_mark w g t h k n l mode (raised n (w.nodes n) l) (least_end (known_ends n (w.nodes n).log l)) refl refl) (h.checkpoints n)
    (λ x m. (let is = leads_is l x (sym mode ∙ m) in
    subst (IsReady (raised n (w.nodes n) l)) is (ready_raised n (w.nodes n) l (raised n (w.nodes n) l) own (h.ready n l mode) (least_end (known_ends n (w.nodes n).log l)) refl refl)))
