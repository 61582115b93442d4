-- The controller's record stays in range.
use Rattle.std.proofs.Common.{◌≡◌, ℕ, zero, suc, ◌+◌, zero-add, ◌<◌, ◌≤◌, leb, ltb, Bool, true, false, List, [], ◌∷◌, ◌++◌, Some, None, refl, sym, ap, ◌∙◌, subst, arith, inl, inr}
use Rattle.std.specs.Prelude.{filter, ◌||◌, is_some, ◌&&◌, max, unwrap_or}
use Rattle.std.specs.List.{AllByRecursion, range_with_len}
use Rattle.std.proofs.lemmas.Bool.{cond_both, ltb-true, ltb-false, leb-false, false≢true, not-false}
use Rattle.kp_model.specs.Log.{end_of}
use Rattle.kp_model.specs.World.{Leader, LeaderAndIsr, Leading, Mode, Leads, Node, Request, Message, Asks, World, start, with_record, report_of, Proposal, Proposes, Decides, with_message}
use Rattle.kp_model.specs.Event.{Act, Event, Outcome}
use Rattle.kp_model.specs.Controller.{same_record, altered, with_member, next_epoch, elected, greatest_epoch, greatest_version}
use Rattle.kp_model.specs.Effect.{Effect}
use Rattle.kp_model.specs.Fetching.{reporting}
use Rattle.kp_model.specs.Step.{Step, moved, Rise, IsInRange, elect_cause, decide_cause, decided_on, decision}
use Rattle.kp_model.specs.Run.{Moment, IsRun, Run, now, worlds, IsOf}
use Rattle.kp_model.proofs.OneStep.Steps.{each_sent}
use Rattle.kp_model.proofs.OneStep.Classes.{step_cases, MayPropose, acting_class}
use Rattle.kp_model.proofs.OneStep.Parts.{ModePart, ModeStays, NowLeading, NowFollowing, ReportIsLifted, SetIsPending, SetIsKnown, RoleEnds, SentPart, NoneIsSent, RequestIsSent, AnswerIsSent, ProposalIsSent, Parts, parts_of}
use Rattle.kp_model.proofs.InRuns.Runs.{among_each}
use Rattle.kp_model.proofs.InRuns.RunLaws.{step_onward}
use Rattle.kp_model.proofs.Kinship.Kin.{with_node_each}
use Rattle.kp_model.proofs.Safety.Held.{IsIn}
use Rattle.kp_model.proofs.Safety.HeldMessages.{set_cases}
use Rattle.kp_model.proofs.Safety.HeldSteps.{down_leads, idle_leads, follows_leads, leads_is}
use Rattle.kp_model.proofs.Safety.Members.{in_cases, caught_up}
use Rattle.kp_model.proofs.Safety.HeldLeads.{replicate_each}
use Rattle.kp_types.proofs.Elements.{all_append}
use Rattle.kp_types.proofs.Causes.{passed}

-- ---- rising lists

rise_from : (low lower high : ℕ) (xs : List ℕ) → lower ≤ low → Rise low high xs → Rise lower high xs
rise_from low lower high [] l h = tt
rise_from low lower high (x ∷ xs) l h = (let at = h.0 in omega arith, h.1, h.2)

rise_filter : (p : ℕ → Bool) (low high : ℕ) (xs : List ℕ) → Rise low high xs → Rise low high (filter p xs)
rise_filter p low high [] h = tt
rise_filter p low high (x ∷ xs) h =
    cond_both (p x) (x ∷ filter p xs) (filter p xs) (Rise low high)
    (λ e. (h.0, h.1, rise_filter p (x + 1) high xs h.2))
    (λ e. rise_from (x + 1) low high (filter p xs) (let at = h.0 in omega arith) (rise_filter p (x + 1) high xs h.2))

rise_lower : (m low high : ℕ) (xs : List ℕ) → Rise low high xs → Rise low m (filter (λ x. ltb x m) xs)
rise_lower m low high [] h = tt
rise_lower m low high (x ∷ xs) h =
    cond_both (ltb x m) (x ∷ filter (λ y. ltb y m) xs) (filter (λ y. ltb y m) xs) (Rise low m)
    (λ e. (h.0, ltb-true x m e, rise_lower m (x + 1) high xs h.2))
    (λ e. rise_from (x + 1) low m (filter (λ y. ltb y m) xs) (let at = h.0 in omega arith) (rise_lower m (x + 1) high xs h.2))

rise_upper : (m low high : ℕ) (xs : List ℕ) → Rise low high xs → Rise (m + 1) high (filter (λ x. ltb m x) xs)
rise_upper m low high [] h = tt
rise_upper m low high (x ∷ xs) h =
    cond_both (ltb m x) (x ∷ filter (λ y. ltb m y) xs) (filter (λ y. ltb m y) xs) (Rise (m + 1) high)
    (λ e. (let lower = ltb-true m x e in omega arith, h.1, rise_filter (λ y. ltb m y) (x + 1) high xs h.2))
    (λ e. rise_upper m (x + 1) high xs h.2)

rise_join : (m low high : ℕ) (xs ys : List ℕ) → low ≤ m → m < high → Rise low m xs → Rise (m + 1) high ys → Rise low high (xs ++ m ∷ ys)
rise_join m low high [] ys l u h k = (l, u, k)
rise_join m low high (x ∷ xs) ys l u h k = (h.0, (let at = h.1 in omega arith), rise_join m (x + 1) high xs ys (let at = h.1 in omega arith) u h.2 k)

rise_with : (m high : ℕ) (xs : List ℕ) → m < high → Rise 0 high xs → Rise 0 high (with_member m xs)
rise_with m high xs u h = rise_join m 0 high (filter (λ x. ltb x m) xs) (filter (λ x. ltb m x) xs) (omega arith) u (rise_lower m 0 high xs h) (rise_upper m 0 high xs h)

rise_below : (low high : ℕ) (xs : List ℕ) (m : ℕ) → Rise low high xs → IsIn m xs → m < high
rise_below low high [] m h i = absurd (false≢true i)
rise_below low high (x ∷ xs) m h i =
    elim (in_cases x m xs i) [ inl here ↦ (let at = h.1 in omega arith) | inr there ↦ rise_below (x + 1) high xs m h.2 there ]

rise_range : (a c : ℕ) → Rise a (a + c) (range_with_len a c)
rise_range a zero = tt
rise_range a (suc c) =
    (omega arith, omega arith, (let same : (a + 1) + c ≡ a + suc c = omega arith in subst (λ (k : ℕ). Rise (a + 1) k (range_with_len (a + 1) c)) same (rise_range (a + 1) c)))

-- ---- what is in range besides the record: who asked, and who reported

abbrev MessageIsInRange : ℕ → Message → Type 0
MessageIsInRange count (Asks r) = r.from < count
MessageIsInRange count (Proposes p) = Rise 0 count p.isr
MessageIsInRange count (Decides d) = Rise 0 count d.decided.isr
MessageIsInRange count _ = Unit {0}

record LeadingIsInRange (count : ℕ) (l : Leading) : Type 0 where
  isr : Rise 0 count l.isr
  pending : (set : List ℕ) → l.pending ≡ Some set → Rise 0 count set
  reports : (m v : ℕ) → report_of l m ≡ Some v → m < count

abbrev ModeIsInRange : ℕ → Mode → Type 0
ModeIsInRange count mode = (l : Leading) → mode ≡ Leads l → LeadingIsInRange count l

record WorldIsInRange (count : ℕ) (w : World) : Type 0 where
  controller : IsInRange count w.controller
  messages : AllByRecursion (MessageIsInRange count) w.messages
  nodes : (n : ℕ) → ModeIsInRange count (w.nodes n).mode

record EffectIsInRange (count : ℕ) (e : Effect) : Type 0 where
  sent : AllByRecursion (MessageIsInRange count) e.sent
  mode : ModeIsInRange count e.node.mode

moved_in_range : (count : ℕ) (w : World) (n : ℕ) (e : Effect) → WorldIsInRange count w → EffectIsInRange count e → WorldIsInRange count (moved w n e)
moved_in_range count w n e h f =
    record {
      controller = h.controller;
      messages = all_append (MessageIsInRange count) w.messages e.sent h.messages f.sent;
      nodes = with_node_each (λ m y. ModeIsInRange count y.mode) w.nodes n e.node (λ m ne. h.nodes m) f.mode;
    }

module _ (count : ℕ) (c : LeaderAndIsr) (n : ℕ) (x : Node) (counted : n < count) (h : IsInRange count c) (k : ModeIsInRange count x.mode) where
  leads_now : (l : Leading) → LeadingIsInRange count l → ModeIsInRange count (Leads l)
  leads_now l p z e = subst (LeadingIsInRange count) (leads_is l z e) p

  no_set : (set : List ℕ) → None ≡ Some set → ⊥
  no_set set e = false≢true (ap is_some e)

  lifted_report : (r : Request) (l : Leading) → x.mode ≡ Leads l → r.from < count → (m v : ℕ) → report_of (reporting l r.from (end_of r.log)) m ≡ Some v → m < count
  lifted_report r l mode from m v p =
      elim (set_cases l.reported r.from m (Some (max (unwrap_or (report_of l r.from) 0) (end_of r.log))) v p) [
        | inl new ↦ (let same = new.0 in omega arith)
        | inr old ↦ (k l mode).reports m v old
      ]

  some_set : (one other : List ℕ) → Some one ≡ Some other → one ≡ other
  some_set one other e = cc

  -- the set is pending already, or tested
  set_in_range : (set : List ℕ) (l : Leading) → x.mode ≡ Leads l → MayPropose n x l set → Rise 0 count set
  set_in_range set l mode (inr again) = (k l mode).pending set again
  set_in_range set l mode (inl (none, inl (m, is, up))) =
      let reported = caught_up x.watermark l m up in
      subst (Rise 0 count) (sym is) (rise_with m count l.isr ((k l mode).reports m reported.0 reported.1) (k l mode).isr)
  set_in_range set l mode (inl (none, inr (m, is, other))) = subst (Rise 0 count) (sym is) (rise_filter _ 0 count l.isr (k l mode).isr)

  abbrev InRange : Mode → Type 0
  InRange mode = ModeIsInRange count mode

  mode_in_range : (messages : List Message) (mode : Mode) → AllByRecursion (MessageIsInRange count) messages → ModePart messages c n x mode → InRange mode
  mode_in_range messages mode all (ModeStays is) = subst InRange (sym is) k
  mode_in_range messages mode all (NowLeading l at own is) =
      subst InRange (sym is)
      (leads_now _ (record { isr = h.isr; pending = λ set e. absurd (no_set set e); reports = λ m v q. absurd (false≢true (ap is_some (sym (replicate_each 7 m None) ∙ q))) }))
  mode_in_range messages mode all (NowFollowing l at other is) = subst InRange (sym is) (λ z e. absurd (follows_leads _ z e))
  mode_in_range messages mode all (ReportIsLifted r l at given is) =
      let from = each_sent (MessageIsInRange count) messages (Asks r) all given in
      subst InRange (sym is) (leads_now (reporting l r.from (end_of r.log)) (record { isr = (k l at).isr; pending = (k l at).pending; reports = lifted_report r l at from }))
  mode_in_range messages mode all (SetIsPending set l at may is) =
      let rise = set_in_range set l at may in
      subst InRange (sym is) (leads_now _ (record { isr = (k l at).isr; pending = λ other q. subst (Rise 0 count) (some_set set other q) rise; reports = (k l at).reports }))
  mode_in_range messages mode all (SetIsKnown d l at given free is) =
      subst InRange (sym is)
      (leads_now _ (record { isr = each_sent (MessageIsInRange count) messages (Decides d) all given; pending = λ set q. absurd (no_set set q); reports = (k l at).reports }))
  mode_in_range messages mode all (RoleEnds ends) =
      elim ends [ inl is ↦ subst InRange (sym is) (λ l e. absurd (down_leads l e)) | inr is ↦ subst InRange (sym is) (λ l e. absurd (idle_leads l e)) ]

  sent_in_range : (messages sent : List Message) → SentPart messages n x sent → AllByRecursion (MessageIsInRange count) sent
  sent_in_range messages sent (NoneIsSent is) = subst (AllByRecursion (MessageIsInRange count)) (sym is) tt
  sent_in_range messages sent (RequestIsSent f mode is) = subst (AllByRecursion (MessageIsInRange count)) (sym is) (counted, tt)
  sent_in_range messages sent (AnswerIsSent r l mode given free is) = subst (AllByRecursion (MessageIsInRange count)) (sym is) (tt, tt)
  sent_in_range messages sent (ProposalIsSent isr l mode may is) = subst (AllByRecursion (MessageIsInRange count)) (sym is) (set_in_range isr l mode may, tt)

  does : (messages : List Message) (act : Act) (e : Effect) → AllByRecursion (MessageIsInRange count) messages → Parts messages c n x act e → EffectIsInRange count e
  does messages act e all parts =
      record {
        sent = sent_in_range messages e.sent parts.sent;
        mode = mode_in_range messages e.node.mode all parts.mode;
      }

-- ---- each step

elect_in_range : (count : ℕ) (w : World) (n : ℕ) → elect_cause w.controller n ≡ None → WorldIsInRange count w → WorldIsInRange count (with_record w (elected w.controller n))
elect_in_range count w n free h =
    let first = passed _ _ _ free in
    let full = passed _ _ _ first.1 in
    let both = or_false (ltb greatest_epoch (next_epoch w.controller.leader)) (leb greatest_version w.controller.version) full.0 in
    let epoch = ltb-false greatest_epoch (next_epoch w.controller.leader) both.0 in
    let version = leb-false greatest_version w.controller.version both.1 in
    record {
      controller = record {
        leader = λ l e. (let same : record { node = n; epoch = next_epoch w.controller.leader } ≡ l = cc in
            subst (λ (y : Leader). (y.node < count) × (y.epoch ≤ greatest_epoch)) same (rise_below 0 count w.controller.isr n h.controller.isr (not-false _ first.0), epoch));
        isr = h.controller.isr;
        version = omega arith;
      };
      messages = h.messages;
      nodes = h.nodes;
    }
  where
    or_false : (p q : Bool) → (p || q) ≡ false → (p ≡ false) × (q ≡ false)
    or_false true q e = absurd (false≢true (sym e))
    or_false false q e = (refl, e)

-- the controller's decision
decide_in_range : (count : ℕ) (w : World) (p : Proposal) → Rise 0 count p.isr → decide_cause w.controller p ≡ None → WorldIsInRange count w
    → WorldIsInRange count (with_message (with_record w (decided_on w.controller p)) (Decides (decision w.controller p)))
decide_in_range count w p rise free h =
    record {
      controller = after.0;
      messages = all_append (MessageIsInRange count) w.messages (Decides (decision w.controller p) ∷ []) h.messages (after.1, tt);
      nodes = h.nodes;
    }
  where
    full : (same_record w.controller p.known && leb greatest_version w.controller.version) ≡ false
    full = (passed _ _ _ free).0

    lower : same_record w.controller p.known ≡ true → w.controller.version < greatest_version
    lower e = leb-false greatest_version w.controller.version (let rest = rw e at full in rest)

    after : IsInRange count (decided_on w.controller p) × Rise 0 count (decided_on w.controller p).isr
    after =
        cond_both (same_record w.controller p.known) (altered w.controller p.isr) w.controller (λ (r : LeaderAndIsr). IsInRange count r × Rise 0 count r.isr)
        (λ e. (record { leader = h.controller.leader; isr = rise; version = (let low = lower e in omega arith) }, rise)) (λ e. (h.controller, h.controller.isr))

step_in_range : (count : ℕ) (w : World) (event : Event) (outcome : Outcome) (new : World) → w.count ≡ count
    → WorldIsInRange count w → Step w event outcome new → WorldIsInRange count new
step_in_range count w event outcome new counts h s =
    elim (step_cases w event outcome new s) [
      | inl same ↦ subst (WorldIsInRange count) (sym same) h
      | inr done ↦
          elim done [
            | inl e ↦
                elim e [
                  | inl chosen ↦ subst (WorldIsInRange count) (sym chosen.new_is) (elect_in_range count w chosen.node chosen.free h)
                  | inr d ↦
                      subst (WorldIsInRange count) (sym d.new_is)
                      (decide_in_range count w d.asked (each_sent (MessageIsInRange count) w.messages (Proposes d.asked) h.messages d.sent) d.free h)
                ]
            | inr a ↦
                (let counted : a.node < count = subst (λ (k : ℕ). a.node < k) counts a.counted in
                subst (WorldIsInRange count) (sym a.new_is)
                (moved_in_range count w a.node a.effect h
                (does count w.controller a.node (w.nodes a.node) counted h.controller (h.nodes a.node) w.messages a.act a.effect h.messages (parts_of w.messages w.controller a.node (w.nodes a.node) a.act a.effect (acting_class w new a)))))
          ]
    ]

record RunIsInRange (count : ℕ) (moments : List Moment) : Type 0 where
  counts : (now count moments).count ≡ count
  last : WorldIsInRange count (now count moments)
  each : AllByRecursion (λ w. IsInRange count w.controller) (worlds count moments)

in_range : (count : ℕ) (moments : List Moment) → IsRun count moments → RunIsInRange count moments
in_range count [] r =
    let first : IsInRange count (start count).controller = record { leader = λ l e. absurd (false≢true (ap is_some e)); isr = subst (λ (k : ℕ). Rise 0 k (range_with_len 0 count)) (zero-add count) (rise_range 0 count); version = omega arith } in
    record { counts = refl; last = record { controller = first; messages = tt; nodes = λ n l e. absurd (idle_leads l e) }; each = (first, tt) }
in_range count (m ∷ past) r =
    let before = in_range count past r.1 in
    let last = step_in_range count (now count past) m.event m.outcome m.after before.counts before.last r.0 in
    record { counts = (step_onward (now count past) m.event m.outcome m.after r.0).0 ∙ before.counts; last = last; each = (last.controller, before.each) }

pub records_are_in_range : (count : ℕ) (r : Run count) (w : World) → IsOf w r → IsInRange count w.controller
records_are_in_range count r w i = among_each (λ v. IsInRange count v.controller) (worlds count r.moments) w (in_range count r.moments r.is_run).each i
