-- What leaders know, proposals name and decisions have was the controller's record in the run.
use Rattle.std.proofs.Common.{◌≡◌, ◌⊎◌, ℕ, ◌<◌, List, [], ◌∷◌, Some, None, refl, sym, ap, ◌∙◌, subst, arith, inl, inr}
use Rattle.std.specs.List.{AllByRecursion}
use Rattle.std.proofs.lemmas.Bool.{cond_both, not-false, false≢true}
use Rattle.kp_model.specs.World.{Leader, LeaderAndIsr, Leading, Mode, Leads, Node, Proposal, Decision, Message, Proposes, Decides, World}
use Rattle.kp_model.specs.Event.{Event, Outcome}
use Rattle.kp_model.specs.Controller.{same_record, altered}
use Rattle.kp_model.specs.InSync.{learn_cause, known_by}
use Rattle.kp_model.specs.Step.{Step, decided_on, decision}
use Rattle.kp_model.specs.Run.{Moment, IsRun, now, worlds, Among}
use Rattle.kp_model.specs.Laws.{KnownRecordsWere, DecisionsRise}
use Rattle.kp_model.proofs.OneStep.Steps.{each_sent}
use Rattle.kp_model.proofs.OneStep.Classes.{step_cases, acting_class}
use Rattle.kp_model.proofs.OneStep.Parts.{ModePart, ModeStays, NowLeading, NowFollowing, ReportIsLifted, SetIsPending, SetIsKnown, RoleEnds, parts_of}
use Rattle.kp_model.proofs.Plain.SameRecords.{same_itself}
use Rattle.kp_model.proofs.InRuns.Runs.{among_each}
use Rattle.kp_model.proofs.InRuns.RunLaws.{now_among, one_record}
use Rattle.kp_model.proofs.Kinship.Kin.{History, ModeIsKept, with_node_each}
use Rattle.kp_model.proofs.Safety.Held.{Sets, Sent}
use Rattle.kp_model.proofs.Safety.HeldSteps.{down_leads, idle_leads, follows_leads, leads_is}
use Rattle.kp_model.proofs.Safety.HeldPropose.{epoch_of}
use Rattle.kp_model.proofs.Safety.HeldOnto.{AllKept}
use Rattle.kp_model.proofs.Safety.HeldRuns.{run_is_held}
use Rattle.kp_model.proofs.OneStep.Sends.{acting_sends}
use Rattle.kp_types.proofs.Elements.{all_weaker, all_append}
use Rattle.kp_types.proofs.Causes.{passed}

-- the node, if it leads, knows such a record
abbrev NodeKnows : (LeaderAndIsr → Type 0) → ℕ → Node → Type 0
NodeKnows K n x = (l : Leading) → x.mode ≡ Leads l → K (known_by n l)

module _ (K : LeaderAndIsr → Type 0) (w : World) (g : History) (t : Sets) (a : AllKept w g t) (record_is : K w.controller) (decided : (d : Decision) → Sent w (Decides d) → K d.decided)
    (n : ℕ) (own : NodeKnows K n (w.nodes n)) where
  abbrev x : Node
  x = w.nodes n

  abbrev c : LeaderAndIsr
  c = w.controller

  abbrev Leaves : Mode → Type 0
  Leaves mode = (l : Leading) → mode ≡ Leads l → K (known_by n l)

  -- a leader with this record
  leads_now : (m : Leading) → K (known_by n m) → (l : Leading) → Leads m ≡ Leads l → K (known_by n l)
  leads_now m k l e = subst (λ (y : Leading). K (known_by n y)) (leads_is m l e) k

  -- what the record names
  takes_up : (l : Leader) → c.leader ≡ Some l → l.node ≡ n → K (record { leader = Some (record { node = n; epoch = l.epoch }); isr = c.isr; version = c.version })
  takes_up l is at = subst K named record_is
    where
      named : c ≡ record { leader = Some (record { node = n; epoch = l.epoch }); isr = c.isr; version = c.version }
      named = λ i. record { leader = (is ∙ (λ j. Some (record { node = at j; epoch = l.epoch }))) i; isr = c.isr; version = c.version }

  -- what it learned
  learns : (d : Decision) (l : Leading) → Sent w (Decides d) → x.mode ≡ Leads l → learn_cause d l ≡ None → K (known_by n (record l { isr = d.decided.isr; version = d.decided.version; pending = None }))
  learns d l sent mode free =
      let y = epoch_of d.decided l.epoch (not-false _ (passed _ _ _ free).0) in
      let was = a.held.decisions d sent y.0 y.1 in
      let kept : ModeIsKept g n x.log (Leads l) = subst (ModeIsKept g n x.log) mode (a.kept.nodes n).mode in
      let node : (y.0).node ≡ n = sym was.leader ∙ ap g.leader y.2 ∙ kept.1 in
      subst K (named d y.0 y.1 node y.2) (decided d sent)
    where
      named : (d : Decision) (y : Leader) → d.decided.leader ≡ Some y → y.node ≡ n → y.epoch ≡ l.epoch
          → d.decided ≡ record { leader = Some (record { node = n; epoch = l.epoch }); isr = d.decided.isr; version = d.decided.version }
      named d y is at epoch = λ i. record { leader = (is ∙ (λ j. Some (record { node = at j; epoch = epoch j }))) i; isr = d.decided.isr; version = d.decided.version }

  does : (mode : Mode) → ModePart w.messages c n x mode → Leaves mode
  does mode (ModeStays is) = subst Leaves (sym is) own
  does mode (NowLeading l at self is) = subst Leaves (sym is) (leads_now _ (takes_up l at self))
  does mode (NowFollowing l at other is) = subst Leaves (sym is) (λ m e. absurd (follows_leads _ m e))
  does mode (ReportIsLifted r l at given is) = subst Leaves (sym is) (leads_now _ (own l at))
  does mode (SetIsPending isr l at may is) = subst Leaves (sym is) (leads_now _ (own l at))
  does mode (SetIsKnown d l at given free is) = subst Leaves (sym is) (leads_now _ (learns d l given at free))
  does mode (RoleEnds ends) = elim ends [ inl is ↦ subst Leaves (sym is) (λ l e. absurd (down_leads l e)) | inr is ↦ subst Leaves (sym is) (λ l e. absurd (idle_leads l e)) ]

-- ---- each step

-- the record of one of these worlds
abbrev WasOf : List World → LeaderAndIsr → Type 0
WasOf ws r = (v : World) × Among v ws × (r ≡ v.controller)

was_later : (v : World) (ws : List World) (r : LeaderAndIsr) → WasOf ws r → WasOf (v ∷ ws) r
was_later v ws r h = (h.0, inr h.1, h.2)

abbrev MessageKnows : (LeaderAndIsr → Type 0) → Message → Type 0
MessageKnows K (Proposes p) = K p.known
MessageKnows K (Decides d) = K d.decided × (d.proposal.known.version < d.decided.version)
MessageKnows K _ = Unit {0}

record WorldKnows (K : LeaderAndIsr → Type 0) (w : World) : Type 0 where
  nodes : (n : ℕ) → NodeKnows K n (w.nodes n)
  messages : AllByRecursion (MessageKnows K) w.messages

weaker : (K M : LeaderAndIsr → Type 0) → ((r : LeaderAndIsr) → K r → M r) → (w : World) → WorldKnows K w → WorldKnows M w
weaker K M f w h = record { nodes = λ n l e. f (known_by n l) (h.nodes n l e); messages = all_weaker (MessageKnows K) (MessageKnows M) each w.messages h.messages }
  where
    each : (m : Message) → MessageKnows K m → MessageKnows M m
    each (Proposes p) h = f p.known h
    each (Decides d) h = (f d.decided h.0, h.1)
    each _ h = tt

decided_of : (K : LeaderAndIsr → Type 0) (w : World) → WorldKnows K w → (d : Decision) → Sent w (Decides d) → K d.decided
decided_of K w h d sent = let both : MessageKnows K (Decides d) = each_sent (MessageKnows K) w.messages (Decides d) h.messages sent in both.0

-- a decision on a proposal that names the record, or one of a lower version
rises : (c : LeaderAndIsr) (p : Proposal) → (p.known ≡ c) ⊎ (p.known.version < c.version) → p.known.version < (decided_on c p).version
rises c p h =
    cond_both (same_record c p.known) (altered c p.isr) c (λ (r : LeaderAndIsr). p.known.version < r.version)
    (λ e. elim h [ inl same ↦ (let version = ap (λ (r : LeaderAndIsr). r.version) same in omega arith) | inr lower ↦ omega arith ])
    (λ e. elim h [
      | inl same ↦ absurd (false≢true (sym e ∙ ap (same_record c) same ∙ same_itself c))
      | inr lower ↦ lower
    ])

step_knows : (w : World) (g : History) (t : Sets) (a : AllKept w g t) (K : LeaderAndIsr → Type 0) (event : Event) (outcome : Outcome) (new : World)
    → K w.controller → K new.controller → ((p : Proposal) → Sent w (Proposes p) → (p.known ≡ w.controller) ⊎ (p.known.version < w.controller.version)) → WorldKnows K w → Step w event outcome new → WorldKnows K new
step_knows w g t a K event outcome new old next earlier h s =
    elim (step_cases w event outcome new s) [
      | inl same ↦ subst (WorldKnows K) (sym same) h
      | inr done ↦
          elim done [
            | inl e ↦
                elim e [
                  | inl chosen ↦ subst (WorldKnows K) (sym chosen.new_is) (record { nodes = h.nodes; messages = h.messages })
                  | inr d ↦
                      (let told : K (decided_on w.controller d.asked) = subst (λ (v : World). K v.controller) d.new_is next in
                      subst (WorldKnows K) (sym d.new_is)
                      (record {
                        nodes = h.nodes;
                        messages = all_append (MessageKnows K) w.messages (Decides (decision w.controller d.asked) ∷ []) h.messages ((told, rises w.controller d.asked (earlier d.asked d.sent)), tt);
                      }))
                ]
            | inr b ↦
                subst (WorldKnows K) (sym b.new_is)
                (record {
                  nodes = with_node_each (NodeKnows K) w.nodes b.node b.effect.node (λ m ne. h.nodes m)
                      (does K w g t a old (decided_of K w h) b.node (h.nodes b.node) b.effect.node.mode (parts_of w.messages w.controller b.node (w.nodes b.node) b.act b.effect (acting_class w new b)).mode);
                  messages = all_append (MessageKnows K) w.messages b.effect.sent h.messages
                      (acting_sends (MessageKnows K) w new b (λ n f mode. tt) (λ n r l sent mode free. tt) (λ n isr l mode. h.nodes n l mode));
                })
          ]
    ]

knows_now : (count : ℕ) (moments : List Moment) → IsRun count moments → WorldKnows (WasOf (worlds count moments)) (now count moments)
knows_now count [] r = record { nodes = λ n l e. absurd (idle_leads l e); messages = tt }
knows_now count (m ∷ past) r =
    let run = run_is_held count past r.1 in
    let before = knows_now count past r.1 in
    let earlier = λ (p : Proposal) (q : Sent (now count past) (Proposes p)).
    (let was : MessageKnows (WasOf (worlds count past)) (Proposes p) = each_sent (MessageKnows (WasOf (worlds count past))) (now count past).messages (Proposes p) before.messages q in
    earlier_by p was (one_record count (record { moments = past; is_run = r.1 }) was.0 was.1)) in
    step_knows (now count past) run.history run.sets run.all (WasOf (m.after ∷ worlds count past)) m.event m.outcome m.after
    (now count past, inr (now_among count past), refl) (m.after, inl refl, refl) earlier
    (weaker (WasOf (worlds count past)) (WasOf (m.after ∷ worlds count past)) (was_later m.after (worlds count past)) (now count past) before) r.0
  where
    earlier_by : (p : Proposal) (was : WasOf (worlds count past) p.known) → ((was.0).controller ≡ (now count past).controller) ⊎ ((was.0).controller.version < (now count past).controller.version)
        → (p.known ≡ (now count past).controller) ⊎ (p.known.version < (now count past).controller.version)
    earlier_by p was (inl same) = inl (was.2 ∙ same)
    earlier_by p was (inr lower) = inr (let at = ap (λ (r : LeaderAndIsr). r.version) was.2 in omega arith)

knows_each : (count : ℕ) (moments : List Moment) → IsRun count moments → AllByRecursion (WorldKnows (WasOf (worlds count moments))) (worlds count moments)
knows_each count [] r = (knows_now count [] r, tt)
knows_each count (m ∷ past) r = (
  knows_now count (m ∷ past) r,
  all_weaker (WorldKnows (WasOf (worlds count past))) (WorldKnows (WasOf (m.after ∷ worlds count past)))
      (weaker (WasOf (worlds count past)) (WasOf (m.after ∷ worlds count past)) (was_later m.after (worlds count past))) (worlds count past) (knows_each count past r.1),
)

pub known_records_were : KnownRecordsWere
known_records_were count r w i =
    let K = WasOf (worlds count r.moments) in
    let h = among_each (WorldKnows K) (worlds count r.moments) w (knows_each count r.moments r.is_run) i in (
      h.nodes,
      λ p sent. each_sent (MessageKnows K) w.messages (Proposes p) h.messages sent,
      decided_of K w h,
    )

pub decisions_rise : DecisionsRise
decisions_rise count r w i d sent =
    let K = WasOf (worlds count r.moments) in
    let h = among_each (WorldKnows K) (worlds count r.moments) w (knows_each count r.moments r.is_run) i in
    let both : MessageKnows K (Decides d) = each_sent (MessageKnows K) w.messages (Decides d) h.messages sent in
    both.1
