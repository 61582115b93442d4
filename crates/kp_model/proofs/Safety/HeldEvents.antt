-- Each action of a node, and each election, takes the facts on.
use Rattle.std.proofs.Common.{◌≡◌, ◌⊎◌, ℕ, ◌+◌, Bool, true, false, cond, eqb, List, ◌++◌, Option, Some, None, refl, sym, ap, ◌∙◌, subst, arith, inl, inr, ◌<◌}
use Rattle.std.specs.Prelude.{is_some, max}
use Rattle.std.specs.Option.{option_map_or}
use Rattle.std.proofs.lemmas.Bool.{eqb-true, eqb-false, false≢true, not-false, ltb-false, ltb-true}
use Rattle.kp_types.specs.declared.refusal.Refusal.TheVariants as refusals
use Rattle.kp_model.specs.Beginning.{Begins}
use Rattle.kp_model.specs.Log.{Batch, end_of}
use Rattle.kp_model.specs.World.{Leader, Leading, Following, Mode, Down, Idle, Leads, Follows, Node, Request, Answer, Message, Asks, Answers, World, no_reports, with_record, with_node, with_message, Proposal, Decision, Proposes, Decides}
use Rattle.kp_model.specs.Event.{Act, Event, Reply, Outcome, NowLeads, NowFollows, Took, Cut, Refused}
use Rattle.kp_model.specs.Controller.{next_epoch, same_record, has_epoch, elected, altered}
use Rattle.kp_model.specs.Effect.{Effect, mode_epoch}
use Rattle.kp_model.specs.Adopting.{Adopts, is_above, is_news}
use Rattle.kp_model.specs.Fetching.{Serves, Takes, TakesSome, Cuts, piece, grown, mark_taken, take_cause, cut_cause, serve_cause, asked, answer, reporting}
use Rattle.kp_model.specs.Raising.{raised}
use Rattle.kp_model.specs.InSync.{Proposes-set, Learns, proposal, learn_cause}
use Rattle.kp_model.specs.Step.{Step, moved, elect_cause}
use Rattle.kp_model.proofs.Plain.Beginnings.{Begins-refl, Begins-append, Begins-trans}
use Rattle.kp_model.proofs.OneStep.Steps.{becoming, staying, sending, with_node_same, moved_becomes, each_sent}
use Rattle.kp_model.proofs.OneStep.Classes.{step_cases, IsChange, MayPropose, Rests, TakesUp, GrowsByOwn, GrowsByAnswer, GrowsInPart, IsCut, SendsRequest, SendsAnswer, SendsProposal, KnowsMore, RaisesMark, NotesMark, GoesDown, BeginsLife, ClassIn, acting_class}
use Rattle.kp_model.proofs.Plain.SameRecords.{same_record_is}
use Rattle.kp_model.proofs.Kinship.SoundLogs
use Rattle.kp_model.proofs.Kinship.SoundLogs.{elections_of}
use Rattle.kp_model.proofs.Kinship.Ledger.{IsMade}
use Rattle.kp_model.proofs.Kinship.Kin
use Rattle.kp_model.proofs.Kinship.Kin.{History, IsKept, ModeIsKept, MessageIsKept, same_log, re_recorded, elect_kept, take_kept, take_some_kept, cut_kept, grown_made, cut_facts, has_epoch_is, leads_kept}
use Rattle.kp_model.proofs.Safety.Held.{Sets, IsIn, Sent, answer_has, cut_holds, kept_bound, IsOfLeader, Knows, CaughtUp, IsHeld}
use Rattle.kp_model.proofs.Safety.HeldNodes.{NodeChange, changed_held, committed_after, epoch_after}
use Rattle.kp_model.proofs.Safety.HeldSteps.{goes_down, restarts, marks_change, follows_now, takes, cuts}
use Rattle.kp_model.proofs.Safety.HeldMarks.{raises}
use Rattle.kp_model.proofs.Safety.HeldMessages.{Sending, sent_held, committed_sent, epoch_sent, asks, lifts, answering}
use Rattle.kp_model.proofs.Safety.HeldRecord.{elect_held, committed_elected, epoch_elected, with_members}
use Rattle.kp_model.proofs.Safety.HeldPropose.{proposes, proposing, learns}
use Rattle.kp_model.proofs.Safety.HeldDecide.{new_sets, decide_held, committed_decided, epoch_decided, deciding}
use Rattle.kp_model.proofs.Safety.Members.{with_member_cases, with_member_keeps, without_member_had, without_member_keeps, caught_up}
use Rattle.kp_model.proofs.Safety.HeldOnto.{AllKept, Onto, onto_same, node_onto, led_same, led_follows, onto_then}
use Rattle.kp_model.proofs.Safety.HeldAppend.{append_onto}
use Rattle.kp_model.proofs.Safety.HeldLeads.{lead_onto, node_at}
use Rattle.kp_types.proofs.Causes.{passed}

module _ (w : World) (g : History) (t : Sets) (a : AllKept w g t) where
  -- a message is sent, and no node changes
  sent_onto : (m : Message) → Sending w g t m → MessageIsKept g m → Onto w g t (with_message w m)
  sent_onto m c k =
      record {
        next = g;
        sets = t;
        kept = Kin.sent w g m a.kept k;
        held = sent_held w g t a.held m c;
        led = a.led;
        own = a.own;
        grows = λ e. Begins-refl (g.ledger e);
        began = λ e first o. o;
        committed = committed_sent w g t a.held m c;
        epoch = λ P p. inl (epoch_sent w g t a.held m c P p);
        stays = λ n P p b. b;
      }

  module _ (n : ℕ) where
    abbrev x : Node
    x = w.nodes n

    -- the log stays
    same_onto : (y : Node) → y.log ≡ x.log → NodeChange w g t n y → ModeIsKept g n x.log y.mode → Onto w g t (with_node w n y)
    same_onto y same c mode =
        node_onto w g t a n y c
        (Kin.changed w g n y a.kept (record { made = subst (λ (k : List Batch). IsMade g.ledger k) (sym same) (a.kept.nodes n).made; mode = subst (λ (k : List Batch). ModeIsKept g n k y.mode) (sym same) mode })
        (λ l e s. subst (Begins (g.ledger l.epoch)) (sym same) (same_log w g n a.kept l e s)))
        (led_same w g t n y same a.led)
        (λ P p b. subst (Begins P) (sym same) b)

    -- ---- adopt

    adopt_by : (l : Leader) (b : Bool) → eqb l.node n ≡ b → w.controller.leader ≡ Some l → is_above (cond b x.kept (mode_epoch x.mode)) l.epoch ≡ true
        → Onto w g t (with_node w n (record x {
          kept = Some l.epoch;
          mode = (cond {A = Mode × Reply} b
              (Leads (record { epoch = l.epoch; isr = w.controller.isr; version = w.controller.version; pending = None; start = end_of x.log; reported = no_reports }), NowLeads l.epoch (end_of x.log))
              (Follows (record { leader = l.node; epoch = l.epoch }), NowFollows l.node l.epoch)).0;
        }))
    adopt_by l true b e news = lead_onto w g t a n l e (eqb-true l.node n b) (above x.kept l.epoch news)
      where
        above : (o : Option ℕ) (epoch : ℕ) → is_above o epoch ≡ true → kept_bound o < epoch + 1
        above None epoch t = omega arith
        above (Some own) epoch t = (let lower = ltb-true own epoch t in omega arith)
    adopt_by l false b e news =
        let f : Following = record { leader = l.node; epoch = l.epoch } in
        same_onto (record x { kept = Some l.epoch; mode = Follows f }) refl (follows_now w g t a.sound a.held a.kept n l f e refl) (λ same. eqb-false l.node n b (sym (a.kept.leader l e) ∙ same))

    takes_up : (l : Leader) (f : Effect) → w.controller.leader ≡ Some l → is_news w.controller n x ≡ true → Adopts w.controller n x (Some l) f → Onto w g t (moved w n f)
    takes_up l f e told h =
        let above : is_above (cond (eqb l.node n) x.kept (mode_epoch x.mode)) l.epoch ≡ true =
        subst (λ (o : Option Leader). option_map_or (λ y. is_above (cond (eqb y.node n) x.kept (mode_epoch x.mode)) y.epoch) o false ≡ true) e told in
        becoming (Onto w g t) w n f _ _ h (adopt_by l (eqb l.node n) refl e above)

    -- ---- serve

    serve_onto : (l : Leading) (r : Request) (f : Effect) → x.mode ≡ Leads l → Sent w (Asks r) → MessageIsKept g (Asks r) → r.epoch ≡ l.epoch → Serves x r l f → Onto w g t (moved w n f)
    serve_onto l r f mode q k epoch h =
        let m : Message = Answers (answer x r) in
        let kept : ModeIsKept g n x.log (Leads l) = subst (ModeIsKept g n x.log) mode (a.kept.nodes n).mode in
        let whole : x.log ≡ g.ledger r.epoch = kept.0 ∙ ap g.ledger (sym epoch) in
        let message : MessageIsKept g m = (k, subst (Begins x.log) whole (Begins-refl x.log)) in
        elim h [
          | inl lift ↦
              (let y : Node = record x { mode = Leads (reporting l r.from (end_of r.log)) } in
              let v : World = with_node w n y in
              let c = lifts w g t a.sound a.held a.kept n l mode r q epoch lift.0 in
              let first = same_onto y refl c kept in
              let committed = committed_after w g t a.sound a.held a.kept n y c in
              let said = answering w g t a.sound a.held a.kept n l mode r q epoch v committed in
              sending (Onto w g t) w n f _ _ _ lift.1
              (record {
                next = g;
                sets = t;
                kept = Kin.sent v g m (Kin.changed w g n y a.kept (record { made = (a.kept.nodes n).made; mode = kept }) (same_log w g n a.kept)) message;
                held = sent_held v g t (changed_held w g t a.sound a.held a.kept n y c) m said;
                led = led_same w g t n y refl a.led;
                own = a.own;
                grows = λ e. Begins-refl (g.ledger e);
                began = λ e first o. o;
                committed = λ P p. committed_sent v g t (changed_held w g t a.sound a.held a.kept n y c) m said P (committed P p);
                epoch = λ P p.
                    inl (epoch_sent v g t (changed_held w g t a.sound a.held a.kept n y c) m said P (committed P p) ∙ epoch_after w g t a.sound a.held a.kept n y c P p);
                stays = first.stays;
              }))
          | inr diverges ↦
              sending (Onto w g t) w n f _ _ _ diverges.1
              (subst (λ (v : World). Onto w g t (with_message v m)) (sym (with_node_same w n))
              (sent_onto m (answering w g t a.sound a.held a.kept n l mode r q epoch w (λ P p. p)) message))
        ]

    same_epoch : (log : List Batch) (r : Request) (l : Leading) → serve_cause log r l ≡ None → r.epoch ≡ l.epoch
    same_epoch log r l c =
        let not_fenced = passed _ _ _ c in
        let not_ahead = passed _ _ _ not_fenced.1 in
        let lower = ltb-false r.epoch l.epoch not_fenced.0 in
        let upper = ltb-false l.epoch r.epoch not_ahead.0 in
        omega arith

    -- ---- take

    take_onto : (b : Answer) → Sent w (Answers b) → MessageIsKept g (Answers b) → take_cause x b ≡ None → (f : Effect) → Takes x b f → Onto w g t (moved w n f)
    take_onto b q k c f h =
        let made = grown_made w g n b a.kept k c h.0 in
        let p = made.1 in
        let answered : Begins b.log (g.ledger made.0.epoch) = subst (λ (e : ℕ). Begins b.log (g.ledger e)) (sym p.epoch) k.1 in
        let y : Node = record x { log = grown x b; watermark = max x.watermark (mark_taken x b) } in
        let kept : IsKept (with_node w n y) g =
        subst (λ (v : World). IsKept v g) (moved_becomes w n y (Took (end_of (grown x b)) (max x.watermark (mark_taken x b)))) (take_kept w g n b _ c a.kept k (h.0, refl)) in
        becoming (Onto w g t) w n f y _ h.1
        (node_onto w g t a n y (takes w g t a.sound a.held a.kept n b q made.0 p made.2 answered) kept (led_follows w g t a n y made.0 p.is)
        (λ P i z. Begins-trans z (Begins-append x.log (piece b.log b.request))))

    take_some_onto : (b : Answer) → Sent w (Answers b) → MessageIsKept g (Answers b) → take_cause x b ≡ None → (f : Effect) → TakesSome x b f → Onto w g t (moved w n f)
    take_some_onto b q k c f h =
        let made = grown_made w g n b a.kept k c h.continues in
        let y : Node = record x { log = x.log ++ h.some; mode = Down } in
        let kept : IsKept (with_node w n y) g =
        subst (λ (v : World). IsKept v g) (moved_becomes w n y (Refused refusals.Memory)) (take_some_kept w g n b _ c a.kept k (record { continues = h.continues; some = h.some; begins = h.begins; effect_is = refl })) in
        becoming (Onto w g t) w n f y _ h.effect_is
        (node_onto w g t a n y (goes_down w g t a.sound a.held a.kept n (x.log ++ h.some) x.kept (Begins-append x.log h.some) (omega arith) (a.held.kept n)) kept (led_follows w g t a n y made.0 made.1.is)
        (λ P i z. Begins-trans z (Begins-append x.log h.some)))

    -- ---- cut

    pub last_election : (epoch : ℕ) → has_epoch w.controller (Some epoch) ≡ true → elections_of w ≡ epoch + 1
    last_election epoch e = by_leader w.controller.leader refl
      where
        by_leader : (o : Option Leader) → w.controller.leader ≡ o → elections_of w ≡ epoch + 1
        by_leader None is = absurd (false≢true (let f = e in rw is at f))
        by_leader (Some l) is = ap next_epoch is ∙ ap (λ (k : ℕ). k + 1) (has_epoch_is w.controller l epoch is e)

    cut_onto : (b : Answer) → Sent w (Answers b) → MessageIsKept g (Answers b) → cut_cause w.controller n x b ≡ None → (f : Effect) → Cuts x b f → Onto w g t (moved w n f)
    cut_onto b q k c f h =
        let found = cut_facts w.controller n x b c in
        let l = found.0 in
        let facts = found.1 in
        let top = last_election l.epoch facts.recorded in
        let y : Node = record x { log = h.left } in
        let kept : IsKept (with_node w n y) g =
        subst (λ (v : World). IsKept v g) (moved_becomes w n y (Cut (end_of h.left)))
        (cut_kept w g n b _ c a.kept k (record {
          diverges = h.diverges;
          same = h.same;
          left = h.left;
          common = h.common;
          begins = h.begins;
          is_common = h.is_common;
          keeps = h.keeps;
          shorter = h.shorter;
          effect_is = refl;
        })) in
        let asked = facts.asked in
        becoming (Onto w g t) w n f y _ h.effect_is
        (node_onto w g t a n y
        (cuts w g t a.sound a.held a.kept n b q l h.left h.common facts.is facts.asked h.same top h.begins h.is_common h.keeps)
        kept (led_follows w g t a n y l facts.is)
        (λ P p z. cut_holds h.left x.log b.log h.common P h.is_common h.keeps z
        (answer_has w g t a.held a.kept b q (omega (arith, top, asked)) P p (subst (Begins P) (sym h.same) z))))

    -- ---- learn

    learn_onto : (d : Decision) (l : Leading) (f : Effect) → x.mode ≡ Leads l → Sent w (Decides d) → learn_cause d l ≡ None → Learns x d l f → Onto w g t (moved w n f)
    learn_onto d l f mode q c h =
        let has = passed _ _ _ c in
        let news = passed _ _ _ has.1 in
        let kept : ModeIsKept g n x.log (Leads l) = subst (ModeIsKept g n x.log) mode (a.kept.nodes n).mode in
        let y : Node = record x { mode = Leads (record l { isr = d.decided.isr; version = d.decided.version; pending = None }) } in
        becoming (Onto w g t) w n f y _ h
        (same_onto y refl (learns w g t a.sound a.held a.kept n l mode d q (not-false _ has.0) (ltb-true l.version d.decided.version (not-false _ news.0))) kept)

    -- ---- join, leave

    propose_onto : (isr : List ℕ) (l : Leading) (f : Effect) → x.mode ≡ Leads l → IsIn n isr
        → ((p : Proposal) → Sent w (Proposes p) → IsOfLeader p (g.leader l.epoch) l.epoch → p.known.version ≡ l.version → isr ≡ p.isr)
        → Knows t (record l { pending = Some isr }) → ((m : ℕ) → IsIn m isr → IsIn m l.isr ⊎ CaughtUp x.watermark l m)
        → Proposes-set n x isr l f → Onto w g t (moved w n f)
    propose_onto isr l f mode own asked knows ready h =
        let m : Leading = record l { pending = Some isr } in
        let y : Node = record x { mode = Leads m } in
        let v : World = with_node w n y in
        let kept : ModeIsKept g n x.log (Leads l) = subst (ModeIsKept g n x.log) mode (a.kept.nodes n).mode in
        let c = proposes w g t a.sound a.held a.kept n l mode isr own asked knows ready in
        let first = same_onto y refl c kept in
        let held : IsHeld v g t = changed_held w g t a.sound a.held a.kept n y c in
        let history : IsKept v g = Kin.leads_kept w g n l m mode refl a.kept in
        let here : (v.nodes n).mode ≡ Leads m = ap (λ (z : Node). z.mode) (node_at w n y) in
        let said = proposing v g t (SoundLogs.leads_keeps w n l m mode refl a.sound) held history n m here isr refl in
        let committed = committed_after w g t a.sound a.held a.kept n y c in
        sending (Onto w g t) w n f _ _ _ h
        (record {
          next = g;
          sets = t;
          kept = Kin.sent v g (Proposes (proposal n l isr)) history tt;
          held = sent_held v g t held (Proposes (proposal n l isr)) said;
          led = led_same w g t n y refl a.led;
          own = a.own;
          grows = λ e. Begins-refl (g.ledger e);
          began = λ e first o. o;
          committed = λ P p. committed_sent v g t held (Proposes (proposal n l isr)) said P (committed P p);
          epoch = λ P p. inl (epoch_sent v g t held (Proposes (proposal n l isr)) said P (committed P p) ∙ epoch_after w g t a.sound a.held a.kept n y c P p);
          stays = first.stays;
        })

    some_set : (one other : List ℕ) → Some one ≡ Some other → one ≡ other
    some_set one other e = cc

    no_set : (set : List ℕ) → None ≡ Some set → ⊥
    no_set set e = false≢true (ap is_some e)

    knows_more : (l : Leading) (isr : List ℕ) → Knows t l → (l.pending ≡ None) ⊎ (l.pending ≡ Some isr) → Knows t (record l { pending = Some isr })
    knows_more l isr (inl now) c = inl now
    knows_more l isr (inr next) (inl none) = absurd (no_set (t.members l.epoch) (sym none ∙ next.1))
    knows_more l isr (inr next) (inr same) = inr (next.0, sym same ∙ next.1)

    asked_before : (l : Leading) (isr : List ℕ) → x.mode ≡ Leads l → (l.pending ≡ None) ⊎ (l.pending ≡ Some isr)
        → (p : Proposal) → Sent w (Proposes p) → IsOfLeader p (g.leader l.epoch) l.epoch → p.known.version ≡ l.version → isr ≡ p.isr
    asked_before l isr mode c p q of same =
        let pending = ((a.held.leads n l mode).asked p q of).1 same in
        elim c [ inl none ↦ absurd (no_set p.isr (sym none ∙ pending)) | inr is ↦ some_set isr p.isr (sym is ∙ pending) ]

    own_member : (l : Leading) → x.mode ≡ Leads l → IsIn n l.isr
    own_member l mode =
        let kept : ModeIsKept g n x.log (Leads l) = subst (ModeIsKept g n x.log) mode (a.kept.nodes n).mode in
        subst (λ (j : ℕ). IsIn j l.isr) kept.1 (a.held.leads n l mode).self

    -- in a change n stays, and who is new has caught up
    change_ready : (l : Leading) (isr : List ℕ) → x.mode ≡ Leads l → IsChange n x l isr → IsIn n isr × ((m : ℕ) → IsIn m isr → IsIn m l.isr ⊎ CaughtUp x.watermark l m)
    change_ready l isr mode (inl (member, is, tested)) =
        let up = caught_up x.watermark l member tested in
        let new : CaughtUp x.watermark l member = record { end = up.0; reported = up.1; above_mark = up.2; above_start = up.3 } in
        subst (λ (set : List ℕ). IsIn n set × ((m : ℕ) → IsIn m set → IsIn m l.isr ⊎ CaughtUp x.watermark l m)) (sym is) (
          with_member_keeps member n l.isr (own_member l mode),
          λ m i. elim (with_member_cases member m l.isr i) [ inl old ↦ inl old | inr same ↦ inr (subst (CaughtUp x.watermark l) same new) ],
        )
    change_ready l isr mode (inr (member, is, other)) =
        subst (λ (set : List ℕ). IsIn n set × ((m : ℕ) → IsIn m set → IsIn m l.isr ⊎ CaughtUp x.watermark l m)) (sym is) (
          without_member_keeps member n l.isr (λ same. other (sym same)) (own_member l mode),
          λ m i. inl (without_member_had member m l.isr i),
        )

    -- the set that is asked for, by whether it is pending already
    change_onto : (isr : List ℕ) (l : Leading) (f : Effect) → x.mode ≡ Leads l → MayPropose n x l isr → Proposes-set n x isr l f → Onto w g t (moved w n f)
    change_onto isr l f mode (inl (none, change)) h =
        let ready = change_ready l isr mode change in
        propose_onto isr l f mode ready.0 (asked_before l isr mode (inl none)) (knows_more l isr (a.held.leads n l mode).knows (inl none)) ready.1 h
    change_onto isr l f mode (inr same) h =
        let held = a.held.leads n l mode in
        let kept : ModeIsKept g n x.log (Leads l) = subst (ModeIsKept g n x.log) mode (a.kept.nodes n).mode in
        propose_onto isr l f mode (subst (λ (j : ℕ). IsIn j isr) kept.1 (held.own isr same)) (asked_before l isr mode (inr same)) (knows_more l isr held.knows (inr same))
        (a.held.ready n l mode isr same) h

    -- ---- all actions

    given : (m : Message) → Sent w m → MessageIsKept g m
    given m q = each_sent (MessageIsKept g) w.messages m a.kept.messages q

    does : (act : Act) (f : Effect) → ClassIn w n act f → Onto w g t (moved w n f)
    does act f (Rests reply fair h) = staying (Onto w g t) w n f _ h (onto_same w g t a)
    does act f (TakesUp l e news h) = takes_up l f e news h
    does act f (GrowsByOwn l body mode lawful hands free h) = becoming (Onto w g t) w n f _ _ h (append_onto w g t a n l body mode lawful)
    does act f (GrowsByAnswer b q free moves h) = take_onto b q (given (Answers b) q) free f h
    does act f (GrowsInPart b q free h) = take_some_onto b q (given (Answers b) q) free f h
    does act f (IsCut b q free h) = cut_onto b q (given (Answers b) q) free f h
    does act f (SendsRequest l reply fair mode h) =
        sending (Onto w g t) w n f _ _ _ h
        (subst (λ (v : World). Onto w g t (with_message v (Asks (asked n x l)))) (sym (with_node_same w n))
        (sent_onto (Asks (asked n x l)) (asks w g t a.held n l mode) (a.kept.nodes n).made))
    does act f (SendsAnswer r l mode q free h) = serve_onto l r f mode q (given (Asks r) q) (same_epoch x.log r l free) h
    does act f (SendsProposal isr l mode may h) = change_onto isr l f mode may h
    does act f (KnowsMore d l mode q free h) = learn_onto d l f mode q free h
    does act f (RaisesMark l mode moves h) =
        becoming (Onto w g t) w n f _ _ h
        (same_onto (record x { watermark = raised n x l }) refl (raises w g t a.sound a.held a.kept n l mode) (a.kept.nodes n).mode)
    does act f (NotesMark reply fair h) =
        becoming (Onto w g t) w n f _ _ h
        (same_onto (record x { checkpoint = x.watermark }) refl
        (marks_change w g t a.sound a.held a.kept n x.watermark x.watermark (omega arith) (inl (a.held.marks n)) (a.held.marks n) (a.held.ready n)) (a.kept.nodes n).mode)
    does act f (GoesDown reply fair h) =
        becoming (Onto w g t) w n f _ _ h
        (same_onto (record x { mode = Down }) refl (goes_down w g t a.sound a.held a.kept n x.log x.kept (Begins-refl x.log) (omega arith) (a.held.kept n)) tt)
    does act f (BeginsLife reply fair moves h) =
        becoming (Onto w g t) w n f _ _ h
        (same_onto (record x { watermark = x.checkpoint; life = x.life + 1; mode = Idle }) refl (restarts w g t a.sound a.held a.kept n) tt)

    -- ---- elect

    elects : elect_cause w.controller n ≡ None → Onto w g t (with_record w (elected w.controller n))
    elects c =
        let first = passed _ _ _ c in
        let member : IsIn n w.controller.isr = not-false _ first.0 in
        record {
          next = Kin.elected_history g n (elections_of w);
          sets = with_members t (elections_of w) w.controller.isr (w.controller.version + 1);
          kept = elect_kept w g n a.sound a.kept;
          held = elect_held w g t a.sound a.held a.kept n member;
          led = λ l e f o. absurd (let same : record { node = n; epoch = elections_of w } ≡ l = cc in
              let epoch : elections_of w ≡ l.epoch = ap (λ (y : Leader). y.epoch) same in
              false≢true (ap is_some (sym (a.held.later l.epoch (omega arith)) ∙ o)));
          own = a.own;
          grows = λ e. Begins-refl (g.ledger e);
          began = λ e first o. o;
          committed = committed_elected w g t a.sound a.held a.kept n member;
          epoch = epoch_elected w g t a.sound a.held a.kept n member;
          stays = λ m P p b. b;
        }

-- ---- the controller decides

module _ (w : World) (g : History) (t : Sets) (a : AllKept w g t) (p : Proposal) (sent : Sent w (Proposes p)) where
  decided : (same : p.known ≡ w.controller) → Onto w g t (with_record w (altered w.controller p.isr))
  decided same =
      record {
        next = g;
        sets = new_sets w g t a.sound a.held a.kept p sent same;
        kept = re_recorded w g (altered w.controller p.isr) refl a.kept;
        held = decide_held w g t a.sound a.held a.kept p sent same;
        led = a.led;
        own = a.own;
        grows = λ e. Begins-refl (g.ledger e);
        began = λ e first o. o;
        committed = committed_decided w g t a.sound a.held a.kept p sent same;
        epoch = λ P c. inl (epoch_decided w g t a.sound a.held a.kept p sent same P c);
        stays = λ m P c b. b;
      }

  decide_by : (b : Bool) → same_record w.controller p.known ≡ b
      → Onto w g t (with_message (with_record w (cond b (altered w.controller p.isr) w.controller)) (Decides (record { proposal = p; decided = cond b (altered w.controller p.isr) w.controller })))
  decide_by false e = sent_onto w g t a (Decides (record { proposal = p; decided = w.controller })) (deciding w g t a.held a.kept p) tt
  decide_by true e =
      let v : World = with_record w (altered w.controller p.isr) in
      let o = decided (sym (same_record_is w.controller p.known e)) in
      let all : AllKept v o.next o.sets = record { sound = SoundLogs.record_keeps w (altered w.controller p.isr) refl a.sound; kept = o.kept; held = o.held; led = o.led; own = o.own } in
      onto_then w v _ g t o (sent_onto v o.next o.sets all (Decides (record { proposal = p; decided = v.controller })) (deciding v o.next o.sets all.held all.kept p) tt)

pub step_onto : (w : World) (g : History) (t : Sets) (event : Event) (outcome : Outcome) (new : World) → AllKept w g t → Step w event outcome new → Onto w g t new
step_onto w g t event outcome new a s =
    elim (step_cases w event outcome new s) [
      | inl same ↦ subst (Onto w g t) (sym same) (onto_same w g t a)
      | inr done ↦
          elim done [
            | inl e ↦
                elim e [
                  | inl chosen ↦ subst (Onto w g t) (sym chosen.new_is) (elects w g t a chosen.node chosen.free)
                  | inr d ↦ subst (Onto w g t) (sym d.new_is) (decide_by w g t a d.asked d.sent (same_record w.controller d.asked.known) refl)
                ]
            | inr b ↦
                subst (Onto w g t) (sym b.new_is)
                (does w g t a b.node b.act b.effect (acting_class w new b))
          ]
    ]
