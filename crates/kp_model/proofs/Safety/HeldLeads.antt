-- A node that the record names takes up its leadership.
use Rattle.std.proofs.Common.{◌≡◌, ◌⊎◌, ℕ, zero, suc, ◌+◌, ◌<◌, ◌≤◌, Bool, true, false, cond, eqb, List, [], Option, Some, None, refl, sym, ap, ◌∙◌, subst, arith, inl, inr}
use Rattle.std.specs.Prelude.{max, is_some, slice_index_or, replicate}
use Rattle.std.proofs.lemmas.Bool.{eq-eqb, false≢true}
use Rattle.kp_model.specs.Beginning.{Begins}
use Rattle.kp_model.specs.Log.{Batch, end_of}
use Rattle.kp_model.specs.World.{Leader, LeaderAndIsr, Leading, Down, Leads, Node, World, with_node, no_reports, report_of, Proposal, Proposes}
use Rattle.kp_model.specs.Controller.{next_epoch}
use Rattle.kp_model.proofs.Plain.Beginnings.{Begins-refl, Begins-nil, Begins-trans}
use Rattle.kp_model.proofs.Plain.Logs.{end_of-append}
use Rattle.kp_model.proofs.OneStep.Steps.{with_node_same}
use Rattle.kp_model.proofs.Kinship.SoundLogs
use Rattle.kp_model.proofs.Kinship.SoundLogs.{AllBelow, mode_bound, elections_of, WorldIsSound, all_below}
use Rattle.kp_model.proofs.Kinship.Ledger.{IsMade, with_log, with_log_grows, made_later}
use Rattle.kp_model.proofs.Kinship.Kin
use Rattle.kp_model.proofs.Kinship.Kin.{History, IsKept, ModeIsKept, Leads-now, same_log, led_kept, grown_kept, appended}
use Rattle.kp_model.proofs.Safety.Held.{Sets, IsIn, bound, IsPossible, HasPassed, LeaderIsHeld, kept_bound, Sent}
use Rattle.kp_model.proofs.Safety.HeldNodes.{NodeChange}
use Rattle.kp_model.proofs.Safety.HeldSteps.{own_request, goes_down, leads_is}
use Rattle.kp_model.proofs.Safety.HeldGrown.{with_began, began_at, grown_held, grown_led, own_grown, grows, began_later, committed_grown, epoch_grown, log_grown}
use Rattle.kp_model.proofs.Safety.HeldOnto.{AllKept, Onto, onto_then, node_onto, led_same, none_some}

-- ---- a node that is down leads in the last epoch

abbrev pub leading : LeaderAndIsr → ℕ → List Batch → Leading
leading r epoch log = record { epoch = epoch; isr = r.isr; version = r.version; pending = None; start = end_of log; reported = no_reports }

pub replicate_each : (c m : ℕ) (o : Option ℕ) → slice_index_or (replicate c o) m o ≡ o
replicate_each zero m o = refl
replicate_each (suc c) zero o = refl
replicate_each (suc c) (suc m) o = replicate_each c m o

module _ (w : World) (g : History) (t : Sets) (a : AllKept w g t) (n : ℕ) (l : Leader) (recorded : w.controller.leader ≡ Some l) (named : l.node ≡ n) (down : (w.nodes n).mode ≡ Down) (keeps : l.epoch + 1 ≤ kept_bound (w.nodes n).kept) (none : t.began l.epoch ≡ None) where
  elections : elections_of w ≡ l.epoch + 1
  elections = ap next_epoch recorded

  here : bound w n ≡ l.epoch + 1
  here = ap (mode_bound (elections_of w)) down ∙ elections

  leader : g.leader l.epoch ≡ n
  leader = a.kept.leader l recorded ∙ named

  member : IsIn n w.controller.isr
  member = subst (λ (j : ℕ). IsIn j w.controller.isr) named (a.held.record_is l recorded).leader

  -- its log becomes that of its epoch, if there was none
  pub record Begun : Type 0 where
    pub onto : Onto w g t w
    pub first : List Batch
    pub began : onto.sets.began l.epoch ≡ Some first

  abbrev log : List Batch
  log = (w.nodes n).log

  empty : g.ledger l.epoch ≡ []
  empty = a.held.not_begun l.epoch none

  made : Begins (g.ledger l.epoch) log
  made = subst (λ (k : List Batch). Begins k log) (sym empty) (Begins-nil log)

  never : (f : List Batch) → t.began l.epoch ≡ Some f → ⊥
  never f o = none_some f (sym none ∙ o)

  -- no node has moved on from the last epoch
  limit : ((f : List Batch) × (t.began l.epoch ≡ Some f)) ⊎ HasPassed w t l.epoch → (other Q : List Batch) → IsMade g.ledger other → Begins Q other → Begins Q log → Begins Q (g.ledger l.epoch)
  limit c other Q made p q =
      elim c [
        | inl b ↦ absurd (never b.0 b.1)
        | inr p ↦ absurd (let moved = p.moved in let within = (a.sound.nodes p.member).within in let top = elections in omega arith)
      ]

  passed : (before : ℕ) → before < l.epoch → HasPassed w t before
  passed before lt = a.held.passed_member n before (inl member) (let b = here in omega arith)

  holds : (before : ℕ) (P : List Batch) → before < l.epoch → IsPossible w g t before P → Begins P log
  holds before P lt p = a.held.members_hold n before P (inl member) (let b = here in omega arith) p

  now : Leads-now w g n l.epoch log
  now =
      record {
        made = made;
        had = Begins-refl log;
        agrees = made_later g.ledger (with_log g.ledger l.epoch log) log (with_log_grows g.ledger l.epoch log made) (a.kept.nodes n).made;
        lawful = (a.sound.nodes n).log;
        bounded = subst (λ (k : ℕ). AllBelow k log) elections (all_below (elections_of w) (w.nodes n) (a.sound.nodes n));
        elected = omega (arith, elections);
        leads = leader;
      }

  abbrev after : History
  after = record g { ledger = with_log g.ledger l.epoch log }

  begins_there : Onto w g t (with_node w n (w.nodes n))
  begins_there =
      record {
        next = after;
        sets = with_began t l.epoch log;
        kept = grown_kept w g n l.epoch (w.nodes n) a.kept (subst (ModeIsKept after n log) (sym down) tt) now;
        held = grown_held w g t a.sound a.held a.kept n l.epoch log log now.lawful now.had made (Begins-refl log) leader here now.elected keeps (λ f o. absurd (never f o)) limit passed holds;
        led = grown_led w g t a.sound a.held a.kept n l.epoch log log now.lawful now.had made (Begins-refl log) leader here now.elected keeps (λ f o. absurd (never f o)) limit passed holds a.led;
        own = own_grown g t l.epoch log log a.own (λ Q p below. p);
        grows = grows w g t a.sound a.held a.kept n l.epoch log log now.lawful now.had made (Begins-refl log) leader here now.elected keeps (λ f o. absurd (never f o)) limit passed holds;
        began = began_later w g t a.sound a.held a.kept n l.epoch log log now.lawful now.had made (Begins-refl log) leader here now.elected keeps (λ f o. absurd (never f o)) limit passed holds;
        committed = committed_grown w g t a.sound a.held a.kept n l.epoch log log now.lawful now.had made (Begins-refl log) leader here now.elected keeps (λ f o. absurd (never f o)) limit passed holds;
        epoch = λ P p. inl (epoch_grown w g t a.sound a.held a.kept n l.epoch log log now.lawful now.had made (Begins-refl log) leader here now.elected keeps (λ f o. absurd (never f o)) limit passed holds P p);
        stays = λ m P p b. Begins-trans b (log_grown w g t a.sound a.held a.kept n l.epoch log log now.lawful now.had made (Begins-refl log) leader here now.elected keeps (λ f o. absurd (never f o)) limit passed holds m);
      }

  begins_now : (v : World) (same : with_node w n (w.nodes n) ≡ v) → (o : Onto w g t v) × (o.sets.began l.epoch ≡ Some log)
  unfolding begins_there
  begins_now v same = subst (λ (u : World). (o : Onto w g t u) × (o.sets.began l.epoch ≡ Some log)) same (begins_there, began_at t l.epoch log)

  pub begin : Begun
  begin = let p = begins_now w (with_node_same w n) in record { onto = p.0; first = (w.nodes n).log; began = p.1 }

-- an epoch that has begun: the node takes up its leadership
module _ (w : World) (g : History) (t : Sets) (a : AllKept w g t) (n : ℕ) (l : Leader) (recorded : w.controller.leader ≡ Some l) (named : l.node ≡ n) (down : (w.nodes n).mode ≡ Down)
    (keeps : l.epoch + 1 ≤ kept_bound (w.nodes n).kept) (unasked : (p : Proposal) → Sent w (Proposes p) → p.known.leader ≡ Some l → ⊥) (first : List Batch) (began : t.began l.epoch ≡ Some first) where
  abbrev lead : Leading
  lead = leading w.controller l.epoch (w.nodes n).log

  whole : (w.nodes n).log ≡ g.ledger l.epoch
  whole = subst (λ (j : ℕ). (w.nodes j).log ≡ g.ledger l.epoch) named (a.led l recorded first began)

  shorter : (P : List Batch) → Begins P (g.ledger l.epoch) → end_of P ≤ end_of (w.nodes n).log
  shorter P p = let q = p.is ∙ sym whole in omega (arith, end_of-append P p.rest, ap end_of q)

  unreported : (m r : ℕ) → report_of lead m ≡ Some r → ⊥
  unreported m r q = false≢true (ap is_some (sym (replicate_each 7 m None) ∙ q))

  none_set : (set : List ℕ) → None ≡ Some set → ⊥
  none_set set e = false≢true (ap is_some e)

  lead_held : LeaderIsHeld w g t (w.nodes n).log lead
  lead_held =
      record {
        knows = inl (sym (a.held.record_is l recorded).version, sym (a.held.record_is l recorded).members);
        self = subst (λ (j : ℕ). IsIn j w.controller.isr) (sym (a.kept.leader l recorded)) (a.held.record_is l recorded).leader;
        own = λ set e. absurd (none_set set e);
        asked = λ p q of. absurd (unasked p q (of ∙ (λ i. Some (record { node = a.kept.leader l recorded i; epoch = l.epoch }))));
        begun = record { first = first; began = began; begins = subst (Begins first) (sym whole) (a.held.begun l.epoch first began).0 };
        start = λ f o. shorter f (a.held.begun l.epoch f o).0;
        fetched = λ m r q P p e. absurd (unreported m r q);
        reported = λ m r q. absurd (unreported m r q);
      }

  leads_change : NodeChange w g t n (record (w.nodes n) { mode = Leads lead })
  leads_change =
      let top : elections_of w ≡ l.epoch + 1 = ap next_epoch recorded in
      let at : bound w n ≡ elections_of w = ap (mode_bound (elections_of w)) down in
      let own = own_request w g t a.sound a.held a.kept n in
      record {
        moves = omega (arith, at, top);
        within = omega (arith, top);
        requests = λ r q from. record {
          reach = (let reach = (own r q from).reach in omega (arith, at, top));
          kept = λ is P p of. (own r q from).kept (omega (arith, at, top)) P p of;
        };
        watermark = inl (a.held.marks n);
        checkpoint = a.held.checkpoints n;
        leads = λ z m. subst (LeaderIsHeld w g t (w.nodes n).log) (leads_is lead z m) lead_held;
        ready = λ z m set e. absurd (none_set set (ap (λ (y : Leading). y.pending) (leads_is lead z m) ∙ e));
        keeps = omega arith;
        kept = a.held.kept n;
        still_within = λ z m e same who P sure old.
            (let is = leads_is lead z m in
            let epoch : l.epoch ≡ e = ap (λ (y : Leading). y.epoch) is ∙ same in
            let ends = shorter P (subst (λ (j : ℕ). Begins P (g.ledger j)) (sym epoch) sure.made) in
            subst (λ (y : Leading). end_of P ≤ max (w.nodes n).watermark y.start) is (omega arith));
        holds = λ e P i b p had. had;
      }

  pub leads_onto : Onto w g t (with_node w n (record (w.nodes n) { mode = Leads lead }))
  leads_onto =
      node_onto w g t a n (record (w.nodes n) { mode = Leads lead }) leads_change
      (Kin.changed w g n _ a.kept (record { made = (a.kept.nodes n).made; mode = (whole, a.kept.leader l recorded ∙ named) }) (same_log w g n a.kept))
      (led_same w g t n (record (w.nodes n) { mode = Leads lead }) refl a.led)
      (λ P p b. b)

-- the sound world does not look at the history
pub all_of : (w : World) (g : History) (t : Sets) (v : World) → WorldIsSound v → (o : Onto w g t v) → AllKept v o.next o.sets
all_of w g t v s o = record { sound = s; kept = o.kept; held = o.held; led = o.led; own = o.own }

pub down_leads_onto : (w : World) (g : History) (t : Sets) → AllKept w g t → (n : ℕ) (l : Leader) → w.controller.leader ≡ Some l → l.node ≡ n → (w.nodes n).mode ≡ Down
    → l.epoch + 1 ≤ kept_bound (w.nodes n).kept → t.began l.epoch ≡ None → Onto w g t (with_node w n (record (w.nodes n) { mode = Leads (leading w.controller l.epoch (w.nodes n).log) }))
down_leads_onto w g t a n l recorded named down keeps none =
    let b = begin w g t a n l recorded named down keeps none in
    onto_then w w _ g t b.onto (leads_onto w b.onto.next b.onto.sets (all_of w g t w a.sound b.onto) n l recorded named down keeps unasked b.first b.began)
  where
    same : (x y : Leader) → Some x ≡ Some y → x ≡ y
    same x y e = cc

    -- who asked in an epoch has begun it
    unasked : (p : Proposal) → Sent w (Proposes p) → p.known.leader ≡ Some l → ⊥
    unasked p q e =
        let old = a.held.proposals p q in
        let is : old.leader ≡ l = same old.leader l (sym old.named ∙ e) in
        none_some old.first (sym none ∙ ap (λ (x : Leader). t.began x.epoch) (sym is) ∙ old.began)

-- ---- adopt as the leader: as if the node went down first

pub node_at : (w : World) (n : ℕ) (x : Node) → (with_node w n x).nodes n ≡ x
node_at w n x = let here : eqb n n ≡ true = eq-eqb n n refl in rw here refl

with_node_twice : (w : World) (n : ℕ) (y : Node) (f : Node → Node) → with_node (with_node w n y) n (f ((with_node w n y).nodes n)) ≡ with_node w n (f y)
with_node_twice w n y f = λ i. record w { nodes = λ m. same m i }
  where
    same : (m : ℕ) → cond (eqb m n) (f ((with_node w n y).nodes n)) (cond (eqb m n) y (w.nodes m)) ≡ cond (eqb m n) (f y) (w.nodes m)
    same m = by_test (eqb m n)
      where
        by_test : (t : Bool) → cond t (f ((with_node w n y).nodes n)) (cond t y (w.nodes m)) ≡ cond t (f y) (w.nodes m)
        by_test true = ap f (node_at w n y)
        by_test false = refl

pub lead_onto : (w : World) (g : History) (t : Sets) → AllKept w g t → (n : ℕ) (l : Leader) → w.controller.leader ≡ Some l → l.node ≡ n → kept_bound (w.nodes n).kept < l.epoch + 1
    → Onto w g t (with_node w n (record (w.nodes n) { kept = Some l.epoch; mode = Leads (leading w.controller l.epoch (w.nodes n).log) }))
lead_onto w g t a n l recorded named news =
    let top : elections_of w ≡ l.epoch + 1 = ap next_epoch recorded in
    let down : Node = record (w.nodes n) { kept = Some l.epoch; mode = Down } in
    let v : World = with_node w n down in
    let sound : WorldIsSound v = SoundLogs.changed w n down a.sound (record { log = (a.sound.nodes n).log; epochs = all_below (elections_of w) (w.nodes n) (a.sound.nodes n); within = omega arith }) in
    let first : Onto w g t v = node_onto w g t a n down (goes_down w g t a.sound a.held a.kept n (w.nodes n).log (Some l.epoch) (Begins-refl (w.nodes n).log) (omega arith) (omega (arith, top)))
    (Kin.changed w g n down a.kept (record { made = (a.kept.nodes n).made; mode = tt }) (same_log w g n a.kept)) (led_same w g t n down refl a.led) (λ P p b. b) in
    let all : AllKept v g t = record { sound = sound; kept = first.kept; held = first.held; led = first.led; own = first.own } in
    let here = node_at w n down in
    let keeps : l.epoch + 1 ≤ kept_bound (v.nodes n).kept = subst (λ (x : Node). l.epoch + 1 ≤ kept_bound x.kept) (sym here) (omega arith) in
    let then = down_leads_onto v g t all n l recorded named (ap (λ (x : Node). x.mode) here) keeps (unled (t.began l.epoch) refl) in
    subst (Onto w g t) (with_node_twice w n down (λ x. record x { mode = Leads (leading w.controller l.epoch x.log) }))
    (onto_then w v _ g t first then)
  where
    -- no node led in this epoch before
    unled : (o : Option (List Batch)) → t.began l.epoch ≡ o → t.began l.epoch ≡ None
    unled None o = o
    unled (Some f) o =
        let who : g.leader l.epoch ≡ n = a.kept.leader l recorded ∙ named in
        let had : l.epoch + 1 ≤ kept_bound (w.nodes n).kept = subst (λ (j : ℕ). l.epoch + 1 ≤ kept_bound (w.nodes j).kept) who (a.held.led_kept l.epoch f o) in
        absurd (omega arith)
