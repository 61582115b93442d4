-- Cuts at the place that epochs give: they are the step's, at a boundary, and never below the watermark.
use Rattle.std.proofs.Common.{◌≡◌, ◌⊎◌, ℕ, ◌+◌, ◌<◌, ◌≤◌, Bool, true, false, List, [], ◌∷◌, ◌++◌, length, Option, Some, None, refl, sym, ap, ◌∙◌, subst, arith, inl, inr}
use Rattle.std.specs.Prelude.{unwrap_or, if◌then◌else◌}
use Rattle.std.proofs.lemmas.Bool.{cases_lt, false≢true}
use Rattle.kp_types.specs.declared.refusal.Refusal.{Refusal}
use Rattle.kp_model.specs.Beginning.{Begins, IsCommonBeginning}
use Rattle.kp_model.specs.Log.{Batch, end_of, IsLog, below, IsKin}
use Rattle.kp_model.specs.Epochs.{end_for, cut_place}
use Rattle.kp_model.specs.World.{LeaderAndIsr, Leading, Leads, Node, Answer, Answers, World, IsSent}
use Rattle.kp_model.specs.Event.{Receive, Took, Cut}
use Rattle.kp_model.specs.Run.{Run, last, IsOf}
use Rattle.kp_model.specs.Controller.{has_epoch}
use Rattle.kp_model.specs.Effect.{Effect, becomes}
use Rattle.kp_model.specs.Fetching.{last_epoch, piece, epoch_answer, is_covered, take_cause, cut_cause, grown, Takes, Cuts, Accepts}
use Rattle.kp_model.specs.Local.{Local, LocalBy, cause}
use Rattle.kp_model.specs.Letter.{Batches, Diverging, answered_letter}
use Rattle.kp_model.specs.Calls.{answered_end, cut_by, cut}
use Rattle.kp_model.specs.Laws.{place_of, CutIsTheStep, NoCutBelowTheWatermark, IsRound, IsTake, AreRounds, RoundsEnd, ReconciliationsEnd, TakesGoOn, IsReconciled, RoundsAndATakeReconcile, OldAnswersCutNothing}
use Rattle.kp_model.proofs.Plain.Beginnings.{Begins-refl, Begins-nil, Begins-append, Begins-trans, Begins-length, Begins-agree, Begins-whole}
use Rattle.kp_model.proofs.Plain.Logs.{end_of-append, last_epoch_or, IsLog-begins}
use Rattle.kp_model.proofs.OneStep.Steps.{each_sent, happened, was_refused}
use Rattle.kp_model.proofs.Kinship.SoundLogs.{AllBelow, below_later, last_epoch_is, MessageIsSound}
use Rattle.kp_model.proofs.Kinship.Ledger.{grown_begins, made_begins, made_kin}
use Rattle.kp_model.proofs.Kinship.Kin.{History, ModeIsKept, MessageIsKept, cut_facts}
use Rattle.kp_model.proofs.Safety.Held.{Sets, Sent, answer_has, cut_holds}
use Rattle.kp_model.proofs.Safety.HeldSteps.{shorter_by_end}
use Rattle.kp_model.proofs.Safety.HeldGrown.{made_to}
use Rattle.kp_model.proofs.Safety.HeldOnto.{AllKept}
use Rattle.kp_model.proofs.Safety.HeldEvents.{last_election}
use Rattle.kp_model.proofs.Plain.CutPlaces.{IsCutPlace, is_cut_place}
use Rattle.kp_model.proofs.Safety.HeldRuns.{none_higher, run_is_held, was_held}
use Rattle.kp_model.proofs.OneStep.Sends.{sent_at_last}
use Rattle.kp_model.proofs.Safety.Known.{known}
use Rattle.kp_model.proofs.Plain.Shown.{begins_covered, shown_same}
use Rattle.kp_types.proofs.Elements.{all_front, all_behind}

-- ---- the place is that of the node's last epoch

place_is : (x : Node) (a : Answer) → IsLog x.log → IsLog a.log → IsKin x.log a.log → last_epoch a.request.log ≡ last_epoch x.log → IsCutPlace x.log a.log (place_of x a)
place_is x a h g k same =
    let top : unwrap_or (last_epoch a.request.log) 0 ≡ last_epoch_or 0 x.log = ap (λ (o : Option ℕ). unwrap_or o 0) same ∙ last_epoch_is x.log in
    subst (λ (epoch : ℕ). IsCutPlace x.log a.log (cut_place x.log (end_for a.log epoch))) (sym top) (is_cut_place x.log a.log h g k)

-- the cut there: the node keeps the batches below the place
cuts_at : (x : Node) (a : Answer) (place : ℕ) → IsCutPlace x.log a.log place → a.request.log ≡ x.log → (Begins a.request.log a.log → ⊥) → Cuts x a (cut_by None x place)
cuts_at x a place p same diverges =
    record {
      diverges = diverges;
      same = same;
      left = p.left;
      common = p.common;
      begins = p.begins;
      is_common = p.is_common;
      keeps = p.keeps;
      shorter = p.shorter (λ b. diverges (subst (λ (l : List Batch). Begins l a.log) (sym same) b));
      effect_is = same_effect (below place x.log) p.left place (end_of p.left) p.left_is (sym p.ends);
    }
  where
    same_effect : (l m : List Batch) (o q : ℕ) → l ≡ m → o ≡ q → becomes (record x { log = l }) (Cut o) ≡ becomes (record x { log = m }) (Cut q)
    same_effect l m o q e d = λ i. becomes (record x { log = e i }) (Cut (d i))

-- ---- an answer that is not refused

-- what the letter comes to is said of the answer
pub by_answer : (c : LeaderAndIsr) (n : ℕ) (x : Node) (a : Answer) → is_covered a.log a.request ≡ false → cut c n x (answered_letter a) ≡ cut_by (cut_cause c n x a) x (place_of x a)
by_answer c n x a f =
    ap (λ (b : Bool). cut_by (cut_cause c n x a) x
    (cut_place x.log (answered_end (Some (if b then Batches (piece a.log a.request) a.watermark else Diverging (epoch_answer a.log a.request)))))) f

pub cause_is : (c : LeaderAndIsr) (n : ℕ) (x : Node) (a : Answer) → is_covered a.log a.request ≡ false → cause c n x (Receive (Answers a)) ≡ cut_cause c n x a
cause_is c n x a f = ap (λ (b : Bool). if b then take_cause x a else cut_cause c n x a) f

module _ (c : LeaderAndIsr) (n : ℕ) (x : Node) (a : Answer) (f : is_covered a.log a.request ≡ false) (h : IsLog x.log) (g : IsLog a.log) (q : IsLog a.request.log) (k : IsKin a.request.log x.log) (l : IsKin a.request.log a.log) where
  -- the node's log is still that of its request
  same_log : cut_cause c n x a ≡ None → a.request.log ≡ x.log
  same_log free = let facts = (cut_facts c n x a free).1 in shown_same a.request.log x.log q h k (sym facts.end) facts.last

  place_here : cut_cause c n x a ≡ None → IsCutPlace x.log a.log (place_of x a)
  place_here free =
      let same = same_log free in
      place_is x a h g (subst (λ (log : List Batch). IsKin log a.log) same l) (ap last_epoch same)

  diverge : Begins a.request.log a.log → ⊥
  diverge p = false≢true (sym f ∙ begins_covered a.request.log a.log g p)

  steps : (o : Option Refusal) → cut_cause c n x a ≡ o → Local c n x (Receive (Answers a)) (cut_by o x (place_of x a))
  steps (Some refusal) e = was_refused c n x (Receive (Answers a)) refusal (cause_is c n x a f ∙ e)
  steps None e =
      happened c n x (Receive (Answers a)) (cut_by None x (place_of x a)) (cause_is c n x a f ∙ e)
      (subst (λ (b : Bool). Accepts x a b (cut_by None x (place_of x a))) (sym f) (cuts_at x a (place_of x a) (place_here e) (same_log e) diverge))

ends_lower : (left log : List Batch) → IsLog log → Begins left log → length left < length log → end_of left < end_of log
ends_lower left log h p short =
    elim (cases_lt (end_of left) (end_of log)) [
      | inl lower ↦ lower
      | inr not ↦ absurd (let long = Begins-length (shorter_by_end log left log h (Begins-refl log) p not) in omega arith)
    ]

pub cut_is_the_step : CutIsTheStep
cut_is_the_step c n x a f h g q k l = (
  subst (Local c n x (Receive (Answers a))) (sym (by_answer c n x a f)) (steps c n x a f h g q k l (cut_cause c n x a) refl),
  λ free.
      (let p = place_here c n x a f h g q k l free in
      let apart : Begins x.log a.log → ⊥ = λ b. diverge c n x a f h g q k l (subst (λ (log : List Batch). Begins log a.log) (sym (same_log c n x a f h g q k l free)) b) in (
        record { front = p.left; begins = p.begins; ends = p.ends },
        subst (λ (place : ℕ). place < end_of x.log) p.ends (ends_lower p.left x.log h p.begins (p.shorter apart)),
      )),
)

-- ---- an old answer

pub old_answers_cut_nothing : OldAnswersCutNothing
unfolding Local
old_answers_cut_nothing c n x a e diverges old h = by_cause (cut_cause c n x a) refl (subst (λ (o : Option Refusal). LocalBy o c n x (Receive (Answers a)) e) (cause_is c n x a diverges) h)
  where
    by_cause : (o : Option Refusal) → cut_cause c n x a ≡ o → LocalBy o c n x (Receive (Answers a)) e → e.node ≡ x
    by_cause (Some refusal) is done = ap (λ (f : Effect). f.node) done
    by_cause None is done =
        let found = cut_facts c n x a is in
        let facts = found.1 in
        absurd (elim old [
          | inl life ↦ life facts.life
          | inr epoch ↦ false≢true (sym epoch ∙ ap (λ (j : ℕ). has_epoch c (Some j)) facts.asked ∙ facts.recorded)
        ])

-- ---- in a run

module _ (w : World) (g : History) (t : Sets) (k : AllKept w g t) (n : ℕ) (a : Answer) (sent : Sent w (Answers a)) where
  abbrev x : Node
  x = w.nodes n

  -- all that the node holds is left
  above_mark : is_covered a.log a.request ≡ false → (c : cut_cause w.controller n x a ≡ None) → x.watermark ≤ place_of x a
  above_mark f c =
      let message : MessageIsKept g (Answers a) = each_sent (MessageIsKept g) w.messages (Answers a) k.kept.messages sent in
      let sound : MessageIsSound (Answers a) = each_sent MessageIsSound w.messages (Answers a) k.sound.messages sent in
      let made = made_begins g.ledger message.1 (k.kept.made a.request.epoch) in
      let own = made_kin g.ledger a.request.log x.log message.0 (k.kept.nodes n).made in
      let others = made_kin g.ledger a.request.log a.log message.0 made in
      let p = place_here w.controller n x a f (k.sound.nodes n).log sound.log sound.asked own others c in
      let same = same_log w.controller n x a f (k.sound.nodes n).log sound.log sound.asked own others c in
      let found = cut_facts w.controller n x a c in
      let top = last_election w g t k n found.0.epoch found.1.recorded in
      let asked = found.1.asked in
      let mark = k.held.marks n in
      let there : Begins mark.list a.log = answer_has w g t k.held k.kept a sent (omega (arith, top, asked)) mark.list mark.committed (subst (Begins mark.list) (sym same) mark.begins) in
      let left = cut_holds p.left x.log a.log p.common mark.list p.is_common p.keeps mark.begins there in
      let ends = mark.ends in
      let place = p.ends in
      omega (arith, end_of-append mark.list left.rest, ap end_of left.is)

pub no_cut_below : NoCutBelowTheWatermark
no_cut_below count r w i n a sent f c =
    let k = known count r w i in above_mark w k.history k.sets k.all n a sent f c

-- ---- what a round leaves

-- only a diverging answer that isn't refused is answered by a cut
cuts_by : (x : Node) (a : Answer) (covered : Bool) (e : Effect) (end : ℕ) → Accepts x a covered e → e.reply ≡ Cut end → Cuts x a e
cuts_by x a true e end h r = absurd (let took = sym (ap (λ (g : Effect). g.reply) h.1) ∙ r in cc)
cuts_by x a false e end h r = h

cut_of : (c : LeaderAndIsr) (n : ℕ) (y : Node) (a : Answer) (e : Effect) (end : ℕ) → Local c n y (Receive (Answers a)) e → e.reply ≡ Cut end → Cuts y a e
unfolding Local
cut_of c n y a e end h r = by_cause (cause c n y (Receive (Answers a))) h
  where
    by_cause : (o : Option Refusal) → LocalBy o c n y (Receive (Answers a)) e → Cuts y a e
    by_cause (Some refusal) h = absurd (let refused = sym (ap (λ (g : Effect). g.reply) h) ∙ r in cc)
    by_cause None (inl h) = cuts_by y a (is_covered a.log a.request) e end h r
    by_cause None (inr h) = absurd (let refused = sym (ap (λ (g : Effect). g.reply) h.1.effect_is) ∙ r in cc)

-- and only an answer with batches by a take
takes_by : (x : Node) (a : Answer) (covered : Bool) (e : Effect) (end mark : ℕ) → Accepts x a covered e → e.reply ≡ Took end mark → Takes x a e
takes_by x a true e end mark h r = h
takes_by x a false e end mark h r = absurd (let cut = sym (ap (λ (g : Effect). g.reply) h.effect_is) ∙ r in cc)

take_of : (c : LeaderAndIsr) (n : ℕ) (y : Node) (a : Answer) (e : Effect) (end mark : ℕ) → Local c n y (Receive (Answers a)) e → e.reply ≡ Took end mark → Takes y a e
unfolding Local
take_of c n y a e end mark h r = by_cause (cause c n y (Receive (Answers a))) h
  where
    by_cause : (o : Option Refusal) → LocalBy o c n y (Receive (Answers a)) e → Takes y a e
    by_cause (Some refusal) h = absurd (let refused = sym (ap (λ (g : Effect). g.reply) h) ∙ r in cc)
    by_cause None (inl h) = takes_by y a (is_covered a.log a.request) e end mark h r
    by_cause None (inr h) = absurd (let refused = sym (ap (λ (g : Effect). g.reply) h.1.effect_is) ∙ r in cc)

-- a log is empty or has a last batch
last_batch : (log : List Batch) → (log ≡ []) ⊎ ((front : List Batch) × (b : Batch) × (log ≡ front ++ b ∷ []))
last_batch [] = inl refl
last_batch (b ∷ bs) =
    elim (last_batch bs) [
      | inl none ↦ inr ([], b, ap (λ (s : List Batch). b ∷ s) none)
      | inr more ↦ inr (b ∷ more.0, more.1, ap (λ (s : List Batch). b ∷ s) more.2)
    ]

-- Node n takes an answer that was sent in v, and in w. Neither world need be the later one.
module _ (v : World) (g : History) (t : Sets) (k : AllKept v g t) (w : World) (g' : History) (t' : Sets) (k' : AllKept w g' t') (n : ℕ) (a : Answer)
    (sent : Sent v (Answers a)) (known : Sent w (Answers a)) where
  abbrev y : Node
  y = v.nodes n

  abbrev epoch : ℕ
  epoch = a.request.epoch

  -- What the request's log and the leader's both begin with, the answer has: up to a batch of its epoch it has all that the
  -- follower had of what the leader made by then, and below that its leader made nothing since it began to lead.
  answer_has_common : a.request.log ≡ y.log → (Q : List Batch) → Begins Q y.log → Begins Q (g'.ledger epoch) → Begins Q a.log
  answer_has_common same Q p q =
      elim (last_batch Q) [
        | inl none ↦ subst (λ (s : List Batch). Begins s a.log) (sym none) (Begins-nil a.log)
        | inr some ↦ with_last some.0 some.1 some.2
      ]
    where
      with_last : (front : List Batch) (b : Batch) → Q ≡ front ++ b ∷ [] → Begins Q a.log
      with_last front b is =
          let whole : IsLog (front ++ b ∷ []) = subst IsLog is (IsLog-begins p (k.sound.nodes n).log) in
          let highest : AllBelow (b.epoch + 1) Q = subst (AllBelow (b.epoch + 1)) (sym is) (none_higher 0 0 front b whole) in
          elim (cases_lt b.epoch epoch) [
            | inl lower ↦
                (let begun = (k'.held.answers a known).begun in
                Begins-trans (k'.own epoch begun.first Q begun.began q (below_later (b.epoch + 1) epoch Q (omega arith) highest)) begun.begins)
            | inr higher ↦
                (let bound : AllBelow (epoch + 1) (front ++ b ∷ []) =
                subst (AllBelow (epoch + 1)) is (all_front (λ c. c.epoch < epoch + 1) Q q.rest (subst (AllBelow (epoch + 1)) (sym q.is) (k'.kept.bounded epoch))) in
                let last = all_behind (λ c. c.epoch < epoch + 1) front (b ∷ []) bound in
                let at : b.epoch ≡ epoch = (let less = last.0 in omega arith) in
                let made : Begins (front ++ b ∷ []) (g.ledger b.epoch) =
                made_to g.ledger y.log front b (k.kept.nodes n).made (subst (λ (s : List Batch). Begins s y.log) is p) (subst (AllBelow (b.epoch + 1)) is highest) in
                let there : Begins Q (g.ledger epoch) = subst (Begins Q) (ap g.ledger at) (subst (λ (s : List Batch). Begins s (g.ledger b.epoch)) (sym is) made) in
                (k.held.answers a sent).recent Q (subst (Begins Q) (sym same) p) there)
          ]

  round_ends : (leaders : List Batch) → Begins leaders (g'.ledger epoch) → (e : Effect) (end : ℕ) → Local v.controller n y (Receive (Answers a)) e → e.reply ≡ Cut end
      → RoundsEnd y.log e.node.log leaders 1
  round_ends leaders made e end h r =
      let cuts = cut_of v.controller n y a e end h r in
      let message : MessageIsKept g' (Answers a) = each_sent (MessageIsKept g') w.messages (Answers a) k'.kept.messages known in
      let left : e.node.log ≡ cuts.left = ap (λ (i : Effect). i.node.log) cuts.effect_is in
      let begins : Begins e.node.log y.log = subst (λ (s : List Batch). Begins s y.log) (sym left) cuts.begins in
      let keeps : Begins cuts.common e.node.log = subst (Begins cuts.common) (sym left) cuts.keeps in
      let shorter : length e.node.log + 1 ≤ length y.log = (let short = cuts.shorter in let long = ap length left in omega arith) in
      let longest = λ (Q : List Batch) (p : Begins Q y.log) (q : Begins Q leaders). cuts.is_common.longest Q p (answer_has_common cuts.same Q p (Begins-trans q made)) in
      elim (Begins-agree (Begins-trans cuts.is_common.second message.1) made) [
        | inl there ↦ record {
          common = cuts.common;
          is_common = record { first = cuts.is_common.first; second = there; longest = longest };
          begins = begins;
          keeps = keeps;
          ends = λ q. sym (Begins-whole cuts.common e.node.log keeps (longest e.node.log begins q));
          shorter = shorter;
        }
        | inr short ↦
            (let kept : Begins leaders e.node.log = Begins-trans short keeps in
            record {
              common = leaders;
              is_common = record { first = Begins-trans short cuts.is_common.first; second = Begins-refl leaders; longest = λ Q p q. Begins-length q };
              begins = begins;
              keeps = kept;
              ends = λ q. sym (Begins-whole leaders e.node.log kept (Begins-length q));
              shorter = shorter;
            })
      ]

-- ---- what rounds leave

-- a round, and what the rounds after it leave
rounds_then : (old left new leaders : List Batch) (rounds : ℕ) → RoundsEnd old left leaders 1 → RoundsEnd left new leaders rounds → RoundsEnd old new leaders (rounds + 1)
rounds_then old left new leaders rounds p q =
    let longest = λ (Q : List Batch) (b : Begins Q old) (c : Begins Q leaders).
    (let before = p.is_common.longest Q b c in let after = q.is_common.longest p.common p.keeps p.is_common.second in le_trans (length Q) (length p.common) (length q.common) before after) in
    let begins = Begins-trans q.begins p.begins in
    record {
      common = q.common;
      is_common = record { first = Begins-trans q.is_common.first p.begins; second = q.is_common.second; longest = longest };
      begins = begins;
      keeps = q.keeps;
      ends = λ c. sym (Begins-whole q.common new q.keeps (longest new begins c));
      shorter = (let before = p.shorter in let after = q.shorter in omega arith);
    }
  where
    le_trans : (x y z : ℕ) → x ≤ y → y ≤ z → x ≤ z
    le_trans x y z p q = omega arith

-- m leads in u; what it made by then is of what was made in its epoch by the run's end
module _ (count : ℕ) (r : Run count) (u : World) (n m : ℕ) (l : Leading) (of : IsOf u r) (leads : (u.nodes m).mode ≡ Leads l) where
  abbrev leaders : List Batch
  leaders = (u.nodes m).log

  whole : (a : Answer) → a.request.epoch ≡ l.epoch → leaders ≡ (was_held count r.moments (run_is_held count r.moments r.is_run) u of).history.ledger a.request.epoch
  whole a epoch =
      let led = was_held count r.moments (run_is_held count r.moments r.is_run) u of in
      let kept : ModeIsKept led.history m (u.nodes m).log (Leads l) = subst (ModeIsKept led.history m (u.nodes m).log) leads (led.all.kept.nodes m).mode in
      kept.0 ∙ ap led.history.ledger (sym epoch)

  one_round : (old new : List Batch) → IsRound r n l.epoch old new → RoundsEnd old new leaders 1
  one_round old new round =
      let a = round.answer in
      let h = round.hears in
      let v = h.world in
      let run = run_is_held count r.moments r.is_run in
      let was = was_held count r.moments run v h.is_of in
      let led = was_held count r.moments run u of in
      let made : Begins leaders (run.history.ledger a.request.epoch) =
      subst (λ (s : List Batch). Begins s (run.history.ledger a.request.epoch)) (sym (whole a h.of_epoch)) (led.grows a.request.epoch) in
      let here =
      round_ends v was.history was.sets was.all (last r) run.history run.sets run.all n a h.sent (sent_at_last count r v h.is_of (Answers a) h.sent) leaders made h.effect round.end h.local round.cut in
      subst (λ (s : List Batch). RoundsEnd old s leaders 1) h.new_is (subst (λ (s : List Batch). RoundsEnd s h.effect.node.log leaders 1) h.old_is here)

  rounds_end : (old new : List Batch) (between : List (List Batch)) → AreRounds r n l.epoch old between new → RoundsEnd old new leaders (length between + 1)
  rounds_end old new [] h = one_round old new h
  rounds_end old new (left ∷ between) h =
      subst (RoundsEnd old new leaders) (omega arith) (rounds_then old left new leaders (length between + 1) (one_round old left h.0) (rounds_end left new between h.1))

  -- the leader still has what it answered, and so all that was taken of it
  one_take : (a : Answer) (old new : List Batch) → IsTake r n l.epoch a old new → IsSent u.messages (Answers a) → Begins old new × Begins new leaders
  one_take a old new take known =
      let h = take.hears in
      let led = was_held count r.moments (run_is_held count r.moments r.is_run) u of in
      let x = h.world.nodes n in
      let takes = take_of h.world.controller n x a h.effect take.end take.mark h.local take.took in
      let sound : MessageIsSound (Answers a) = each_sent MessageIsSound u.messages (Answers a) led.all.sound.messages known in
      let message : MessageIsKept led.history (Answers a) = each_sent (MessageIsKept led.history) u.messages (Answers a) led.all.kept.messages known in
      let own : Begins x.log a.log = subst (λ (s : List Batch). Begins s a.log) takes.0.same takes.0.begins in
      let all : Begins (grown x a) a.log = grown_begins x.log a.log a.log a.request sound.log own (Begins-refl a.log) (ap end_of (sym takes.0.same)) in
      let there : Begins (grown x a) leaders = Begins-trans all (subst (Begins a.log) (sym (whole a h.of_epoch)) message.1) in
      let left : grown x a ≡ new = sym (ap (λ (i : Effect). i.node.log) takes.1) ∙ h.new_is in (
        subst (λ (s : List Batch). Begins s new) h.old_is (subst (Begins x.log) left (Begins-append x.log (piece a.log a.request))),
        subst (λ (s : List Batch). Begins s leaders) left there,
      )

  -- the rounds and the first take
  reconciled : (a : Answer) (old left new : List Batch) (between : List (List Batch)) → AreRounds r n l.epoch old between left → IsTake r n l.epoch a left new → IsSent u.messages (Answers a)
      → IsReconciled old left new leaders
  reconciled a old left new between rounds take known =
      let end = rounds_end old left between rounds in
      let took = one_take a left new take known in
      let same : left ≡ end.common = end.ends (Begins-trans took.0 took.1) in
      record { common = subst (λ (s : List Batch). IsCommonBeginning s old leaders) (sym same) end.is_common; goes_on = took.0; begins = took.1 }

pub reconciliations_end : ReconciliationsEnd
reconciliations_end count r v n m l old new between i leads h = rounds_end count r v n m l i leads old new between h

pub takes_go_on : TakesGoOn
takes_go_on count r v n m l a old new i leads h known = one_take count r v n m l i leads a old new h known

pub rounds_and_a_take_reconcile : RoundsAndATakeReconcile
rounds_and_a_take_reconcile count r v n m l a old left new between i leads rounds take known =
    reconciled count r v n m l i leads a old left new between rounds take known
