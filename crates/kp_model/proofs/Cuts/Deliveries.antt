-- In a run no delivery is refused oddly: what requests and answers carry is of what the leader made.
use Rattle.std.proofs.Common.{◌≡◌, ℕ, zero-add, ◌≤◌, Bool, true, false, cond, eqb, ltb, List, [], ◌∷◌, ◌++◌, Option, Some, None, refl, sym, ap, ◌∙◌, subst, append_assoc, append-nil, arith, inl, inr}
use Rattle.std.specs.Prelude.{not, ◌&&◌, is_some, unwrap_or}
use Rattle.std.specs.Option.{option_map_or}
use Rattle.std.specs.List.{list_any}
use Rattle.std.proofs.lemmas.Bool.{cases_lt, eq-eqb, le-ltb, or_left, or_right, and_parts, not-false, false≢true}
use Rattle.kp_types.specs.declared.refusal.Refusal.{Refusal}
use Rattle.kp_types.specs.declared.refusal.Refusal.TheVariants as refusals
use Rattle.kp_model.specs.Beginning.{Begins}
use Rattle.kp_model.specs.Log.{Batch, end_of, IsLog, is_boundary}
use Rattle.kp_model.specs.World.{LeaderAndIsr, Leading, Following, Node, Request, Answer, Decision, Message, Asks, Answers, World, IsSent}
use Rattle.kp_model.specs.Event.{Receive, Reply, Refused, Outcome}
use Rattle.kp_model.specs.Controller.{has_epoch}
use Rattle.kp_model.specs.Effect.{Effect, is_down, mode_epoch}
use Rattle.kp_model.specs.Fetching.{is_covered, last_epoch, piece, grown, mark_taken, awaits, reconciles, cannot_follow, serve_cause, take_cause, cut_cause}
use Rattle.kp_model.specs.InSync.{learn_cause}
use Rattle.kp_model.specs.Local.{Local, LocalBy, receive_cause}
use Rattle.kp_model.specs.Step.{NodeStep}
use Rattle.kp_model.specs.Laws.{NoDeliveryIsRefusedOddly}
use Rattle.kp_model.proofs.Plain.Beginnings.{Begins-refl, Begins-trans}
use Rattle.kp_model.proofs.Plain.Following.{cannot_follow-cons}
use Rattle.kp_model.proofs.Plain.Logs.{Follow-rest, last_epoch_or, IsLog-begins}
use Rattle.kp_model.proofs.OneStep.Steps.{each_sent}
use Rattle.kp_model.proofs.OneStep.Classes.{IsPlain, class_of, Tests, OfMode, OfServing, OfTaking, OfCutting, OfLearning, tests_of}
use Rattle.kp_model.proofs.OneStep.Parts.{parts_of}
use Rattle.kp_model.proofs.Kinship.SoundLogs.{last_epoch_is, MessageIsSound}
use Rattle.kp_model.proofs.Kinship.Ledger.{grown_begins, made_begins, made_kin}
use Rattle.kp_model.proofs.Kinship.Kin.{History, MessageIsKept, expected}
use Rattle.kp_model.proofs.Safety.Held.{Sets, Sent}
use Rattle.kp_model.proofs.Safety.HeldSteps.{shorter_by_end}
use Rattle.kp_model.proofs.Safety.HeldOnto.{AllKept}
use Rattle.kp_model.proofs.Safety.Known.{known}
use Rattle.kp_model.proofs.Plain.Shown.{covered_begins, shown_same}

-- ---- boundaries, and batches that follow

any_here : (p : Batch → Bool) (front rest : List Batch) (b : Batch) → p b ≡ true → list_any p (front ++ b ∷ rest) ≡ true
any_here p [] rest b e = or_left (p b) (list_any p rest) e
any_here p (c ∷ cs) rest b e = or_right (p c) (list_any p (cs ++ b ∷ rest)) (any_here p cs rest b e)

-- the end of a beginning passes the test of a boundary
pub boundary_test : (front log : List Batch) → IsLog log → Begins front log → is_boundary log (end_of front) ≡ true
boundary_test front log h p = by_rest p.rest p.is
  where
    by_rest : (rest : List Batch) → front ++ rest ≡ log → is_boundary log (end_of front) ≡ true
    by_rest [] is =
        or_right (list_any (λ b. eqb b.base (end_of front)) log) (eqb (end_of log) (end_of front)) (eq-eqb (end_of log) (end_of front) (ap end_of (sym is ∙ append-nil front)))
    by_rest (b ∷ bs) is =
        let tail = Follow-rest 0 0 front (b ∷ bs) (subst IsLog (sym is) h) in
        let here : eqb b.base (end_of front) ≡ true = eq-eqb b.base (end_of front) (tail.0 ∙ zero-add (end_of front)) in
        or_left (list_any (λ c. eqb c.base (end_of front)) log) (eqb (end_of log) (end_of front))
        (subst (λ (l : List Batch). list_any (λ c. eqb c.base (end_of front)) l ≡ true) is (any_here (λ c. eqb c.base (end_of front)) front bs b here))

-- what goes on a log as a log can follow it
pub can_follow_all : (log bs : List Batch) → IsLog (log ++ bs) → cannot_follow log bs ≡ None
can_follow_all log [] h = refl
can_follow_all log (b ∷ bs) h =
    let tail = Follow-rest 0 0 log (b ∷ bs) h in
    let here : eqb b.base (end_of log) ≡ true = eq-eqb b.base (end_of log) (tail.0 ∙ zero-add (end_of log)) in
    let onward : last_epoch_or 0 log ≤ b.epoch = tail.1 in
    let not_back : ltb b.epoch (unwrap_or (last_epoch log) 0) ≡ false = le-ltb b.epoch (unwrap_or (last_epoch log) 0) (omega (arith, last_epoch_is log)) in
    cannot_follow-cons log b bs ∙ rw (here, not_back) (can_follow_all (log ++ b ∷ []) bs (subst IsLog (sym (append_assoc log (b ∷ []) bs)) h))

-- ---- causes and replies that aren't odd

abbrev is_odd : Refusal → Bool
is_odd refusals.OffsetOutOfRange = true
is_odd refusals.NotBoundary = true
is_odd refusals.BelowSettled = true
is_odd refusals.NotNext = true
is_odd refusals.EpochBack = true
is_odd _ = false

abbrev odd_cause : Option Refusal → Bool
odd_cause o = option_map_or is_odd o false

abbrev odd_reply : Reply → Bool
odd_reply (Refused refusal) = is_odd refusal
odd_reply _ = false

plain_if : (t : Bool) (refusal : Refusal) (others : Option Refusal) → (t ≡ true → is_odd refusal ≡ false) → (t ≡ false → odd_cause others ≡ false) → odd_cause (cond t (Some refusal) others) ≡ false
plain_if true refusal others held passed = held refl
plain_if false refusal others held passed = passed refl

plain_unless : (o others : Option Refusal) → o ≡ None → odd_cause others ≡ false → odd_cause (cond (is_some o) o others) ≡ false
plain_unless o others e h = subst (λ (p : Option Refusal). odd_cause (cond (is_some p) p others) ≡ false) (sym e) h

module _ (w : World) (g : History) (t : Sets) (k : AllKept w g t) (n : ℕ) where
  abbrev x : Node
  x = w.nodes n

  -- a request that the leader covers asks from a boundary of its log
  serve_plain : (r : Request) (l : Leading) → Sent w (Asks r) → odd_cause (serve_cause x.log r l) ≡ false
  serve_plain r l sent =
      plain_if (ltb r.epoch l.epoch) refusals.FencedLeaderEpoch _ (λ e. refl)
      (λ lower. plain_if (ltb l.epoch r.epoch) refusals.UnknownLeaderEpoch _ (λ e. refl)
      (λ upper. plain_if (is_covered x.log r && not (is_boundary x.log (end_of r.log))) refusals.OffsetOutOfRange None
      (λ odd. (let parts = and_parts _ _ odd in
      let made : MessageIsKept g (Asks r) = each_sent (MessageIsKept g) w.messages (Asks r) k.kept.messages sent in
      let log : MessageIsSound (Asks r) = each_sent MessageIsSound w.messages (Asks r) k.sound.messages sent in
      let begins = covered_begins r.log x.log log (k.sound.nodes n).log (made_kin g.ledger r.log x.log made (k.kept.nodes n).made) parts.0 in
      absurd (false≢true (sym (ap not (boundary_test r.log x.log (k.sound.nodes n).log begins)) ∙ parts.1))))
      (λ e. refl)))

  cut_plain : (a : Answer) → odd_cause (cut_cause w.controller n x a) ≡ false
  cut_plain a =
      plain_if (is_down x.mode) refusals.Down _ (λ e. refl)
      (λ up. plain_if (not (has_epoch w.controller (mode_epoch x.mode))) refusals.StaleRecord _ (λ e. refl)
      (λ recorded. plain_if (not (reconciles n x a.request.from a.request.life a.request.epoch (end_of a.request.log) (last_epoch a.request.log))) refusals.StaleAnswer None (λ e. refl) (λ e. refl)))

  -- an answer's batches follow, and its watermark is at a boundary
  take_plain : (a : Answer) → Sent w (Answers a) → is_covered a.log a.request ≡ true → odd_cause (take_cause x a) ≡ false
  take_plain a sent covered =
      plain_if (is_down x.mode) refusals.Down _ (λ e. refl)
      (λ up. plain_if (not (awaits x a.request.epoch (end_of a.request.log) (last_epoch a.request.log) x.mode)) refusals.StaleAnswer _ (λ e. refl)
      (λ shown. (let p = expected x a x.mode refl (not-false (awaits x a.request.epoch (end_of a.request.log) (last_epoch a.request.log) x.mode) shown) in
      let f = p.0 in
      let q = p.1 in
      let message : MessageIsKept g (Answers a) = each_sent (MessageIsKept g) w.messages (Answers a) k.kept.messages sent in
      let sound : MessageIsSound (Answers a) = each_sent MessageIsSound w.messages (Answers a) k.sound.messages sent in
      let others = made_kin g.ledger a.request.log a.log message.0 (made_begins g.ledger message.1 (k.kept.made a.request.epoch)) in
      let own = made_kin g.ledger a.request.log x.log message.0 (k.kept.nodes n).made in
      let begins = covered_begins a.request.log a.log sound.asked sound.log others covered in
      let same = shown_same a.request.log x.log sound.asked (k.sound.nodes n).log own (sym q.end) q.last in
      let answer : Begins a.log (g.ledger f.epoch) = subst (λ (e : ℕ). Begins a.log (g.ledger e)) (sym q.epoch) message.1 in
      let whole : IsLog (g.ledger f.epoch) = k.kept.logs f.epoch in
      let mine : Begins x.log (g.ledger f.epoch) = Begins-trans (subst (λ (l : List Batch). Begins l a.log) same begins) answer in
      let made : Begins (grown x a) (g.ledger f.epoch) = grown_begins x.log a.log (g.ledger f.epoch) a.request whole mine answer q.end in
      let log : IsLog (grown x a) = IsLog-begins made whole in
      let at : is_boundary (grown x a) (mark_taken x a) ≡ true = mark_at a sent f answer made log whole in
      plain_unless (cannot_follow x.log (piece a.log a.request)) _ (can_follow_all x.log (piece a.log a.request) log)
      (plain_if (not (is_boundary (grown x a) (mark_taken x a))) refusals.NotBoundary None
      (λ odd. absurd (false≢true (sym (ap not at) ∙ odd))) (λ e. refl)))))
    where
      mark_at : (a : Answer) → Sent w (Answers a) → (f : Following) → Begins a.log (g.ledger f.epoch) → Begins (grown x a) (g.ledger f.epoch) → IsLog (grown x a) → IsLog (g.ledger f.epoch)
          → is_boundary (grown x a) (mark_taken x a) ≡ true
      mark_at a sent f answer made log whole =
          let mark = (k.held.answers a sent).mark in
          let ends = mark.ends in
          elim (cases_lt (end_of (grown x a)) a.watermark) [
            | inl short ↦
                (let here : end_of (grown x a) ≡ mark_taken x a = omega arith in
                subst (λ (o : ℕ). is_boundary (grown x a) o ≡ true) here (boundary_test (grown x a) (grown x a) log (Begins-refl (grown x a))))
            | inr all ↦
                (let here : end_of mark.list ≡ mark_taken x a = omega arith in
                let front = shorter_by_end mark.list (grown x a) (g.ledger f.epoch) whole (Begins-trans mark.begins answer) made (omega arith) in
                subst (λ (o : ℕ). is_boundary (grown x a) o ≡ true) here (boundary_test mark.list (grown x a) log front))
          ]

  learn_plain : (d : Decision) (l : Leading) → odd_cause (learn_cause d l) ≡ false
  learn_plain d l =
      plain_if (not (has_epoch d.decided (Some l.epoch))) refusals.StaleRecord _ (λ e. refl)
      (λ known. plain_if (not (ltb l.version d.decided.version)) refusals.StaleAnswer None (λ e. refl) (λ e. refl))

  tests_plain : (o : Option Refusal) → Tests w.messages w.controller n x o → odd_cause o ≡ false
  tests_plain o (OfMode h) = elim h [ inl down ↦ ap odd_cause down | inr up ↦ elim up [ inl other ↦ ap odd_cause other | inr stale ↦ ap odd_cause stale ] ]
  tests_plain o (OfServing r l sent is) = ap odd_cause is ∙ serve_plain r l sent
  tests_plain o (OfTaking a sent covered is) = ap odd_cause is ∙ take_plain a sent covered
  tests_plain o (OfCutting a is) = ap odd_cause is ∙ cut_plain a
  tests_plain o (OfLearning d l is) = ap odd_cause is ∙ learn_plain d l

-- ---- what is answered

reply_plain : (reply : Reply) → IsPlain reply → odd_reply reply ≡ false
reply_plain (Refused refusal) h = ap is_odd h
reply_plain _ h = refl

local_plain : (messages : List Message) (c : LeaderAndIsr) (n : ℕ) (x : Node) (m : Message) (e : Effect) → IsSent messages m → odd_cause (receive_cause c n x m) ≡ false → Local c n x (Receive m) e → odd_reply e.reply ≡ false
unfolding Local
local_plain messages c n x m e sent plain h = by_cause (receive_cause c n x m) refl h
  where
    by_cause : (o : Option Refusal) → receive_cause c n x m ≡ o → LocalBy o c n x (Receive m) e → odd_reply e.reply ≡ false
    by_cause (Some refusal) is h = ap (λ (g : Effect). odd_reply g.reply) h ∙ ap odd_cause (sym is) ∙ plain
    by_cause None is h = reply_plain e.reply (parts_of messages c n x (Receive m) e (class_of messages c n x (Receive m) e sent is h)).plain

module _ (w : World) (g : History) (t : Sets) (k : AllKept w g t) where
  node_plain : (n : ℕ) (m : Message) (outcome : Outcome) (new : World) → NodeStep w n (Receive m) outcome new → odd_reply outcome.reply ≡ false
  node_plain n m outcome new s =
      ap (λ (o : Outcome). odd_reply o.reply) s.outcome_is
      ∙ local_plain w.messages w.controller n (w.nodes n) m s.effect s.given (tests_plain w g t k n _ (tests_of w.messages w.controller n (w.nodes n) m s.given)) s.local

pub no_delivery_is_refused_oddly : NoDeliveryIsRefusedOddly
no_delivery_is_refused_oddly count r w i n m outcome new s =
    let k = known count r w i in
    let plain = node_plain w k.history k.sets k.all n m outcome new s in
    let not_odd = λ (refusal : Refusal) (odd : is_odd refusal ≡ true) (e : outcome.reply ≡ Refused refusal). false≢true (sym plain ∙ ap odd_reply e ∙ odd) in
    (not_odd refusals.OffsetOutOfRange refl, (not_odd refusals.NotBoundary refl, (not_odd refusals.BelowSettled refl, (not_odd refusals.NotNext refl, (not_odd refusals.EpochBack refl, tt)))))
