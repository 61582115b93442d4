-- What it takes that a follower did with a leader's answer, of which it knows the letter alone.
use Rattle.std.proofs.Common.{◌≡◌, ◌⊎◌, ℕ, true, false, Bool, eqb, ltb, min, List, [], ◌∷◌, ◌++◌, Option, Some, None, Result, Ok, Err, refl, sym, ap, ◌∙◌, subst, inl, inr, arith}
use Rattle.std.specs.Prelude.{◌≢◌, not, is_some, if◌then◌else◌, unwrap_or}
use Rattle.std.specs.Option.{option_or}
use Rattle.std.proofs.lemmas.Bool.{false≢true, le-ltb}
use Rattle.std.proofs.lemmas.Option.{none-some}
use Rattle.kp_types.specs.Causes.{first_of, IsRefusedOnlyBy}
use Rattle.kp_types.specs.declared.refusal.Refusal.{Refusal}
use Rattle.kp_types.specs.declared.refusal.Refusal.TheVariants as refusals
use Rattle.kp_types.proofs.Causes.{only_cause}
use Rattle.kp_model.specs.Beginning.{Begins, find_map, with_before}
use Rattle.kp_model.specs.Log.{Batch, IsLog, IsKin, end_of, is_boundary}
use Rattle.kp_model.specs.World.{LeaderAndIsr, Node, Request, Answer, Message, Asks, Answers}
use Rattle.kp_model.specs.Event.{Receive, Refused}
use Rattle.kp_model.specs.Letter.{Answering, FetchLetter, Fetching, answered_letter, letter_of, fetch_request}
use Rattle.kp_model.specs.Controller.{has_epoch}
use Rattle.kp_model.specs.Effect.{Effect, becomes, is_down, mode_epoch}
use Rattle.kp_model.specs.Fetching.{awaits, cannot_follow, follow_cause, last_epoch, piece, reconciles, take_cause_for, take_cause, cut_cause, cut_cause_for}
use Rattle.kp_model.specs.Local.{Local, cause}
use Rattle.kp_model.specs.Laws.{place_of}
use Rattle.kp_model.specs.Epochs.{cut_place}
use Rattle.kp_model.specs.Calls.{taken, cut}
use Rattle.kp_model.specs.declared.message.Answered.{Answered}
use Rattle.kp_model.specs.declared.message.Answered.TheVariants as answers
use Rattle.kp_model.specs.declared.message.EpochEnd.{EpochEnd}
use Rattle.kp_model.specs.declared.message.FetchRequest.{FetchRequest}
use Rattle.kp_model.specs.declared.message.Fetched.{Fetched}
use Rattle.kp_model.proofs.OneStep.ByLetter.{take_is_the_step}
use Rattle.kp_model.proofs.Cuts.Cutting.{cut_is_the_step}
use Rattle.kp_model.proofs.Cuts.Deliveries.{boundary_test}
use Rattle.kp_model.proofs.OneStep.Letters.{Hands, hands, Tells, tells}
use Rattle.kp_model.proofs.OneStep.Steps.{was_refused}
use Rattle.kp_replica.specs.Cutting.{told_end, diverging, diverging_cause, place_for}
use Rattle.kp_replica.specs.Hearing.{answer_cause, CutsAbove, IsCut, IsTaken}
use Rattle.kp_replica.specs.NumberedNode.{NumberedNode, DoesUnder, IsSameNode}
use Rattle.kp_replica.specs.Replies.{cut_reply, taken_reply}
use Rattle.kp_replica.specs.Taking.{carrying, handed, fetch_cause, taking, IsCutShort}
use Rattle.kp_replica.specs.declared.act.Answer.{Answer as Told}
use Rattle.kp_replica.specs.declared.cutting.CutBack.{CutBack}
use Rattle.kp_replica.specs.declared.taking.Taken.{Taken}
use Rattle.kp_replica.proofs.CuttingFacts.{cause_for, tests, refused_first, refused_how}

-- ---- the letter

some_is : {A : Type 0} {y z : A} → Some y ≡ Some z → y ≡ z
some_is e = cc

pub fetched : {l m : FetchLetter} → Fetching l ≡ Fetching m → l ≡ m
fetched e = cc

-- a request's letter isn't an answer's
pub unanswered : (q : Request) (r : FetchRequest) (given : Answering) → letter_of (Asks q) ≡ Fetching (record (fetch_request r) { answering = Some given }) → ⊥
unanswered q r given same = none-some given (ap (λ (l : FetchLetter). l.answering) (fetched same))

-- ---- batches

module _ (a : Answer) (r : FetchRequest) (f : Fetched) (same : answered_letter a ≡ carrying r f) where
  pub given : Hands a (handed f) f.watermark
  given = hands a (handed f) f.watermark (some_is (ap (λ (l : FetchLetter). l.answering) same))

  -- what is taken, by the letter
  taken_is : (x : Node) → taken x a.request.epoch (end_of a.request.log) (last_epoch a.request.log) (piece a.log a.request) a.watermark ≡ taking x r f
  taken_is x = λ i. taken x (same i).epoch (same i).offset (same i).last (given.batches_are i) (given.mark_is i)

  take_refused : (x : Node) → take_cause x a ≡ fetch_cause x r f
  take_refused x = λ i. take_cause_for x (same i).epoch (same i).offset (same i).last (given.batches_are i) (given.mark_is i)

  -- why a message with this letter is refused
  pub carrying_cause : (c : LeaderAndIsr) (m : NumberedNode) → cause c m.number m.state (Receive (Answers a)) ≡ fetch_cause m.state r f
  carrying_cause c m = ap (λ (b : Bool). if b then take_cause m.state a else cut_cause c m.number m.state a) given.covered ∙ take_refused m.state

-- what a cause refuses
carrying_refused : (m : NumberedNode) (r : FetchRequest) (f : Fetched) (refusal : Refusal) → fetch_cause m.state r f ≡ Some refusal
    → (message : Message) → letter_of message ≡ Fetching (carrying r f) → (c : LeaderAndIsr) → DoesUnder c m m (Receive message) (Refused refusal)
carrying_refused m r f refusal is (Asks q) same = absurd (unanswered q r _ same)
carrying_refused m r f refusal is (Answers b) same = λ c. (was_refused c m.number m.state (Receive (Answers b)) refusal (carrying_cause b r f (fetched same) c m ∙ is), (refl, refl))
carrying_refused m r f refusal is _ same = absurd cc

pub not_taken : (m : NumberedNode) (r : FetchRequest) (f : Fetched) (refusal : Refusal) → fetch_cause m.state r f ≡ Some refusal → IsTaken r f m m (Err refusal)
not_taken m r f refusal is =
    record {
      refused = rw is (refl, carrying_refused m r f refusal is);
      event = λ b same h g q k. carrying_refused m r f refusal is (Answers b) (ap Fetching same);
      done = tt;
    }

module _ (old new : NumberedNode) (r : FetchRequest) (f : Fetched) (lawful : IsLog old.state.log) where
  pub is_taken : (took : Taken) → fetch_cause old.state r f ≡ None → becomes new.state (taken_reply (Ok took)) ≡ taking old.state r f → IsSameNode old new → IsTaken r f old new (Ok took)
  is_taken took free is node =
      record {
        refused = rw free tt;
        event = λ b same h g q k c.
            let step = (take_is_the_step c old.number old.state b (given b r f same).covered lawful h g q k).0 in
            (subst (λ (e : Effect). Local c old.number old.state (Receive (Answers b)) e) (taken_is b r f same old.state ∙ sym is) step, node);
        done = is;
      }

  pub taken_short : IsCutShort old new r f → IsTaken r f old new (Err refusals.Memory)
  taken_short s =
      record {
        refused = rw s.free tt;
        event = λ b same h g q k c.
            let step = (take_is_the_step c old.number old.state b (given b r f same).covered lawful h g q k).1 s.some (take_refused b r f same old.state ∙ s.free)
            (subst (Begins s.some) (sym (given b r f same).batches_are) s.begins) in
            subst (λ (y : NumberedNode). DoesUnder c old y (Receive (Answers b)) (Refused refusals.Memory)) (sym s.is) (step, (refl, refl));
        done = tt;
      }

-- ---- where the logs diverge

module _ (a : Answer) (r : FetchRequest) (end : Option EpochEnd) (same : answered_letter a ≡ diverging r end) where
  pub told : Tells a (told_end end)
  told = tells a (told_end end) (some_is (ap (λ (l : FetchLetter). l.answering) same))

  cut_refused : (c : LeaderAndIsr) (n : ℕ) (x : Node) → cut_cause c n x a ≡ cause_for c n x r
  cut_refused c n x = λ i. cut_cause_for c n x (same i).from (same i).life (same i).epoch (same i).offset (same i).last

  place_is : (x : Node) → place_of x a ≡ place_for x.log end
  place_is x = ap (cut_place x.log) told.end_is

  pub diverging_letter_cause : (c : LeaderAndIsr) (m : NumberedNode) → cause c m.number m.state (Receive (Answers a)) ≡ cause_for c m.number m.state r
  diverging_letter_cause c m = ap (λ (b : Bool). if b then take_cause m.state a else cut_cause c m.number m.state a) told.covered ∙ cut_refused c m.number m.state

diverging_refused : (c : LeaderAndIsr) (m : NumberedNode) (r : FetchRequest) (end : Option EpochEnd) (refusal : Refusal) → cause_for c m.number m.state r ≡ Some refusal
    → (message : Message) → letter_of message ≡ Fetching (diverging r end) → DoesUnder c m m (Receive message) (Refused refusal)
diverging_refused c m r end refusal is (Asks q) same = absurd (unanswered q r _ same)
diverging_refused c m r end refusal is (Answers b) same =
    (was_refused c m.number m.state (Receive (Answers b)) refusal (diverging_letter_cause b r end (fetched same) c m ∙ is), (refl, refl))
diverging_refused c m r end refusal is _ same = absurd cc

not_cut : (c : LeaderAndIsr) (m : NumberedNode) (r : FetchRequest) (end : Option EpochEnd) (refusal : Refusal) → cause_for c m.number m.state r ≡ Some refusal → refusal ≢ refusals.Memory
    → IsCut c r end m m (Err refusal)
not_cut c m r end refusal is spared =
    record {
      refused = rw is (refl, diverging_refused c m r end refusal is);
      event = λ b same h g q k above. diverging_refused c m r end refusal is (Answers b) (ap Fetching same);
      done = tt;
      spared = λ e. spared cc;
    }

-- ---- no cause is want of memory

tests_spare : (has own low odd : Bool) → tests has own low odd ≡ Some refusals.Memory → ⊥
tests_spare false own low odd e = cc
tests_spare true false low odd e = cc
tests_spare true true true odd e = cc
tests_spare true true false true e = cc
tests_spare true true false false e = cc

follow_spares : (next back : Bool) → first_of ((next, refusals.NotNext) ∷ (back, refusals.EpochBack) ∷ []) ≡ Some refusals.Memory → ⊥
follow_spares true back e = cc
follow_spares false true e = cc
follow_spares false false e = cc

or_spares : (o others : Option Refusal) → (o ≡ Some refusals.Memory → ⊥) → (others ≡ Some refusals.Memory → ⊥) → option_or o others ≡ Some refusals.Memory → ⊥
or_spares None others first rest e = rest e
or_spares (Some refusal) others first rest e = first e

find_spares : (log : List Batch) (ps : List (List Batch × Batch)) → find_map (λ p. follow_cause (log ++ p.0) p.1) ps ≡ Some refusals.Memory → ⊥
find_spares log [] e = cc
find_spares log (p ∷ ps) e =
    or_spares (follow_cause (log ++ p.0) p.1) (find_map (λ p. follow_cause (log ++ p.0) p.1) ps)
    (follow_spares (not (eqb p.1.base (end_of (log ++ p.0)))) (ltb p.1.epoch (unwrap_or (last_epoch (log ++ p.0)) 0))) (find_spares log ps) e

take_spares : (down stale odd : Bool) (behind : Option Refusal) → (behind ≡ Some refusals.Memory → ⊥)
    → (if down then Some refusals.Down else if stale then Some refusals.StaleAnswer else if is_some behind then behind else if odd then Some refusals.NotBoundary else None) ≡ Some refusals.Memory → ⊥
take_spares true stale odd behind never e = cc
take_spares false true odd behind never e = cc
take_spares false false odd (Some refusal) never e = never e
take_spares false false true None never e = cc
take_spares false false false None never e = cc

cut_spares : (c : LeaderAndIsr) (m : NumberedNode) (r : FetchRequest) (end : Option EpochEnd) → diverging_cause c m r end ≡ Some refusals.Memory → ⊥
cut_spares c m r end e =
    let x = m.state in
    tests_spare (has_epoch c (mode_epoch x.mode)) (reconciles m.number x r.from r.life r.epoch r.offset r.last_epoch) (ltb (place_for x.log end) x.watermark)
    (not (is_boundary x.log (place_for x.log end))) e

answer_spares : (c : LeaderAndIsr) (m : NumberedNode) (r : FetchRequest) (given : Answered) → answer_cause c m r given ≡ Some refusals.Memory → ⊥
answer_spares c m r (answers.Batches f) e =
    let x = m.state in
    let log = x.log ++ handed f in
    take_spares (is_down x.mode) (not (awaits x r.epoch r.offset r.last_epoch x.mode)) (not (is_boundary log (min f.watermark (end_of log)))) (cannot_follow x.log (handed f))
    (find_spares x.log (with_before (handed f))) e
answer_spares c m r (answers.Diverging end) e = cut_spares c m r end e

pub heard_spares : (c : LeaderAndIsr) (m : NumberedNode) (r : FetchRequest) (given : Answered) (result : Result Told Refusal) → IsRefusedOnlyBy (answer_cause c m r given) result
    → result ≢ Err refusals.Memory
heard_spares c m r given result refused e = answer_spares c m r given (only_cause Told (answer_cause c m r given) refusals.Memory (subst (IsRefusedOnlyBy (answer_cause c m r given)) e refused))

-- no run cuts below the watermark, or at no boundary
never_odd : (c : LeaderAndIsr) (m : NumberedNode) (r : FetchRequest) (end : Option EpochEnd) (b : Answer) → answered_letter b ≡ diverging r end → IsLog m.state.log → IsLog b.log
    → IsLog b.request.log → IsKin b.request.log m.state.log → IsKin b.request.log b.log → CutsAbove c m (Answers b) → cause_for c m.number m.state r ≡ None
    → (ltb (place_for m.state.log end) m.state.watermark ≡ true) ⊎ (not (is_boundary m.state.log (place_for m.state.log end)) ≡ true) → ⊥
never_odd c m r end b same h g q k l above free odd =
    let x = m.state in
    let to = place_for x.log end in
    let diverges = (told b r end same).covered in
    let allowed : cut_cause c m.number x b ≡ None = cut_refused b r end same c m.number x ∙ free in
    let place = place_is b r end same x in
    let high = above diverges allowed in
    let boundary = ((cut_is_the_step c m.number x b diverges h g q k l).1 allowed).0 in
    elim odd [
      | inl low ↦ false≢true (sym (le-ltb to x.watermark (omega (arith, high, place))) ∙ low)
      | inr none ↦
          (let at : is_boundary x.log to ≡ true = subst (λ (o : ℕ). is_boundary x.log o ≡ true) (boundary.ends ∙ place) (boundary_test boundary.front x.log h boundary.begins) in
          false≢true (ap not (sym at) ∙ none))
    ]

not_cut_odd : (c : LeaderAndIsr) (m : NumberedNode) (r : FetchRequest) (end : Option EpochEnd) (refusal : Refusal) → IsLog m.state.log → cause_for c m.number m.state r ≡ None
    → (ltb (place_for m.state.log end) m.state.watermark ≡ true) ⊎ (not (is_boundary m.state.log (place_for m.state.log end)) ≡ true) → refusal ≢ refusals.Memory → IsCut c r end m m (Err refusal)
not_cut_odd c m r end refusal h free odd spared =
    record {
      refused = rw free tt;
      event = λ b same g a q k above. absurd (never_odd c m r end b same h g a q k above free odd);
      done = tt;
      spared = λ e. spared cc;
    }

pub is_cut : (c : LeaderAndIsr) (old new : NumberedNode) (r : FetchRequest) (end : Option EpochEnd) (back : CutBack) → IsLog old.state.log → cause_for c old.number old.state r ≡ None
    → becomes new.state (cut_reply (Ok back)) ≡ cut c old.number old.state (diverging r end) → IsSameNode old new → IsCut c r end old new (Ok back)
is_cut c old new r end back h free is node =
    record {
      refused = rw free tt;
      event = λ b same g a q k above.
          let step = (cut_is_the_step c old.number old.state b (told b r end same).covered h g a q k).0 in
          (subst (λ (e : Effect). Local c old.number old.state (Receive (Answers b)) e) (ap (cut c old.number old.state) same ∙ sym is) step, node);
      done = is;
      spared = λ e. cc;
    }

-- what its first two tests refuse
pub not_cut_at_once : (c : LeaderAndIsr) (m : NumberedNode) (r : FetchRequest) (end : Option EpochEnd) (refusal : Refusal) → is_down m.state.mode ≡ false → cause_for c m.number m.state r ≡ Some refusal
    → IsCut c r end m m (Err refusal)
not_cut_at_once c m r end refusal up is = not_cut c m r end refusal is (λ e. cut_spares c m r end (refused_first c m r end up refusal is ∙ ap Some e))

-- and what all of them do
pub cut_is_refused : (c : LeaderAndIsr) (m : NumberedNode) (r : FetchRequest) (end : Option EpochEnd) (refusal : Refusal) → is_down m.state.mode ≡ false → IsLog m.state.log
    → diverging_cause c m r end ≡ Some refusal → IsCut c r end m m (Err refusal)
cut_is_refused c m r end refusal up h is =
    elim (refused_how c m r end up refusal is) [
      | inl first ↦ not_cut_at_once c m r end refusal up first
      | inr odd ↦ not_cut_odd c m r end refusal h odd.0 odd.1 (λ e. cut_spares c m r end (is ∙ ap Some e))
    ]

-- ---- a node that is down

pub not_taken_down : (m : NumberedNode) (r : FetchRequest) (f : Fetched) (refusal : Refusal) → is_down m.state.mode ≡ true → refusal ≡ refusals.Down → IsTaken r f m m (Err refusal)
not_taken_down m r f refusal down is =
    let why : fetch_cause m.state r f ≡ Some refusals.Down = rw down refl in
    not_taken m r f refusal (why ∙ ap Some (sym is))

pub not_cut_down : (c : LeaderAndIsr) (m : NumberedNode) (r : FetchRequest) (end : Option EpochEnd) (refusal : Refusal) → is_down m.state.mode ≡ true → refusal ≡ refusals.Down
    → IsCut c r end m m (Err refusal)
not_cut_down c m r end refusal down is =
    let why : cause_for c m.number m.state r ≡ Some refusals.Down = rw down refl in
    not_cut c m r end refusal (why ∙ ap Some (sym is)) (λ e. cc)
