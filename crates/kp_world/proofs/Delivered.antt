-- What a message that comes leads on to.
use Rattle.std.proofs.Common.{◌≡◌, ◌≢◌, ℕ, zero, suc, ◌+◌, ◌-◌, ◌<◌, ◌≤◌, drop, List, [], ◌∷◌, ◌++◌, length, map, get_or, None, Some, Option, Result, Ok, Err, refl, sym, ap, ◌∙◌, subst, arith, inl, inr}
use Rattle.std.specs.Prelude.{slice_get, IfOk, OnOk, OnErr}
use Rattle.kp_types.specs.Causes.{IsRefusedOnlyBy}
use Rattle.kp_types.proofs.Causes.{only_cause, only_none}
use Rattle.std.specs.Option.{option_map}
use Rattle.std.proofs.lemmas.Option.{slice_get-map}
use Rattle.kp_types.specs.declared.limits.Limits.{Limits}
use Rattle.kp_types.specs.declared.refusal.Refusal.{Refusal}
use Rattle.kp_types.specs.declared.refusal.Refusal.TheVariants as refusals
use Rattle.kp_model.specs.World.{LeaderAndIsr, Node, Proposal, Message, Asks, Answers, Proposes, Decides, World, IsSent, addressee, sender, with_message, with_record}
use Rattle.kp_model.specs.Event.{Receive, Refused, Deliver, Outcome, SentDecision}
use Rattle.kp_model.specs.Laws.{MessagesGoToNodes, RunsKeepCount, RunsKeepLogs, RunsKeepKin, NoCutBelowTheWatermark, AreTwoParties, IsParty, StandsIn, place_of}
use Rattle.kp_model.specs.Letter.{Letter, Proposing, Deciding, goes_to, letter_of}
use Rattle.kp_model.specs.Fetching.{cut_cause}
use Rattle.kp_model.specs.Run.{Run, last}
use Rattle.kp_model.specs.Step.{Delivers, DecidesBy, decide_cause, decided_on, decision, told}
use Rattle.kp_model.proofs.OneStep.Classes.{comes_to, goes}
use Rattle.kp_model.proofs.InRuns.RunLaws.{last_is_of}
use Rattle.kp_replica.specs.NumberedNode.{NumberedNode}
use Rattle.kp_world.specs.declared.event.EventAnswer.{EventAnswer}
use Rattle.kp_replica.specs.Acts.{Acts, IsOfRun, TakesNoMemory}
use Rattle.kp_replica.specs.declared.act.Effect.{Effect}
use Rattle.kp_world.specs.Answers.{IsTold, TellsOf, outcome_of}
use Rattle.kp_world.specs.Plays.{LeadOn, SparesAt}
use Rattle.kp_world.specs.Shown.{IsNode, Stage, next, next_number}
use Rattle.kp_world.proofs.Moved.{never_lacks, same_refusal, shown_count, shown_more, stepped}
use Rattle.kp_world.proofs.Playing.{only_full, reached_more}

-- what stands behind a number of others
slice_get-drop : {X : Type 0} (n : ℕ) (xs : List X) (k : ℕ) → slice_get (drop n xs) k ≡ slice_get xs (n + k)
slice_get-drop zero xs k = ap (slice_get xs) (let same : k ≡ 0 + k = omega arith in same)
slice_get-drop (suc n) [] k = refl
slice_get-drop (suc n) (x ∷ xs) k = slice_get-drop n xs k ∙ ap (slice_get (x ∷ xs)) (let same : suc (n + k) ≡ suc n + k = omega arith in same)

-- the letter of this number is the letter of the message of this number
there_too : (messages : List Message) (letters : List Letter) (first number : ℕ) → first ≤ number → drop first (map letter_of messages) ≡ letters
    → option_map letter_of (slice_get messages number) ≡ slice_get letters (number - first)
there_too messages letters first number low are =
    let whole : number ≡ first + (number - first) = omega (arith, low) in
    sym (slice_get-map letter_of messages number) ∙ ap (slice_get (map letter_of messages)) whole
    ∙ sym (slice_get-drop first (map letter_of messages) (number - first)) ∙ ap (λ (ls : List Letter). slice_get ls (number - first)) are

-- the message of this number, where its letter stands in the pool
record Sent (messages : List Message) (number : ℕ) (l : Letter) : Type 0 where
  message : Message
  there : slice_get messages number ≡ Some message
  letter_is : letter_of message ≡ l

sent_there : (messages : List Message) (letters : List Letter) (first number : ℕ) (l : Letter) → first ≤ number → drop first (map letter_of messages) ≡ letters
    → slice_get letters (number - first) ≡ Some l → Sent messages number l
sent_there messages letters first number l low are is =
    by (slice_get messages number) refl (there_too messages letters first number low are ∙ is)
  where
    by : (o : Option Message) → slice_get messages number ≡ o → option_map letter_of o ≡ Some l → Sent messages number l
    by None there same = absurd cc
    by (Some m) there same = record { message = m; there = there; letter_is = cc }

none_there : (messages : List Message) (letters : List Letter) (first number : ℕ) → first ≤ number → drop first (map letter_of messages) ≡ letters
    → slice_get letters (number - first) ≡ None → slice_get messages number ≡ None
none_there messages letters first number low are is =
    by (slice_get messages number) refl (there_too messages letters first number low are ∙ is)
  where
    by : (o : Option Message) → slice_get messages number ≡ o → option_map letter_of o ≡ None → slice_get messages number ≡ None
    by None there same = there
    by (Some m) there same = absurd cc

is_proposal : (p : Proposal) (m : Message) → letter_of m ≡ Proposing p → m ≡ Proposes p
is_proposal p (Proposes q) e = let same : q ≡ p = cc in ap Proposes same
is_proposal p _ e = absurd cc

-- what the laws of runs say of a message
of_run : RunsKeepLogs → RunsKeepKin → NoCutBelowTheWatermark → (count : ℕ) (r : Run count) (number : ℕ) (m : Message) (c : LeaderAndIsr) (x : NumberedNode) → slice_get (last r).messages number ≡ Some m
    → (last r).controller ≡ c → (last r).nodes x.number ≡ x.state → IsOfRun c x (Receive m)
of_run keep_logs keep_kin no_cut count r number (Asks q) c x there record_is state =
    let w = last r in
    let is_of = last_is_of count r in
    let stands : StandsIn w q.log = inr (Asks q, (number, there), refl) in (
      keep_logs count r w is_of q.log stands,
      keep_kin count r w w is_of is_of q.log x.state.log stands (inl (x.number, ap (λ (y : Node). y.log) (sym state))),
    )
of_run keep_logs keep_kin no_cut count r number (Answers a) c x there record_is state =
    let w = last r in
    let is_of = last_is_of count r in
    let sent : IsSent w.messages (Answers a) = (number, there) in
    let answered : StandsIn w a.log = inr (Answers a, sent, inr refl) in
    let asked : StandsIn w a.request.log = inr (Answers a, sent, inl refl) in (
      keep_logs count r w is_of a.log answered,
      keep_logs count r w is_of a.request.log asked,
      keep_kin count r w w is_of is_of a.request.log x.state.log asked (inl (x.number, ap (λ (y : Node). y.log) (sym state))),
      keep_kin count r w w is_of is_of a.request.log a.log asked answered,
      λ parted free. subst (λ (y : Node). y.watermark ≤ place_of y a) state
          (no_cut count r w is_of x.number a sent parted
          (subst (λ (k : LeaderAndIsr). cut_cause k x.number (w.nodes x.number) a ≡ None) (sym record_is)
          (subst (λ (y : Node). cut_cause c x.number y a ≡ None) (sym state) free))),
    )
of_run keep_logs keep_kin no_cut count r number _ c x there record_is state = tt

same_message : (m n : Message) → Some m ≡ Some n → m ≡ n
same_message m n e = cc

never_both : (m : Message) {P : Type 0} → Some m ≡ None → P
never_both m e = absurd cc

-- the message came to the node to which it goes
pub delivered : RunsKeepLogs → RunsKeepKin → NoCutBelowTheWatermark → (limits : Limits) (number : ℕ) (l : Letter) (i : ℕ) (stage : Stage) (x m : NumberedNode) (outcome : Result Effect Refusal)
    (telling : Result EventAnswer Refusal) → stage.first ≤ number → slice_get stage.letters (number - stage.first) ≡ Some l → goes_to l ≡ Some i → i < length stage.nodes → x ≡ get_or stage.nodes i x
    → IsTold (next_number stage) outcome telling
    → ((message : Message) → letter_of message ≡ l → TakesNoMemory x.state (Receive message) → outcome ≢ Err refusals.Memory)
    → ((message : Message) → letter_of message ≡ l → Acts stage.controller x m (Receive message) outcome) → LeadOn limits stage (Deliver number ∷ []) (telling ∷ []) (next stage i m outcome)
delivered keep_logs keep_kin no_cut limits number l i stage x m outcome telling low is goes_there inside there tells spared did count before earlier p =
    let w = last p.run in
    let c = stage.controller in
    let sent = sent_there w.messages stage.letters stage.first number l low p.shown.letters_are is in
    let message = sent.message in
    let here : addressee message ≡ Some i = sym (goes message) ∙ ap goes_to sent.letter_is ∙ goes_there in
    let old : IsNode limits i x (w.nodes i) = subst (λ (y : NumberedNode). IsNode limits i y (w.nodes i)) (sym there) (p.shown.nodes_are i x inside) in
    let state : w.nodes x.number ≡ x.state = ap w.nodes old.number_is ∙ old.state in
    let s = stepped limits i stage x m (Receive message) outcome telling w inside there p.shown (number, sent.there) tells
    (λ number_is. did message sent.letter_is c (λ looks. refl) (of_run keep_logs keep_kin no_cut count p.run number message c x sent.there p.shown.controller_is state)) in
    reached_more count limits before earlier stage _ (Deliver number) telling p s.after
    (subst (λ (o : Option Message). Delivers w o (outcome_of telling) s.after) (sym sent.there) (comes_to w message i (outcome_of telling) s.after here s.step)) tt
    (λ (k, is_there, takes).
    let same : k ≡ message = same_message k message (sym is_there ∙ sent.there) in
    let at : addressee k ≡ Some i = ap addressee same ∙ here in
    never_lacks (next_number stage) outcome telling tells (spared message sent.letter_is
    (subst (λ (y : Message). TakesNoMemory x.state (Receive y)) same
    (subst (λ (y : Node). TakesNoMemory y (Receive k)) old.state (subst (SparesAt w k) at takes))))) s.shown

-- no message has this number
pub undelivered : (limits : Limits) (number : ℕ) (stage : Stage) → stage.first ≤ number → slice_get stage.letters (number - stage.first) ≡ None
    → LeadOn limits stage (Deliver number ∷ []) (Err refusals.StaleAnswer ∷ []) stage
undelivered limits number stage low none count before earlier p =
    let w = last p.run in
    let gone : slice_get w.messages number ≡ None = none_there w.messages stage.letters stage.first number low p.shown.letters_are none in
    reached_more count limits before earlier stage stage (Deliver number) (Err refusals.StaleAnswer) p w
    (subst (λ (o : Option Message). Delivers w o (told (Refused refusals.StaleAnswer)) w) (sym gone) (refl, refl)) tt
    (λ (m, there, takes). never_both m (sym there ∙ gone)) p.shown

-- no message of a run goes nowhere
pub goes_nowhere : MessagesGoToNodes → RunsKeepCount → (limits : Limits) (number n : ℕ) (l : Letter) (stage new : Stage) (outcome : Result EventAnswer Refusal) → stage.first ≤ number → slice_get stage.letters (number - stage.first) ≡ Some l
    → goes_to l ≡ Some n → length stage.nodes ≤ n → LeadOn limits stage (Deliver number ∷ []) (outcome ∷ []) new
goes_nowhere go keep limits number n l stage new outcome low is there beyond count before earlier p =
    let w = last p.run in
    let is_of = last_is_of count p.run in
    let sent = sent_there w.messages stage.letters stage.first number l low p.shown.letters_are is in
    let two : AreTwoParties count (sender sent.message) (addressee sent.message) = go count p.run w is_of sent.message (number, sent.there) in
    let party : IsParty count (Some n) = subst (IsParty count) (sym (goes sent.message) ∙ ap goes_to sent.letter_is ∙ there) two.1 in
    absurd (omega (arith, party, beyond, p.shown.count, keep count p.run w is_of))

-- ---- a proposal comes to the controller

-- what stands after its decision
abbrev pub decided_stage : Stage → Proposal → Stage
decided_stage stage p =
    record {
      controller = decided_on stage.controller p;
      nodes = stage.nodes;
      first = stage.first;
      letters = stage.letters ++ Deciding (decision stage.controller p) ∷ [];
    }

pub decides : (limits : Limits) (number : ℕ) (p : Proposal) (stage : Stage) (answer : EventAnswer) → stage.first ≤ number → slice_get stage.letters (number - stage.first) ≡ Some (Proposing p) → decide_cause stage.controller p ≡ None
    → TellsOf (next_number stage) (Deciding (decision stage.controller p)) answer → LeadOn limits stage (Deliver number ∷ []) (Ok answer ∷ []) (decided_stage stage p)
decides limits number p stage answer low is free (said, tells, says) count before earlier r =
    let w = last r.run in
    let c = stage.controller in
    let shown = r.shown in
    let sent = sent_there w.messages stage.letters stage.first number (Proposing p) low shown.letters_are is in
    let there : slice_get w.messages number ≡ Some (Proposes p) = sent.there ∙ ap Some (is_proposal p sent.message sent.letter_is) in
    let new : World = with_message (with_record w (decided_on w.controller p)) (Decides (decision w.controller p)) in
    let unrefused : decide_cause w.controller p ≡ None = ap (λ (k : LeaderAndIsr). decide_cause k p) shown.controller_is ∙ free in
    let many : next_number stage ≡ length w.messages = shown_count limits stage w shown in
    let more = shown_more limits stage w (Decides (decision w.controller p) ∷ []) shown in
    let outcome : outcome_of (Ok answer) ≡ record { reply = SentDecision (decided_on w.controller p); number = Some (length w.messages) } =
    ap (λ (a : EventAnswer). let o : Result EventAnswer Refusal = Ok a in outcome_of o) tells
    ∙ (λ i. record { reply = (says ∙ ap (λ (k : LeaderAndIsr). SentDecision (decided_on k p)) (sym shown.controller_is)) i; number = Some (many i) }) in
    reached_more count limits before earlier stage (decided_stage stage p) (Deliver number) (Ok answer) r new
    (subst (λ (o : Option Message). Delivers w o (outcome_of (Ok answer)) new) (sym there)
    (subst (λ (o : Option Refusal). DecidesBy o w p (outcome_of (Ok answer)) new) (sym unrefused) (outcome, refl))) tt
    (λ spared lacks. told_never p w (sym (ap (λ (o : Outcome). o.reply) outcome) ∙ lacks))
    (record {
      controller_is = ap (λ (k : LeaderAndIsr). decided_on k p) shown.controller_is;
      count = shown.count;
      nodes_are = shown.nodes_are;
      earlier = more.0;
      letters_are = more.1 ∙ (λ i. stage.letters ++ Deciding (decision (shown.controller_is i) p) ∷ []);
    })
  where
    told_never : (p : Proposal) (w : World) → SentDecision (decided_on w.controller p) ≡ Refused refusals.Memory → ⊥
    told_never p w e = cc

-- or the controller refused it
pub decides_not : (limits : Limits) (number : ℕ) (p : Proposal) (stage : Stage) (refusal : Refusal) → stage.first ≤ number → slice_get stage.letters (number - stage.first) ≡ Some (Proposing p)
    → decide_cause stage.controller p ≡ Some refusal → LeadOn limits stage (Deliver number ∷ []) (Err refusal ∷ []) stage
decides_not limits number p stage refusal low is held count before earlier r =
    let w = last r.run in
    let shown = r.shown in
    let sent = sent_there w.messages stage.letters stage.first number (Proposing p) low shown.letters_are is in
    let there : slice_get w.messages number ≡ Some (Proposes p) = sent.there ∙ ap Some (is_proposal p sent.message sent.letter_is) in
    let refused : decide_cause w.controller p ≡ Some refusal = ap (λ (k : LeaderAndIsr). decide_cause k p) shown.controller_is ∙ held in
    reached_more count limits before earlier stage stage (Deliver number) (Err refusal) r w
    (subst (λ (o : Option Message). Delivers w o (told (Refused refusal)) w) (sym there)
    (subst (λ (o : Option Refusal). DecidesBy o w p (told (Refused refusal)) w) (sym refused) (refl, refl))) tt
    (λ spared lacks. full_apart (sym (only_full stage.controller p refusal held) ∙ same_refusal refusal refusals.Memory lacks)) shown
  where
    full_apart : refusals.RecordFull ≡ refusals.Memory → ⊥
    full_apart e = cc

pub on_err : {A P Q : Type 0} → (P → Q) → (r : Result A Refusal) → OnErr r P → OnErr r Q
on_err f (Ok x) h = h
on_err f (Err e) h = f h

-- what the controller did with it
pub decided_so : (limits : Limits) (number : ℕ) (p : Proposal) (stage : Stage) (made : LeaderAndIsr) (after : List Letter) (result : Result EventAnswer Refusal)
    → stage.first ≤ number → slice_get stage.letters (number - stage.first) ≡ Some (Proposing p) → IsRefusedOnlyBy (decide_cause stage.controller p) result
    → IfOk result (TellsOf (next_number stage) (Deciding (decision stage.controller p))) → OnOk result (made ≡ decided_on stage.controller p)
    → OnOk result (after ≡ stage.letters ++ Deciding (decision stage.controller p) ∷ []) → OnErr result (made ≡ stage.controller) → OnErr result (after ≡ stage.letters)
    → LeadOn limits stage (Deliver number ∷ []) (result ∷ []) (record { controller = made; nodes = stage.nodes; first = stage.first; letters = after })
decided_so limits number p stage made after (Ok answer) low is refused tells changed sent stays same =
    subst (λ (s : Stage). LeadOn limits stage (Deliver number ∷ []) (Ok answer ∷ []) s) (λ i. record { controller = sym changed i; nodes = stage.nodes; first = stage.first; letters = sym sent i })
    (decides limits number p stage answer low is (only_none EventAnswer (decide_cause stage.controller p) answer refused) tells)
decided_so limits number p stage made after (Err refusal) low is refused tells changed sent stays same =
    subst (λ (s : Stage). LeadOn limits stage (Deliver number ∷ []) (Err refusal ∷ []) s) (λ i. record { controller = sym stays i; nodes = stage.nodes; first = stage.first; letters = sym same i })
    (decides_not limits number p stage refusal low is (only_cause EventAnswer (decide_cause stage.controller p) refusal refused))
