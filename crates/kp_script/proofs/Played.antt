-- A script that is played some calls at a time.
use Rattle.std.proofs.Common.{◌≡◌, ◌∙◌, ℕ, ◌+◌, List, [], ◌∷◌, ◌++◌, Option, Some, None, cond, drop, length, map, take, refl, sym, ap, subst, arith, append_assoc, append-nil, length-append, zero-add, inl, inr, Err}
use Rattle.std.specs.Prelude.{IfSome, Result}
use Rattle.std.specs.List.{AllByRecursion}
use Rattle.std.specs.Io.KnownBytes.{Appends}
use Rattle.std.proofs.KnownBytes.{Appends-nil, Appends-trans}
use Rattle.std.proofs.lemmas.List.{length-map, length-reverse, map-append, take-append-drop}
use Rattle.std.proofs.lemmas.List.Sums.{sum_by-append}
use Rattle.std.proofs.lemmas.Result.{IfOk-weaker}
use Rattle.kp_types.specs.Devices.{AppendsFront, IsDeviceFault}
use Rattle.kp_types.proofs.Causes.{always}
use Rattle.kp_types.proofs.Fronts.{front_behind}
use Rattle.kp_types.specs.declared.limits.Limits.{Limits}
use Rattle.kp_types.specs.declared.refusal.Refusal.{Refusal}
use Rattle.kp_types.specs.declared.refusal.Refusal.TheVariants as refusals
use Rattle.kp_model.specs.Event as model
use Rattle.kp_model.specs.Event.{Event, Outcome, Produce}
use Rattle.kp_model.specs.Laws.{NoDeliveryIsRefusedOddly, RunsAreSafe}
use Rattle.kp_model.specs.Run.{Moment, Run}
use Rattle.kp_model.specs.World.{start}
use Rattle.kp_replica.specs.Acts.{plain_act}
use Rattle.kp_replica.specs.declared.act.Act.TheVariants.{Produce as HandsOver}
use Rattle.kp_replica.specs.Offers.{BytesAreAnOffer}
use Rattle.kp_replica.specs.Replies.{IsOffer}
use Rattle.kp_replica.proofs.Told.{plain_asked}
use Rattle.kp_replica.specs.declared.producing.Receipt.{Receipt}
use Rattle.kp_world.specs.Answers.{appended, outcome_of}
use Rattle.kp_world.specs.Events.{IsEvent}
use Rattle.kp_world.specs.declared.event.Event.TheVariants.{Acts as Happens}
use Rattle.kp_world.specs.Laws.{MayCome, PlaysGoOn}
use Rattle.kp_world.specs.Plays.{IsPlayed, IsReached, LeadOn, events_of, outcomes_of}
use Rattle.kp_world.specs.Shown.{IsShown, Stage}
use Rattle.kp_world.specs.declared.event.EventAnswer.{EventAnswer}
use Rattle.kp_world.proofs.Playing.{all_fit, answered, lead_more, lead_none, nothing_answered, reached_none}
use Rattle.kp_script.specs.Call.{Call, Header, IsCall, IsCallInRange, node_of, Elect, Append, Raw, Acts, Deliver}
use Rattle.kp_script.specs.Ended.{RunEnd, limits_in, WritesTo}
use Rattle.kp_script.specs.Playing.{BeginFrom, Front, HasPlayed, HasPlayedAll, HasPlayedFirst, LeadTo, MayPlay, PlayTo, PlayedOut, PlaysLine, PlaysOne, Reaches, TellsLine}
use Rattle.kp_script.specs.Told.{IsTold, AreTold, HandsIn, offer_of}
use Rattle.kp_script.specs.Trace.{trace_line, trace_text}
use Rattle.kp_script.specs.Script.{Script, IsScript}
use Rattle.kp_script.specs.Seen.{seen_call, seen_line}
use Rattle.kp_script.specs.declared.call.Call.{Call as ParsedCall}
use Rattle.kp_script.specs.declared.script.Line.{Line as ParsedLine}
use Rattle.kp_script.specs.Transcript.{IsTraceOf, Past, answers_before, events_before, is_refusal, largest_batch, no_past, numbered, refusals_in, WritesFirst, WritesFront}
use Rattle.kp_script.proofs.Lawful.{lawful_act, lawful_bytes, lawful_values}
use Rattle.kp_script.proofs.Telling.{AreTold-length}
use Rattle.kp_script.proofs.Tracing.{trace_append}

-- the calls alone
abbrev pub asked : List (ℕ × Call) → List Call
asked calls = map (λ call. call.1) calls

AreTold-append : (max : ℕ) (calls others : List Call) (es ds : List Event) → AreTold max calls es → AreTold max others ds → AreTold max (calls ++ others) (es ++ ds)
AreTold-append max [] others [] ds h k = k
AreTold-append max [] others (e ∷ es) ds h k = absurd h
AreTold-append max (call ∷ calls) others [] ds h k = absurd h
AreTold-append max (call ∷ calls) others (e ∷ es) ds h k = (h.0, AreTold-append max calls others es ds h.1 k)

refused_append : (xs ys : List Outcome) → refusals_in (xs ++ ys) ≡ refusals_in xs + refusals_in ys
refused_append xs ys = sum_by-append (λ (o : Outcome). cond (is_refusal o.reply) 1 0) xs ys

-- ---- lengths

-- a run has an answer to each event
one_answer_each : (count : ℕ) (r : Run count) (es : List Event) (os : List Outcome) → events_of r ≡ es → outcomes_of r ≡ os → length es ≡ length os
one_answer_each count r es os p q =
    ap length (sym p) ∙ length-reverse (map (λ (m : Moment). m.event) r.moments) ∙ length-map r.moments (λ (m : Moment). m.event)
    ∙ sym (ap length (sym q) ∙ length-reverse (map (λ (m : Moment). m.outcome) r.moments) ∙ length-map r.moments (λ (m : Moment). m.outcome))

-- each call of a trace has its outcome
pub as_many : (past : Past) (count : ℕ) (calls : List (ℕ × Call)) (es : List Event) (os : List Outcome) (r : Run count) → AreTold largest_batch (asked calls) es → events_of r ≡ events_before past ++ es
    → outcomes_of r ≡ map outcome_of (answers_before past) ++ os → length (numbered calls) ≡ length os
as_many past count calls es os r told p q =
    let before = map outcome_of (answers_before past) in
    let all : length (events_before past ++ es) ≡ length (before ++ os) = one_answer_each count r (events_before past ++ es) (before ++ os) p q in
    let own : length es ≡ length os = omega (arith, all, length-map past (λ (x : Event × Result EventAnswer Refusal). x.0), length-map past (λ (x : Event × Result EventAnswer Refusal). x.1), length-append (events_before past) es, length-append before os, length-map (answers_before past) outcome_of) in
    length-map calls _ ∙ sym (length-map calls (λ (call : ℕ × Call). call.1)) ∙ AreTold-length largest_batch (asked calls) es told ∙ own

-- ---- one call of the world

-- the event that a call tells leads on
pub led_one : (call : ℕ × Call) (e : Event) (answer : Result EventAnswer Refusal) (old new : Stage) → IsTold largest_batch call.1 e
    → ((limits : Limits) → limits.max_batch ≡ largest_batch → LeadOn limits old (e ∷ []) (answer ∷ []) new) → LeadTo (call ∷ []) old new (answer ∷ [])
led_one call e answer old new told step = record { events = e ∷ []; told = (told, tt); reach = step }

-- and what is told of the answer is what comes of the call
pub line_told : (call : ℕ × Call) (old new : Stage) (answer : Result EventAnswer Refusal) (before after : List ℕ) (r : Result ℕ Refusal) → LeadTo (call ∷ []) old new (answer ∷ [])
    → length new.nodes ≡ length old.nodes → new.first ≡ old.first → TellsLine call.0 (node_of call.1) (outcome_of answer) before after r → PlaysLine call old new before after r
line_told call old new answer before after r lead count first told = record {
  played = IfOk-weaker r _ _ (λ refused t. record { answer = answer; lead = lead; refused_is = t.1; text_is = t.0 }) told.told;
  cut = always r (inr (answer, lead));
  nodes = count;
  first = first;
  few = told.few;
  only = told.only;
}

-- so it is with the bytes that the call hands in
pub line_handed : (line : ℕ) (call : Call) (bytes : List ℕ) (receipt : Result Receipt Refusal) (old new : Stage) (before after : List ℕ) (r : Result ℕ Refusal) → HandsIn largest_batch call bytes
    → ((limits : Limits) (e : Event) → IsEvent limits.max_batch (Happens (node_of call) (HandsOver bytes)) e → LeadOn limits old (e ∷ []) (appended receipt ∷ []) new)
    → length new.nodes ≡ length old.nodes → new.first ≡ old.first → TellsLine line (node_of call) (outcome_of (appended receipt)) before after r → PlaysLine (line, call) old new before after r
line_handed line call bytes receipt old new before after r h step count first told =
    let event : Event = model.Acts (node_of call) (Produce h.offer) in
    line_told (line, call) old new (appended receipt) before after r
    (led_one (line, call) event (appended receipt) old new h.told
    (λ limits batch. step limits event (Produce h.offer, (h.offer, subst (λ (max : ℕ). IsOffer max bytes h.offer) (sym batch) h.is, refl), refl)))
    count first told

-- nothing came of it where memory was wanted before
pub line_cut : (call : ℕ × Call) (old new : Stage) (before after : List ℕ) (refusal : Refusal) → new ≡ old → refusal ≡ refusals.Memory → PlaysLine call old new before after (Err refusal)
line_cut call old new before after refusal same memory =
    record {
      played = tt;
      cut = inl same;
      nodes = ap (λ (stage : Stage). length stage.nodes) same;
      first = ap (λ (stage : Stage). stage.first) same;
      few = tt;
      only = memory;
    }

-- what comes of the call that the parser's line holds
pub line_seen : (line : ParsedLine) (call : ParsedCall) (old new : Stage) (before after : List ℕ) (r : Result ℕ Refusal) → line.call ≡ call
    → PlaysLine (line.number, seen_call call) old new before after r → PlaysLine (seen_line line) old new before after r
line_seen line call old new before after r is h = subst (λ (other : ParsedCall). PlaysLine (line.number, seen_call other) old new before after r) (sym is) h

leads_more : (calls others : List (ℕ × Call)) (old mid new : Stage) (answers rest : List (Result EventAnswer Refusal)) → LeadTo calls old mid answers → LeadTo others mid new rest
    → LeadTo (calls ++ others) old new (answers ++ rest)
leads_more calls others old mid new answers rest p q =
    record {
      events = p.events ++ q.events;
      told =
          subst (λ (all : List Call). AreTold largest_batch all (p.events ++ q.events)) (sym (map-append (λ (call : ℕ × Call). call.1) calls others))
          (AreTold-append largest_batch (asked calls) (asked others) p.events q.events p.told q.told);
      reach = λ limits batch. lead_more limits old mid new p.events q.events answers rest (p.reach limits batch) (q.reach limits batch);
    }

-- ---- calls that are played one after another

pub out_none : (stage : Stage) → PlayedOut [] stage stage 0 []
out_none stage =
    record {
      answers = [];
      many = refl;
      lead = record { events = []; told = tt; reach = λ limits batch. lead_none limits stage [] [] refl refl };
      refused_is = refl;
      text_is = refl;
    }

pub out_more : (calls : List (ℕ × Call)) (call : ℕ × Call) (old mid new : Stage) (refused more : ℕ) (text after : List ℕ) → PlayedOut calls old mid refused text → PlaysOne call mid new more text after
    → PlayedOut (calls ++ call ∷ []) old new (refused + more) after
out_more calls call old mid new refused more text after p q =
    let outcomes = map outcome_of p.answers in
    let line = trace_line call.0 (node_of call.1) (outcome_of q.answer) in
    let many : length (numbered calls) ≡ length outcomes = length-map calls _ ∙ sym p.many ∙ sym (length-map p.answers outcome_of) in
    record {
      answers = p.answers ++ q.answer ∷ [];
      many = omega (arith, p.many, length-append p.answers (q.answer ∷ []), length-append calls (call ∷ []));
      lead = leads_more calls (call ∷ []) old mid new p.answers (q.answer ∷ []) p.lead q.lead;
      refused_is =
          ap (λ (n : ℕ). n + more) p.refused_is ∙ ap (λ (n : ℕ). refusals_in outcomes + n) q.refused_is
          ∙ sym (ap refusals_in (map-append outcome_of p.answers (q.answer ∷ [])) ∙ refused_append outcomes (outcome_of q.answer ∷ []));
      text_is =
          q.text_is ∙ ap (λ (t : List ℕ). t ++ line) p.text_is ∙ ap (λ (t : List ℕ). trace_text (numbered calls) outcomes ++ t) (sym (append-nil line))
          ∙ sym (trace_append (numbered calls) (numbered (call ∷ [])) outcomes (outcome_of q.answer ∷ []) many)
          ∙ sym (ap (λ (xs : List (ℕ × ℕ)). trace_text xs (map outcome_of (p.answers ++ q.answer ∷ []))) (map-append _ calls (call ∷ []))
          ∙ ap (λ (os : List Outcome). trace_text (numbered calls ++ numbered (call ∷ [])) os) (map-append outcome_of p.answers (q.answer ∷ [])));
    }

-- and their trace is written, or a beginning of it
pub out_written : (calls : List (ℕ × Call)) (old new : Stage) (refused : ℕ) (text : List ℕ) (before after : Option (List ℕ)) → PlayedOut calls old new refused text → Appends before after text
    → PlayTo calls old new refused before after
out_written calls old new refused text before after p out = record { answers = p.answers; lead = p.lead; refused_is = p.refused_is; written = subst (Appends before after) p.text_is out }

pub out_begun : (calls : List (ℕ × Call)) (old new : Stage) (refused : ℕ) (text : List ℕ) (before after : Option (List ℕ)) → PlayedOut calls old new refused text → AppendsFront before after text
    → BeginFrom calls old before after
out_begun calls old new refused text before after p out = record { new = new; answers = p.answers; lead = p.lead; begun = subst (AppendsFront before after) p.text_is out }

-- one call alone
pub one_out : (call : ℕ × Call) (old new : Stage) (refused : ℕ) (text : List ℕ) → PlaysOne call old new refused [] text → PlayedOut (call ∷ []) old new refused text
one_out call old new refused text q = subst (λ (n : ℕ). PlayedOut (call ∷ []) old new n text) (zero-add refused) (out_more [] call old old new 0 refused [] text (out_none old) q)

-- ---- parts of the lines

pub first_part : (P : ℕ × Call → Type 0) (xs ys : List (ℕ × Call)) → AllByRecursion P (xs ++ ys) → AllByRecursion P xs
first_part P [] ys h = tt
first_part P (x ∷ xs) ys h = (h.0, first_part P xs ys h.1)

pub second_part : (P : ℕ × Call → Type 0) (xs ys : List (ℕ × Call)) → AllByRecursion P (xs ++ ys) → AllByRecursion P ys
second_part P [] ys h = h
second_part P (x ∷ xs) ys h = second_part P xs ys h.1

pub same_lawful : (count : ℕ) (all items : List (ℕ × Call)) → all ≡ items → AllByRecursion (λ call. IsCall count call.1) items
    → AllByRecursion (λ call. IsCall count call.1) all
same_lawful count all items is h = subst (λ (xs : List (ℕ × Call)). AllByRecursion (λ call. IsCall count call.1) xs) (sym is) h

pub rest_lawful : (count : ℕ) (all done rest : List (ℕ × Call)) → all ≡ done ++ rest → AllByRecursion (λ call. IsCall count call.1) all
    → AllByRecursion (λ call. IsCall count call.1) rest
rest_lawful count all done rest is h =
    second_part (λ call. IsCall count call.1) done rest (subst (λ (xs : List (ℕ × Call)). AllByRecursion (λ call. IsCall count call.1) xs) is h)

-- Lines that are done, those that come next, and the others behind them.
pub record Parts (all done rest next others : List (ℕ × Call)) : Type 0 where
  pub lines_are : all ≡ done ++ (next ++ others)
  pub rest_is : rest ≡ next ++ others

pub parts : (all done rest next others : List (ℕ × Call)) (n : ℕ) → all ≡ done ++ rest → next ≡ take n rest → others ≡ drop n rest → Parts all done rest next others
parts all done rest next others n is front back =
    let whole_rest : rest ≡ next ++ others =
    sym (take-append-drop n rest) ∙ ap (λ (xs : List (ℕ × Call)). xs ++ drop n rest) (sym front) ∙ ap (λ (ys : List (ℕ × Call)). next ++ ys) (sym back) in
    record { lines_are = is ∙ ap (λ (ys : List (ℕ × Call)). done ++ ys) whole_rest; rest_is = whole_rest }

module _ (count : ℕ) (all done rest next others : List (ℕ × Call)) (p : Parts all done rest next others) (h : AllByRecursion (λ call. IsCall count call.1) all) where
  behind : AllByRecursion (λ call. IsCall count call.1) (next ++ others)
  behind =
      second_part (λ call. IsCall count call.1) done (next ++ others)
      (subst (λ (xs : List (ℕ × Call)). AllByRecursion (λ call. IsCall count call.1) xs) p.lines_are h)

  pub next_lawful : AllByRecursion (λ call. IsCall count call.1) next
  next_lawful = first_part (λ call. IsCall count call.1) next others behind

  pub others_lawful : AllByRecursion (λ call. IsCall count call.1) others
  others_lawful = second_part (λ call. IsCall count call.1) next others behind

pub nothing_left : (xs : List (ℕ × Call)) → length xs ≡ 0 → xs ≡ []
nothing_left [] e = refl
nothing_left (x ∷ xs) e = absurd (omega arith)

-- every message is one of this process, if none was sent before
pub reaches_all : (call : Call) → Reaches 0 call
reaches_all (Deliver number) = omega arith
reaches_all _ = tt

pub all_may_play : (stage : Stage) (count : ℕ) (calls : List (ℕ × Call)) → length stage.nodes ≡ count → stage.first ≡ 0 → AllByRecursion (λ call. IsCall count call.1) calls
    → AllByRecursion (λ call. MayPlay stage call.1) calls
all_may_play stage count [] nodes first h = tt
all_may_play stage count (call ∷ calls) nodes first h = (
  (subst (λ (n : ℕ). IsCall n call.1) (sym nodes) h.0, subst (λ (n : ℕ). Reaches n call.1) (sym first) (reaches_all call.1)),
  all_may_play stage count calls nodes first h.1,
)

-- calls that may be played are in range
pub all_lawful : (stage : Stage) (count : ℕ) (calls : List (ℕ × Call)) → length stage.nodes ≡ count → AllByRecursion (λ call. MayPlay stage call.1) calls
    → AllByRecursion (λ call. IsCall count call.1) calls
all_lawful stage count [] nodes h = tt
all_lawful stage count (call ∷ calls) nodes h = (subst (λ (n : ℕ). IsCall n call.1) nodes h.0.0, all_lawful stage count calls nodes h.1)

-- and so it is on another stage of so many nodes that begins with the same message
pub may_play_too : (old new : Stage) (calls : List (ℕ × Call)) → length new.nodes ≡ length old.nodes → new.first ≡ old.first → AllByRecursion (λ call. MayPlay old call.1) calls
    → AllByRecursion (λ call. MayPlay new call.1) calls
may_play_too old new [] nodes first h = tt
may_play_too old new (call ∷ calls) nodes first h = (
  (subst (λ (n : ℕ). IsCall n call.1) (sym nodes) h.0.0, subst (λ (n : ℕ). Reaches n call.1) (sym first) h.0.1),
  may_play_too old new calls nodes first h.1,
)

-- ---- what has been played

-- nothing, behind a past that led to this stage
pub played_past : (past : Past) (header : Header) (stage : Stage) (known : Option (List ℕ)) → IsReached header.count (limits_in header) (events_before past) (answers_before past) stage
    → HasPlayed past header [] stage 0 known known
played_past past header stage known reached =
    record {
      events = [];
      told = tt;
      answers = [];
      reached = subst (λ (es : List Event). IsReached header.count (limits_in header) es (answers_before past ++ []) stage) (sym (append-nil (events_before past)))
          (subst (λ (os : List (Result EventAnswer Refusal)). IsReached header.count (limits_in header) (events_before past) os stage) (sym (append-nil (answers_before past))) reached);
      refused_is = refl;
      written = Appends-nil known;
    }

pub played_none : (header : Header) (stage : Stage) (known : Option (List ℕ)) → IsShown (limits_in header) stage (start header.count) → HasPlayed no_past header [] stage 0 known known
played_none header stage known shown = played_past no_past header stage known (reached_none header.count (limits_in header) stage shown)

-- the answers to the past's events and to these
pub outcomes_behind : (past : Past) (header : Header) (done : List (ℕ × Call)) (stage : Stage) (refused : ℕ) (known now : Option (List ℕ)) (p : HasPlayed past header done stage refused known now)
    → outcomes_of p.reached.run ≡ map outcome_of (answers_before past) ++ map outcome_of p.answers
outcomes_behind past header done stage refused known now p = p.reached.outcomes_are ∙ map-append outcome_of (answers_before past) p.answers

-- as many answers as calls
pub answers_many : (past : Past) (header : Header) (done : List (ℕ × Call)) (stage : Stage) (refused : ℕ) (known now : Option (List ℕ)) (p : HasPlayed past header done stage refused known now)
    → length (numbered done) ≡ length (map outcome_of p.answers)
answers_many past header done stage refused known now p =
    as_many past header.count done p.events (map outcome_of p.answers) p.reached.run p.told p.reached.events_are (outcomes_behind past header done stage refused known now p)

-- where these calls lead from what was reached
led : (past : Past) (header : Header) (done calls : List (ℕ × Call)) (old new : Stage) (refused : ℕ) (known mid : Option (List ℕ)) (p : HasPlayed past header done old refused known mid)
    (answers : List (Result EventAnswer Refusal)) (lead : LeadTo calls old new answers)
    → (AreTold largest_batch (asked (done ++ calls)) (p.events ++ lead.events))
    × (IsReached header.count (limits_in header) (events_before past ++ (p.events ++ lead.events)) (answers_before past ++ (p.answers ++ answers)) new)
    × (trace_text (numbered (done ++ calls)) (map outcome_of (p.answers ++ answers))
    ≡ trace_text (numbered done) (map outcome_of p.answers) ++ trace_text (numbered calls) (map outcome_of answers))
led past header done calls old new refused known mid p answers lead =
    let told : AreTold largest_batch (asked (done ++ calls)) (p.events ++ lead.events) =
    subst (λ (all : List Call). AreTold largest_batch all (p.events ++ lead.events)) (sym (map-append (λ (call : ℕ × Call). call.1) done calls))
    (AreTold-append largest_batch (asked done) (asked calls) p.events lead.events p.told lead.told) in
    let before = answers_many past header done old refused known mid p in (
      told,
      subst (λ (es : List Event). IsReached header.count (limits_in header) es (answers_before past ++ (p.answers ++ answers)) new) (append_assoc (events_before past) p.events lead.events)
          (subst (λ (os : List (Result EventAnswer Refusal)). IsReached header.count (limits_in header) ((events_before past ++ p.events) ++ lead.events) os new) (append_assoc (answers_before past) p.answers answers)
          (lead.reach (limits_in header) refl header.count (events_before past ++ p.events) (answers_before past ++ p.answers) p.reached)),
      ap (λ (xs : List (ℕ × ℕ)). trace_text xs (map outcome_of (p.answers ++ answers))) (map-append _ done calls)
          ∙ ap (λ (os : List Outcome). trace_text (numbered done ++ numbered calls) os) (map-append outcome_of p.answers answers)
          ∙ trace_append (numbered done) (numbered calls) (map outcome_of p.answers) (map outcome_of answers) before,
    )

-- some calls more
pub played_more : (past : Past) (header : Header) (done calls : List (ℕ × Call)) (old new : Stage) (refused more : ℕ) (known mid now : Option (List ℕ)) → HasPlayed past header done old refused known mid
    → PlayTo calls old new more mid now → HasPlayed past header (done ++ calls) new (refused + more) known now
played_more past header done calls old new refused more known mid now p q =
    let next = led past header done calls old new refused known mid p q.answers q.lead in
    record {
      events = p.events ++ q.lead.events;
      told = next.0;
      answers = p.answers ++ q.answers;
      reached = next.1;
      refused_is =
          ap (λ (n : ℕ). n + more) p.refused_is ∙ ap (λ (n : ℕ). refusals_in (map outcome_of p.answers) + n) q.refused_is
          ∙ sym (ap refusals_in (map-append outcome_of p.answers q.answers) ∙ refused_append (map outcome_of p.answers) (map outcome_of q.answers));
      written = subst (Appends known now) (sym next.2) (Appends-trans known mid now _ _ p.written q.written);
    }

-- and their answers stand behind the earlier ones; what is known of the bytes doesn't matter
pub played_on : (past : Past) (header : Header) (done calls : List (ℕ × Call)) (old new : Stage) (refused : ℕ) (p : HasPlayed past header done old refused None None) (answers : List (Result EventAnswer Refusal))
    → LeadTo calls old new answers
    → (r : HasPlayed past header (done ++ calls) new (refused + refusals_in (map outcome_of answers)) None None) × (r.answers ≡ p.answers ++ answers)
unfolding played_more
played_on past header done calls old new refused p answers lead = (
  played_more past header done calls old new refused (refusals_in (map outcome_of answers)) None None None p (record { answers = answers; lead = lead; refused_is = refl; written = tt }),
  refl,
)

-- what has been played is the trace of its calls, of the run that has been reached
abbrev pub traced : RunsAreSafe → NoDeliveryIsRefusedOddly → (past : Past) (header : Header) (done : List (ℕ × Call)) (stage : Stage) (refused : ℕ) (known now : Option (List ℕ))
    → (p : HasPlayed past header done stage refused known now) → IsTraceOf past header.count done (trace_text (numbered done) (map outcome_of p.answers)) refused
traced safe odd past header done stage refused known now p =
    let reached = p.reached in
    record {
      events = p.events;
      told = p.told;
      outcomes = map outcome_of p.answers;
      played = record {
        run = reached.run;
        events_are = reached.events_are;
        outcomes_are = outcomes_behind past header done stage refused known now p;
        safe = safe header.count reached.run;
        fits = all_fit odd header.count reached.run;
        spared = reached.spared;
      };
      text_is = refl;
      refused_is = p.refused_is;
    }

pub traced_none : RunsAreSafe → (count : ℕ) → IsTraceOf no_past count [] [] 0
traced_none safe count =
    record { events = []; told = tt; outcomes = []; played = (nothing_answered count (safe count)).played; text_is = refl; refused_is = refl }

-- ---- calls that were not played tell events all the same, and the run goes on with them

told_of : BytesAreAnOffer → (count : ℕ) (call : Call) → IsCallInRange count call → (e : Event) × (IsTold largest_batch call e × MayCome count e)
told_of offers count (Elect node) h = (model.Elect node, (refl, tt))
told_of offers count (Append node time sender transactional values) h =
    (model.Acts node (Produce (offer_of largest_batch time sender transactional values)), (refl, (h.0, tt, lawful_values time sender transactional values h.2 h.1 h.3 h.4)))
told_of offers count (Raw node bytes) h =
    let o = offers largest_batch bytes h.2 in
    (model.Acts node (Produce o.0), ((o.0, o.1, refl), (h.0, tt, lawful_bytes largest_batch bytes o.0 o.1)))
told_of offers count (Acts node act) h = (model.Acts node (plain_act act), (refl, (h.0, plain_asked act, lawful_act act)))
told_of offers count (Deliver number) h = (model.Deliver number, (refl, tt))

record Tellings (count : ℕ) (calls : List (ℕ × Call)) : Type 0 where
  events : List Event
  told : AreTold largest_batch (asked calls) events
  may : AllByRecursion (MayCome count) events

all_told : BytesAreAnOffer → (count : ℕ) (calls : List (ℕ × Call)) → AllByRecursion (λ call. IsCall count call.1) calls → Tellings count calls
all_told offers count [] h = record { events = []; told = tt; may = tt }
all_told offers count (call ∷ calls) h =
    let first = told_of offers count call.1 h.0.range in
    let others = all_told offers count calls h.1 in
    record { events = first.0 ∷ others.events; told = (first.1.0, others.told); may = (first.1.1, others.may) }

-- the whole trace, of which this one is the beginning
pub record Whole (past : Past) (count : ℕ) (calls : List (ℕ × Call)) (text : List ℕ) : Type 0 where
  pub rest : List ℕ
  pub refused : ℕ
  pub trace : IsTraceOf past count calls (text ++ rest) refused

pub whole : PlaysGoOn → BytesAreAnOffer → (past : Past) (count : ℕ) (calls done others : List (ℕ × Call)) (text : List ℕ) (refused : ℕ) → calls ≡ done ++ others
    → AllByRecursion (λ call. IsCall count call.1) others → IsTraceOf past count done text refused → Whole past count calls text
whole go offers past count calls done others text refused calls_are lawful t =
    let tellings = all_told offers count others lawful in
    let earlier = map outcome_of (answers_before past) in
    let more = go count (events_before past ++ t.events) tellings.events (earlier ++ t.outcomes) t.played tellings.may in
    let before : length (numbered done) ≡ length t.outcomes =
    as_many past count done t.events t.outcomes t.played.run t.told t.played.events_are t.played.outcomes_are in
    subst (λ (all : List (ℕ × Call)). Whole past count all text) (sym calls_are)
    (record {
      rest = trace_text (numbered others) more.0;
      refused = refusals_in (t.outcomes ++ more.0);
      trace = record {
        events = t.events ++ tellings.events;
        told =
            subst (λ (all : List Call). AreTold largest_batch all (t.events ++ tellings.events)) (sym (map-append (λ (call : ℕ × Call). call.1) done others))
            (AreTold-append largest_batch (asked done) (asked others) t.events tellings.events t.told tellings.told);
        outcomes = t.outcomes ++ more.0;
        played = subst (λ (es : List Event). IsPlayed count es (earlier ++ (t.outcomes ++ more.0))) (append_assoc (events_before past) t.events tellings.events)
            (subst (λ (os : List Outcome). IsPlayed count ((events_before past ++ t.events) ++ tellings.events) os) (append_assoc earlier t.outcomes more.0) more.1);
        text_is =
            ap (λ (front : List ℕ). front ++ trace_text (numbered others) more.0) t.text_is
            ∙ sym (ap (λ (xs : List (ℕ × ℕ)). trace_text xs (t.outcomes ++ more.0)) (map-append _ done others)
            ∙ trace_append (numbered done) (numbered others) t.outcomes more.0 before);
        refused_is = refl;
      };
    })

-- ---- what stands written where the run ends early

-- whole lines
pub whole_lines : PlaysGoOn → BytesAreAnOffer → (past : Past) (count : ℕ) (calls done others : List (ℕ × Call)) (text : List ℕ) (refused : ℕ) (old now : Option (List ℕ)) → calls ≡ done ++ others
    → AllByRecursion (λ call. IsCall count call.1) others → IsTraceOf past count done text refused → Appends old now text → Front past count calls old now
whole_lines go offers past count calls done others text refused old now calls_are lawful t out =
    let all = whole go offers past count calls done others text refused calls_are lawful t in
    (text ++ all.rest, all.refused, all.trace, front_behind old now now text [] all.rest out (0, Appends-nil now))

-- and the beginning of another few
pub begun_lines : RunsAreSafe → NoDeliveryIsRefusedOddly → PlaysGoOn → BytesAreAnOffer → (past : Past) (header : Header) (all done calls others : List (ℕ × Call)) (stage : Stage) (refused : ℕ) (old mid now : Option (List ℕ))
    → all ≡ done ++ (calls ++ others) → AllByRecursion (λ call. IsCall header.count call.1) others → HasPlayed past header done stage refused old mid → BeginFrom calls stage mid now → Front past header.count all old now
begun_lines safe odd go offers past header all done calls others stage refused old mid now all_are lawful p q =
    let next = led past header done calls stage q.new refused old mid p q.answers q.lead in
    let so_far = trace_text (numbered done) (map outcome_of p.answers) in
    let begun = trace_text (numbered calls) (map outcome_of q.answers) in
    let answers = p.answers ++ q.answers in
    let t : IsTraceOf past header.count (done ++ calls) (so_far ++ begun) (refusals_in (map outcome_of answers)) =
    record {
      events = p.events ++ q.lead.events;
      told = next.0;
      outcomes = map outcome_of answers;
      played = subst (λ (os : List Outcome). IsPlayed header.count (events_before past ++ (p.events ++ q.lead.events)) os) (map-append outcome_of (answers_before past) answers)
          (answered header.count (limits_in header) (events_before past ++ (p.events ++ q.lead.events)) (answers_before past ++ answers) q.new (safe header.count) odd next.1).played;
      text_is = sym next.2;
      refused_is = refl;
    } in
    let w = whole go offers past header.count all (done ++ calls) others (so_far ++ begun) _ (all_are ∙ sym (append_assoc done calls others)) lawful t in (
      (so_far ++ begun) ++ w.rest,
      w.refused,
      w.trace,
      subst (AppendsFront old now) (sym (append_assoc so_far begun w.rest)) (front_behind old mid now so_far begun w.rest p.written q.begun),
    )

-- ---- and where the input is known

pub writes_to : RunsAreSafe → NoDeliveryIsRefusedOddly → (past : Past) (input : Option (List ℕ)) (bytes : List ℕ) (script : Script) (stage : Stage) (refused : ℕ) (old now : Option (List ℕ)) → IfSome input (λ all. bytes ≡ all)
    → IsScript bytes script → length stage.nodes ≡ script.header.count → HasPlayed past script.header script.calls stage refused old now
    → WritesTo past input old now (record { refused = refused; stage = stage })
writes_to safe odd past None bytes script stage refused old now same spelled count p = tt
writes_to safe odd past (Some all) bytes script stage refused old now same spelled count p = (
  trace_text (numbered script.calls) (map outcome_of p.answers),
  record {
    transcript = record {
      script = script;
      spelled = subst (λ (b : List ℕ). IsScript b script) same spelled;
      trace = traced safe odd past script.header script.calls stage refused old now p;
    };
    shown = p.reached.shown;
  },
  p.written,
)

pub writes_front : (past : Past) (input : Option (List ℕ)) (bytes : List ℕ) (script : Script) (old now : Option (List ℕ)) → IfSome input (λ all. bytes ≡ all) → IsScript bytes script
    → Front past script.header.count script.calls old now → WritesFront past input old now
writes_front past None bytes script old now same spelled f = inr tt
writes_front past (Some all) bytes script old now same spelled (text, refused, t, out) =
    inr (text, refused, record { script = script; spelled = subst (λ (b : List ℕ). IsScript b script) same spelled; trace = t }, out)

pub writes_first : (past : Past) (input : Option (List ℕ)) (bytes : List ℕ) (script : Script) (first others : List (ℕ × Call)) (refused : ℕ) (text : List ℕ) (old now : Option (List ℕ))
    → IfSome input (λ all. bytes ≡ all) → IsScript bytes script → script.calls ≡ first ++ others → IsTraceOf past script.header.count first text refused → Appends old now text → WritesFirst past input old now
writes_first past None bytes script first others refused text old now same spelled calls_are t out = inr tt
writes_first past (Some all) bytes script first others refused text old now same spelled calls_are t out =
    inr (
      text,
      record {
        script = script;
        spelled = subst (λ (b : List ℕ). IsScript b script) same spelled;
        trace = record { first = first; others = others; calls_are = calls_are; refused = refused; trace = t };
      },
      out,
    )

-- all of a script that was read has been played
pub writes_after : RunsAreSafe → NoDeliveryIsRefusedOddly → (past : Past) (input : Option (List ℕ)) (bytes : List ℕ) (script : Script) (ended : RunEnd) (old now : Option (List ℕ)) → IfSome input (λ all. bytes ≡ all)
    → IsScript bytes script → HasPlayedAll past script ended old now → WritesTo past input old now ended
writes_after safe odd past input bytes script ended old now same spelled p =
    subst (WritesTo past input old now) (λ i. record { refused = ended.refused; stage = sym p.stage_is i })
    (writes_to safe odd past input bytes script p.stage ended.refused old now same spelled p.nodes p.played)

-- or the first calls
pub writes_first_of : RunsAreSafe → NoDeliveryIsRefusedOddly → (past : Past) (input : Option (List ℕ)) (bytes : List ℕ) (script : Script) (old now : Option (List ℕ)) → IfSome input (λ all. bytes ≡ all)
    → IsScript bytes script → HasPlayedFirst past script old now → WritesFirst past input old now
writes_first_of safe odd past input bytes script old now same spelled p =
    writes_first past input bytes script p.done p.others p.refused _ old now same spelled p.calls_are
    (traced safe odd past script.header p.done p.stage p.refused old now p.played) p.played.written

-- ---- which refusal it was

pub by_fault : (r : Refusal) (P : Type 0) → IsDeviceFault r → (r ≡ refusals.Device → P) → (r ≡ refusals.Memory → P) → P
by_fault refusals.Device P h device memory = device refl
by_fault refusals.Memory P h device memory = memory refl
by_fault _ P h device memory = absurd h
