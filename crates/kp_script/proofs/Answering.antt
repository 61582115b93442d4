-- A pipe that is answered line by line.
use Rattle.std.proofs.Common.{◌≡◌, ◌∙◌, ◌⊎◌, ℕ, suc, ◌+◌, ◌<◌, ◌≤◌, Bool, true, false, cond, List, [], ◌∷◌, ◌++◌, Option, None, Some, Result, Ok, Err, length, length-append, map, take, take_all, refl, sym, ap, subst, arith, append_assoc, append-nil, inl, inr}
use Rattle.std.specs.Prelude.{IfOk, IfSome, OnOk, ◌&&◌, ◌||◌, ◌==◌, filter, is_none, nat_le, nat_lt, not, slice_index}
use Rattle.std.specs.List.{AllByRecursion, enumerate_from, list_all}
use Rattle.std.specs.Io.KnownBytes.{Appends, IsAtEnd}
use Rattle.std.proofs.KnownBytes.{Appends-trans}
use Rattle.std.proofs.lemmas.Bool.{lt-leb}
use Rattle.std.proofs.lemmas.List.{length-map, length-take, map-append}
use Rattle.std.proofs.lemmas.List.Concat.{flat_map-append}
use Rattle.std.proofs.lemmas.List.Sums.{sum_by-append}
use Rattle.kp_types.specs.Devices.{AppendsFront}
use Rattle.kp_types.specs.declared.refusal.Refusal.{Refusal}
use Rattle.kp_model.specs.Event.{Outcome}
use Rattle.kp_model.specs.Laws.{NoDeliveryIsRefusedOddly, RunsAreSafe, RunsKeepCount}
use Rattle.kp_model.proofs.InRuns.RunLaws.{last_is_of}
use Rattle.kp_model.specs.Run.{last}
use Rattle.kp_model.specs.World.{start}
use Rattle.kp_world.specs.Answers.{outcome_of}
use Rattle.kp_world.specs.Shown.{IsShown, Stage}
use Rattle.kp_world.specs.declared.event.EventAnswer.{EventAnswer}
use Rattle.kp_script.specs.Call.{Call, Header, IsCallText, IsHeaderText, SpellsNoCall, node_of}
use Rattle.kp_script.specs.Ended.{limits_in}
use Rattle.kp_script.specs.Lines.{sent_lines}
use Rattle.kp_script.specs.Piped.{AreSaid, EndsBehind, Heard, IsNoHeader, IsPiped, PipesFirst, PipesFront, PipesTo, Says, answers_text, calls_in, counted_in, counts, fault_line, fault_lines, faults_among}
use Rattle.kp_script.specs.Piping.{AnswersFront, Stands, StandsCut, StandsOn, Unanswered, stage_of}
use Rattle.kp_script.specs.Playing.{CutsOne, HasPlayed, LeadTo, PlayTo, PlayedOut}
use Rattle.kp_script.specs.Reads.{Reads, ReadsInto, kept_of}
use Rattle.kp_script.specs.Trace.{trace_line, trace_text}
use Rattle.kp_script.specs.Transcript.{no_past, numbered, refusals_in}
use Rattle.kp_script.specs.declared.pipe.Running.{Running}
use Rattle.kp_script.proofs.Played.{as_many, played_none, played_on, traced}

-- ---- what lines say, one line more

said_more : (count : ℕ) (lines : List (ℕ × Option (List ℕ))) (said : List (ℕ × Option Call)) (line : ℕ × Option (List ℕ)) (one : ℕ × Option Call) → AreSaid count lines said → Says count line one
    → AreSaid count (lines ++ line ∷ []) (said ++ one ∷ [])
said_more count [] [] line one h k = (k, tt)
said_more count [] (s ∷ said) line one h k = absurd h
said_more count (l ∷ lines) [] line one h k = absurd h
said_more count (l ∷ lines) (s ∷ said) line one h k = (h.0, said_more count lines said line one h.1 k)

calls_append : (xs ys : List (ℕ × Option Call)) → calls_in (xs ++ ys) ≡ calls_in xs ++ calls_in ys
calls_append [] ys = refl
calls_append ((number, None) ∷ xs) ys = calls_append xs ys
calls_append ((number, Some call) ∷ xs) ys = ap (λ (cs : List (ℕ × Call)). (number, call) ∷ cs) (calls_append xs ys)

faults_append : (xs ys : List (ℕ × Option Call)) → faults_among (xs ++ ys) ≡ faults_among xs + faults_among ys
faults_append xs ys = sum_by-append (λ (line : ℕ × Option Call). cond (is_none line.1) 1 0) xs ys

text_append : (xs ys : List (ℕ × Option Call)) (os ps : List Outcome) → length (calls_in xs) ≡ length os → answers_text (xs ++ ys) (os ++ ps) ≡ answers_text xs os ++ answers_text ys ps
text_append [] ys [] ps e = refl
text_append [] ys (o ∷ os) ps e = absurd (omega arith)
text_append ((number, None) ∷ xs) ys os ps e =
    ap (λ (text : List ℕ). fault_line number ++ text) (text_append xs ys os ps e) ∙ sym (append_assoc (fault_line number) (answers_text xs os) (answers_text ys ps))
text_append ((number, Some call) ∷ xs) ys [] ps e = absurd (omega arith)
text_append ((number, Some call) ∷ xs) ys (o ∷ os) ps e =
    let line = trace_line number (node_of call) o in
    ap (λ (text : List ℕ). line ++ text) (text_append xs ys os ps (omega arith)) ∙ sym (append_assoc line (answers_text xs os) (answers_text ys ps))

one_answer : (number : ℕ) (call : Call) (os : List Outcome) → answers_text ((number, Some call) ∷ []) os ≡ trace_text (numbered ((number, call) ∷ [])) os
one_answer number call [] = refl
one_answer number call (o ∷ os) = refl

-- one more line behind the header
abbrev heard_more : (all : List (ℕ × Option (List ℕ))) (h : Heard all) (line : ℕ × Option (List ℕ)) (one : ℕ × Option Call) → Says h.header.count line one → Heard (all ++ line ∷ [])
heard_more all h line one says =
    record {
      before = h.before;
      number = h.number;
      first = h.first;
      rest = h.rest ++ line ∷ [];
      whole = ap (λ (ls : List (ℕ × Option (List ℕ))). ls ++ line ∷ []) h.whole ∙ append_assoc h.before ((h.number, Some h.first) ∷ h.rest) (line ∷ []);
      no_header = h.no_header;
      header = h.header;
      spelled = h.spelled;
      said = h.said ++ one ∷ [];
      are = said_more h.header.count h.rest h.said line one h.are says;
    }

-- ---- the lines that count

put_first : {A : Type 0} (b : Bool) (x : A) (xs ys : List A) → cond b (x ∷ (xs ++ ys)) (xs ++ ys) ≡ cond b (x ∷ xs) xs ++ ys
put_first true x xs ys = refl
put_first false x xs ys = refl

filter_append : {A : Type 0} (p : A → Bool) (xs ys : List A) → filter p (xs ++ ys) ≡ filter p xs ++ filter p ys
filter_append p [] ys = refl
filter_append {A} p (x ∷ xs) ys =
    ap (λ (l : List A). cond (p x) (x ∷ l) l) (filter_append p xs ys) ∙ put_first (p x) x (filter p xs) (filter p ys)

numbered_push : (n : ℕ) (read : List (Option (List ℕ))) (line : Option (List ℕ)) → enumerate_from n (read ++ line ∷ []) ≡ enumerate_from n read ++ (n + length read, line) ∷ []
numbered_push n [] line = let same : n ≡ n + 0 = omega arith in ap (λ (m : ℕ). (m, line) ∷ []) same
numbered_push n (x ∷ read) line = let same : (n + 1) + length read ≡ n + suc (length read) = omega arith in
    ap (λ (l : List (ℕ × Option (List ℕ))). (n, x) ∷ l) (numbered_push (n + 1) read line ∙ ap (λ (m : ℕ). enumerate_from (n + 1) read ++ (m, line) ∷ []) same)

pub counted_push : (read : List (Option (List ℕ))) (line : Option (List ℕ)) (number : ℕ) → number ≡ length read + 1 → counted_in (read ++ line ∷ []) ≡ counted_in read ++ filter counts ((number, line) ∷ [])
counted_push read line number is =
    let same : 1 + length read ≡ number = omega arith in
    ap (filter counts) (numbered_push 1 read line) ∙ filter_append counts (enumerate_from 1 read) _ ∙ ap (λ (m : ℕ). counted_in read ++ filter counts ((m, line) ∷ [])) same

pub counts_one : (line : ℕ × Option (List ℕ)) → counts line ≡ true → filter counts (line ∷ []) ≡ line ∷ []
counts_one line e = rw e refl

pub counts_none : (line : ℕ × Option (List ℕ)) → counts line ≡ false → filter counts (line ∷ []) ≡ []
counts_none line e = rw e refl

-- ---- what an answer does

all_more : (P : ℕ × Option (List ℕ) → Type 0) (xs : List (ℕ × Option (List ℕ))) (x : ℕ × Option (List ℕ)) → AllByRecursion P xs → P x → AllByRecursion P (xs ++ x ∷ [])
all_more P [] x h k = (k, tt)
all_more P (y ∷ ys) x h k = (h.0, all_more P ys x h.1 k)

faults_more : (all : List (ℕ × Option (List ℕ))) (line : ℕ × Option (List ℕ)) → fault_lines (all ++ line ∷ []) ≡ fault_lines all ++ fault_line line.0
faults_more all line = flat_map-append (λ (l : ℕ × Option (List ℕ)). fault_line l.0) all (line ∷ []) ∙ ap (λ (text : List ℕ). fault_lines all ++ text) (append-nil (fault_line line.0))

-- a line that isn't counted
pub stands_quiet : (line : ℕ × Option (List ℕ)) (running : Option Running) → counts line ≡ false → StandsOn line running running 0 []
stands_quiet line running e = λ all text answered s.
    let same : all ≡ all ++ filter counts (line ∷ []) = sym (ap (λ (l : List (ℕ × Option (List ℕ))). all ++ l) (counts_none line e) ∙ append-nil all) in
    let number : answered ≡ answered + 0 = omega arith in
    subst (λ (n : ℕ). Stands (all ++ filter counts (line ∷ [])) (text ++ []) n running) number
    (subst (λ (t : List ℕ). Stands (all ++ filter counts (line ∷ [])) t answered running) (sym (append-nil text))
    (subst (λ (ls : List (ℕ × Option (List ℕ))). Stands ls text answered running) same s))

counted_on : (line : ℕ × Option (List ℕ)) (old new : Option Running) (refused : ℕ) (answer : List ℕ) → counts line ≡ true
    → ((all : List (ℕ × Option (List ℕ))) (text : List ℕ) (answered : ℕ) → Stands all text answered old → Stands (all ++ line ∷ []) (text ++ answer) (answered + refused) new)
    → StandsOn line old new refused answer
counted_on line old new refused answer e step = λ all text answered s.
    subst (λ (ls : List (ℕ × Option (List ℕ))). Stands (all ++ ls) (text ++ answer) (answered + refused) new) (sym (counts_one line e)) (step all text answered s)

-- no header
pub stands_faulty : (line : ℕ × Option (List ℕ)) → counts line ≡ true → IsNoHeader line → StandsOn line None None 1 (fault_line line.0)
stands_faulty line e wrong = counted_on line None None 1 (fault_line line.0) e (λ all text answered s. (
  all_more IsNoHeader all line s.0 wrong,
  ap (λ (t : List ℕ). t ++ fault_line line.0) s.1 ∙ sym (faults_more all line),
  omega (arith, s.2, length-append all (line ∷ [])),
))

-- the header
pub stands_header : (number : ℕ) (bytes : List ℕ) (header : Header) (running : Running) → counts (number, Some bytes) ≡ true → IsHeaderText bytes header → running.count ≡ header.count
    → IsShown (limits_in header) running.world (start header.count) → StandsOn (number, Some bytes) None (Some running) 0 []
stands_header number bytes header running e spelled count shown = counted_on (number, Some bytes) None (Some running) 0 [] e (λ all text answered s. record {
  heard = record { before = all; number = number; first = bytes; rest = []; whole = refl; no_header = s.0; header = header; spelled = spelled; said = []; are = tt };
  count_is = sym count;
  refused = 0;
  played = played_none header running.world None shown;
  text_is = ap (λ (t : List ℕ). t ++ []) s.1;
  answered_is = omega (arith, s.2);
})

-- a line behind it that says nothing
pub stands_wrong : (line : ℕ × Option (List ℕ)) (running : Running) → counts line ≡ true → IfSome line.1 (λ bytes. SpellsNoCall running.count bytes) → StandsOn line (Some running) (Some running) 1 (fault_line line.0)
stands_wrong line running e wrong = counted_on line (Some running) (Some running) 1 (fault_line line.0) e (λ all text answered s.
    let h = s.heard in
    let one : ℕ × Option Call = (line.0, None) in
    let says : Says h.header.count line one = (refl, subst (λ (count : ℕ). IfSome line.1 (λ bytes. SpellsNoCall count bytes)) (sym s.count_is) wrong) in
    let calls : calls_in h.said ≡ calls_in (h.said ++ one ∷ []) = sym (calls_append h.said (one ∷ []) ∙ append-nil (calls_in h.said)) in
    let outcomes = map outcome_of s.played.answers in
    let moved : (r : HasPlayed no_past h.header (calls_in (h.said ++ one ∷ [])) running.world s.refused None None) × (r.answers ≡ s.played.answers) =
    subst (λ (cs : List (ℕ × Call)). (r : HasPlayed no_past h.header cs running.world s.refused None None) × (r.answers ≡ s.played.answers)) calls (s.played, refl) in
    let many : length (calls_in h.said) ≡ length outcomes = sym (length-map (calls_in h.said) _)
    ∙ as_many no_past h.header.count (calls_in h.said) s.played.events outcomes s.played.reached.run s.played.told s.played.reached.events_are s.played.reached.outcomes_are in
    let texts : answers_text (h.said ++ one ∷ []) (map outcome_of moved.0.answers) ≡ answers_text h.said outcomes ++ fault_line line.0 =
    ap (λ (got : List (Result EventAnswer Refusal)). answers_text (h.said ++ one ∷ []) (map outcome_of got)) moved.1
    ∙ ap (λ (os : List Outcome). answers_text (h.said ++ one ∷ []) os) (sym (append-nil outcomes))
    ∙ text_append h.said (one ∷ []) outcomes [] many ∙ ap (λ (t : List ℕ). answers_text h.said outcomes ++ t) (append-nil (fault_line line.0)) in
    record {
      heard = heard_more all h line one says;
      count_is = s.count_is;
      refused = s.refused;
      played = moved.0;
      text_is =
          ap (λ (t : List ℕ). t ++ fault_line line.0) s.text_is ∙ append_assoc (fault_lines h.before) (answers_text h.said outcomes) (fault_line line.0)
          ∙ ap (λ (t : List ℕ). fault_lines h.before ++ t) (sym texts);
      answered_is = omega (arith, s.answered_is, faults_append h.said (one ∷ []));
    })

-- and one that says a call, which is played
pub stands_call : (number : ℕ) (bytes : List ℕ) (call : Call) (running new : Running) (answers : List (Result EventAnswer Refusal)) → counts (number, Some bytes) ≡ true → IsCallText running.count bytes call
    → LeadTo ((number, call) ∷ []) running.world new.world answers → new.count ≡ running.count
    → StandsOn (number, Some bytes) (Some running) (Some new) (refusals_in (map outcome_of answers)) (trace_text (numbered ((number, call) ∷ [])) (map outcome_of answers))
stands_call number bytes call running new answers e text_of lead count = counted_on (number, Some bytes) (Some running) (Some new) _ _ e (λ all text answered s.
    let h = s.heard in
    let one : ℕ × Option Call = (number, Some call) in
    let says : Says h.header.count (number, Some bytes) one = (refl, subst (λ (n : ℕ). IsCallText n bytes call) (sym s.count_is) text_of) in
    let more = map outcome_of answers in
    let next = refusals_in more in
    let answer = trace_text (numbered ((number, call) ∷ [])) more in
    let calls : calls_in h.said ++ (number, call) ∷ [] ≡ calls_in (h.said ++ one ∷ []) = sym (calls_append h.said (one ∷ [])) in
    let outcomes = map outcome_of s.played.answers in
    let on = played_on no_past h.header (calls_in h.said) ((number, call) ∷ []) running.world new.world s.refused s.played answers lead in
    let moved : (r : HasPlayed no_past h.header (calls_in (h.said ++ one ∷ [])) new.world (s.refused + next) None None) × (r.answers ≡ s.played.answers ++ answers) =
    subst (λ (cs : List (ℕ × Call)). (r : HasPlayed no_past h.header cs new.world (s.refused + next) None None) × (r.answers ≡ s.played.answers ++ answers)) calls on in
    let many : length (calls_in h.said) ≡ length outcomes = sym (length-map (calls_in h.said) _)
    ∙ as_many no_past h.header.count (calls_in h.said) s.played.events outcomes s.played.reached.run s.played.told s.played.reached.events_are s.played.reached.outcomes_are in
    let texts : answers_text (h.said ++ one ∷ []) (map outcome_of moved.0.answers) ≡ answers_text h.said outcomes ++ answer =
    ap (λ (got : List (Result EventAnswer Refusal)). answers_text (h.said ++ one ∷ []) (map outcome_of got)) moved.1
    ∙ ap (λ (os : List Outcome). answers_text (h.said ++ one ∷ []) os) (map-append outcome_of s.played.answers answers)
    ∙ text_append h.said (one ∷ []) outcomes more many ∙ ap (λ (t : List ℕ). answers_text h.said outcomes ++ t) (one_answer number call more) in
    record {
      heard = heard_more all h (number, Some bytes) one says;
      count_is = s.count_is ∙ sym count;
      refused = s.refused + next;
      played = moved.0;
      text_is =
          ap (λ (t : List ℕ). t ++ answer) s.text_is ∙ append_assoc (fault_lines h.before) (answers_text h.said outcomes) answer
          ∙ ap (λ (t : List ℕ). fault_lines h.before ++ t) (sym texts);
      answered_is = omega (arith, s.answered_is, faults_append h.said (one ∷ []));
    })

-- what was played of a line is its answer
pub event_played : (number : ℕ) (bytes : List ℕ) (call : Call) (running new : Running) (r : Result ℕ Refusal) (before after : Option (List ℕ)) → counts (number, Some bytes) ≡ true
    → IsCallText running.count bytes call → IfOk r (λ refused. PlayTo ((number, call) ∷ []) running.world new.world refused before after) → new.count ≡ running.count
    → IfOk r (λ refused. (answer : List ℕ) × StandsOn (number, Some bytes) (Some running) (Some new) refused answer × Appends before after answer)
event_played number bytes call running new (Ok refused) before after e spelled q count = (
  trace_text (numbered ((number, call) ∷ [])) (map outcome_of q.answers),
  subst (λ (n : ℕ). StandsOn (number, Some bytes) (Some running) (Some new) n (trace_text (numbered ((number, call) ∷ [])) (map outcome_of q.answers))) (sym q.refused_is)
      (stands_call number bytes call running new q.answers e spelled q.lead count),
  q.written,
)
event_played number bytes call running new (Err refusal) before after e spelled q count = tt

-- or its beginning
pub event_begun : (number : ℕ) (bytes : List ℕ) (call : Call) (running : Running) (world : Stage) (many : ℕ) (text : List ℕ) (before after : Option (List ℕ)) → counts (number, Some bytes) ≡ true
    → IsCallText running.count bytes call → PlayedOut ((number, call) ∷ []) running.world world many text → AppendsFront before after text
    → (refused : ℕ) × (answer : List ℕ) × StandsOn (number, Some bytes) (Some running) (Some (record { count = running.count; world = world })) refused answer × AppendsFront before after answer
event_begun number bytes call running world many text before after e spelled out begun = (
  refusals_in (map outcome_of out.answers),
  trace_text (numbered ((number, call) ∷ [])) (map outcome_of out.answers),
  stands_call number bytes call running (record { count = running.count; world = world }) out.answers e spelled out.lead refl,
  subst (AppendsFront before after) out.text_is begun,
)

-- and where it was cut off it may have been played
pub event_cut : (number : ℕ) (bytes : List ℕ) (call : Call) (running : Running) (world : Stage) → counts (number, Some bytes) ≡ true → IsCallText running.count bytes call
    → CutsOne (number, call) running.world world → StandsCut (number, Some bytes) (Some running) (Some (record { count = running.count; world = world }))
event_cut number bytes call running world e spelled (inl same) =
    let placed : Stage → Option Running = λ w. Some (record { count = running.count; world = w }) in inl (ap placed same)
event_cut number bytes call running world e spelled (inr (answer, lead)) = inr (
  refusals_in (map outcome_of (answer ∷ [])),
  trace_text (numbered ((number, call) ∷ [])) (map outcome_of (answer ∷ [])),
  stands_call number bytes call running (record { count = running.count; world = world }) (answer ∷ []) e spelled lead refl,
)

-- a line that says nothing is answered by its fault
pub wrong_answered : (number : ℕ) (line : Option (List ℕ)) (old new : Option Running) (r : Result ℕ Refusal) (before after : Option (List ℕ)) → StandsOn (number, line) old new 1 (fault_line number)
    → OnOk r (Appends before after (fault_line number)) → IfOk r (λ refused. refused ≡ 1)
    → IfOk r (λ refused. (answer : List ℕ) × StandsOn (number, line) old new refused answer × Appends before after answer)
wrong_answered number line old new (Ok refused) before after stands out one =
    (fault_line number, subst (λ (n : ℕ). StandsOn (number, line) old new n (fault_line number)) (sym one) stands, out)
wrong_answered number line old new (Err refusal) before after stands out one = tt

-- ---- what stands is what is promised

-- a stage has as many nodes as the header says
reached_nodes : RunsKeepCount → (header : Header) (done : List (ℕ × Call)) (stage : Stage) (refused : ℕ) → HasPlayed no_past header done stage refused None None → length stage.nodes ≡ header.count
reached_nodes keep header done stage refused p =
    sym p.reached.shown.count ∙ keep header.count p.reached.run (last p.reached.run) (last_is_of header.count p.reached.run)

pub is_piped : RunsKeepCount → RunsAreSafe → NoDeliveryIsRefusedOddly → (all : List (ℕ × Option (List ℕ))) (text : List ℕ) (answered : ℕ) (running : Option Running) → Stands all text answered running
    → IsPiped all text (record { refused = answered; stage = stage_of running })
is_piped keep safe odd all text answered None s = inl (record { no_header = s.0; text_is = s.1; refused_is = s.2; stage_is = refl })
is_piped keep safe odd all text answered (Some running) s = inr (record {
  heard = s.heard;
  plain = trace_text (numbered (calls_in s.heard.said)) (map outcome_of s.played.answers);
  refused = s.refused;
  trace = traced safe odd no_past s.heard.header (calls_in s.heard.said) running.world s.refused None None s.played;
  text_is = s.text_is;
  refused_is = s.answered_is;
  shown = s.played.reached.shown;
})

-- ---- what has been read

pub reads_more : (a b c : Option (List ℕ)) (read more : List (Option (List ℕ))) → Reads a b read → Reads b c more → Reads a c (read ++ more)
reads_more None b c read more p q = tt
reads_more (Some xs) None c read more p q = absurd p
reads_more (Some xs) (Some ys) None read more p q = absurd q
reads_more (Some xs) (Some ys) (Some zs) read more p q =
    p ∙ ap (λ (ls : List (Option (List ℕ))). read ++ ls) q ∙ sym (append_assoc read more (sent_lines zs))

pub reads_begun : (a b c : Option (List ℕ)) (read : List (Option (List ℕ))) → Reads a b read → ReadsInto b c [] → ReadsInto a c read
reads_begun None b c read p q = tt
reads_begun (Some xs) None c read p q = absurd p
reads_begun (Some xs) (Some ys) None read p q = absurd q
reads_begun (Some xs) (Some ys) (Some zs) read p q = (q.0, q.1, p ∙ ap (λ (ls : List (Option (List ℕ))). read ++ ls) q.2)

pub reads_whole : (a b : Option (List ℕ)) (read : List (Option (List ℕ))) → Reads a b read → ReadsInto a b read
reads_whole None b read p = tt
reads_whole (Some xs) None read p = absurd p
reads_whole (Some xs) (Some ys) read p = ([], tt, p)

pub reads_all : (a b : Option (List ℕ)) (read : List (Option (List ℕ))) → Reads a b read → IsAtEnd b → IfSome a (λ bytes. sent_lines bytes ≡ read)
reads_all None b read p end = tt
reads_all (Some xs) None read p end = absurd p
reads_all (Some xs) (Some ys) read p end = p ∙ ap (λ (bytes : List ℕ). read ++ sent_lines bytes) end ∙ append-nil read

pub reads_nothing : (a : Option (List ℕ)) → Reads a a []
reads_nothing None = tt
reads_nothing (Some xs) = refl

-- ---- a line of which a part is kept

not_and : (a b : Bool) → not (a && b && false) ≡ true
not_and true true = refl
not_and true false = refl
not_and false true = refl
not_and false false = refl

-- a line that is too long counts, and says nothing
long_counts : (number : ℕ) (bytes : List ℕ) → 2100000 < length bytes → counts (number, Some bytes) ≡ true
long_counts number bytes long = let small : nat_le (length bytes) 2100000 ≡ false = lt-leb (length bytes) 2100000 long in rw small (not_and (length bytes == 0 || slice_index bytes 0 == 35) (list_all (λ byte. nat_lt byte 128) bytes))

pub stands_long : (number : ℕ) (bytes : List ℕ) (running : Option Running) → 2100000 < length bytes → StandsOn (number, Some bytes) running running 1 (fault_line number)
stands_long number bytes None long = stands_faulty (number, Some bytes) (long_counts number bytes long) (inl long)
stands_long number bytes (Some running) long = stands_wrong (number, Some bytes) running (long_counts number bytes long) (λ call is e. absurd (omega (arith, is.short, ap length e, long)))

-- a line that lacks its line feed counts, and says nothing
pub stands_torn : (number : ℕ) (running : Option Running) → StandsOn (number, None) running running 1 (fault_line number)
stands_torn number None = stands_faulty (number, None) refl tt
stands_torn number (Some running) = stands_wrong (number, None) running refl tt

kept_whole : (n m : ℕ) (whole : List ℕ) → m < n → length (take n whole) ≤ m → take n whole ≡ whole
kept_whole n m whole more short = take_all n whole (omega (arith, length-take n whole))

pub long_whole : (n m : ℕ) (whole : List ℕ) → m < length (take n whole) → m < length whole
long_whole n m whole long = omega (arith, length-take n whole)

-- what is kept of a line that isn't too long is the line
pub is_whole : (line whole : List ℕ) → length line ≤ 2100000 → line ≡ kept_of whole → line ≡ whole
is_whole line whole short is = is ∙ kept_whole 2100001 2100000 whole (omega arith) (subst (λ (l : List ℕ). length l ≤ 2100000) is short)

-- and so is its answer
pub whole_ok : (line : List ℕ) (number : ℕ) (old new : Option Running) (r : Result ℕ Refusal) (before after : Option (List ℕ)) → length line ≤ 2100000
    → IfOk r (λ refused. (answer : List ℕ) × StandsOn (number, Some line) old new refused answer × Appends before after answer)
    → IfOk r (λ refused. (whole : List ℕ) → line ≡ kept_of whole → (answer : List ℕ) × StandsOn (number, Some whole) old new refused answer × Appends before after answer)
whole_ok line number old new (Ok refused) before after short h = λ whole is.
    subst (λ (l : List ℕ). (answer : List ℕ) × StandsOn (number, Some l) old new refused answer × Appends before after answer) (is_whole line whole short is) h
whole_ok line number old new (Err refusal) before after short h = tt

pub long_ok : (line : List ℕ) (number : ℕ) (running : Option Running) (r : Result ℕ Refusal) (before after : Option (List ℕ)) → 2100000 < length line
    → OnOk r (Appends before after (fault_line number)) → IfOk r (λ refused. refused ≡ 1)
    → IfOk r (λ refused. (whole : List ℕ) → line ≡ kept_of whole → (answer : List ℕ) × StandsOn (number, Some whole) running running refused answer × Appends before after answer)
long_ok line number running (Ok refused) before after long out one = λ whole is. (
  fault_line number,
  subst (λ (n : ℕ). StandsOn (number, Some whole) running running n (fault_line number)) (sym one)
      (stands_long number whole running (long_whole 2100001 2100000 whole (subst (λ (l : List ℕ). 2100000 < length l) is long))),
  out,
)
long_ok line number running (Err refusal) before after long out one = tt

pub whole_begun : (line whole : List ℕ) (number : ℕ) (old new : Option Running) (before after : Option (List ℕ)) → length line ≤ 2100000 → line ≡ kept_of whole
    → (refused : ℕ) × (answer : List ℕ) × StandsOn (number, Some line) old new refused answer × AppendsFront before after answer
    → (refused : ℕ) × (answer : List ℕ) × StandsOn (number, Some whole) old new refused answer × AppendsFront before after answer
whole_begun line whole number old new before after short is h =
    (h.0, h.1, subst (λ (l : List ℕ). StandsOn (number, Some l) old new h.0 h.1) (is_whole line whole short is) h.2, h.3)

pub whole_cut : (line whole : List ℕ) (number : ℕ) (old new : Option Running) → length line ≤ 2100000 → line ≡ kept_of whole → StandsCut (number, Some line) old new → StandsCut (number, Some whole) old new
whole_cut line whole number old new short is h = subst (λ (l : List ℕ). StandsCut (number, Some l) old new) (is_whole line whole short is) h

-- ---- the whole pipe

module _ (keep : RunsKeepCount) (safe : RunsAreSafe) (odd : NoDeliveryIsRefusedOddly) (a b c old mid : Option (List ℕ)) (read : List (Option (List ℕ))) (text : List ℕ) (answered : ℕ) (running : Option Running)
    (r : Reads a b read) (s : Stands (counted_in read) text answered running) (w : Appends old mid text) where
  -- all lines have been answered
  pub pipes_to : IsAtEnd b → PipesTo a old mid (record { refused = answered; stage = stage_of running })
  pipes_to end = record {
    read = read;
    all = reads_all a b read r end;
    text = text;
    piped = is_piped keep safe odd (counted_in read) text answered running s;
    written = w;
  }

  -- and the next one
  piped_on : (number : ℕ) (line : Option (List ℕ)) (new : Option Running) (refused : ℕ) (answer : List ℕ) → number ≡ length read + 1 → StandsOn (number, line) running new refused answer
      → IsPiped (counted_in (read ++ line ∷ [])) (text ++ answer) (record { refused = answered + refused; stage = stage_of new })
  piped_on number line new refused answer is stands =
      is_piped keep safe odd (counted_in (read ++ line ∷ [])) (text ++ answer) (answered + refused) new
      (subst (λ (all : List (ℕ × Option (List ℕ))). Stands all (text ++ answer) (answered + refused) new) (sym (counted_push read line number is)) (stands (counted_in read) text answered s))

  -- the stage behind all lines, or behind all and the next one
  stage_behind : (number : ℕ) (line : Option (List ℕ)) (new : Option Running) → number ≡ length read + 1 → StandsCut (number, line) running new
      → (stage_of new ≡ stage_of running) ⊎ EndsBehind read text line (stage_of new)
  stage_behind number line new is (inl same) = inl (ap stage_of same)
  stage_behind number line new is (inr on) = inr (record {
    answer = on.1;
    ended = record { refused = answered + on.0; stage = stage_of new };
    piped = piped_on number line new on.0 on.1 is on.2;
    stage_is = refl;
  })

  -- all but the next one, at most
  pub pipes_first : (number : ℕ) (new : Option Running) → number ≡ length read + 1 → Unanswered number b c running new → PipesFirst a c old mid (stage_of new)
  pipes_first number new is u = record {
    read = read;
    text = text;
    ended = record { refused = answered; stage = stage_of running };
    piped = is_piped keep safe odd (counted_in read) text answered running s;
    written = w;
    last_read = elim u [
      | inl begun ↦ inl (reads_begun a b c read r begun.0, ap stage_of begun.1)
      | inr next ↦ inr (next.0, reads_more a b c read (next.0 ∷ []) r next.1, stage_behind number next.0 new is next.2)
    ];
  }

  -- all but a part of the next one's answer
  pub pipes_front : (number : ℕ) (new : Option Running) (now : Option (List ℕ)) → number ≡ length read + 1 → AnswersFront number b c running new mid now → PipesFront a c old now (stage_of new)
  pipes_front number new now is f = record {
    read = read;
    line = f.line;
    last_read = reads_more a b c read (f.line ∷ []) r f.read;
    text = text;
    answer = f.answer;
    ended = record { refused = answered + f.refused; stage = stage_of new };
    piped = piped_on number f.line new f.refused f.answer is f.stands;
    stage_is = refl;
    earlier = record { refused = answered; stage = stage_of running };
    before = is_piped keep safe odd (counted_in read) text answered running s;
    n = f.begun.0;
    written = Appends-trans old mid now text (take f.begun.0 f.answer) w f.begun.1;
  }

-- the nodes are as many as a header says
pub some_nodes : (all : List (ℕ × Option (List ℕ))) (text : List ℕ) (answered : ℕ) (running : Option Running) → Stands all text answered running → IfSome running (λ nodes. 0 < nodes.count)
some_nodes all text answered None s = tt
some_nodes all text answered (Some running) s = let least = s.heard.spelled.0.least_count in omega (arith, least, s.count_is)

pub most_nodes : (all : List (ℕ × Option (List ℕ))) (text : List ℕ) (answered : ℕ) (running : Option Running) → Stands all text answered running → IfSome running (λ nodes. nodes.count ≤ 7)
most_nodes all text answered None s = tt
most_nodes all text answered (Some running) s = let greatest = s.heard.spelled.0.greatest_count in omega (arith, greatest, s.count_is)

-- a pipe that was cut off stands somewhere, too
abbrev pub StandsSomewhere : Option Running → Type 0
StandsSomewhere running = (all : List (ℕ × Option (List ℕ))) × (text : List ℕ) × (answered : ℕ) × Stands all text answered running

pub cut_somewhere : {A B : Type 0} (number : ℕ) (b c : Option (List ℕ)) (old new : Option Running) (mid now : Option (List ℕ)) (all : List (ℕ × Option (List ℕ))) (text : List ℕ) (answered : ℕ)
    → Stands all text answered old → (A × Unanswered number b c old new) ⊎ (B × AnswersFront number b c old new mid now) → StandsSomewhere new
cut_somewhere number b c old new mid now all text answered s (inl (a, inl begun)) = (all, text, answered, subst (Stands all text answered) (sym begun.1) s)
cut_somewhere number b c old new mid now all text answered s (inl (a, inr (line, read, inl same))) = (all, text, answered, subst (Stands all text answered) (sym same) s)
cut_somewhere number b c old new mid now all text answered s (inl (a, inr (line, read, inr on))) = (_, _, _, on.2 all text answered s)
cut_somewhere number b c old new mid now all text answered s (inr (a, f)) = (_, _, _, f.stands all text answered s)
