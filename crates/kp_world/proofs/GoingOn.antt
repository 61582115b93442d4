-- Each run goes on: whatever comes next has an answer.
use Rattle.std.proofs.Common.{◌≡◌, ◌≢◌, ℕ, Bool, true, false, cond, List, [], ◌∷◌, ◌++◌, Option, Some, None, refl, sym, ap, ◌∙◌, subst, inl, inr, append_assoc, append-nil, arith}
use Rattle.std.specs.Prelude.{◌&&◌, bytes_eq, length, map, not, slice_get, IsFalse, IsTrue, Ok, Err}
use Rattle.std.proofs.lemmas.Bool.{false≢true}
use Rattle.std.specs.List.{AllByRecursion}
use Rattle.std.specs.Option.{option_map_or}
use Rattle.std.proofs.lemmas.List.{reverse-append}
use Rattle.kp_types.specs.Causes.{first_of}
use Rattle.kp_types.specs.declared.refusal.Refusal.{Refusal}
use Rattle.kp_types.specs.declared.refusal.Refusal.TheVariants as refusals
use Rattle.kp_batch.specs.Batch.{Body, IsBody}
use Rattle.kp_model.specs.Admission.{Admission, Append, Duplicate, Refused as NotAdmitted, admit}
use Rattle.kp_model.specs.Log.{Batch, IsLog, IsKin}
use Rattle.kp_model.specs.World.{Leader, LeaderAndIsr, Leading, Mode, Down, Idle, Leads, Follows, Answer, Request, Proposal, Decision, Message, Asks, Answers, Proposes, Decides, Node, World, addressee, with_message, with_record}
use Rattle.kp_model.specs.Event.{Act, Receive, Event, Outcome, Refused, Changed, SentDecision}
use Rattle.kp_model.specs.Event as model
use Rattle.kp_model.specs.Calls.{DoesSending, answer_letter, answering_at, cut, cut_by, sent_reply, served, taken_some}
use Rattle.kp_model.specs.Letter.{Answering as LetterAnswering, Batches, Diverging, FetchLetter, Fetching, asked_letter, answered_letter}
use Rattle.kp_model.specs.Laws.{CutIsTheStep, ServeIsTheStep, TakeIsTheStep, StandsIn, MessagesGoToNodes, IsParty, NoDeliveryIsRefusedOddly, RunsAreSafe, RunsKeepCount, RunsKeepKin, RunsKeepLogs}
use Rattle.kp_model.specs.Controller.{elected, with_member, without_member}
use Rattle.kp_model.specs.Effect.{Effect, WhereFollows, WhereLeads, becomes, is_down, sends, unless_leads}
use Rattle.kp_model.specs.Adopting.{Adopts, under}
use Rattle.kp_model.specs.Appending.{Appends, Produces, admission_cause}
use Rattle.kp_model.specs.Fetching.{ask_cause, ask_reply, asked, cut_cause, is_covered, piece, serve_cause, take_cause}
use Rattle.kp_model.specs.Raising.{Raises, raised}
use Rattle.kp_model.specs.InSync.{Learns, Proposes-set, change_cause, join_cause, join_tests, learn_cause, leave_cause, leave_tests, proposal}
use Rattle.kp_model.specs.Local.{Local, LocalBy, cause}
use Rattle.kp_model.specs.Run.{Moment, Run, extend, last}
use Rattle.kp_model.proofs.Plain.Beginnings.{Begins-nil}
use Rattle.kp_model.proofs.InRuns.RunLaws.{last_is_of}
use Rattle.kp_model.proofs.OneStep.Steps.{happened, was_refused}
use Rattle.kp_model.proofs.OneStep.Classes.{comes_to}
use Rattle.kp_model.specs.Step.{DecidesBy, Delivers, ElectsBy, NodeStep, Step, answered, decide_cause, decided_on, decision, elect_cause, moved, told}
use Rattle.kp_replica.specs.Acts.{IsAsked, TakesNoMemory}
use Rattle.kp_world.specs.Laws.{IsLawful, MayCome, PlaysGoOn}
use Rattle.kp_world.specs.Plays.{NoneLacks, SparesAt, SparesMemory, events_of, outcomes_of}
use Rattle.kp_world.proofs.Moved.{given, same_refusal}
use Rattle.kp_world.proofs.Playing.{all_fit, only_full}

-- an answer to an event, and the world after it
record Answering (w : World) (e : Event) : Type 0 where
  outcome : Outcome
  after : World
  step : Step w e outcome after
  counted : after.count ≡ w.count
  spared : SparesMemory w e → outcome.reply ≢ Refused refusals.Memory

record Elects (o : Option Refusal) (w : World) (n : ℕ) : Type 0 where
  outcome : Outcome
  after : World
  step : ElectsBy o w n outcome after
  counted : after.count ≡ w.count

elects : (o : Option Refusal) (w : World) (n : ℕ) → Elects o w n
elects (Some refusal) w n = record { outcome = told (Refused refusal); after = w; step = (refl, refl); counted = refl }
elects None w n =
    record { outcome = told (Changed (elected w.controller n)); after = with_record w (elected w.controller n); step = (refl, refl); counted = refl }

-- who leads raises its watermark
raises : (n : ℕ) (x : Node) (mode : Mode) → unless_leads mode (λ l. None) ≡ None → (e : Effect) × WhereLeads mode (λ l. Raises n x l e)
raises n x Down none = absurd cc
raises n x Idle none = absurd cc
raises n x (Leads l) none = (becomes (record x { watermark = raised n x l }) (model.MarkAt (raised n x l)), refl)
raises n x (Follows f) none = absurd cc

-- and asks for a change of the in-sync replicas
proposes : (n : ℕ) (x : Node) (isr : List ℕ → List ℕ) (mode : Mode) (why : Leading → Option Refusal) → unless_leads mode why ≡ None
    → (e : Effect) × WhereLeads mode (λ l. Proposes-set n x (isr l.isr) l e) × (e.reply ≢ Refused refusals.Memory)
proposes n x isr Down why none = absurd cc
proposes n x isr Idle why none = absurd cc
proposes n x isr (Leads l) why none =
    let set = isr l.isr in
    (sends (record x { mode = Leads (record l { pending = Some set }) }) (Proposes (proposal n l set)) (model.SentProposal set l.version), refl, λ e. cc)
proposes n x isr (Follows f) why none = absurd cc

-- or learns what the controller has decided
learns : (x : Node) (d : Decision) (mode : Mode) → unless_leads mode (learn_cause d) ≡ None
    → (e : Effect) × WhereLeads mode (λ l. Learns x d l e) × (e.reply ≢ Refused refusals.Memory)
learns x d Down none = absurd cc
learns x d Idle none = absurd cc
learns x d (Leads l) none =
    let r = d.decided in
    (becomes (record x { mode = Leads (record l { isr = r.isr; version = r.version; pending = None }) }) (model.Learned r.isr r.version), refl, λ e. cc)
learns x d (Follows f) none = absurd cc

-- a record without a leader is no news
no_news : (d : Bool) → first_of ((d, refusals.Down) ∷ (true, refusals.StaleRecord) ∷ []) ≡ None → ⊥
no_news true none = absurd cc
no_news false none = absurd cc

adopts : (c : LeaderAndIsr) (n : ℕ) (x : Node) (d : Bool) (f : Leader → Bool) (leader : Option Leader)
    → first_of ((d, refusals.Down) ∷ (not (option_map_or f leader false), refusals.StaleRecord) ∷ []) ≡ None → (e : Effect) × Adopts c n x leader e
adopts c n x d f None none = absurd (no_news d none)
adopts c n x d f (Some l) none =
    let role = under c l n x.log in
    (becomes (record x { kept = Some l.epoch; mode = role.0 }) role.1, refl)

-- ---- what is done for what takes no memory

ask_spared : (mode : Mode) → ask_cause mode ≢ Some refusals.Memory
ask_spared Down e = cc
ask_spared Idle e = cc
ask_spared (Leads l) e = cc
ask_spared (Follows f) e = cc

leads_spared : (mode : Mode) → unless_leads mode (λ l. None) ≢ Some refusals.Memory
leads_spared Down e = cc
leads_spared Idle e = cc
leads_spared (Leads l) e = cc
leads_spared (Follows f) e = cc

-- want of memory isn't among tests, if none of them names it
abbrev names_memory : Refusal → Bool
names_memory refusals.Memory = true
names_memory _ = false

abbrev spare : List (Bool × Refusal) → Bool
spare [] = true
spare (t ∷ ts) = not (names_memory t.1) && spare ts

tests_spared : (tests : List (Bool × Refusal)) → spare tests ≡ true → first_of tests ≢ Some refusals.Memory
tests_spared [] spared e = cc
tests_spared ((t, refusal) ∷ ts) spared e = by t (both (names_memory refusal) (spare ts) spared) (tests_spared ts) e
  where
    both : (names others : Bool) → (not names && others) ≡ true → (names ≡ false) × (others ≡ true)
    both true others h = absurd cc
    both false others h = (refl, h)

    by : (t : Bool) → (names_memory refusal ≡ false) × (spare ts ≡ true) → (spare ts ≡ true → first_of ts ≢ Some refusals.Memory)
        → cond t (Some refusal) (first_of ts) ≡ Some refusals.Memory → ⊥
    by true h others e = let same : refusal ≡ refusals.Memory = cc in false≢true (sym h.0 ∙ ap names_memory same)
    by false h others e = others h.1 e

serve_spared : (mode : Mode) (log : List Batch) (r : Request) → unless_leads mode (serve_cause log r) ≢ Some refusals.Memory
serve_spared Down log r e = cc
serve_spared Idle log r e = cc
serve_spared (Leads l) log r e =
    tests_spared ((_, refusals.FencedLeaderEpoch) ∷ (_, refusals.UnknownLeaderEpoch) ∷ (_, refusals.OffsetOutOfRange) ∷ []) refl e
serve_spared (Follows f) log r e = cc

-- nor among those of a change
change_spared : (pending : Option (List ℕ)) (isr : List ℕ) (tests : List (Bool × Refusal)) → spare tests ≡ true
    → change_cause pending isr (first_of tests) ≢ Some refusals.Memory
change_spared None isr tests spared e = tests_spared tests spared e
change_spared (Some set) isr tests spared e = by (bytes_eq set isr) e
  where
    by : (b : Bool) → cond b None (Some refusals.ChangePending) ≡ Some refusals.Memory → ⊥
    by true e = cc
    by false e = cc

join_spared : (x : Node) (m : ℕ) (mode : Mode) → unless_leads mode (join_cause x m) ≢ Some refusals.Memory
join_spared x m Down e = cc
join_spared x m Idle e = cc
join_spared x m (Leads l) e = change_spared l.pending _ (join_tests x.watermark m l) refl e
join_spared x m (Follows f) e = cc

leave_spared : (n m : ℕ) (mode : Mode) → unless_leads mode (leave_cause n m) ≢ Some refusals.Memory
leave_spared n m Down e = cc
leave_spared n m Idle e = cc
leave_spared n m (Leads l) e = change_spared l.pending _ (leave_tests n m l) refl e
leave_spared n m (Follows f) e = cc

learn_spared : (d : Decision) (mode : Mode) → unless_leads mode (learn_cause d) ≢ Some refusals.Memory
learn_spared d Down e = cc
learn_spared d Idle e = cc
learn_spared d (Leads l) e = tests_spared ((_, refusals.StaleRecord) ∷ (_, refusals.StaleAnswer) ∷ []) refl e
learn_spared d (Follows f) e = cc

misplaced_spared : (down : Bool) → Some (cond down refusals.Down refusals.StaleAnswer) ≢ Some refusals.Memory
misplaced_spared true e = cc
misplaced_spared false e = cc

-- no cause of it is want of memory
cause_spared : (c : LeaderAndIsr) (n : ℕ) (x : Node) (act : Act) → TakesNoMemory x act → cause c n x act ≢ Some refusals.Memory
cause_spared c n x model.Ask takes e = ask_spared x.mode e
cause_spared c n x (model.Produce (Ok body)) (lawful, base, is) e =
    leads_spared x.mode (subst (λ (a : Admission). unless_leads x.mode (λ l. admission_cause x.log body a) ≡ Some refusals.Memory) is e)
cause_spared c n x (model.Produce (Err fault)) takes e = takes
cause_spared c n x (model.Receive (Asks r)) takes e = serve_spared x.mode x.log r e
cause_spared c n x (model.Receive (Answers a)) takes e =
    tests_spared ((_, refusals.Down) ∷ (_, refusals.StaleRecord) ∷ (_, refusals.StaleAnswer) ∷ []) refl (sym (ap (λ (b : Bool). cond b (take_cause x a) (cut_cause c n x a)) takes) ∙ e)
cause_spared c n x (model.Receive (Decides d)) takes e = learn_spared d x.mode e
cause_spared c n x (model.Receive _) takes e = misplaced_spared (is_down x.mode) e
cause_spared c n x (model.Join member) takes e = join_spared x member x.mode e
cause_spared c n x (model.Leave member) takes e = leave_spared n member x.mode e
cause_spared c n x _ takes e = takes

-- an effect of an act, which isn't want of memory where the act takes none
record Doing (o : Option Refusal) (c : LeaderAndIsr) (n : ℕ) (x : Node) (act : Act) : Type 0 where
  effect : Effect
  local : LocalBy o c n x act effect
  spared : TakesNoMemory x act → effect.reply ≢ Refused refusals.Memory

refuses : (c : LeaderAndIsr) (n : ℕ) (x : Node) (act : Act) (refusal : Refusal) → Some refusal ≡ cause c n x act → Doing (Some refusal) c n x act
refuses c n x act refusal is = record {
  effect = becomes x (Refused refusal);
  local = refl;
  spared = λ takes lacks. cause_spared c n x act takes (sym is ∙ ap Some (same_refusal refusal refusals.Memory lacks));
}

-- who follows asks
asks : (n : ℕ) (x : Node) (mode : Mode) → ask_cause mode ≡ None
    → (e : Effect) × WhereFollows mode (λ f. e ≡ sends x (Asks (asked n x f)) (ask_reply (asked n x f))) × (e.reply ≢ Refused refusals.Memory)
asks n x Down none = absurd cc
asks n x Idle none = absurd cc
asks n x (Leads l) none = absurd cc
asks n x (Follows f) none = (sends x (Asks (asked n x f)) (ask_reply (asked n x f)), refl, λ e. cc)

-- a batch that stands already is answered with its offset
stands : (x : Node) (body : Body) (base : ℕ) (mode : Mode) (why : Leading → Option Refusal) → IsBody body → admit x.log body.content ≡ Duplicate base
    → unless_leads mode why ≡ None → WhereLeads mode (λ l. Produces x l (Ok body) (becomes x (model.DuplicateOf base)))
stands x body base Down why lawful is none = absurd cc
stands x body base Idle why lawful is none = absurd cc
stands x body base (Leads l) why lawful is none =
    (lawful, subst (λ (a : Admission). Appends x l body a (becomes x (model.DuplicateOf base))) (sym is) refl)
stands x body base (Follows f) why lawful is none = absurd cc

produces : (c : LeaderAndIsr) (n : ℕ) (x : Node) (body : Body) → IsBody body → None ≡ cause c n x (model.Produce (Ok body)) → (a : Admission) → admit x.log body.content ≡ a
    → Doing None c n x (model.Produce (Ok body))
produces c n x body lawful is (Duplicate base) a =
    record { effect = becomes x (model.DuplicateOf base); local = inl (stands x body base x.mode _ lawful a (sym is)); spared = λ takes lacks. cc }
produces c n x body lawful is Append a =
    record { effect = becomes x (Refused refusals.Memory); local = inr refl; spared = λ takes lacks. let both : Append ≡ Duplicate takes.1 = sym a ∙ takes.2 in cc }
produces c n x body lawful is (NotAdmitted refusal) a =
    record { effect = becomes x (Refused refusals.Memory); local = inr refl; spared = λ takes lacks. let both : NotAdmitted refusal ≡ Duplicate takes.1 = sym a ∙ takes.2 in cc }

-- what isn't refused happens, or memory is refused
does : (c : LeaderAndIsr) (n : ℕ) (x : Node) (act : Act) (o : Option Refusal) → o ≡ cause c n x act → IsAsked act → IsLawful act → Doing o c n x act
does c n x act (Some refusal) is asked lawful = refuses c n x act refusal is
does c n x model.Adopt None is asked lawful =
    let done = adopts c n x (is_down x.mode) _ c.leader (sym is) in
    record { effect = done.0; local = inl done.1; spared = λ never. absurd never }
does c n x (model.Produce (Ok body)) None is asked lawful = produces c n x body lawful is (admit x.log body.content) refl
does c n x (model.Produce (Err fault)) None is asked lawful =
    record { effect = becomes x (Refused refusals.Memory); local = inr refl; spared = λ never. absurd never }
does c n x (model.Mark time producer epoch coordinator commit) None is asked lawful =
    record { effect = becomes x (Refused refusals.Memory); local = inr refl; spared = λ never. absurd never }
does c n x model.Ask None is asked lawful =
    let done = asks n x x.mode (sym is) in
    record { effect = done.0; local = inl done.1; spared = λ takes. done.2 }
does c n x (model.Receive m) None is asked lawful = absurd asked
does c n x model.Raise None is asked lawful =
    let done = raises n x x.mode (sym is) in
    record { effect = done.0; local = inl done.1; spared = λ never. absurd never }
does c n x (model.Join member) None is asked lawful =
    let done = proposes n x (with_member member) x.mode _ (sym is) in
    record { effect = done.0; local = inl done.1; spared = λ takes. done.2 }
does c n x (model.Leave member) None is asked lawful =
    let done = proposes n x (without_member member) x.mode _ (sym is) in
    record { effect = done.0; local = inl done.1; spared = λ takes. done.2 }
does c n x model.Restart None is asked lawful =
    record { effect = becomes x (Refused refusals.Memory); local = inr refl; spared = λ never. absurd never }
does c n x (model.Read from) None is asked lawful =
    record { effect = becomes x (Refused refusals.Memory); local = inr refl; spared = λ never. absurd never }
does c n x (model.Committed from) None is asked lawful =
    record { effect = becomes x (Refused refusals.Memory); local = inr refl; spared = λ never. absurd never }
does c n x _ None is asked lawful = record { effect = _; local = inl refl; spared = λ never. absurd never }

-- the same, of what a node may do
record Acting (c : LeaderAndIsr) (n : ℕ) (x : Node) (act : Act) : Type 0 where
  effect : Effect
  local : Local c n x act effect
  spared : TakesNoMemory x act → effect.reply ≢ Refused refusals.Memory

acting : (c : LeaderAndIsr) (n : ℕ) (x : Node) (act : Act) → Doing (cause c n x act) c n x act → Acting c n x act
unfolding Local
acting c n x act done = record { effect = done.effect; local = done.local; spared = done.spared }

acts_locally : (c : LeaderAndIsr) (n : ℕ) (x : Node) (act : Act) → IsAsked act → IsLawful act → Acting c n x act
acts_locally c n x act asked lawful = acting c n x act (does c n x act (cause c n x act) refl asked lawful)

-- no answer is told to lack memory
sent_spared : (l : FetchLetter) (answering : LetterAnswering) → sent_reply (Fetching (record l { answering = Some answering })) ≢ Refused refusals.Memory
sent_spared l (Batches batches watermark) e = cc
sent_spared l (Diverging end) e = cc

-- what is left to know of a message that comes, whose logs are those of a run
record Known (c : LeaderAndIsr) (n : ℕ) (x : Node) (m : Message) : Type 0 where
  asked : (r : Request) → m ≡ Asks r → (l : Leading) → x.mode ≡ Leads l → serve_cause x.log r l ≡ None
      → DoesSending n x (served x l (asked_letter r)) (Receive (Asks r)) (Fetching (answer_letter x (asked_letter r)))
  took : (a : Answer) → m ≡ Answers a → IsTrue (is_covered a.log a.request) → take_cause x a ≡ None → Local c n x (Receive (Answers a)) (taken_some x [])
  cuts : (a : Answer) → m ≡ Answers a → IsFalse (is_covered a.log a.request) → Local c n x (Receive (Answers a)) (cut c n x (answered_letter a))

-- who leads answers a request
serves : (c : LeaderAndIsr) (n : ℕ) (x : Node) (r : Request) (mode : Mode) → x.mode ≡ mode → Known c n x (Asks r) → unless_leads mode (serve_cause x.log r) ≡ None
    → Acting c n x (Receive (Asks r))
serves c n x r Down is known none = absurd cc
serves c n x r Idle is known none = absurd cc
serves c n x r (Leads l) is known none =
    let asked = asked_letter r in
    let done = known.asked r refl l is none in
    record {
      effect = sends (served x l asked) done.message (sent_reply (Fetching (answer_letter x asked)));
      local = done.local c;
      spared = λ takes. sent_spared asked (answering_at x asked);
    }
serves c n x r (Follows f) is known none = absurd cc

-- where a cut isn't refused, its reply is no refusal
cut_spared : (x : Node) (place : ℕ) (o : Option Refusal) → o ≡ None → (cut_by o x place).reply ≢ Refused refusals.Memory
cut_spared x place None none e = cc
cut_spared x place (Some refusal) none e = absurd cc

-- A message that comes: a request is answered; an answer with batches meets want of memory, which leaves the node down, and one
-- without is done.
receives : (c : LeaderAndIsr) (n : ℕ) (x : Node) (m : Message) (o : Option Refusal) → o ≡ cause c n x (Receive m) → Known c n x m → Acting c n x (Receive m)
receives c n x m (Some refusal) is known = record {
  effect = becomes x (Refused refusal);
  local = was_refused c n x (Receive m) refusal (sym is);
  spared = λ takes lacks. cause_spared c n x (Receive m) takes (sym is ∙ ap Some (same_refusal refusal refusals.Memory lacks));
}
receives c n x (Asks r) None is known = serves c n x r x.mode refl known (sym is)
receives c n x (Answers a) None is known = by (is_covered a.log a.request) refl
  where
    by : (b : Bool) → is_covered a.log a.request ≡ b → Acting c n x (Receive (Answers a))
    by true covered = record {
      effect = taken_some x [];
      local = known.took a refl covered (sym (ap (λ (b : Bool). cond b (take_cause x a) (cut_cause c n x a)) covered) ∙ sym is);
      spared = λ takes. absurd (false≢true (sym takes ∙ covered));
    }
    by false parted = record {
      effect = cut c n x (answered_letter a);
      local = known.cuts a refl parted;
      spared = λ takes. cut_spared x _ (cut_cause c n x a) (sym (ap (λ (b : Bool). cond b (take_cause x a) (cut_cause c n x a)) parted) ∙ sym is);
    }
receives c n x (Decides d) None is known =
    let done = learns x d x.mode (sym is) in
    record { effect = done.0; local = happened c n x (Receive (Decides d)) done.0 (sym is) done.1; spared = λ takes. done.2 }
receives c n x _ None is known = absurd cc

-- the laws of runs by which messages come
record Laws : Type 0 where
  go : MessagesGoToNodes
  keep : RunsKeepCount
  logs : RunsKeepLogs
  kin : RunsKeepKin
  serve_is : ServeIsTheStep
  take_is : TakeIsTheStep
  cut_is : CutIsTheStep

-- so a message of a run that comes to a node is known
of_run : Laws → (count : ℕ) (r : Run count) (number n : ℕ) (m : Message) → slice_get (last r).messages number ≡ Some m
    → Known (last r).controller n ((last r).nodes n) m
of_run laws count r number n m is =
    let w = last r in
    let is_of = last_is_of count r in
    let x = w.nodes n in
    let own : StandsIn w x.log = inl (n, refl) in
    let asks : (q : Request) → m ≡ Asks q → StandsIn w q.log = λ q same. inr (Asks q, (number, is ∙ ap Some same), refl) in
    let told : (a : Answer) → m ≡ Answers a → StandsIn w a.log = λ a same. inr (Answers a, (number, is ∙ ap Some same), inr refl) in
    let asked : (a : Answer) → m ≡ Answers a → StandsIn w a.request.log = λ a same. inr (Answers a, (number, is ∙ ap Some same), inl refl) in
    let log : (l : List Batch) → StandsIn w l → IsLog l = laws.logs count r w is_of in
    let kin : (one other : List Batch) → StandsIn w one → StandsIn w other → IsKin one other = laws.kin count r w w is_of is_of in
    record {
      asked = λ q same l leads free.
          laws.serve_is n x l q leads (log x.log own) (log q.log (asks q same)) (kin q.log x.log (asks q same) own) free;
      took = λ a same covered free.
          (laws.take_is w.controller n x a covered (log x.log own) (log a.log (told a same)) (log a.request.log (asked a same))
          (kin a.request.log x.log (asked a same) own) (kin a.request.log a.log (asked a same) (told a same))).1 [] free (Begins-nil (piece a.log a.request));
      cuts = λ a same parted.
          (laws.cut_is w.controller n x a parted (log x.log own) (log a.log (told a same)) (log a.request.log (asked a same))
          (kin a.request.log x.log (asked a same) own) (kin a.request.log a.log (asked a same) (told a same))).0;
    }

-- a message that goes to this node comes to it
comes_there : Laws → (count : ℕ) (r : Run count) (number n : ℕ) (m : Message) → slice_get (last r).messages number ≡ Some m → addressee m ≡ Some n → Answering (last r) (model.Deliver number)
comes_there laws count r number n m is goes =
    let w = last r in
    let is_of = last_is_of count r in
    let x = w.nodes n in
    let done = receives w.controller n x m (cause w.controller n x (Receive m)) refl (of_run laws count r number n m is) in
    let party : IsParty count (Some n) = subst (IsParty count) goes (laws.go count r w is_of m (number, is)).1 in
    let step : NodeStep w n (Receive m) (answered w.messages done.effect) (moved w n done.effect) = record {
      counted = omega (arith, party, laws.keep count r w is_of);
      given = (number, is);
      effect = done.effect;
      local = done.local;
      outcome_is = refl;
      new_is = refl;
    } in
    record {
      outcome = answered w.messages done.effect;
      after = moved w n done.effect;
      step = subst (λ (o : Option Message). Delivers w o (answered w.messages done.effect) (moved w n done.effect)) (sym is) (comes_to w m n _ _ goes step);
      counted = refl;
      spared = λ (k, there, takes).
          let same : k ≡ m = (let both : Some k ≡ Some m = sym there ∙ is in cc) in
          done.spared (subst (SparesAt w m) goes (subst (λ (y : Message). SparesAt w y (addressee y)) same takes));
    }

-- a proposal comes to the controller
record Decided (o : Option Refusal) (w : World) (p : Proposal) : Type 0 where
  outcome : Outcome
  after : World
  step : DecidesBy o w p outcome after
  counted : after.count ≡ w.count
  spared : outcome.reply ≢ Refused refusals.Memory

decides : (w : World) (p : Proposal) (o : Option Refusal) → decide_cause w.controller p ≡ o → Decided o w p
decides w p (Some refusal) is =
    record { outcome = told (Refused refusal); after = w; step = (refl, refl); counted = refl; spared = λ lacks. full_apart (sym (only_full w.controller p refusal is) ∙ same_refusal refusal refusals.Memory lacks) }
  where
    full_apart : refusals.RecordFull ≡ refusals.Memory → ⊥
    full_apart e = cc
decides w p None is =
    let r = decided_on w.controller p in
    record {
      outcome = record { reply = SentDecision r; number = Some (length w.messages) };
      after = with_message (with_record w r) (Decides (decision w.controller p));
      step = (refl, refl);
      counted = refl;
      spared = λ lacks. cc;
    }

comes : Laws → (count : ℕ) (r : Run count) (number : ℕ) (o : Option Message) → slice_get (last r).messages number ≡ o → Answering (last r) (model.Deliver number)
comes laws count r number None is =
    let w = last r in record {
      outcome = told (Refused refusals.StaleAnswer);
      after = w;
      step = subst (λ (o : Option Message). Delivers w o (told (Refused refusals.StaleAnswer)) w) (sym is) (refl, refl);
      counted = refl;
      spared = λ takes lacks. cc;
    }
comes laws count r number (Some (Proposes p)) is =
    let w = last r in
    let done = decides w p (decide_cause w.controller p) refl in
    record {
      outcome = done.outcome;
      after = done.after;
      step = subst (λ (o : Option Message). Delivers w o done.outcome done.after) (sym is) done.step;
      counted = done.counted;
      spared = λ takes. done.spared;
    }
comes laws count r number (Some m) is = comes_there laws count r number _ m is refl

answers : Laws → (count : ℕ) (r : Run count) (e : Event) → MayCome (last r).count e → Answering (last r) e
answers laws count r (model.Elect n) come =
    let w = last r in
    let done = elects (elect_cause w.controller n) w n in
    record { outcome = done.outcome; after = done.after; step = done.step; counted = done.counted; spared = λ never. absurd never }
answers laws count r (model.Acts n act) come =
    let w = last r in
    let done = acts_locally w.controller n (w.nodes n) act come.1 come.2 in
    record {
      outcome = answered w.messages done.effect;
      after = moved w n done.effect;
      step = record { counted = come.0; given = given w.messages act come.1; effect = done.effect; local = done.local; outcome_is = refl; new_is = refl };
      counted = refl;
      spared = done.spared;
    }
answers laws count r (model.Deliver number) come = comes laws count r number (slice_get (last r).messages number) refl

-- a run that goes on
record GoesOn (count : ℕ) (events more : List Event) (outcomes : List Outcome) : Type 0 where
  run : Run count
  counted : (last run).count ≡ count
  spared : NoneLacks count run.moments
  added : List Outcome
  events_are : events_of run ≡ events ++ more
  outcomes_are : outcomes_of run ≡ outcomes ++ added

goes_on : Laws → (count : ℕ) (events more : List Event) (outcomes : List Outcome) (r : Run count) → (last r).count ≡ count → NoneLacks count r.moments → events_of r ≡ events
    → outcomes_of r ≡ outcomes → AllByRecursion (MayCome count) more → GoesOn count events more outcomes
goes_on laws count events [] outcomes r counted spared es os come =
    record { run = r; counted = counted; spared = spared; added = []; events_are = es ∙ sym (append-nil events); outcomes_are = os ∙ sym (append-nil outcomes) }
goes_on laws count events (e ∷ more) outcomes r counted spared es os come =
    let next = answers laws count r e (subst (λ (k : ℕ). MayCome k e) (sym counted) come.0) in
    let then : Run count = extend r e next.outcome next.after next.step in
    let es_then : events_of then ≡ events ++ e ∷ [] =
    reverse-append (e ∷ []) (map (λ (m : Moment). m.event) r.moments) ∙ ap (λ (xs : List Event). xs ++ e ∷ []) es in
    let os_then : outcomes_of then ≡ outcomes ++ next.outcome ∷ [] =
    reverse-append (next.outcome ∷ []) (map (λ (m : Moment). m.outcome) r.moments) ∙ ap (λ (xs : List Outcome). xs ++ next.outcome ∷ []) os in
    let rest = goes_on laws count (events ++ e ∷ []) more (outcomes ++ next.outcome ∷ []) then (next.counted ∙ counted) (next.spared, spared) es_then os_then come.1 in
    record {
      run = rest.run;
      counted = rest.counted;
      spared = rest.spared;
      added = next.outcome ∷ rest.added;
      events_are = rest.events_are ∙ append_assoc events (e ∷ []) more;
      outcomes_are = rest.outcomes_are ∙ append_assoc outcomes (next.outcome ∷ []) rest.added;
    }

pub plays_go_on : RunsAreSafe → NoDeliveryIsRefusedOddly → RunsKeepCount → MessagesGoToNodes → RunsKeepLogs → RunsKeepKin → ServeIsTheStep → TakeIsTheStep → CutIsTheStep → PlaysGoOn
plays_go_on safe odd keeps go logs kin serve_is take_is cut_is count events more outcomes played come =
    let laws : Laws = record { go = go; keep = keeps; logs = logs; kin = kin; serve_is = serve_is; take_is = take_is; cut_is = cut_is } in
    let rest = goes_on laws count events more outcomes played.run (keeps count played.run (last played.run) (last_is_of count played.run)) played.spared played.events_are played.outcomes_are come in
    (rest.added, record { run = rest.run; events_are = rest.events_are; outcomes_are = rest.outcomes_are; safe = safe count rest.run; fits = all_fit odd count rest.run; spared = rest.spared })
