-- What a step is, and what an action does that isn't refused, by what it changes: nothing, the mode, the log's end, the
-- watermark, what a leader knows of the in-sync set, what is sent. Each action is of one class, and other proofs go by class:
-- an action or a kind of message more is told here, and where it is of a class that stands here, in no other proof.
use Rattle.std.proofs.Common.{◌≡◌, ◌⊎◌, ℕ, ◌+◌, ◌<◌, Bool, true, false, cond, eqb, List, [], ◌∷◌, Option, Some, None, Result, Ok, Err, refl, sym, ap, ◌∙◌, subst, inl, inr}
use Rattle.std.specs.Prelude.{slice_get, not, ◌||◌, is_some, bytes_eq}
use Rattle.std.proofs.lemmas.Slice.Eq.{bytes_eq-Decides}
use Rattle.std.proofs.lemmas.Bool.{cond_both, false≢true, not-false, cases_Bool, eq-eqb}
use Rattle.kp_types.specs.declared.refusal.Refusal.{Refusal}
use Rattle.kp_types.specs.declared.refusal.Refusal.TheVariants as refusals
use Rattle.kp_batch.specs.Batch.{Body, IsBody}
use Rattle.kp_model.specs.Admission.{Admission, Append, Duplicate, Refused as NotAdmitted, admit, admit_marker}
use Rattle.kp_model.specs.World.{Leader, LeaderAndIsr, Leading, Following, Mode, Down, Idle, Leads, Follows, Node, Request, Answer, Proposal, Decision, Message, Asks, Answers, Proposes, Decides, World, addressee, with_record, with_message, IsSent}
use Rattle.kp_model.specs.Event.{Act, Adopt, Produce, Mark, Ask, Receive, Raise, Join, Leave, Checkpoint, Stop, Restart, Show, Read, Committed, Event, Elect, Acts, Deliver, Reply, Refused, Outcome}
use Rattle.kp_model.specs.Controller.{elected, is_member, with_member, without_member}
use Rattle.kp_model.specs.Effect.{Effect, becomes, sends, is_down, unless_leads}
use Rattle.kp_model.specs.Adopting.{is_news, Adopts}
use Rattle.kp_model.specs.Appending.{exhausts, admission_cause, Appends, produce_cause, Produces, marker_body, Marks}
use Rattle.kp_model.specs.Fetching.{asked, serve_cause, Serves, take_cause, Takes, TakesSome, cut_cause, Cuts, is_covered, Accepts}
use Rattle.kp_model.specs.Raising.{Raises}
use Rattle.kp_model.specs.InSync.{is_caught_up, change_cause, join_cause, leave_cause, Proposes-set, learn_cause, Learns}
use Rattle.kp_model.specs.Local.{Local, LocalBy, cause, receive_cause, Receives, Happens, LacksMemoryFor, LacksMemory}
use Rattle.kp_model.specs.Step.{Step, NodeStep, Delivers, ElectsBy, DecidesBy, elect_cause, decide_cause, decided_on, decision, moved, told, IsGiven}
use Rattle.kp_model.specs.declared.message.Said.{Said}
use Rattle.kp_model.specs.declared.message.Said.TheVariants as says
use Rattle.kp_model.specs.Letter.{goes_to, letter_of}
use Rattle.kp_model.specs.Calls.{said_reply}
use Rattle.kp_model.specs.Handed.{Hands}
use Rattle.kp_model.specs.Laws.{KeepsMark}
use Rattle.kp_model.proofs.OneStep.Steps.{where_leads, where_follows, leads_cause, staying}
use Rattle.kp_types.proofs.Causes.{passed}

-- ---- what a step comes to

-- an action without a cause to be refused
pub record Acting (w : World) (new : World) : Type 0 where
  pub node : ℕ
  pub act : Act
  pub effect : Effect
  pub counted : node < w.count
  pub given : IsGiven w.messages act
  pub free : cause w.controller node (w.nodes node) act ≡ None
  pub does : Happens w.controller node (w.nodes node) act effect ⊎ LacksMemory (w.nodes node) act effect
  pub new_is : new ≡ moved w node effect

pub record Electing (w : World) (new : World) : Type 0 where
  pub node : ℕ
  pub free : elect_cause w.controller node ≡ None
  pub new_is : new ≡ with_record w (elected w.controller node)

pub record Deciding (w : World) (new : World) : Type 0 where
  pub asked : Proposal
  pub sent : IsSent w.messages (Proposes asked)
  pub free : decide_cause w.controller asked ≡ None
  pub new_is : new ≡ with_message (with_record w (decided_on w.controller asked)) (Decides (decision w.controller asked))

-- a step changes nothing, elects, decides on a proposal, or is an action of a node
abbrev pub Cases : World → World → Type 0
Cases w new = (new ≡ w) ⊎ ((Electing w new ⊎ Deciding w new) ⊎ Acting w new)

-- To whom a delivery comes: to nobody, as a proposal to the controller, or as a message to a node.
abbrev pub Arrives : World → Outcome → World → Type 0
Arrives w outcome new =
    ((outcome ≡ told (Refused refusals.StaleAnswer)) × (new ≡ w))
    ⊎ (((p : Proposal) × IsSent w.messages (Proposes p) × DecidesBy (decide_cause w.controller p) w p outcome new)
    ⊎ ((n : ℕ) × (m : Message) × NodeStep w n (Receive m) outcome new))

pub arrives : (w : World) (number : ℕ) (outcome : Outcome) (new : World) → Delivers w (slice_get w.messages number) outcome new → Arrives w outcome new
arrives w number outcome new s = by_message (slice_get w.messages number) refl s
  where
    by_message : (o : Option Message) → slice_get w.messages number ≡ o → Delivers w o outcome new → Arrives w outcome new
    by_message None e h = inl h
    by_message (Some (Asks r)) e h = inr (inr (r.to, Asks r, h))
    by_message (Some (Answers a)) e h = inr (inr (a.request.from, Answers a, h))
    by_message (Some (Proposes p)) e h = inr (inl (p, (number, e), h))
    by_message (Some (Decides d)) e h = inr (inr (d.proposal.from, Decides d, h))

-- a message goes where its letter does
pub goes : (m : Message) → goes_to (letter_of m) ≡ addressee m
goes (Asks r) = refl
goes (Answers a) = refl
goes (Proposes p) = refl
goes (Decides d) = refl

-- a message that goes to a node comes to it
pub comes_to : (w : World) (m : Message) (n : ℕ) (outcome : Outcome) (new : World) → addressee m ≡ Some n → NodeStep w n (Receive m) outcome new → Delivers w (Some m) outcome new
comes_to w (Asks r) n outcome new e step = let same : n ≡ r.to = cc in subst (λ (k : ℕ). NodeStep w k (Receive (Asks r)) outcome new) same step
comes_to w (Answers a) n outcome new e step = let same : n ≡ a.request.from = cc in subst (λ (k : ℕ). NodeStep w k (Receive (Answers a)) outcome new) same step
comes_to w (Proposes p) n outcome new e step = absurd cc
comes_to w (Decides d) n outcome new e step = let same : n ≡ d.proposal.from = cc in subst (λ (k : ℕ). NodeStep w k (Receive (Decides d)) outcome new) same step

-- what is told of a message that was sent is no refusal
pub said_never : (said : Said) (refusal : Refusal) → said_reply said ≡ Refused refusal → ⊥
said_never (says.AsksFrom offset last) refusal e = cc
said_never (says.Batches count watermark) refusal e = cc
said_never (says.Diverging end) refusal e = cc
said_never (says.Proposes isr version) refusal e = cc
said_never (says.Decides decided) refusal e = cc

-- What a delivery comes to: nothing, a decision on a proposal, or that a node receives the message.
abbrev pub DeliveryCases : World → Outcome → World → Type 0
DeliveryCases w outcome new = ((new ≡ w) ⊎ Deciding w new) ⊎ ((n : ℕ) × (m : Message) × NodeStep w n (Receive m) outcome new)

pub delivery_cases : (w : World) (number : ℕ) (outcome : Outcome) (new : World) → Delivers w (slice_get w.messages number) outcome new → DeliveryCases w outcome new
delivery_cases w number outcome new s =
    elim (arrives w number outcome new s) [
      | inl nobody ↦ inl (inl nobody.1)
      | inr party ↦
          elim party [
            | inl controller ↦ by_cause controller.0 controller.1 (decide_cause w.controller controller.0) refl controller.2
            | inr node ↦ inr node
          ]
    ]
  where
    by_cause : (p : Proposal) → IsSent w.messages (Proposes p) → (o : Option Refusal) → decide_cause w.controller p ≡ o → DecidesBy o w p outcome new → DeliveryCases w outcome new
    by_cause p sent (Some r) e h = inl (inl h.1)
    by_cause p sent None e h = inl (inr (record { asked = p; sent = sent; free = e; new_is = h.1 }))

node_cases : (w : World) (n : ℕ) (act : Act) (outcome : Outcome) (new : World) → NodeStep w n act outcome new → Cases w new
unfolding Local
node_cases w n act outcome new s = by_cause (cause w.controller n (w.nodes n) act) refl s.local
  where
    by_cause : (o : Option Refusal) → cause w.controller n (w.nodes n) act ≡ o → LocalBy o w.controller n (w.nodes n) act s.effect → Cases w new
    by_cause (Some r) e h = inl (s.new_is ∙ staying (λ (v : World). v ≡ w) w n s.effect (Refused r) h refl)
    by_cause None e h =
        inr (inr (record { node = n; act = act; effect = s.effect; counted = s.counted; given = s.given; free = e; does = h; new_is = s.new_is }))

pub step_cases : (w : World) (event : Event) (outcome : Outcome) (new : World) → Step w event outcome new → Cases w new
step_cases w (Elect n) outcome new s = by_cause (elect_cause w.controller n) refl s
  where
    by_cause : (o : Option Refusal) → elect_cause w.controller n ≡ o → ElectsBy o w n outcome new → Cases w new
    by_cause (Some r) e h = inl h.1
    by_cause None e h = inr (inl (inl (record { node = n; free = e; new_is = h.1 })))
step_cases w (Acts n act) outcome new s = node_cases w n act outcome new s
step_cases w (Deliver number) outcome new s =
    elim (delivery_cases w number outcome new s) [
      | inl none ↦ elim none [ inl same ↦ inl same | inr decided ↦ inr (inl (inr decided)) ]
      | inr node ↦ node_cases w node.0 (Receive node.1) outcome new node.2
    ]

-- ---- the classes of actions

-- the set with a member more, which has caught up, or with one less, which isn't n
abbrev pub IsChange : ℕ → Node → Leading → List ℕ → Type 0
IsChange n x l isr =
    ((m : ℕ) × (isr ≡ with_member m l.isr) × (is_caught_up x.watermark l m ≡ true))
    ⊎ ((m : ℕ) × (isr ≡ without_member m l.isr) × (m ≡ n → ⊥))

-- what leader n may ask for: nothing is pending and the set is such a change, or it is pending already
abbrev pub MayPropose : ℕ → Node → Leading → List ℕ → Type 0
MayPropose n x l isr = ((l.pending ≡ None) × IsChange n x l isr) ⊎ (l.pending ≡ Some isr)

-- no refusal but for want of memory
abbrev pub IsPlain : Reply → Type 0
IsPlain (Refused refusal) = refusal ≡ refusals.Memory
IsPlain _ = Unit {0}

-- Node n, whose state is x, acted under record c, with these messages sent before.
pub data Class (messages : List Message) (c : LeaderAndIsr) (n : ℕ) (x : Node) (act : Act) (e : Effect) : Type 0 where
  -- nothing changes, and nothing is sent
  Rests : (reply : Reply) → IsPlain reply → e ≡ becomes x reply → Class messages c n x act e
  -- the mode and the kept epoch change: it takes up the record's leader
  TakesUp : (l : Leader) → c.leader ≡ Some l → is_news c n x ≡ true → Adopts c n x (Some l) e → Class messages c n x act e
  -- the log grows by a batch of its own
  GrowsByOwn : (l : Leading) (body : Body) → x.mode ≡ Leads l → IsBody body → Hands act body → exhausts x.log body ≡ false → Appends x l body Append e → Class messages c n x act e
  -- the log grows by what a leader answered, and the watermark may rise
  GrowsByAnswer : (a : Answer) → IsSent messages (Answers a) → take_cause x a ≡ None → (KeepsMark act → ⊥) → Takes x a e → Class messages c n x act e
  -- the log grows by some of it, and the node goes down
  GrowsInPart : (a : Answer) → IsSent messages (Answers a) → take_cause x a ≡ None → TakesSome x a e → Class messages c n x act e
  -- the log is cut
  IsCut : (a : Answer) → IsSent messages (Answers a) → cut_cause c n x a ≡ None → Cuts x a e → Class messages c n x act e
  -- a follower's request is sent
  SendsRequest : (f : Following) (reply : Reply) → IsPlain reply → x.mode ≡ Follows f → e ≡ sends x (Asks (asked n x f)) reply → Class messages c n x act e
  -- a leader's answer is sent, and a report may be lifted
  SendsAnswer : (r : Request) (l : Leading) → x.mode ≡ Leads l → IsSent messages (Asks r) → serve_cause x.log r l ≡ None → Serves x r l e → Class messages c n x act e
  -- a leader's proposal is sent, and its set is pending
  SendsProposal : (isr : List ℕ) (l : Leading) → x.mode ≡ Leads l → MayPropose n x l isr → Proposes-set n x isr l e → Class messages c n x act e
  -- a leader knows another set
  KnowsMore : (d : Decision) (l : Leading) → x.mode ≡ Leads l → IsSent messages (Decides d) → learn_cause d l ≡ None → Learns x d l e → Class messages c n x act e
  -- a leader's watermark rises
  RaisesMark : (l : Leading) → x.mode ≡ Leads l → (KeepsMark act → ⊥) → Raises n x l e → Class messages c n x act e
  -- the checkpoint becomes the watermark
  NotesMark : (reply : Reply) → IsPlain reply → e ≡ becomes (record x { checkpoint = x.watermark }) reply → Class messages c n x act e
  -- it goes down
  GoesDown : (reply : Reply) → IsPlain reply → e ≡ becomes (record x { mode = Down }) reply → Class messages c n x act e
  -- it begins another life, at its checkpoint
  BeginsLife : (reply : Reply) → IsPlain reply → (KeepsMark act → ⊥) → e ≡ becomes (record x { watermark = x.checkpoint; life = x.life + 1; mode = Idle }) reply → Class messages c n x act e

-- nothing is pending, or the same set
change_free : (o : Option (List ℕ)) (isr : List ℕ) (tests : Option Refusal) → change_cause o isr tests ≡ None → ((o ≡ None) × (tests ≡ None)) ⊎ (o ≡ Some isr)
change_free None isr tests e = inl (refl, e)
change_free (Some pending) isr tests e =
    elim (cases_Bool (bytes_eq pending isr)) [
      | inl same ↦ inr (ap Some ((bytes_eq-Decides pending isr).0 same))
      | inr other ↦ absurd (let refused = rw other at e in false≢true (sym (ap is_some refused)))
    ]

module _ (messages : List Message) (c : LeaderAndIsr) (n : ℕ) (x : Node) where
  abbrev Is : Act → Effect → Type 0
  Is act e = Class messages c n x act e

  adopt_class : (act : Act) (leader : Option Leader) (e : Effect) → c.leader ≡ leader → is_news c n x ≡ true → Adopts c n x leader e → Is act e
  adopt_class act None e is news h = absurd h
  adopt_class act (Some l) e is news h = TakesUp l is news h

  append_class : (act : Act) (l : Leading) (body : Body) (admission : Admission) (e : Effect) → x.mode ≡ Leads l → IsBody body → Hands act body → admission_cause x.log body admission ≡ None → Appends x l body admission e → Is act e
  append_class act l body Append e mode lawful hands free h = GrowsByOwn l body mode lawful hands (passed (exhausts x.log body) _ _ free).0 h
  append_class act l body (Duplicate base) e mode lawful hands free h = Rests _ tt h
  append_class act l body (NotAdmitted r) e mode lawful hands free h = absurd h

  produce_class : (l : Leading) (offer : Result Body Refusal) (e : Effect) → x.mode ≡ Leads l → produce_cause x.log offer ≡ None → Produces x l offer e → Is (Produce offer) e
  produce_class l (Ok body) e mode free h = append_class (Produce (Ok body)) l body (admit x.log body.content) e mode h.0 refl free h.1
  produce_class l (Err fault) e mode free h = absurd h

  propose_class : (act : Act) (isr : List ℕ) (tests : Option Refusal) (l : Leading) (e : Effect) → x.mode ≡ Leads l → change_cause l.pending isr tests ≡ None → (tests ≡ None → IsChange n x l isr) → Proposes-set n x isr l e → Is act e
  propose_class act isr tests l e mode free change h =
      SendsProposal isr l mode (elim (change_free l.pending isr tests free) [ inl new ↦ inl (new.0, change new.1) | inr again ↦ inr again ]) h

  -- ---- a message comes

  receive_class : (m : Message) (e : Effect) → IsSent messages m → receive_cause c n x m ≡ None → Receives x m e → Is (Receive m) e
  receive_class (Asks r) e sent free h =
      let l = where_leads x.mode (λ l. Serves x r l e) h in SendsAnswer r l.0 l.1 sent (leads_cause x.mode (serve_cause x.log r) l.0 l.1 free) l.2
  receive_class (Answers a) e sent free h = by_covered (is_covered a.log a.request) refl free h
    where
      by_covered : (covered : Bool) → is_covered a.log a.request ≡ covered → cond covered (take_cause x a) (cut_cause c n x a) ≡ None → Accepts x a covered e → Is (Receive (Answers a)) e
      by_covered true is free h = GrowsByAnswer a sent free (λ keeps. false≢true (sym keeps ∙ is)) h
      by_covered false is free h = IsCut a sent free h
  receive_class (Proposes p) e sent free h = absurd h
  receive_class (Decides d) e sent free h =
      let l = where_leads x.mode (λ l. Learns x d l e) h in KnowsMore d l.0 l.1 sent (leads_cause x.mode (learn_cause d) l.0 l.1 free) l.2

  lacks_class_for : (m : Message) (e : Effect) → IsSent messages m → receive_cause c n x m ≡ None → LacksMemoryFor x m e → Is (Receive m) e
  lacks_class_for (Asks r) e sent free h = Rests _ refl h
  lacks_class_for (Answers a) e sent free h = GrowsInPart a sent (subst (λ (t : Bool). cond t (take_cause x a) (cut_cause c n x a) ≡ None) h.0 free) h.1
  lacks_class_for _ e sent free h = absurd h

  -- ---- all actions

  happens_class : (act : Act) (e : Effect) → IsGiven messages act → cause c n x act ≡ None → Happens c n x act e → Is act e
  happens_class Adopt e given free h = adopt_class Adopt c.leader e refl (not-false _ (passed _ _ _ (passed _ _ _ free).1).0) h
  happens_class (Produce offer) e given free h =
      let l = where_leads x.mode (λ l. Produces x l offer e) h in produce_class l.0 offer e l.1 (leads_cause x.mode (λ l. produce_cause x.log offer) l.0 l.1 free) l.2
  happens_class (Mark time producer epoch coordinator commit) e given free h =
      let body = marker_body time producer epoch coordinator commit in
      let admission = admit_marker x.log producer epoch coordinator in
      let l = where_leads x.mode (λ l. Marks x l body admission e) h in
      append_class (Mark time producer epoch coordinator commit) l.0 body admission e l.1 l.2.0 refl (leads_cause x.mode (λ l. admission_cause x.log body admission) l.0 l.1 free) l.2.1
  happens_class Ask e given free h = let f = where_follows x.mode _ h in SendsRequest f.0 _ tt f.1 f.2
  happens_class (Receive m) e given free h = receive_class m e given free h
  happens_class Raise e given free h = let l = where_leads x.mode (λ l. Raises n x l e) h in RaisesMark l.0 l.1 (λ keeps. keeps) l.2
  happens_class (Join member) e given free h =
      let l = where_leads x.mode (λ l. Proposes-set n x (with_member member l.isr) l e) h in
      propose_class (Join member) (with_member member l.0.isr) _ l.0 e l.1 (leads_cause x.mode (join_cause x member) l.0 l.1 free)
      (λ tested. inl (member, refl, not-false _ (passed _ _ _ tested).0)) l.2
  happens_class (Leave member) e given free h =
      let l = where_leads x.mode (λ l. Proposes-set n x (without_member member l.isr) l e) h in
      propose_class (Leave member) (without_member member l.0.isr) _ l.0 e l.1 (leads_cause x.mode (leave_cause n member) l.0 l.1 free)
      (λ tested. inr (member, refl, not_own member l.0 (passed _ _ _ tested).0)) l.2
    where
      not_own : (member : ℕ) (l : Leading) → (not (is_member member l.isr) || eqb member n) ≡ false → member ≡ n → ⊥
      not_own member l e is = false≢true (sym (or_false (not (is_member member l.isr)) (eqb member n) e) ∙ eq-eqb member n is)
        where
          or_false : (p q : Bool) → (p || q) ≡ false → q ≡ false
          or_false true q e = absurd (false≢true (sym e))
          or_false false q e = e
  happens_class Checkpoint e given free h = NotesMark _ tt h
  happens_class Stop e given free h = GoesDown _ tt h
  happens_class Restart e given free h = BeginsLife _ tt (λ keeps. keeps) h
  happens_class Show e given free h = Rests _ tt h
  happens_class (Read from) e given free h = Rests _ tt h
  happens_class (Committed from) e given free h = Rests _ tt h

  lacks_class : (act : Act) (e : Effect) → IsGiven messages act → cause c n x act ≡ None → LacksMemory x act e → Is act e
  lacks_class (Produce offer) e given free h = Rests _ refl h
  lacks_class (Mark time producer epoch coordinator commit) e given free h = Rests _ refl h
  lacks_class Ask e given free h = Rests _ refl h
  lacks_class (Receive m) e given free h = lacks_class_for m e given free h
  lacks_class (Join member) e given free h = Rests _ refl h
  lacks_class (Leave member) e given free h = Rests _ refl h
  lacks_class Restart e given free h = Rests _ refl h
  lacks_class (Read from) e given free h = Rests _ refl h
  lacks_class (Committed from) e given free h = Rests _ refl h
  lacks_class _ e given free h = absurd h

  -- an action that isn't refused is of a class
  pub class_of : (act : Act) (e : Effect) → IsGiven messages act → cause c n x act ≡ None → Happens c n x act e ⊎ LacksMemory x act e → Class messages c n x act e
  class_of act e given free (inl h) = happens_class act e given free h
  class_of act e given free (inr h) = lacks_class act e given free h

-- an action is given what it was handed, where that alone was sent
abbrev pub handed : Act → List Message
handed (Receive m) = m ∷ []
handed _ = []

pub handed_alone : (act : Act) → IsGiven (handed act) act
handed_alone (Receive m) = (0, refl)
handed_alone _ = tt

abbrev pub ClassIn : World → ℕ → Act → Effect → Type 0
ClassIn w n act e = Class w.messages w.controller n (w.nodes n) act e

pub acting_class : (w new : World) (a : Acting w new) → ClassIn w a.node a.act a.effect
acting_class w new a = class_of w.messages w.controller a.node (w.nodes a.node) a.act a.effect a.given a.free a.does

-- ---- why a message is refused

-- Which tests give this cause: those of the mode alone, a leader's of a request, a follower's of an answer with batches or
-- without, or a leader's of a decision.
pub data Tests (messages : List Message) (c : LeaderAndIsr) (n : ℕ) (x : Node) (o : Option Refusal) : Type 0 where
  OfMode : (o ≡ Some refusals.Down) ⊎ ((o ≡ Some refusals.NotLeader) ⊎ (o ≡ Some refusals.StaleAnswer)) → Tests messages c n x o
  OfServing : (r : Request) (l : Leading) → IsSent messages (Asks r) → o ≡ serve_cause x.log r l → Tests messages c n x o
  OfTaking : (a : Answer) → IsSent messages (Answers a) → is_covered a.log a.request ≡ true → o ≡ take_cause x a → Tests messages c n x o
  OfCutting : (a : Answer) → o ≡ cut_cause c n x a → Tests messages c n x o
  OfLearning : (d : Decision) (l : Leading) → o ≡ learn_cause d l → Tests messages c n x o

module _ (messages : List Message) (c : LeaderAndIsr) (n : ℕ) (x : Node) where
  leader_tests : (tests : Leading → Option Refusal) (mode : Mode) → ((l : Leading) → Tests messages c n x (tests l)) → Tests messages c n x (unless_leads mode tests)
  leader_tests tests Down led = OfMode (inl refl)
  leader_tests tests Idle led = OfMode (inr (inl refl))
  leader_tests tests (Leads l) led = led l
  leader_tests tests (Follows f) led = OfMode (inr (inl refl))

  pub tests_of : (m : Message) → IsSent messages m → Tests messages c n x (receive_cause c n x m)
  tests_of (Asks r) sent = leader_tests (serve_cause x.log r) x.mode (λ l. OfServing r l sent refl)
  tests_of (Answers a) sent =
      cond_both (is_covered a.log a.request) (take_cause x a) (cut_cause c n x a) (Tests messages c n x) (λ covered. OfTaking a sent covered refl) (λ diverges. OfCutting a refl)
  tests_of (Proposes p) sent =
      cond_both (is_down x.mode) refusals.Down refusals.StaleAnswer (λ (r : Refusal). Tests messages c n x (Some r)) (λ e. OfMode (inl refl)) (λ e. OfMode (inr (inr refl)))
  tests_of (Decides d) sent = leader_tests (learn_cause d) x.mode (λ l. OfLearning d l refl)
