-- Each log of each world of a run is a log, and no leader epoch in it is above its node's.
use Rattle.std.proofs.Common.{◌≡◌, ℕ, ◌+◌, ◌<◌, ◌≤◌, true, cond, eqb, ltb, leb, List, [], ◌∷◌, ◌++◌, Option, Some, None, refl, sym, ap, ◌∙◌, subst, append_assoc, append-nil, arith, inl, inr}
use Rattle.std.specs.Prelude.{map, unwrap_or, is_some}
use Rattle.std.specs.List.{AllByRecursion, last_or}
use Rattle.std.proofs.lemmas.Bool.{cond_both, cases_Bool, ltb-false, and_parts, not-false, eqb-true}
use Rattle.kp_types.specs.declared.refusal.Refusal.{Refusal}
use Rattle.kp_batch.specs.Batch.{Body, IsBody}
use Rattle.kp_model.specs.Beginning.{Begins}
use Rattle.kp_model.specs.Log.{Batch, width, end_of, Follow, IsLog, from_offset}
use Rattle.kp_model.specs.World.{Leader, LeaderAndIsr, Leading, Mode, Down, Idle, Leads, Follows, Node, Request, Answer, Decision, Message, Asks, Answers, World, start, with_record, with_node, with_message}
use Rattle.kp_model.specs.Event.{Act, Event, Reply, Outcome}
use Rattle.kp_model.specs.Controller.{next_epoch, elected}
use Rattle.kp_model.specs.Effect.{Effect}
use Rattle.kp_model.specs.Adopting.{under, Adopts}
use Rattle.kp_model.specs.Appending.{stamped}
use Rattle.kp_model.specs.Fetching.{last_epoch, asked, Serves, Takes, TakesSome, Cuts, piece, cannot_follow, grown, awaits, take_cause, serve_cause, answer}
use Rattle.kp_model.specs.InSync.{Proposes-set, Learns}
use Rattle.kp_model.specs.Step.{Step, moved, decided_on}
use Rattle.kp_model.proofs.Plain.FetchLimit.{each_at_least_one}
use Rattle.kp_model.proofs.Plain.Following.{cannot_follow-cons}
use Rattle.kp_model.proofs.Plain.Beginnings.{Begins-after}
use Rattle.kp_model.proofs.Plain.Logs.{last_epoch_or, IsLog-begins, IsLog-push}
use Rattle.kp_model.proofs.OneStep.Steps.{with_node_keeps, becoming, staying, sending, decided_leader, each_sent}
use Rattle.kp_model.proofs.OneStep.Classes.{step_cases, Rests, TakesUp, GrowsByOwn, GrowsByAnswer, GrowsInPart, IsCut, SendsRequest, SendsAnswer, SendsProposal, KnowsMore, RaisesMark, NotesMark, GoesDown, BeginsLife, ClassIn, acting_class}
use Rattle.kp_types.proofs.Elements.{all_weaker, all_append, all_front, all_kept}
use Rattle.kp_types.proofs.Causes.{passed}

-- ---- epochs below a bound

abbrev pub AllBelow : ℕ → List Batch → Type 0
AllBelow bound log = AllByRecursion (λ b. b.epoch < bound) log

pub below_later : (low high : ℕ) (log : List Batch) → low ≤ high → AllBelow low log → AllBelow high log
below_later low high log l h = all_weaker (λ b. b.epoch < low) (λ b. b.epoch < high) (λ b p. omega arith) log h

pub last_below : (epoch bound : ℕ) (log : List Batch) → epoch < bound → AllBelow bound log → last_epoch_or epoch log < bound
last_below epoch bound [] e h = e
last_below epoch bound (b ∷ bs) e h = last_below b.epoch bound bs h.0 h.1

pub last_epoch_some : (epoch : ℕ) (log : List Batch) → last_or (Some epoch) (map (λ b. b.epoch) log) ≡ Some (last_epoch_or epoch log)
last_epoch_some epoch [] = refl
last_epoch_some epoch (b ∷ bs) = last_epoch_some b.epoch bs

pub last_epoch_is : (log : List Batch) → unwrap_or (last_epoch log) 0 ≡ last_epoch_or 0 log
last_epoch_is [] = refl
last_epoch_is (b ∷ bs) = ap (λ (o : Option ℕ). unwrap_or o 0) (last_epoch_some b.epoch bs)

-- ---- a piece of a log

pub each_piece : (P : Batch → Type 0) (log : List Batch) (r : Request) → AllByRecursion P log → AllByRecursion P (piece log r)
each_piece P log r h = each_at_least_one P (from_offset (end_of r.log) log) (all_kept P (λ b. leb (end_of r.log) b.base) log h)

pub Follow-bodies : (offset epoch : ℕ) (log : List Batch) → Follow offset epoch log → AllByRecursion (λ b. IsBody b.body) log
Follow-bodies offset epoch [] h = tt
Follow-bodies offset epoch (b ∷ bs) h = (h.2, Follow-bodies (offset + width b) b.epoch bs h.3)

-- batches that can follow a log make a log with it
can_follow : (log bs : List Batch) → IsLog log → AllByRecursion (λ b. IsBody b.body) bs → cannot_follow log bs ≡ None → IsLog (log ++ bs)
can_follow log [] h bodies e = rw append-nil h
can_follow log (b ∷ bs) h bodies free =
    let e = sym (cannot_follow-cons log b bs) ∙ free in
    elim (cases_Bool (eqb b.base (end_of log))) [
      | inr differs ↦ (let wrong = rw differs at e in absurd cc)
      | inl same ↦
          (let rest = rw same at e in
          elim (cases_Bool (ltb b.epoch (unwrap_or (last_epoch log) 0))) [
            | inl back ↦ (let wrong = rw back at rest in absurd cc)
            | inr onward ↦
                (let more = rw onward at rest in
                let order : last_epoch_or 0 log ≤ b.epoch = rw last_epoch_is at (ltb-false b.epoch (unwrap_or (last_epoch log) 0) onward) in
                let next = can_follow (log ++ b ∷ []) bs (IsLog-push log b h (eqb-true b.base (end_of log) same) order bodies.0) bodies.1 more in
                subst IsLog (append_assoc log (b ∷ []) bs) next)
          ])
    ]

-- ---- sound worlds

-- the bound on the epochs in a node's log: its own epoch and no more, or any so far
abbrev pub mode_bound : ℕ → Mode → ℕ
mode_bound elections Down = elections
mode_bound elections Idle = elections
mode_bound elections (Leads l) = l.epoch + 1
mode_bound elections (Follows f) = f.epoch + 1

pub bound_later : (low high : ℕ) (mode : Mode) → low ≤ high → mode_bound low mode ≤ mode_bound high mode
bound_later low high Down l = l
bound_later low high Idle l = l
bound_later low high (Leads x) l = omega arith
bound_later low high (Follows x) l = omega arith

bound_within : (low high : ℕ) (mode : Mode) → low ≤ high → mode_bound low mode ≤ low → mode_bound high mode ≤ high
bound_within low high Down l h = omega arith
bound_within low high Idle l h = omega arith
bound_within low high (Leads x) l h = omega arith
bound_within low high (Follows x) l h = omega arith

pub record NodeIsSound (elections : ℕ) (x : Node) : Type 0 where
  pub log : IsLog x.log
  pub epochs : AllBelow (mode_bound elections x.mode) x.log
  pub within : mode_bound elections x.mode ≤ elections

pub record AnswerIsSound (a : Answer) : Type 0 where
  pub asked : IsLog a.request.log
  pub log : IsLog a.log
  pub epochs : AllBelow (a.request.epoch + 1) a.log

abbrev pub MessageIsSound : Message → Type 0
MessageIsSound (Asks r) = IsLog r.log
MessageIsSound (Answers a) = AnswerIsSound a
MessageIsSound _ = Unit {0}

abbrev pub elections_of : World → ℕ
elections_of w = next_epoch w.controller.leader

pub record WorldIsSound (w : World) : Type 0 where
  pub nodes : (n : ℕ) → NodeIsSound (elections_of w) (w.nodes n)
  pub messages : AllByRecursion MessageIsSound w.messages

pub sound_start : (count : ℕ) → WorldIsSound (start count)
sound_start count = record { nodes = λ n. record { log = tt; epochs = tt; within = omega arith }; messages = tt }

NodeIsSound-later : (low high : ℕ) (x : Node) → low ≤ high → NodeIsSound low x → NodeIsSound high x
NodeIsSound-later low high x l h =
    record {
      log = h.log;
      epochs = below_later (mode_bound low x.mode) (mode_bound high x.mode) x.log (bound_later low high x.mode l) h.epochs;
      within = bound_within low high x.mode l h.within;
    }

-- the epochs in a node's log are below the number of elections
pub all_below : (elections : ℕ) (x : Node) → NodeIsSound elections x → AllBelow elections x.log
all_below elections x h = below_later (mode_bound elections x.mode) elections x.log h.within h.epochs

pub changed : (w : World) (n : ℕ) (x : Node) → WorldIsSound w → NodeIsSound (elections_of w) x → WorldIsSound (with_node w n x)
changed w n x h p = record { nodes = with_node_keeps (NodeIsSound (elections_of w)) w.nodes n x h.nodes p; messages = h.messages }

sent : (w : World) (m : Message) → WorldIsSound w → MessageIsSound m → WorldIsSound (with_message w m)
sent w m h p = record { nodes = h.nodes; messages = all_append MessageIsSound w.messages (m ∷ []) h.messages (p, tt) }

-- ---- each kind of event

pub elect_keeps : (w : World) (n : ℕ) → WorldIsSound w → WorldIsSound (with_record w (elected w.controller n))
elect_keeps w n h =
    record {
      nodes = λ m. NodeIsSound-later (elections_of w) (elections_of w + 1) (w.nodes m) (omega arith) (h.nodes m);
      messages = h.messages;
    }

adopt_keeps : (w : World) (n : ℕ) (l : Leader) (f : Effect) → w.controller.leader ≡ Some l → WorldIsSound w → Adopts w.controller n (w.nodes n) (Some l) f → WorldIsSound (moved w n f)
adopt_keeps w n l f e h a =
    let x = w.nodes n in
    let role = under w.controller l n x.log in
    let bound : mode_bound (elections_of w) role.0 ≡ l.epoch + 1 =
    cond_both (eqb l.node n) _ _ (λ (p : Mode × Reply). mode_bound (elections_of w) p.0 ≡ l.epoch + 1) (λ t. refl) (λ t. refl) in
    let elections : elections_of w ≡ l.epoch + 1 = ap next_epoch e in
    let sound = all_below (elections_of w) x (h.nodes n) in
    becoming WorldIsSound w n f (record x { kept = Some l.epoch; mode = role.0 }) role.1 a
    (changed w n (record x { kept = Some l.epoch; mode = role.0 }) h
    (record {
      log = (h.nodes n).log;
      epochs = below_later (elections_of w) (mode_bound (elections_of w) role.0) x.log (omega (arith, bound, elections)) sound;
      within = omega (arith, bound, elections);
    }))

-- a batch that a leader stamps keeps its log
pub stamp_keeps : (elections : ℕ) (x : Node) (l : Leading) (body : Body) → x.mode ≡ Leads l → NodeIsSound elections x → IsBody body → NodeIsSound elections (record x { log = x.log ++ stamped x.log l.epoch body ∷ [] })
stamp_keeps elections x l body e h lawful =
    let bound : mode_bound elections x.mode ≡ l.epoch + 1 = ap (mode_bound elections) e in
    let below : AllBelow (l.epoch + 1) x.log = rw bound at h.epochs in
    let b = stamped x.log l.epoch body in
    let last = last_below 0 (l.epoch + 1) x.log (omega arith) below in
    record {
      log = IsLog-push x.log b h.log refl (omega arith) lawful;
      epochs = all_append (λ c. c.epoch < mode_bound elections x.mode) x.log (b ∷ []) h.epochs (omega (arith, bound), tt);
      within = h.within;
    }

-- a leader answers in its own epoch
serve_keeps : (w : World) (n : ℕ) (r : Request) (l : Leading) (f : Effect) → (w.nodes n).mode ≡ Leads l → serve_cause (w.nodes n).log r l ≡ None → IsLog r.log → WorldIsSound w → Serves (w.nodes n) r l f → WorldIsSound (moved w n f)
serve_keeps w n r l f e c asked h a =
    let x = w.nodes n in
    let sound = h.nodes n in
    let bound : mode_bound (elections_of w) x.mode ≡ l.epoch + 1 = ap (mode_bound (elections_of w)) e in
    let not_fenced = passed _ _ _ c in
    let not_ahead = passed _ _ _ not_fenced.1 in
    let lower = ltb-false r.epoch l.epoch not_fenced.0 in
    let upper = ltb-false l.epoch r.epoch not_ahead.0 in
    let answers : AnswerIsSound (answer x r) =
    record { asked = asked; log = sound.log; epochs = below_later (mode_bound (elections_of w) x.mode) (r.epoch + 1) x.log (omega (arith, bound)) sound.epochs } in
    elim a [
      | inl lifts ↦
          sending WorldIsSound w n f _ _ _ lifts.1
          (sent _ _ (changed w n _ h (record { log = sound.log; epochs = rw bound at sound.epochs; within = omega (arith, bound, sound.within) })) answers)
      | inr diverges ↦ sending WorldIsSound w n f _ _ _ diverges.1 (sent _ _ (changed w n x h sound) answers)
    ]

-- what an answer with batches adds keeps the node's log
pub expects_mode : (elections : ℕ) (x : Node) (a : Answer) (mode : Mode) → awaits x a.request.epoch (end_of a.request.log) (last_epoch a.request.log) mode ≡ true → mode_bound elections mode ≡ a.request.epoch + 1
expects_mode elections x a Down e = absurd cc
expects_mode elections x a Idle e = absurd cc
expects_mode elections x a (Leads l) e = absurd cc
expects_mode elections x a (Follows f) e =
    let rest = and_parts _ _ e in
    let first = and_parts _ _ rest.0 in
    ap (λ (n : ℕ). n + 1) (eqb-true f.epoch a.request.epoch first.0)

pub record TakeFacts (x : Node) (a : Answer) : Type 0 where
  pub expected : awaits x a.request.epoch (end_of a.request.log) (last_epoch a.request.log) x.mode ≡ true
  pub follows : cannot_follow x.log (piece a.log a.request) ≡ None

pub take_facts : (x : Node) (a : Answer) → take_cause x a ≡ None → TakeFacts x a
take_facts x a c =
    let up = passed _ _ _ c in
    let expected = passed _ _ _ up.1 in
    let follows = take_follows (cannot_follow x.log (piece a.log a.request)) _ expected.1 in
    record { expected = not-false (awaits x a.request.epoch (end_of a.request.log) (last_epoch a.request.log) x.mode) expected.0; follows = follows }
  where
    take_follows : (o rest : Option Refusal) → cond (is_some o) o rest ≡ None → o ≡ None
    take_follows None rest e = refl
    take_follows (Some r) rest e = e

grown_is_sound : (elections : ℕ) (x : Node) (a : Answer) → NodeIsSound elections x → AnswerIsSound a → take_cause x a ≡ None → NodeIsSound elections (record x { log = grown x a })
grown_is_sound elections x a h g c =
    let facts = take_facts x a c in
    let bound = expects_mode elections x a x.mode facts.expected in
    record {
      log = can_follow x.log (piece a.log a.request) h.log (each_piece (λ b. IsBody b.body) a.log a.request (Follow-bodies 0 0 a.log g.log)) facts.follows;
      epochs = all_append (λ b. b.epoch < mode_bound elections x.mode) x.log (piece a.log a.request) h.epochs
          (each_piece (λ b. b.epoch < mode_bound elections x.mode) a.log a.request (below_later (a.request.epoch + 1) (mode_bound elections x.mode) a.log (omega (arith, bound)) g.epochs));
      within = h.within;
    }

take_keeps : (w : World) (n : ℕ) (a : Answer) (f : Effect) → take_cause (w.nodes n) a ≡ None → WorldIsSound w → AnswerIsSound a → Takes (w.nodes n) a f → WorldIsSound (moved w n f)
take_keeps w n a f c h g t =
    let sound = grown_is_sound (elections_of w) (w.nodes n) a (h.nodes n) g c in
    becoming WorldIsSound w n f _ _ t.1 (changed w n _ h (record { log = sound.log; epochs = sound.epochs; within = sound.within }))

-- a node that went down while it took the batches has a beginning of what it would have
take_some_keeps : (w : World) (n : ℕ) (a : Answer) (f : Effect) → take_cause (w.nodes n) a ≡ None → WorldIsSound w → AnswerIsSound a → TakesSome (w.nodes n) a f → WorldIsSound (moved w n f)
take_some_keeps w n a f c h g t =
    let x = w.nodes n in
    let sound = grown_is_sound (elections_of w) x a (h.nodes n) g c in
    let front : Begins (x.log ++ t.some) (grown x a) = Begins-after x.log t.begins in
    let high : AllBelow (elections_of w) (grown x a) = all_below (elections_of w) (record x { log = grown x a }) sound in
    becoming WorldIsSound w n f _ _ t.effect_is
    (changed w n _ h (record {
      log = IsLog-begins front sound.log;
      epochs = below_front (elections_of w) (x.log ++ t.some) (grown x a) front high;
      within = omega arith;
    }))
  where
    below_front : (bound : ℕ) (front log : List Batch) → Begins front log → AllBelow bound log → AllBelow bound front
    below_front bound front log p h = all_front (λ b. b.epoch < bound) front p.rest (subst (AllBelow bound) (sym p.is) h)

cut_keeps : (w : World) (n : ℕ) (a : Answer) (effect : Effect) → WorldIsSound w → Cuts (w.nodes n) a effect → WorldIsSound (moved w n effect)
cut_keeps w n a effect h c =
    let x = w.nodes n in
    let sound = h.nodes n in
    let bound : ℕ = mode_bound (elections_of w) x.mode in
    becoming WorldIsSound w n effect _ _ c.effect_is
    (changed w n _ h (record {
      log = IsLog-begins c.begins sound.log;
      epochs = all_front (λ b. b.epoch < bound) c.left c.begins.rest (subst (AllBelow bound) (sym c.begins.is) sound.epochs);
      within = sound.within;
    }))

-- what a leader knows of the in-sync set changes
pub leads_keeps : (w : World) (n : ℕ) (l m : Leading) → (w.nodes n).mode ≡ Leads l → m.epoch ≡ l.epoch → WorldIsSound w → WorldIsSound (with_node w n (record (w.nodes n) { mode = Leads m }))
leads_keeps w n l m e same h =
    let sound = h.nodes n in
    let bound : mode_bound (elections_of w) (w.nodes n).mode ≡ m.epoch + 1 = ap (mode_bound (elections_of w)) e ∙ ap (λ (k : ℕ). k + 1) (sym same) in
    changed w n (record (w.nodes n) { mode = Leads m }) h (record { log = sound.log; epochs = rw bound at sound.epochs; within = omega (arith, bound, sound.within) })

propose_keeps : (w : World) (n : ℕ) (isr : List ℕ) (l : Leading) (f : Effect) → (w.nodes n).mode ≡ Leads l → WorldIsSound w → Proposes-set n (w.nodes n) isr l f → WorldIsSound (moved w n f)
propose_keeps w n isr l f e h a = sending WorldIsSound w n f _ _ _ a (sent _ _ (leads_keeps w n l (record l { pending = Some isr }) e refl h) tt)

learn_keeps : (w : World) (n : ℕ) (d : Decision) (l : Leading) (f : Effect) → (w.nodes n).mode ≡ Leads l → WorldIsSound w → Learns (w.nodes n) d l f → WorldIsSound (moved w n f)
learn_keeps w n d l f e h a =
    becoming WorldIsSound w n f _ _ a (leads_keeps w n l (record l { isr = d.decided.isr; version = d.decided.version; pending = None }) e refl h)

pub record_keeps : (w : World) (r : LeaderAndIsr) → r.leader ≡ w.controller.leader → WorldIsSound w → WorldIsSound (with_record w r)
record_keeps w r same h =
    record { nodes = λ n. subst (λ (elections : ℕ). NodeIsSound elections (w.nodes n)) (sym (ap next_epoch same)) (h.nodes n); messages = h.messages }

-- the controller's decision
decide_keeps : (w : World) (r : LeaderAndIsr) (m : Message) → r.leader ≡ w.controller.leader → MessageIsSound m → WorldIsSound w → WorldIsSound (with_message (with_record w r) m)
decide_keeps w r m same p h =
    sent (with_record w r) m (record_keeps w r same h) p

-- ---- each step

class_keeps : (w : World) (n : ℕ) (act : Act) (f : Effect) → WorldIsSound w → ClassIn w n act f → WorldIsSound (moved w n f)
class_keeps w n act f h (Rests reply fair a) = staying WorldIsSound w n f _ a h
class_keeps w n act f h (TakesUp l is news a) = adopt_keeps w n l f is h a
class_keeps w n act f h (GrowsByOwn l body mode lawful hands free a) =
    becoming WorldIsSound w n f _ _ a (changed w n _ h (stamp_keeps (elections_of w) (w.nodes n) l body mode (h.nodes n) lawful))
class_keeps w n act f h (GrowsByAnswer b given free moved a) = take_keeps w n b f free h (each_sent MessageIsSound w.messages (Answers b) h.messages given) a
class_keeps w n act f h (GrowsInPart b given free a) = take_some_keeps w n b f free h (each_sent MessageIsSound w.messages (Answers b) h.messages given) a
class_keeps w n act f h (IsCut b given free a) = cut_keeps w n b f h a
class_keeps w n act f h (SendsRequest l reply fair mode a) =
    sending WorldIsSound w n f _ _ _ a (sent _ (Asks (asked n (w.nodes n) l)) (changed w n (w.nodes n) h (h.nodes n)) (h.nodes n).log)
class_keeps w n act f h (SendsAnswer r l mode given free a) = serve_keeps w n r l f mode free (each_sent MessageIsSound w.messages (Asks r) h.messages given) h a
class_keeps w n act f h (SendsProposal isr l mode may a) = propose_keeps w n isr l f mode h a
class_keeps w n act f h (KnowsMore d l mode given free a) = learn_keeps w n d l f mode h a
class_keeps w n act f h (RaisesMark l mode moved a) =
    let sound = h.nodes n in
    becoming WorldIsSound w n f _ _ a (changed w n _ h (record { log = sound.log; epochs = sound.epochs; within = sound.within }))
class_keeps w n act f h (NotesMark reply fair a) =
    let sound = h.nodes n in
    becoming WorldIsSound w n f _ _ a (changed w n _ h (record { log = sound.log; epochs = sound.epochs; within = sound.within }))
class_keeps w n act f h (GoesDown reply fair a) =
    let sound = h.nodes n in
    becoming WorldIsSound w n f _ _ a (changed w n _ h (record { log = sound.log; epochs = all_below (elections_of w) (w.nodes n) sound; within = omega arith }))
class_keeps w n act f h (BeginsLife reply fair moved a) =
    let sound = h.nodes n in
    becoming WorldIsSound w n f _ _ a (changed w n _ h (record { log = sound.log; epochs = all_below (elections_of w) (w.nodes n) sound; within = omega arith }))

pub step_keeps : (w : World) (event : Event) (outcome : Outcome) (new : World) → WorldIsSound w → Step w event outcome new → WorldIsSound new
step_keeps w event outcome new h s =
    elim (step_cases w event outcome new s) [
      | inl same ↦ subst WorldIsSound (sym same) h
      | inr done ↦
          elim done [
            | inl e ↦
                elim e [
                  | inl chosen ↦ subst WorldIsSound (sym chosen.new_is) (elect_keeps w chosen.node h)
                  | inr d ↦ subst WorldIsSound (sym d.new_is) (decide_keeps w (decided_on w.controller d.asked) _ (decided_leader w.controller d.asked) tt h)
                ]
            | inr a ↦
                subst WorldIsSound (sym a.new_is)
                (class_keeps w a.node a.act a.effect h (acting_class w new a))
          ]
    ]
