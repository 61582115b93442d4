-- What a node or the controller does leads on from each run that was reached.
use Rattle.std.proofs.Common.{◌≡◌, ◌≢◌, ℕ, ◌<◌, ◌≤◌, drop, length-append, Bool, true, false, cond, eqb, List, [], ◌∷◌, ◌++◌, length, map, set, get_or, None, Some, Option, Result, Ok, Err, refl, sym, ap, ◌∙◌, subst, arith, inl, inr, length-set}
use Rattle.std.proofs.lemmas.List.{drop-append-le, get_or-map, get_or-set_same, get_or-set_other, length-drop, length-map, map-append, map-set}
use Rattle.std.proofs.lemmas.Bool.{eq-eqb, ne_eqb, cases_eq}
use Rattle.kp_types.specs.declared.limits.Limits.{Limits}
use Rattle.kp_types.specs.declared.refusal.Refusal.{Refusal}
use Rattle.kp_types.specs.declared.refusal.Refusal.TheVariants as refusals
use Rattle.kp_model.proofs.OneStep.Classes.{said_never}
use Rattle.kp_replica.specs.declared.act.Answer.{Answer}
use Rattle.kp_replica.specs.declared.act.Answer.TheVariants as replies
use Rattle.kp_replica.specs.declared.adopting.Role.TheVariants as roles
use Rattle.kp_model.specs.Log.{Batch}
use Rattle.kp_model.specs.World.{LeaderAndIsr, Message, Node, World, with_record}
use Rattle.kp_model.specs.Event as model
use Rattle.kp_model.specs.Event.{Act, Elect, Acts, Changed, Outcome, Refused, Reply}
use Rattle.kp_model.specs.Laws.{EpochsAreElected}
use Rattle.kp_model.specs.Controller.{elected}
use Rattle.kp_model.specs.Effect.{Effect as ModelEffect}
use Rattle.kp_model.specs.Local.{Local}
use Rattle.kp_model.specs.Run.{last}
use Rattle.kp_model.specs.Letter.{Letter, letter_of}
use Rattle.kp_model.specs.Step.{ElectsBy, NodeStep, answered, moved, number_after, told, IsGiven, elect_cause}
use Rattle.kp_model.specs.Set.{record_of}
use Rattle.kp_model.specs.declared.record.LeaderAndIsr.{LeaderAndIsr as CodeRecord}
use Rattle.kp_replica.specs.Acts.{Comes, IsAsked, IsOfRun, NamesIn, TakesNoMemory, answer_reply, letters_in, reply_of, Acts as ActsSo}
use Rattle.kp_replica.specs.Broker.{node_at}
use Rattle.kp_replica.specs.declared.broker.Broker.{Broker}
use Rattle.kp_replica.specs.Adopting.{IsWithin}
use Rattle.kp_replica.specs.NumberedNode.{NumberedNode}
use Rattle.kp_replica.specs.declared.act.Effect.{Effect}
use Rattle.kp_replica.specs.declared.act.Effect.TheVariants.{Answers, Sends}
use Rattle.kp_world.specs.Answers.{IsTold, outcome_of}
use Rattle.kp_world.specs.declared.event.EventAnswer.{EventAnswer}
use Rattle.kp_world.specs.declared.event.EventAnswer.TheVariants as answers
use Rattle.kp_world.specs.Plays.{LeadOn}
use Rattle.kp_world.specs.Shown.{IsNode, IsShown, KeepsReceipt, Stage, next, next_number}
use Rattle.kp_world.proofs.Playing.{reached_more}
use Rattle.kp_replica.proofs.Within.{within}

-- ---- what is told

-- a message that is sent is numbered by those before
abbrev pub number_for : ℕ → List Letter → Option ℕ
number_for count [] = None
number_for count (l ∷ ls) = Some count

numbered : (messages sent : List Message) (letters : List Letter) → map letter_of sent ≡ letters → number_after messages sent ≡ number_for (length messages) letters
numbered messages [] [] is = refl
numbered messages [] (l ∷ ls) is = absurd cc
numbered messages (m ∷ ms) [] is = absurd cc
numbered messages (m ∷ ms) (l ∷ ls) is = refl

-- what is shown has so many messages
pub shown_count : (limits : Limits) (stage : Stage) (w : World) → IsShown limits stage w → next_number stage ≡ length w.messages
shown_count limits stage w shown =
    omega (arith, shown.earlier, ap length shown.letters_are, length-drop stage.first (map letter_of w.messages), length-map w.messages letter_of)

-- and messages that are sent then stand behind them
pub shown_more : (limits : Limits) (stage : Stage) (w : World) (sent : List Message) → IsShown limits stage w
    → (stage.first ≤ length (w.messages ++ sent)) × (drop stage.first (map letter_of (w.messages ++ sent)) ≡ stage.letters ++ map letter_of sent)
shown_more limits stage w sent shown = (
  omega (arith, shown.earlier, length-append w.messages sent),
  ap (drop stage.first) (map-append letter_of w.messages sent)
      ∙ drop-append-le stage.first (map letter_of w.messages) (map letter_of sent) (omega (arith, shown.earlier, length-map w.messages letter_of))
      ∙ ap (λ (ls : List Letter). ls ++ map letter_of sent) shown.letters_are,
)

-- what is told is the reply, and the number of the message that was sent
told_so : (count : ℕ) (outcome : Result Effect Refusal) (telling : Result EventAnswer Refusal) → IsTold count outcome telling
    → outcome_of telling ≡ record { reply = reply_of outcome; number = number_for count (letters_in outcome) }
told_so count (Ok (Answers answer)) telling is = ap outcome_of is
told_so count (Ok (Sends body)) telling (said, is, says) =
    ap outcome_of is ∙ ap (λ (r : Reply). let o : Outcome = record { reply = r; number = Some count } in o) says
told_so count (Err refusal) telling is = ap outcome_of is

told_as : (messages : List Message) (count : ℕ) (effect : ModelEffect) (outcome : Result Effect Refusal) (telling : Result EventAnswer Refusal) → count ≡ length messages
    → map letter_of effect.sent ≡ letters_in outcome → effect.reply ≡ reply_of outcome → IsTold count outcome telling → outcome_of telling ≡ answered messages effect
told_as messages count effect outcome telling many sent replied is =
    told_so count outcome telling is
    ∙ ap (λ (r : Reply). let o : Outcome = record { reply = r; number = number_for count (letters_in outcome) } in o) (sym replied)
    ∙ ap (λ (n : ℕ). let o : Outcome = record { reply = effect.reply; number = number_for n (letters_in outcome) } in o) many
    ∙ ap (λ (n : Option ℕ). let o : Outcome = record { reply = effect.reply; number = n } in o) (sym (numbered messages effect.sent (letters_in outcome) sent))

-- a receipt that is told is the one that was answered
pub told_receipt : (log : List Batch) (count : ℕ) (outcome : Result Effect Refusal) (telling : Result EventAnswer Refusal) → IsTold count outcome telling → NamesIn log outcome
    → KeepsReceipt log telling
told_receipt log count (Ok (Answers answer)) telling is named = subst (KeepsReceipt log) (sym is) named
told_receipt log count (Ok (Sends body)) telling is named = subst (KeepsReceipt log) (sym is.1) tt
told_receipt log count (Err refusal) telling is named = subst (KeepsReceipt log) (sym is) tt

-- ---- what is refused for want of memory

-- no answer is a refusal
answers_never : (answer : Answer) (refusal : Refusal) → answer_reply answer ≡ Refused refusal → ⊥
answers_never (replies.Adopted (roles.Leads epoch start)) refusal e = cc
answers_never (replies.Adopted (roles.Follows leader epoch)) refusal e = cc
answers_never (replies.Appended receipt) refusal e = by receipt.duplicate e
  where
    by : (b : Bool) → cond b (model.DuplicateOf receipt.base) (model.At receipt.base) ≡ Refused refusal → ⊥
    by true e = cc
    by false e = cc
answers_never _ refusal e = cc

pub same_refusal : (r s : Refusal) → Refused r ≡ Refused s → r ≡ s
same_refusal r s e = cc

-- what is told to be refused was refused
refused_so : (count : ℕ) (outcome : Result Effect Refusal) (telling : Result EventAnswer Refusal) (refusal : Refusal) → IsTold count outcome telling
    → (outcome_of telling).reply ≡ Refused refusal → outcome ≡ Err refusal
refused_so count (Ok (Answers answer)) telling refusal is e =
    absurd (answers_never answer refusal (sym (ap (λ (r : Result EventAnswer Refusal). (outcome_of r).reply) is) ∙ e))
refused_so count (Ok (Sends body)) telling refusal (said, is, says) e =
    absurd (said_never said refusal (sym (ap (λ (r : Result EventAnswer Refusal). (outcome_of r).reply) is) ∙ e))
refused_so count (Err r) telling refusal is e =
    ap Err (same_refusal r refusal (sym (ap (λ (r : Result EventAnswer Refusal). (outcome_of r).reply) is) ∙ e))

-- what doesn't lack memory isn't told to
pub never_lacks : (count : ℕ) (outcome : Result Effect Refusal) (telling : Result EventAnswer Refusal) → IsTold count outcome telling → outcome ≢ Err refusals.Memory
    → (outcome_of telling).reply ≢ Refused refusals.Memory
never_lacks count outcome telling is never lacks = never (refused_so count outcome telling refusals.Memory is lacks)

-- ---- a node's step

-- an act that is asked for is handed no message
pub given : (messages : List Message) (act : Act) → IsAsked act → IsGiven messages act
given messages (model.Receive m) asked = absurd asked
given messages _ asked = tt

-- and a run has of it that its node's log has no epoch above the record's
pub asked_of_run : (c : LeaderAndIsr) (x : NumberedNode) (act : Act) → IsAsked act → IsWithin c x.state.log → IsOfRun c x act
asked_of_run c x (model.Receive m) asked within = absurd asked
asked_of_run c x model.Adopt asked within = within
asked_of_run c x _ asked within = tt

-- node n as it is after the call, and the others as they were
after : (limits : Limits) (n : ℕ) (m : NumberedNode) (members : List NumberedNode) (x : Node) (nodes : ℕ → Node) → n < length members → m.number ≡ n → m.limits ≡ limits → x ≡ m.state
    → ((k : ℕ) (d : NumberedNode) → k < length members → IsNode limits k (get_or members k d) (nodes k))
    → (k : ℕ) (d : NumberedNode) → k < length (set members n m) → IsNode limits k (get_or (set members n m) k d) (cond (eqb k n) x (nodes k))
after limits n m members x nodes inside number limits_are state old k d h =
    let within : k < length members = omega (arith, length-set members n m) in
    elim (cases_eq k n) [
      | inl e ↦
          (let same : eqb k n ≡ true = eq-eqb k n e in
          let there : get_or (set members n m) k d ≡ m = ap (λ (i : ℕ). get_or (set members n m) i d) e ∙ get_or-set_same members n m d inside in
          rw same (subst (λ (y : NumberedNode). IsNode limits k y x) (sym there) (record { number_is = number ∙ sym e; limits_are = limits_are; state = state })))
      | inr ne ↦
          (let other : eqb k n ≡ false = ne_eqb k n ne in
          let there : get_or (set members n m) k d ≡ get_or members k d = get_or-set_other members n k m d ne in
          rw other (subst (λ (y : NumberedNode). IsNode limits k y (nodes k)) (sym there) (old k d within)))
    ]

-- node n itself
here : (n : ℕ) (x : Node) (nodes : ℕ → Node) → cond (eqb n n) x (nodes n) ≡ x
here n x nodes = rw (eq-eqb n n refl) refl

-- a step of node n, after which the stage is this one
pub record Stepped (limits : Limits) (new : Stage) (m : NumberedNode) (w : World) (n : ℕ) (act : Act) (telling : Result EventAnswer Refusal) : Type 0 where
  pub after : World
  pub step : NodeStep w n act (outcome_of telling) after
  pub node_is : after.nodes n ≡ m.state
  pub shown : IsShown limits new after

-- the node x at place n did this and became m
pub stepped : (limits : Limits) (n : ℕ) (stage : Stage) (x m : NumberedNode) (act : Act) (outcome : Result Effect Refusal) (telling : Result EventAnswer Refusal) (w : World)
    → n < length stage.nodes → x ≡ get_or stage.nodes n x → IsShown limits stage w → IsGiven w.messages act → IsTold (next_number stage) outcome telling
    → (x.number ≡ n → Comes stage.controller x m act outcome) → Stepped limits (next stage n m outcome) m w n act telling
stepped limits n stage x m act outcome telling w inside there shown given is did =
    let c = stage.controller in
    let old : IsNode limits n x (w.nodes n) = subst (λ (y : NumberedNode). IsNode limits n y (w.nodes n)) (sym there) (shown.nodes_are n x inside) in
    let moves = did old.number_is in
    let e = moves.effect in
    let local : Local w.controller n (w.nodes n) act e =
    subst (λ (k : LeaderAndIsr). Local k n (w.nodes n) act e) (sym shown.controller_is)
    (subst (λ (y : Node). Local c n y act e) (sym old.state) (subst (λ (k : ℕ). Local c k x.state act e) old.number_is moves.local)) in
    record {
      after = moved w n e;
      step = record {
        counted = omega (arith, shown.count, inside);
        given = given;
        effect = e;
        local = local;
        outcome_is = told_as w.messages (next_number stage) e outcome telling (shown_count limits stage w shown) moves.letters_are moves.reply_is is;
        new_is = refl;
      };
      node_is = here n e.node w.nodes ∙ moves.node_is;
      shown = record {
        controller_is = shown.controller_is;
        count = shown.count ∙ sym (length-set stage.nodes n m);
        nodes_are = after limits n m stage.nodes e.node w.nodes inside (moves.same.0 ∙ old.number_is) (moves.same.1 ∙ old.limits_are) moves.node_is shown.nodes_are;
        earlier = (shown_more limits stage w e.sent shown).0;
        letters_are = (shown_more limits stage w e.sent shown).1
            ∙ ap (λ (ls : List Letter). stage.letters ++ ls) moves.letters_are;
      };
    }

-- the node x at place i, which is its number, did this and became m
pub acted : EpochsAreElected → (limits : Limits) (n i : ℕ) (stage : Stage) (x m : NumberedNode) (act : Act) (outcome : Result Effect Refusal) (telling : Result EventAnswer Refusal) → i ≡ n
    → n < length stage.nodes → x ≡ get_or stage.nodes i x → IsAsked act → IsTold (next_number stage) outcome telling → NamesIn m.state.log outcome
    → (x.limits ≡ limits → TakesNoMemory x.state act → outcome ≢ Err refusals.Memory)
    → (x.limits ≡ limits → ActsSo stage.controller x m act outcome) → LeadOn limits stage (Acts n act ∷ []) (telling ∷ []) (next stage i m outcome)
acted elected_all limits n i stage x m act outcome telling same inside there asked is named spared did count before earlier p =
    let w = last p.run in
    let c = stage.controller in
    let there_n : x ≡ get_or stage.nodes n x = there ∙ ap (λ (k : ℕ). get_or stage.nodes k x) same in
    let old : IsNode limits n x (w.nodes n) = subst (λ (y : NumberedNode). IsNode limits n y (w.nodes n)) (sym there_n) (p.shown.nodes_are n x inside) in
    let epochs : IsWithin c x.state.log =
    subst (λ (k : LeaderAndIsr). IsWithin k x.state.log) p.shown.controller_is
    (subst (λ (y : Node). IsWithin w.controller y.log) old.state (within elected_all count p.run n)) in
    let s = stepped limits n stage x m act outcome telling w inside there_n p.shown (given w.messages act asked) is
    (λ number_is. did old.limits_are c (λ looks. refl) (asked_of_run c x act asked epochs)) in
    reached_more count limits before earlier stage _ (Acts n act) telling p s.after s.step
    (subst (λ (y : Node). KeepsReceipt y.log telling) (sym s.node_is) (told_receipt m.state.log (next_number stage) outcome telling is named))
    (λ takes. never_lacks (next_number stage) outcome telling is (spared old.limits_are (subst (λ (y : Node). TakesNoMemory y act) old.state takes)))
    (subst (λ (k : ℕ). IsShown limits (next stage k m outcome) s.after) (sym same) s.shown)

-- ---- the controller's step

-- the controller's record changed by an election
pub elected_on : (limits : Limits) (n : ℕ) (old new : CodeRecord) (members : List NumberedNode) (first : ℕ) (letters : List Letter) → elect_cause (record_of old) n ≡ None → record_of new ≡ elected (record_of old) n
    → LeadOn limits (record { controller = record_of old; nodes = members; first = first; letters = letters }) (Elect n ∷ []) (Ok (answers.Changed new) ∷ [])
    (record { controller = record_of new; nodes = members; first = first; letters = letters })
elected_on limits n old new members first letters free is count before earlier p =
    let w = last p.run in
    let shown = p.shown in
    let c = record_of old in
    let changed = record_of new in
    let r = elected w.controller n in
    let same : r ≡ changed = ap (λ (k : LeaderAndIsr). elected k n) shown.controller_is ∙ sym is in
    let unrefused : elect_cause w.controller n ≡ None = ap (λ (k : LeaderAndIsr). elect_cause k n) shown.controller_is ∙ free in
    reached_more count limits before earlier _ _ (Elect n) (Ok (answers.Changed new)) p (with_record w r)
    (subst (λ (o : Option Refusal). ElectsBy o w n (told (Changed changed)) (with_record w r)) (sym unrefused) (ap (λ (k : LeaderAndIsr). told (Changed k)) (sym same), refl)) tt (λ never. absurd never)
    (record { controller_is = same; count = shown.count; nodes_are = shown.nodes_are; earlier = shown.earlier; letters_are = shown.letters_are })

-- or the election was refused
pub not_elected : (limits : Limits) (n : ℕ) (stage : Stage) (refusal : Refusal) → elect_cause stage.controller n ≡ Some refusal
    → LeadOn limits stage (Elect n ∷ []) (Err refusal ∷ []) stage
not_elected limits n stage refusal is count before earlier p =
    let w = last p.run in
    let refused : elect_cause w.controller n ≡ Some refusal = ap (λ (k : LeaderAndIsr). elect_cause k n) p.shown.controller_is ∙ is in
    reached_more count limits before earlier stage stage (Elect n) (Err refusal) p w
    (subst (λ (o : Option Refusal). ElectsBy o w n (told (Refused refusal)) w) (sym refused) (refl, refl)) tt (λ never. absurd never) p.shown

-- ---- beside the code's nodes and letters

-- what is carried out of an outcome leaves the stage of that outcome
pub carried : (limits : Limits) (e : model.Event) (i : ℕ) (c : LeaderAndIsr) (brokers : List Broker) (q : Broker) (first : ℕ) (letters after : List Letter) (outcome : Result Effect Refusal)
    (telling : Result EventAnswer Refusal) → after ≡ letters ++ letters_in outcome
    → LeadOn limits (record { controller = c; nodes = map node_at brokers; first = first; letters = letters }) (e ∷ []) (telling ∷ [])
    (next (record { controller = c; nodes = map node_at brokers; first = first; letters = letters }) i (node_at q) outcome)
    → LeadOn limits (record { controller = c; nodes = map node_at brokers; first = first; letters = letters }) (e ∷ []) (telling ∷ [])
    (record { controller = c; nodes = map node_at (set brokers i q); first = first; letters = after })
carried limits e i c brokers q first letters after outcome telling sent leads =
    let old : Stage = record { controller = c; nodes = map node_at brokers; first = first; letters = letters } in
    let same : next old i (node_at q) outcome ≡ record { controller = c; nodes = map node_at (set brokers i q); first = first; letters = after } =
    λ k. record { controller = c; nodes = sym (map-set node_at brokers i q) k; first = first; letters = sym sent k } in
    subst (λ (stage : Stage). LeadOn limits old (e ∷ []) (telling ∷ []) stage) same leads

-- the broker at a place stands there among the nodes
pub placed : (brokers : List Broker) (i : ℕ) (p : Broker) → p ≡ get_or brokers i p → i < length brokers → node_at p ≡ get_or (map node_at brokers) i (node_at p)
placed brokers i p is within = ap node_at is ∙ sym (get_or-map node_at brokers i p (node_at p) within)
