use Rattle.std.proofs.Common.{◌≡◌, ℕ, List, [], ◌∷◌, ◌++◌, Result, length, length-append, append_assoc, refl, sym, ap, ◌∙◌, subst, arith}
use Rattle.std.specs.List.{AllByRecursion}
use Rattle.kp_types.specs.declared.limits.Limits.{Limits}
use Rattle.kp_types.specs.declared.refusal.Refusal.{Refusal}
use Rattle.kp_types.proofs.Elements.{all_behind}
use Rattle.kp_model.specs.Event.{Event}
use Rattle.kp_world.specs.Events.{AreEvents, IsAmong, IsEvent}
use Rattle.kp_world.specs.Plays.{LeadOn, PlaysFirst}
use Rattle.kp_world.specs.Shown.{Stage}
use Rattle.kp_world.specs.declared.event.EventAnswer.{EventAnswer}
use Rattle.kp_world.specs.declared.event.Event.{Event as CodeEvent}
use Rattle.kp_world.proofs.Playing.{AreEvents-none, AreEvents-push, lead_more, lead_none}
use Rattle.kp_world.proofs.world.World.play.Goals as goal

-- nothing has happened yet
none_played : (stage : Stage) (events : List CodeEvent) (outcomes : List (Result EventAnswer Refusal)) → outcomes ≡ [] → PlaysFirst stage stage events events outcomes
none_played stage events outcomes none = record {
  first = [];
  events_are = refl;
  answered = ap length none;
  lead = λ limits es are. lead_none limits stage es outcomes (AreEvents-none limits.max_batch es are) none;
}

-- one event more has happened
one_played : (old mid new : Stage) (events left behind : List CodeEvent) (event : CodeEvent) (outcomes after : List (Result EventAnswer Refusal)) (outcome : Result EventAnswer Refusal)
    → PlaysFirst old mid events left outcomes → left ≡ event ∷ behind → after ≡ outcomes ++ outcome ∷ []
    → ((limits : Limits) (es : List Event) → AreEvents limits.max_batch (event ∷ []) es → LeadOn limits mid es (outcome ∷ []) new) → PlaysFirst old new events behind after
one_played old mid new events left behind event outcomes after outcome p left_is after_is step = record {
  first = p.first ++ event ∷ [];
  events_are = p.events_are ∙ ap (λ (xs : List CodeEvent). p.first ++ xs) left_is ∙ sym (append_assoc p.first (event ∷ []) behind);
  answered = omega (arith, p.answered, length-append p.first (event ∷ []), ap length after_is, length-append outcomes (outcome ∷ []));
  lead = λ limits es are.
      let m = AreEvents-push limits.max_batch p.first event es are in
      subst (λ (os : List (Result EventAnswer Refusal)). LeadOn limits old es os new) (sym after_is)
      (subst (λ (xs : List Event). LeadOn limits old xs (outcomes ++ outcome ∷ []) new) (sym m.is)
      (lead_more limits old mid new m.front (m.e ∷ []) outcomes (outcome ∷ []) (p.lead limits m.front m.fronts)
      (step limits (m.e ∷ []) (m.one, tt))));
}

-- what one event leads to, where it is the only one
one_step : (old new : Stage) (event : CodeEvent) (outcome : Result EventAnswer Refusal)
    → ((limits : Limits) (e : Event) → IsEvent limits.max_batch event e → LeadOn limits old (e ∷ []) (outcome ∷ []) new)
    → (limits : Limits) (es : List Event) → AreEvents limits.max_batch (event ∷ []) es → LeadOn limits old es (outcome ∷ []) new
one_step old new event outcome step limits [] are = absurd are
one_step old new event outcome step limits (e ∷ []) are = step limits e are.0
one_step old new event outcome step limits (e ∷ d ∷ es) are = absurd are.1

pub returns-in_err-reserve-clause-played : goal.returns-in_err-reserve-clause-played
returns-in_err-reserve-clause-played c =
    none_played c.args.self.now c.args.events.now.items c.reserve.new.self.items (c.reserve.ensures.items ∙ c.clear.ensures.items)

pub loop-event-init : goal.loop-event-init
loop-event-init c = record {
  count = refl;
  first = refl;
  room = omega (arith, c.in_ok-reserve.ensures.ok);
  played = none_played c.args.self.now c.args.events.now.items c.reserve.new.self.items (c.reserve.ensures.items ∙ c.clear.ensures.items);
}

-- what is true of all events is true of the one that comes next
of_next : (P : CodeEvent → Type 0) (events before rest behind : List CodeEvent) (event : CodeEvent) → events ≡ before ++ rest → rest ≡ event ∷ behind
    → AllByRecursion P events → P event
of_next P events before rest behind event split next all =
    (all_behind P before (event ∷ behind) (subst (AllByRecursion P) (split ∙ ap (λ (xs : List CodeEvent). before ++ xs) next) all)).0

pub step-requires : goal.step-requires
step-requires c =
    let p = c.loop-event.invariant.played in
    subst (λ (n : ℕ). IsAmong n c.loop-event.self.first c.in-Some.event) (sym c.loop-event.invariant.count)
    (subst (λ (n : ℕ). IsAmong (length c.args.self.now.nodes) n c.in-Some.event) (sym c.loop-event.invariant.first)
    (of_next (IsAmong (length c.args.self.now.nodes) c.args.self.now.first) c.args.events.now.items p.first c.loop-event.events.items c.pop_front.new.self.items c.in-Some.event p.events_are c.in-Some.ensures.items c.requires))

pub loop-event-preserved : goal.loop-event-preserved
loop-event-preserved c = record {
  count = c.step.ensures.count ∙ c.loop-event.invariant.count;
  first = c.step.ensures.first ∙ c.loop-event.invariant.first;
  room = omega (arith, c.push_within.ensures.room, c.loop-event.invariant.room);
  played = one_played c.args.self.now c.loop-event.self c.step.new.self c.args.events.now.items c.loop-event.events.items c.pop_front.new.self.items c.in-Some.event
      c.loop-event.outcomes.items c.push_within.new.outcomes.items c.in-Ok.outcome c.loop-event.invariant.played c.in-Some.ensures.items c.push_within.ensures.pushed
      (λ limits es are. one_step c.loop-event.self c.step.new.self c.in-Some.event c.in-Ok.outcome c.in-Ok.ensures.step limits es are);
}
