use Rattle.std.proofs.Common.{◌≡◌, ℕ, List, [], Result, length, sym, ap, ◌∙◌, subst}
use Rattle.std.specs.List.{AllByRecursion}
use Rattle.kp_types.specs.declared.refusal.Refusal.{Refusal}
use Rattle.kp_model.specs.Event.{Event}
use Rattle.kp_world.specs.Events.{AreEvents, IsAmong}
use Rattle.kp_world.specs.Plays.{AnswersFirst, IsAnswered, IsReached}
use Rattle.kp_world.specs.declared.event.EventAnswer.{EventAnswer}
use Rattle.kp_world.specs.declared.event.Event.{Event as CodeEvent}
use Rattle.kp_world.proofs.Playing.{AreEvents-none, all_played, answered, nothing_answered, reached_none}
use Rattle.kp_world.proofs.world.run.Goals as goal
use Rattle.kp_world.proofs.world.run.Goals.{In-Ok}

-- nothing was answered, and all events are left
none_answered : (count max : ℕ) (events left : List CodeEvent) (outcomes : List (Result EventAnswer Refusal)) → left ≡ events → outcomes ≡ [] → IsAnswered count [] []
    → AnswersFirst count max events left outcomes
none_answered count max events left outcomes same none nothing = record {
  first = [];
  events_are = sym same;
  answered = ap length none;
  run = λ es are.
      subst (λ (xs : List Event). IsAnswered count xs outcomes) (sym (AreEvents-none max es are))
      (subst (λ (os : List (Result EventAnswer Refusal)). IsAnswered count [] os) (sym none) nothing);
}

pub returns-in_default-clause-stopped : goal.returns-in_default-clause-stopped
returns-in_default-clause-stopped c =
    none_answered c.args.count c.args.limits.now.max_batch c.args.events.items c.from_vec-rest.result.items c.new-outcomes.result.items c.from_vec-rest.ensures.items c.new-outcomes.ensures.items
    (nothing_answered c.args.count (c.runs_are_safe.ensures c.args.count))

pub play-played-requires : goal.play-played-requires
play-played-requires c =
    subst (λ (n : ℕ). AllByRecursion (IsAmong n c.in-Ok.world.first) c.from_vec-rest.result.items) (sym c.in-Ok.ensures.count)
    (subst (λ (n : ℕ). AllByRecursion (IsAmong c.args.count n) c.from_vec-rest.result.items) (sym c.in-Ok.ensures.first)
    (subst (AllByRecursion (IsAmong c.args.count 0)) (sym c.from_vec-rest.ensures.items) c.requires.nodes))

-- the start
started : (c : In-Ok) → IsReached c.args.count c.args.limits.now [] [] c.in-Ok.world
started c = reached_none c.args.count c.args.limits.now c.in-Ok.world c.in-Ok.ensures.shown

pub returns-in-Ok-played-clause-played : goal.returns-in-Ok-played-clause-played
returns-in-Ok-played-clause-played c = λ es are.
    let all = all_played c.in-Ok.world c.play-played.new.self c.from_vec-rest.result.items c.play-played.new.events.items c.play-played.new.outcomes.items c.play-played.ensures.played c.in-Ok-played.ensures.all in
    let same : AreEvents c.args.limits.now.max_batch c.from_vec-rest.result.items es =
    subst (λ (xs : List CodeEvent). AreEvents c.args.limits.now.max_batch xs es) (sym c.from_vec-rest.ensures.items) are in
    answered c.args.count c.args.limits.now es c.play-played.new.outcomes.items c.play-played.new.self (c.runs_are_safe.ensures c.args.count) c.no_delivery_is_refused_oddly.ensures
    (all.lead c.args.limits.now es same c.args.count [] [] (started ((goal.at.returns-in-Ok-played-clause-played c).In-Ok)))

pub returns-in-Ok-played-clause-answered : goal.returns-in-Ok-played-clause-answered
returns-in-Ok-played-clause-answered c =
    let all = all_played c.in-Ok.world c.play-played.new.self c.from_vec-rest.result.items c.play-played.new.events.items c.play-played.new.outcomes.items c.play-played.ensures.played c.in-Ok-played.ensures.all in
    all.answered ∙ ap length c.from_vec-rest.ensures.items

pub returns-in-Err-clause-stopped : goal.returns-in-Err-clause-stopped
returns-in-Err-clause-stopped c =
    let p = c.play-played.ensures.played in
    record {
      first = p.first;
      events_are = sym c.from_vec-rest.ensures.items ∙ p.events_are;
      answered = p.answered;
      run = λ es are.
          answered c.args.count c.args.limits.now es c.play-played.new.outcomes.items c.play-played.new.self (c.runs_are_safe.ensures c.args.count) c.no_delivery_is_refused_oddly.ensures
          (p.lead c.args.limits.now es are c.args.count [] [] (started ((goal.at.returns-in-Err-clause-stopped c).In-Ok)));
    }
