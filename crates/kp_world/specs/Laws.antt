-- Laws of events.
use Rattle.std.specs.Prelude.{◌≡◌, ℕ, ◌<◌, List, ◌++◌, Ok}
use Rattle.std.specs.List.{AllByRecursion}
use Rattle.kp_batch.specs.Batch.{IsBody}
use Rattle.kp_model.specs.Event as model
use Rattle.kp_model.specs.Event.{Event as ModelEvent, Outcome}
use Rattle.kp_replica.specs.Acts.{IsAsked}
use Rattle.kp_world.specs.declared.event.Event.{Event}
use Rattle.kp_world.specs.Events.{AreEvents, HasBytes}
use Rattle.kp_world.specs.Plays.{IsPlayed}

-- All events are events of the definitions.
abbrev pub EventsAreTold : Type 0
EventsAreTold =
    (max : ℕ) (events : List Event) → AllByRecursion HasBytes events → (es : List ModelEvent) × AreEvents max events es

-- And of no other list of them.
abbrev pub EventsAreToldOnce : Type 0
EventsAreToldOnce =
    (max : ℕ) (events : List Event) (es others : List ModelEvent) → AllByRecursion HasBytes events →
    AreEvents max events es → AreEvents max events others → es ≡ others

-- what is handed in is lawful, where it is a batch
abbrev pub IsLawful : model.Act → Type 0
IsLawful (model.Produce (Ok body)) = IsBody body
IsLawful _ = Unit {0}

-- An election, a lawful act that one of so many nodes is asked for, or a delivery.
abbrev pub MayCome : (count : ℕ) → ModelEvent → Type 0
MayCome count (model.Elect node) = Unit {0}
MayCome count (model.Acts node act) = (node < count) × IsAsked act × IsLawful act
MayCome count (model.Deliver number) = Unit {0}

-- Each run that is played goes on with any such events: there are answers to them.
abbrev pub PlaysGoOn : Type 0
PlaysGoOn =
    (count : ℕ) (events more : List ModelEvent) (outcomes : List Outcome) → IsPlayed count events outcomes →
    AllByRecursion (MayCome count) more → (answers : List Outcome) × IsPlayed count (events ++ more) (outcomes ++ answers)
