-- The code's events as the definitions' events.
use Rattle.std.specs.Prelude.{◌≡◌, ℕ, ◌<◌, ◌≤◌, List, [], ◌∷◌}
use Rattle.kp_model.specs.Event as model
use Rattle.kp_replica.specs.Acts.{HandsBytes, IsAct}
use Rattle.kp_world.specs.declared.event.Event.{Event}
use Rattle.kp_world.specs.declared.event.Event.TheVariants.{Elect, Acts, Deliver}

-- The event is this one of the definitions.
abbrev pub IsEvent : ℕ → Event → model.Event → Type 0
IsEvent max (Elect node) e = e ≡ model.Elect node
IsEvent max (Acts node act) e = (a : model.Act) × IsAct max act a × (e ≡ model.Acts node a)
IsEvent max (Deliver number) e = e ≡ model.Deliver number

abbrev pub AreEvents : ℕ → List Event → List model.Event → Type 0
AreEvents max [] [] = Unit {0}
AreEvents max [] (e ∷ es) = ⊥
AreEvents max (event ∷ events) [] = ⊥
AreEvents max (event ∷ events) (e ∷ es) = IsEvent max event e × AreEvents max events es

-- the node that acts or is elected is one of so many; a message that comes has this number or a later one, and goes where it goes
abbrev pub IsAmong : (count first : ℕ) → Event → Type 0
IsAmong count first (Elect node) = node < count
IsAmong count first (Acts node act) = node < count
IsAmong count first (Deliver number) = first ≤ number

-- what is handed in are bytes
abbrev pub HasBytes : Event → Type 0
HasBytes (Elect node) = Unit {0}
HasBytes (Acts node act) = HandsBytes act
HasBytes (Deliver number) = Unit {0}
