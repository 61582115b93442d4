-- Laws of what a node is asked to do.
use Rattle.std.specs.Prelude.{◌≡◌, ℕ}
use Rattle.kp_model.specs.Event.{Act as ModelAct}
use Rattle.kp_replica.specs.Acts.{HandsBytes, IsAct, IsAsked}
use Rattle.kp_replica.specs.declared.act.Act.{Act}

-- What a node is asked to do is an act of the definitions.
abbrev pub ActsAreTold : Type 0
ActsAreTold = (max : ℕ) (act : Act) → HandsBytes act → (a : ModelAct) × IsAct max act a

-- And of no other one.
abbrev pub ActsAreToldOnce : Type 0
ActsAreToldOnce = (max : ℕ) (act : Act) (a b : ModelAct) → HandsBytes act → IsAct max act a → IsAct max act b → a ≡ b

-- And it is none by which a message comes.
abbrev pub ActsAreAsked : Type 0
ActsAreAsked = (max : ℕ) (act : Act) (a : ModelAct) → IsAct max act a → IsAsked a
