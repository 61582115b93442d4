-- The events of the definitions that the code's events are.
use Rattle.std.proofs.Common.{◌≡◌, ℕ, [], ◌∷◌, refl, sym, ap, ◌∙◌}
use Rattle.kp_model.specs.Event as model
use Rattle.kp_replica.specs.Laws.{ActsAreTold, ActsAreToldOnce}
use Rattle.kp_world.specs.declared.event.Event.{Event}
use Rattle.kp_world.specs.declared.event.Event.TheVariants.{Elect, Acts, Deliver}
use Rattle.kp_world.specs.Events.{HasBytes, IsEvent}
use Rattle.kp_world.specs.Laws.{EventsAreTold, EventsAreToldOnce}

event_told : ActsAreTold → (max : ℕ) (event : Event) → HasBytes event → (e : model.Event) × IsEvent max event e
event_told some max (Elect node) h = (model.Elect node, refl)
event_told some max (Acts node act) h =
    let told = some max act h in
    (model.Acts node told.0, (told.0, told.1, refl))
event_told some max (Deliver number) h = (model.Deliver number, refl)

pub events_told : ActsAreTold → EventsAreTold
events_told some max [] h = ([], tt)
events_told some max (event ∷ events) h =
    let first = event_told some max event h.0 in
    let others = events_told some max events h.1 in
    (first.0 ∷ others.0, (first.1, others.1))

event_told_once : ActsAreToldOnce → (max : ℕ) (event : Event) (e d : model.Event) → HasBytes event → IsEvent max event e → IsEvent max event d → e ≡ d
event_told_once one max (Elect node) e d h a b = a ∙ sym b
event_told_once one max (Acts node act) e d h (a, told, is) (b, other, was) =
    is ∙ ap (λ (x : model.Act). model.Acts node x) (one max act a b h told other) ∙ sym was
event_told_once one max (Deliver number) e d h a b = a ∙ sym b

pub events_told_once : ActsAreToldOnce → EventsAreToldOnce
events_told_once one max [] [] [] h a b = refl
events_told_once one max [] [] (d ∷ ds) h a b = absurd b
events_told_once one max [] (e ∷ es) ds h a b = absurd a
events_told_once one max (event ∷ events) [] ds h a b = absurd a
events_told_once one max (event ∷ events) (e ∷ es) [] h a b = absurd b
events_told_once one max (event ∷ events) (e ∷ es) (d ∷ ds) h a b =
    let first : e ≡ d = event_told_once one max event e d h.0 a.0 b.0 in
    let others : es ≡ ds = events_told_once one max events es ds h.1 a.1 b.1 in
    cc
