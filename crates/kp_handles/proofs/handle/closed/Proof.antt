-- `closed` makes a handle of null.
use Rattle.std.proofs.Common.{◌≡◌, [], ◌∷◌, refl, lit<, w64}
use mir.Val.{Val, vint, vnull}
use base.Logic.{SProp, emp}
use base.Fml.{ftrue}
use types.Kit.{‵, raw, ◌⊛◌, ◌$◌, ◌∵◌, !, qed, by, keep, split, use0}
use types.Run.{lit, no_more, and_then, returns, enter}
use types.ByLocal.{alloc_all, pass_all, free_all, look_at, sets}
use types.Part.{agg}
use contract.Monad.{fact, fact_i}
use contract.Running.{tables}
use denote.RawPtr.{null_ptr}
use denote.Steps.{nothing}
use denote.Triple.Walked.{walk_of}
use Rattle.std.specs.Prelude.{Option, None}
use Rattle.std.proofs.raw_atomic.Walks.{proved_at, leaves}
use Rattle.kp_board.specs.Opening.{BoardId}
use Rattle.kp_model.specs.Left.{beginning}
use Rattle.kp_handles.specs.Objects.{ObjectView}
use Rattle.kp_handles.proofs.Values.{both}
use Rattle.kp_handles.proofs.Handles.{handle_in}
use Rattle.kp_handles.specs.contracts.handle.closed.{ended, clauses}
use Rattle.kp_handles.specs.contracts.handle.closed.Key.{name as #self}
use Rattle.kp_handles.proofs.handle.closed.Statement.{statement}
use Rattle.kp_handles.proofs.handle.closed.Code as code

pub closed_spec : {M : Type 1} → statement M
closed_spec 𝓤 𝓛 𝓜 𝓡 wired =
    let H = 𝓛.H in let 𝓣 = tables 𝓤 H 𝓜 𝓡 𝓡.env in let c = clauses 𝓛 𝓜.mem 𝓡.returns in let fn = code.function in
    proved_at 𝓛 ended tt c 𝓜 𝓡 tt #self fn (code.unfolded 𝓤 H 𝓜 𝓡 wired) (λ z are.
    let Post : Val → SProp 𝓤 = (walk_of 𝓛 ended tt c).post z in
    let z0 : BoardId = record { words = 0; id = record { words = 0; slots = 0; views_name = 0; atom = 0; block = 0; offset = 0; slot_names = [] }; opening = beginning 0 } in
    let none : Option ObjectView = None in
    qed 𝓛 ((‵ ftrue ⊛ ‵ ftrue) ∷ ‵ ftrue ∷ []) ∵ split ! $
    enter ! 𝓣.C 𝓣.Λ fn [] Post $ alloc_all ! (λ l. pass_all ! refl tt $
    sets ! (agg ! (and_then ! (lit ! tt) (and_then ! (lit ! tt) (no_more !)))) refl (tt, (record { fits = lit< tt }, (record { fits = lit< tt }, tt))) $
    nothing ! $ handle_in ! null_ptr 0 z0 None refl (lit< tt) $
    use0 𝓛 (raw (fact 𝓤 (none ≡ None))) (fact_i 𝓤 (none ≡ None) (emp 𝓤) refl) $
    returns ! (look_at ! 0 refl) $ free_all ! refl $ keep ! (2 ∷ 3 ∷ 1 ∷ 0 ∷ []) $
    by ! (leaves 𝓛 ended tt c z (both vnull (vint w64 0)) (record { at = null_ptr; state = 0; table = z0; object = None; tied = refl }) tt tt)))
