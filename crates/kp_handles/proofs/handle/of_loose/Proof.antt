-- `of_loose` keeps the pointer, and forgets what names the board.
use Rattle.std.proofs.Common.{◌≡◌, List, [], ◌∷◌, ◌++◌, refl, sym, subst, lit<, w64}
use mir.Syntax.{a_type, dcons, dnil}
use mir.MapTy.{inst_fn}
use mir.Val.{Val, vint, vptr}
use base.Logic.{SProp, ent, emp, id⊢}
use base.Fml.{Fml, ftrue, flft}
use prog.Wp.{WpFn}
use types.Kit.{‵, raw, ◌⊛◌, ◌$◌, ◌∵◌, !, qed, by, move, keep, split, join, fsplit, fjoin, suffices, use0, rewrite}
use types.Run.{stop, fld, of_opd, lit, no_more, and_then, returns, enter}
use types.ByLocal.{alloc_all, pass_all, free_all, look_at, get, get_in, sets}
use types.Part.{agg, sub, whole}
use contract.Monad.{fact, fact_i}
use contract.Running.{tables}
use denote.Exit.{no}
use denote.RattleType.{RattleType, owns}
use denote.RawPtr.{block_ptr}
use denote.Signature.{types_at, plain}
use denote.Steps.{nothing}
use denote.Param.{param, bounded}
use denote.Triple.Walked.{Stays, stay_dropped, walk_of}
use Rattle.core.proofs.alloc.Calls.{Goes-blank}
use Rattle.std.specs.Prelude.{Option, Some}
use Rattle.std.proofs.raw_atomic.Walks.{proved_at, leaves}
use Rattle.std_heap.specs.contracts.Global as Global
use Rattle.std_heap.specs.contracts.GlobalAllocator.TheImpl as heap
use Rattle.std_heap.proofs.Global.TheLaws as laws
use Rattle.kp_handles.specs.Objects.{ObjectView}
use Rattle.kp_handles.specs.contracts.object.Object as Object
use Rattle.kp_handles.proofs.Values.{both, Loose, loose_good, loose_out}
use Rattle.kp_handles.proofs.Handles.{handle_in}
use Rattle.kp_handles.proofs.Naming.{unnamed}
use Rattle.kp_handles.specs.contracts.handle.of_loose.{ended, clauses}
use Rattle.kp_handles.specs.contracts.handle.of_loose.Key.{name as #self}
use Rattle.kp_handles.proofs.handle.of_loose.Statement.{statement}
use Rattle.kp_handles.proofs.handle.of_loose.Code as code

pub of_loose_spec : {M : Type 1} → statement M
of_loose_spec 𝓤 𝓛 𝓜 𝓡 wired B LB gB dB gU dU metB metU =
    let H = 𝓛.H in let 𝓣 = tables 𝓤 H 𝓜 𝓡 𝓡.env in let R : RattleType = Object.the_row (param 0 B) gB in let Z : RattleType = Global.the_row in let LZ = laws.the_row_laws in let g = heap.ghosts in
    let En = ended B gB dB gU dU in let c = clauses B gB dB gU dU 𝓛 𝓜.mem 𝓡.returns in let args = bounded (a_type ∷ []) (B, tt) (dcons dB (dcons dU dnil)) in let fn = inst_fn args code.function in
    let hs : Stays En.signature.params En.kept = (stay_dropped (plain (λ _. Loose R Z LZ g)) no, tt) in
    proved_at 𝓛 En hs c 𝓜 𝓡 (Goes-blank 𝓛 1 (plain (λ _. Loose R Z LZ g)) no (λ κs x f. tt), tt) (#self args) fn (code.unfolded 𝓤 H 𝓜 𝓡 wired (B, tt) dB dU) (λ z are.
    let κs = z.0.0 in let qs = z.0.1 in let v = z.0.3.0 in let Post : Val → SProp 𝓤 = (walk_of 𝓛 En hs c).post z in let Run : List Val → SProp 𝓤 = λ ws. WpFn 𝓤 H 𝓣.C 𝓣.Λ fn ws Post in
    let toks = ‵ (flft κs.0 qs.0) ⊛ ‵ ftrue in let asked = raw ((c κs z.0.3).requires z.1) in
    qed 𝓛 ((toks ⊛ ‵ (owns (types_at En.signature.params κs) z.0.3 z.0.4)) ∷ asked ∷ []) ∵ split ! $ move ! (1 ∷ []) $ fsplit ! $ loose_out R Z LZ g ! v z.0.4.0 (λ b o h e ws fits.
    let w : Val = both (vptr b o) h in let typed = loose_good R Z LZ g b o h fits in let p = block_ptr b o in let held : Option ObjectView = Some v.value in
    suffices ! (Run (w ∷ [])) (subst (λ (us : List Val). ent 𝓤 (Run (w ∷ [])) (Run us)) (sym (λ i. ws i ++ [])) (id⊢ 𝓤 (Run (w ∷ [])))) $
    enter ! 𝓣.C 𝓣.Λ fn (w ∷ []) Post $ alloc_all ! (λ l. pass_all ! refl (typed, tt) $
    sets ! (of_opd ! (get_in ! (fld ! refl (stop !)) (sub ! 0 refl (whole !)))) refl (tt, tt) $
    sets ! (of_opd ! (get ! refl)) refl (tt, tt) $
    sets ! (agg ! (and_then ! (get ! refl) (and_then ! (lit ! tt) (no_more !)))) refl (tt, (tt, (record { fits = lit< tt }, tt))) $
    rewrite ! 0 (λ (F : Fml). ‵ F) (unnamed B gB p v.value gU.unnamed) refl $
    handle_in ! p 1 gB.table held refl (lit< tt) $
    use0 𝓛 (raw (fact 𝓤 (gB.table ≡ gB.table))) (fact_i 𝓤 (gB.table ≡ gB.table) (emp 𝓤) refl) $ use0 𝓛 (raw (fact 𝓤 (held ≡ Some v.value))) (fact_i 𝓤 (held ≡ Some v.value) (emp 𝓤) refl) $ join ! $ nothing ! $ nothing ! $ fjoin ! $
    returns ! (look_at ! 0 refl) $ free_all ! refl $ keep ! (5 ∷ 0 ∷ 2 ∷ 1 ∷ []) $
    by ! (leaves 𝓛 En hs c z (both (vptr b o) (vint w64 1)) (record { at = p; state = 1; table = gB.table; object = held; tied = refl }) (tt, tt) (tt, tt)))))
