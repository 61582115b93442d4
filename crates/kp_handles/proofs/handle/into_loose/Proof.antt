-- `into_loose` keeps the pointer, and names the board again.
use Rattle.std.proofs.Common.{◌≡◌, ℕ, ◌<◌, ◌^◌, List, [], ◌∷◌, ◌++◌, refl, sym, ap, subst, ◌∙◌, w64}
use mathlib.Core.Bool.{true}
use mir.Syntax.{a_type, dcons, dnil}
use mir.MapTy.{inst_fn}
use mir.Val.{Val, vint, vptr}
use mir.Raw.{raw as bare}
use base.Logic.{SProp, ent, emp, never, id⊢, fst∗}
use base.Fml.{Fml, ftrue, flft}
use prog.Wp.{WpFn}
use types.Kit.{‵, raw, ◌⊛◌, ◌$◌, ◌∵◌, !, qed, by, move, keep, drop, split, split3, fsplit, fjoin, suffices, use0, rewrite}
use types.Run.{stop, fld, of_opd, no_more, and_then, returns, enter}
use types.ByLocal.{alloc_all, pass_all, free_all, look_at, get, get_in, sets}
use types.Part.{agg, sub, whole}
use contract.BorrowLft.{◌⊑◌}
use contract.Monad.{fact, fact_i}
use contract.Running.{tables}
use denote.Exit.{yes}
use denote.RattleType.{RattleType, owns}
use types.Logic.{sem}
use denote.Memory.{lone}
use denote.RawPtr.{Ptr, block_ptr, null_ptr, ptr_val, in_a_block}
use Rattle.kp_board.specs.Opening.{BoardId}
use Rattle.core.specs.contracts.marker.Brand as Brand
use denote.Signature.{types_at, plain}
use denote.Steps.{nothing, heard}
use denote.Param.{param, bounded}
use denote.Triple.Walked.{Stays, stay_dropped, walk_of}
use Rattle.core.proofs.alloc.Calls.{Goes-blank, handle_tells}
use Rattle.std.specs.Prelude.{Option, Some}
use Rattle.std.proofs.raw_atomic.Walks.{proved_at, leaves}
use Rattle.std_heap.specs.contracts.Global as Global
use Rattle.std_heap.specs.contracts.GlobalAllocator.TheImpl as heap
use Rattle.std_heap.proofs.Global.TheLaws as laws
use Rattle.kp_handles.specs.Objects.{ObjectView, is_open}
use Rattle.kp_handles.specs.Rows.{chunk, object_owns, object_row}
use Rattle.kp_handles.specs.contracts.handle.Handle as Handle
use Rattle.kp_handles.specs.contracts.object.Object as Object
use Rattle.kp_handles.proofs.Values.{both, al, loose_good, loose_in}
use Rattle.kp_handles.proofs.Handles.{handle_out}
use Rattle.kp_handles.proofs.Naming.{owned_as, unnamed}
use Rattle.kp_handles.proofs.Words.{word_fits, at_open}
use Rattle.kp_handles.specs.contracts.handle.into_loose.{ended, clauses}
use Rattle.kp_handles.specs.contracts.handle.into_loose.Key.{name as #self}
use Rattle.kp_handles.proofs.handle.into_loose.Statement.{statement}
use Rattle.kp_handles.proofs.handle.into_loose.Code as code

pub into_loose_spec : {M : Type 1} → statement M
into_loose_spec 𝓤 𝓛 𝓜 𝓡 wired B LB gB dB gU dU metB metU =
    let H = 𝓛.H in let 𝓣 = tables 𝓤 H 𝓜 𝓡 𝓡.env in let R : RattleType = Object.the_row (param 0 B) gB in let Z : RattleType = Global.the_row in let LZ = laws.the_row_laws in let g = heap.ghosts in
    let En = ended B gB dB gU dU in let c = clauses B gB dB gU dU 𝓛 𝓜.mem 𝓡.returns in let args = bounded (a_type ∷ []) (B, tt) (dcons dB (dcons dU dnil)) in let fn = inst_fn args code.function in
    let hs : Stays En.signature.params En.kept = (stay_dropped (plain (λ _. Z)) yes, (stay_dropped (plain (λ _. Handle.the_row)) yes, tt)) in
    proved_at 𝓛 En hs c 𝓜 𝓡 (Goes-blank 𝓛 1 (plain (λ _. Z)) yes (λ κs x f. tt), (Goes-blank 𝓛 1 (plain (λ _. Handle.the_row)) yes (λ κs x f. tt), tt)) (#self args) fn (code.unfolded 𝓤 H 𝓜 𝓡 wired (B, tt) dB dU) (λ z are.
    let κs = z.0.0 in let qs = z.0.1 in let a = z.0.3.0 in let v = z.0.3.1.0 in let Post : Val → SProp 𝓤 = (walk_of 𝓛 En hs c).post z in let Run : List Val → SProp 𝓤 = λ ws. WpFn 𝓤 H 𝓣.C 𝓣.Λ fn ws Post in
    let toks = ‵ (flft κs.0 qs.0) ⊛ ‵ ftrue in
    qed 𝓛 ((toks ⊛ ‵ (owns (types_at En.signature.params κs) z.0.3 z.0.4)) ∷ (raw (fact 𝓤 (κs.0 ⊑ B.lives)) ⊛ raw (fact 𝓤 (is_open v.object ≡ true)) ⊛ raw (fact 𝓤 (v.table ≡ gB.table))) ∷ []) ∵
    split ! $ move ! (2 ∷ []) $ split3 ! $ drop ! $ heard ! _ (λ opened. heard ! _ (λ named.
    let x = (at_open v.object opened).0 in let held = (at_open v.object opened).1 in
    move ! (1 ∷ []) $ fsplit ! $ handle_tells (al R Z LZ g) ! a z.0.4.0 (λ h ea fits. move ! (1 ∷ []) $ fsplit ! $ handle_out ! v z.0.4.1.0 (λ ev.
    rewrite ! 0 (λ (y : Option ObjectView). ‵ (object_owns v.table v.at y)) held refl $ rewrite ! 0 (λ (t : BoardId). ‵ (owned_as Brand.the_row t v.at x)) named refl $
    in_a_block ! v.at (λ p. owned_as Brand.the_row gB.table p x) (fst∗ 𝓤 (never 𝓤) (sem 𝓛 (chunk (bare (lone (object_row Brand.the_row gB.table).mir)) null_ptr))) (λ b o e.
    rewrite ! 0 (λ (F : Fml). ‵ F) (sym (unnamed B gB (block_ptr b o) x gU.unnamed)) refl $
    -- [what lies there; nothing; the allocator; the tokens]
    let n = v.state in let w : Val = both (vptr b o) (vint w64 n) in let told : n < 2 ^ 64 = subst (λ (m : ℕ). m < 2 ^ 64) (sym v.tied) (word_fits v.object) in
    let made = loose_good R Z LZ g b o h fits in let ew : z.0.4.1.0 ≡ w ∷ [] = ev ∙ ap (λ (p : Ptr). both (ptr_val p) (vint w64 n) ∷ []) e in
    suffices ! (Run (h ∷ w ∷ [])) (subst (λ (us : List Val). ent 𝓤 (Run (h ∷ w ∷ [])) (Run us)) (sym (λ i. ea i ++ (ew i ++ []))) (id⊢ 𝓤 (Run (h ∷ w ∷ [])))) $
    enter ! 𝓣.C 𝓣.Λ fn (h ∷ w ∷ []) Post $ alloc_all ! (λ l. pass_all ! refl (fits, ((tt, (tt, (record { fits = told }, tt))), tt)) $
    sets ! (of_opd ! (get_in ! (fld ! refl (stop !)) (sub ! 0 refl (whole !)))) refl (tt, tt) $
    sets ! (of_opd ! (get ! refl)) refl (tt, tt) $
    sets ! (agg ! (and_then ! (get ! refl) (and_then ! (get ! refl) (no_more !)))) refl made $
    move ! (0 ∷ 2 ∷ []) $ loose_in R Z LZ g ! b o h a x $
    -- [the result; nothing; the tokens]
    use0 𝓛 (raw (fact 𝓤 (v.object ≡ Some x))) (fact_i 𝓤 (v.object ≡ Some x) (emp 𝓤) held) $ nothing ! $ nothing ! $ nothing ! $ fjoin ! $ move ! (1 ∷ 0 ∷ []) $ fjoin ! $
    returns ! (look_at ! 0 refl) $ free_all ! refl $ keep ! (4 ∷ 0 ∷ 2 ∷ 1 ∷ []) $
    by ! (leaves 𝓛 En hs c z (both (vptr b o) h) (record { at = block_ptr b o; alloc = a; value = x }) (tt, (tt, tt)) (tt, (tt, tt))))))))))
