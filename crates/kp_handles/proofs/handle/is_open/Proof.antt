-- `is_open` reads the handle's word.
use Rattle.std.proofs.Common.{◌≡◌, ℕ, ◌<◌, ◌^◌, subst, List, [], ◌∷◌, refl, sym}
use base.Fraction.{full_share}
use base.Logic.{emp}
use contract.Monad.{fact, fact_i}
use mathlib.Core.Bool.{Bool, not}
use lib.Dec.{eqb}
use base.Fml.{ftrue, flft}
use mir.Syntax.{named}
use mir.Val.{Val, vbool}
use types.Kit.{‵, ◌⊛◌, ◌$◌, ◌∵◌, !, raw, qed, by, move, keep, split, join, fsplit3, fjoin, fjoin3, rewrite, use0, feq_i}
use types.Run.{enter, of_opd, lit, bin, stop, fld, returns}
use types.ByLocal.{alloc_all, pass_all, free_all, look_at, get, through, sets}
use types.Part.{whole, sub, look_in}
use types.Run.{load}
use contract.Running.{tables}
use denote.Memory.{cell_at}
use denote.Laws.{shows}
use denote.Ref.{MutRef, mut_vals, mut_Tells}
use denote.Signature.{plain}
use denote.Steps.{nothing, opens, closes, peeks}
use denote.Triple.Walked.{Stays, walk_of, stay_ref, Goes-ref}
use Rattle.std.proofs.raw_atomic.Walks.{proved, leaves}
use Rattle.kp_handles.specs.Objects.{is_open as opened}
use Rattle.kp_handles.proofs.Words.{word_fits, word_tells}
use Rattle.kp_handles.specs.contracts.handle.is_open as f
use Rattle.kp_handles.proofs.handle.is_open.Statement.{statement}
use Rattle.kp_handles.proofs.handle.is_open.Code as code
use Rattle.kp_handles.specs.contracts.handle.Handle.{the_row as R}
use Rattle.kp_handles.proofs.handle.Handle.TheLaws.{lowers}

abbrev stayed : Stays f.ended.signature.params f.ended.kept
stayed = (stay_ref (0 ∷ []) tt (plain (λ _. R)), tt)

pub is_open_spec : {M : Type 1} → statement M
is_open_spec 𝓤 𝓛 𝓜 𝓡 wired =
    let c = f.clauses 𝓛 𝓜.mem 𝓡.returns in let W = walk_of 𝓛 f.ended stayed c in let 𝓣 = tables 𝓤 𝓛.H 𝓜 𝓡 𝓡.env in
    proved 𝓛 f.ended stayed c 𝓜 𝓡 (Goes-ref 𝓛 1 0 tt (plain (λ _. R)), tt)
    f.Key.name code.function (code.unfolded 𝓤 𝓛.H 𝓜 𝓡 wired)
    (λ κs. (mut_vals, tt)) (λ κs. (mut_Tells (named 0) κs.0 R, tt)) (λ κs qs bounds a _ are.
    let b = a.0.ref_ptr.0 in let o = a.0.ref_ptr.1 in let h = a.0.now in let vs = mut_vals a.0 in
    let r : Bool = not (eqb h.state 0) in
    let y : W.Ghost = ((κs, qs, bounds, a, (vs, tt)), tt) in
    qed 𝓛 (((‵ (flft κs.0 qs.0) ⊛ ‵ ftrue) ⊛ ‵ ((MutRef (named 0) κs.0 R).own_val a.0 vs) ⊛ ‵ ftrue) ∷ ‵ ftrue ∷ []) ∵
    split ! $ split ! $ move ! (2 ∷ []) $ split ! $ keep ! (0 ∷ 2 ∷ []) $
    enter ! _ _ _ _ _ $ alloc_all ! (λ l. pass_all ! refl ((tt, tt), tt) $
    fsplit3 ! $ move ! (1 ∷ 2 ∷ 3 ∷ []) $ opens ! tt R b o (λ us.
    move ! (1 ∷ []) $ peeks ! R _ (shows 𝓛 R) h us (λ is.
    move ! (1 ∷ []) $
    let word = lowers.val_is h us is in
    let Cell = λ (ws : List Val). ‵ (cell_at full_share R.mir ws b o) in
    rewrite ! 0 Cell word refl $
    let fits : h.state < 2 ^ 64 = subst (λ (n : ℕ). n < 2 ^ 64) (sym h.tied) (word_fits h.object) in
    sets ! (of_opd ! (load ! (through ! refl (fld ! refl (stop !))) (look_in ! 0 (sub ! 1 refl (whole !))))) refl (tt, record { fits = fits }) $
    sets ! (bin ! (get ! refl) (lit ! tt) tt) refl (tt, tt) $
    rewrite ! 0 Cell (sym word) refl $ closes ! tt R h us b o $
    -- [two parts of the reference; the token; the reference's first part]
    use0 𝓛 (raw (fact 𝓤 (r ≡ opened h.object))) (fact_i 𝓤 (r ≡ opened h.object) (emp 𝓤) (word_tells h.state h.object h.tied)) $ use0 𝓛 (raw (fact 𝓤 (h ≡ h))) (fact_i 𝓤 (h ≡ h) (emp 𝓤) refl) $ join ! $ feq_i ! (List Val) (vbool r ∷ []) (vbool r ∷ []) refl $
    returns ! (look_at ! 0 refl) $ free_all ! refl $ keep ! (5 ∷ 2 ∷ 3 ∷ 4 ∷ 0 ∷ 1 ∷ []) $ fjoin3 ! $ nothing ! $ move ! (1 ∷ 0 ∷ []) $ fjoin ! $ nothing ! $ move ! (2 ∷ 0 ∷ []) $ join ! $ move ! (0 ∷ 1 ∷ 2 ∷ 3 ∷ []) $
    by ! (leaves 𝓛 f.ended stayed c y (vbool r) r (h, tt) (tt, tt))))))
