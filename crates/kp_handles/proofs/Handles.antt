-- The machine values of a handle. Assumes `Logic`.
use Rattle.std.proofs.Common.{◌≡◌, ℕ, ◌<◌, ◌^◌, List, [], ◌∷◌, ◌++◌, refl, subst, w64}
use seplogic.Ra.Ura.{Ura}
use mir.Val.{Val, vint, vstruct, of_list}
use types.Logic.{Logic}
use types.Kit.{Item, Goal, Seq, Step, step, ‵, ◌$◌, drop, fsplit, fjoin, fpick, fpack, feq_i, feq_l}
use denote.RattleType.{Valss}
use denote.Builtin.{RawPtr, u64}
use denote.Plain.{uint_Makes}
use denote.RawPtr.{Ptr, ptr_val}
use denote.Steps.{nothing, owned}
use denote.Struct.Struct.{within}
use denote.Struct.Owning.{shape}
use Rattle.std.specs.Prelude.{Option}
use Rattle.kp_board.specs.Opening.{BoardId}
use Rattle.kp_handles.specs.Objects.{ObjectView, word_of}
use Rattle.kp_handles.specs.Rows.{object_owns}
use Rattle.kp_handles.specs.contracts.handle.Handle as handle
use Rattle.kp_handles.specs.declared.handle.Handle.{Handle}
use Rattle.kp_handles.proofs.Values.{both}

module _ {M : Type 1} {𝓤 : Ura M} {𝓛 : Logic 𝓤} {K : Type 0} {Γ : List (Item 𝓤)} {G : Goal 𝓤 𝓛.H} where
  pub handle_in : K → (p : Ptr) (n : ℕ) (t : BoardId) (x : Option ObjectView) (tied : n ≡ word_of x) → n < 2 ^ 64
      → Step K 𝓛 (‵ (handle.the_row.own_val (record { at = p; state = n; table = t; object = x; tied = tied }) (both (ptr_val p) (vint w64 n) ∷ [])) ∷ Γ) G (‵ (object_owns t p x) ∷ Γ) G
  handle_in k p n t x tied fits = step (λ s. let v : Val = both (ptr_val p) (vint w64 n) in
      nothing k $ owned k u64 _ (uint_Makes 𝓛 w64) n (vint w64 n ∷ []) (refl, fits) $ fjoin k $ feq_i k (List Val) (ptr_val p ∷ []) (ptr_val p ∷ []) refl $ fjoin k $ feq_i k (List Val) (v ∷ []) (v ∷ []) refl $ fjoin k $
      fpack k (Valss (RawPtr ∷ u64 ∷ [])) (within (shape handle.the_type) (p, (n, tt)) (v ∷ [])) (ptr_val p ∷ [], (vint w64 n ∷ [], tt)) $ fjoin k $ s)

  pub handle_out : K → (d : Handle) (vs : List Val)
      → (vs ≡ both (ptr_val d.at) (vint w64 d.state) ∷ [] → Seq K 𝓛 (‵ (object_owns d.table d.at d.object) ∷ Γ) G) → Seq K 𝓛 (‵ (handle.the_row.own_val d vs) ∷ Γ) G
  handle_out k d vs go =
      fsplit k $ fpick k (λ vss. fsplit k $ feq_l k (λ ev. fsplit k $ feq_l k (λ ep. fsplit k $ fsplit k $ feq_l k (λ en. drop k $ drop k $
      go (subst (λ (ws : List Val). vs ≡ vstruct (of_list (ptr_val d.at ∷ (ws ++ []))) ∷ []) en (subst (λ (ps : List Val). vs ≡ vstruct (of_list (ps ++ (vss.1.0 ++ []))) ∷ []) ep ev))))))
