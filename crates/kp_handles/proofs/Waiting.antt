-- The nodes that wait.
use Rattle.std.proofs.Common.{◌≡◌, ◌<◌, ℕ, List, [], ◌∷◌, length, refl, sym, arith, subst}
use Rattle.std.specs.Prelude.{Some, None, remove, slice_index_or}
use Rattle.kp_node.proofs.SeatFacts.{first_of_all}
use Rattle.kp_node.specs.Seated.{SeatedNode}
use Rattle.kp_handles.specs.Objects.{cluster}
use Rattle.kp_handles.specs.Opening.{BadNodeOpening}
use Rattle.kp_handles.specs.declared.misuse.Misuse.{Misuse}
use Rattle.kp_handles.specs.declared.misuse.Misuse.TheVariants.{NoRoom, OutOfRange}

pub first_waiting : {X : Type 0} (xs : List X) (x : X) → 0 < length xs → x ≡ slice_index_or xs 0 x → xs ≡ x ∷ remove xs 0
first_waiting xs x some e = first_of_all xs x some e

module _ (n callers : ℕ) where
  pub none_left : (xs : List SeatedNode) → length xs ≡ 0 → BadNodeOpening (Some (cluster n xs callers)) None OutOfRange
  none_left [] e = (n, callers, refl)
  none_left (y ∷ ys) e = absurd (omega arith)

  pub some_left : (xs : List SeatedNode) (why : Misuse) → why ≡ NoRoom → 0 < length xs → BadNodeOpening (Some (cluster n xs callers)) None why
  some_left (y ∷ ys) why is some = subst (BadNodeOpening (Some (cluster n (y ∷ ys) callers)) None) (sym is) (n, y, ys, callers, refl, refl)
  some_left [] why is some = absurd (omega arith)
