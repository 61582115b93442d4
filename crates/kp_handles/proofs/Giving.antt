-- What a node and a caller's pass give into a handle.
use Rattle.std.proofs.Common.{◌≡◌, ℕ, refl, sym, ap, subst, ◌∙◌}
use Rattle.std.specs.Prelude.{Some, None, Result, Ok, Err, IfOk, IfErr, OnErr}
use Rattle.std.specs.Global.{Box}
use Rattle.kp_board.specs.Views.{CallerView}
use Rattle.kp_node.specs.Seated.{SeatedNode}
use Rattle.kp_types.specs.declared.refusal.Refusal.{Refusal}
use Rattle.kp_handles.specs.Called.{BadPair, BadRoom, GiveCalled, IsBoxed, done_of, made_of}
use Rattle.kp_handles.specs.Objects.{ObjectView, caller, node}
use Rattle.kp_handles.specs.declared.misuse.Misuse.{Misuse}
use Rattle.kp_handles.specs.declared.misuse.Misuse.TheVariants.{NoRoom, OtherKind}
use Rattle.kp_handles.proofs.Bad.{same_object}

some : (a b : ObjectView) → a ≡ b → Some a ≡ Some b
some a b is = ap (λ (v : ObjectView). Some v) is

module _ {X : Type 0} (hold : X → ObjectView) (P : SeatedNode → SeatedNode → CallerView → CallerView → Result X Refusal → Type 0) (old new other then : ObjectView) where
  pub pair_not_made : (r : Result (Result (Box ObjectView) Refusal) Misuse) → r ≡ Err OtherKind → new ≡ old → then ≡ other
      → ((x : SeatedNode) → (k : ℕ) → (c : CallerView) → old ≡ node x → other ≡ caller k c → ⊥)
      → GiveCalled hold P (Some old) (Some new) (Some other) (Some then) None (made_of r) (done_of r)
  pair_not_made r e same kept never =
      subst (λ (s : Result (Result (Box ObjectView) Refusal) Misuse). GiveCalled hold P (Some old) (Some new) (Some other) (Some then) None (made_of s) (done_of s)) (sym e) (
        some new old same,
        some then other kept,
        refl,
        (refl, refl, λ x k c f g. never x k c (same_object old (node x) (Some old) refl f) (same_object other (caller k c) (Some other) refl g)),
      )

module _ {X : Type 0} (hold : X → ObjectView) (P : SeatedNode → SeatedNode → CallerView → CallerView → Result X Refusal → Type 0)
    (old new other then : ObjectView) (x y : SeatedNode) (k : ℕ) (c d : CallerView)
    (e : old ≡ node x) (e' : new ≡ node y) (f : other ≡ caller k c) (f' : then ≡ caller k d) where
  no_room : (why : Misuse) → why ≡ NoRoom → BadPair (BadRoom None) (Some old) (Some other) why
  no_room why is = subst (BadPair (BadRoom None) (Some old) (Some other)) (sym is) ((x, k, c, some old (node x) e, some other (caller k c) f), refl)

  pub pair_made : (r : Result (Result (Box ObjectView) Refusal) Misuse) → IfOk r (IsBoxed hold (P x y c d)) → OnErr r ((y ≡ x) × (d ≡ c))
      → IfErr r (λ why. why ≡ NoRoom) → GiveCalled hold P (Some old) (Some new) (Some other) (Some then) None (made_of r) (done_of r)
  pair_made (Ok (Ok made)) (found, gave, is) same only =
      (x, y, k, c, d, found, some old (node x) e, some new (node y) e', some other (caller k c) f, some then (caller k d) f', refl, gave, some made.value (hold found) is)
  pair_made (Ok (Err refusal)) gave same only =
      (x, y, k, c, d, some old (node x) e, some new (node y) e', some other (caller k c) f, some then (caller k d) f', refl, gave)
  pair_made (Err why) made (is, js) only = (
    some new old (e' ∙ ap (λ (z : SeatedNode). node z) is ∙ sym e),
    some then other (f' ∙ ap (λ (z : CallerView). caller k z) js ∙ sym f),
    refl,
    no_room why only,
  )
