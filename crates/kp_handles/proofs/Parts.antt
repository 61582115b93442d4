-- One of what a handle holds.
use Rattle.std.proofs.Common.{◌≡◌, ◌<◌, ℕ, List, refl, sym, subst, arith}
use Rattle.std.specs.Prelude.{Option, Some, None, Result, Ok, Err, OnOk, IfErr}
use Rattle.kp_handles.specs.Holding.{BadPart, HasPart}
use Rattle.kp_handles.specs.Objects.{ObjectView}
use Rattle.kp_handles.specs.declared.misuse.Misuse.{Misuse}
use Rattle.kp_handles.specs.declared.misuse.Misuse.TheVariants.{Closed, OtherKind, InUse, NoRoom, OutOfRange, BadLength}

module _ {X : Type 0} (inside : ObjectView → Option (List X)) (index : ℕ) (object : Option ObjectView) (y : X) (has : HasPart inside index object (λ x. x ≡ y)) where
  -- what is so of it
  pub part_as : (P : X → Type 0) → P y → HasPart inside index object P
  part_as P p = (has.0, has.1, has.2, has.3, has.4, has.5, subst P (sym has.6) p)

  pub written : (P : X → Type 0) (r : Result (Unit {0}) Misuse) → OnOk r (P y) → OnOk r (HasPart inside index object P)
  written P (Ok done) p = part_as P p
  written P (Err why) p = p

  pub too_long : (size : X → ℕ) (places : ℕ) (r : Result (Unit {0}) Misuse) → IfErr r (λ why. (why ≡ BadLength) × (places < size y)) → IfErr r (BadPart inside size index places object)
  too_long size places (Ok done) p = p
  too_long size places (Err why) (e, long) =
      subst (BadPart inside size index places object) (sym e) (has.0, has.3, (has.1, has.2, has.4, has.5, subst (λ (x : X). places < size x) (sym has.6) long))

module _ {X : Type 0} (inside : ObjectView → Option (List X)) (index : ℕ) where
  -- one that isn't there, whatever its size
  pub not_there : (size : X → ℕ) (places : ℕ) (object : Option ObjectView) (why : Misuse) → BadPart inside (λ x. 0) index 0 object why → BadPart inside size index places object why
  not_there size places object Closed bad = bad
  not_there size places object OtherKind bad = bad
  not_there size places object OutOfRange bad = bad
  not_there size places object BadLength (o, e, (xs, x, f, g, long)) = absurd (omega (arith, long))
  not_there size places object InUse (o, e, bad) = absurd bad
  not_there size places object NoRoom (o, e, bad) = absurd bad

  pub no_list : (size : X → ℕ) (places : ℕ) (o : ObjectView) (why : Misuse) → why ≡ OtherKind → inside o ≡ None → BadPart inside size index places (Some o) why
  no_list size places o why e none = subst (BadPart inside size index places (Some o)) (sym e) (o, refl, none)
