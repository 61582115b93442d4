-- The name of what a call answers.
use Rattle.std.proofs.Common.{◌≡◌, ◌≢◌, ℕ, List, [], codes}
use mathlib.Core.Logic.{inl, inr}
use Rattle.kp_types.specs.Texts.{IsNoRefusal, refusal_head, refusal_number}
use Rattle.kp_types.specs.declared.refusal.Refusal.{Refusal}
use Rattle.kp_handles.specs.Numbers.{IsName, IsNoMisuse, misuse_name, misuse_number}
use Rattle.kp_handles.specs.declared.misuse.Misuse.{Misuse}

module _ (number : ℕ) (name : List ℕ) where
  pub of_done : number ≡ 0 → name ≡ codes "F0 Done" → IsName number name
  unfolding IsName
  of_done e is = inl (e, is)

  pub of_refusal : (f : Refusal) → refusal_number f ≡ number → name ≡ refusal_head f → IsName number name
  unfolding IsName
  of_refusal f e is = inr (inl (f, e, is))

  pub of_misuse : (why : Misuse) → misuse_number why ≡ number → name ≡ misuse_name why → IsName number name
  unfolding IsName
  of_misuse why e is = inr (inr (inl (why, e, is)))

  pub of_none : number ≢ 0 → IsNoRefusal number → IsNoMisuse number → name ≡ [] → IsName number name
  unfolding IsName
  of_none some no_refusal no_misuse is = inr (inr (inr (some, no_refusal, no_misuse, is)))
