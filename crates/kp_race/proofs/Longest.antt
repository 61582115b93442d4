-- Lists of which one is the longest.
use Rattle.std.proofs.Common.{◌≡◌, ◌≤◌, List, [], ◌∷◌, length, map, refl, sym, ap, ◌∙◌, subst, append-nil, arith, inl, inr}
use Rattle.std.specs.Prelude.{All, Contains, ◌⊎◌}
use Rattle.std.specs.List.{AllByRecursion}
use Rattle.std.proofs.lemmas.List.Elements.{All-from_recursion, recursion_from_All}
use Rattle.kp_types.proofs.Elements.{all_itself}
use Rattle.kp_model.specs.Beginning.{Begins}
use Rattle.kp_model.proofs.Plain.Beginnings.{Begins-agree, Begins-nil, Begins-whole}
use Rattle.kp_race.specs.Agreement.{AllAgree}

in_all : {A : Type 0} (P : List A → Type 0) (lists : List (List A)) → AllByRecursion P lists → (xs : List A) → Contains lists xs → P xs
in_all P lists each xs is_in = subst P is_in.2 (All-from_recursion P lists each is_in.0 xs is_in.1)

-- what begins one list agrees
all_begin : {A : Type 0} (lists : List (List A)) (whole : List A) → AllByRecursion (λ xs. Begins xs whole) lists → AllAgree lists
all_begin lists whole each xs ys x_in y_in =
    Begins-agree (in_all (λ zs. Begins zs whole) lists each xs x_in) (in_all (λ zs. Begins zs whole) lists each ys y_in)

empty_of : {A : Type 0} (xs : List A) → length xs ≤ 0 → xs ≡ []
empty_of [] l = refl
empty_of (x ∷ xs) l = absurd (omega arith)

module _ {A : Type 0} (lists : List (List A)) (longest : List A) (among : (longest ≡ []) ⊎ Contains lists longest) (agree : AllAgree lists) where
  -- each that is no longer begins the longest, where they agree
  begins_longest : (xs : List A) → Contains lists xs → length xs ≤ length longest → Begins xs longest
  begins_longest xs is_in l =
      elim among [
        | inl none ↦
            let empty : xs ≡ [] = empty_of xs (omega (arith, ap length none)) in
            subst (λ (s : List A). Begins s longest) (sym empty) (Begins-nil longest)
        | inr found ↦
            elim (agree xs longest is_in found) [
              | inl p ↦ p
              | inr q ↦ (let same = Begins-whole longest xs q l in record { rest = []; is = append-nil xs ∙ sym same })
            ]
      ]

  each_begins_longest : (some : List (List A)) → AllByRecursion (Contains lists) some → AllByRecursion (λ xs. length xs ≤ length longest) some → AllByRecursion (λ xs. Begins xs longest) some
  each_begins_longest [] c l = tt
  each_begins_longest (x ∷ xs) c l = (begins_longest x c.0 l.0, each_begins_longest xs c.1 l.1)

-- ---- of lists that are kept in values

module _ {V A : Type 0} (items : V → List A) where
  all_map : (P : List A → Type 0) (vs : List V) → AllByRecursion (λ v. P (items v)) vs → AllByRecursion P (map items vs)
  all_map P [] h = tt
  all_map P (v ∷ vs) h = (h.0, all_map P vs h.1)

  all_unmap : (P : List A → Type 0) (vs : List V) → AllByRecursion P (map items vs) → AllByRecursion (λ v. P (items v)) vs
  all_unmap P [] h = tt
  all_unmap P (v ∷ vs) h = (h.0, all_unmap P vs h.1)

  pub agree_within : (vs : List V) (whole : List A) → All (λ v. Begins (items v) whole) vs → AllAgree (map items vs)
  agree_within vs whole each =
      all_begin (map items vs) whole (all_map (λ xs. Begins xs whole) vs (recursion_from_All (λ v. Begins (items v) whole) vs each))

  pub begin_longest : (vs : List V) (longest : List A) → (longest ≡ []) ⊎ Contains (map items vs) longest → All (λ v. length (items v) ≤ length longest) vs
      → AllAgree (map items vs) → All (λ v. Begins (items v) longest) vs
  begin_longest vs longest among long agree =
      let lists = map items vs in
      let short = all_map (λ xs. length xs ≤ length longest) vs (recursion_from_All (λ v. length (items v) ≤ length longest) vs long) in
      All-from_recursion (λ v. Begins (items v) longest) vs
      (all_unmap (λ xs. Begins xs longest) vs (each_begins_longest lists longest among agree lists (all_itself lists) short))
