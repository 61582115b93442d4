-- What leads to the places leads to them after a number more, and after one less.
use Rattle.std.proofs.Common.{◌≡◌, ◌⊎◌, inl, inr, ℕ, zero, suc, ◌<◌, ◌≤◌, ◌+◌, ◌-◌, ◌++◌, Bool, true, false, cond, List, [], ◌∷◌, Some, None, length, refl, sym, ap, ◌∙◌, subst, arith}
use Rattle.std.specs.Prelude.{◌==◌, nat_lt, slice_index_or}
use Rattle.std.specs.List.{slice_get}
use Rattle.std.proofs.lemmas.Bool.{eqb-true, eq-eqb, eqb-false, ne_eqb, ltb-true, ltb-false}
use Rattle.std.proofs.lemmas.Option.{slice_get-get_or, slice_get_within, get_or_from_slice_get}
use Rattle.kp_places.specs.Places.{place_of, at, IsSwapped, IsPlaced}
use Rattle.kp_places.proofs.Finding.{place_there}

-- ---- a number more

-- what stands in a longer list stands in the list, or is the new one at its end
pub get_more : {X : Type 0} (xs : List X) (x : X) (i : ℕ) (y : X) → slice_get (xs ++ x ∷ []) i ≡ Some y
    → (slice_get xs i ≡ Some y) ⊎ ((i ≡ length xs) × (x ≡ y))
get_more [] x zero y is = inr (refl, cc)
get_more [] x (suc i) y is = absurd cc
get_more (z ∷ xs) x zero y is = inl is
get_more (z ∷ xs) x (suc i) y is =
    elim (get_more xs x i y is) [
      | inl before ↦ inl before
      | inr last ↦ inr (ap (λ (n : ℕ). suc n) last.0, last.1)
    ]

pub get_kept : {X : Type 0} (xs ys : List X) (i : ℕ) (y : X) → slice_get xs i ≡ Some y → slice_get (xs ++ ys) i ≡ Some y
get_kept [] ys i y is = absurd cc
get_kept (z ∷ xs) ys zero y is = is
get_kept (z ∷ xs) ys (suc i) y is = get_kept xs ys i y is

pub get_last : {X : Type 0} (xs : List X) (x : X) → slice_get (xs ++ x ∷ []) (length xs) ≡ Some x
get_last [] x = refl
get_last (z ∷ xs) x = get_last xs x

pub placed_more : (found more : List (ℕ × ℕ)) (numbers : List ℕ) (number : ℕ) → IsPlaced found numbers → place_of number numbers ≡ None
    → ((other : ℕ) → at other more ≡ cond (number == other) (Some (length numbers)) (at other found))
    → IsPlaced more (numbers ++ number ∷ [])
placed_more found more numbers number placed fresh updates = record { here = is_here; there = is_there }
  where
    is_here : (other place : ℕ) → at other more ≡ Some place → slice_get (numbers ++ number ∷ []) place ≡ Some other
    is_here other place is = go (number == other) refl
      where
        go : (t : Bool) → (number == other) ≡ t → slice_get (numbers ++ number ∷ []) place ≡ Some other
        go true same =
            let was = updates other in
            let last : Some (length numbers) ≡ Some place = sym (rw same at was) ∙ is in
            let place_is : length numbers ≡ place = cc in
            subst (λ (p : ℕ). slice_get (numbers ++ number ∷ []) p ≡ Some other) place_is
            (get_last numbers number ∙ ap (λ (n : ℕ). Some n) (eqb-true number other same))
        go false differs =
            let was = updates other in
            let before : at other found ≡ Some place = sym (rw differs at was) ∙ is in
            get_kept numbers (number ∷ []) place other (placed.here other place before)

    is_there : (other place : ℕ) → slice_get (numbers ++ number ∷ []) place ≡ Some other → at other more ≡ Some place
    is_there other place stands = go (get_more numbers number place other stands)
      where
        go : ((slice_get numbers place ≡ Some other) ⊎ ((place ≡ length numbers) × (number ≡ other))) → at other more ≡ Some place
        go (inl before) =
            let differs : number ≡ other → ⊥ = λ same. place_there number numbers place (before ∙ ap (λ (n : ℕ). Some n) (sym same)) fresh in
            updates other ∙ ap (λ (t : Bool). cond t (Some (length numbers)) (at other found)) (ne_eqb number other differs)
            ∙ placed.there other place before
        go (inr last) =
            updates other ∙ ap (λ (t : Bool). cond t (Some (length numbers)) (at other found)) (eq-eqb number other last.1)
            ∙ ap (λ (n : ℕ). Some n) (sym last.0)

-- ---- a number less

-- what stands elsewhere stood there
pub elsewhere_was : {X : Type 0} (place : ℕ) (old new : List X) → IsSwapped place old new → (k : ℕ) (y : X) → (k ≡ place → ⊥)
    → slice_get new k ≡ Some y → slice_get old k ≡ Some y
elsewhere_was {X} place old new swapped k y differs is =
    let within : k < length new = slice_get_within new k y is in
    let here : slice_index_or new k y ≡ y = get_or_from_slice_get new k y y is in
    let same = swapped.2 k y differs (omega (arith, within, swapped.0)) in
    slice_get-get_or old k y (omega (arith, within, swapped.0)) ∙ ap (λ (z : X). Some z) (sym same ∙ here)

-- and stands there still, but for the last
pub elsewhere_is : {X : Type 0} (place : ℕ) (old new : List X) → IsSwapped place old new → (k : ℕ) (y : X) → (k ≡ place → ⊥) → k + 1 < length old
    → slice_get old k ≡ Some y → slice_get new k ≡ Some y
elsewhere_is {X} place old new swapped k y differs within is =
    let here : slice_index_or old k y ≡ y = get_or_from_slice_get old k y y is in
    let same = swapped.2 k y differs within in
    slice_get-get_or new k y (omega (arith, within, swapped.0)) ∙ ap (λ (z : X). Some z) (same ∙ here)

pub last_was : {X : Type 0} (place : ℕ) (old new : List X) → IsSwapped place old new → (y : X)
    → slice_get new place ≡ Some y → slice_get old (length old - 1) ≡ Some y
last_was {X} place old new swapped y is =
    let within : place < length new = slice_get_within new place y is in
    let here : slice_index_or new place y ≡ y = get_or_from_slice_get new place y y is in
    let same = swapped.1 y (omega (arith, within, swapped.0)) in
    slice_get-get_or old (length old - 1) y (omega (arith, within, swapped.0)) ∙ ap (λ (z : X). Some z) (sym same ∙ here)

pub last_is : {X : Type 0} (place : ℕ) (old new : List X) → IsSwapped place old new → (y : X) → place + 1 < length old
    → slice_get old (length old - 1) ≡ Some y → slice_get new place ≡ Some y
last_is {X} place old new swapped y within is =
    let here : slice_index_or old (length old - 1) y ≡ y = get_or_from_slice_get old (length old - 1) y y is in
    let same = swapped.1 y within in
    slice_get-get_or new place y (omega (arith, within, swapped.0)) ∙ ap (λ (z : X). Some z) (same ∙ here)

-- two places of one number are one
one_place : (found : List (ℕ × ℕ)) (numbers : List ℕ) → IsPlaced found numbers → (number one other : ℕ)
    → slice_get numbers one ≡ Some number → slice_get numbers other ≡ Some number → one ≡ other
one_place found numbers placed number one other first second =
    let same : Some one ≡ Some other = sym (placed.there number one first) ∙ placed.there number other second in
    cc

-- what stands at one place stands at no other
pub not_there : {X : Type 0} (xs : List X) (one other : ℕ) (x y : X) → slice_get xs one ≡ Some x → slice_get xs other ≡ Some y → (x ≡ y → ⊥) → other ≡ one → ⊥
not_there {X} xs one other x y first second differs same =
    let both : Some x ≡ Some y = sym first ∙ subst (λ (k : ℕ). slice_get xs k ≡ Some y) same second in
    differs (cc)

past_end : {X : Type 0} (xs : List X) (place : ℕ) → slice_get xs place ≡ None → length xs ≤ place
past_end {X} xs place none = go (nat_lt place (length xs)) refl
  where
    first_of : (ys : List X) → place < length ys → slice_get ys place ≡ None → ⊥
    first_of [] low is = omega (arith, low)
    first_of (y ∷ ys) low is =
        let some : None ≡ Some (slice_index_or (y ∷ ys) place y) = sym is ∙ slice_get-get_or (y ∷ ys) place y low in
        cc

    go : (t : Bool) → nat_lt place (length xs) ≡ t → length xs ≤ place
    go true low = absurd (first_of xs (ltb-true place (length xs) low) none)
    go false high = ltb-false place (length xs) high

-- The last number goes: what leads to the others leads to them still.
pub placed_last : (found less : List (ℕ × ℕ)) (old new : List ℕ) (place number : ℕ) → IsPlaced found old → IsSwapped place old new
    → slice_get old place ≡ Some number → slice_get new place ≡ None
    → ((other : ℕ) → at other less ≡ cond (number == other) None (at other found)) → IsPlaced less new
placed_last found less old new place number placed swapped stood none updates = record { here = is_here; there = is_there }
  where
    is_here : (other k : ℕ) → at other less ≡ Some k → slice_get new k ≡ Some other
    is_here other k is = go (number == other) refl
      where
        go : (t : Bool) → (number == other) ≡ t → slice_get new k ≡ Some other
        go true same =
            let was = updates other in
            let none_is : None ≡ Some k = sym (rw same at was) ∙ is in
            absurd cc
        go false differs =
            let was = updates other in
            let before : slice_get old k ≡ Some other = placed.here other k (sym (rw differs at was) ∙ is) in
            let apart_from : k ≡ place → ⊥ = not_there old place k number other stood before (eqb-false number other differs) in
            let within : k < length old = slice_get_within old k other before in
            let end : length new ≤ place = past_end new place none in
            let own : place < length old = slice_get_within old place number stood in
            elsewhere_is place old new swapped k other apart_from (omega (arith, within, end, own, swapped.0, apart_from)) before

    is_there : (other k : ℕ) → slice_get new k ≡ Some other → at other less ≡ Some k
    is_there other k stands =
        let within : k < length new = slice_get_within new k other stands in
        let end : length new ≤ place = past_end new place none in
        let apart_from : k ≡ place → ⊥ = λ same. omega (arith, within, end, same) in
        let before = elsewhere_was place old new swapped k other apart_from stands in
        let differs : number ≡ other → ⊥ = λ same. apart_from (sym (one_place found old placed other place k (stood ∙ ap (λ (n : ℕ). Some n) same) before)) in
        updates other ∙ ap (λ (t : Bool). cond t None (at other found)) (ne_eqb number other differs) ∙ placed.there other k before

-- A number goes, and the last one stands in its place: what leads there too leads to all.
pub placed_swapped : (found less moves : List (ℕ × ℕ)) (old new : List ℕ) (place number moved : ℕ) → IsPlaced found old → IsSwapped place old new
    → slice_get old place ≡ Some number → slice_get new place ≡ Some moved
    → ((other : ℕ) → at other less ≡ cond (number == other) None (at other found))
    → ((other : ℕ) → at other moves ≡ cond (moved == other) (Some place) (at other less)) → IsPlaced moves new
placed_swapped found less moves old new place number moved placed swapped stood stands updates again = record { here = is_here; there = is_there }
  where
    last : slice_get old (length old - 1) ≡ Some moved
    last = last_was place old new swapped moved stands

    is_here : (other k : ℕ) → at other moves ≡ Some k → slice_get new k ≡ Some other
    is_here other k is = go (moved == other) refl (number == other) refl
      where
        go : (t : Bool) → (moved == other) ≡ t → (u : Bool) → (number == other) ≡ u → slice_get new k ≡ Some other
        go true same u own =
            let was = again other in
            let here : Some place ≡ Some k = sym (rw same at was) ∙ is in
            let place_is : place ≡ k = cc in
            subst (λ (p : ℕ). slice_get new p ≡ Some other) place_is (stands ∙ ap (λ (n : ℕ). Some n) (eqb-true moved other same))
        go false differs true own =
            let was = again other in
            let before = updates other in
            let none_is : None ≡ Some k = sym (rw own at before) ∙ sym (rw differs at was) ∙ is in
            absurd cc
        go false differs false other_is =
            let was = again other in
            let first = updates other in
            let before : slice_get old k ≡ Some other = placed.here other k (sym (rw other_is at first) ∙ sym (rw differs at was) ∙ is) in
            let apart_from : k ≡ place → ⊥ = not_there old place k number other stood before (eqb-false number other other_is) in
            let not_last : k ≡ length old - 1 → ⊥ = not_there old (length old - 1) k moved other last before (eqb-false moved other differs) in
            let within : k < length old = slice_get_within old k other before in
            elsewhere_is place old new swapped k other apart_from (omega (arith, within, not_last)) before

    is_there : (other k : ℕ) → slice_get new k ≡ Some other → at other moves ≡ Some k
    is_there other k there = go (k == place) refl
      where
        go : (t : Bool) → (k == place) ≡ t → at other moves ≡ Some k
        go true same =
            let same_place : k ≡ place = eqb-true k place same in
            let both : Some moved ≡ Some other = sym stands ∙ subst (λ (p : ℕ). slice_get new p ≡ Some other) same_place there in
            let is : moved ≡ other = cc in
            again other ∙ ap (λ (t : Bool). cond t (Some place) (at other less)) (eq-eqb moved other is) ∙ ap (λ (p : ℕ). Some p) (sym same_place)
        go false differs =
            let apart_from : k ≡ place → ⊥ = eqb-false k place differs in
            let within : k < length new = slice_get_within new k other there in
            let before = elsewhere_was place old new swapped k other apart_from there in
            let not_moved : moved ≡ other → ⊥ = λ same.
            let end = one_place found old placed other (length old - 1) k (last ∙ ap (λ (n : ℕ). Some n) same) before in
            omega (arith, within, swapped.0, end) in
            let not_own : number ≡ other → ⊥ = λ same. apart_from (sym (one_place found old placed other place k (stood ∙ ap (λ (n : ℕ). Some n) same) before)) in
            again other ∙ ap (λ (t : Bool). cond t (Some place) (at other less)) (ne_eqb moved other not_moved)
            ∙ updates other ∙ ap (λ (t : Bool). cond t None (at other found)) (ne_eqb number other not_own) ∙ placed.there other k before
