-- Of a list of aborted transactions that rises, those that decide for batches between two offsets.
use Rattle.std.proofs.Common.{◌≡◌, ℕ, zero, suc, ◌<◌, ◌≤◌, ◌+◌, ◌||◌, Bool, true, false, eqb, ltb, leb, List, [], ◌∷◌, length, get_or, take, drop, Option, refl, ap, arith}
use Rattle.std.specs.Prelude.{map}
use Rattle.std.specs.List.{All, AllByRecursion, AllWithin, HoldsAt, find}
use Rattle.std.specs.Option.{option_map_or}
use Rattle.std.proofs.lemmas.Bool.{and_parts, leb-true, le-leb, lt-ltb, ltb-true}
use Rattle.kp_model.specs.Log.{Batch}
use Rattle.kp_model.specs.Transactions.{Aborted}
use Rattle.kp_visible.specs.Filter.{covers, decides, shows}
use Rattle.kp_visible.specs.Searched.{stops}
use Rattle.kp_visible.proofs.Cutting.{cut_hides, shows_same}
use Rattle.kp_types.proofs.Elements.{all_weaker}

abbrev pub IsBetween : ℕ → ℕ → Batch → Type 0
IsBetween lowest highest b = (lowest ≤ b.base) × (b.base ≤ highest)

pub all_between : {W : Type 0} (f : W → Batch) (lowest highest : ℕ) (ws : List W) → All (λ w. (lowest ≤ (f w).base) × ((f w).base ≤ highest)) ws → AllByRecursion (IsBetween lowest highest) (map f ws)
all_between f lowest highest [] all = tt
all_between f lowest highest (w ∷ ws) all = (all 0 w (omega arith), all_between f lowest highest ws (λ k d within. all (suc k) d (omega (arith, within))))

-- ---- from the first that ends above the lowest

pub behind_shows : (list : List Aborted) (lowest highest from : ℕ) (batches : List Batch) → AllWithin (λ a. leb a.marker lowest ≡ true) list 0 from → AllByRecursion (IsBetween lowest highest) batches
    → AllByRecursion (λ b. shows (drop from list) b ≡ shows list b) batches
behind_shows list lowest highest from batches ended between =
    all_weaker (IsBetween lowest highest) (λ b. shows (drop from list) b ≡ shows list b)
    (λ b is. shows_same (drop from list) list b (λ producer. cut_hides list b.base from producer (λ k d low upto.
    let above = is.0 in
    let below = leb-true (get_or list k d).marker lowest (ended k d low upto) in
    le-leb (get_or list k d).marker b.base (omega (arith, above, below)))))
    batches between

-- ---- up to the first that decides for the highest

find_upto : {X : Type 0} (p : X → Bool) (xs : List X) (place : ℕ) → place < length xs → ((d : X) → p (get_or xs place d) ≡ true) → find p (take (suc place) xs) ≡ find p xs
find_upto p [] place within passes = absurd (omega arith)
find_upto p (x ∷ xs) zero within passes = rw (passes x) refl
find_upto p (x ∷ xs) (suc place) within passes = rw (find_upto p xs place (omega (arith, within)) passes) refl

stops_decides : (producer highest offset : ℕ) (a : Aborted) → offset ≤ highest → stops highest a ≡ true → decides producer offset a ≡ true
stops_decides producer highest offset a le stopping =
    let parts = and_parts (ltb highest a.marker) (ltb highest a.stable) stopping in
    let marker = ltb-true highest a.marker parts.0 in
    let stable = ltb-true highest a.stable parts.1 in
    let above : ltb offset a.marker ≡ true = lt-ltb offset a.marker (omega (arith, le, marker)) in
    let closed : ltb offset a.stable ≡ true = lt-ltb offset a.stable (omega (arith, le, stable)) in
    rw (above, closed) (or_true (eqb a.producer producer))
  where
    or_true : (b : Bool) → (b || true) ≡ true
    or_true true = refl
    or_true false = refl

pub upto_shows : (list : List Aborted) (lowest highest last : ℕ) (batches : List Batch) → last < length list → HoldsAt (λ a. stops highest a ≡ true) list last → AllByRecursion (IsBetween lowest highest) batches
    → AllByRecursion (λ b. shows (take (last + 1) list) b ≡ shows list b) batches
upto_shows list lowest highest last batches within stopping between =
    let next : last + 1 ≡ suc last = omega arith in
    all_weaker (IsBetween lowest highest) (λ b. shows (take (last + 1) list) b ≡ shows list b)
    (λ b is. shows_same (take (last + 1) list) list b (λ producer.
    ap (λ (o : Option Aborted). option_map_or (covers producer b.base) o false)
    (rw next (find_upto (decides producer b.base) list last within (λ d. stops_decides producer highest b.base (get_or list last d) is.1 (stopping d))))))
    batches between
