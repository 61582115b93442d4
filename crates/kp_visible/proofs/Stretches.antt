-- Stretches of batches, and the verdicts that they are.
use Rattle.std.proofs.Common.{◌≡◌, ℕ, zero, suc, ◌+◌, ◌-◌, ◌<◌, ◌≤◌, Bool, true, false, cond, leb, List, [], ◌∷◌, ◌++◌, length, get_or, take, drop, refl, sym, ap, ◌∙◌, subst, arith, append-nil, append_assoc, inl, inr}
use Rattle.std.specs.Prelude.{max, map, replicate, Option, Some, None, unwrap_or}
use Rattle.std.specs.List.{AllByRecursion, enumerate_from, filter}
use Rattle.std.specs.List.Sorted.{IsNonDecreasingBy}
use Rattle.kp_record.specs.Record.{Record}
use Rattle.kp_batch.specs.Batch.{records_of}
use Rattle.kp_model.specs.Event.{Line}
use Rattle.kp_model.specs.Reading.{lines_from}
use Rattle.kp_model.specs.Visible.{records_in}
use Rattle.kp_types.proofs.Elements.{all_front}
use Rattle.kp_visible.proofs.LineLists.{lines_from-append}
use Rattle.std.proofs.lemmas.Bool.{cases_Bool, leb-true, leb-false}
use Rattle.std.proofs.lemmas.Grind.{flat_map-append, replicate_next}
use Rattle.std.proofs.lemmas.List.{drop-drop, length-append, length-replicate, drop-map, map-append, take-append-drop, take-map}
use Rattle.kp_batch.specs.Batch.{Written}
use Rattle.kp_model.specs.Beginning.{Begins}
use Rattle.kp_model.specs.Log.{Batch, logged}
use Rattle.kp_visible.specs.Looked.{AreBehind, chosen, last_stretch, spread}
use Rattle.kp_visible.specs.declared.looked.Stretch.{Stretch}

-- ---- what is left of them from a place on

drop_replicate : {X : Type 0} (n k : ℕ) (x : X) (ys : List X) → drop n (replicate k x ++ ys) ≡ replicate (k - n) x ++ drop (n - k) ys
drop_replicate zero k x ys =
    let whole : k - 0 ≡ k = omega arith in
    let none : 0 - k ≡ 0 = omega arith in
    rw (whole, none) refl
drop_replicate (suc n) zero x ys =
    let none : 0 - suc n ≡ 0 = omega arith in
    let all : suc n - 0 ≡ suc n = omega arith in
    rw (none, all) refl
drop_replicate (suc n) (suc k) x ys =
    let left : suc k - suc n ≡ k - n = omega arith in
    let more : suc n - suc k ≡ n - k = omega arith in
    rw (left, more) (drop_replicate n k x ys)

pub spread_from : (low place first : ℕ) (stretches : List Stretch) (count : ℕ) → AreBehind low stretches count → place ≤ first → drop (first - place) (spread place stretches count) ≡ spread first stretches count
spread_from low place first [] count behind le =
    let left : (count - place) - (first - place) ≡ count - first = omega (arith, le) in
    ap (drop (first - place)) (sym (append-nil (replicate (count - place) false))) ∙ drop_replicate (first - place) (count - place) false []
    ∙ ap (λ (xs : List Bool). replicate ((count - place) - (first - place)) false ++ xs) (drop_nil ((first - place) - (count - place)))
    ∙ append-nil (replicate ((count - place) - (first - place)) false) ∙ ap (λ (n : ℕ). replicate n false) left
  where
    drop_nil : (n : ℕ) → drop n (let none : List Bool = [] in none) ≡ []
    drop_nil zero = refl
    drop_nil (suc n) = refl
spread_from low place first (s ∷ stretches) count behind le =
    let within = behind.1 in
    let n : ℕ = first - place in
    let hidden : ℕ = s.start - place in
    let shown : ℕ = s.end - max place s.start in
    let rest = spread (max place s.end) stretches count in
    let before : hidden - n ≡ s.start - first = omega (arith, le) in
    let here : shown - (n - hidden) ≡ s.end - max first s.start = omega (arith, le, within) in
    let behind_it : drop ((n - hidden) - shown) rest ≡ spread (max first s.end) stretches count = elim (cases_Bool (leb (max place s.end) first)) [
      | inl t ↦
          let below = leb-true (max place s.end) first t in
          let past : (n - hidden) - shown ≡ first - max place s.end = omega (arith, le, within, below) in
          let at : max first s.end ≡ first = omega (arith, le, within, below) in
          rw (past, at) (spread_from s.end (max place s.end) first stretches count behind.2 below)
      | inr f ↦
          let above = leb-false (max place s.end) first f in
          let none : (n - hidden) - shown ≡ 0 = omega (arith, le, within, above) in
          let at : max first s.end ≡ max place s.end = omega (arith, le, within, above) in
          rw (none, at) refl
    ] in
    drop_replicate n hidden false (replicate shown true ++ rest)
    ∙ ap (λ (xs : List Bool). replicate (hidden - n) false ++ xs) (drop_replicate (n - hidden) shown true rest)
    ∙ rw (before, here, behind_it) refl

-- those that end at the place, or before it, have nothing there
pub spread_past : (first : ℕ) (stretches more : List Stretch) (passed : ℕ) (low count : ℕ) → AreBehind low (stretches ++ more) count → AllByRecursion (λ s. s.end ≤ first) (take passed stretches)
    → spread first (stretches ++ more) count ≡ spread first (drop passed stretches ++ more) count
spread_past first stretches more zero low count behind all = refl
spread_past first [] more (suc passed) low count behind all = refl
spread_past first (s ∷ stretches) more (suc passed) low count behind all =
    let within = behind.1 in
    let ends = all.0 in
    let before : s.start - first ≡ 0 = omega (arith, within, ends) in
    let here : s.end - max first s.start ≡ 0 = omega (arith, within, ends) in
    let at : max first s.end ≡ first = omega (arith, ends) in
    rw (before, here, at) (spread_past first stretches more passed s.end count behind.2 all.1)

-- so from a place on, without those that are passed, they are what is left of all
pub left_from : (first : ℕ) (stretches more : List Stretch) (passed count : ℕ) → AreBehind 0 (stretches ++ more) count → AllByRecursion (λ s. s.end ≤ first) (take passed stretches)
    → drop first (spread 0 (stretches ++ more) count) ≡ spread first (drop (passed + 0) stretches ++ more) count
left_from first stretches more passed count behind all =
    let whole : first ≡ first - 0 = omega arith in
    let same : passed ≡ passed + 0 = omega arith in
    ap (λ (n : ℕ). drop n (spread 0 (stretches ++ more) count)) whole ∙ spread_from 0 0 first (stretches ++ more) count behind (omega arith)
    ∙ spread_past first stretches more passed 0 count behind all ∙ ap (λ (n : ℕ). spread first (drop n stretches ++ more) count) same

-- their ends rise
ends_from : (low : ℕ) (stretches more : List Stretch) (count : ℕ) → AreBehind low (stretches ++ more) count → (j : ℕ) (d : Stretch) → j < length stretches → low ≤ (get_or stretches j d).end
ends_from low [] more count behind j d within = absurd (omega (arith, within))
ends_from low (s ∷ stretches) more count behind zero d within = let from = behind.0 in let upto = behind.1 in omega (arith, from, upto)
ends_from low (s ∷ stretches) more count behind (suc j) d within =
    let from = behind.0 in
    let upto = behind.1 in
    let rest = ends_from s.end stretches more count behind.2 j d (omega (arith, within)) in
    omega (arith, from, upto, rest)

pub ends_rise : (low : ℕ) (stretches more : List Stretch) (count : ℕ) → AreBehind low (stretches ++ more) count → IsNonDecreasingBy (λ s. s.end) stretches
ends_rise low [] more count behind i j d le within = absurd (omega (arith, within))
ends_rise low (s ∷ stretches) more count behind zero zero d le within = omega arith
ends_rise low (s ∷ stretches) more count behind zero (suc j) d le within = ends_from s.end stretches more count behind.2 j d (omega (arith, within))
ends_rise low (s ∷ stretches) more count behind (suc i) zero d le within = absurd (omega (arith, le))
ends_rise low (s ∷ stretches) more count behind (suc i) (suc j) d le within = ends_rise s.end stretches more count behind.2 i j d (omega (arith, le)) (omega (arith, within))

-- ---- one more batch

pub behind_upto : (place : ℕ) (stretches : List Stretch) (count : ℕ) → AreBehind place stretches count → place ≤ count
behind_upto place [] count behind = behind
behind_upto place (s ∷ stretches) count behind = let rest = behind_upto s.end stretches count behind.2 in let from = behind.0 in let within = behind.1 in omega (arith, rest, from, within)

pub spread_length : (place : ℕ) (stretches : List Stretch) (count : ℕ) → AreBehind place stretches count → length (spread place stretches count) ≡ count - place
spread_length place [] count behind = length-replicate (count - place) false
spread_length place (s ∷ stretches) count behind =
    let from = behind.0 in
    let within = behind.1 in
    let upto = behind_upto s.end stretches count behind.2 in
    let start : max place s.start ≡ s.start = omega (arith, from) in
    let end : max place s.end ≡ s.end = omega (arith, from, within) in
    let rest = spread_length s.end stretches count behind.2 in
    let hidden = length-replicate (s.start - place) false in
    let shown = length-replicate (s.end - s.start) true in
    rw (start, end) (length-append (replicate (s.start - place) false) (replicate (s.end - s.start) true ++ spread s.end stretches count)
    ∙ (rw (length-append (replicate (s.end - s.start) true) (spread s.end stretches count), hidden, shown, rest) (omega (arith, from, within, upto))))

-- it isn't shown
pub behind_hidden : (place : ℕ) (stretches : List Stretch) (count : ℕ) → AreBehind place stretches count → AreBehind place stretches (count + 1)
behind_hidden place [] count behind = omega (arith, behind)
behind_hidden place (s ∷ stretches) count behind = (behind.0, behind.1, behind_hidden s.end stretches count behind.2)

pub spread_hidden : (place : ℕ) (stretches : List Stretch) (count : ℕ) → AreBehind place stretches count → spread place stretches (count + 1) ≡ spread place stretches count ++ false ∷ []
spread_hidden place [] count behind =
    let more : count + 1 - place ≡ count - place + 1 = omega (arith, behind) in
    ap (λ (n : ℕ). replicate n false) more ∙ replicate_next (count - place) false
spread_hidden place (s ∷ stretches) count behind =
    let from = behind.0 in
    let within = behind.1 in
    let hidden = replicate (s.start - place) false in
    let shown = replicate (s.end - max place s.start) true in
    let end : max place s.end ≡ s.end = omega (arith, from, within) in
    let rest : spread (max place s.end) stretches (count + 1) ≡ spread (max place s.end) stretches count ++ false ∷ [] = rw end (spread_hidden s.end stretches count behind.2) in
    ap (λ (xs : List Bool). hidden ++ (shown ++ xs)) rest
    ∙ sym (append_assoc hidden (shown ++ spread (max place s.end) stretches count) (false ∷ []) ∙ ap (λ (xs : List Bool). hidden ++ xs) (append_assoc shown (spread (max place s.end) stretches count) (false ∷ [])))

-- it is shown: the last stretch gets longer, or one begins
pub behind_front : (place : ℕ) (stretches : List Stretch) (start end count : ℕ) → AreBehind place (stretches ++ record { start = start; end = end } ∷ []) count → AreBehind place stretches start
behind_front place [] start end count behind = behind.0
behind_front place (s ∷ stretches) start end count behind = (behind.0, behind.1, behind_front s.end stretches start end count behind.2)

pub last_within : (place : ℕ) (stretches : List Stretch) (start end : ℕ) → AreBehind place (stretches ++ record { start = start; end = end } ∷ []) end → start ≤ end
last_within place [] start end behind = behind.1
last_within place (s ∷ stretches) start end behind = last_within s.end stretches start end behind.2

pub behind_shown : (place : ℕ) (stretches : List Stretch) (start end : ℕ) → AreBehind place stretches start → start ≤ end → AreBehind place (stretches ++ record { start = start; end = end } ∷ []) end
behind_shown place [] start end behind le = (behind, le, omega arith)
behind_shown place (s ∷ stretches) start end behind le = (behind.0, behind.1, behind_shown s.end stretches start end behind.2 le)

-- the verdicts of stretches of which the last ends with the last batch
pub spread_last : (place : ℕ) (stretches : List Stretch) (start end : ℕ) → AreBehind place stretches start → start ≤ end
    → spread place (stretches ++ record { start = start; end = end } ∷ []) end ≡ spread place stretches start ++ replicate (end - start) true
spread_last place [] start end behind le =
    let from : max place start ≡ start = omega (arith, behind) in
    let upto : end - max place end ≡ 0 = omega (arith, behind, le) in
    rw (from, upto) (ap (λ (xs : List Bool). replicate (start - place) false ++ xs) (append-nil (replicate (end - start) true)))
spread_last place (s ∷ stretches) start end behind le =
    let from = behind.0 in
    let within = behind.1 in
    let hidden = replicate (s.start - place) false in
    let shown = replicate (s.end - max place s.start) true in
    let at : max place s.end ≡ s.end = omega (arith, from, within) in
    let rest : spread (max place s.end) (stretches ++ record { start = start; end = end } ∷ []) end ≡ spread (max place s.end) stretches start ++ replicate (end - start) true = rw at (spread_last s.end stretches start end behind.2 le) in
    ap (λ (xs : List Bool). hidden ++ (shown ++ xs)) rest
    ∙ sym (append_assoc hidden (shown ++ spread (max place s.end) stretches start) (replicate (end - start) true) ∙ ap (λ (xs : List Bool). hidden ++ xs) (append_assoc shown (spread (max place s.end) stretches start) (replicate (end - start) true)))

pub spread_shown : (place : ℕ) (stretches : List Stretch) (start end : ℕ) → AreBehind place stretches start → start ≤ end
    → spread place (stretches ++ record { start = start; end = end + 1 } ∷ []) (end + 1) ≡ spread place (stretches ++ record { start = start; end = end } ∷ []) end ++ true ∷ []
spread_shown place stretches start end behind le =
    let more : end + 1 - start ≡ end - start + 1 = omega (arith, le) in
    spread_last place stretches start (end + 1) behind (omega (arith, le))
    ∙ ap (λ (n : ℕ). spread place stretches start ++ replicate n true) more ∙ ap (λ (xs : List Bool). spread place stretches start ++ xs) (replicate_next (end - start) true)
    ∙ sym (ap (λ (xs : List Bool). xs ++ true ∷ []) (spread_last place stretches start end behind le) ∙ append_assoc (spread place stretches start) (replicate (end - start) true) (true ∷ []))

-- so with the stretch that is still last
pub behind_more : (stretches : List Stretch) (last : Option ℕ) (count : ℕ) → AreBehind 0 (stretches ++ last_stretch last count) count
    → AreBehind 0 (stretches ++ last_stretch (Some (unwrap_or last count)) (count + 1)) (count + 1)
behind_more stretches None count behind = behind_shown 0 stretches count (count + 1) (subst (λ (ss : List Stretch). AreBehind 0 ss count) (append-nil stretches) behind) (omega arith)
behind_more stretches (Some start) count behind = behind_shown 0 stretches start (count + 1) (behind_front 0 stretches start count count behind) (let upto = last_within 0 stretches start count behind in omega (arith, upto))

pub spread_more : (stretches : List Stretch) (last : Option ℕ) (count : ℕ) → AreBehind 0 (stretches ++ last_stretch last count) count
    → spread 0 (stretches ++ last_stretch (Some (unwrap_or last count)) (count + 1)) (count + 1) ≡ spread 0 (stretches ++ last_stretch last count) count ++ true ∷ []
spread_more stretches None count behind =
    let one : count + 1 - count ≡ 1 = omega arith in
    spread_last 0 stretches count (count + 1) (subst (λ (ss : List Stretch). AreBehind 0 ss count) (append-nil stretches) behind) (omega arith)
    ∙ ap (λ (n : ℕ). spread 0 stretches count ++ replicate n true) one ∙ ap (λ (ss : List Stretch). spread 0 ss count ++ true ∷ []) (sym (append-nil stretches))
spread_more stretches (Some start) count behind = spread_shown 0 stretches start count (behind_front 0 stretches start count count behind) (last_within 0 stretches start count behind)

pub behind_closed : (stretches : List Stretch) (start count : ℕ) → AreBehind 0 (stretches ++ record { start = start; end = count } ∷ []) count
    → AreBehind 0 ((stretches ++ record { start = start; end = count } ∷ []) ++ []) (count + 1)
behind_closed stretches start count behind =
    subst (λ (ss : List Stretch). AreBehind 0 ss (count + 1)) (sym (append-nil (stretches ++ record { start = start; end = count } ∷ []))) (behind_hidden 0 (stretches ++ record { start = start; end = count } ∷ []) count behind)

pub spread_closed : (stretches : List Stretch) (start count : ℕ) → AreBehind 0 (stretches ++ record { start = start; end = count } ∷ []) count
    → spread 0 ((stretches ++ record { start = start; end = count } ∷ []) ++ []) (count + 1) ≡ spread 0 (stretches ++ record { start = start; end = count } ∷ []) count ++ false ∷ []
spread_closed stretches start count behind =
    ap (λ (ss : List Stretch). spread 0 ss (count + 1)) (append-nil (stretches ++ record { start = start; end = count } ∷ []))
    ∙ spread_hidden 0 (stretches ++ record { start = start; end = count } ∷ []) count behind

-- ---- the batches that they choose

chosen_none : (verdicts : List Bool) → chosen verdicts [] ≡ []
chosen_none [] = refl
chosen_none (shown ∷ verdicts) = refl

chosen_hidden : (n : ℕ) (verdicts : List Bool) (batches : List Batch) → chosen (replicate n false ++ verdicts) batches ≡ chosen verdicts (drop n batches)
chosen_hidden zero verdicts batches = refl
chosen_hidden (suc n) verdicts [] = sym (chosen_none verdicts)
chosen_hidden (suc n) verdicts (b ∷ batches) = chosen_hidden n verdicts batches

chosen_shown : (n : ℕ) (verdicts : List Bool) (batches : List Batch) → chosen (replicate n true ++ verdicts) batches ≡ take n batches ++ chosen verdicts (drop n batches)
chosen_shown zero verdicts batches = refl
chosen_shown (suc n) verdicts [] = sym (chosen_none verdicts)
chosen_shown (suc n) verdicts (b ∷ batches) = ap (λ (bs : List Batch). b ∷ bs) (chosen_shown n verdicts batches)

pub chosen_end : (place count : ℕ) (batches : List Batch) → chosen (spread place [] count) batches ≡ []
chosen_end place count batches = ap (λ (vs : List Bool). chosen vs batches) (sym (append-nil (replicate (count - place) false))) ∙ chosen_hidden (count - place) [] batches

pub chosen_stretch : (place : ℕ) (s : Stretch) (stretches : List Stretch) (count : ℕ) (batches : List Batch) → s.start ≤ s.end
    → chosen (spread place (s ∷ stretches) count) (drop place batches)
    ≡ take (s.end - max place s.start) (drop (max place s.start) batches) ++ chosen (spread (max place s.end) stretches count) (drop (max place s.end) batches)
chosen_stretch place s stretches count batches within =
    let from : ℕ = max place s.start in
    let shown : ℕ = s.end - from in
    let rest = spread (max place s.end) stretches count in
    let there : place + (s.start - place) ≡ from = omega arith in
    let behind : from + shown ≡ max place s.end = omega (arith, within) in
    chosen_hidden (s.start - place) (replicate shown true ++ rest) (drop place batches)
    ∙ ap (λ (bs : List Batch). chosen (replicate shown true ++ rest) bs) (drop_twice place (s.start - place) from batches there)
    ∙ chosen_shown shown rest (drop from batches)
    ∙ ap (λ (bs : List Batch). take shown (drop from batches) ++ chosen rest bs) (drop_twice from shown (max place s.end) batches behind)
  where
    drop_twice : (m n k : ℕ) (bs : List Batch) → m + n ≡ k → drop n (drop m bs) ≡ drop k bs
    drop_twice m n k bs e = drop-drop n m bs ∙ ap (λ (i : ℕ). drop i bs) e

pub chosen_filter : (p : Batch → Bool) (batches : List Batch) → chosen (map p batches) batches ≡ filter p batches
chosen_filter p [] = refl
chosen_filter p (b ∷ batches) = ap (λ (bs : List Batch). cond (p b) (b ∷ bs) bs) (chosen_filter p batches)

-- ---- the lines of those

each_within : (place : ℕ) (stretches : List Stretch) (count : ℕ) → AreBehind place stretches count → AllByRecursion (λ s. (s.start ≤ s.end) × (s.end ≤ count)) stretches
each_within place [] count behind = tt
each_within place (s ∷ stretches) count behind = ((behind.1, behind_upto s.end stretches count behind.2), each_within s.end stretches count behind.2)

-- the one at a place
pub stretch_at : (stretches more : List Stretch) (count i : ℕ) (s other : Stretch) → AreBehind 0 (stretches ++ more) count → i < length stretches → s ≡ get_or stretches i other
    → (s.start ≤ s.end) × (s.end ≤ count) × (drop i stretches ++ more ≡ s ∷ (drop (i + 1) stretches ++ more))
stretch_at stretches more count i s other behind within is =
    let each = all_front (λ (t : Stretch). (t.start ≤ t.end) × (t.end ≤ count)) stretches more (each_within 0 (stretches ++ more) count behind) in
    let here = at stretches i each within in
    let fits : (s.start ≤ s.end) × (s.end ≤ count) = subst (λ (t : Stretch). (t.start ≤ t.end) × (t.end ≤ count)) (sym is) (here.0, here.1) in
    (fits.0, fits.1, ap (λ (ss : List Stretch). ss ++ more) here.2 ∙ ap (λ (t : Stretch). t ∷ (drop (i + 1) stretches ++ more)) (sym is))
  where
    at : (ss : List Stretch) (n : ℕ) → AllByRecursion (λ (t : Stretch). (t.start ≤ t.end) × (t.end ≤ count)) ss → n < length ss
        → ((get_or ss n other).start ≤ (get_or ss n other).end) × ((get_or ss n other).end ≤ count) × (drop n ss ≡ get_or ss n other ∷ drop (n + 1) ss)
    at [] n all lt = absurd (omega (arith, lt))
    at (t ∷ ts) zero all lt = (all.0.0, all.0.1, refl)
    at (t ∷ ts) (suc n) all lt = let next : suc n + 1 ≡ suc (n + 1) = omega arith in rw next (at ts n all.1 (omega (arith, lt)))

-- what is still to come
abbrev pub lines_left : (from place : ℕ) → List Stretch → (count : ℕ) → List Written → List Line
lines_left from place stretches count batches = lines_from from (records_in (chosen (spread place stretches count) (drop place (map logged batches))))

pub one_stretch : (from place : ℕ) (s : Stretch) (stretches : List Stretch) (count : ℕ) (batches : List Written) (before after all : List Line) → s.start ≤ s.end
    → before ++ lines_left from place (s ∷ stretches) count batches ≡ all
    → after ≡ before ++ lines_from from (records_in (map logged (take (s.end - max place s.start) (drop (max place s.start) batches))))
    → after ++ lines_left from (max place s.end) stretches count batches ≡ all
one_stretch from place s stretches count batches before after all within was grown =
    let start : ℕ = max place s.start in
    let there = take (s.end - start) (drop start (map logged batches)) in
    let rest = chosen (spread (max place s.end) stretches count) (drop (max place s.end) (map logged batches)) in
    let here : map logged (take (s.end - start) (drop start batches)) ≡ there = sym (take-map logged (s.end - start) (drop start batches)) ∙ ap (λ (bs : List Batch). take (s.end - start) bs) (sym (drop-map logged start batches)) in
    let split : lines_left from place (s ∷ stretches) count batches ≡ lines_from from (records_in there) ++ lines_from from (records_in rest) =
    ap (λ (bs : List Batch). lines_from from (records_in bs)) (chosen_stretch place s stretches count (map logged batches) within)
    ∙ ap (λ (rs : List (ℕ × Record)). lines_from from rs) (flat_map-append (λ (b : Batch). enumerate_from b.base (records_of b.body)) there rest)
    ∙ lines_from-append from (records_in there) (records_in rest) in
    ap (λ (ls : List Line). ls ++ lines_from from (records_in rest)) (grown ∙ ap (λ (bs : List Batch). before ++ lines_from from (records_in bs)) here)
    ∙ append_assoc before (lines_from from (records_in there)) (lines_from from (records_in rest))
    ∙ ap (λ (ls : List Line). before ++ ls) (sym split) ∙ was

pub no_stretch : (from place count : ℕ) (batches : List Written) (before all : List Line) → before ++ lines_left from place [] count batches ≡ all → before ≡ all
no_stretch from place count batches before all was =
    sym (append-nil before) ∙ ap (λ (bs : List Batch). before ++ lines_from from (records_in bs)) (sym (chosen_end place count (drop place (map logged batches)))) ∙ was

-- ---- batches that come next are looked at

-- the first ones
pub begun_by : (p : Batch → Bool) (old new : List Bool) (batches : List Written) (n : ℕ) → new ≡ old ++ map p (map logged (take n batches)) → Begins new (old ++ map p (map logged batches))
begun_by p old new batches n is = record {
  rest = map p (map logged (drop n batches));
  is = ap (λ (vs : List Bool). vs ++ map p (map logged (drop n batches))) is ∙ append_assoc old (map p (map logged (take n batches))) (map p (map logged (drop n batches)))
      ∙ ap (λ (vs : List Bool). old ++ vs) (sym (map-append p (map logged (take n batches)) (map logged (drop n batches)))
      ∙ ap (map p) (sym (map-append logged (take n batches) (drop n batches)) ∙ ap (map logged) (take-append-drop n batches)));
}

-- one more
pub looked_one : (p : Batch → Bool) (old before new : List Bool) (batches : List Written) (n : ℕ) (w : Written) (shown : Bool) → before ≡ old ++ map p (map logged (take n batches))
    → take (n + 1) batches ≡ take n batches ++ w ∷ [] → shown ≡ p (logged w) → new ≡ before ++ shown ∷ [] → new ≡ old ++ map p (map logged (take (n + 1) batches))
looked_one p old before new batches n w shown was more is grown =
    grown ∙ ap (λ (vs : List Bool). vs ++ shown ∷ []) was ∙ append_assoc old (map p (map logged (take n batches))) (shown ∷ [])
    ∙ ap (λ (vs : List Bool). old ++ vs) (ap (λ (v : Bool). map p (map logged (take n batches)) ++ v ∷ []) is
    ∙ sym (ap (λ (ws : List Written). map p (map logged ws)) more ∙ ap (map p) (map-append logged (take n batches) (w ∷ [])) ∙ map-append p (map logged (take n batches)) (logged w ∷ [])))
