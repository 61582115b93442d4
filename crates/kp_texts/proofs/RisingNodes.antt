-- Laws of nodes in rising order, and of their text.
use Rattle.std.proofs.Common.{◌≡◌, ℕ, ◌+◌, ◌<◌, ◌≤◌, ◌^◌, List, [], ◌∷◌, ◌++◌, length, map, ltb, subst, refl, sym, ap, arith}
use Rattle.std.proofs.lemmas.Bool.{lt-ltb, le-ltb}
use Rattle.std.proofs.lemmas.Fmt.{decimal_injective}
use Rattle.std.specs.Fmt.{decimal}
use Rattle.std.specs.List.{AllByRecursion, filter}
use Rattle.kp_model.specs.Controller.{with_member}
use Rattle.kp_model.specs.Step.{Rise}
use Rattle.kp_words.specs.Words.{Lacks}
use Rattle.kp_words.proofs.Commas.{lacks_joined}
use Rattle.kp_words.proofs.Numbers.{decimal_lacks}
use Rattle.kp_texts.specs.Texts.{listed}
use Rattle.kp_texts.proofs.Pieces.{all_map}

-- the number after the last one
abbrev pub next_after : ℕ → List ℕ → ℕ
next_after low [] = low
next_after low (m ∷ ms) = next_after (m + 1) ms

rise_least : (low high : ℕ) (ms : List ℕ) → Rise low high ms → low ≤ next_after low ms
rise_least low high [] rises = omega arith
rise_least low high (m ∷ ms) rises = let more = rise_least (m + 1) high ms rises.2 in omega (arith, rises.0, more)

pub rise_push : (low high : ℕ) (ms : List ℕ) (n : ℕ) → Rise low high ms → next_after low ms ≤ n → n < high → Rise low high (ms ++ n ∷ [])
rise_push low high [] n rises least most = (least, most, tt)
rise_push low high (m ∷ ms) n rises least most = (rises.0, rises.1, rise_push (m + 1) high ms n rises.2 least most)

pub next_push : (low : ℕ) (ms : List ℕ) (n : ℕ) → next_after low (ms ++ n ∷ []) ≡ n + 1
next_push low [] n = refl
next_push low (m ∷ ms) n = next_push (m + 1) ms n

-- all are below the next one
all_below : (low high : ℕ) (ms : List ℕ) (n : ℕ) → Rise low high ms → next_after low ms ≤ n → (filter (λ x. ltb x n) ms ≡ ms) × (filter (λ x. ltb n x) ms ≡ [])
all_below low high [] n rises least = (refl, refl)
all_below low high (m ∷ ms) n rises least =
    let above = rise_least (m + 1) high ms rises.2 in
    let rest = all_below (m + 1) high ms n rises.2 least in
    (rw (lt-ltb m n (omega (arith, above, least)), rest.0) refl, rw (le-ltb n m (omega (arith, above, least)), rest.1) refl)

-- a node behind the others
pub with_last : (low high : ℕ) (ms : List ℕ) (n : ℕ) → Rise low high ms → next_after low ms ≤ n → with_member n ms ≡ ms ++ n ∷ []
with_last low high ms n rises least =
    let below = all_below low high ms n rises least in
    rw (below.0, below.1) refl

pub rise_bounds : (low high : ℕ) (ms : List ℕ) → Rise low high ms → AllByRecursion (λ m. m < high) ms
rise_bounds low high [] rises = tt
rise_bounds low high (m ∷ ms) rises = (rises.1, rise_bounds (m + 1) high ms rises.2)

-- the node whose text is the piece behind those of the nodes so far
pub next_named : (low high : ℕ) (done ms : List ℕ) (piece : List ℕ) (more : List (List ℕ)) → high < 2 ^ 64 → Rise low high done → Rise low high ms → map decimal done ++ piece ∷ more ≡ map decimal ms →
    (n : ℕ) × (next_after low done ≤ n) × (n < high) × (piece ≡ decimal n)
next_named low high [] [] piece more fits p q e = absurd (omega (arith, ap length e))
next_named low high [] (m ∷ ms) piece more fits p q e = let same : piece ≡ decimal m = cc in (m, q.0, q.1, same)
next_named low high (d ∷ done) [] piece more fits p q e = absurd (omega (arith, ap length e))
next_named low high (d ∷ done) (m ∷ ms) piece more fits p q e =
    let head : decimal d ≡ decimal m = cc in
    let rest : map decimal done ++ piece ∷ more ≡ map decimal ms = cc in
    let same : d ≡ m = decimal_injective d m (omega (arith, p.1)) (omega (arith, q.1)) head in
    next_named (d + 1) high done ms piece more fits p.2 (subst (λ (k : ℕ). Rise (k + 1) high ms) (sym same) q.2) rest

-- ---- their text

pub node_lacks : (c high : ℕ) → c < 48 → high < 2 ^ 64 → (n : ℕ) → n < high → Lacks c (decimal n)
node_lacks c high low fits n below = decimal_lacks c n low (omega arith)

-- no space stands in it
pub members_lack : (nodes : ℕ) (ms : List ℕ) → nodes < 2 ^ 64 → Rise 0 nodes ms → Lacks 32 (listed (map decimal ms))
members_lack nodes [] fits rises =
    ((λ (e : 110 ≡ 32). absurd (omega (arith, e))), ((λ (e : 111 ≡ 32). absurd (omega (arith, e))), ((λ (e : 110 ≡ 32). absurd (omega (arith, e))), ((λ (e : 101 ≡ 32). absurd (omega (arith, e))), tt))))
members_lack nodes (m ∷ ms) fits rises =
    lacks_joined 32 (map decimal (m ∷ ms)) (λ (e : 44 ≡ 32). absurd (omega (arith, e)))
    (all_map decimal (λ n. n < nodes) (Lacks 32) (node_lacks 32 nodes (omega arith) fits) (m ∷ ms) (rise_bounds 0 nodes (m ∷ ms) rises))
