-- Laws of values and the commas between them: a text has one list of values, and values have one text.
use Rattle.std.proofs.Common.{◌≡◌, ℕ, ◌<◌, Bool, true, false, not, cond, ◌&&◌, eqb, leb, List, [], ◌∷◌, ◌++◌, All, refl, sym, ap, ◌∙◌, arith, length}
use Rattle.std.proofs.lemmas.Bool.{and_parts, eqb-false, not-true, le-leb}
use Rattle.std.proofs.lemmas.List.Elements.{All-from_recursion}
use Rattle.std.proofs.lemmas.List.Splits.{slice_split_none, slice_split_at}
use Rattle.std.specs.List.{list_all, onto_first, AllByRecursion}
use Rattle.kp_script.specs.Call.{is_value_byte, is_value, values_text}
use Rattle.kp_words.specs.Words.{pieces, Lacks}
use Rattle.kp_script.specs.Read.{goes_on}
use Rattle.kp_words.proofs.Commas.{one_piece, pieces_back, some_piece}
use Rattle.kp_script.specs.Seen.{seen_values}

lacks_commas : (value : List ℕ) → list_all is_value_byte value ≡ true → AllByRecursion (λ x. eqb x 44 ≡ false) value
lacks_commas [] all = tt
lacks_commas (x ∷ xs) all =
    let parts = and_parts (is_value_byte x) (list_all is_value_byte xs) all in
    let last = and_parts (leb 33 x && leb x 126) (not (eqb x 44)) parts.0 in
    (not-true (eqb x 44) last.1, lacks_commas xs parts.1)

-- no byte of a value is a comma
pub no_commas : (value : List ℕ) → is_value value ≡ true → All (λ x. eqb x 44 ≡ false) value
no_commas value lawful =
    All-from_recursion (λ (x : ℕ). eqb x 44 ≡ false) value
    (lacks_commas value (and_parts (leb 1 (length value)) (list_all is_value_byte value) lawful).1)

-- values are the pieces of their text
pub values_back : (values : List (List ℕ)) → 0 < length values → list_all is_value values ≡ true → pieces (values_text values) ≡ values
values_back [] some all = absurd (omega arith)
values_back (value ∷ []) some all =
    slice_split_none (λ (x : ℕ). eqb x 44) value (no_commas value (and_parts (is_value value) true all).0)
values_back (value ∷ next ∷ values) some all =
    let parts = and_parts (is_value value) (list_all is_value (next ∷ values)) all in
    slice_split_at (λ (x : ℕ). eqb x 44) value 44 (values_text (next ∷ values)) (no_commas value parts.0) refl
    ∙ ap (λ (vs : List (List ℕ)). value ∷ vs) (values_back (next ∷ values) (omega arith) parts.1)

-- also where it is one value
pub seen_back : (lone : Bool) (text : List ℕ) → text ≡ values_text (seen_values lone text)
seen_back true text = refl
seen_back false text = pieces_back text

-- ---- values read from the front

-- Whether pieces are values, where the first one has begun.
abbrev are_begun : List (List ℕ) → Bool
are_begun [] = true
are_begun (piece ∷ rest) = list_all is_value_byte piece && list_all is_value rest

both : (a b c : Bool) → (a && (b && c)) ≡ ((a && b) && c)
both true b c = refl
both false b c = refl

onto_begun : (x : ℕ) (ps : List (List ℕ)) → 0 < length ps →
    ((is_value_byte x && are_begun ps) ≡ are_begun (onto_first x ps)) × ((is_value_byte x && are_begun ps) ≡ list_all is_value (onto_first x ps))
onto_begun x [] some = absurd (omega arith)
onto_begun x (p ∷ ps) some =
    let here = both (is_value_byte x) (list_all is_value_byte p) (list_all is_value ps) in
    let long : leb 1 (length (x ∷ p)) ≡ true = le-leb 1 (length (x ∷ p)) (omega arith) in
    (here, rw long here)

one_more : (comma : Bool) (x : ℕ) (whole begun : Bool) (ps : List (List ℕ)) → begun ≡ are_begun ps → whole ≡ list_all is_value ps → 0 < length ps →
    (cond comma (true && whole) (is_value_byte x && begun) ≡ are_begun (cond comma ([] ∷ ps) (onto_first x ps)))
    × (cond comma (false && whole) (is_value_byte x && begun) ≡ list_all is_value (cond comma ([] ∷ ps) (onto_first x ps)))
one_more true x whole begun ps e f some = (f, refl)
one_more false x whole begun ps e f some =
    let onto = onto_begun x ps some in
    (ap (λ (b : Bool). is_value_byte x && b) e ∙ onto.0, ap (λ (b : Bool). is_value_byte x && b) e ∙ onto.1)

values_go_on : (xs : List ℕ) → (goes_on true xs ≡ are_begun (pieces xs)) × (goes_on false xs ≡ list_all is_value (pieces xs))
values_go_on [] = (refl, refl)
values_go_on (x ∷ xs) =
    let rest = values_go_on xs in
    one_more (eqb x 44) x (goes_on false xs) (goes_on true xs) (pieces xs) rest.0 rest.1 (some_piece xs)

-- Pieces are values just where the bytes go on with values from the front.
pub values_from : (xs : List ℕ) → goes_on false xs ≡ list_all is_value (pieces xs)
values_from xs = (values_go_on xs).1

value_byte : (begun : Bool) (x : ℕ) (rest : List ℕ) → is_value_byte x ≡ true → goes_on begun (x ∷ rest) ≡ goes_on true rest
value_byte begun x rest is =
    let parts = and_parts (leb 33 x && leb x 126) (not (eqb x 44)) is in
    ap (λ (comma : Bool). cond comma (begun && goes_on false rest) (is_value_byte x && goes_on true rest)) (not-true (eqb x 44) parts.1)
    ∙ ap (λ (lawful : Bool). lawful && goes_on true rest) is

-- bytes of a value in front
pub gone_on : (begun : Bool) (front rest : List ℕ) → list_all is_value_byte front ≡ true → 0 < length front → goes_on begun (front ++ rest) ≡ goes_on true rest
gone_on begun [] rest all some = absurd (omega (arith, some))
gone_on begun (x ∷ []) rest all some = value_byte begun x rest (and_parts (is_value_byte x) true all).0
gone_on begun (x ∷ y ∷ ys) rest all some =
    let parts = and_parts (is_value_byte x) (list_all is_value_byte (y ∷ ys)) all in
    value_byte begun x (y ∷ ys ++ rest) parts.0 ∙ gone_on true (y ∷ ys) rest parts.1 (omega arith)

-- ---- commas

-- what has another byte at each place lacks the byte
pub lacks_from : (byte : ℕ) (xs : List ℕ) → list_all (λ x. not (eqb x byte)) xs ≡ true → Lacks byte xs
lacks_from byte [] all = tt
lacks_from byte (x ∷ xs) all =
    let parts = and_parts (not (eqb x byte)) (list_all (λ x. not (eqb x byte)) xs) all in
    (eqb-false x byte (not-true (eqb x byte) parts.0), lacks_from byte xs parts.1)

abbrev pub no_comma : List ℕ → Bool
no_comma xs = list_all (λ x. not (eqb x 44)) xs

-- none stands in bytes of a value in front
pub commas_behind : (front rest : List ℕ) → list_all is_value_byte front ≡ true → no_comma (front ++ rest) ≡ no_comma rest
commas_behind [] rest all = refl
commas_behind (x ∷ xs) rest all =
    let parts = and_parts (is_value_byte x) (list_all is_value_byte xs) all in
    let last = and_parts (leb 33 x && leb x 126) (not (eqb x 44)) parts.0 in
    ap (λ (b : Bool). b && no_comma (xs ++ rest)) last.1 ∙ commas_behind xs rest parts.1

-- what has no comma is one value
pub lone_is : (lone : Bool) (values : List ℕ) → lone ≡ no_comma values → seen_values lone values ≡ pieces values
lone_is true values e = sym (one_piece values (lacks_from 44 values (sym e)))
lone_is false values e = refl

-- what is one value
pub seen_lone : (lone : Bool) (values : List ℕ) → lone ≡ true → seen_values lone values ≡ values ∷ []
seen_lone lone values is = ap (λ (one : Bool). seen_values one values) is
