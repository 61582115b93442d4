-- Laws of the pieces of a text between its commas.
use Rattle.std.proofs.Common.{◌≡◌, ◌≢◌, ℕ, ◌<◌, eqb, false, List, [], ◌∷◌, ◌++◌, refl, sym, ap, ◌∙◌, arith, length}
use Rattle.std.proofs.lemmas.Bool.{ne_eqb}
use Rattle.std.proofs.lemmas.List.Elements.{All-from_recursion}
use Rattle.std.proofs.lemmas.List.Splits.{slice_split_none, slice_split_at, length-slice_split, join_with_byte-slice_split}
use Rattle.std.specs.List.{AllByRecursion, join_with_byte}
use Rattle.kp_words.specs.Words.{Lacks, pieces}
use Rattle.kp_words.proofs.Splitting.{lacks_append}

-- a text is its pieces, joined
pub pieces_back : (text : List ℕ) → text ≡ join_with_byte 44 (pieces text)
pieces_back text = sym (join_with_byte-slice_split 44 text)

-- a text has a piece
pub some_piece : (text : List ℕ) → 0 < length (pieces text)
some_piece text = omega (arith, length-slice_split (λ (x : ℕ). eqb x 44) text)

no_comma_in : (text : List ℕ) → Lacks 44 text → AllByRecursion (λ x. eqb x 44 ≡ false) text
no_comma_in [] lacks = tt
no_comma_in (x ∷ xs) lacks = (ne_eqb x 44 lacks.0, no_comma_in xs lacks.1)

-- a text without a comma is one piece
pub one_piece : (text : List ℕ) → Lacks 44 text → pieces text ≡ text ∷ []
one_piece text lacks =
    slice_split_none (λ (x : ℕ). eqb x 44) text (All-from_recursion (λ (x : ℕ). eqb x 44 ≡ false) text (no_comma_in text lacks))

-- the first piece ends at the first comma
pub first_piece : (front rest : List ℕ) → Lacks 44 front → pieces (front ++ 44 ∷ rest) ≡ front ∷ pieces rest
first_piece front rest lacks =
    slice_split_at (λ (x : ℕ). eqb x 44) front 44 rest (All-from_recursion (λ (x : ℕ). eqb x 44 ≡ false) front (no_comma_in front lacks)) refl

-- words without a comma are the pieces of what they are joined to
pub joined_pieces : (words : List (List ℕ)) → 0 < length words → AllByRecursion (Lacks 44) words → pieces (join_with_byte 44 words) ≡ words
joined_pieces [] some all = absurd (omega (arith, some))
joined_pieces (word ∷ []) some all = one_piece word all.0
joined_pieces (word ∷ next ∷ words) some all =
    first_piece word (join_with_byte 44 (next ∷ words)) all.0
    ∙ ap (λ (ws : List (List ℕ)). word ∷ ws) (joined_pieces (next ∷ words) (omega arith) all.1)

-- what no word has no joined words have
pub lacks_joined : (c : ℕ) (words : List (List ℕ)) → 44 ≢ c → AllByRecursion (Lacks c) words → Lacks c (join_with_byte 44 words)
lacks_joined c [] other all = tt
lacks_joined c (word ∷ []) other all = all.0
lacks_joined c (word ∷ next ∷ words) other all =
    lacks_append c word (44 ∷ join_with_byte 44 (next ∷ words)) all.0 (other, lacks_joined c (next ∷ words) other all.1)
