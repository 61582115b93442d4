-- Laws of a list that is read piece by piece.
use Rattle.std.proofs.Common.{◌≡◌, ◌≢◌, ℕ, List, [], ◌∷◌, ◌++◌, codes, length, map, sym, ap, ◌∙◌, arith, append_assoc}
use Rattle.std.proofs.lemmas.List.{map-append}
use Rattle.std.specs.List.{AllByRecursion, join_with_byte}
use Rattle.kp_words.specs.Words.{Lacks, pieces}
use Rattle.kp_words.proofs.Commas.{first_piece, joined_pieces, pieces_back, some_piece}
use Rattle.kp_texts.specs.Texts.{listed}

-- a piece that was read is a value's text
pub piece_of : {A : Type 0} (f : A → List ℕ) (R : A → Type 0) (done : List (List ℕ)) (piece : List ℕ) (more : List (List ℕ)) (xs : List A) → done ++ piece ∷ more ≡ map f xs → AllByRecursion R xs →
    (x : A) × R x × (piece ≡ f x)
piece_of f R [] piece more [] e all = absurd (omega (arith, ap length e))
piece_of f R [] piece more (x ∷ xs) e all = let same : piece ≡ f x = cc in (x, all.0, same)
piece_of f R (d ∷ done) piece more [] e all = absurd (omega (arith, ap length e))
piece_of f R (d ∷ done) piece more (x ∷ xs) e all = let rest : done ++ piece ∷ more ≡ map f xs = cc in piece_of f R done piece more xs rest all.1

-- the first of the pieces that are left
pub next_piece : (rest piece others : List ℕ) → rest ≡ piece ++ 44 ∷ others → Lacks 44 piece → pieces rest ≡ piece ∷ pieces others
next_piece rest piece others e lacks = ap pieces e ∙ first_piece piece others lacks

-- one value more
pub told_more : {A : Type 0} (f : A → List ℕ) (items now : List A) (x : A) (piece : List ℕ) (left : List (List ℕ)) (whole : List (List ℕ)) → now ≡ items ++ x ∷ [] → piece ≡ f x →
    map f items ++ piece ∷ left ≡ whole → map f now ++ left ≡ whole
told_more f items now x piece left whole p q e =
    ap (λ (l : List (List ℕ)). l ++ left) (ap (map f) p ∙ map-append f items (x ∷ []))
    ∙ append_assoc (map f items) (f x ∷ []) left
    ∙ ap (λ (w : List ℕ). map f items ++ w ∷ left) (sym q) ∙ e

-- words whose texts are the pieces are what is listed
pub listed_back : (word : List ℕ) (words : List (List ℕ)) → pieces word ≡ words → word ≡ listed words
listed_back word [] e = absurd (omega (arith, ap length e, some_piece word))
listed_back word (w ∷ ws) e = pieces_back word ∙ ap (join_with_byte 44) e

-- the pieces of what is listed
pub listed_pieces : (w : List ℕ) (ws : List (List ℕ)) (word : List ℕ) → AllByRecursion (Lacks 44) (w ∷ ws) → word ≡ listed (w ∷ ws) → pieces word ≡ w ∷ ws
listed_pieces w ws word all e = ap pieces e ∙ joined_pieces (w ∷ ws) (omega arith) all

pub all_map : {A : Type 0} (f : A → List ℕ) (R : A → Type 0) (Q : List ℕ → Type 0) → ((x : A) → R x → Q (f x)) → (xs : List A) → AllByRecursion R xs → AllByRecursion Q (map f xs)
all_map f R Q each [] all = tt
all_map f R Q each (x ∷ xs) all = (each x all.0, all_map f R Q each xs all.1)

-- what isn't `none`, and whose pieces are no values' texts, isn't what is listed
pub not_listed : {A : Type 0} (f : A → List ℕ) (R : A → Type 0) (word : List ℕ) → ((x : A) → R x → Lacks 44 (f x)) → word ≢ codes "none" → (xs : List A) → AllByRecursion R xs → (pieces word ≢ map f xs) → word ≢ listed (map f xs)
not_listed f R word lacks other [] all pieces_differ e = other e
not_listed f R word lacks other (x ∷ xs) all pieces_differ e =
    pieces_differ (listed_pieces (f x) (map f xs) word (lacks x all.0, all_map f R (Lacks 44) lacks xs all.1) e)
