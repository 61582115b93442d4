-- Laws of the first place at which a byte stands.
use Rattle.std.proofs.Common.{◌≡◌, ◌≢◌, ℕ, zero, suc, ◌+◌, ◌<◌, List, [], ◌∷◌, ◌++◌, refl, sym, ap, ◌∙◌, arith, length, get_or, take, drop}
use Rattle.std.proofs.lemmas.List.{take-append-drop, drop_more}
use Rattle.kp_words.specs.Words.{Lacks}

-- a front in which the byte was not met
pub lacks_front : (c i : ℕ) (xs : List ℕ) → ((k : ℕ) → k < i → get_or xs k 0 ≢ c) → Lacks c (take i xs)
lacks_front c zero xs h = tt
lacks_front c (suc i) [] h = tt
lacks_front c (suc i) (x ∷ xs) h = (h 0 (omega arith), lacks_front c i xs (λ k lt. h (suc k) (omega arith)))

-- bytes in which the byte was not met
pub lacks_all : (c : ℕ) (xs : List ℕ) → ((k : ℕ) → k < length xs → get_or xs k 0 ≢ c) → Lacks c xs
lacks_all c [] h = tt
lacks_all c (x ∷ xs) h = (h 0 (omega arith), lacks_all c xs (λ k lt. h (suc k) (omega arith)))

-- what stands on both sides of a byte
pub parted_at : (c i : ℕ) (xs : List ℕ) → i < length xs → get_or xs i 0 ≡ c → xs ≡ take i xs ++ c ∷ drop (i + 1) xs
parted_at c i xs lt e =
    sym (take-append-drop i xs)
    ∙ ap (λ (rest : List ℕ). take i xs ++ rest) (drop_more xs i 0 lt ∙ ap (λ (x : ℕ). x ∷ drop (i + 1) xs) e)

-- there is one first place
pub one_parting : (c : ℕ) (a x b y : List ℕ) → Lacks c a → Lacks c x → a ++ c ∷ b ≡ x ++ c ∷ y → (a ≡ x) × (b ≡ y)
one_parting c [] [] b y p q e = (refl, cc)
one_parting c [] (x ∷ xs) b y p q e = let head : x ≡ c = cc in absurd (q.0 head)
one_parting c (a ∷ as') [] b y p q e = let head : a ≡ c = cc in absurd (p.0 head)
one_parting c (a ∷ as') (x ∷ xs) b y p q e =
    let head : a ≡ x = cc in
    let tail : as' ++ c ∷ b ≡ xs ++ c ∷ y = cc in
    let rest = one_parting c as' xs b y p.1 q.1 tail in
    (ap (λ (h : ℕ). h ∷ as') head ∙ ap (λ (t : List ℕ). x ∷ t) rest.0, rest.1)

-- bytes without the byte have no such place
pub no_parting : (c : ℕ) (xs a b : List ℕ) → Lacks c xs → xs ≡ a ++ c ∷ b → ⊥
no_parting c [] [] b p e = absurd (omega (arith, ap length e))
no_parting c [] (a ∷ as') b p e = absurd (omega (arith, ap length e))
no_parting c (x ∷ xs) [] b p e = let head : x ≡ c = cc in p.0 head
no_parting c (x ∷ xs) (a ∷ as') b p e = let tail : xs ≡ as' ++ c ∷ b = cc in no_parting c xs as' b p.1 tail

-- what lacks a byte, one behind the other
pub lacks_append : (byte : ℕ) (xs ys : List ℕ) → Lacks byte xs → Lacks byte ys → Lacks byte (xs ++ ys)
lacks_append byte [] ys h k = k
lacks_append byte (x ∷ xs) ys h k = (h.0, lacks_append byte xs ys h.1 k)
