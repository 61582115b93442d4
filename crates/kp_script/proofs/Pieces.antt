-- Laws of a line that is read in pieces.
use Rattle.std.proofs.Common.{◌≡◌, ◌∙◌, ◌≢◌, ℕ, zero, suc, ◌+◌, ◌-◌, ◌<◌, ◌≤◌, min, List, [], ◌∷◌, ◌++◌, Option, None, Some, length, take, refl, sym, ap, subst, arith, append_assoc, append-nil}
use Rattle.std.specs.Prelude.{IfSome}
use Rattle.std.specs.Io.{StartsWith}
use Rattle.std.specs.Io.BufRead.{DropsConsumable}
use Rattle.std.specs.Io.KnownBytes.{Consumes, IsAtEnd, Keeps}
use Rattle.std.proofs.BufReadLemmas.{Consumes_shown}
use Rattle.std.proofs.KnownBytes.{Consumes-trans}
use Rattle.std.proofs.Math.Seq.{take-append-add}
use Rattle.std.proofs.lemmas.List.{length-take}
use Rattle.kp_types.proofs.Fronts.{trimmed}
use Rattle.kp_script.specs.Lines.{sent_lines}
use Rattle.kp_words.specs.Words.{Lacks}
use Rattle.kp_script.specs.Reads.{Gives, Reads, ReadsInto}
use Rattle.kp_script.specs.declared.reader.Piece.{Piece}
use Rattle.kp_script.proofs.LineLaws.{sent_first, sent_last}

-- a list takes as much of more bytes as it has room for
pub filled : (n : ℕ) (was part : List ℕ) → length was ≤ n → was ++ take (min (length part) (n - length was)) part ≡ take n (was ++ part)
filled n was part fits =
    let k = n - length was in
    let shorter : min (length part) k ≡ length (take k part) = omega (arith, length-take k part) in
    let whole : length was + k ≡ n = omega arith in
    ap (λ (m : ℕ). was ++ take m part) shorter ∙ ap (λ (l : List ℕ). was ++ l) (trimmed k part)
    ∙ sym (take-append-add was part k) ∙ ap (λ (m : ℕ). take m (was ++ part)) whole

-- and what it didn't take is not missed
pub again : (n : ℕ) (xs ys : List ℕ) → take n (take n xs ++ ys) ≡ take n (xs ++ ys)
again zero xs ys = refl
again (suc n) [] ys = refl
again (suc n) (x ∷ xs) ys = ap (λ (l : List ℕ). x ∷ l) (again n xs ys)

-- what is kept shows whether there is anything
pub none_kept : (n : ℕ) (line : List ℕ) → 0 < n → length (take n line) ≡ 0 → line ≡ []
none_kept n [] some e = refl
none_kept n (x ∷ xs) some e = absurd (omega (arith, length-take {A = ℕ} n (x ∷ xs)))

pub some_kept : (n : ℕ) (line : List ℕ) → length (take n line) ≢ 0 → 0 < length line
some_kept n [] some = absurd (some (omega (arith, length-take {A = ℕ} n [])))
some_kept n (x ∷ xs) some = omega arith

pub kept_fits : (n : ℕ) (items line : List ℕ) → items ≡ take n line → length items ≤ n
kept_fits n items line is = omega (arith, ap length is, length-take n line)

-- a piece more
pub kept_more : (n : ℕ) (was now taken part : List ℕ) → was ≡ take n taken → now ≡ take n (was ++ part) → now ≡ take n (taken ++ part)
kept_more n was now taken part is more = more ∙ ap (λ (l : List ℕ). take n (l ++ part)) is ∙ again n taken part

pub at_end : (a : Option (List ℕ)) (shown : List ℕ) → IfSome a (λ xs. length shown ≡ 0 → xs ≡ []) → length shown ≡ 0 → IsAtEnd a
at_end None shown h e = tt
at_end (Some xs) shown h e = h e

-- ---- what has been read of the known bytes

pub reads_line : (a b : Option (List ℕ)) (line : List ℕ) → Lacks 10 line → Consumes a b (line ++ 10 ∷ []) → Reads a b (Some line ∷ [])
reads_line None b line lacks p = tt
reads_line (Some xs) None line lacks p = absurd p
reads_line (Some xs) (Some ys) line lacks p = ap sent_lines (p ∙ append_assoc line (10 ∷ []) ys) ∙ sent_first line ys lacks

-- a last line, without a line feed
pub reads_last : (a b c : Option (List ℕ)) (line part : List ℕ) → Lacks 10 line → 0 < length line → Consumes a b line → Consumes b c part → IsAtEnd b → part ≡ [] → Reads a c (None ∷ [])
reads_last None b c line part lacks some p q end none = tt
reads_last (Some xs) None c line part lacks some p q end none = absurd p
reads_last (Some xs) (Some ys) None line part lacks some p q end none = absurd q
reads_last (Some xs) (Some ys) (Some zs) line part lacks some p q end none =
    let left : zs ≡ [] = ap (λ (l : List ℕ). l ++ zs) (sym none) ∙ sym q ∙ end in
    ap sent_lines (p ∙ ap (λ (l : List ℕ). line ++ l) end ∙ append-nil line) ∙ sent_last line lacks some ∙ ap (λ (l : List ℕ). None ∷ sent_lines l) (sym left)

pub reads_none : (a b c : Option (List ℕ)) (line part : List ℕ) → line ≡ [] → Consumes a b line → Consumes b c part → part ≡ [] → Reads a c []
reads_none None b c line part e p q none = tt
reads_none (Some xs) None c line part e p q none = absurd p
reads_none (Some xs) (Some ys) None line part e p q none = absurd q
reads_none (Some xs) (Some ys) (Some zs) line part e p q none =
    ap sent_lines (p ∙ ap (λ (l : List ℕ). l ++ ys) e ∙ q ∙ ap (λ (l : List ℕ). l ++ zs) none)

pub ended_before : (a b : Option (List ℕ)) (line : List ℕ) → line ≡ [] → Consumes a b line → IsAtEnd b → IsAtEnd a
ended_before None b line e p end = tt
ended_before (Some xs) None line e p end = absurd p
ended_before (Some xs) (Some ys) line e p end = p ∙ ap (λ (l : List ℕ). l ++ ys) e ∙ end

pub reads_into : (a b : Option (List ℕ)) (begun : List ℕ) → Lacks 10 begun → Consumes a b begun → ReadsInto a b []
reads_into None b begun lacks p = tt
reads_into (Some xs) None begun lacks p = absurd p
reads_into (Some xs) (Some ys) begun lacks p = (begun, lacks, ap sent_lines p)

-- a line's end, or a part of it, behind what was taken
pub took_last : (a b c : Option (List ℕ)) (taken part : List ℕ) → Consumes a b taken → Consumes b c (part ++ 10 ∷ []) → Consumes a c ((taken ++ part) ++ 10 ∷ [])
took_last a b c taken part p q = subst (Consumes a c) (sym (append_assoc taken part (10 ∷ []))) (Consumes-trans a b c taken (part ++ 10 ∷ []) p q)

pub no_bytes : (bytes : List ℕ) → length bytes ≡ 0 → bytes ≡ []
no_bytes [] e = refl
no_bytes (x ∷ xs) e = absurd (omega arith)

pub up_to : (part rest : List ℕ) → take (length part + 1) (part ++ 10 ∷ rest) ≡ part ++ 10 ∷ []
up_to part rest = take-append-add part (10 ∷ rest) 1

-- what was shown and used is what the reader gave
pub given : (n k used : ℕ) (a b c : Option (List ℕ)) (limit : Option ℕ) (shown was now part : List ℕ) (piece : Piece)
    → IfSome a (λ xs. StartsWith xs shown) → IfSome a (λ xs. length shown ≡ 0 → xs ≡ []) → Keeps a b → IfSome a (λ _. IfSome limit (λ m. length shown ≤ m)) → DropsConsumable b c limit used
    → length was ≤ n → k ≡ min (length part) (n - length was) → now ≡ was ++ take k part → Lacks 10 part → used ≤ length shown → (Consumes a c (take used shown) → Gives piece a c part)
    → (x : List ℕ) × Lacks 10 x × Gives piece a c x × (now ≡ take n (was ++ x))
given n k used a b c limit shown was now part piece front end keeps fits drops room k_is more lacks within gives = (
  part,
  lacks,
  gives (Consumes_shown a b c limit shown used within front end keeps fits drops).0,
  more ∙ ap (λ (m : ℕ). was ++ take m part) k_is ∙ filled n was part room,
)
