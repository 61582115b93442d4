-- Laws of the text of where epochs begin.
use Rattle.std.proofs.Common.{◌≡◌, Bool, true, ◌&&◌, List, [], ◌∷◌, ap, ◌∙◌, length, map, refl, arith}
use Rattle.std.proofs.lemmas.Fmt.{decimal_injective}
use Rattle.std.specs.Fmt.{decimal}
use Rattle.std.specs.List.{AllByRecursion}
use Rattle.kp_words.specs.Words.{Lacks}
use Rattle.kp_words.proofs.Numbers.{decimal_lacks, same_between}
use Rattle.kp_words.proofs.Splitting.{lacks_append}
use Rattle.kp_texts.specs.declared.texts.EpochStart.{EpochStart}
use Rattle.kp_texts.specs.Texts.{start_text, AreStarts, IsStart, begin_at_0, rise}

-- no comma stands in it
pub start_lacks : (s : EpochStart) → IsStart s → Lacks 44 (start_text s)
start_lacks s range =
    lacks_append 44 (decimal s.epoch) (58 ∷ decimal s.start)
    (decimal_lacks 44 s.epoch (omega arith) (omega (arith, range.0)))
    ((λ (e : 58 ≡ 44). absurd (omega (arith, e))), decimal_lacks 44 s.start (omega arith) (omega (arith, range.1)))

-- an epoch and an offset have one text, and so have several
same_start : (s t : EpochStart) → IsStart s → IsStart t → start_text s ≡ start_text t → s ≡ t
same_start s t p q e =
    let epoch = same_between [] (start_text s) 58 s.epoch t.epoch (decimal s.start) (decimal t.start) (λ r. omega (arith, r)) (omega (arith, p.0)) (omega (arith, q.0)) refl e in
    let start = decimal_injective s.start t.start (omega (arith, p.1)) (omega (arith, q.1)) epoch.1 in
    λ i. record { epoch = epoch.0 i; start = start i }

pub same_starts : (ss ts : List EpochStart) → AllByRecursion IsStart ss → AllByRecursion IsStart ts → map start_text ss ≡ map start_text ts → ss ≡ ts
same_starts [] [] p q e = refl
same_starts [] (t ∷ ts) p q e = absurd (omega (arith, ap length e))
same_starts (s ∷ ss) [] p q e = absurd (omega (arith, ap length e))
same_starts (s ∷ ss) (t ∷ ts) p q e =
    let head : start_text s ≡ start_text t = cc in
    let tail : map start_text ss ≡ map start_text ts = cc in
    ap (λ (x : EpochStart). x ∷ ss) (same_start s t p.0 q.0 head) ∙ ap (λ (xs : List EpochStart). t ∷ xs) (same_starts ss ts p.1 q.1 tail)

-- starts in range are in order
pub in_order : (starts : List EpochStart) → AreStarts starts → (begin_at_0 starts && rise starts) ≡ true
in_order starts range = ap (λ (b : Bool). b && rise starts) range.first ∙ range.rising
