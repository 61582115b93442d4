-- Beginnings of what a device was told.
use Rattle.std.proofs.Common.{◌≡◌, ◌∙◌, ℕ, zero, suc, ◌+◌, ◌≤◌, List, [], ◌∷◌, ◌++◌, ap, sym, subst, arith, refl, take, length, Option, Result, Ok, Err, append-nil}
use Rattle.std.specs.Prelude.{OnOk, OnErr, IfErr}
use Rattle.std.proofs.Math.Seq.{take-append-add}
use Rattle.std.proofs.lemmas.List.{take-append-le, length-take}
use Rattle.std.proofs.KnownBytes.{Appends-trans}
use Rattle.std.specs.Io.KnownBytes.{Appends}
use Rattle.kp_types.specs.Devices.{AppendsFront, CountsFault, CountsFaults, IsBegun, IsOut, device_of, faults_of}
use Rattle.kp_types.specs.declared.refusal.Refusal.{Refusal}
use Rattle.kp_types.specs.declared.refusal.Refusal.TheVariants.{Device}
use Rattle.kp_types.specs.declared.counted.Counted.{Counted}

-- a beginning has the length of what it takes
pub trimmed : (n : ℕ) (ys : List ℕ) → take (length (take n ys)) ys ≡ take n ys
trimmed zero ys = refl
trimmed (suc n) [] = refl
trimmed (suc n) (y ∷ ys) = ap (λ (l : List ℕ). y ∷ l) (trimmed n ys)

-- a beginning of what follows, behind what is out already
pub front_behind : (a b c : Option (List ℕ)) (xs ys rest : List ℕ) → Appends a b xs → AppendsFront b c ys → AppendsFront a c (xs ++ (ys ++ rest))
front_behind a b c xs ys rest out (n, more) =
    let m = length (take n ys) in
    let short : m ≤ length ys = omega (arith, length-take n ys) in
    let same : xs ++ take n ys ≡ take (length xs + m) (xs ++ (ys ++ rest)) =
    ap (λ (l : List ℕ). xs ++ l) (sym (take-append-le m ys rest short ∙ trimmed n ys)) ∙ sym (take-append-add xs (ys ++ rest) m) in
    (length xs + m, subst (Appends a c) same (Appends-trans a b c xs (take n ys) out more))

module _ {T : Type 0} (contents : T → Option (List ℕ)) (a b c : Counted T) (xs ys : List ℕ) where
  -- one text, and then another
  pub out_out : IsOut contents a b xs → IsOut contents b c ys → IsOut contents a c (xs ++ ys)
  out_out (first, one) (second, two) = (Appends-trans _ _ _ xs ys first second, two ∙ one)

  -- one text, and then a beginning of another
  pub out_begun : IsOut contents a b xs → IsBegun contents b c ys → IsBegun contents a c (xs ++ ys)
  out_begun (first, one) (second, two) = (
    subst (AppendsFront _ _) (ap (λ (l : List ℕ). xs ++ l) (append-nil ys)) (front_behind _ _ _ xs ys [] first second),
    two ∙ ap (λ (n : ℕ). n + 1) one,
  )

  -- a beginning of one text, and nothing of another
  pub begun_more : IsBegun contents a b xs → IsBegun contents a b (xs ++ ys)
  begun_more ((n, first), one) =
      let short : length (take n xs) ≤ length xs = omega (arith, length-take n xs) in
      let same : take n xs ≡ take (length (take n xs)) (xs ++ ys) =
      sym (take-append-le (length (take n xs)) xs ys short ∙ trimmed n xs) in
      ((length (take n xs), subst (Appends _ _) same first), one)

-- a refusal that is a device's has been counted
pub counted_once : (refusal : Refusal) (old new : ℕ) → refusal ≡ Device → CountsFault refusal old new → new ≡ old + 1
counted_once refusal old new is counted = subst (λ r. CountsFault r old new) is counted

-- what a counted call of a writer left
module _ {A T : Type 0} (contents : T → Option (List ℕ)) (old new : Counted T) (text : List ℕ) where
  pub all_out : (r : Result A Refusal) → OnOk r (Appends (contents (device_of old)) (contents (device_of new)) text)
      → CountsFaults r (faults_of old) (faults_of new) → OnOk r (IsOut contents old new text)
  all_out (Ok x) out counted = (out, counted)
  all_out (Err refusal) out counted = tt

  pub part_out : (r : Result A Refusal) → OnErr r (AppendsFront (contents (device_of old)) (contents (device_of new)) text)
      → IfErr r (λ refusal. refusal ≡ Device) → CountsFaults r (faults_of old) (faults_of new) → OnErr r (IsBegun contents old new text)
  part_out (Ok x) begun only counted = tt
  part_out (Err refusal) begun only counted = (begun, counted_once refusal _ _ only counted)
