-- Laws of a producer's fields and of a batch's kind: how a field is kept, and that each stands before a space in one way.
use Rattle.std.proofs.Common.{◌≡◌, ◌≢◌, ℕ, ◌<◌, ◌≤◌, ◌^◌, Bool, true, false, List, ◌∷◌, ◌++◌, Option, Some, None, IfSome, get_or, refl, sym, ap, ◌∙◌, arith, codes}
use Rattle.std.proofs.lemmas.Bool.{eq-eqb, ne_eqb}
use Rattle.std.proofs.lemmas.Fmt.{decimal_injective}
use Rattle.std.specs.Prelude.{unwrap_or}
use Rattle.std.specs.Fmt.{decimal}
use Rattle.std.specs.Int.{IsInRange}
use Rattle.kp_script.specs.Call.{Sender, IsSender, signed_text, kind_text}
use Rattle.kp_script.specs.Read.{sender_front}
use Rattle.kp_words.specs.Words.{Lacks}
use Rattle.kp_script.specs.Seen.{field_below}
use Rattle.kp_words.proofs.Numbers.{decimal_lacks, each_digit, some_digit}
use Rattle.kp_words.proofs.Splitting.{one_parting}

-- a field that is kept as a number is that field again
pub held : (greatest limit kept : ℕ) (field : Option ℕ) → limit ≤ greatest → IfSome field (λ n. n < limit) → kept ≡ unwrap_or field greatest → field_below greatest kept ≡ field
held greatest limit kept None fits below e = rw (eq-eqb kept greatest e) refl
held greatest limit kept (Some n) fits below e = rw e (rw (ne_eqb n greatest (λ e. omega (arith, e, below, fits))) refl)

-- a field has no space
signed_lacks : (field : Option ℕ) → IfSome field (λ n. n < 2 ^ 64) → Lacks 32 (signed_text field)
signed_lacks None fits = ((λ (e : 45 ≡ 32). omega arith), ((λ (e : 49 ≡ 32). omega arith), tt))
signed_lacks (Some n) fits = decimal_lacks 32 n (omega arith) fits

-- no number is spelled with a sign
no_sign : (n : ℕ) → n < 2 ^ 64 → codes "-1" ≢ decimal n
no_sign n fits e =
    let digit : IsInRange 48 57 (get_or (decimal n) 0 0) = each_digit (decimal n) n 0 fits refl (some_digit (decimal n) n fits refl) in
    omega (arith, ap (λ (l : List ℕ). get_or l 0 0) e)

one_field : (a b : Option ℕ) → IfSome a (λ n. n < 2 ^ 64) → IfSome b (λ n. n < 2 ^ 64) → signed_text a ≡ signed_text b → a ≡ b
one_field None None p q e = refl
one_field None (Some n) p q e = absurd (no_sign n q e)
one_field (Some m) None p q e = absurd (no_sign m p (sym e))
one_field (Some m) (Some n) p q e = ap Some (decimal_injective m n p q e)

wider : (limit : ℕ) (field : Option ℕ) → limit ≤ 2 ^ 64 → IfSome field (λ n. n < limit) → IfSome field (λ n. n < 2 ^ 64)
wider limit None fits below = tt
wider limit (Some n) fits below = omega arith

-- before a space stands one field
pub same_signed : (limit : ℕ) (bytes : List ℕ) (a b : Option ℕ) (x y : List ℕ) → limit ≤ 2 ^ 64 → IfSome a (λ n. n < limit) → IfSome b (λ n. n < limit) →
    bytes ≡ signed_text a ++ 32 ∷ x → bytes ≡ signed_text b ++ 32 ∷ y → (a ≡ b) × (x ≡ y)
same_signed limit bytes a b x y fits p q e f =
    let first = wider limit a fits p in
    let second = wider limit b fits q in
    let parts = one_parting 32 (signed_text a) (signed_text b) x y (signed_lacks a first) (signed_lacks b second) (sym e ∙ f) in
    (one_field a b first second parts.0, parts.1)

pub same_fields : (a b : Sender) → a.producer ≡ b.producer → a.epoch ≡ b.epoch → a.sequence ≡ b.sequence → a ≡ b
same_fields a b p q r =
    ap (λ (f : Option ℕ). let s : Sender = record { producer = f; epoch = a.epoch; sequence = a.sequence } in s) p
    ∙ ap (λ (f : Option ℕ). let s : Sender = record { producer = b.producer; epoch = f; sequence = a.sequence } in s) q
    ∙ ap (λ (f : Option ℕ). let s : Sender = record { producer = b.producer; epoch = b.epoch; sequence = f } in s) r

-- the three fields of a producer stand in front in one way
pub same_sender : (bytes : List ℕ) (a b : Sender) (x y : List ℕ) → IsSender a → IsSender b → bytes ≡ sender_front a x → bytes ≡ sender_front b y → (a ≡ b) × (x ≡ y)
same_sender bytes a b x y p q e f =
    let first = same_signed (2 ^ 63) bytes a.producer b.producer _ _ (omega arith) p.producer q.producer e f in
    let second = same_signed (2 ^ 15) (signed_text a.epoch ++ 32 ∷ (signed_text a.sequence ++ 32 ∷ x)) a.epoch b.epoch _ _ (omega arith) p.epoch q.epoch refl first.1 in
    let third = same_signed (2 ^ 31) (signed_text a.sequence ++ 32 ∷ x) a.sequence b.sequence _ _ (omega arith) p.sequence q.sequence refl second.1 in
    (same_fields a b first.0 second.0 third.0, third.1)

-- and so does a batch's kind
pub same_kind : (bytes : List ℕ) (a b : Bool) (x y : List ℕ) → bytes ≡ kind_text a ++ 32 ∷ x → bytes ≡ kind_text b ++ 32 ∷ y → (a ≡ b) × (x ≡ y)
same_kind bytes true true x y e f = (refl, cc)
same_kind bytes true false x y e f = absurd (omega (arith, ap (λ (l : List ℕ). get_or l 0 0) (sym e ∙ f)))
same_kind bytes false true x y e f = absurd (omega (arith, ap (λ (l : List ℕ). get_or l 0 0) (sym e ∙ f)))
same_kind bytes false false x y e f = (refl, cc)
