-- A record in range has one word.
use Rattle.std.proofs.Common.{◌≡◌, ◌⊎◌, ℕ, zero, suc, ◌+◌, ◌-◌, ◌*◌, ◌/◌, ◌%◌, ◌^◌, ◌<◌, ◌≤◌, Bool, true, false, eqb, List, [], ◌∷◌, length, Option, Some, None, refl, sym, ap, ◌∙◌, subst, arith, inl, inr, mul_comm, mul_assoc, mul-add, mul-one, mul-zero}
use Rattle.std.proofs.Math.Nat.{pow-succ'}
use Rattle.std.proofs.Math.Arith.{lt_of_le-ne}
use Rattle.std.specs.Prelude.{if◌then◌else◌}
use Rattle.std.proofs.lemmas.Bool.{cases_eq, cond_both, eq-eqb, ne_eqb}
use Rattle.std.proofs.lemmas.List.Sums.{sum_by-cons}
use Rattle.kp_model.specs.World.{Leader, LeaderAndIsr}
use Rattle.kp_model.specs.Controller.{greatest_epoch}
use Rattle.kp_model.specs.Step.{Rise, IsInRange}
use Rattle.kp_model.specs.Set.{numbers_of}
use Rattle.kp_model.proofs.Plain.InRange.{rise_of}
use Rattle.kp_control.specs.Word.{leader_field, epoch_field, set_field, packed, WordsAreOne}

-- ---- a set's bits, the first number's the lowest

abbrev code : ℕ → ℕ → List ℕ → ℕ
code first zero xs = 0
code first (suc k) [] = 0
code first (suc k) (x ∷ xs) = if eqb x first then 2 * code (first + 1) k xs + 1 else 2 * code (first + 1) k (x ∷ xs)

abbrev decoded : ℕ → ℕ → ℕ → List ℕ
decoded first zero bits = []
decoded first (suc k) bits = if eqb (bits % 2) 1 then first ∷ decoded (first + 1) k (bits / 2) else decoded (first + 1) k (bits / 2)

-- ---- powers of two

next_power : (n : ℕ) → 2 ^ (n + 1) ≡ 2 * 2 ^ n
next_power n = ap (λ (k : ℕ). 2 ^ k) (let e : n + 1 ≡ suc n = omega arith in e) ∙ pow-succ' 2 n

even_part : (p c : ℕ) → (2 * p) * c ≡ p * (2 * c)
even_part p c = ap (λ (n : ℕ). n * c) (mul_comm 2 p) ∙ mul_assoc p 2 c

odd_part : (p c : ℕ) → p + (2 * p) * c ≡ p * (2 * c + 1)
odd_part p c =
    let whole : p * (2 * c + 1) ≡ p * (2 * c) + p * 1 = mul-add p (2 * c) 1 in
    let one : p * 1 ≡ p = mul-one p in
    omega (arith, whole, one, even_part p c)

-- ---- a set's bits, read back

-- a word's field of a set is its bits, from the first number's place on
scaled : (first k : ℕ) (xs : List ℕ) → Rise first (first + k) xs → set_field xs ≡ 2 ^ first * code first k xs
scaled first zero [] h = sym (mul-zero (2 ^ first))
scaled first zero (x ∷ xs) h = absurd (omega (arith, h.0, h.1))
scaled first (suc k) [] h = sym (mul-zero (2 ^ first))
scaled first (suc k) (x ∷ xs) h =
    let sum = sum_by-cons (λ n. 2 ^ n) x xs in
    let top : first + suc k ≡ first + 1 + k = omega arith in
    elim (cases_eq x first) [
      | inl e ↦ (
          let rest = scaled (first + 1) k xs (subst (λ (z : ℕ × ℕ). Rise z.0 z.1 xs) (λ j. (ap (λ (y : ℕ). y + 1) e j, top j)) h.2) in
          let here : eqb x first ≡ true = eq-eqb x first e in
          rw here (
          sum ∙ ap (λ (n : ℕ). 2 ^ n + set_field xs) e
          ∙ ap (λ (n : ℕ). 2 ^ first + n) (rest ∙ ap (λ (p : ℕ). p * code (first + 1) k xs) (next_power first))
          ∙ odd_part (2 ^ first) (code (first + 1) k xs)))
      | inr ne ↦ (
          let low : first + 1 ≤ x = omega (arith, h.0, lt_of_le-ne h.0 (λ e. ne (sym e))) in
          let rest = scaled (first + 1) k (x ∷ xs) (low, omega (arith, h.1), subst (λ (z : ℕ). Rise (x + 1) z xs) top h.2) in
          let there : eqb x first ≡ false = ne_eqb x first ne in
          rw there (
          rest ∙ ap (λ (p : ℕ). p * code (first + 1) k (x ∷ xs)) (next_power first)
          ∙ even_part (2 ^ first) (code (first + 1) k (x ∷ xs))))
    ]

decoded_none : (first k : ℕ) → decoded first k 0 ≡ []
decoded_none first zero = refl
decoded_none first (suc k) = decoded_none (first + 1) k

odd : (first k c : ℕ) → decoded first (suc k) (2 * c + 1) ≡ first ∷ decoded (first + 1) k c
odd first k c =
    let one : (2 * c + 1) % 2 ≡ 1 = omega arith in
    let half : (2 * c + 1) / 2 ≡ c = omega arith in
    rw (one, half) refl

even : (first k c : ℕ) → decoded first (suc k) (2 * c) ≡ decoded (first + 1) k c
even first k c =
    let none : (2 * c) % 2 ≡ 0 = omega arith in
    let half : (2 * c) / 2 ≡ c = omega arith in
    rw (none, half) refl

back : (first k : ℕ) (xs : List ℕ) → Rise first (first + k) xs → decoded first k (code first k xs) ≡ xs
back first zero [] h = refl
back first zero (x ∷ xs) h = absurd (omega (arith, h.0, h.1))
back first (suc k) [] h = decoded_none (first + 1) k
back first (suc k) (x ∷ xs) h =
    let top : first + suc k ≡ first + 1 + k = omega arith in
    elim (cases_eq x first) [
      | inl e ↦ (
          let here : eqb x first ≡ true = eq-eqb x first e in
          let rest = back (first + 1) k xs (subst (λ (z : ℕ × ℕ). Rise z.0 z.1 xs) (λ j. (ap (λ (y : ℕ). y + 1) e j, top j)) h.2) in
          rw here (odd first k (code (first + 1) k xs) ∙ ap (λ (l : List ℕ). first ∷ l) rest ∙ ap (λ (n : ℕ). n ∷ xs) (sym e)))
      | inr ne ↦ (
          let there : eqb x first ≡ false = ne_eqb x first ne in
          let low : first + 1 ≤ x = omega (arith, h.0, lt_of_le-ne h.0 (λ e. ne (sym e))) in
          let rest = back (first + 1) k (x ∷ xs) (low, omega (arith, h.1), subst (λ (z : ℕ). Rise (x + 1) z xs) top h.2) in
          rw there (even first k (code (first + 1) k (x ∷ xs)) ∙ rest))
    ]

code_small : (first : ℕ) (xs : List ℕ) → code first 7 xs < 128
code_small first xs = small first 7 xs
  where
    small : (first k : ℕ) (xs : List ℕ) → code first k xs < 2 ^ k
    small first zero xs = omega arith
    small first (suc k) [] = let rest = small (first + 1) k [] in omega (arith, pow-succ' 2 k)
    small first (suc k) (x ∷ xs) =
        let rest = small (first + 1) k xs in
        let other = small (first + 1) k (x ∷ xs) in
        let power = pow-succ' 2 k in
        cond_both (eqb x first) (2 * code (first + 1) k xs + 1) (2 * code (first + 1) k (x ∷ xs)) (λ n. n < 2 ^ suc k) (λ e. omega (arith, rest, power)) (λ e. omega (arith, other, power))

-- two rising sets below 7 with one field are one
pub set_one : (places : List Bool) (xs : List ℕ) → length places ≡ 7 → Rise 0 7 xs → set_field (numbers_of 0 places) ≡ set_field xs → numbers_of 0 places ≡ xs
set_one places xs seven rises same =
    let own : Rise 0 7 (numbers_of 0 places) = subst (λ (z : ℕ). Rise 0 z (numbers_of 0 places)) (let e : 0 + length places ≡ 7 = omega (arith, seven) in e) (rise_of 0 places) in
    let one = scaled 0 7 (numbers_of 0 places) own in
    let other = scaled 0 7 xs rises in
    let codes : code 0 7 (numbers_of 0 places) ≡ code 0 7 xs = omega (arith, one, other, same) in
    sym (back 0 7 (numbers_of 0 places) own) ∙ ap (λ (n : ℕ). decoded 0 7 n) codes ∙ back 0 7 xs rises

-- ---- the fields of a word

-- what a record in range says of its word
pub record Fields (r : LeaderAndIsr) (word : ℕ) : Type 0 where
  pub version : word % 268435456 ≡ r.version
  pub epoch : word / 268435456 % 16777216 ≡ epoch_field r.leader
  pub set : word / 4503599627370496 % 256 ≡ set_field r.isr
  pub small : set_field r.isr < 128
  pub leader : word / 1152921504606846976 ≡ leader_field r.leader

leader_small : (o : Option Leader) → ((l : Leader) → o ≡ Some l → (l.node < 7) × (l.epoch ≤ greatest_epoch)) → (leader_field o < 16) × (epoch_field o < 16777216)
leader_small None h = (omega arith, omega arith)
leader_small (Some l) h = let both = h l refl in (omega (arith, both.0), omega (arith, both.1))

parts : (v e s l : ℕ) → v < 268435456 → e < 16777216 → s < 256 → l < 16
    → let w : ℕ = v + 268435456 * e + 4503599627370496 * s + 1152921504606846976 * l in
    (w % 268435456 ≡ v) × (w / 268435456 % 16777216 ≡ e) × (w / 4503599627370496 % 256 ≡ s) × (w / 1152921504606846976 ≡ l)
parts v e s l a b c d = (omega arith, omega arith, omega arith, omega arith)

pub fields : (r : LeaderAndIsr) (word : ℕ) → IsInRange 7 r → packed r ≡ word → Fields r word
fields r word range is =
    let small = leader_small r.leader range.leader in
    let set : set_field r.isr < 128 = omega (arith, scaled 0 7 r.isr range.isr, code_small 0 r.isr) in
    let all = parts r.version (epoch_field r.leader) (set_field r.isr) (leader_field r.leader) (omega (arith, range.version)) small.1 (omega arith) small.0 in
    record {
      version = ap (λ (w : ℕ). w % 268435456) (sym is) ∙ all.0;
      epoch = ap (λ (w : ℕ). w / 268435456 % 16777216) (sym is) ∙ all.1;
      set = ap (λ (w : ℕ). w / 4503599627370496 % 256) (sym is) ∙ all.2;
      small = set;
      leader = ap (λ (w : ℕ). w / 1152921504606846976) (sym is) ∙ all.3;
    }

-- no leader is said by 15
pub without_leader : (r : LeaderAndIsr) (word : ℕ) → IsInRange 7 r → Fields r word → word / 1152921504606846976 ≡ 15 → r.leader ≡ None
without_leader r word range f is = by_leader r.leader refl
  where
    by_leader : (o : Option Leader) → r.leader ≡ o → r.leader ≡ None
    by_leader None e = e
    by_leader (Some l) e = absurd (omega (arith, (range.leader l e).0, f.leader, ap leader_field e, is))

-- a leader's number is below 7
pub with_leader : (r : LeaderAndIsr) (word : ℕ) → Fields r word → word / 1152921504606846976 < 7
    → r.leader ≡ Some (record { node = word / 1152921504606846976; epoch = word / 268435456 % 16777216 - 1 })
with_leader r word f below = by_leader r.leader refl
  where
    by_leader : (o : Option Leader) → r.leader ≡ o → r.leader ≡ Some (record { node = word / 1152921504606846976; epoch = word / 268435456 % 16777216 - 1 })
    by_leader None e = absurd (omega (arith, f.leader, ap leader_field e, below))
    by_leader (Some l) e =
        let node : l.node ≡ word / 1152921504606846976 = sym (f.leader ∙ ap leader_field e) in
        let epoch : l.epoch ≡ word / 268435456 % 16777216 - 1 = omega (arith, f.epoch, ap epoch_field e) in
        e ∙ (λ i. Some (record { node = node i; epoch = epoch i }))

-- no other word is a record's
pub no_other : (r : LeaderAndIsr) (word : ℕ) → IsInRange 7 r → Fields r word
    → ((word / 1152921504606846976 ≡ 15) × (word / 268435456 % 16777216 ≡ 0 → ⊥)) ⊎ (word / 1152921504606846976 ≡ 15 → ⊥)
    → (7 ≤ word / 1152921504606846976) ⊎ ((word / 1152921504606846976 < 7) × (word / 268435456 % 16777216 ≡ 0)) → ⊥
no_other r word range f some odd = by_leader r.leader refl
  where
    by_leader : (o : Option Leader) → r.leader ≡ o → ⊥
    by_leader None e =
        let node : word / 1152921504606846976 ≡ 15 = f.leader ∙ ap leader_field e in
        let after : word / 268435456 % 16777216 ≡ 0 = f.epoch ∙ ap epoch_field e in
        elim some [ inl not_it ↦ not_it.1 after | inr not_it ↦ not_it node ]
    by_leader (Some l) e =
        let small = (range.leader l e).0 in
        let node : word / 1152921504606846976 ≡ l.node = f.leader ∙ ap leader_field e in
        let after : word / 268435456 % 16777216 ≡ l.epoch + 1 = f.epoch ∙ ap epoch_field e in
        elim odd [ inl high ↦ omega (arith, high, node, small) | inr none ↦ omega (arith, none.1, after) ]

-- a record is told by its fields
pub told : (r known : LeaderAndIsr) → known.leader ≡ r.leader → known.isr ≡ r.isr → known.version ≡ r.version → known ≡ r
told r known leader isr version = λ i. record { leader = leader i; isr = isr i; version = version i }

-- ---- a record in range is told by its word

one_leader : (o p : Option Leader) → ((l : Leader) → o ≡ Some l → (l.node < 7) × (l.epoch ≤ greatest_epoch)) → ((l : Leader) → p ≡ Some l → (l.node < 7) × (l.epoch ≤ greatest_epoch))
    → leader_field o ≡ leader_field p → epoch_field o ≡ epoch_field p → o ≡ p
one_leader None None h g node epoch = refl
one_leader None (Some l) h g node epoch = absurd (let a = (g l refl).0 in omega arith)
one_leader (Some l) None h g node epoch = absurd (let a = (h l refl).0 in omega arith)
one_leader (Some l) (Some m) h g node epoch = let e : l.epoch ≡ m.epoch = omega arith in λ i. Some (record { node = node i; epoch = e i })

pub one_word : WordsAreOne
one_word r s in_r in_s same =
    let f = fields r (packed s) in_r same in
    let g = fields s (packed s) in_s refl in
    let one = scaled 0 7 r.isr in_r.isr in
    let other = scaled 0 7 s.isr in_s.isr in
    let codes : code 0 7 r.isr ≡ code 0 7 s.isr = omega (arith, one, other, f.set, g.set) in
    let leader = one_leader r.leader s.leader in_r.leader in_s.leader (sym f.leader ∙ g.leader) (sym f.epoch ∙ g.epoch) in
    let isr : r.isr ≡ s.isr = sym (back 0 7 r.isr in_r.isr) ∙ ap (λ (n : ℕ). decoded 0 7 n) codes ∙ back 0 7 s.isr in_s.isr in
    let version : r.version ≡ s.version = sym f.version ∙ g.version in
    λ i. record { leader = leader i; isr = isr i; version = version i }
