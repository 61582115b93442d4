-- Members of an in-sync set that is changed.
use Rattle.std.proofs.Common.{◌≡◌, ◌⊎◌, ℕ, ◌≤◌, leb, Bool, true, false, eqb, ltb, List, [], ◌∷◌, ◌++◌, Option, Some, None, refl, ap, ◌∙◌, inl, inr, arith}
use Rattle.std.specs.Prelude.{filter, not, ◌&&◌}
use Rattle.std.specs.Option.{option_map_or}
use Rattle.std.proofs.lemmas.Bool.{cases_Bool, cases_lt, lt-ltb, eqb-true, eq-eqb, ne_eqb, or_cases, or_left, or_right, and_parts, false≢true, leb-true}
use Rattle.kp_model.specs.World.{Leading, report_of}
use Rattle.kp_model.specs.Controller.{is_member, with_member, without_member}
use Rattle.kp_model.specs.InSync.{is_caught_up}
use Rattle.kp_model.proofs.Safety.Held.{IsIn}

pub in_cases : (x m : ℕ) (xs : List ℕ) → IsIn m (x ∷ xs) → (x ≡ m) ⊎ IsIn m xs
in_cases x m xs h = elim (or_cases (eqb x m) (is_member m xs) h) [ inl here ↦ inl (eqb-true x m here) | inr there ↦ inr there ]

in_here : (x m : ℕ) (xs : List ℕ) → x ≡ m → IsIn m (x ∷ xs)
in_here x m xs e = or_left (eqb x m) (is_member m xs) (eq-eqb x m e)

in_there : (x m : ℕ) (xs : List ℕ) → IsIn m xs → IsIn m (x ∷ xs)
in_there x m xs h = or_right (eqb x m) (is_member m xs) h

in_filter : (p : ℕ → Bool) (xs : List ℕ) (m : ℕ) → IsIn m (filter p xs) → IsIn m xs
in_filter p [] m h = h
in_filter p (x ∷ xs) m h =
    elim (cases_Bool (p x)) [
      | inl holds ↦
          (let both : IsIn m (x ∷ filter p xs) = rw holds at h in
          elim (in_cases x m (filter p xs) both) [ inl here ↦ in_here x m xs here | inr there ↦ in_there x m xs (in_filter p xs m there) ])
      | inr fails ↦ (let rest : IsIn m (filter p xs) = rw fails at h in in_there x m xs (in_filter p xs m rest))
    ]

in_kept : (p : ℕ → Bool) (xs : List ℕ) (m : ℕ) → p m ≡ true → IsIn m xs → IsIn m (filter p xs)
in_kept p [] m holds h = h
in_kept p (x ∷ xs) m holds h =
    elim (in_cases x m xs h) [
      | inl here ↦ (let at : p x ≡ true = ap p here ∙ holds in rw at (in_here x m (filter p xs) here))
      | inr there ↦
          elim (cases_Bool (p x)) [
            | inl kept ↦ rw kept (in_there x m (filter p xs) (in_kept p xs m holds there))
            | inr dropped ↦ rw dropped (in_kept p xs m holds there)
          ]
    ]

in_append : (xs ys : List ℕ) (m : ℕ) → IsIn m (xs ++ ys) → IsIn m xs ⊎ IsIn m ys
in_append [] ys m h = inr h
in_append (x ∷ xs) ys m h =
    elim (in_cases x m (xs ++ ys) h) [
      | inl here ↦ inl (in_here x m xs here)
      | inr there ↦ elim (in_append xs ys m there) [ inl a ↦ inl (in_there x m xs a) | inr b ↦ inr b ]
    ]

pub in_front : (xs ys : List ℕ) (m : ℕ) → IsIn m xs → IsIn m (xs ++ ys)
in_front [] ys m h = absurd (false≢true h)
in_front (x ∷ xs) ys m h =
    elim (in_cases x m xs h) [ inl here ↦ in_here x m (xs ++ ys) here | inr there ↦ in_there x m (xs ++ ys) (in_front xs ys m there) ]

pub in_back : (xs ys : List ℕ) (m : ℕ) → IsIn m ys → IsIn m (xs ++ ys)
in_back [] ys m h = h
in_back (x ∷ xs) ys m h = in_there x m (xs ++ ys) (in_back xs ys m h)

-- ---- a member more

pub with_member_cases : (member m : ℕ) (isr : List ℕ) → IsIn m (with_member member isr) → IsIn m isr ⊎ (member ≡ m)
with_member_cases member m isr h =
    elim (in_append (filter (λ x. ltb x member) isr) (member ∷ filter (λ x. ltb member x) isr) m h) [
      | inl lower ↦ inl (in_filter (λ x. ltb x member) isr m lower)
      | inr rest ↦
          elim (in_cases member m (filter (λ x. ltb member x) isr) rest) [
            | inl here ↦ inr here
            | inr upper ↦ inl (in_filter (λ x. ltb member x) isr m upper)
          ]
    ]

pub with_member_keeps : (member m : ℕ) (isr : List ℕ) → IsIn m isr → IsIn m (with_member member isr)
with_member_keeps member m isr h =
    elim (cases_lt m member) [
      | inl lower ↦ in_front (filter (λ x. ltb x member) isr) (member ∷ filter (λ x. ltb member x) isr) m (in_kept (λ x. ltb x member) isr m (lt-ltb m member lower) h)
      | inr not ↦
          in_back (filter (λ x. ltb x member) isr) (member ∷ filter (λ x. ltb member x) isr) m
          (elim (cases_lt member m) [
            | inl upper ↦ in_there member m (filter (λ x. ltb member x) isr) (in_kept (λ x. ltb member x) isr m (lt-ltb member m upper) h)
            | inr same ↦ in_here member m (filter (λ x. ltb member x) isr) (omega arith)
          ])
    ]

-- ---- a member less

pub without_member_had : (member m : ℕ) (isr : List ℕ) → IsIn m (without_member member isr) → IsIn m isr
without_member_had member m isr h = in_filter (λ x. not (eqb x member)) isr m h

pub without_member_keeps : (member m : ℕ) (isr : List ℕ) → (m ≡ member → ⊥) → IsIn m isr → IsIn m (without_member member isr)
without_member_keeps member m isr ne h =
    in_kept (λ x. not (eqb x member)) isr m (let other : eqb m member ≡ false = ne_eqb m member ne in ap not other) h

-- ---- the causes

-- the member has reported an end that is at or above both bounds
pub caught_up : (watermark : ℕ) (l : Leading) (m : ℕ) → is_caught_up watermark l m ≡ true → (end : ℕ) × (report_of l m ≡ Some end) × (watermark ≤ end) × (l.start ≤ end)
caught_up watermark l m e = by_report (report_of l m) refl e
  where
    by_report : (o : Option ℕ) → report_of l m ≡ o → option_map_or (λ end. leb watermark end && leb l.start end) o false ≡ true
        → (end : ℕ) × (report_of l m ≡ Some end) × (watermark ≤ end) × (l.start ≤ end)
    by_report None is t = absurd (false≢true t)
    by_report (Some end) is t =
        let parts = and_parts (leb watermark end) (leb l.start end) t in
        (end, is, leb-true watermark end parts.0, leb-true l.start end parts.1)
