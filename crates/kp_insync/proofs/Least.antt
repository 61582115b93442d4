-- The least end, member by member.
use Rattle.std.proofs.Common.{◌≡◌, ◌⊎◌, ℕ, ◌+◌, ◌<◌, ◌≤◌, Bool, true, false, eqb, List, [], ◌∷◌, ◌++◌, length, drop, Option, Some, None, min, map, get_or, refl, sym, ap, ◌∙◌, inl, inr, arith}
use Rattle.std.specs.Prelude.{not}
use Rattle.std.proofs.lemmas.List.{drop_more, drop_all, map-append}
use Rattle.std.proofs.lemmas.List.Elements.{filter-append}
use Rattle.std.specs.Option.{unwrap_or, option_flatten}
use Rattle.std.proofs.lemmas.Bool.{ne_eqb, cases_lt}
use Rattle.kp_model.specs.Set.{numbers_of}
use Rattle.kp_model.specs.Controller.{without_member}
use Rattle.kp_model.specs.Raising.{least_end}
use Rattle.kp_insync.specs.Reports.{ends_over, IsReported}

-- the least of this end and those, where each is known
abbrev pub least_over : List (Option ℕ) → ℕ → Option ℕ
least_over [] end = Some end
least_over (None ∷ os) end = None
least_over (Some x ∷ os) end = least_over os (min end x)

least_known : (os : List (Option ℕ)) (end : ℕ) → least_end (Some end ∷ os) ≡ least_over os end
least_known [] end = refl
least_known (None ∷ os) end = refl
least_known (Some x ∷ os) end = least_known os (min end x)

-- what these places make of the least end so far
abbrev pub least_of_places : List (Option ℕ) → (own first : ℕ) → List Bool → ℕ → Option ℕ
least_of_places reported own first places least =
    least_over (map (λ m. get_or reported m None) (without_member own (numbers_of first places))) least

-- a member that has not reported leaves the least end unknown
at_unknown : (reported : List (Option ℕ)) (own first : ℕ) (places : List Bool) (least : ℕ) → (first ≡ own → ⊥)
    → get_or reported first None ≡ None
    → least_of_places reported own first (true ∷ places) least ≡ None
at_unknown reported own first places least apart e =
    let other : eqb first own ≡ false = ne_eqb first own apart in rw (other, e) refl

-- the least end is the one that it began with, or was reported
min_either : (end x : ℕ) → (min end x ≡ end) ⊎ (min end x ≡ x)
min_either end x = elim (cases_lt end x) [ inl h ↦ inl (omega (arith, h)) | inr h ↦ inr (omega (arith, h)) ]

pub least_known_of : (reported : List (Option ℕ)) (ms : List ℕ) (end least : ℕ)
    → least_over (map (λ m. get_or reported m None) ms) end ≡ Some least → (least ≡ end) ⊎ IsReported reported least
least_known_of reported [] end least e = inl (let same : end ≡ least = cc in sym same)
least_known_of reported (m ∷ ms) end least e = by_report (get_or reported m None) refl (least_known_of reported ms) e
  where
    by_report : (o : Option ℕ) → get_or reported m None ≡ o
        → ((end least : ℕ) → least_over (map (λ m. get_or reported m None) ms) end ≡ Some least → (least ≡ end) ⊎ IsReported reported least)
        → least_over (o ∷ map (λ m. get_or reported m None) ms) end ≡ Some least → (least ≡ end) ⊎ IsReported reported least
    by_report None is later e = absurd cc
    by_report (Some x) is later e =
        elim (later (min end x) least e) [
          | inl same ↦
              elim (min_either end x) [
                | inl own ↦ inl (same ∙ own)
                | inr its ↦ inr (m, is ∙ ap Some (sym (same ∙ its)))
              ]
          | inr found ↦ inr found
        ]

-- ---- over the places of a set

-- the least end over the set, as the places are counted from 0
pub as_places : (reported ends : List (Option ℕ)) (places members : List Bool) (own end : ℕ) → ends ≡ reported → members ≡ places
    → least_end (ends_over (numbers_of 0 places) own end reported) ≡ least_of_places ends own 0 members end
as_places reported ends places members own end e m =
    least_known (map (λ n. get_or reported n None) (without_member own (numbers_of 0 places))) end
    ∙ sym (ap (λ (rs : List (Option ℕ)). least_of_places rs own 0 members end) e ∙ ap (λ (bs : List Bool). least_of_places reported own 0 bs end) m)

-- a member that has not reported is at this place
pub unknown_at : (ends : List (Option ℕ)) (members : List Bool) (own place least : ℕ) → place < length members → get_or members place false ≡ true → (place ≡ own → ⊥)
    → get_or ends place None ≡ None → least_of_places ends own place (drop place members) least ≡ None
unknown_at ends members own place least within at apart none =
    ap (λ (bs : List Bool). least_of_places ends own place bs least) (drop_more members place false within ∙ ap (λ (b : Bool). b ∷ drop (place + 1) members) at)
    ∙ at_unknown ends own place (drop (place + 1) members) least apart none

-- an element that is an option, looked up
pub flat : (o : Option (Option ℕ)) → unwrap_or o None ≡ option_flatten o
flat None = refl
flat (Some x) = refl

-- no place is left
pub none_left : (ends : List (Option ℕ)) (members : List Bool) (own place least : ℕ) → length members ≤ place → least_of_places ends own place (drop place members) least ≡ Some least
none_left ends members own place least past = ap (λ (bs : List Bool). least_of_places ends own place bs least) (drop_all place members past)

-- ---- over two sets

-- the other members of both sets are those of the one and those of the other
ends_of_both : (reported : List (Option ℕ)) (own : ℕ) (known pending : List ℕ)
    → map (λ m. get_or reported m None) (without_member own (known ++ pending))
    ≡ map (λ m. get_or reported m None) (without_member own known) ++ map (λ m. get_or reported m None) (without_member own pending)
ends_of_both reported own known pending =
    ap (λ (ms : List ℕ). map (λ m. get_or reported m None) ms) (filter-append (λ x. not (eqb x own)) known pending)
    ∙ map-append (λ m. get_or reported m None) (without_member own known) (without_member own pending)

-- the one's ends unknown, so are both
first_unknown : (os ps : List (Option ℕ)) (end : ℕ) → least_over os end ≡ None → least_over (os ++ ps) end ≡ None
first_unknown [] ps end e = absurd cc
first_unknown (None ∷ os) ps end e = refl
first_unknown (Some x ∷ os) ps end e = first_unknown os ps (min end x) e

-- else the other's ends go on from its least one
first_known : (os ps : List (Option ℕ)) (end least : ℕ) → least_over os end ≡ Some least → least_over (os ++ ps) end ≡ least_over ps least
first_known [] ps end least e = let same : end ≡ least = cc in ap (least_over ps) same
first_known (None ∷ os) ps end least e = absurd cc
first_known (Some x ∷ os) ps end least e = first_known os ps (min end x) least e

module _ (reported : List (Option ℕ)) (own end : ℕ) (known pending : List ℕ) where
  abbrev others : List ℕ → List (Option ℕ)
  others set = map (λ m. get_or reported m None) (without_member own set)

  both : least_end (ends_over (known ++ pending) own end reported) ≡ least_over (others known ++ others pending) end
  both = least_known (others (known ++ pending)) end ∙ ap (λ (os : List (Option ℕ)). least_over os end) (ends_of_both reported own known pending)

  pub both_unknown : None ≡ least_end (ends_over known own end reported) → None ≡ least_end (ends_over (known ++ pending) own end reported)
  both_unknown e = sym (both ∙ first_unknown (others known) (others pending) end (sym (e ∙ least_known (others known) end)))

  pub both_known : (least : ℕ) → Some least ≡ least_end (ends_over known own end reported)
      → least_end (ends_over pending own least reported) ≡ least_end (ends_over (known ++ pending) own end reported)
  both_known least e =
      least_known (others pending) least
      ∙ sym (both ∙ first_known (others known) (others pending) end least (sym (e ∙ least_known (others known) end)))
