use Rattle.std.proofs.Common.{◌≡◌, ◌∙◌, Option, Some, None, List, ℕ, IsSomeAnd, refl, sym}
use Rattle.clap.proofs.WalkLemmas.{one_text-rows}
use Rattle.clap.specs.Words.{found_of}
use Rattle.kp_cli.proofs.line.number_value.Goals as goal

-- what holds of a text that is there
at_text : (o : Option (List ℕ)) (P Q : List ℕ → Type 0) → IsSomeAnd o P → ((t : List ℕ) → o ≡ Some t → P t → Q t) → IsSomeAnd o Q
at_text None P Q has gives = has
at_text (Some t) P Q has gives = gives t refl has

-- nothing is there where a text that is there is refused
no_text : (o : Option (List ℕ)) (P : List ℕ → Type 0) → IsSomeAnd o P → ((t : List ℕ) → o ≡ Some t → P t → ⊥) → ⊥
no_text None P has refuted = has
no_text (Some t) P has refuted = refuted t refl has

pub unreachable-requires : goal.unreachable-requires
unreachable-requires c =
    let same = one_text-rows (found_of c.args.found.now) c.args.name.now in
    no_text _ _ c.requires (λ t is fits. (c.in-None.ensures.value t (same ∙ is)).1.0 fits)

pub returns : goal.returns
returns c =
    let same = one_text-rows (found_of c.args.found.now) c.args.name.now in
    at_text _ _ _ c.requires (λ t is fits. sym (c.in-Some.ensures.value t (same ∙ is)).0.1)
