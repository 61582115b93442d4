use Rattle.std.proofs.Common.{◌≡◌, ◌∙◌, List, ℕ, arith, subst, sym, refl}
use Rattle.std.specs.Prelude.{replicate}
use Rattle.kp_batch.proofs.NoFault.{front_large}
use Rattle.kp_batch.specs.Reading.{IsFirstFault}
use Rattle.kp_types.specs.declared.refusal.Refusal.TheVariants.{TooLarge}
use Rattle.kp_script.specs.Transcript.{largest_batch}
use Rattle.kp_script.proofs.batches.too_large.Goals as goal

first : IsFirstFault largest_batch (replicate 61 127) TooLarge
first = rw (front_large largest_batch (replicate 61 127) (omega arith) (omega arith) (omega arith) (omega arith)) refl

pub returns : goal.returns
returns c =
    let same : c.raw.result ≡ replicate 61 127 = c.raw.ensures ∙ c.from_static.ensures in
    subst (λ (bytes : List ℕ). IsFirstFault largest_batch bytes TooLarge) (sym same) first
