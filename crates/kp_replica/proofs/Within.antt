-- What each run has of its nodes' logs and the controller's record.
use Rattle.std.proofs.Common.{◌≡◌, ℕ, ◌≤◌, Option, Some, None, refl, sym, ◌∙◌, subst, arith, inl}
use Rattle.std.specs.Prelude.{unwrap_or}
use Rattle.kp_model.specs.World.{Leader}
use Rattle.kp_model.specs.Laws.{EpochsAreElected}
use Rattle.kp_model.specs.Fetching.{last_epoch}
use Rattle.kp_model.specs.Run.{Run, last}
use Rattle.kp_model.proofs.InRuns.LogEpochs.{last_occurs}
use Rattle.kp_model.proofs.InRuns.RunLaws.{last_is_of}
use Rattle.kp_replica.specs.Adopting.{IsWithin}

-- no node's log has an epoch above the record's
pub within : EpochsAreElected → (count : ℕ) (r : Run count) (n : ℕ) → IsWithin (last r).controller ((last r).nodes n).log
within elected_all count r n l is = by_last (last_epoch ((last r).nodes n).log) refl
  where
    by_last : (o : Option ℕ) → last_epoch ((last r).nodes n).log ≡ o → unwrap_or o 0 ≤ l.epoch
    by_last None e = omega arith
    by_last (Some epoch) e =
        let log = ((last r).nodes n).log in
        let by = elected_all count r (last r) (last_is_of count r) log (inl (n, refl)) epoch (last_occurs log epoch e) in
        let same : by.0 ≡ l = (let both = sym by.1 ∙ is in cc) in
        subst (λ (k : Leader). epoch ≤ k.epoch) same by.2
