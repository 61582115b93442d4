-- What nodes reported are boundaries of the leader's log, and so is the watermark that is raised to the least of them.
use Rattle.std.proofs.Common.{◌≡◌, ◌⊎◌, ℕ, ◌≤◌, List, [], ◌∷◌, ◌++◌, Option, Some, None, Result, Ok, Err, sym, subst, ◌∙◌, inl, inr, arith}
use Rattle.std.specs.Prelude.{max, unwrap_or, IfSome, OnOk, OnErr}
use Rattle.std.proofs.lemmas.Bool.{cases_lt}
use Rattle.kp_types.specs.declared.refusal.Refusal.{Refusal}
use Rattle.kp_model.specs.Log.{Batch, end_of, IsBoundary}
use Rattle.kp_model.specs.World.{Leading, Mode, Down, Idle, Leads, Follows}
use Rattle.kp_insync.specs.Reports.{IsReported}
use Rattle.kp_replica.specs.declared.producing.Receipt.{Receipt}
use Rattle.kp_replica.specs.NumberedNode.{HasReports}
use Rattle.kp_replica.proofs.Boundaries.{boundary_push, boundary_end}

reports_push : (log : List Batch) (b : Batch) (mode : Mode) → HasReports log mode → HasReports (log ++ b ∷ []) mode
reports_push log b Down h = tt
reports_push log b Idle h = tt
reports_push log b (Leads l) h = λ m end e. boundary_push log b end (h m end e)
reports_push log b (Follows f) h = tt

-- after either answer to an append
pub reports_after : (log new : List Batch) (b : Batch) (result : Result Receipt Refusal) (mode : Mode) → HasReports log mode → OnOk result (new ≡ log ++ b ∷ []) → OnErr result (new ≡ log) → HasReports new mode
reports_after log new b (Ok receipt) mode h grown same = subst (λ (after : List Batch). HasReports after mode) (sym grown) (reports_push log b mode h)
reports_after log new b (Err r) mode h grown same = subst (λ (after : List Batch). HasReports after mode) (sym same) h

-- the least end, where it is known, is a boundary
least_boundary : (log : List Batch) (l : Leading) (end least : ℕ) → HasReports log (Leads l) → end ≡ end_of log → (least ≡ end) ⊎ IsReported l.reported least → IsBoundary log least
least_boundary log l end least reports at (inl own) = subst (IsBoundary log) (sym (own ∙ at)) (boundary_end log)
least_boundary log l end least reports at (inr its) = reports its.0 least its.1

-- a watermark that is raised to it stays a boundary
pub raised_boundary : (log : List Batch) (l : Leading) (watermark mark end : ℕ) (least : Option ℕ) → IsBoundary log watermark → HasReports log (Leads l) → end ≡ end_of log
    → IfSome least (λ x. (x ≡ end) ⊎ IsReported l.reported x) → mark ≡ max watermark (unwrap_or least 0) → IsBoundary log mark × (watermark ≤ mark)
raised_boundary log l watermark mark end None boundary reports at known raised =
    let same : watermark ≡ mark = omega (arith, raised) in (subst (IsBoundary log) same boundary, omega (arith, same))
raised_boundary log l watermark mark end (Some x) boundary reports at known raised =
    elim (cases_lt watermark x) [
      | inl below ↦
          let same : x ≡ mark = omega (arith, below, raised) in
          (subst (IsBoundary log) same (least_boundary log l end x reports at known), omega (arith, below, same))
      | inr above ↦
          let same : watermark ≡ mark = omega (arith, above, raised) in
          (subst (IsBoundary log) same boundary, omega (arith, same))
    ]
