-- What a consumer of a run is shown.
use Rattle.std.proofs.Common.{◌⊎◌, ℕ, List, refl, sym, subst, inl, inr}
use Rattle.std.specs.List.{AllByRecursion}
use Rattle.kp_record.specs.Record.{Record}
use Rattle.kp_model.specs.Beginning.{Begins}
use Rattle.kp_model.specs.Log.{Batch, IsLog}
use Rattle.kp_model.specs.Visible.{visible}
use Rattle.kp_model.specs.Run.{held}
use Rattle.kp_model.specs.Laws.{RunsAreSafe, RunsKeepLogs, MarksAreEnds}
use Rattle.kp_model.proofs.Plain.Logs.{IsLog-begins}
use Rattle.kp_visible.specs.Laws.{IsAbortedIn, Spans, AbortedRecordsAreHiddenInRuns}
use Rattle.kp_visible.proofs.Consumers.{aborted_hidden}
use Rattle.kp_visible.proofs.Growing.{aborted_was_hidden, visible_below}

-- of two lists of which one begins the other, one has an abort marker, and the other is shown
hidden_in : (shown marked : List Batch) (b : Batch) (high_watermark : ℕ) → IsLog shown → IsLog marked → Begins marked shown ⊎ Begins shown marked → IsAbortedIn marked b
    → AllByRecursion (λ line. ¬ Spans b line.0) (visible shown high_watermark)
hidden_in shown marked b high_watermark lawful also (inl p) aborted =
    subst (λ (l : List Batch). AllByRecursion (λ (line : ℕ × Record). ¬ Spans b line.0) (visible l high_watermark)) p.is
    (aborted_hidden marked p.rest b (subst IsLog (sym p.is) lawful) aborted high_watermark)
hidden_in shown marked b high_watermark lawful also (inr p) aborted =
    aborted_was_hidden shown p.rest b (subst IsLog (sym p.is) also) (subst (λ (l : List Batch). IsAbortedIn l b) (sym p.is) aborted) high_watermark

pub hidden_in_runs : RunsAreSafe → RunsKeepLogs → MarksAreEnds → AbortedRecordsAreHiddenInRuns
hidden_in_runs safe logs ends count r v w at_v at_w n m b aborted =
    let x = w.nodes n in
    let y = v.nodes m in
    let lawful : IsLog x.log = logs count r w at_w x.log (inl (n, refl)) in
    let shown : IsLog (held x) = IsLog-begins (ends count r w at_w n).0 lawful in
    let marked : IsLog (held y) = IsLog-begins (ends count r v at_v m).0 (logs count r v at_v y.log (inl (m, refl))) in
    subst (AllByRecursion (λ (line : ℕ × Record). ¬ Spans b line.0)) (sym (visible_below x.log x.watermark lawful))
    (hidden_in (held x) (held y) b x.watermark shown marked ((safe count r).agree v w m n at_v at_w) aborted)
