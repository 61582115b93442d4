-- Bytes have one dump at most.
use Rattle.std.proofs.Common.{◌≡◌, ℕ, List, [], ◌++◌, Option, Some, None, refl, sym, ap, ◌∙◌, subst}
use Rattle.kp_types.specs.declared.refusal.Refusal.{Refusal}
use Rattle.kp_types.specs.declared.limits.Limits.{Limits}
use Rattle.kp_batch.specs.Laws.{BatchesStandApart, JudgedOnce, BatchesAreFramed}
use Rattle.kp_model.specs.Log.{Batch, bytes as sizes}
use Rattle.kp_model.specs.Tables.{Segment, AreSegmentsOf}
use Rattle.kp_model.specs.Laws.{SegmentsAreOne}
use Rattle.kp_producers.specs.Table.{Table, AreProducersOf}
use Rattle.kp_producers.specs.Laws.{TablesAreOne}
use Rattle.kp_inspect.specs.Dump.{batch_lines, table_lines, fault_line}
use Rattle.kp_inspect.specs.Inspected.{IsDump}
use Rattle.kp_inspect.specs.Laws.{DumpsAreOne}
use Rattle.kp_inspect.proofs.OneLog.{Found, one_log, one_reason}

-- what a dump tells of
abbrev pub found_in : (limits : Limits) (bytes text : List ℕ) (fault : Option Refusal) → IsDump limits bytes text fault → Found limits.max_batch bytes fault
found_in limits bytes text None dump = record { log = dump.log; rest = []; begins = dump.whole; ends = refl }
found_in limits bytes text (Some refusal) dump =
    record { log = dump.log; rest = dump.stops.rest; begins = dump.stops.begins; ends = (dump.stops.some, dump.stops.fault) }

-- the text is that of the log and the fault
one_text : SegmentsAreOne → TablesAreOne → (limits : Limits) (bytes text other : List ℕ) (fault : Option Refusal)
    → (dump : IsDump limits bytes text fault) (again : IsDump limits bytes other fault)
    → (found_in limits bytes text fault dump).log ≡ (found_in limits bytes other fault again).log → text ≡ other
one_text one table limits bytes text other None dump again same =
    let tables : dump.segments ≡ again.segments =
    one limits again.log dump.segments again.segments (subst (λ (l : List Batch). AreSegmentsOf limits l dump.segments) same dump.tables) again.tables in
    let producers : dump.producers ≡ again.producers =
    table again.log dump.producers again.producers (subst (λ (l : List Batch). AreProducersOf l dump.producers) same dump.kept) again.kept in
    dump.text_is ∙ ap (λ (l : List Batch). batch_lines 0 l ++ table_lines dump.segments dump.producers l) same
    ∙ ap (λ (s : List Segment). batch_lines 0 again.log ++ table_lines s dump.producers again.log) tables
    ∙ ap (λ (t : Table). batch_lines 0 again.log ++ table_lines again.segments t again.log) producers ∙ sym again.text_is
one_text one table limits bytes text other (Some refusal) dump again same =
    dump.text_is ∙ ap (λ (l : List Batch). batch_lines 0 l ++ fault_line refusal (sizes l)) same ∙ sym again.text_is

pub one_dump : BatchesStandApart → JudgedOnce → BatchesAreFramed → SegmentsAreOne → TablesAreOne → DumpsAreOne
one_dump apart judged whole_front one table limits bytes text other fault another are dump also =
    let max = limits.max_batch in
    let reason : fault ≡ another =
    one_reason apart judged whole_front max bytes fault another are (found_in limits bytes text fault dump) (found_in limits bytes other another also) in
    let again : IsDump limits bytes other fault = subst (λ (f : Option Refusal). IsDump limits bytes other f) (sym reason) also in
    let logs = one_log apart judged whole_front max bytes fault fault are (found_in limits bytes text fault dump) (found_in limits bytes other fault again) in
    (one_text one table limits bytes text other fault dump again logs.0, reason)
