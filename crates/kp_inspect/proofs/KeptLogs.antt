-- A log's files have its dump.
use Rattle.std.proofs.Common.{◌≡◌, ◌∙◌, ℕ, List, [], ◌++◌, Option, None, refl, sym, ap, subst, append-nil}
use Rattle.std.specs.List.{AllByRecursion}
use Rattle.kp_types.specs.declared.refusal.Refusal.{Refusal}
use Rattle.kp_types.specs.declared.limits.Limits.{Limits}
use Rattle.kp_batch.specs.Laws.{BatchesAreFramed, BatchesStandApart, JudgedOnce}
use Rattle.kp_model.specs.Log.{Batch, IsLog}
use Rattle.kp_model.specs.Tables.{AreSegmentsOf}
use Rattle.kp_producers.specs.Table.{AreProducersOf}
use Rattle.kp_log.specs.Files.{FilesAreTheLog, joined}
use Rattle.kp_inspect.specs.Dump.{batch_lines, table_lines}
use Rattle.kp_inspect.specs.Inspected.{IsDump}
use Rattle.kp_inspect.specs.Laws.{IsDumpOf, KeptLogsAreRead}
use Rattle.kp_inspect.specs.Scanned.{IsTaken, log_spelling}
use Rattle.kp_inspect.proofs.OneDump.{found_in}
use Rattle.kp_inspect.proofs.OneLog.{Found, one_log, one_reason}

-- the whole bytes are the log
abbrev whole : (max : ℕ) (bytes : List ℕ) (log : List Batch) → IsLog log → AllByRecursion (IsTaken max) log → bytes ≡ log_spelling log → Found max bytes None
whole max bytes log lawful taken same =
    record { log = log; rest = []; begins = record { lawful = lawful; taken = taken; spelled = same ∙ sym (append-nil (log_spelling log)) }; ends = refl }

-- the dump that has no fault
no_fault : (limits : Limits) (bytes text : List ℕ) (log : List Batch) (dump : IsDump limits bytes text None) → dump.log ≡ log → IsDumpOf limits log text
no_fault limits bytes text log dump same =
    record {
      segments = dump.segments;
      tables = subst (λ (l : List Batch). AreSegmentsOf limits l dump.segments) same dump.tables;
      producers = dump.producers;
      kept = subst (λ (l : List Batch). AreProducersOf l dump.producers) same dump.kept;
      text_is = dump.text_is ∙ ap (λ (l : List Batch). batch_lines 0 l ++ table_lines dump.segments dump.producers l) same;
    }

pub kept_logs : BatchesStandApart → JudgedOnce → BatchesAreFramed → FilesAreTheLog → KeptLogsAreRead
kept_logs apart judged framed join folder kept limits log files text fault lawful taken are bytes dump =
    let max = limits.max_batch in
    let all = join folder kept log files are in
    let found = whole max (joined files) log lawful taken all in
    let reason : fault ≡ None = one_reason apart judged framed max (joined files) fault None bytes (found_in limits (joined files) text fault dump) found in
    let again : IsDump limits (joined files) text None = subst (λ (f : Option Refusal). IsDump limits (joined files) text f) reason dump in
    (reason, no_fault limits (joined files) text log again (one_log apart judged framed max (joined files) None None bytes (found_in limits (joined files) text None again) found).0)
