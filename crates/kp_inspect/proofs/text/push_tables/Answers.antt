use Rattle.std.proofs.Common.{◌∙◌, ap, refl, subst, string_bytes}
use Rattle.kp_model.specs.Transactions.{aborted_in, open_in}
use Rattle.kp_epochs.specs.Cache.{AreEpochsOf}
use Rattle.kp_producers.specs.Table.{AreProducersOf}
use Rattle.kp_txns.specs.Open.{open_left}
use Rattle.kp_segment.specs.Shown.{ShowSegmentsOf}
use Rattle.kp_log.specs.Partition.{Partition, segmented}
use Rattle.kp_inspect.proofs.Telling.{tables_told}
use Rattle.kp_inspect.proofs.text.push_tables.Goals as goal

pub returns-clause-told : goal.returns-clause-told
returns-clause-told c =
    tables_told c.args.log.now (segmented c.args.log.now) c.all-tables.result.segments.now c.entries.result.now c.all-tables.result.producers.now (open_left c.open.result) c.aborted.result.now
    (string_bytes c.args.text.now) (string_bytes c.push_segments.new.text) (string_bytes c.push_epochs.new.text) (string_bytes c.push_producers.new.text) (string_bytes c.push_open.new.text)
    (string_bytes c.push_aborted.new.text) (string_bytes c.writeln.new.self) c.end_offset.result
    refl (subst (λ (p : Partition). ShowSegmentsOf p.limits p.log c.all-tables.result.segments.now) c.tables.ensures c.all-tables.ensures.built.segments_are)
    (c.entries.ensures.value ∙ subst (λ (p : Partition). AreEpochsOf p.log c.all-tables.result.epochs.now) c.tables.ensures c.all-tables.ensures.cached)
    (subst (λ (p : Partition). AreProducersOf p.log c.all-tables.result.producers.now) c.tables.ensures c.all-tables.ensures.produced)
    (c.open.ensures c.tables.result.now.log c.tables.result.now.settled c.all-tables.ensures.transacted
    ∙ ap (λ (p : Partition). open_in p.log) c.tables.ensures)
    (c.aborted.ensures c.tables.result.now.log c.tables.result.now.settled c.all-tables.ensures.transacted
    ∙ ap (λ (p : Partition). aborted_in p.log) c.tables.ensures)
    c.in_ok-push_segments.ensures c.in_ok-push_epochs.ensures c.in_ok-push_producers.ensures.told c.in_ok-push_open.ensures c.in_ok-push_aborted.ensures c.in_ok-writeln.ensures.bytes c.end_offset.ensures.value
