use Rattle.std.proofs.Common.{List, ap, ◌∙◌, sym, subst, arith}
use Rattle.std.specs.Prelude.{map}
use Rattle.std.specs.List.{filter}
use Rattle.std.specs.List.Sorted.{IsNonDecreasingBy}
use Rattle.kp_model.specs.Log.{Batch, logged}
use Rattle.kp_model.specs.Transactions.{Aborted, aborted_in}
use Rattle.kp_model.specs.Visible.{records_in}
use Rattle.kp_visible.specs.Filter.{shows}
use Rattle.kp_visible.specs.Near.{shown_from}
use Rattle.kp_types.proofs.Elements.{filter_agree_on}
use Rattle.kp_visible.proofs.Cutting.{aborted_rise, shown_whole}
use Rattle.kp_visible.proofs.Showing.{shown_is, whole_is}
use Rattle.kp_visible.proofs.committed_records.Goals as goal

pub returns-clause-by_list : goal.returns-clause-by_list
returns-clause-by_list c = λ rises.
    let needed = c.deciding.result.now in
    let batches = map logged c.args.batches.now in
    c.of-2.ensures ∙ ap (λ (entries : List Aborted). records_in (shown_from entries 0 batches)) c.in_ok-index.ensures
    ∙ ap records_in (shown_whole needed 0 batches (c.deciding.ensures.rising rises) (omega arith) ∙ filter_agree_on _ (shows needed) (shows c.args.aborted.now) (λ b e. e) batches (c.deciding.ensures.same rises))

pub returns-clause-committed : goal.returns-clause-committed
returns-clause-committed c = λ log high_watermark lawful list all.
    returns-clause-by_list c (subst (IsNonDecreasingBy (λ a. a.marker)) (sym list) (aborted_rise log lawful))
    ∙ ap (λ (entries : List Aborted). records_in (filter (shows entries) (map logged c.args.batches.now))) list
    ∙ shown_is log (map logged c.args.batches.now) high_watermark lawful all

pub returns-clause-whole : goal.returns-clause-whole
returns-clause-whole c = λ log high_watermark lawful list all.
    returns-clause-by_list c (subst (IsNonDecreasingBy (λ a. a.marker)) (sym list) (aborted_rise log lawful))
    ∙ ap (λ (entries : List Aborted). records_in (filter (shows entries) (map logged c.args.batches.now))) list
    ∙ ap (λ (batches : List Batch). records_in (filter (shows (aborted_in log)) batches)) all ∙ whole_is log high_watermark lawful
