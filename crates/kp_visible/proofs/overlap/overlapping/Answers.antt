use Rattle.std.proofs.Common.{List, rules, sym, ap, subst, ◌∙◌}
use Rattle.std.specs.Prelude.{map}
use Rattle.std.specs.List.{filter}
use Rattle.std.specs.List.Sorted.{IsPermutation}
use Rattle.std.proofs.lemmas.List.Sorted.{IsNonDecreasingBy-from_sort_by_key}
use Rattle.kp_model.specs.Log.{logged}
use Rattle.kp_model.specs.Transactions.{Aborted}
use Rattle.kp_visible.specs.Client.{is_clear, kept, named, overlapping}
use Rattle.kp_visible.proofs.Clients.{clear_moved, clear_of_log, clients_keep, kept_moved}
use Rattle.kp_visible.proofs.Going.{clients_go_over}
use Rattle.kp_visible.proofs.overlap.overlapping.Goals as goal

pub returns-in_ok-entries-in-Some-clause-rising : goal.returns-in_ok-entries-in-Some-clause-rising
returns-in_ok-entries-in-Some-clause-rising c =
    IsNonDecreasingBy-from_sort_by_key (λ a. a.first) c.sort_unstable_by_key.new.self.items c.sort_unstable_by_key.ensures.sorted (λ a r q k. search rules)

pub returns-in_ok-entries-in-Some-clause-those : goal.returns-in_ok-entries-in-Some-clause-those
returns-in_ok-entries-in-Some-clause-those c = λ log lawful is.
    let collected = c.in_ok-entries-in-Some.ensures.those ∙ c.between.ensures log lawful is ∙ sym (c.in-Some.ensures c.args.aborted.now) in
    subst (λ (l : List Aborted). IsPermutation l c.sort_unstable_by_key.new.self.items) collected c.sort_unstable_by_key.ensures.permutation

pub returns-in_ok-entries-in-Some-clause-client : goal.returns-in_ok-entries-in-Some-clause-client
returns-in_ok-entries-in-Some-clause-client c = λ log high_watermark lawful is piece.
    let batches = map logged c.args.batches.now in
    kept_moved (overlapping batches c.args.aborted.now) c.sort_unstable_by_key.new.self.items batches (returns-in_ok-entries-in-Some-clause-those c log lawful is)
    ∙ ap (λ (l : List Aborted). kept (map named (overlapping batches l)) batches) is ∙ clients_keep log batches high_watermark lawful piece

pub returns-in_ok-entries-in-Some-clause-programmed : goal.returns-in_ok-entries-in-Some-clause-programmed
returns-in_ok-entries-in-Some-clause-programmed c = λ log high_watermark lawful is piece.
    let batches = map logged c.args.batches.now in
    clients_go_over log batches high_watermark c.sort_unstable_by_key.new.self.items lawful piece
    (subst (λ (l : List Aborted). IsPermutation (overlapping batches l) c.sort_unstable_by_key.new.self.items) is (returns-in_ok-entries-in-Some-clause-those c log lawful is))

pub returns-in_ok-entries-in-Some-clause-clear : goal.returns-in_ok-entries-in-Some-clause-clear
returns-in_ok-entries-in-Some-clause-clear c = λ log high_watermark lawful is piece.
    let batches = map logged c.args.batches.now in
    clear_moved (overlapping batches c.args.aborted.now) c.sort_unstable_by_key.new.self.items batches (returns-in_ok-entries-in-Some-clause-those c log lawful is)
    ∙ ap (λ (l : List Aborted). filter (is_clear (overlapping batches l)) batches) is ∙ clear_of_log log batches high_watermark lawful piece
