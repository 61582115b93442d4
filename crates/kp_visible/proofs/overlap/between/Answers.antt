use Rattle.std.proofs.Common.{◌≡◌, ◌+◌, ltb, rules, sym, ap, ◌∙◌, subst, List}
use Rattle.std.specs.List.{filter}
use Rattle.std.proofs.lemmas.List.Sorted.{IsPartitionedBy-ltb, IsPartitionPoint-from_clause}
use Rattle.kp_model.specs.Log.{Batch, IsLog}
use Rattle.kp_model.specs.Transactions.{Aborted, aborted_in}
use Rattle.kp_visible.specs.Client.{overlaps}
use Rattle.kp_visible.proofs.Cutting.{aborted_rise}
use Rattle.std.specs.List.Sorted.{IsNonDecreasingBy}
use Rattle.kp_visible.proofs.Stopping.{BeginsStable, aborted_stable}
use Rattle.kp_visible.proofs.Overlaps.{begun, behind_overlaps, stable_drop, upto_begun}
use Rattle.kp_visible.proofs.overlap.between.Goals as goal
use Rattle.kp_visible.proofs.overlap.between.Goals.{After-first_stopping-stopping}

ending : (c : After-first_stopping-stopping) (log : List Batch) → IsLog log → c.args.aborted.now ≡ aborted_in log
    → filter (begun c.args.last) c.split_at.result.1.now ≡ filter (overlaps c.args.start (c.args.last + 1)) c.args.aborted.now
ending c log lawful is =
    let list = c.args.aborted.now in
    let start = c.args.start in
    let from = c.partition_point.result in
    let rises = subst (IsNonDecreasingBy (λ a. a.marker)) (sym is) (aborted_rise log lawful) in
    let point =
    IsPartitionPoint-from_clause (λ (a : Aborted). ltb a.marker start) list from c.partition_point.ensures.partitioned (IsPartitionedBy-ltb (λ a. a.marker) list start rises) (λ a r q k. search rules) in
    ap (filter (begun c.args.last)) c.split_at.ensures.back ∙ behind_overlaps list start c.args.last from point.0 point.1

pub returns-else-stopping-ending : goal.returns-else-stopping-ending
returns-else-stopping-ending c = ending (goal.at.returns-else-stopping-ending c).After-first_stopping-stopping

pub returns-then-stopping-ending : goal.returns-then-stopping-ending
returns-then-stopping-ending c = λ log lawful is.
    let at = (goal.at.returns-then-stopping-ending c).After-first_stopping-stopping in
    let stable = subst BeginsStable (sym c.split_at.ensures.back) (stable_drop c.partition_point.result c.args.aborted.now (subst BeginsStable (sym is) (aborted_stable log lawful))) in
    upto_begun c.split_at.result.1.now c.args.last c.first_stopping-stopping.result stable c.if-stopping-ending.true (c.first_stopping-stopping.ensures.2 c.if-stopping-ending.true)
    ∙ ending at log lawful is
