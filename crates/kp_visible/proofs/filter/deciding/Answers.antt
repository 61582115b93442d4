use Rattle.std.proofs.Common.{◌≡◌, ◌+◌, Bool, leb, rules, sym, ◌∙◌, subst, List, take}
use Rattle.std.specs.Prelude.{map}
use Rattle.std.specs.List.{AllByRecursion}
use Rattle.std.specs.List.Sorted.{IsNonDecreasingBy}
use Rattle.std.proofs.lemmas.List.Sorted.{IsPartitionedBy-leb, IsPartitionPoint-from_clause}
use Rattle.kp_types.proofs.Elements.{all_weaker, all_both}
use Rattle.kp_model.specs.Log.{Batch, logged}
use Rattle.kp_model.specs.Transactions.{Aborted}
use Rattle.kp_visible.specs.Filter.{shows}
use Rattle.kp_visible.proofs.Needed.{IsBetween, all_between, behind_shows, upto_shows}
use Rattle.kp_visible.proofs.filter.deciding.Goals as goal
use Rattle.kp_visible.proofs.filter.deciding.Goals.{After-first_stopping-last}

between : (c : After-first_stopping-last) → AllByRecursion (IsBetween c.base_offsets-lowest.result.0 c.base_offsets-lowest.result.1) (map logged c.args.batches.now)
between c = all_between logged c.base_offsets-lowest.result.0 c.base_offsets-lowest.result.1 c.args.batches.now c.base_offsets-lowest.ensures

behind : (c : After-first_stopping-last) → IsNonDecreasingBy (λ a. a.marker) c.args.aborted.now → AllByRecursion (λ b. shows c.split_at.result.1.now b ≡ shows c.args.aborted.now b) (map logged c.args.batches.now)
behind c rises =
    let list = c.args.aborted.now in
    let lowest = c.base_offsets-lowest.result.0 in
    let from = c.partition_point.result in
    let batches = map logged c.args.batches.now in
    let point =
    IsPartitionPoint-from_clause (λ (a : Aborted). leb a.marker lowest) list from c.partition_point.ensures.partitioned (IsPartitionedBy-leb (λ a. a.marker) list lowest rises) (λ a r q k. search rules) in
    subst (λ (l : List Aborted). AllByRecursion (λ b. shows l b ≡ shows list b) batches) (sym c.split_at.ensures.back) (behind_shows list lowest c.base_offsets-lowest.result.1 from batches point.0 (between c))

all_same : (f g h : Batch → Bool) (batches : List Batch) → AllByRecursion (λ b. f b ≡ g b) batches → AllByRecursion (λ b. g b ≡ h b) batches → AllByRecursion (λ b. f b ≡ h b) batches
all_same f g h batches one two = all_weaker _ (λ b. f b ≡ h b) (λ b e. e.0 ∙ e.1) batches (all_both (λ b. f b ≡ g b) (λ b. g b ≡ h b) batches one two)

pub returns-else-last-ending-clause-same : goal.returns-else-last-ending-clause-same
returns-else-last-ending-clause-same c = behind (goal.at.returns-else-last-ending-clause-same c).After-first_stopping-last

pub returns-then-last-ending-clause-same : goal.returns-then-last-ending-clause-same
returns-then-last-ending-clause-same c = λ rises.
    let at = (goal.at.returns-then-last-ending-clause-same c).After-first_stopping-last in
    let last = c.first_stopping-last.result in
    all_same (shows (take (last + 1) c.split_at.result.1.now)) (shows c.split_at.result.1.now) (shows c.args.aborted.now) (map logged c.args.batches.now)
    (upto_shows c.split_at.result.1.now c.base_offsets-lowest.result.0 c.base_offsets-lowest.result.1 last (map logged c.args.batches.now) c.if-last-ending.true
    (c.first_stopping-last.ensures.2 c.if-last-ending.true) (between at))
    (behind at rises)
