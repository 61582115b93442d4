use Rattle.std.proofs.Common.{◌≡◌, ◌≤◌, ◌++◌, ◌∷◌, [], ℕ, ap, sym, ◌∙◌, subst, List, map, take, drop, arith, length}
use Rattle.std.specs.Prelude.{Bool, OnOk}
use Rattle.std.specs.List.Sorted.{IsNonDecreasingBy}
use Rattle.std.proofs.lemmas.List.{take_all, take_more}
use Rattle.kp_batch.specs.Batch.{Written}
use Rattle.kp_model.specs.Log.{logged}
use Rattle.kp_model.specs.Beginning.{Begins}
use Rattle.kp_model.specs.Transactions.{Aborted}
use Rattle.kp_visible.specs.Filter.{shows}
use Rattle.kp_visible.specs.Near.{place_from}
use Rattle.kp_txns.proofs.Lists.{map_agree_on}
use Rattle.kp_visible.proofs.Cutting.{shown_near}
use Rattle.kp_visible.proofs.Stretches.{begun_by, looked_one}
use Rattle.kp_visible.proofs.looked.Looked.look_committed.Goals as goal
use Rattle.kp_visible.proofs.looked.Looked.look_committed.Goals.{After-deciding-needed, After-of-searched}

-- the transactions that decide, among which is searched
abbrev needed : After-of-searched → List Aborted
needed c = c.of-searched.result.index.aborted.now

listed : (c : After-of-searched) → needed c ≡ c.deciding-needed.result.now
listed c = c.of-searched.ensures.list ∙ c.in_ok-of.ensures

rises : (c : After-of-searched) → IsNonDecreasingBy (λ a. a.marker) (needed c)
rises c = subst (IsNonDecreasingBy (λ a. a.marker)) (sym (listed c)) (c.deciding-needed.ensures.rising c.requires.rising)

-- they show what the whole list does
same : (c : After-of-searched) → map (shows (needed c)) (map logged c.args.batches.now) ≡ map (shows c.args.aborted.now) (map logged c.args.batches.now)
same c =
    ap (λ (list : List Aborted). map (shows list) (map logged c.args.batches.now)) (listed c)
    ∙ map_agree_on (λ b. shows c.deciding-needed.result.now b ≡ shows c.args.aborted.now b) (shows c.deciding-needed.result.now) (shows c.args.aborted.now) (λ b e. e) (map logged c.args.batches.now) (c.deciding-needed.ensures.same c.requires.rising)

pub loop-batch-preserved : goal.loop-batch-preserved
loop-batch-preserved c =
    let at = (goal.at.loop-batch-preserved c).After-of-searched in
    let list = needed at in
    let kept = c.loop-batch.invariant.list in
    let w = c.batch-item.result in
    let place = c.loop-batch.searched.place in
    let now = c.is_shown.new.self in
    let shown : c.is_shown.result ≡ shows list (logged w) =
    c.is_shown.ensures.shown ∙ ap (λ (l : List Aborted). shows (drop now.place l) (logged w)) (c.is_shown.ensures.list ∙ kept)
    ∙ ap (λ (at : ℕ). shows (drop at list) (logged w)) (c.is_shown.ensures.moved ∙ ap (λ (l : List Aborted). place_from l w.base place) kept)
    ∙ shown_near list place (logged w) (rises at) (subst (λ (l : List Aborted). place ≤ length l) kept c.loop-batch.searched.within) in
    let more = take_more c.args.batches.now c.loop-batch.batch-index w c.loop-batch-test.true in
    record {
      list = c.is_shown.ensures.list ∙ kept;
      looked = looked_one (shows list) c.args.self.now c.loop-batch.self c.push.new.self c.args.batches.now c.loop-batch.batch-index w c.is_shown.result c.loop-batch.invariant.looked
          (more ∙ ap (λ (v : Written). take c.loop-batch.batch-index c.args.batches.now ++ v ∷ []) (sym c.batch-item.is)) shown c.in_ok-push.ensures.ok;
    }

pub returns-in_err-push-clause-begun : goal.returns-in_err-push-clause-begun
returns-in_err-push-clause-begun c =
    let at = (goal.at.returns-in_err-push-clause-begun c).After-of-searched in
    subst (λ (vs : List Bool). Begins c.push.new.self (c.args.self.now ++ vs)) (same at)
    (begun_by (shows (needed at)) c.args.self.now c.push.new.self c.args.batches.now c.loop-batch.batch-index (c.in_err-push.ensures.err ∙ c.loop-batch.invariant.looked))

pub returns-clause-looked : goal.returns-clause-looked
returns-clause-looked c =
    let at = (goal.at.returns-clause-looked c).After-of-searched in
    let all = take_all c.loop-batch.batch-index c.args.batches.now (omega arith) in
    c.loop-batch.invariant.looked ∙ ap (λ (ws : List Written). c.args.self.now ++ map (shows (needed at)) (map logged ws)) all ∙ ap (λ (vs : List Bool). c.args.self.now ++ vs) (same at)

pub returns-clause-begun : goal.returns-clause-begun
returns-clause-begun c =
    let at = (goal.at.returns-clause-begun c).After-of-searched in
    subst (λ (vs : List Bool). Begins c.loop-batch.self (c.args.self.now ++ vs)) (same at)
    (begun_by (shows (needed at)) c.args.self.now c.loop-batch.self c.args.batches.now c.loop-batch.batch-index c.loop-batch.invariant.looked)

-- of few batches the same
few_same : (c : After-deciding-needed) → map (shows c.deciding-needed.result.now) (map logged c.args.batches.now) ≡ map (shows c.args.aborted.now) (map logged c.args.batches.now)
few_same c = map_agree_on (λ b. shows c.deciding-needed.result.now b ≡ shows c.args.aborted.now b) (shows c.deciding-needed.result.now) (shows c.args.aborted.now) (λ b e. e) (map logged c.args.batches.now) (c.deciding-needed.ensures.same c.requires.rising)

pub returns-then-batches-le-FEW-clause-looked : goal.returns-then-batches-le-FEW-clause-looked
returns-then-batches-le-FEW-clause-looked c =
    let at = (goal.at.returns-then-batches-le-FEW-clause-looked c).After-deciding-needed in
    subst (λ (vs : List Bool). OnOk c.look_few.result (c.look_few.new.self ≡ c.args.self.now ++ vs)) (few_same at) c.look_few.ensures.looked

pub returns-then-batches-le-FEW-clause-begun : goal.returns-then-batches-le-FEW-clause-begun
returns-then-batches-le-FEW-clause-begun c =
    let at = (goal.at.returns-then-batches-le-FEW-clause-begun c).After-deciding-needed in
    subst (λ (vs : List Bool). Begins c.look_few.new.self (c.args.self.now ++ vs)) (few_same at) c.look_few.ensures.begun
