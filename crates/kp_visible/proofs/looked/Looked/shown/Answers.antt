use Rattle.std.proofs.Common.{◌≡◌, ◌+◌, ◌-◌, ◌<◌, ◌≤◌, ◌++◌, [], ℕ, ap, sym, ◌∙◌, subst, refl, List, map, take, drop, arith, length}
use Rattle.std.proofs.Common.{leb, true, rules, get_or, max}
use Rattle.std.specs.List.{AllByRecursion}
use Rattle.std.proofs.lemmas.List.{drop_all, get_or-drop, length-drop, take_rest}
use Rattle.std.specs.Prelude.{Bool, Option}
use Rattle.std.specs.List.Sorted.{IsNonDecreasingBy}
use Rattle.std.proofs.lemmas.Bool.{leb-true}
use Rattle.std.proofs.lemmas.List.Sorted.{IsPartitionedBy-leb, IsPartitionPoint-from_clause}
use Rattle.kp_types.proofs.Elements.{all_weaker}
use Rattle.kp_model.specs.Event.{Line}
use Rattle.kp_visible.proofs.Cutting.{all_taken}
use Rattle.kp_visible.specs.declared.looked.Stretch.{Stretch}
use Rattle.kp_batch.specs.Batch.{Written}
use Rattle.kp_model.specs.Log.{logged}
use Rattle.kp_model.specs.Reading.{lines_from}
use Rattle.kp_model.specs.Visible.{records_in}
use Rattle.kp_visible.specs.Looked.{AreBehind, chosen, last_stretch, spread}
use Rattle.kp_visible.proofs.Stretches.{ends_rise, last_within, left_from, lines_left, no_stretch, one_stretch, spread_length, stretch_at}
use Rattle.kp_visible.proofs.looked.Looked.shown.Goals as goal
use Rattle.kp_visible.proofs.looked.Looked.shown.Goals.{After-deref-3, After-loop-stretch, in-None, in-Some+in_ok-push_batches-in-Some}

-- as many are known as are handed over
counted : (c : After-deref-3) → c.self.inside.count ≡ length c.args.batches.now
counted c =
    let x = c.self.inside in
    let many = ap (λ (vs : List Bool). length vs) (sym c.self.view_is) ∙ spread_length 0 (x.stretches.items ++ last_stretch x.last x.count) x.count c.self.invariant in
    omega (arith, many, c.requires.known)

-- the stretches that are left out end at the place, or before it
passed : (c : After-deref-3) → AllByRecursion (λ s. s.end ≤ c.args.place) (take c.partition_point-passed.result c.self.inside.stretches.items)
passed c =
    let x = c.self.inside in
    let place = c.args.place in
    let ends = ends_rise 0 x.stretches.items (last_stretch x.last x.count) x.count c.self.invariant in
    let point =
    IsPartitionPoint-from_clause (λ (s : Stretch). leb s.end place) c.deref.result.now c.partition_point-passed.result c.partition_point-passed.ensures.partitioned
    (IsPartitionedBy-leb (λ s. s.end) c.deref.result.now place (subst (IsNonDecreasingBy (λ s. s.end)) (sym c.deref.ensures.value) ends)) (λ a r q k. search rules) in
    all_weaker (λ s. leb s.end place ≡ true) (λ s. s.end ≤ place) (λ s e. leb-true s.end place e) (take c.partition_point-passed.result x.stretches.items)
    (subst (λ (ss : List Stretch). AllByRecursion (λ s. leb s.end place ≡ true) (take c.partition_point-passed.result ss)) c.deref.ensures.value
    (all_taken (λ s. leb s.end place ≡ true) c.deref.result.now c.partition_point-passed.result point.0))

pub loop-stretch-init : goal.loop-stretch-init
loop-stretch-init c =
    let x = c.self.inside in
    let at = (goal.at.loop-stretch-init c).After-deref-3 in
    let left = left_from c.args.place x.stretches.items (last_stretch x.last x.count) c.partition_point-passed.result x.count c.self.invariant (passed at) in
    let known : drop c.args.place c.args.self.now ≡ spread c.args.place (drop (c.partition_point-passed.result + 0) x.stretches.items ++ last_stretch x.last x.count) x.count =
    ap (λ (vs : List Bool). drop c.args.place vs) (sym c.self.view_is) ∙ left in
    ap (λ (ls : List Line). ls ++ lines_left c.args.from c.args.place (drop (c.partition_point-passed.result + 0) x.stretches.items ++ last_stretch x.last x.count) x.count c.args.batches.now) c.in_ok-lines.ensures
    ∙ ap (λ (vs : List Bool). lines_from c.args.from (records_in (chosen vs (drop c.args.place (map logged c.args.batches.now))))) (sym known)

abbrev none : Stretch
none = record { start = 0; end = 0 }

-- the stretch of this turn
item : (items stretches : List Stretch) (passed i : ℕ) → items ≡ stretches → i < length (take (length items - passed) (drop passed items))
    → (passed + i < length stretches) × (get_or (take (length items - passed) (drop passed items)) i none ≡ get_or stretches (passed + i) none)
item items stretches passed i is within =
    let rest = take_rest items passed in
    let many = ap (λ (ss : List Stretch). length ss) rest in
    let left : length (drop passed items) ≡ length items - passed = length-drop passed items in
    let same = ap (λ (ss : List Stretch). length ss) is in
    (omega (arith, many, left, same, within), ap (λ (ss : List Stretch). get_or ss i none) rest ∙ get_or-drop passed items i none ∙ ap (λ (ss : List Stretch). get_or ss (passed + i) none) is)

pub between-requires : goal.between-requires
between-requires c =
    let x = c.self.inside in
    let it = item c.deref-3.result.now x.stretches.items c.partition_point-passed.result c.loop-stretch.stretch-index c.deref-3.ensures.value c.loop-stretch-test.true in
    let s = get_or x.stretches.items (c.partition_point-passed.result + c.loop-stretch.stretch-index) none in
    let at = stretch_at x.stretches.items (last_stretch x.last x.count) x.count (c.partition_point-passed.result + c.loop-stretch.stretch-index) s none c.self.invariant it.0 refl in
    let many = counted (goal.at.between-requires c).After-deref-3 in
    let ends = ap (λ (t : Stretch). t.end) it.1 in
    let within = at.1 in
    omega (arith, many, ends, within)

pub loop-stretch-preserved : goal.loop-stretch-preserved
loop-stretch-preserved c =
    let x = c.self.inside in
    let passed = c.partition_point-passed.result in
    let i = c.loop-stretch.stretch-index in
    let last = last_stretch x.last x.count in
    let batches = c.args.batches.now in
    let from = c.args.from in
    let place = c.loop-stretch.place in
    let it = item c.deref-3.result.now x.stretches.items passed i c.deref-3.ensures.value c.loop-stretch-test.true in
    let s = get_or (take (length c.deref-3.result.now - passed) (drop passed c.deref-3.result.now)) i none in
    let at = stretch_at x.stretches.items last x.count (passed + i) s none c.self.invariant it.0 it.1 in
    let next : passed + i + 1 ≡ passed + (i + 1) = omega arith in
    let there : c.between.result.now ≡ take (s.end - max place s.start) (drop (max place s.start) batches) =
    c.between.ensures ∙ ap (λ (n : ℕ). take (s.end - n) (drop n batches)) c.max-start.ensures in
    let after = one_stretch from place s (drop (passed + i + 1) x.stretches.items ++ last) x.count batches c.loop-stretch.lines c.push_batches.new.lines
    (lines_from from (records_in (chosen (drop c.args.place c.args.self.now) (drop c.args.place (map logged batches))))) at.0
    (ap (λ (ss : List Stretch). c.loop-stretch.lines ++ lines_left from place ss x.count batches) (sym at.2) ∙ c.loop-stretch.invariant)
    (c.in_ok-push_batches.ensures ∙ ap (λ (ws : List Written). c.loop-stretch.lines ++ lines_from from (records_in (map logged ws))) there) in
    ap (λ (n : ℕ). c.push_batches.new.lines ++ lines_left from n (drop (passed + (i + 1)) x.stretches.items ++ last) x.count batches) c.max-place.ensures
    ∙ ap (λ (n : ℕ). c.push_batches.new.lines ++ lines_left from (max place s.end) (drop n x.stretches.items ++ last) x.count batches) (sym next) ∙ after

pub between-requires-in-Some : goal.between-requires-in-Some
between-requires-in-Some c = let same = counted (goal.at.between-requires-in-Some c).After-deref-3 in omega (arith, same)

-- behind the loop the last stretch alone is left
left : (c : After-loop-stretch) → c.loop-stretch.lines ++ lines_left c.args.from c.loop-stretch.place (last_stretch c.self.inside.last c.self.inside.count) c.self.inside.count c.args.batches.now
    ≡ lines_from c.args.from (records_in (chosen (drop c.args.place c.args.self.now) (drop c.args.place (map logged c.args.batches.now))))
left c =
    let x = c.self.inside in
    let passed = c.partition_point-passed.result in
    let items = c.deref-3.result.now in
    let last = last_stretch x.last x.count in
    let many = ap (λ (ss : List Stretch). length ss) (take_rest items passed) in
    let rest : length (drop passed items) ≡ length items - passed = length-drop passed items in
    let same = ap (λ (ss : List Stretch). length ss) c.deref-3.ensures.value in
    let over : length x.stretches.items ≤ passed + c.loop-stretch.stretch-index = omega (arith, many, rest, same, c.loop-stretch-test.false) in
    ap (λ (ss : List Stretch). c.loop-stretch.lines ++ lines_left c.args.from c.loop-stretch.place (ss ++ last) x.count c.args.batches.now) (sym (drop_all (passed + c.loop-stretch.stretch-index) x.stretches.items over))
    ∙ c.loop-stretch.invariant

pub returns : goal.returns
returns c =
    let x = c.self.inside in
    let from = c.args.from in
    let place = c.loop-stretch.place in
    let batches = c.args.batches.now in
    let all = lines_from from (records_in (chosen (drop c.args.place c.args.self.now) (drop c.args.place (map logged batches)))) in
    let was = left (goal.at.returns c).After-loop-stretch in
    elim c.match-self.branch [
      | in-None w ↦
          w.lines-is ∙ no_stretch from place x.count batches c.loop-stretch.lines all
          (subst (λ (o : Option ℕ). c.loop-stretch.lines ++ lines_left from place (last_stretch o x.count) x.count batches ≡ all) w.in-None.is was)
      | in-Some+in_ok-push_batches-in-Some w ↦
          let start = w.in-Some.start in
          let s : Stretch = record { start = start; end = x.count } in
          let within = last_within 0 x.stretches.items start x.count (subst (λ (o : Option ℕ). AreBehind 0 (x.stretches.items ++ last_stretch o x.count) x.count) w.in-Some.is c.self.invariant) in
          let there : w.between-in-Some.result.now ≡ take (x.count - max place start) (drop (max place start) batches) =
          w.between-in-Some.ensures ∙ ap (λ (n : ℕ). take (x.count - n) (drop n batches)) w.max-start-in-Some.ensures in
          w.lines-is
          ∙ no_stretch from (max place x.count) x.count batches w.push_batches-in-Some.new.lines all
          (one_stretch from place s [] x.count batches c.loop-stretch.lines w.push_batches-in-Some.new.lines all within
          (subst (λ (o : Option ℕ). c.loop-stretch.lines ++ lines_left from place (last_stretch o x.count) x.count batches ≡ all) w.in-Some.is was)
          (w.in_ok-push_batches-in-Some.ensures ∙ ap (λ (ws : List Written). c.loop-stretch.lines ++ lines_from from (records_in (map logged ws))) there))
    ]
