-- The passes of nodes are taken back, and what they show is left.
use Rattle.std.proofs.Common.{◌≡◌, ◌≢◌, ℕ, zero, suc, ◌+◌, ◌<◌, List, [], ◌∷◌, ◌++◌, length, get_or, map, set, ⊎_elim, refl, sym, ap, ◌∙◌, subst, arith}
use Rattle.std.specs.Prelude.{slice_index_or}
use Rattle.std.proofs.lemmas.List.{length-map}
use mathlib.Core.Logic.{dite}
use mathlib.Core.Option.{some, some-injective, some-ne-none}
use native.Mathlib.Decide.{ℕ_discrete}
use lib.ListN.{get_elem?}
use Rattle.atomic_table.specs.Table.{State, Joins, Splits}
use Rattle.atomic_table.proofs.Lists.{at_set}
use Rattle.kp_model.specs.Log.{Batch}
use Rattle.kp_model.specs.World.{LeaderAndIsr}
use Rattle.kp_model.specs.Run.{BeginsHeld, Run, last}
use Rattle.kp_model.specs.Left.{CrashesAreStops, IsLeft, LeftNode, Opening, left_node, left_of, nothing_left}
use Rattle.kp_board.specs.Views.{NodeView, CallerView, ClosingView, View, of_node, of_caller, of_closing, spent, closing_of, with_node_of}
use Rattle.kp_board.specs.Rule.{FitsNode, FitNodes, Fits, Ruled}
use Rattle.kp_board.specs.Plays.{IsRecordOfWord}
use Rattle.kp_board.specs.Closing.{AreFrom, left_behind, WasClosed}
use Rattle.kp_board.proofs.Counting.{counts_on}
use Rattle.kp_board.proofs.Fitting.{record_word}
use Rattle.kp_board.proofs.Lists.{put, put_here, put_else}
use Rattle.kp_board.proofs.Sharing.{moves_owner, shares}
use Rattle.kp_board.proofs.Steps.{views_fit}

module _ (o : Opening) where
  abbrev n : ℕ
  n = o.count

  -- ---- a pass that closes the board

  begins_closing : (id : ℕ) (c : CallerView) → Splits (Ruled o) id (of_caller c) (of_caller c) (closing_of (of_caller c))
  begins_closing id c = shares o id (of_caller c) (of_closing (record { seen = c.seen; nodes = [] })) refl refl refl refl (λ s d f j. (f.of_run.seen, tt))

  pub begins_closing_at : (id : ℕ) (v : View) (c : CallerView) → v ≡ of_caller c → Splits (Ruled o) id v v (closing_of v)
  begins_closing_at id v c is = subst (λ (x : View). Splits (Ruled o) id x x (closing_of x)) (sym is) (begins_closing id c)

  -- ---- a node's pass is taken in

  own_put : (owner : ℕ → ℕ) (j id k : ℕ) → owner k ≡ id → put owner j id k ≡ id
  own_put owner j id k own = dite (ℕ_discrete k j) (λ e. ap (put owner j id) e ∙ put_here owner j id) (λ ne. put_else owner j id k ne ∙ own)

  -- what is its own stays its own
  still_own : (r : Run n) (owner : ℕ → ℕ) (words : List ℕ) (j id : ℕ) (ps : List NodeView) → FitNodes r owner words id ps → FitNodes r (put owner j id) words id ps
  still_own r owner words j id [] f = tt
  still_own r owner words j id (p ∷ ps) f = (
    record { count = f.0.count; inside = f.0.inside; own = own_put owner j id p.number f.0.own; state = f.0.state; shown = f.0.shown; word = f.0.word; told = f.0.told },
    still_own r owner words j id ps f.1,
  )

  one_node_more : (r : Run n) (owner : ℕ → ℕ) (words : List ℕ) (id : ℕ) (ps : List NodeView) (p : NodeView) → FitNodes r owner words id ps → FitsNode r owner words id p → FitNodes r owner words id (ps ++ p ∷ [])
  one_node_more r owner words id [] p f g = (g, tt)
  one_node_more r owner words id (q ∷ ps) p f g = (f.0, one_node_more r owner words id ps p f.1 g)

  takes_in : (id : ℕ) (x : ClosingView) (other : ℕ) (p : NodeView) → Joins (Ruled o) id (of_closing x) other (of_node p) (with_node_of (of_closing x) (of_node p)) spent
  takes_in id x other p s d at apart there =
      let y : ClosingView = record x { nodes = x.nodes ++ p ∷ [] } in
      let theirs_at : get_elem? s.views other ≡ some (of_node p) =
      ⊎_elim (λ (t : (other ≡ id) × (of_closing y ≡ of_node p)). absurd (apart t.0)) (λ (t : (other ≢ id) × (get_elem? s.views other ≡ some (of_node p))). t.1) (at_set s.views id other (of_closing y) (of_node p) there) in
      let mine = d.seats id (of_closing x) at in
      let theirs : FitsNode d.run d.owner s.words other p = d.seats other (of_node p) theirs_at in
      let owner' : ℕ → ℕ = put d.owner p.number id in
      let moved : FitsNode d.run owner' s.words id p =
      record { count = theirs.count; inside = theirs.inside; own = put_here d.owner p.number id; state = theirs.state; shown = theirs.shown; word = theirs.word; told = theirs.told } in
      let fits : Fits d.run owner' s.words id (of_closing y) =
      (mine.0, one_node_more d.run owner' s.words id x.nodes p (still_own d.run d.owner s.words p.number id x.nodes mine.1) moved) in
      let version : ℕ = (last d.run).controller.version in record {
        small = d.small;
        old = d.old;
        opening = d.opening;
        run = d.run;
        goes_on = d.goes_on;
        owner = owner';
        wide = d.wide;
        record_is = d.record_is;
        marks = d.marks;
        tops = d.tops;
        seats = views_fit d.run owner' s.words (set s.views id (of_closing y)) other spent tt
            (λ j u ne e. ⊎_elim
            (λ (t : (j ≡ id) × (of_closing y ≡ u)). subst (λ (z : ℕ × View). Fits d.run owner' s.words z.0 z.1) (λ i. (sym t.0 i, t.1 i)) fits)
            (λ (t : (j ≢ id) × (get_elem? s.views j ≡ some u)). moves_owner o d.run d.owner s.words other p.number id j u theirs.own ne (d.seats j u t.1))
            (at_set s.views id j (of_closing y) u e));
        counted = counts_on (set s.views id (of_closing y)) other (of_node p) spent o.controller.version version version there record { founder = refl; caller = refl; made = refl; changes = refl }
            (counts_on s.views id (of_closing x) (of_closing y) o.controller.version version version at record { founder = refl; caller = refl; made = refl; changes = refl } d.counted);
      }

  pub takes_in_at : (id : ℕ) (v : View) (x : ClosingView) (other : ℕ) (w : View) (p : NodeView) → v ≡ of_closing x → w ≡ of_node p → Joins (Ruled o) id v other w (with_node_of v w) spent
  takes_in_at id v x other w p e f = subst (λ (z : View × View). Joins (Ruled o) id z.0 other z.1 (with_node_of z.0 z.1) spent) (λ i. (sym e i, sym f i)) (takes_in id x other p)

  -- ---- what is left

  at_zero : (words : List ℕ) (word : ℕ) → get_elem? words 0 ≡ some word → get_or words 0 0 ≡ word
  at_zero [] word e = absurd (some-ne-none word (sym e))
  at_zero (w ∷ ws) word e = some-injective w word e

  -- word 0 is the word of the run's record still
  pub last_word : (s : State ℕ View) (d : Ruled o s) (words : List ℕ) (word : ℕ) → s.words ≡ words → get_elem? words 0 ≡ some word → IsRecordOfWord (last d.run).controller word
  last_word s d words word same at =
      subst (IsRecordOfWord (last d.run).controller) (ap (λ (ws : List ℕ). get_or ws 0 0) same ∙ at_zero words word at) (record_word o s d)

  left_at : (r : Run n) (owner : ℕ → ℕ) (words : List ℕ) (id : ℕ) (ps : List NodeView) (from : ℕ) → AreFrom from ps → FitNodes r owner words id ps → (k : ℕ) → k < length ps
      → slice_index_or (map (λ (p : NodeView). left_of p.state) ps) k nothing_left ≡ left_of ((last r).nodes (from + k))
  left_at r owner words id [] from are fit k l = absurd (omega arith)
  left_at r owner words id (p ∷ ps) from are fit zero l =
      let here : p.number ≡ from + 0 = are.0 ∙ omega arith in ap left_of (sym fit.0.state ∙ ap (last r).nodes here)
  left_at r owner words id (p ∷ ps) from are fit (suc k) l =
      let there : from + 1 + k ≡ from + suc k = omega arith in
      left_at r owner words id ps (from + 1) are.1 fit.1 k (omega arith) ∙ ap (λ (z : ℕ). left_of ((last r).nodes z)) there

  abbrev LeftBy : LeaderAndIsr → List NodeView → List Batch → ℕ → Type 0
  LeftBy c ps seen m = (q : Run m) × ((last q).controller ≡ c) × ((k : ℕ) → k < m → IsLeft (left_node (left_behind c ps) k) ((last q).nodes k)) × BeginsHeld q seen

  pub closed_so : CrashesAreStops → (s : State ℕ View) (d : Ruled o s) (id : ℕ) (x : ClosingView) → get_elem? s.views id ≡ some (of_closing x) → AreFrom 0 x.nodes → length x.nodes ≡ n
      → WasClosed (last d.run).controller x.seen x.nodes
  closed_so crashes s d id x at are long =
      let c : LeaderAndIsr = (last d.run).controller in
      let f = d.seats id (of_closing x) at in
      let seen = f.0 in
      let z = crashes n d.run in
      let all : LeftBy c x.nodes x.seen n = (
        z.0,
        z.2,
        λ k l. (let zero_on : 0 + k ≡ k = omega arith in
            let is : left_node (left_behind c x.nodes) k ≡ left_of ((last d.run).nodes k) =
            left_at d.run d.owner s.words id x.nodes 0 are f.1 k (omega arith) ∙ ap (λ (j : ℕ). left_of ((last d.run).nodes j)) zero_on in
            subst (λ (y : LeftNode). IsLeft y ((last z.0).nodes k)) (sym is) (z.3 k l)),
        (seen.0, seen.1, z.1 seen.0 seen.2, seen.3),
      ) in
      let as_long : n ≡ length (left_behind c x.nodes).nodes = sym long ∙ sym (length-map x.nodes (λ (p : NodeView). left_of p.state)) in
      let there = subst (LeftBy c x.nodes x.seen) as_long all in
      record { run = there.0; was = record { record_is = there.1; nodes = there.2 }; held = there.3 }
