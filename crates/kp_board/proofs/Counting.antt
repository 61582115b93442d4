-- What the passes of a board count between them, after a step, a split or a join.
use Rattle.std.proofs.Common.{◌≡◌, ℕ, zero, suc, ◌+◌, List, [], ◌∷◌, ◌++◌, length, set, refl, sym, ap, subst, arith}
use Rattle.std.specs.Prelude.{sum_by}
use Rattle.std.proofs.lemmas.List.Sums.{sum_by-cons, sum_by_push}
use mathlib.Core.Option.{some, some-ne-none, some-injective}
use lib.ListN.{get_elem?}
use Rattle.kp_board.specs.Views.{NodeView, CallerView, View, of_node, of_caller, made_by, one_if_founder, one_if_caller, changes_by}
use Rattle.kp_board.specs.Rule.{AreCounted}

-- a sum over a list in which one element was changed
pub sum_set : (f : View → ℕ) (l : List View) (i : ℕ) (v w : View) → get_elem? l i ≡ some v → sum_by f (set l i w) + f v ≡ sum_by f l + f w
sum_set f [] i v w e = absurd (some-ne-none v (sym e))
sum_set f (x ∷ xs) zero v w e =
    let same : f x ≡ f v = ap f (some-injective x v e) in
    let a = sum_by-cons f w xs in
    let b = sum_by-cons f x xs in
    omega arith
sum_set f (x ∷ xs) (suc i) v w e =
    let a = sum_by-cons f x (set xs i w) in
    let b = sum_by-cons f x xs in
    let c = sum_set f xs i v w e in
    omega arith

-- One pass shows w in place of v, and the version of the record is the new one.
pub record Counts (v w : View) (old new : ℕ) : Type 0 where
  pub founder : one_if_founder w ≡ one_if_founder v
  pub caller : one_if_caller w ≡ one_if_caller v
  pub made : made_by w ≡ made_by v
  pub changes : changes_by w + old ≡ changes_by v + new

pub counts_on : (views : List View) (id : ℕ) (v w : View) (first old new : ℕ) → get_elem? views id ≡ some v → Counts v w old new → AreCounted views first old → AreCounted (set views id w) first new
counts_on views id v w first old new at c d =
    let founders = sum_set one_if_founder views id v w at in
    let callers = sum_set one_if_caller views id v w at in
    let made = sum_set made_by views id v w at in
    let changes = sum_set changes_by views id v w at in
    let e = c.founder in
    let f = c.caller in
    let g = c.made in
    let h = c.changes in
    let i = d.founders in
    let j = d.callers in
    let k = d.changes in
    record { founders = omega arith; callers = omega arith; changes = omega arith }

-- a pass of its kind, which counts what it counted before
pub counts_same : (v : View) (n : ℕ) → Counts v v n n
counts_same v n = record { founder = refl; caller = refl; made = refl; changes = refl }

pub node_counts : (v : View) (p q : NodeView) (n : ℕ) → v ≡ of_node p → Counts v (of_node q) n n
node_counts v p q n is = subst (λ (x : View). Counts x (of_node q) n n) (sym is) record { founder = refl; caller = refl; made = refl; changes = refl }

pub caller_counts : (v : View) (c d : CallerView) (old new : ℕ) → v ≡ of_caller c → length d.changes + old ≡ length c.changes + new → Counts v (of_caller d) old new
caller_counts v c d old new is same = subst (λ (x : View). Counts x (of_caller d) old new) (sym is) record { founder = refl; caller = refl; made = refl; changes = same }

-- one pass more, which counts nothing
pub counts_more : (views : List View) (w : View) (first n : ℕ) → one_if_founder w ≡ 0 → one_if_caller w ≡ 0 → made_by w ≡ 0 → changes_by w ≡ 0 → AreCounted views first n → AreCounted (views ++ w ∷ []) first n
counts_more views w first n e f g h d =
    let founders = sum_by_push one_if_founder views w in
    let callers = sum_by_push one_if_caller views w in
    let made = sum_by_push made_by views w in
    let changes = sum_by_push changes_by views w in
    let i = d.founders in
    let j = d.callers in
    let k = d.changes in
    record { founders = omega arith; callers = omega arith; changes = omega arith }
