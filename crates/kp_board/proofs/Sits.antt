-- What a pass shows after a step.
use Rattle.std.proofs.Common.{◌≡◌, ℕ, zero, suc, ◌+◌, ◌<◌, Bool, true, false, List, [], ◌∷◌, ◌++◌, length, map, Some, length-append, arith, refl, sym, subst, ap, ◌∙◌}
use mathlib.Core.Logic.{dite}
use native.Mathlib.Decide.{ℕ_discrete}
use Rattle.std.specs.Prelude.{MatchBool, slice_get}
use Rattle.std.proofs.lemmas.List.{length-map, map-append}
use Rattle.atomic_table.specs.Table.{Me}
use Rattle.kp_model.specs.World.{LeaderAndIsr}
use Rattle.kp_board.specs.Views.{NodeView, CallerView, View, of_node, of_caller, node_view, caller_view}
use Rattle.kp_board.specs.Rule.{ShowsLastRecord, ShowsElection}
use Rattle.kp_board.specs.Plays.{IsRecordOfWord, electing}

pub sits_caller : (m : Me ℕ View) (c : CallerView) (rest : List (ℕ × ℕ)) → m ≡ (of_caller c, rest) → rest ≡ [] → m ≡ (of_caller (caller_view m.0), [])
sits_caller m c rest e f = let same : c ≡ caller_view m.0 = sym (ap (λ (x : Me ℕ View). caller_view x.0) e) in e ∙ (λ i. (of_caller (same i), f i))

pub shows_caller : (m : Me ℕ View) (c : CallerView) (rest : List (ℕ × ℕ)) → m ≡ (of_caller c, rest) → caller_view m.0 ≡ c
shows_caller m c rest e = ap (λ (x : Me ℕ View). caller_view x.0) e

pub sits_node : (m : Me ℕ View) (c : NodeView) (rest : List (ℕ × ℕ)) → m ≡ (of_node c, rest) → rest ≡ [] → m ≡ (of_node (node_view m.0), [])
sits_node m c rest e f = let same : c ≡ node_view m.0 = sym (ap (λ (x : Me ℕ View). node_view x.0) e) in e ∙ (λ i. (of_node (same i), f i))

pub shows_node : (m : Me ℕ View) (c : NodeView) (rest : List (ℕ × ℕ)) → m ≡ (of_node c, rest) → node_view m.0 ≡ c
shows_node m c rest e = ap (λ (x : Me ℕ View). node_view x.0) e

module _ (m m' : Me ℕ View) (c : CallerView) (found node : ℕ) (next : LeaderAndIsr) where
  abbrev ElectedTold : Bool → Type 0
  ElectedTold b = MatchBool b ((m' ≡ (of_caller (electing next c), m.1)) × ShowsElection node c.shown (electing next c))
      ((s : LeaderAndIsr) × IsRecordOfWord s found × (m' ≡ (of_caller (record c { shown = s }), m.1)) × (c.shown.version < s.version) × ShowsLastRecord (record c { shown = s }))

  pub elected_sits : (b : Bool) → ElectedTold b → m.1 ≡ [] → m' ≡ (of_caller (caller_view m'.0), [])
  elected_sits true e f = sits_caller m' (electing next c) m.1 e.0 f
  elected_sits false e f = sits_caller m' (record c { shown = e.0 }) m.1 e.2 f

  pub elected_shows : (b : Bool) → ElectedTold b
      → MatchBool b ((caller_view m'.0 ≡ electing next c) × ShowsElection node c.shown (caller_view m'.0))
      ((caller_view m'.0 ≡ record c { shown = (caller_view m'.0).shown }) × (c.shown.version < (caller_view m'.0).shown.version) × ShowsLastRecord (caller_view m'.0))
  elected_shows true e = let g = shows_caller m' (electing next c) m.1 e.0 in (g, subst (ShowsElection node c.shown) (sym g) e.1)
  elected_shows false e = let g = shows_caller m' (record c { shown = e.0 }) m.1 e.2 in
      (g ∙ (λ i. record c { shown = (sym g i).shown }), subst (λ (x : CallerView). c.shown.version < x.shown.version) (sym g) e.3, subst ShowsLastRecord (sym g) e.4)

get_front : {A : Type 0} (xs ys : List A) (k : ℕ) → k < length xs → slice_get (xs ++ ys) k ≡ slice_get xs k
get_front [] ys k h = absurd (omega arith)
get_front (x ∷ xs) ys zero h = refl
get_front (x ∷ xs) ys (suc k) h = get_front xs ys k (omega arith)

get_last : {A : Type 0} (xs : List A) (y : A) → slice_get (xs ++ y ∷ []) (length xs) ≡ Some y
get_last [] y = refl
get_last (x ∷ xs) y = get_last xs y

-- one more element
pub pushed : {A : Type 0} (xs : List A) (f : ℕ → A) (y : A) (n : ℕ) → length xs ≡ n → ((k : ℕ) → k < n → slice_get xs k ≡ Some (f k)) → y ≡ f n → (k : ℕ) → k < n + 1 → slice_get (xs ++ y ∷ []) k ≡ Some (f k)
pushed xs f y n long old here k h = dite (ℕ_discrete k n)
    (λ e. ap (λ (z : ℕ). slice_get (xs ++ y ∷ []) z) (e ∙ sym long) ∙ get_last xs y ∙ ap Some here ∙ ap (λ (z : ℕ). Some (f z)) (sym e))
    (λ ne. get_front xs (y ∷ []) k (omega arith) ∙ old k (omega arith))

pub node_after : (m m' : Me ℕ View) (p' : NodeView) (k : ℕ) → m' ≡ (of_node p', m.1) → m.1 ≡ [] → p'.number ≡ k → (m' ≡ (of_node (node_view m'.0), [])) × ((node_view m'.0).number ≡ k)
node_after m m' p' k e f g = (sits_node m' p' m.1 e f, ap (λ (x : NodeView). x.number) (shows_node m' p' m.1 e) ∙ g)

-- one more element, seen through p
pub pushed_by : {A B : Type 0} (p : A → B) (f : ℕ → B) (n : ℕ) (xs : List A) (y : A) (items : List A) → items ≡ xs ++ y ∷ [] → length xs ≡ n → ((k : ℕ) → k < n → slice_get (map p xs) k ≡ Some (f k)) → p y ≡ f n
    → (length items ≡ n + 1) × ((k : ℕ) → k < n + 1 → slice_get (map p items) k ≡ Some (f k))
pushed_by {A} {B} p f n xs y items e long old here = (
  omega (arith, ap length e, length-append xs (y ∷ [])),
  subst (λ (l : List A). (k : ℕ) → k < n + 1 → slice_get (map p l) k ≡ Some (f k)) (sym e)
      (subst (λ (l : List B). (k : ℕ) → k < n + 1 → slice_get l k ≡ Some (f k)) (sym (map-append p xs (y ∷ [])))
      (pushed (map p xs) f (p y) n (length-map xs p ∙ long) old here)),
)
