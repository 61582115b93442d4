-- Passes and nodes, in their order.
use Rattle.std.proofs.Common.{◌≡◌, ℕ, zero, suc, ◌+◌, ◌<◌, List, [], ◌∷◌, ◌++◌, length, map, Some, refl, sym, ap, ◌∙◌, subst, arith, append_assoc}
use Rattle.std.specs.Prelude.{remove, slice_get, slice_index_or}
use Rattle.kp_model.specs.Left.{Opening, node_in}
use Rattle.kp_model.specs.World.{Node, fresh}
use Rattle.kp_board.specs.Views.{NodeView, opened_node}
use Rattle.kp_replica.specs.NumberedNode.{NumberedNode}
use Rattle.kp_node.specs.Seated.{SeatedNode}
use Rattle.kp_node.specs.Seats.{AreNumbered, AreSeats, left_seats, seated}

-- ---- the first of them

pub first_of_all : {X : Type 0} (xs : List X) (x : X) → 0 < length xs → x ≡ slice_index_or xs 0 x → xs ≡ x ∷ remove xs 0
first_of_all (y ∷ ys) x some e = ap (λ z. z ∷ ys) (sym e)
first_of_all [] x some e = absurd (omega arith)

pub some_seat : (p : NodeView) (ps : List NodeView) (xs : List NumberedNode) → AreSeats (p ∷ ps) xs → 0 < length xs
some_seat p ps [] a = absurd a
some_seat p ps (x ∷ xs) a = omega arith

pub first_number : (p : NodeView) (ps : List NodeView) (xs : List NumberedNode) (x : NumberedNode) → AreSeats (p ∷ ps) xs → x ≡ slice_index_or xs 0 x → x.number ≡ p.number
first_number p ps [] x a is = absurd a
first_number p ps (y ∷ xs) x a is = ap (λ (z : NumberedNode). z.number) is ∙ a.0

pub first_state : (p : NodeView) (ps : List NodeView) (xs : List NumberedNode) (x : NumberedNode) → AreSeats (p ∷ ps) xs → x ≡ slice_index_or xs 0 x → x.state ≡ p.state
first_state p ps [] x a is = absurd a
first_state p ps (y ∷ xs) x a is = ap (λ (z : NumberedNode). z.state) is ∙ a.1

pub seats_on : (p : NodeView) (ps : List NodeView) (xs : List NumberedNode) → AreSeats (p ∷ ps) xs → AreSeats ps (remove xs 0)
seats_on p ps [] a = absurd a
seats_on p ps (x ∷ xs) a = a.2

-- one node more
pub seated_on : (made : List SeatedNode) (one : SeatedNode) (p : NodeView) (ps : List NodeView) (xs : List NumberedNode) (x : NumberedNode) (all : List SeatedNode)
    → AreSeats (p ∷ ps) xs → x ≡ slice_index_or xs 0 x → one.node ≡ x → one.pass ≡ p → made ++ seated (p ∷ ps) xs ≡ all
    → (made ++ one ∷ []) ++ seated ps (remove xs 0) ≡ all
seated_on made one p ps [] x all a is node pass whole = absurd a
seated_on made one p ps (y ∷ xs) x all a is node pass whole =
    append_assoc made (one ∷ []) (seated ps xs)
    ∙ (λ i. made ++ (let s : SeatedNode = record { node = (node ∙ is) i; pass = pass i } in s) ∷ seated ps xs) ∙ whole

-- ---- the nodes of an opening

at_place : (o : Opening) (k : ℕ) (p : NodeView) → Some p ≡ Some (opened_node o (k + 0)) → p ≡ opened_node o k
at_place o k p e = let same : k + 0 ≡ k = omega arith in (let here : p ≡ opened_node o (k + 0) = cc in here) ∙ ap (opened_node o) same

pub are_seats : (o : Opening) (k : ℕ) (ps : List NodeView) (xs : List NumberedNode) → length ps ≡ length xs
    → ((i : ℕ) → i < length ps → slice_get ps i ≡ Some (opened_node o (k + i)))
    → ((i : ℕ) → i < length xs → node_in o (k + i) ≡ slice_index_or (map (λ x. x.state) xs) i fresh)
    → AreNumbered k xs → AreSeats ps xs × (seated ps xs ≡ left_seats o k xs)
are_seats o k [] [] long at states numbered = (tt, refl)
are_seats o k [] (x ∷ xs) long at states numbered = absurd (omega arith)
are_seats o k (p ∷ ps) [] long at states numbered = absurd (omega arith)
are_seats o k (p ∷ ps) (x ∷ xs) long at states numbered =
    let here : p ≡ opened_node o k = at_place o k p (at 0 (omega arith)) in
    let same : k + 0 ≡ k = omega arith in
    let state : node_in o k ≡ x.state = ap (node_in o) (sym same) ∙ states 0 (omega arith) in
    let next = λ (i : ℕ). (let e : k + suc i ≡ k + 1 + i = omega arith in e) in
    let rest = are_seats o (k + 1) ps xs (omega arith) (λ i l. at (suc i) (omega arith) ∙ ap (λ (z : ℕ). Some (opened_node o z)) (next i))
    (λ i l. ap (node_in o) (sym (next i)) ∙ states (suc i) (omega arith)) numbered.1 in (
      (numbered.0 ∙ sym (ap (λ (q : NodeView). q.number) here), sym state ∙ sym (ap (λ (q : NodeView). q.state) here), rest.0),
      λ i. (let s : SeatedNode = record { node = x; pass = here i } in s) ∷ rest.1 i,
    )

pub opened_seats : (o : Opening) (ps : List NodeView) (xs : List NumberedNode) → length ps ≡ length xs → ((i : ℕ) → i < length ps → slice_get ps i ≡ Some (opened_node o i))
    → o.nodes ≡ map (λ x. x.state) xs → AreNumbered 0 xs → AreSeats ps xs × (seated ps xs ≡ left_seats o 0 xs)
opened_seats o ps xs long at nodes numbered =
    let same = λ (i : ℕ). (let e : 0 + i ≡ i = omega arith in e) in
    are_seats o 0 ps xs long (λ i l. at i l ∙ ap (λ (z : ℕ). Some (opened_node o z)) (sym (same i)))
    (λ i l. ap (node_in o) (same i) ∙ ap (λ (ns : List Node). slice_index_or ns i fresh) nodes) numbered

-- ---- of a new board

pub mapped_at : {X : Type 0} (p : X → NodeView) (f : NodeView → SeatedNode) (xs : List X) (k : ℕ) (y : NodeView) → slice_get (map p xs) k ≡ Some y
    → slice_get (map (λ x. f (p x)) xs) k ≡ Some (f y)
mapped_at p f [] k y e = absurd cc
mapped_at p f (x ∷ xs) zero y e = let here : p x ≡ y = cc in ap (λ (z : NodeView). Some (f z)) here
mapped_at p f (x ∷ xs) (suc k) y e = mapped_at p f xs k y e
