-- The nodes of a board that is closed, in their next lives.
use Rattle.std.proofs.Common.{◌≡◌, ◌⊎◌, ℕ, zero, suc, ◌+◌, ◌-◌, ◌^◌, ◌<◌, Bool, true, false, cond, leb, List, [], ◌∷◌, ◌++◌, length, get_or, map, take, Option, Some, None, Result, refl, sym, ap, ◌∙◌, subst, inl, inr, arith}
use Rattle.std.specs.Prelude.{slice_index_or}
use Rattle.std.proofs.lemmas.Bool.{leb-false}
use Rattle.std.proofs.lemmas.List.{length-take-le, map-append, take_more}
use Rattle.kp_types.specs.declared.refusal.Refusal.{Refusal}
use Rattle.kp_types.specs.declared.refusal.Refusal.TheVariants as refusals
use Rattle.kp_types.proofs.Causes.{passed}
use Rattle.kp_model.specs.Log.{Batch}
use Rattle.kp_model.specs.World.{LeaderAndIsr, Mode, Node, Down, Follows, Idle, Leads, initial}
use Rattle.kp_model.specs.Event.{Reply, Refused, Restart, Restarted, Stop, Stopped}
use Rattle.kp_model.specs.Effect.{Effect, becomes, is_down}
use Rattle.kp_model.specs.Local.{Local, LocalBy, cause}
use Rattle.kp_model.specs.Left.{again, left_of, nothing_left}
use Rattle.kp_board.specs.Closing.{AreFrom, left_behind, WasClosed}
use Rattle.kp_board.specs.Views.{NodeView}
use Rattle.kp_replica.specs.NumberedNode.{Does, NumberedNode}
use Rattle.kp_node.specs.Again.{WereLeft}
use Rattle.kp_node.specs.Calls.{stop_reply}
use Rattle.kp_node.specs.Closes.{AreReady, IsNext, IsNoNextLife, IsReady, next_life, stopped, stopped_node}
use Rattle.kp_node.specs.NodeCalls.{Stops}
use Rattle.kp_node.specs.Seated.{SeatedNode}
use Rattle.kp_node.specs.Seats.{AreNumbered}

-- ---- a restart

-- what it comes to where it isn't refused
pub restarted_is : (c : LeaderAndIsr) (n : ℕ) (x y : Node) (life end mark : ℕ) → Local c n x Restart (becomes y (Restarted life end mark))
    → (y ≡ record x { watermark = x.checkpoint; life = x.life + 1; mode = Idle }) × (x.life + 1 < 2 ^ 64)
unfolding Local
restarted_is c n x y life end mark h = by_cause (cause c n x Restart) refl h
  where
    by_cause : (o : Option Refusal) → cause c n x Restart ≡ o → LocalBy o c n x Restart (becomes y (Restarted life end mark))
        → (y ≡ record x { watermark = x.checkpoint; life = x.life + 1; mode = Idle }) × (x.life + 1 < 2 ^ 64)
    by_cause (Some r) is h = absurd (let e : Restarted life end mark ≡ Refused r = ap (λ (g : Effect). g.reply) h in cc)
    by_cause None is (inl h) = (
      ap (λ (g : Effect). g.node) h,
      (let free = passed _ _ _ (passed _ _ _ is).1 in let low = leb-false (2 ^ 64 - 1) x.life free.0 in omega arith),
    )
    by_cause None is (inr h) = absurd (let e : Restarted life end mark ≡ Refused refusals.Memory = ap (λ (g : Effect). g.reply) h in cc)

only_full : (full : Bool) (r : Refusal) → cond full (Some refusals.RecordFull) None ≡ Some r → r ≡ cond full refusals.RecordFull refusals.Memory
only_full true r e = cc
only_full false r e = absurd cc

not_full : (full : Bool) → cond full (Some refusals.RecordFull) None ≡ None → refusals.Memory ≡ cond full refusals.RecordFull refusals.Memory
not_full true e = absurd cc
not_full false e = refl

-- why it is refused of a node that is down
pub restart_refused : (c : LeaderAndIsr) (n : ℕ) (x y : Node) (r : Refusal) → Local c n x Restart (becomes y (Refused r)) → is_down x.mode ≡ true → IsNoNextLife x.life r
unfolding Local
restart_refused c n x y r h down = by_cause (cause c n x Restart) refl h
  where
    by_cause : (o : Option Refusal) → cause c n x Restart ≡ o → LocalBy o c n x Restart (becomes y (Refused r)) → IsNoNextLife x.life r
    by_cause (Some q) is h =
        let e : Refused r ≡ Refused q = ap (λ (g : Effect). g.reply) h in
        let same : r ≡ q = cc in
        let so = rw down at is in
        same ∙ only_full (leb (2 ^ 64 - 1) x.life) q so
    by_cause None is (inl h) = absurd (let e : Refused r ≡ Restarted _ _ _ = ap (λ (g : Effect). g.reply) h in cc)
    by_cause None is (inr h) =
        let e : Refused r ≡ Refused refusals.Memory = ap (λ (g : Effect). g.reply) h in
        let same : r ≡ refusals.Memory = cc in
        let so = rw down at is in
        same ∙ not_full (leb (2 ^ 64 - 1) x.life) so

-- a node that was restarted and stopped is in its next life
pub next_is : (m p k : NumberedNode) (life end mark : ℕ) → Does m p Restart (Restarted life end mark) → k ≡ record p { state = record p.state { mode = Down } } → IsNext m k
next_is m p k life end mark does is =
    let d = does (initial 0) in
    let was = restarted_is (initial 0) m.number m.state p.state life end mark d.0 in
    (is ∙ (λ i. record { number = d.1.0 i; limits = d.1.1 i; state = record (was.0 i) { mode = Down } }), was.1)

-- ---- a stop

only_down : (mode : Mode) (r : Refusal) → cond (is_down mode) (Some refusals.Down) None ≡ Some r → mode ≡ Down
only_down Down r e = refl
only_down Idle r e = absurd cc
only_down (Leads l) r e = absurd cc
only_down (Follows f) r e = absurd cc

-- what it leaves, done or refused
halted : (c : LeaderAndIsr) (n : ℕ) (x y : Node) (result : Result (Unit {0}) Refusal) → Local c n x Stop (becomes y (stop_reply result)) → y ≡ record x { mode = Down }
unfolding Local
halted c n x y result h = by_cause (cause c n x Stop) refl h
  where
    by_cause : (o : Option Refusal) → cause c n x Stop ≡ o → LocalBy o c n x Stop (becomes y (stop_reply result)) → y ≡ record x { mode = Down }
    by_cause (Some r) is h = ap (λ (g : Effect). g.node) h ∙ (λ i. record x { mode = only_down x.mode r is i })
    by_cause None is (inl h) = ap (λ (g : Effect). g.node) h
    by_cause None is (inr h) = absurd h

mode_down : (mode : Mode) → is_down mode ≡ true → Down ≡ mode
mode_down Down e = refl
mode_down Idle e = absurd cc
mode_down (Leads l) e = absurd cc
mode_down (Follows f) e = absurd cc

-- one that is down already is as it was
pub kept_down : (m : NumberedNode) → is_down m.state.mode ≡ true → m ≡ stopped_node m
kept_down m down = λ i. record m { state = record m.state { mode = sym (mode_down m.state.mode down) i } }

-- a node that was asked to stop is stopped, and its pass shows it so
pub stops_to : (old new : SeatedNode) (result : Result (Unit {0}) Refusal) → Stops old new result → new ≡ stopped old
stops_to old new result s =
    let d = s.event (initial 0) in
    let is : new.node ≡ stopped_node old.node =
    λ i. record { number = d.1.0 i; limits = d.1.1 i; state = halted (initial 0) old.node.number old.node.state new.node.state result d.0 i } in
    let shown : new.pass ≡ (stopped old).pass = s.pass ∙ ap (λ (m : NumberedNode). record old.pass { state = m.state }) is in
    λ i. record { node = is i; pass = shown i }

-- ---- all nodes

pub map_push : {A B : Type 0} (f : A → B) (xs : List A) (x : A) (ys : List B) (y : B) (new : List B) → new ≡ ys ++ y ∷ [] → ys ≡ map f xs → y ≡ f x → new ≡ map f (xs ++ x ∷ [])
map_push f xs x ys y new is same here = is ∙ (λ i. same i ++ here i ∷ []) ∙ sym (map-append f xs (x ∷ []))

pub ready_push : (ss : List SeatedNode) (s : SeatedNode) → AreReady ss → IsReady s → AreReady (ss ++ s ∷ [])
ready_push [] s a b = (b, tt)
ready_push (t ∷ ss) s a b = (a.0, ready_push ss s a.1 b)

pub are_from : (ss : List SeatedNode) (k : ℕ) → AreReady ss → AreNumbered k (map (λ s. s.node) ss) → AreFrom k (map (λ s. s.pass) ss)
are_from [] k ready are = tt
are_from (s ∷ ss) k ready are = (sym ready.0.number ∙ are.0, are_from ss (k + 1) ready.1 are.1)

numbered_push : (xs : List SeatedNode) (k : ℕ) (s : SeatedNode) → AreNumbered k (map (λ s. s.node) xs) → s.node.number ≡ k + length xs → AreNumbered k (map (λ s. s.node) (xs ++ s ∷ []))
numbered_push [] k s are e = (e ∙ omega arith, tt)
numbered_push (x ∷ xs) k s are e = (are.0, numbered_push xs (k + 1) s are.1 (omega arith))

-- one node more is at its place
pub numbered_on : (ss : List SeatedNode) (i : ℕ) (s : SeatedNode) → i < length ss → s ≡ get_or ss i s → s.node.number ≡ i → AreNumbered 0 (map (λ s. s.node) (take i ss))
    → AreNumbered 0 (map (λ s. s.node) (take (i + 1) ss))
numbered_on ss i s l is here before =
    let long = length-take-le i ss (omega arith) in
    let at : (get_or ss i s).node.number ≡ i = ap (λ (x : SeatedNode). x.node.number) (sym is) ∙ here in
    subst (λ (xs : List SeatedNode). AreNumbered 0 (map (λ s. s.node) xs)) (sym (take_more ss i s l)) (numbered_push (take i ss) 0 (get_or ss i s) before (omega arith))

-- each node of numbered ones is at the place of its number
pub at_its_number : (ss : List SeatedNode) (k i : ℕ) (s : SeatedNode) → AreNumbered k (map (λ s. s.node) ss) → i < length ss → s ≡ get_or ss i s → s.node.number ≡ k + i
at_its_number [] k i s are low is = absurd (omega arith)
at_its_number (t ∷ ss) k zero s are low is = ap (λ (x : SeatedNode). x.node.number) is ∙ are.0 ∙ omega arith
at_its_number (t ∷ ss) k (suc i) s are low is = at_its_number ss (k + 1) i s are.1 (omega arith) is ∙ omega arith

lives : (ss : List SeatedNode) → AreReady ss → (k : ℕ) → k < length (map (λ (p : NodeView). left_of p.state) (map (λ s. s.pass) ss))
    → (slice_index_or (map (λ (p : NodeView). left_of p.state) (map (λ s. s.pass) ss)) k nothing_left).life + 1 < 2 ^ 64
lives [] ready k l = absurd (omega arith)
lives (s ∷ ss) ready zero l = ready.0.life
lives (s ∷ ss) ready (suc k) l = lives ss ready.1 k (omega arith)

states : (ss : List SeatedNode) → AreReady ss → map (λ (m : NumberedNode). m.state) (map (λ s. s.node) ss) ≡ map again (map (λ (p : NodeView). left_of p.state) (map (λ s. s.pass) ss))
states [] ready = refl
states (s ∷ ss) ready = let rest = states ss ready.1 in λ i. ready.0.state i ∷ rest i

-- what the board says that it left is what a host says that was left
pub were_left : (c : LeaderAndIsr) (seen : List Batch) (ss : List SeatedNode) (nodes : List NumberedNode) → AreReady ss → nodes ≡ map (λ s. s.node) ss
    → WasClosed c seen (map (λ s. s.pass) ss) → WereLeft c nodes seen
were_left c seen ss nodes ready is w = record {
  left = left_behind c (map (λ s. s.pass) ss);
  run = w.run;
  was = w.was;
  lives = λ k l. lives ss ready k l;
  held = w.held;
  record_is = refl;
  nodes_are = ap (map (λ (m : NumberedNode). m.state)) is ∙ states ss ready;
}
