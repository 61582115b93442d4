-- What was left goes on: each node is restarted and stopped.
use Rattle.std.proofs.Common.{◌≡◌, ◌≢◌, ◌⊎◌, ℕ, zero, suc, ◌+◌, ◌-◌, ◌^◌, ◌<◌, ◌≤◌, leb, Bool, false, List, [], ◌∷◌, length, map, get_or, Option, Some, None, cond, refl, sym, ap, ◌∙◌, subst, inl, inr, ⊎_elim, arith}
use Rattle.std.proofs.lemmas.Bool.{lt-leb}
use Rattle.std.specs.Prelude.{slice_index_or}
use mathlib.Core.Logic.{dite}
use native.Mathlib.Decide.{ℕ_discrete}
use Rattle.kp_types.specs.declared.refusal.Refusal.TheVariants as refusals
use Rattle.kp_model.specs.Log.{Batch, end_of}
use Rattle.kp_model.specs.World.{LeaderAndIsr, Mode, Node, Down, Idle, World, fresh}
use Rattle.kp_model.specs.Event.{Act, Restart, Restarted, Stop, Stopped}
use Rattle.kp_model.specs.Effect.{Effect, is_down, becomes}
use Rattle.kp_model.specs.Local.{Local, cause}
use Rattle.kp_model.specs.Run.{BeginsHeld, Run, IsOf, last}
use Rattle.kp_model.proofs.OneStep.Steps.{happened}
use Rattle.kp_model.proofs.Marks.Raised.{node_moved}
use Rattle.kp_model.specs.Left.{IsOpening, Opening, node_in, LeftNode, LeftBehind, nothing_left, left_node, IsLeft, WasLeft, again, opening_again, LeftOnesGoOn}
use Rattle.kp_model.proofs.InRuns.Longer.{acted, moved_other}

abbrev pub up_again : Node → Node
up_again y = record y { watermark = y.checkpoint; life = y.life + 1; mode = Idle }

abbrev pub down_again : Node → Node
down_again y = record y { watermark = y.checkpoint; life = y.life + 1; mode = Down }

abbrev pub in_life : Node → ℕ → Node
in_life y life = record y { watermark = y.checkpoint; life = life; mode = Down }

pub restarting : Node → Effect
restarting y = becomes (up_again y) (Restarted (y.life + 1) (end_of y.log) y.checkpoint)

pub restart_free : (c : LeaderAndIsr) (n : ℕ) (y : Node) (mode : Mode) (full : Bool) → y.mode ≡ mode → mode ≡ Down → leb (2 ^ 64 - 1) y.life ≡ full → full ≡ false → cause c n y Restart ≡ None
restart_free c n y mode full is down so not_so =
    let here : y.mode ≡ Down = is ∙ down in
    let low : leb (2 ^ 64 - 1) y.life ≡ false = so ∙ not_so in
    rw here (rw low refl)

pub restarts : (c : LeaderAndIsr) (n : ℕ) (y : Node) → y.mode ≡ Down → y.life + 1 < 2 ^ 64 → Local c n y Restart (restarting y)
unfolding restarting
restarts c n y down low = happened c n y Restart (restarting y) (restart_free c n y Down false down refl (lt-leb (2 ^ 64 - 1) y.life (omega arith)) refl) refl

pub stops : (c : LeaderAndIsr) (n : ℕ) (y : Node) → Local c n (up_again y) Stop (becomes (down_again y) Stopped)
stops c n y = happened c n (up_again y) Stop (becomes (down_again y) Stopped) refl refl

-- a node that was left, in the life behind it, is that node again
pub again_is : (a : LeftNode) (y : Node) → IsLeft a y → (life : ℕ) → life ≡ a.life + 1 → in_life y life ≡ again a
again_is a y f life is i = record { log = f.log i; watermark = f.checkpoint i; checkpoint = f.checkpoint i; life = is i; kept = f.kept i; mode = Down }

-- ---- one node

module _ {n : ℕ} where
  -- the run q goes on from r, node k has gone on by a restart and a stop, and all else is as it was
  record GoneOn (r q : Run n) (k : ℕ) : Type 0 where
    pub among : (w : World) → IsOf w r → IsOf w q
    pub controller : (last q).controller ≡ (last r).controller
    pub here : (last q).nodes k ≡ down_again ((last r).nodes k)
    pub others : (j : ℕ) → j ≢ k → (last q).nodes j ≡ (last r).nodes j

  goes_on : (r : Run n) (k : ℕ) → k < n → ((last r).nodes k).mode ≡ Down → ((last r).nodes k).life + 1 < 2 ^ 64 → (q : Run n) × GoneOn r q k
  unfolding restarting
  goes_on r k inside down low =
      let y : Node = (last r).nodes k in
      let e : Effect = restarting y in
      let one : Run n = acted r k Restart e inside tt (restarts (last r).controller k y down low) in
      let up : (last one).nodes k ≡ up_again y = node_moved (last r) k e in
      let f : Effect = becomes (down_again y) Stopped in
      let local : Local (last one).controller k ((last one).nodes k) Stop f = subst (λ (x : Node). Local (last one).controller k x Stop f) (sym up) (stops (last one).controller k y) in
      let two : Run n = acted one k Stop f inside tt local in (
        two,
        record {
          among = λ w a. inr (inr a);
          controller = refl;
          here = node_moved (last one) k f;
          others = λ j ne. moved_other (last one) k j f ne ∙ moved_other (last r) k j e ne;
        },
      )

  -- the same, so often and once more
  record GoneFar (r q : Run n) (k life : ℕ) : Type 0 where
    pub among : (w : World) → IsOf w r → IsOf w q
    pub controller : (last q).controller ≡ (last r).controller
    pub here : (last q).nodes k ≡ in_life ((last r).nodes k) life
    pub others : (j : ℕ) → j ≢ k → (last q).nodes j ≡ (last r).nodes j

  goes_far : (d : ℕ) (r : Run n) (k : ℕ) → k < n → ((last r).nodes k).mode ≡ Down → ((last r).nodes k).life + d + 1 < 2 ^ 64 → (q : Run n) × GoneFar r q k (((last r).nodes k).life + d + 1)
  goes_far zero r k inside down low =
      let one = goes_on r k inside down (omega arith) in
      let g = one.1 in
      let y : Node = (last r).nodes k in
      let same : y.life + 1 ≡ y.life + 0 + 1 = omega arith in
      (one.0, record { among = g.among; controller = g.controller; here = g.here ∙ ap (in_life y) same; others = g.others })
  goes_far (suc d) r k inside down low =
      let one = goes_on r k inside down (omega arith) in
      let g = one.1 in
      let y : Node = (last r).nodes k in
      let mid : Node = (last one.0).nodes k in
      let mode : mid.mode ≡ Down = ap (λ (x : Node). x.mode) g.here in
      let life : mid.life ≡ y.life + 1 = ap (λ (x : Node). x.life) g.here in
      let rest = goes_far d one.0 k inside mode (omega arith) in
      let h = rest.1 in
      let total : mid.life + d + 1 ≡ y.life + suc d + 1 = omega arith in (
        rest.0,
        record {
          among = λ w a. h.among w (g.among w a);
          controller = h.controller ∙ g.controller;
          here = h.here ∙ (λ i. in_life (g.here i) (total i));
          others = λ j ne. h.others j ne ∙ g.others j ne;
        },
      )

-- ---- all nodes

in_map : {A B : Type 0} (f : A → B) (xs : List A) (k : ℕ) (a : A) (b : B) → k < length xs → slice_index_or (map f xs) k b ≡ f (slice_index_or xs k a)
in_map f [] k a b l = absurd (omega arith)
in_map f (x ∷ xs) zero a b l = refl
in_map f (x ∷ xs) (suc k) a b l = in_map f xs k a b (omega arith)

module _ (x : LeftBehind) (r : Run (length x.nodes)) (was : WasLeft x r) (low : (k : ℕ) → k < length x.nodes → (left_node x k).life + 1 < 2 ^ 64) where
  -- the nodes below m have gone on
  record SomeOn (q : Run (length x.nodes)) (m : ℕ) : Type 0 where
    pub among : (w : World) → IsOf w r → IsOf w q
    pub controller : (last q).controller ≡ x.controller
    pub done : (k : ℕ) → k < m → k < length x.nodes → (last q).nodes k ≡ again (left_node x k)
    pub left : (k : ℕ) → m ≤ k → k < length x.nodes → IsLeft (left_node x k) ((last q).nodes k)

  go : (m : ℕ) → m ≤ length x.nodes → (q : Run (length x.nodes)) × SomeOn q m
  go zero h = (r, record { among = λ w a. a; controller = was.record_is; done = λ k l i. absurd (omega arith); left = λ k a l. was.nodes k l })
  go (suc m) h =
      let before = go m (omega arith) in
      let q : Run (length x.nodes) = before.0 in
      let s = before.1 in
      let here = s.left m (omega arith) (omega arith) in
      let life = here.life in
      let bound = low m (omega arith) in
      let y : Node = (last q).nodes m in
      let far : y.life + ((left_node x m).life - y.life) + 1 ≡ (left_node x m).life + 1 = omega arith in
      let next = goes_far ((left_node x m).life - y.life) q m (omega arith) here.down (omega arith) in
      let g = next.1 in (
        next.0,
        record {
          among = λ w a. g.among w (s.among w a);
          controller = g.controller ∙ s.controller;
          done = λ k l i. dite (ℕ_discrete k m)
              (λ e. subst (λ (z : ℕ). (last next.0).nodes z ≡ again (left_node x z)) (sym e) (g.here ∙ again_is (left_node x m) y here (y.life + ((left_node x m).life - y.life) + 1) far))
              (λ ne. g.others k ne ∙ s.done k (omega arith) i);
          left = λ k a l. subst (IsLeft (left_node x k)) (sym (g.others k (λ e. omega arith))) (s.left k (omega arith) l);
        },
      )

pub left_ones_go_on : LeftOnesGoOn
left_ones_go_on x r promised was low held =
    let all = go x r was low (length x.nodes) (omega arith) in
    let s = all.1 in (
      all.0,
      s.among,
      record {
        record_is = s.controller;
        nodes = λ k l. s.done k l l ∙ sym (in_map again x.nodes k nothing_left fresh l);
        promised = (held.0, held.1, s.among held.0 held.2, held.3);
      },
    )
