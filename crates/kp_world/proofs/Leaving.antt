-- What was left goes on: each node is stopped if it is up, restarted and stopped.
use Rattle.std.proofs.Common.{◌≡◌, ◌≢◌, ℕ, zero, suc, ◌+◌, ◌-◌, ◌^◌, ◌<◌, ◌≤◌, leb, Bool, false, List, [], ◌∷◌, ◌++◌, length, map, None, Result, Ok, refl, sym, ap, ◌∙◌, subst, inl, inr, arith, append_assoc, append-nil}
use Rattle.std.proofs.lemmas.Bool.{lt-leb}
use Rattle.std.proofs.lemmas.List.{drop_all, length-map, map-append}
use Rattle.std.specs.List.{AllByRecursion}
use mathlib.Core.Logic.{dite}
use native.Mathlib.Decide.{ℕ_discrete}
use Rattle.kp_types.specs.declared.limits.Limits.{Limits}
use Rattle.kp_types.specs.declared.refusal.Refusal.{Refusal}
use Rattle.kp_types.proofs.Elements.{all_append}
use Rattle.kp_model.specs.Log.{end_of}
use Rattle.kp_model.specs.World.{LeaderAndIsr, Mode, Node, Down, Idle, Leads, Follows, World}
use Rattle.kp_model.specs.Event.{Event, Acts, Restart, Restarted, Stop, Stopped}
use Rattle.kp_model.specs.Effect.{Effect, becomes, is_down}
use Rattle.kp_model.specs.Left.{IsLeft, LeftBehind, LeftNode, again, left_node}
use Rattle.kp_model.specs.Letter.{letter_of}
use Rattle.kp_model.specs.Local.{Local, cause}
use Rattle.kp_model.specs.Run.{Run, last}
use Rattle.kp_model.specs.Step.{moved}
use Rattle.kp_model.proofs.InRuns.Longer.{acted, moved_other}
use Rattle.kp_model.proofs.InRuns.RunLaws.{count_stays, last_is_of}
use Rattle.kp_model.proofs.Leaving.Going.{again_is, down_again, in_life, restart_free, stops, up_again}
use Rattle.kp_model.proofs.Marks.Raised.{node_moved}
use Rattle.kp_model.proofs.OneStep.Steps.{happened}
use Rattle.kp_replica.specs.NumberedNode.{NumberedNode}
use Rattle.kp_replica.specs.declared.act.Answer.TheVariants as answers
use Rattle.kp_world.specs.Left.{IsKept, IsPause, LeftStagesGoOn}
use Rattle.kp_world.specs.declared.event.EventAnswer.{EventAnswer}
use Rattle.kp_world.specs.declared.event.EventAnswer.TheVariants.{Answered}
use Rattle.kp_world.proofs.Moved.{shown_count}
use Rattle.kp_world.proofs.Playing.{Gone, gone_more}

abbrev restarting : Node → Effect
restarting y = becomes (up_again y) (Restarted (y.life + 1) (end_of y.log) y.checkpoint)

restarts : (c : LeaderAndIsr) (n : ℕ) (y : Node) → y.mode ≡ Down → y.life + 1 < 2 ^ 64 → Local c n y Restart (restarting y)
restarts c n y down low = happened c n y Restart (restarting y) (restart_free c n y Down false down refl (lt-leb (2 ^ 64 - 1) y.life (omega arith)) refl) refl

abbrev restart_answer : Node → Result EventAnswer Refusal
restart_answer y = Ok (Answered (answers.Restarted (y.life + 1) (end_of y.log) y.checkpoint))

abbrev stop_answer : Result EventAnswer Refusal
stop_answer = Ok (Answered answers.Stopped)

-- an event with its answer
abbrev Happened : Type 0
Happened = Event × Result EventAnswer Refusal

abbrev ArePauses : List Happened → Type 0
ArePauses more = AllByRecursion (λ happened. IsPause happened.0) more

abbrev events_in : List Happened → List Event
events_in more = map (λ happened. happened.0) more

abbrev answers_in : List Happened → List (Result EventAnswer Refusal)
answers_in more = map (λ happened. happened.1) more

module _ {n : ℕ} where
  -- More events have led from the run r to the run q, in which node k is down in this life.
  record GoneOn (es : List Event) (os : List (Result EventAnswer Refusal)) (r q : Run n) (k life : ℕ) : Type 0 where
    pub more : List Happened
    pub only : ArePauses more
    pub gone : Gone n (es ++ events_in more) (os ++ answers_in more) q
    pub controller : (last q).controller ≡ (last r).controller
    pub messages : (last q).messages ≡ (last r).messages
    pub here : (last q).nodes k ≡ in_life ((last r).nodes k) life
    pub others : (j : ℕ) → j ≢ k → (last q).nodes j ≡ (last r).nodes j

  goes_on : (es : List Event) (os : List (Result EventAnswer Refusal)) (r : Run n) (k : ℕ) → Gone n es os r → k < n → ((last r).nodes k).mode ≡ Down → ((last r).nodes k).life + 1 < 2 ^ 64
      → (q : Run n) × GoneOn es os r q k (((last r).nodes k).life + 1)
  goes_on es os r k g inside down low =
      let y : Node = (last r).nodes k in
      let e : Effect = restarting y in
      let local : Local (last r).controller k y Restart e = restarts (last r).controller k y down low in
      let one : Run n = acted r k Restart e inside tt local in
      let first : Gone n (es ++ Acts k Restart ∷ []) (os ++ restart_answer y ∷ []) one = gone_more n es os r (Acts k Restart) (restart_answer y) (moved (last r) k e) one.is_run.0 g tt (λ never. absurd never) in
      let up : (last one).nodes k ≡ up_again y = node_moved (last r) k e in
      let f : Effect = becomes (down_again y) Stopped in
      let stopping : Local (last one).controller k ((last one).nodes k) Stop f = subst (λ (x : Node). Local (last one).controller k x Stop f) (sym up) (stops (last one).controller k y) in
      let two : Run n = acted one k Stop f inside tt stopping in
      let second : Gone n ((es ++ Acts k Restart ∷ []) ++ Acts k Stop ∷ []) ((os ++ restart_answer y ∷ []) ++ stop_answer ∷ []) two =
      gone_more n (es ++ Acts k Restart ∷ []) (os ++ restart_answer y ∷ []) one (Acts k Stop) stop_answer (moved (last one) k f) two.is_run.0 first tt (λ never. absurd never) in (
        two,
        record {
          more = (Acts k Restart, restart_answer y) ∷ (Acts k Stop, stop_answer) ∷ [];
          only = ((k, inl refl), ((k, inr refl), tt));
          gone = subst (λ (xs : List Event). Gone n xs (os ++ restart_answer y ∷ stop_answer ∷ []) two) (append_assoc es (Acts k Restart ∷ []) (Acts k Stop ∷ []))
              (subst (λ (xs : List (Result EventAnswer Refusal)). Gone n ((es ++ Acts k Restart ∷ []) ++ Acts k Stop ∷ []) xs two)
              (append_assoc os (restart_answer y ∷ []) (stop_answer ∷ [])) second);
          controller = refl;
          messages = append-nil ((last r).messages ++ []) ∙ append-nil (last r).messages;
          here = node_moved (last one) k f;
          others = λ j ne. moved_other (last one) k j f ne ∙ moved_other (last r) k j e ne;
        },
      )

  -- what has gone on and then goes on once more
  both : (es : List Event) (os : List (Result EventAnswer Refusal)) (more later : List Happened) (q : Run n)
      → Gone n ((es ++ events_in more) ++ events_in later) ((os ++ answers_in more) ++ answers_in later) q → Gone n (es ++ events_in (more ++ later)) (os ++ answers_in (more ++ later)) q
  both es os more later q g =
      subst (λ (xs : List Event). Gone n xs (os ++ answers_in (more ++ later)) q)
      (append_assoc es (events_in more) (events_in later) ∙ ap (λ (xs : List Event). es ++ xs) (sym (map-append (λ (happened : Happened). happened.0) more later)))
      (subst (λ (xs : List (Result EventAnswer Refusal)). Gone n ((es ++ events_in more) ++ events_in later) xs q)
      (append_assoc os (answers_in more) (answers_in later)
      ∙ ap (λ (xs : List (Result EventAnswer Refusal)). os ++ xs) (sym (map-append (λ (happened : Happened). happened.1) more later))) g)

  goes_far : (d : ℕ) (es : List Event) (os : List (Result EventAnswer Refusal)) (r : Run n) (k : ℕ) → Gone n es os r → k < n → ((last r).nodes k).mode ≡ Down → ((last r).nodes k).life + d + 1 < 2 ^ 64
      → (q : Run n) × GoneOn es os r q k (((last r).nodes k).life + d + 1)
  goes_far zero es os r k g inside down low =
      let one = goes_on es os r k g inside down (omega arith) in
      let h = one.1 in
      let y : Node = (last r).nodes k in
      let same : y.life + 1 ≡ y.life + 0 + 1 = omega arith in
      (one.0, record { more = h.more; only = h.only; gone = h.gone; controller = h.controller; messages = h.messages; here = h.here ∙ ap (in_life y) same; others = h.others })
  goes_far (suc d) es os r k g inside down low =
      let one = goes_on es os r k g inside down (omega arith) in
      let h = one.1 in
      let y : Node = (last r).nodes k in
      let mid : Node = (last one.0).nodes k in
      let mode : mid.mode ≡ Down = ap (λ (x : Node). x.mode) h.here in
      let life : mid.life ≡ y.life + 1 = ap (λ (x : Node). x.life) h.here in
      let rest = goes_far d (es ++ events_in h.more) (os ++ answers_in h.more) one.0 k h.gone inside mode (omega arith) in
      let i = rest.1 in
      let total : mid.life + d + 1 ≡ y.life + suc d + 1 = omega arith in (
        rest.0,
        record {
          more = h.more ++ i.more;
          only = all_append (λ (happened : Happened). IsPause happened.0) h.more i.more h.only i.only;
          gone = both es os h.more i.more rest.0 i.gone;
          controller = i.controller ∙ h.controller;
          messages = i.messages ∙ h.messages;
          here = i.here ∙ (λ z. in_life (h.here z) (total z));
          others = λ j ne. i.others j ne ∙ h.others j ne;
        },
      )

  -- More events have led from the run r to the run q, in which node k is down with just what is kept of it.
  record Stopping (es : List Event) (os : List (Result EventAnswer Refusal)) (r q : Run n) (k : ℕ) (a : LeftNode) : Type 0 where
    pub more : List Happened
    pub only : ArePauses more
    pub gone : Gone n (es ++ events_in more) (os ++ answers_in more) q
    pub controller : (last q).controller ≡ (last r).controller
    pub messages : (last q).messages ≡ (last r).messages
    pub here : IsLeft a ((last q).nodes k)
    pub others : (j : ℕ) → j ≢ k → (last q).nodes j ≡ (last r).nodes j

  was_down : (es : List Event) (os : List (Result EventAnswer Refusal)) (r : Run n) (k : ℕ) (a : LeftNode) → Gone n es os r → IsKept a ((last r).nodes k) → ((last r).nodes k).mode ≡ Down
      → (q : Run n) × Stopping es os r q k a
  was_down es os r k a g kept down = (
    r,
    record {
      more = [];
      only = tt;
      gone = subst (λ (xs : List Event). Gone n xs (os ++ []) r) (sym (append-nil es)) (subst (λ (xs : List (Result EventAnswer Refusal)). Gone n es xs r) (sym (append-nil os)) g);
      controller = refl;
      messages = refl;
      here = record { log = kept.log; checkpoint = kept.checkpoint; life = kept.life; kept = kept.kept; down = down };
      others = λ j ne. refl;
    },
  )

  stop_up : (es : List Event) (os : List (Result EventAnswer Refusal)) (r : Run n) (k : ℕ) (a : LeftNode) → Gone n es os r → k < n → IsKept a ((last r).nodes k)
      → is_down ((last r).nodes k).mode ≡ false → (q : Run n) × Stopping es os r q k a
  stop_up es os r k a g inside kept up =
      let y : Node = (last r).nodes k in
      let e : Effect = becomes (record y { mode = Down }) Stopped in
      let local : Local (last r).controller k y Stop e = happened (last r).controller k y Stop e (rw up refl) refl in
      let q : Run n = acted r k Stop e inside tt local in (
        q,
        record {
          more = (Acts k Stop, stop_answer) ∷ [];
          only = ((k, inr refl), tt);
          gone = gone_more n es os r (Acts k Stop) stop_answer (moved (last r) k e) q.is_run.0 g tt (λ never. absurd never);
          controller = refl;
          messages = append-nil (last r).messages;
          here = subst (IsLeft a) (sym (node_moved (last r) k e)) (record { log = kept.log; checkpoint = kept.checkpoint; life = kept.life; kept = kept.kept; down = refl });
          others = λ j ne. moved_other (last r) k j e ne;
        },
      )

  -- node k is stopped, if it is up
  stop_one : (es : List Event) (os : List (Result EventAnswer Refusal)) (r : Run n) (k : ℕ) (a : LeftNode) → Gone n es os r → k < n → IsKept a ((last r).nodes k)
      → (mode : Mode) → ((last r).nodes k).mode ≡ mode → (q : Run n) × Stopping es os r q k a
  stop_one es os r k a g inside kept Down is = was_down es os r k a g kept is
  stop_one es os r k a g inside kept Idle is = stop_up es os r k a g inside kept (ap is_down is)
  stop_one es os r k a g inside kept (Leads l) is = stop_up es os r k a g inside kept (ap is_down is)
  stop_one es os r k a g inside kept (Follows f) is = stop_up es os r k a g inside kept (ap is_down is)

-- ---- all nodes

module _ {n : ℕ} (es : List Event) (os : List (Result EventAnswer Refusal)) (x : LeftBehind) (r : Run n) (g : Gone n es os r) (counted : length x.nodes ≡ n)
    (were : (k : ℕ) → k < length x.nodes → IsKept (left_node x k) ((last r).nodes k)) (low : (k : ℕ) → k < length x.nodes → (left_node x k).life + 1 < 2 ^ 64) where
  -- the nodes below m have gone on
  record SomeOn (q : Run n) (m : ℕ) : Type 0 where
    pub more : List Happened
    pub only : ArePauses more
    pub gone : Gone n (es ++ events_in more) (os ++ answers_in more) q
    pub controller : (last q).controller ≡ (last r).controller
    pub messages : (last q).messages ≡ (last r).messages
    pub done : (k : ℕ) → k < m → k < length x.nodes → (last q).nodes k ≡ again (left_node x k)
    pub left : (k : ℕ) → m ≤ k → k < length x.nodes → IsKept (left_node x k) ((last q).nodes k)

  go : (m : ℕ) → m ≤ length x.nodes → (q : Run n) × SomeOn q m
  go zero h = (
    r,
    record {
      more = [];
      only = tt;
      gone = subst (λ (xs : List Event). Gone n xs (os ++ []) r) (sym (append-nil es)) (subst (λ (xs : List (Result EventAnswer Refusal)). Gone n es xs r) (sym (append-nil os)) g);
      controller = refl;
      messages = refl;
      done = λ k l i. absurd (omega arith);
      left = λ k a l. were k l;
    },
  )
  go (suc m) h =
      let before = go m (omega arith) in
      let q : Run n = before.0 in
      let s = before.1 in
      let bound = low m (omega arith) in
      let es1 : List Event = es ++ events_in s.more in
      let os1 : List (Result EventAnswer Refusal) = os ++ answers_in s.more in
      let stopped = stop_one es1 os1 q m (left_node x m) s.gone (omega (arith, counted)) (s.left m (omega arith) (omega arith)) ((last q).nodes m).mode refl in
      let p : Run n = stopped.0 in
      let t = stopped.1 in
      let here = t.here in
      let life = here.life in
      let y : Node = (last p).nodes m in
      let far : y.life + ((left_node x m).life - y.life) + 1 ≡ (left_node x m).life + 1 = omega arith in
      let gone : Gone n (es ++ events_in (s.more ++ t.more)) (os ++ answers_in (s.more ++ t.more)) p = both es os s.more t.more p t.gone in
      let next =
      goes_far ((left_node x m).life - y.life) (es ++ events_in (s.more ++ t.more)) (os ++ answers_in (s.more ++ t.more)) p m gone (omega (arith, counted)) here.down (omega arith) in
      let f = next.1 in
      let same : (k : ℕ) → k ≢ m → (last next.0).nodes k ≡ (last q).nodes k = λ k ne. f.others k ne ∙ t.others k ne in (
        next.0,
        record {
          more = (s.more ++ t.more) ++ f.more;
          only = all_append (λ (happened : Happened). IsPause happened.0) (s.more ++ t.more) f.more
              (all_append (λ (happened : Happened). IsPause happened.0) s.more t.more s.only t.only) f.only;
          gone = both es os (s.more ++ t.more) f.more next.0 f.gone;
          controller = f.controller ∙ t.controller ∙ s.controller;
          messages = f.messages ∙ t.messages ∙ s.messages;
          done = λ k l i. dite (ℕ_discrete k m)
              (λ e. subst (λ (z : ℕ). (last next.0).nodes z ≡ again (left_node x z)) (sym e) (f.here ∙ again_is (left_node x m) y here (y.life + ((left_node x m).life - y.life) + 1) far))
              (λ ne. same k ne ∙ s.done k (omega arith) i);
          left = λ k a l. subst (IsKept (left_node x k)) (sym (same k (λ e. omega arith))) (s.left k (omega arith) l);
        },
      )

-- some node, for lists that have one
some_node : Limits → NumberedNode
some_node limits = record { number = 0; limits = limits; state = again (record { log = []; checkpoint = 0; life = 0; kept = None }) }

pub left_stages_go_on : LeftStagesGoOn
left_stages_go_on count old_limits limits es os old new x sent p was low begins =
    let w : World = last p.run in
    let g : Gone count es os p.run = record { events_are = p.events_are; outcomes_are = p.outcomes_are; receipts = p.receipts; spared = p.spared } in
    let stays : w.count ≡ count = count_stays count p.run w (last_is_of count p.run) in
    let counted : length x.nodes ≡ count = sym was.count ∙ sym p.shown.count ∙ stays in
    let d = some_node old_limits in
    let were : (k : ℕ) → k < length x.nodes → IsKept (left_node x k) (w.nodes k) =
    λ k l.
    let inside : k < length old.nodes = omega (arith, l, was.count) in
    subst (IsKept (left_node x k)) (sym (p.shown.nodes_are k d inside).state) (was.nodes k d l) in
    let all = go es os x p.run g counted were low (length x.nodes) (omega arith) in
    let q : Run count = all.0 in
    let s = all.1 in
    let many : length (last q).messages ≡ sent = ap length s.messages ∙ sym (shown_count old_limits old w p.shown) ∙ was.sent_is in (
      s.more,
      s.only,
      record {
        run = q;
        events_are = s.gone.events_are;
        outcomes_are = s.gone.outcomes_are;
        receipts = s.gone.receipts;
        spared = s.gone.spared;
        shown = record {
          controller_is = s.controller ∙ p.shown.controller_is ∙ was.controller_is ∙ sym begins.controller_is;
          count = count_stays count q (last q) (last_is_of count q) ∙ sym counted ∙ sym begins.count;
          nodes_are = λ k m l.
              let inside : k < length x.nodes = omega (arith, l, begins.count) in
              let is = begins.nodes k m inside in
              record {
                number_is = ap (λ (y : NumberedNode). y.number) is;
                limits_are = ap (λ (y : NumberedNode). y.limits) is;
                state = s.done k inside inside ∙ sym (ap (λ (y : NumberedNode). y.state) is);
              };
          earlier = omega (arith, begins.first_is, many);
          letters_are = drop_all new.first (map letter_of (last q).messages) (omega (arith, begins.first_is, many, length-map (last q).messages letter_of)) ∙ sym begins.no_letters;
        };
      },
    )
