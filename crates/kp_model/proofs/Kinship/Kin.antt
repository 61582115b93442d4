-- All logs of a run are kin: each is, epoch by epoch, what that epoch's leader made.
use Rattle.std.proofs.Common.{◌≡◌, ℕ, ◌+◌, ◌<◌, ◌≤◌, true, false, cond, eqb, List, [], ◌∷◌, ◌++◌, Option, Some, None, refl, sym, ap, ◌∙◌, subst, arith, inl, inr}
use Rattle.std.specs.Prelude.{◌==◌}
use Rattle.std.specs.List.{AllByRecursion}
use Rattle.std.specs.Option.{option_map_or, option_eq}
use Rattle.std.proofs.lemmas.Bool.{cond_both, cases_eq, eqb-true, eqb-false, eq-eqb, ne_eqb, and_parts, not-false, false≢true}
use Rattle.kp_batch.specs.Batch.{Body, IsBody}
use Rattle.kp_model.specs.Beginning.{Begins}
use Rattle.kp_model.specs.Log.{Batch, end_of, IsLog}
use Rattle.kp_model.specs.World.{Leader, LeaderAndIsr, Leading, Following, Mode, Down, Idle, Leads, Follows, Node, Answer, Message, Asks, Answers, World, start, with_record, with_node, with_message}
use Rattle.kp_model.specs.Controller.{next_epoch, has_epoch, elected}
use Rattle.kp_model.specs.Effect.{Effect, mode_epoch}
use Rattle.kp_model.specs.Appending.{stamped}
use Rattle.kp_model.specs.Fetching.{Takes, TakesSome, Cuts, piece, grown, awaits, Continues, take_cause, cut_cause, reconciles, last_epoch}
use Rattle.kp_model.specs.Step.{moved}
use Rattle.kp_model.proofs.Plain.Beginnings.{Begins-refl, Begins-nil, Begins-append, Begins-trans, Begins-after}
use Rattle.kp_model.proofs.Plain.Logs.{IsLog-push}
use Rattle.kp_model.proofs.OneStep.Steps.{becoming}
use Rattle.kp_model.proofs.Kinship.SoundLogs.{AllBelow, last_below, mode_bound, WorldIsSound, elections_of, take_facts}
use Rattle.kp_model.proofs.Kinship.Ledger.{Ledger, IsMade, Grows, made_later, made_begins, made_push, with_log, with_log_at, with_log_other, with_log_grows, grown_begins}
use Rattle.kp_types.proofs.Elements.{all_weaker, all_append}
use Rattle.kp_types.proofs.Causes.{passed}

-- what the leaders made, and who they were, by epoch
pub record History : Type 0 where
  pub ledger : Ledger
  pub leader : ℕ → ℕ

-- A leader's log is what it made; a follower isn't the leader of its epoch.
abbrev pub ModeIsKept : History → ℕ → List Batch → Mode → Type 0
ModeIsKept g n log Down = Unit {0}
ModeIsKept g n log Idle = Unit {0}
ModeIsKept g n log (Leads l) = (log ≡ g.ledger l.epoch) × (g.leader l.epoch ≡ n)
ModeIsKept g n log (Follows f) = g.leader f.epoch ≡ n → ⊥

pub record NodeIsKept (g : History) (n : ℕ) (x : Node) : Type 0 where
  pub made : IsMade g.ledger x.log
  pub mode : ModeIsKept g n x.log x.mode

abbrev pub MessageIsKept : History → Message → Type 0
MessageIsKept g (Asks r) = IsMade g.ledger r.log
MessageIsKept g (Answers a) = IsMade g.ledger a.request.log × Begins a.log (g.ledger a.request.epoch)
MessageIsKept g _ = Unit {0}

pub record IsKept (w : World) (g : History) : Type 0 where
  pub nodes : (n : ℕ) → NodeIsKept g n (w.nodes n)
  pub messages : AllByRecursion (MessageIsKept g) w.messages
  pub made : (e : ℕ) → IsMade g.ledger (g.ledger e)
  pub logs : (e : ℕ) → IsLog (g.ledger e)
  pub bounded : (e : ℕ) → AllBelow (e + 1) (g.ledger e)
  pub later : (e : ℕ) → elections_of w ≤ e → g.ledger e ≡ []
  pub leader : (l : Leader) → w.controller.leader ≡ Some l → g.leader l.epoch ≡ l.node
  pub current : (l : Leader) → w.controller.leader ≡ Some l → Begins (g.ledger l.epoch) (w.nodes l.node).log

pub with_node_each : (P : ℕ → Node → Type 0) (nodes : ℕ → Node) (n : ℕ) (x : Node) → ((m : ℕ) → (m ≡ n → ⊥) → P m (nodes m)) → P n x → (m : ℕ) → P m (cond (eqb m n) x (nodes m))
with_node_each P nodes n x h p m =
    cond_both (eqb m n) x (nodes m) (P m) (λ e. subst (λ (k : ℕ). P k x) (sym (eqb-true m n e)) p) (λ e. h m (eqb-false m n e))

-- ---- steps that make no batch

pub changed : (w : World) (g : History) (n : ℕ) (x : Node) → IsKept w g → NodeIsKept g n x
    → ((l : Leader) → w.controller.leader ≡ Some l → l.node ≡ n → Begins (g.ledger l.epoch) x.log)
    → IsKept (with_node w n x) g
changed w g n x h p c =
    record {
      nodes = with_node_each (NodeIsKept g) w.nodes n x (λ m ne. h.nodes m) p;
      messages = h.messages;
      made = h.made;
      logs = h.logs;
      bounded = h.bounded;
      later = h.later;
      leader = h.leader;
      current = λ l e. cond_both (eqb l.node n) x (w.nodes l.node) (λ (y : Node). Begins (g.ledger l.epoch) y.log) (λ t. c l e (eqb-true l.node n t)) (λ t. h.current l e);
    }

-- the same log in another mode
pub same_log : (w : World) (g : History) (n : ℕ) → IsKept w g → (l : Leader) → w.controller.leader ≡ Some l → l.node ≡ n → Begins (g.ledger l.epoch) (w.nodes n).log
same_log w g n h l e s = subst (λ (k : ℕ). Begins (g.ledger l.epoch) (w.nodes k).log) s (h.current l e)

pub sent : (w : World) (g : History) (m : Message) → IsKept w g → MessageIsKept g m → IsKept (with_message w m) g
sent w g m h p =
    record {
      nodes = h.nodes;
      messages = all_append (MessageIsKept g) w.messages (m ∷ []) h.messages (p, tt);
      made = h.made;
      logs = h.logs;
      bounded = h.bounded;
      later = h.later;
      leader = h.leader;
      current = h.current;
    }

-- the record changes, but not its leader
pub re_recorded : (w : World) (g : History) (r : LeaderAndIsr) → r.leader ≡ w.controller.leader → IsKept w g → IsKept (with_record w r) g
re_recorded w g r e h =
    record {
      nodes = h.nodes;
      messages = h.messages;
      made = h.made;
      logs = h.logs;
      bounded = h.bounded;
      later = λ k l. h.later k (omega (arith, ap next_epoch e));
      leader = λ l s. h.leader l (sym e ∙ s);
      current = λ l s. h.current l (sym e ∙ s);
    }

-- ---- elect

pub mode_elected : (g : History) (n m elections : ℕ) (log : List Batch) (mode : Mode) → mode_bound elections mode ≤ elections → ModeIsKept g m log mode
    → ModeIsKept (record g { leader = λ e. cond (eqb e elections) n (g.leader e) }) m log mode
mode_elected g n m elections log Down b h = tt
mode_elected g n m elections log Idle b h = tt
mode_elected g n m elections log (Leads l) b h =
    let old : eqb l.epoch elections ≡ false = ne_eqb l.epoch elections (λ (e : l.epoch ≡ elections). omega arith) in
    (h.0, rw old h.1)
mode_elected g n m elections log (Follows f) b h =
    let old : eqb f.epoch elections ≡ false = ne_eqb f.epoch elections (λ (e : f.epoch ≡ elections). omega arith) in
    rw old h

abbrev pub elected_history : History → ℕ → ℕ → History
elected_history g n elections = record g { leader = λ e. cond (eqb e elections) n (g.leader e) }

pub elect_kept : (w : World) (g : History) (n : ℕ) → WorldIsSound w → IsKept w g → IsKept (with_record w (elected w.controller n)) (elected_history g n (elections_of w))
elect_kept w g n s h =
    let elections = elections_of w in
    let after : History = record g { leader = λ e. cond (eqb e elections) n (g.leader e) } in
    let new : Leader = record { node = n; epoch = elections } in
    let here : eqb elections elections ≡ true = eq-eqb elections elections refl in
    let none : g.ledger elections ≡ [] = h.later elections (omega arith) in
    record {
      nodes = λ m. record { made = (h.nodes m).made; mode = mode_elected g n m elections (w.nodes m).log (w.nodes m).mode (s.nodes m).within (h.nodes m).mode };
      messages = h.messages;
      made = h.made;
      logs = h.logs;
      bounded = h.bounded;
      later = λ e l. h.later e (omega arith);
      leader = λ l e. (let same : new ≡ l = cc in subst (λ (k : Leader). after.leader k.epoch ≡ k.node) same (rw here refl));
      current = λ l e. (let same : new ≡ l = cc in
          subst (λ (k : Leader). Begins (g.ledger k.epoch) (w.nodes k.node).log) same (subst (λ (k : List Batch). Begins k (w.nodes n).log) (sym none) (Begins-nil (w.nodes n).log)));
    }

-- ---- a leader makes a batch, or begins to lead

-- a leader of this epoch has this log now, which has all that was made in the epoch and all that the node had
pub record Leads-now (w : World) (g : History) (n e : ℕ) (log : List Batch) : Type 0 where
  pub made : Begins (g.ledger e) log
  pub had : Begins (w.nodes n).log log
  pub agrees : IsMade (with_log g.ledger e log) log
  pub lawful : IsLog log
  pub bounded : AllBelow (e + 1) log
  pub elected : e < elections_of w
  pub leads : g.leader e ≡ n

-- the other epochs' logs stay, and so do their leaders' modes
pub mode_other : (g : History) (e : ℕ) (log : List Batch) (m n : ℕ) (own : List Batch) (mode : Mode) → g.leader e ≡ n → (m ≡ n → ⊥) → Begins (g.ledger e) log
    → ModeIsKept g m own mode → ModeIsKept (record g { ledger = with_log g.ledger e log }) m own mode
mode_other g e log m n own Down is ne b h = tt
mode_other g e log m n own Idle is ne b h = tt
mode_other g e log m n own (Leads l) is ne b h =
    let apart : l.epoch ≡ e → ⊥ = λ (same : l.epoch ≡ e). ne (sym h.1 ∙ ap g.leader same ∙ is) in
    (h.0 ∙ sym (with_log_other g.ledger e log l.epoch apart), h.1)
mode_other g e log m n own (Follows f) is ne b h = h

pub message_later : (g : History) (ledger : Ledger) → Grows g.ledger ledger → (m : Message) → MessageIsKept g m → MessageIsKept (record g { ledger = ledger }) m
message_later g ledger grows (Asks r) h = made_later g.ledger ledger r.log grows h
message_later g ledger grows (Answers a) h = (made_later g.ledger ledger a.request.log grows h.0, Begins-trans h.1 (grows a.request.epoch))
message_later g ledger grows _ h = tt

pub grown_kept : (w : World) (g : History) (n e : ℕ) (x : Node) → IsKept w g → ModeIsKept (record g { ledger = with_log g.ledger e x.log }) n x.log x.mode → Leads-now w g n e x.log
    → IsKept (with_node w n x) (record g { ledger = with_log g.ledger e x.log })
grown_kept w g n e x h mode p =
    let ledger = with_log g.ledger e x.log in
    let after : History = record g { ledger = ledger } in
    let grows : Grows g.ledger ledger = with_log_grows g.ledger e x.log p.made in
    let here : ledger e ≡ x.log = with_log_at g.ledger e x.log in
    record {
      nodes = with_node_each (NodeIsKept after) w.nodes n x
          (λ m ne. record {
            made = made_later g.ledger ledger (w.nodes m).log grows (h.nodes m).made;
            mode = mode_other g e x.log m n (w.nodes m).log (w.nodes m).mode p.leads ne p.made (h.nodes m).mode;
          })
          (record { made = p.agrees; mode = mode });
      messages = all_weaker (MessageIsKept g) (MessageIsKept after) (message_later g ledger grows) w.messages h.messages;
      made = each_epoch g.ledger e x.log (λ k log. IsMade ledger log) p.agrees (λ k ne. made_later g.ledger ledger (g.ledger k) grows (h.made k));
      logs = each_epoch g.ledger e x.log (λ k log. IsLog log) p.lawful (λ k ne. h.logs k);
      bounded = each_epoch g.ledger e x.log (λ k log. AllBelow (k + 1) log) p.bounded (λ k ne. h.bounded k);
      later = λ k later. with_log_other g.ledger e x.log k (λ (same : k ≡ e). (let lower = p.elected in omega arith)) ∙ h.later k later;
      leader = h.leader;
      current = λ r s. cond_both (eqb r.node n) x (w.nodes r.node) (λ (y : Node). Begins (ledger r.epoch) y.log)
          (λ t. elim (cases_eq r.epoch e) [
            | inl same ↦ subst (λ (k : List Batch). Begins k x.log) (sym (ap ledger same ∙ here)) (Begins-refl x.log)
            | inr ne ↦ subst (λ (k : List Batch). Begins k x.log) (sym (with_log_other g.ledger e x.log r.epoch ne))
                (Begins-trans (same_log w g n h r s (eqb-true r.node n t)) p.had)
          ])
          (λ t. (let apart : r.epoch ≡ e → ⊥ = λ (same : r.epoch ≡ e). eqb-false r.node n t (sym (h.leader r s) ∙ ap g.leader same ∙ p.leads) in
          subst (λ (k : List Batch). Begins k (w.nodes r.node).log) (sym (with_log_other g.ledger e x.log r.epoch apart)) (h.current r s)));
    }
  where
    each_epoch : (ledger : Ledger) (e : ℕ) (log : List Batch) (P : ℕ → List Batch → Type 0) → P e log → ((k : ℕ) → (k ≡ e → ⊥) → P k (ledger k)) → (k : ℕ) → P k (with_log ledger e log k)
    each_epoch ledger e log P own others k =
        elim (cases_eq k e) [
          | inl same ↦ subst (λ (j : ℕ). P j (with_log ledger e log j)) (sym same) (subst (P e) (sym (with_log_at ledger e log)) own)
          | inr ne ↦ subst (P k) (sym (with_log_other ledger e log k ne)) (others k ne)
        ]

pub led_kept : (w : World) (g : History) (n e : ℕ) (x : Node) (l : Leading) → IsKept w g → x.mode ≡ Leads l → l.epoch ≡ e → Leads-now w g n e x.log → IsKept (with_node w n x) (record g { ledger = with_log g.ledger e x.log })
led_kept w g n e x l h mode epoch p =
    let ledger = with_log g.ledger e x.log in
    let after : History = record g { ledger = ledger } in
    let here : ledger e ≡ x.log = with_log_at g.ledger e x.log in
    let leads : ModeIsKept after n x.log (Leads l) = (sym here ∙ ap ledger (sym epoch), ap g.leader epoch ∙ p.leads) in
    grown_kept w g n e x h (subst (ModeIsKept after n x.log) (sym mode) leads) p

pub appended : (w : World) (g : History) (n : ℕ) (l : Leading) (body : Body) → (w.nodes n).mode ≡ Leads l → WorldIsSound w → IsBody body → IsKept w g
    → Leads-now w g n l.epoch ((w.nodes n).log ++ stamped (w.nodes n).log l.epoch body ∷ [])
appended w g n l body e s lawful h =
    let x = w.nodes n in
    let b = stamped x.log l.epoch body in
    let sound = s.nodes n in
    let mode : ModeIsKept g n x.log (Leads l) = subst (ModeIsKept g n x.log) e (h.nodes n).mode in
    let bound : mode_bound (elections_of w) x.mode ≡ l.epoch + 1 = ap (mode_bound (elections_of w)) e in
    let below : AllBelow (l.epoch + 1) x.log = subst (λ (k : ℕ). AllBelow k x.log) bound sound.epochs in
    let last = last_below 0 (l.epoch + 1) x.log (omega arith) below in
    record {
      made = subst (λ (k : List Batch). Begins k (x.log ++ b ∷ [])) mode.0 (Begins-append x.log (b ∷ []));
      had = Begins-append x.log (b ∷ []);
      agrees = made_push g.ledger l.epoch x.log b refl below mode.0 (h.nodes n).made;
      lawful = IsLog-push x.log b sound.log refl (omega arith) lawful;
      bounded = all_append (λ c. c.epoch < l.epoch + 1) x.log (b ∷ []) below (omega arith, tt);
      elected = omega (arith, bound, sound.within);
      leads = mode.1;
    }

-- ---- requests and answers

option_eq_is : (a b : Option ℕ) → option_eq ◌==◌ a b ≡ true → a ≡ b
option_eq_is None None e = refl
option_eq_is None (Some y) e = absurd (false≢true e)
option_eq_is (Some x) None e = absurd (false≢true e)
option_eq_is (Some x) (Some y) e = ap (λ (n : ℕ). Some n) (eqb-true x y e)

-- what a follower was shown to be
pub record Expects (x : Node) (a : Answer) (f : Following) : Type 0 where
  pub is : x.mode ≡ Follows f
  pub epoch : f.epoch ≡ a.request.epoch
  pub end : end_of x.log ≡ end_of a.request.log
  pub last : last_epoch a.request.log ≡ last_epoch x.log

pub expected : (x : Node) (a : Answer) (mode : Mode) → x.mode ≡ mode → awaits x a.request.epoch (end_of a.request.log) (last_epoch a.request.log) mode ≡ true → (f : Following) × Expects x a f
expected x a Down m e = absurd (false≢true e)
expected x a Idle m e = absurd (false≢true e)
expected x a (Leads l) m e = absurd (false≢true e)
expected x a (Follows f) m e =
    let all = and_parts _ _ e in
    let ends = and_parts _ _ all.0 in (
      f,
      record {
        is = m;
        epoch = eqb-true f.epoch a.request.epoch ends.0;
        end = eqb-true (end_of x.log) (end_of a.request.log) ends.1;
        last = option_eq_is (last_epoch a.request.log) (last_epoch x.log) all.1;
      },
    )

-- what it takes continues what its leader made
pub grown_made : (w : World) (g : History) (n : ℕ) (a : Answer) → IsKept w g → MessageIsKept g (Answers a) → take_cause (w.nodes n) a ≡ None → Continues (w.nodes n) a
    → (f : Following) × Expects (w.nodes n) a f × Begins (grown (w.nodes n) a) (g.ledger f.epoch)
grown_made w g n a h m c t =
    let x = w.nodes n in
    let facts = take_facts x a c in
    let p = expected x a x.mode refl facts.expected in
    let f = p.0 in
    let q = p.1 in
    let answer : Begins a.log (g.ledger f.epoch) = subst (λ (k : ℕ). Begins a.log (g.ledger k)) (sym q.epoch) m.1 in
    let own : Begins x.log a.log = subst (λ (k : List Batch). Begins k a.log) t.same t.begins in
    (f, q, grown_begins x.log a.log (g.ledger f.epoch) a.request (h.logs f.epoch) (Begins-trans own answer) answer q.end)

pub take_kept : (w : World) (g : History) (n : ℕ) (a : Answer) (effect : Effect) → take_cause (w.nodes n) a ≡ None → IsKept w g → MessageIsKept g (Answers a) → Takes (w.nodes n) a effect → IsKept (moved w n effect) g
take_kept w g n a effect c h m t =
    let x = w.nodes n in
    let p = grown_made w g n a h m c t.0 in
    let f = p.0 in
    let mode : ModeIsKept g n x.log (Follows f) = subst (ModeIsKept g n x.log) p.1.is (h.nodes n).mode in
    becoming (λ (v : World). IsKept v g) w n effect _ _ t.1
    (changed w g n _ h
    (record { made = made_begins g.ledger p.2 (h.made f.epoch); mode = subst (ModeIsKept g n (grown x a)) (sym p.1.is) mode })
    (λ l e s. Begins-trans (same_log w g n h l e s) (Begins-append x.log (piece a.log a.request))))

pub take_some_kept : (w : World) (g : History) (n : ℕ) (a : Answer) (effect : Effect) → take_cause (w.nodes n) a ≡ None → IsKept w g → MessageIsKept g (Answers a) → TakesSome (w.nodes n) a effect → IsKept (moved w n effect) g
take_some_kept w g n a effect c h m t =
    let x = w.nodes n in
    let p = grown_made w g n a h m c t.continues in
    let front : Begins (x.log ++ t.some) (grown x a) = Begins-after x.log t.begins in
    becoming (λ (v : World). IsKept v g) w n effect _ _ t.effect_is
    (changed w g n _ h
    (record { made = made_begins g.ledger (Begins-trans front p.2) (h.made p.0.epoch); mode = tt })
    (λ l e s. Begins-trans (same_log w g n h l e s) (Begins-append x.log t.some)))

-- the cut's causes: the record has the node's epoch, and so has the request
pub has_epoch_is : (r : LeaderAndIsr) (l : Leader) (epoch : ℕ) → r.leader ≡ Some l → has_epoch r (Some epoch) ≡ true → l.epoch ≡ epoch
has_epoch_is r l epoch e h =
    let test : eqb l.epoch epoch ≡ true = rw e at h in
    eqb-true l.epoch epoch test

pub record CutFacts (c : LeaderAndIsr) (n : ℕ) (x : Node) (a : Answer) (f : Following) : Type 0 where
  pub is : x.mode ≡ Follows f
  pub recorded : has_epoch c (Some f.epoch) ≡ true
  pub from : a.request.from ≡ n
  pub asked : a.request.epoch ≡ f.epoch
  pub life : a.request.life ≡ x.life
  pub end : end_of x.log ≡ end_of a.request.log
  pub last : last_epoch a.request.log ≡ last_epoch x.log

pub cut_facts : (c : LeaderAndIsr) (n : ℕ) (x : Node) (a : Answer) → cut_cause c n x a ≡ None → (f : Following) × CutFacts c n x a f
cut_facts c n x a free =
    let up = passed _ _ _ free in
    let recorded = passed _ _ _ up.1 in
    let own = passed _ _ _ recorded.1 in
    let all : reconciles n x a.request.from a.request.life a.request.epoch (end_of a.request.log) (last_epoch a.request.log) ≡ true = not-false _ own.0 in
    let but_life = and_parts _ _ all in
    let but_from = and_parts _ _ but_life.0 in
    let p = expected x a x.mode refl but_from.0 in
    let f = p.0 in (
      f,
      record {
        is = p.1.is;
        recorded = subst (λ (m : Mode). has_epoch c (mode_epoch m) ≡ true) p.1.is (not-false _ recorded.0);
        from = eqb-true a.request.from n but_from.1;
        asked = sym p.1.epoch;
        life = eqb-true a.request.life x.life but_life.1;
        end = p.1.end;
        last = p.1.last;
      },
    )

pub cut_kept : (w : World) (g : History) (n : ℕ) (a : Answer) (effect : Effect) → cut_cause w.controller n (w.nodes n) a ≡ None → IsKept w g → MessageIsKept g (Answers a) → Cuts (w.nodes n) a effect → IsKept (moved w n effect) g
cut_kept w g n a effect c h m cut =
    let x = w.nodes n in
    let found = cut_facts w.controller n x a c in
    let f = found.0 in
    let facts = found.1 in
    let mode : ModeIsKept g n x.log (Follows f) = subst (ModeIsKept g n x.log) facts.is (h.nodes n).mode in
    becoming (λ (v : World). IsKept v g) w n effect _ _ cut.effect_is
    (changed w g n _ h
    (record { made = made_begins g.ledger cut.begins (h.nodes n).made; mode = subst (ModeIsKept g n cut.left) (sym facts.is) mode })
    (λ l r s. absurd (mode (ap g.leader (sym (has_epoch_is w.controller l f.epoch r facts.recorded)) ∙ h.leader l r ∙ s))))

-- what a leader knows of the in-sync set changes
pub leads_kept : (w : World) (g : History) (n : ℕ) (l m : Leading) → (w.nodes n).mode ≡ Leads l → m.epoch ≡ l.epoch → IsKept w g → IsKept (with_node w n (record (w.nodes n) { mode = Leads m })) g
leads_kept w g n l m e same h =
    let x = w.nodes n in
    let mode : ModeIsKept g n x.log (Leads l) = subst (ModeIsKept g n x.log) e (h.nodes n).mode in
    changed w g n (record x { mode = Leads m }) h
    (record { made = (h.nodes n).made; mode = (mode.0 ∙ ap g.ledger (sym same), ap g.leader same ∙ mode.1) }) (same_log w g n h)

pub kept_start : (count : ℕ) → IsKept (start count) (record { ledger = λ e. []; leader = λ e. 0 })
kept_start count =
    record {
      nodes = λ n. record { made = λ e a. absurd (false≢true a); mode = tt };
      messages = tt;
      made = λ k e a. absurd (false≢true a);
      logs = λ e. tt;
      bounded = λ e. tt;
      later = λ e l. refl;
      leader = λ l e. absurd (let f = e in none_is_some f);
      current = λ l e. absurd (none_is_some e);
    }
  where
    none_is_some : {A : Type 0} {x : A} → None ≡ Some x → ⊥
    none_is_some e = false≢true (ap (λ (o : Option _). option_map_or (λ y. true) o false) e)
