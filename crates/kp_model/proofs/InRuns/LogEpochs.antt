-- No log of a run has an epoch that was not elected.
use Rattle.std.proofs.Common.{◌≡◌, ℕ, ◌<◌, ◌≤◌, eqb, leb, List, [], ◌∷◌, true, false, length, Option, Some, None, refl, sym, ap, ◌∙◌, subst, arith, inl, inr}
use Rattle.std.specs.Prelude.{IsTrue, is_some, map, ◌||◌}
use Rattle.std.specs.List.{last_or}
use Rattle.std.proofs.lemmas.Bool.{cases_Bool, cases_lt, eqb-true, eq-eqb, le-leb, or_cases, or_left, or_right, false≢true}
use Rattle.kp_model.specs.Beginning.{Begins}
use Rattle.kp_model.specs.Log.{Batch, occurs, up_to}
use Rattle.kp_model.specs.World.{Leader, Mode, Down, Idle, Leads, Follows, Asks, Answers, Message, World}
use Rattle.kp_model.specs.Controller.{next_epoch}
use Rattle.kp_model.specs.Effect.{mode_epoch}
use Rattle.kp_model.specs.Fetching.{last_epoch}
use Rattle.kp_model.specs.Run.{Run, IsOf}
use Rattle.kp_model.specs.Laws.{Carries, StandsIn, IsElected, EpochsAreElected, OwnEpochsAreElected}
use Rattle.kp_model.proofs.OneStep.Steps.{each_sent}
use Rattle.kp_model.proofs.Kinship.SoundLogs.{AllBelow, mode_bound, elections_of}
use Rattle.kp_model.proofs.Kinship.Ledger.{IsMade, made_begins}
use Rattle.kp_model.proofs.Kinship.Kin.{History, IsKept, MessageIsKept}
use Rattle.kp_model.proofs.Safety.Held.{begins_nil}
use Rattle.kp_model.proofs.Safety.Known.{known}

some_up_to : (epoch : ℕ) (log : List Batch) → IsTrue (occurs epoch log) → up_to epoch log ≡ [] → ⊥
some_up_to epoch [] h e = absurd (false≢true h)
some_up_to epoch (b ∷ bs) h e =
    elim (cases_Bool (leb b.epoch epoch)) [
      | inl kept ↦ (let some : b ∷ up_to epoch bs ≡ [] = rw kept at e in let long = ap length some in absurd (omega arith))
      | inr cut ↦
          (let rest : up_to epoch bs ≡ [] = rw cut at e in
          elim (or_cases (eqb b.epoch epoch) (occurs epoch bs) h) [
            | inl here ↦ (let low = le-leb b.epoch epoch (let same = eqb-true b.epoch epoch here in omega arith) in absurd (false≢true (sym cut ∙ low)))
            | inr later ↦ some_up_to epoch bs later rest
          ])
    ]

made_elected : (w : World) (g : History) → IsKept w g → (log : List Batch) → IsMade g.ledger log → (epoch : ℕ) → IsTrue (occurs epoch log) → epoch < elections_of w
made_elected w g k log made epoch h =
    elim (cases_lt epoch (elections_of w)) [
      | inl low ↦ low
      | inr high ↦
          (let none : Begins (up_to epoch log) [] = subst (Begins (up_to epoch log)) (k.later epoch high) (made epoch h) in
          absurd (some_up_to epoch log h (begins_nil (up_to epoch log) none)))
    ]

-- each log of a world is made
message_made : (w : World) (g : History) → IsKept w g → (m : Message) (log : List Batch) → MessageIsKept g m → Carries m log → IsMade g.ledger log
message_made w g k (Asks r) log h c = subst (IsMade g.ledger) (sym c) h
message_made w g k (Answers a) log h c =
    elim c [
      | inl asked ↦ subst (IsMade g.ledger) (sym asked) h.0
      | inr answered ↦ subst (IsMade g.ledger) (sym answered) (made_begins g.ledger h.1 (k.made a.request.epoch))
    ]
message_made w g k _ log h c = absurd c

stands_made : (w : World) (g : History) → IsKept w g → (log : List Batch) → StandsIn w log → IsMade g.ledger log
stands_made w g k log h =
    elim h [
      | inl node ↦ subst (IsMade g.ledger) (sym node.1) (k.nodes node.0).made
      | inr message ↦ message_made w g k message.0 log (each_sent (MessageIsKept g) w.messages message.0 k.messages message.1) message.2
    ]

elected_by : (w : World) (epoch : ℕ) → epoch < elections_of w → IsElected w epoch
elected_by w epoch low = by_leader w.controller.leader refl
  where
    by_leader : (o : Option Leader) → w.controller.leader ≡ o → IsElected w epoch
    by_leader None e = absurd (let none = ap next_epoch e in omega arith)
    by_leader (Some l) e = (l, e, (let some = ap next_epoch e in omega arith))

pub epochs_are_elected : EpochsAreElected
epochs_are_elected count r w i log stands epoch h =
    let k = known count r w i in
    elected_by w epoch (made_elected w k.history k.all.kept log (stands_made w k.history k.all.kept log stands) epoch h)

own_elected : (count : ℕ) (r : Run count) (w : World) → IsOf w r → (n epoch : ℕ) → mode_epoch (w.nodes n).mode ≡ Some epoch → IsElected w epoch
own_elected count r w i n epoch own =
    let k = known count r w i in
    elected_by w epoch (by_mode (elections_of w) (w.nodes n).mode own (k.all.sound.nodes n).within)
  where
    by_mode : (elections : ℕ) (mode : Mode) → mode_epoch mode ≡ Some epoch → mode_bound elections mode ≤ elections → epoch < elections
    by_mode elections Down e l = absurd (false≢true (ap is_some e))
    by_mode elections Idle e l = absurd (false≢true (ap is_some e))
    by_mode elections (Leads x) e l = (let same : x.epoch ≡ epoch = cc in omega arith)
    by_mode elections (Follows f) e l = (let same : f.epoch ≡ epoch = cc in omega arith)

-- a log has no epoch from its bound on
pub below_bound : (bound epoch : ℕ) (log : List Batch) → AllBelow bound log → IsTrue (occurs epoch log) → epoch < bound
below_bound bound epoch [] h e = absurd (false≢true e)
below_bound bound epoch (b ∷ bs) h e =
    elim (or_cases (eqb b.epoch epoch) (occurs epoch bs) e) [
      | inl here ↦ (let same = eqb-true b.epoch epoch here in let low = h.0 in omega arith)
      | inr later ↦ below_bound bound epoch bs h.1 later
    ]

not_above : (count : ℕ) (r : Run count) (w : World) → IsOf w r → (n own epoch : ℕ) → mode_epoch (w.nodes n).mode ≡ Some own → IsTrue (occurs epoch (w.nodes n).log) → epoch ≤ own
not_above count r w i n own epoch mode h =
    let k = known count r w i in
    by_mode (elections_of w) (w.nodes n).mode mode (below_bound (mode_bound (elections_of w) (w.nodes n).mode) epoch (w.nodes n).log (k.all.sound.nodes n).epochs h)
  where
    by_mode : (elections : ℕ) (mode : Mode) → mode_epoch mode ≡ Some own → epoch < mode_bound elections mode → epoch ≤ own
    by_mode elections Down e l = absurd (false≢true (ap is_some e))
    by_mode elections Idle e l = absurd (false≢true (ap is_some e))
    by_mode elections (Leads x) e l = (let same : x.epoch ≡ own = cc in omega arith)
    by_mode elections (Follows f) e l = (let same : f.epoch ≡ own = cc in omega arith)

pub own_epochs_are_elected : OwnEpochsAreElected
own_epochs_are_elected count r w i n own mode = (own_elected count r w i n own mode, λ epoch h. not_above count r w i n own epoch mode h)

-- the last epoch of a log is one that it has
pub last_occurs : (log : List Batch) (epoch : ℕ) → last_epoch log ≡ Some epoch → IsTrue (occurs epoch log)
last_occurs [] epoch e = absurd (false≢true (ap is_some e))
last_occurs (b ∷ bs) epoch e = from_last b.epoch bs e
  where
    from_last : (first : ℕ) (log : List Batch) → last_or (Some first) (map (λ c. c.epoch) log) ≡ Some epoch → (eqb first epoch || occurs epoch log) ≡ true
    from_last first [] e = (let same : first ≡ epoch = cc in or_left (eqb first epoch) false (eq-eqb first epoch same))
    from_last first (c ∷ cs) e = or_right (eqb first epoch) (occurs epoch (c ∷ cs)) (from_last c.epoch cs e)
