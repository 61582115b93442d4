-- A leader appends a batch.
use Rattle.std.proofs.Common.{◌≡◌, ◌⊎◌, ℕ, ◌+◌, ◌<◌, ◌≤◌, List, [], ◌∷◌, ◌++◌, Some, refl, sym, ap, ◌∙◌, subst, arith, inl, inr}
use Rattle.kp_batch.specs.Batch.{Body, IsBody}
use Rattle.kp_model.specs.Beginning.{Begins}
use Rattle.kp_model.specs.Log.{Batch}
use Rattle.kp_model.specs.World.{Leading, Leads, World, with_node}
use Rattle.kp_model.specs.Appending.{stamped}
use Rattle.kp_model.proofs.Plain.Beginnings.{Begins-trans}
use Rattle.kp_model.proofs.Kinship.SoundLogs.{AllBelow, mode_bound, elections_of}
use Rattle.kp_model.proofs.Kinship.Ledger.{IsMade}
use Rattle.kp_model.proofs.Kinship.Kin.{History, ModeIsKept, Leads-now, led_kept, appended}
use Rattle.kp_model.proofs.Safety.Held.{Sets, bound, IsPossible, HasPassed, kept_bound}
use Rattle.kp_model.proofs.Safety.HeldGrown.{with_began, grown_held, grown_led, own_grown, grows, began_later, committed_grown, epoch_grown, log_grown, push_cases, made_to}
use Rattle.kp_model.proofs.Safety.HeldOnto.{AllKept, Onto, some_is}
use Rattle.kp_types.proofs.Elements.{all_behind}

module _ (w : World) (g : History) (t : Sets) (a : AllKept w g t) (n : ℕ) (l : Leading) (body : Body) (mode : (w.nodes n).mode ≡ Leads l) (lawful : IsBody body) where
  abbrev log : List Batch
  log = (w.nodes n).log ++ stamped (w.nodes n).log l.epoch body ∷ []

  now : Leads-now w g n l.epoch log
  now = appended w g n l body mode a.sound lawful a.kept

  mode_kept : ModeIsKept g n (w.nodes n).log (Leads l)
  mode_kept = subst (ModeIsKept g n (w.nodes n).log) mode (a.kept.nodes n).mode

  abbrev first : List Batch
  first = (a.held.leads n l mode).begun.first

  began : t.began l.epoch ≡ Some first
  began = (a.held.leads n l mode).begun.began

  is_first : Begins first log
  is_first = Begins-trans (a.held.leads n l mode).begun.begins now.had

  here : bound w n ≡ l.epoch + 1
  here = ap (mode_bound (elections_of w)) mode

  kept_here : l.epoch + 1 ≤ kept_bound (w.nodes n).kept
  kept_here = subst (λ (j : ℕ). l.epoch + 1 ≤ kept_bound (w.nodes j).kept) mode_kept.1 (a.held.led_kept l.epoch first began)

  old_first : (f : List Batch) → t.began l.epoch ≡ Some f → f ≡ first
  old_first f o = some_is f first (sym o ∙ began)

  limit : ((f : List Batch) × (t.began l.epoch ≡ Some f)) ⊎ HasPassed w t l.epoch → (other Q : List Batch) → IsMade g.ledger other → Begins Q other → Begins Q log → Begins Q (g.ledger l.epoch)
  limit c other Q made p q =
      elim (push_cases Q (w.nodes n).log (stamped (w.nodes n).log l.epoch body) q) [
        | inl short ↦ subst (Begins Q) mode_kept.0 short
        | inr whole ↦
            subst (λ (k : List Batch). Begins k (g.ledger l.epoch)) (sym whole)
            (made_to g.ledger other (w.nodes n).log (stamped (w.nodes n).log l.epoch body) made (subst (λ (k : List Batch). Begins k other) whole p) now.bounded)
      ]

  passed : (before : ℕ) → before < l.epoch → HasPassed w t before
  passed before lt = a.held.passed_begun before l.epoch first began lt

  holds : (before : ℕ) (P : List Batch) → before < l.epoch → IsPossible w g t before P → Begins P first
  holds before P lt p = a.held.leaders_hold before l.epoch first P began lt p

  only_own : (Q : List Batch) → Begins Q log → AllBelow l.epoch Q → Begins Q first
  only_own Q p below =
      elim (push_cases Q (w.nodes n).log (stamped (w.nodes n).log l.epoch body) p) [
        | inl short ↦ a.own l.epoch first Q began (subst (Begins Q) mode_kept.0 short) below
        | inr whole ↦
            (let last = all_behind (λ b. b.epoch < l.epoch) (w.nodes n).log (stamped (w.nodes n).log l.epoch body ∷ []) (subst (AllBelow l.epoch) whole below) in
            absurd (let less = last.0 in omega arith))
      ]

  pub append_onto : Onto w g t (with_node w n (record (w.nodes n) { log = log }))
  append_onto =
      record {
        next = _;
        sets = with_began t l.epoch first;
        kept = led_kept w g n l.epoch (record (w.nodes n) { log = log }) l a.kept mode refl now;
        held = grown_held w g t a.sound a.held a.kept n l.epoch log first now.lawful now.had now.made is_first now.leads here now.elected kept_here old_first limit passed holds;
        led = grown_led w g t a.sound a.held a.kept n l.epoch log first now.lawful now.had now.made is_first now.leads here now.elected kept_here old_first limit passed holds a.led;
        own = own_grown g t l.epoch log first a.own only_own;
        grows = grows w g t a.sound a.held a.kept n l.epoch log first now.lawful now.had now.made is_first now.leads here now.elected kept_here old_first limit passed holds;
        began = began_later w g t a.sound a.held a.kept n l.epoch log first now.lawful now.had now.made is_first now.leads here now.elected kept_here old_first limit passed holds;
        committed = committed_grown w g t a.sound a.held a.kept n l.epoch log first now.lawful now.had now.made is_first now.leads here now.elected kept_here old_first limit passed holds;
        epoch = λ P p. inl (epoch_grown w g t a.sound a.held a.kept n l.epoch log first now.lawful now.had now.made is_first now.leads here now.elected kept_here old_first limit passed holds P p);
        stays = λ m P p b. Begins-trans b (log_grown w g t a.sound a.held a.kept n l.epoch log first now.lawful now.had now.made is_first now.leads here now.elected kept_here old_first limit passed holds m);
      }
