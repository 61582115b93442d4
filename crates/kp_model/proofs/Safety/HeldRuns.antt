-- Every run is safe.
use Rattle.std.proofs.Common.{◌≡◌, ℕ, zero, suc, ◌+◌, zero-add, ◌<◌, ◌≤◌, List, [], ◌∷◌, ◌++◌, length, take, Some, None, refl, sym, ap, ◌∙◌, subst, arith, inl, length-append, append_assoc}
use Rattle.std.specs.Prelude.{Contains, is_some, slice_index_or}
use Rattle.std.specs.List.{AllByRecursion}
use Rattle.std.proofs.lemmas.Bool.{false≢true}
use Rattle.std.proofs.lemmas.List.{length-take, length-drop, take-append-drop}
use Rattle.kp_model.specs.Beginning.{Begins}
use Rattle.kp_model.specs.Log.{Batch, width, end_of, Follow, IsLog}
use Rattle.kp_model.specs.World.{Node, World, start}
use Rattle.kp_model.specs.Run.{Moment, IsRun, Run, now, worlds, Among, IsOf, held, undone, IsSafe}
use Rattle.kp_model.specs.Step.{Step}
use Rattle.kp_model.proofs.Plain.Beginnings.{Begins-refl, Begins-nil, Begins-trans, Begins-length}
use Rattle.kp_model.proofs.Plain.Logs.{end_of-push, Follow-rest, IsLog-begins}
use Rattle.kp_model.proofs.Kinship.SoundLogs.{AllBelow, sound_start, step_keeps}
use Rattle.kp_model.proofs.InRuns.Runs.{among_each}
use Rattle.kp_model.proofs.Kinship.Ledger.{Grows, IsMade, made_begins}
use Rattle.kp_model.proofs.Kinship.Kin.{History, kept_start}
use Rattle.kp_model.proofs.Safety.Held.{Sets, IsCommitted, IsMark, IsHeld, committed_agree, committed_begins}
use Rattle.kp_model.proofs.Safety.HeldSteps.{shorter_by_end, idle_leads}
use Rattle.kp_model.proofs.Safety.HeldAgree.{held_is}
use Rattle.kp_model.proofs.Safety.HeldGrown.{made_to}
use Rattle.kp_model.proofs.Safety.HeldOnto.{AllKept, Onto, IsAt, at_then}
use Rattle.kp_model.proofs.Safety.HeldEvents.{step_onto}
use Rattle.kp_types.proofs.Elements.{all_weaker}

-- ---- the start

abbrev no_history : History
no_history = record { ledger = λ e. []; leader = λ e. 0 }

abbrev no_sets : Sets
no_sets = record { members = λ e. []; version = λ e. 0; began = λ e. None }

none_some : {A : Type 0} (x : A) → None ≡ Some x → ⊥
none_some x e = false≢true (ap is_some e)

nothing_held : (count : ℕ) → IsCommitted (start count) no_history no_sets []
nothing_held count = record { epoch = 0; sure = record { made = Begins-nil []; each = λ m i ne. inl refl }; live = λ m i top ne. inl refl; within = λ l e s. omega arith }

no_mark : (count : ℕ) → IsMark (start count) no_history no_sets [] 0
no_mark count = record { list = []; begins = Begins-nil []; ends = refl; committed = nothing_held count }

held_start : (count : ℕ) → IsHeld (start count) no_history no_sets
held_start count =
    record {
      requests = λ r s. absurd (none_some _ s.1);
      answers = λ a s. absurd (none_some _ s.1);
      marks = λ n. no_mark count;
      checkpoints = λ n. no_mark count;
      leads = λ n l e. absurd (idle_leads l e);
      ready = λ n l e. absurd (idle_leads l e);
      record_is = λ l e. absurd (none_some _ e);
      proposals = λ p s. absurd (none_some _ s.1);
      decisions = λ d s. absurd (none_some _ s.1);
      versions = λ e. omega arith;
      kept = λ n. omega arith;
      led_kept = λ e first o. absurd (none_some _ o);
      begun = λ e first o. absurd (none_some _ o);
      not_begun = λ e o. refl;
      later = λ e l. refl;
      joined = λ m e i before here. absurd (omega arith);
      passed_begun = λ e j first o lt. absurd (none_some _ o);
      passed_member = λ m e i moved. absurd (omega arith);
      leaders_hold = λ e j first P o lt p. absurd (none_some _ o);
      members_hold = λ m e P i moved p. absurd (omega arith);
    }

-- ---- all worlds of a run

-- what a node holds begins its log, and ends at its watermark
abbrev pub IsMarked : Node → Type 0
IsMarked x = Begins (held x) x.log × (end_of (held x) ≡ x.watermark)

marked : (w : World) (g : History) (t : Sets) → AllKept w g t → (n : ℕ) → IsMarked (w.nodes n)
marked w g t a n =
    subst (λ (P : List Batch). Begins P (w.nodes n).log × (end_of P ≡ (w.nodes n).watermark)) (sym (held_is w g t a.sound a.held n)) ((a.held.marks n).begins, (a.held.marks n).ends)

holds : (w : World) (g : History) (t : Sets) → AllKept w g t → (n : ℕ) → IsCommitted w g t (held (w.nodes n))
holds w g t a n = subst (IsCommitted w g t) (sym (held_is w g t a.sound a.held n)) (a.held.marks n).committed

-- all facts of a world of the run, and what of them holds in the last world
pub record WasHeld (u w : World) (g : History) (t : Sets) : Type 0 where
  pub history : History
  pub sets : Sets
  pub all : AllKept u history sets
  pub grows : Grows history.ledger g.ledger
  pub began : (e : ℕ) (first : List Batch) → sets.began e ≡ Some first → t.began e ≡ Some first
  pub committed : (P : List Batch) (c : IsCommitted u history sets P) → (d : IsCommitted w g t P) × IsAt P d.epoch c.epoch

held_now : (w : World) (g : History) (t : Sets) → AllKept w g t → WasHeld w w g t
held_now w g t a =
    record { history = g; sets = t; all = a; grows = λ e. Begins-refl (g.ledger e); began = λ e first o. o; committed = λ P c. (c, inl refl) }

held_later : (u w new : World) (g : History) (t : Sets) (o : Onto w g t new) → WasHeld u w g t → WasHeld u new o.next o.sets
held_later u w new g t o h =
    record {
      history = h.history;
      sets = h.sets;
      all = h.all;
      grows = λ e. Begins-trans (h.grows e) (o.grows e);
      began = λ e first b. o.began e first (h.began e first b);
      committed = λ P c. (let d = h.committed P c in
          (o.committed P d.0, at_then (o.committed P d.0).epoch d.0.epoch c.epoch P (o.epoch P d.0) d.1));
    }

-- one history serves all worlds so far: all that they hold is committed in the last one
pub record RunIsHeld (count : ℕ) (moments : List Moment) : Type 0 where
  pub history : History
  pub sets : Sets
  pub all : AllKept (now count moments) history sets
  pub each : AllByRecursion (λ u. WasHeld u (now count moments) history sets) (worlds count moments)

pub run_is_held : (count : ℕ) (moments : List Moment) → IsRun count moments → RunIsHeld count moments
run_is_held count [] r =
    let all : AllKept (start count) no_history no_sets = record { sound = sound_start count; kept = kept_start count; held = held_start count; led = λ l e. absurd (none_some _ e); own = λ e first Q o. absurd (none_some _ o) } in
    record { history = no_history; sets = no_sets; all = all; each = (held_now (start count) no_history no_sets all, tt) }
run_is_held count (m ∷ past) r =
    let before = run_is_held count past r.1 in
    let o = step_onto (now count past) before.history before.sets m.event m.outcome m.after before.all r.0 in
    let sound = step_keeps (now count past) m.event m.outcome m.after before.all.sound r.0 in
    let all : AllKept m.after o.next o.sets = record { sound = sound; kept = o.kept; held = o.held; led = o.led; own = o.own } in
    record {
      history = o.next;
      sets = o.sets;
      all = all;
      each = (
        held_now m.after o.next o.sets all,
        all_weaker (λ u. WasHeld u (now count past) before.history before.sets) (λ u. WasHeld u m.after o.next o.sets)
            (λ u h. held_later u (now count past) m.after before.history before.sets o h) (worlds count past) before.each,
      );
    }

pub was_held : (count : ℕ) (moments : List Moment) (h : RunIsHeld count moments) (u : World) → Among u (worlds count moments) → WasHeld u (now count moments) h.history h.sets
was_held count moments h u i = among_each (λ v. WasHeld v (now count moments) h.history h.sets) (worlds count moments) u h.each i

-- what a node of the run holds is committed in the last world
pub held_is_committed : (count : ℕ) (moments : List Moment) (h : RunIsHeld count moments) (u : World) → Among u (worlds count moments) → (n : ℕ) → IsCommitted (now count moments) h.history h.sets (held (u.nodes n))
held_is_committed count moments h u i n =
    let was = was_held count moments h u i in (was.committed (held (u.nodes n)) (holds u was.history was.sets was.all n)).0

pub marks_are_ends : (count : ℕ) (r : Run count) (w : World) → IsOf w r → (n : ℕ) → IsMarked (w.nodes n)
marks_are_ends count r w i n =
    let was = was_held count r.moments (run_is_held count r.moments r.is_run) w i in marked w was.history was.sets was.all n

-- ---- nothing held is undone

-- an element stands somewhere
record Standing (xs : List Batch) (b : Batch) : Type 0 where
  front : List Batch
  rest : List Batch
  is : xs ≡ front ++ b ∷ rest

standing : (xs : List Batch) (b : Batch) → Contains xs b → Standing xs b
standing xs b c = at xs c.0 c.1 c.2
  where
    at : (ys : List Batch) (k : ℕ) → k < length ys → slice_index_or ys k b ≡ b → Standing ys b
    at [] k l e = absurd (omega arith)
    at (y ∷ ys) zero l e = record { front = []; rest = ys; is = ap (λ (z : Batch). z ∷ ys) e }
    at (y ∷ ys) (suc k) l e = let s = at ys k (omega arith) e in record { front = y ∷ s.front; rest = s.rest; is = ap (λ (zs : List Batch). y ∷ zs) s.is }

-- no batch of a log has a higher epoch than its last one
last_highest : (offset epoch : ℕ) (front : List Batch) (b : Batch) → Follow offset epoch (front ++ b ∷ []) → epoch ≤ b.epoch
last_highest offset epoch [] b h = h.1
last_highest offset epoch (c ∷ cs) b h = let rest = last_highest (offset + width c) c.epoch cs b h.3 in let here = h.1 in omega arith

pub none_higher : (offset epoch : ℕ) (front : List Batch) (b : Batch) → Follow offset epoch (front ++ b ∷ []) → AllBelow (b.epoch + 1) (front ++ b ∷ [])
none_higher offset epoch [] b h = (omega arith, tt)
none_higher offset epoch (c ∷ cs) b h =
    (let top = last_highest (offset + width c) c.epoch cs b h.3 in omega arith, none_higher (offset + width c) c.epoch cs b h.3)

-- up to a batch, a made log is what was made in the batch's epoch
record Made (g : History) (front : List Batch) (b : Batch) : Type 0 where
  begins : Begins (front ++ b ∷ []) (g.ledger b.epoch)
  base : b.base ≡ end_of front

made_up_to : (g : History) (log front rest : List Batch) (b : Batch) → IsLog log → IsMade g.ledger log → log ≡ front ++ b ∷ rest → Made g front b
made_up_to g log front rest b lawful made is =
    let begins : Begins (front ++ b ∷ []) log = record { rest = rest; is = append_assoc front (b ∷ []) rest ∙ sym is } in
    let up : IsLog (front ++ b ∷ []) = IsLog-begins begins lawful in
    let tail = Follow-rest 0 0 front (b ∷ []) up in
    record { begins = made_to g.ledger log front b made begins (none_higher 0 0 front b up); base = tail.0 ∙ zero-add (end_of front) }

not_undone : (w : World) (g : History) (t : Sets) → AllKept w g t → (new : World) → Onto w g t new → (P : List Batch) → IsCommitted w g t P → (n : ℕ) (b : Batch) → Contains P b → Contains (undone w new n) b → ⊥
not_undone w g t a new o P c n b p u =
    let old = (w.nodes n).log in
    let left = (new.nodes n).log in
    let sp = standing P b p in
    let su = standing (undone w new n) b u in
    let mp = made_up_to g P sp.front sp.rest b (IsLog-begins c.sure.made (a.kept.logs c.epoch)) (made_begins g.ledger c.sure.made (a.kept.made c.epoch)) sp.is in
    let kept = take (length left) old in
    let split : old ≡ (kept ++ su.front) ++ b ∷ su.rest =
    sym (take-append-drop (length left) old) ∙ ap (λ (k : List Batch). kept ++ k) su.is ∙ sym (append_assoc kept su.front (b ∷ su.rest)) in
    let mu = made_up_to g old (kept ++ su.front) su.rest b (a.sound.nodes n).log (a.kept.nodes n).made split in
    let ends : end_of (sp.front ++ b ∷ []) ≡ end_of ((kept ++ su.front) ++ b ∷ []) =
    end_of-push sp.front b ∙ ap (λ (k : ℕ). k + width b) (sym mp.base ∙ mu.base) ∙ sym (end_of-push (kept ++ su.front) b) in
    let there : Begins (sp.front ++ b ∷ []) ((kept ++ su.front) ++ b ∷ []) = shorter_by_end _ _ (g.ledger b.epoch) (a.kept.logs b.epoch) mp.begins mu.begins (omega arith) in
    let back : Begins ((kept ++ su.front) ++ b ∷ []) (sp.front ++ b ∷ []) = shorter_by_end _ _ (g.ledger b.epoch) (a.kept.logs b.epoch) mu.begins mp.begins (omega arith) in
    let here : Begins ((kept ++ su.front) ++ b ∷ []) old = record { rest = su.rest; is = append_assoc (kept ++ su.front) (b ∷ []) su.rest ∙ sym split } in
    let first : Begins (sp.front ++ b ∷ []) P = record { rest = sp.rest; is = append_assoc sp.front (b ∷ []) sp.rest ∙ sym sp.is } in
    let stays = o.stays n (sp.front ++ b ∷ []) (committed_begins w g t P (sp.front ++ b ∷ []) first c) (Begins-trans there here) in
    let short = Begins-length stays in
    let long = Begins-length back in
    let wide = length-append (kept ++ su.front) (b ∷ []) in
    let parts = length-append kept su.front in
    let taken = length-take (length left) old in
    let dropped = length-drop (length left) old in
    let some = ap length su.is in
    let sum = length-append su.front (b ∷ su.rest) in
    omega arith

-- the run up to a moment
pub run_until : (count : ℕ) (later past : List Moment) (m : Moment) → IsRun count (later ++ m ∷ past) → Step (now count past) m.event m.outcome m.after × IsRun count past
run_until count [] past m r = r
run_until count (x ∷ later) past m r = run_until count later past m r.1

pub runs_are_safe : (count : ℕ) (r : Run count) → IsSafe r
runs_are_safe count r =
    record {
      agree = λ v w n m iv iw.
          (let run = run_is_held count r.moments r.is_run in
          committed_agree (now count r.moments) run.history run.sets run.all.held (held (v.nodes n)) (held (w.nodes m))
          (held_is_committed count r.moments run v iv n) (held_is_committed count r.moments run w iw m));
      stays = λ later past m is w holder n b i p u.
          (let until = run_until count later past m (subst (IsRun count) is r.is_run) in
          let run = run_is_held count past until.1 in
          let o = step_onto (now count past) run.history run.sets m.event m.outcome m.after run.all until.0 in
          not_undone (now count past) run.history run.sets run.all m.after o (held (w.nodes holder)) (held_is_committed count past run w i holder) n b p u);
    }
