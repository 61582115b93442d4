-- The logs that the leaders made, by their epochs, and why every log agrees with them.
use Rattle.std.proofs.Common.{◌≡◌, ◌⊎◌, ℕ, ◌+◌, ◌<◌, ◌≤◌, true, false, cond, eqb, leb, List, [], ◌∷◌, ◌++◌, refl, sym, ap, ◌∙◌, subst, append-nil, arith, inl, inr}
use Rattle.std.specs.Prelude.{IsTrue}
use Rattle.std.proofs.lemmas.Bool.{cases_eq, le-leb, lt-leb, eqb-true, eq-eqb, ne_eqb, or_cases, or_left, or_right}
use Rattle.std.proofs.lemmas.List.Elements.{filter-append}
use Rattle.kp_model.specs.Beginning.{Begins}
use Rattle.kp_model.specs.Log.{Batch, width, end_of, Follow, IsLog, occurs, up_to, from_offset, IsKin}
use Rattle.kp_model.specs.World.{Request}
use Rattle.kp_model.specs.Fetching.{piece, at_least_one}
use Rattle.kp_model.proofs.Plain.Beginnings.{Begins-refl, Begins-trans, Begins-after, Begins-agree}
use Rattle.kp_model.proofs.Plain.FetchLimit.{at_least_one_begins}
use Rattle.kp_model.proofs.Plain.Logs.{end_of-append, end_of-cons, Follow-front, Follow-rest, last_epoch_or, IsLog-begins}
use Rattle.kp_model.proofs.Kinship.SoundLogs.{AllBelow}

-- each log that a leader made, by its epoch
abbrev pub Ledger : Type 0
Ledger = ℕ → List Batch

-- up to the last batch of each epoch that it has, the log is what that epoch's leader made
abbrev pub IsMade : Ledger → List Batch → Type 0
IsMade ledger log = (epoch : ℕ) → IsTrue (occurs epoch log) → Begins (up_to epoch log) (ledger epoch)

-- two such logs are kin
pub made_kin : (ledger : Ledger) (one other : List Batch) → IsMade ledger one → IsMade ledger other → IsKin one other
made_kin ledger one other p q epoch a b = Begins-agree (p epoch a) (q epoch b)

abbrev pub Grows : Ledger → Ledger → Type 0
Grows old new = (epoch : ℕ) → Begins (old epoch) (new epoch)

pub made_later : (old new : Ledger) (log : List Batch) → Grows old new → IsMade old log → IsMade new log
made_later old new log g p epoch a = Begins-trans (p epoch a) (g epoch)

-- ---- beginnings

pub occurs_front : (epoch : ℕ) (front rest : List Batch) → IsTrue (occurs epoch front) → IsTrue (occurs epoch (front ++ rest))
occurs_front epoch [] rest h = absurd cc
occurs_front epoch (b ∷ bs) rest h =
    elim (or_cases (eqb b.epoch epoch) (occurs epoch bs) h) [
      | inl here ↦ or_left (eqb b.epoch epoch) (occurs epoch (bs ++ rest)) here
      | inr later ↦ or_right (eqb b.epoch epoch) (occurs epoch (bs ++ rest)) (occurs_front epoch bs rest later)
    ]

pub up_to-begins : (epoch : ℕ) {front log : List Batch} → Begins front log → Begins (up_to epoch front) (up_to epoch log)
up_to-begins epoch {front} {log} p =
    record {
      rest = up_to epoch p.rest;
      is = sym (filter-append (λ b. leb b.epoch epoch) front p.rest) ∙ ap (up_to epoch) p.is;
    }

pub made_begins : (ledger : Ledger) {front log : List Batch} → Begins front log → IsMade ledger log → IsMade ledger front
made_begins ledger {front} {log} p h epoch a =
    Begins-trans (up_to-begins epoch p) (h epoch (subst (λ (l : List Batch). IsTrue (occurs epoch l)) p.is (occurs_front epoch front p.rest a)))

-- ---- one batch more

pub up_to_all : (epoch : ℕ) (log : List Batch) → AllBelow (epoch + 1) log → up_to epoch log ≡ log
up_to_all epoch [] h = refl
up_to_all epoch (b ∷ bs) h =
    let here : leb b.epoch epoch ≡ true = le-leb b.epoch epoch (omega arith) in
    rw here (ap (λ (l : List Batch). b ∷ l) (up_to_all epoch bs h.1))

occurs_below : (epoch bound : ℕ) (log : List Batch) → AllBelow bound log → IsTrue (occurs epoch log) → epoch < bound
occurs_below epoch bound [] h a = absurd cc
occurs_below epoch bound (b ∷ bs) h a =
    elim (or_cases (eqb b.epoch epoch) (occurs epoch bs) a) [
      | inl here ↦ omega (arith, eqb-true b.epoch epoch here)
      | inr later ↦ occurs_below epoch bound bs h.1 later
    ]

occurs_push : (epoch : ℕ) (log : List Batch) (b : Batch) → IsTrue (occurs epoch (log ++ b ∷ [])) → IsTrue (occurs epoch log) ⊎ (b.epoch ≡ epoch)
occurs_push epoch [] b h =
    elim (or_cases (eqb b.epoch epoch) false h) [ inl here ↦ inr (eqb-true b.epoch epoch here) | inr never ↦ absurd cc ]
occurs_push epoch (c ∷ cs) b h =
    elim (or_cases (eqb c.epoch epoch) (occurs epoch (cs ++ b ∷ [])) h) [
      | inl here ↦ inl (or_left (eqb c.epoch epoch) (occurs epoch cs) here)
      | inr later ↦
          elim (occurs_push epoch cs b later) [
            | inl q ↦ inl (or_right (eqb c.epoch epoch) (occurs epoch cs) q)
            | inr q ↦ inr q
          ]
    ]

-- the ledger with another log for an epoch
abbrev pub with_log : Ledger → ℕ → List Batch → Ledger
with_log ledger epoch log = λ e. cond (eqb e epoch) log (ledger e)

pub with_log_at : (ledger : Ledger) (epoch : ℕ) (log : List Batch) → with_log ledger epoch log epoch ≡ log
with_log_at ledger epoch log = let here : eqb epoch epoch ≡ true = eq-eqb epoch epoch refl in rw here refl

pub with_log_other : (ledger : Ledger) (epoch : ℕ) (log : List Batch) (e : ℕ) → (e ≡ epoch → ⊥) → with_log ledger epoch log e ≡ ledger e
with_log_other ledger epoch log e ne = let there : eqb e epoch ≡ false = ne_eqb e epoch ne in rw there refl

pub with_log_grows : (ledger : Ledger) (epoch : ℕ) (log : List Batch) → Begins (ledger epoch) log → Grows ledger (with_log ledger epoch log)
with_log_grows ledger epoch log p e =
    elim (cases_eq e epoch) [
      | inl same ↦ subst (λ (k : ℕ). Begins (ledger k) (with_log ledger epoch log k)) (sym same)
          (subst (λ (l : List Batch). Begins (ledger epoch) l) (sym (with_log_at ledger epoch log)) p)
      | inr ne ↦ subst (λ (l : List Batch). Begins (ledger e) l) (sym (with_log_other ledger epoch log e ne)) (Begins-refl (ledger e))
    ]

-- a leader's batch, at the end of what it made
pub made_push : (ledger : Ledger) (epoch : ℕ) (log : List Batch) (b : Batch) → b.epoch ≡ epoch → AllBelow (epoch + 1) log → log ≡ ledger epoch → IsMade ledger log
    → IsMade (with_log ledger epoch (log ++ b ∷ [])) (log ++ b ∷ [])
made_push ledger epoch log b be below is h e a =
    elim (cases_eq e epoch) [
      | inl same ↦
          (let whole : up_to epoch (log ++ b ∷ []) ≡ log ++ b ∷ [] = up_to_all epoch (log ++ b ∷ []) (each_push log below) in
          subst (λ (k : ℕ). Begins (up_to k (log ++ b ∷ [])) (with_log ledger epoch (log ++ b ∷ []) k)) (sym same)
          (rw (whole, with_log_at) (Begins-refl (log ++ b ∷ []))))
      | inr ne ↦
          elim (occurs_push e log b a) [
            | inr new ↦ absurd (ne (sym new ∙ be))
            | inl old ↦
                (let lower = occurs_below e (epoch + 1) log below old in
                let skipped : leb b.epoch e ≡ false = lt-leb b.epoch e (omega arith) in
                let cut : up_to e (log ++ b ∷ []) ≡ up_to e log =
                filter-append (λ c. leb c.epoch e) log (b ∷ []) ∙ rw skipped (append-nil (up_to e log)) in
                rw (cut, with_log_other ledger epoch (log ++ b ∷ []) e ne) (h e old))
          ]
    ]
  where
    each_push : (l : List Batch) → AllBelow (epoch + 1) l → AllBelow (epoch + 1) (l ++ b ∷ [])
    each_push [] h = (omega arith, tt)
    each_push (c ∷ cs) h = (h.0, each_push cs h.1)

-- ---- what an answer with batches adds

each_width : (offset epoch : ℕ) (b : Batch) (bs : List Batch) → Follow offset epoch (b ∷ bs) → 0 < width b
each_width offset epoch b bs h = h.2.some

-- no batch of a log starts at its end or after
pub from_end : (offset epoch : ℕ) (log : List Batch) (end : ℕ) → Follow offset epoch log → offset + end_of log ≤ end → from_offset end log ≡ []
from_end offset epoch [] end h l = refl
from_end offset epoch (b ∷ bs) end h l =
    let wide = each_width offset epoch b bs h in
    let sum = end_of-cons b bs in
    let earlier : leb end b.base ≡ false = lt-leb end b.base (omega (arith, h.0)) in
    rw earlier (from_end (offset + width b) b.epoch bs end h.3 (omega arith))

-- all batches that follow an offset start from it on
pub from_start : (offset epoch : ℕ) (log : List Batch) (end : ℕ) → Follow offset epoch log → end ≤ offset → from_offset end log ≡ log
from_start offset epoch [] end h l = refl
from_start offset epoch (b ∷ bs) end h l =
    let later : leb end b.base ≡ true = le-leb end b.base (omega (arith, h.0)) in
    rw later (ap (λ (s : List Batch). b ∷ s) (from_start (offset + width b) b.epoch bs end h.3 (omega arith)))

-- the batches of a longer log from where a beginning of it ends
pub from_front : (front rest : List Batch) → IsLog (front ++ rest) → from_offset (end_of front) (front ++ rest) ≡ rest
from_front front rest h =
    let tail = Follow-rest 0 0 front rest h in
    filter-append (λ b. leb (end_of front) b.base) front rest
    ∙ rw (from_end 0 0 front (end_of front) (Follow-front 0 0 front rest h) (omega arith)) (from_start (0 + end_of front) (last_epoch_or 0 front) rest (end_of front) tail (omega arith))

-- Two beginnings of one log: what the second adds to the first still begins the log.
pub grown_begins : (log other whole : List Batch) (r : Request) → IsLog whole → Begins log whole → Begins other whole → end_of log ≡ end_of r.log → Begins (log ++ piece other r) whole
grown_begins log other whole r h p q e =
    elim (Begins-agree p q) [
      | inl shorter ↦
          (let longer : IsLog (log ++ shorter.rest) = subst IsLog (sym shorter.is) (IsLog-begins q h) in
          let from : from_offset (end_of r.log) other ≡ shorter.rest =
          ap (λ (n : ℕ). from_offset n other) (sym e) ∙ ap (from_offset (end_of log)) (sym shorter.is) ∙ from_front log shorter.rest longer in
          let added : Begins (piece other r) shorter.rest =
          subst (λ (s : List Batch). Begins (at_least_one (from_offset (end_of r.log) other)) s) from (at_least_one_begins (from_offset (end_of r.log) other)) in
          let both : Begins (log ++ piece other r) other =
          subst (λ (s : List Batch). Begins (log ++ piece other r) s) shorter.is (Begins-after log added) in
          Begins-trans both q)
      | inr longer ↦
          (let short : end_of other ≤ end_of log = omega (arith, end_of-append other longer.rest, ap end_of longer.is) in
          let none : from_offset (end_of r.log) other ≡ [] =
          ap (λ (n : ℕ). from_offset n other) (sym e) ∙ from_end 0 0 other (end_of log) (IsLog-begins q h) (omega arith) in
          let same : log ++ piece other r ≡ log =
          ap (λ (s : List Batch). log ++ at_least_one s) none ∙ append-nil log in
          subst (λ (s : List Batch). Begins s whole) (sym same) p)
    ]
