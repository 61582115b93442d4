-- A batch that a duplicate repeats stands in the log.
use Rattle.std.proofs.Common.{◌≡◌, ℕ, ◌+◌, ◌-◌, ◌<◌, ◌≤◌, Bool, true, false, cond, ◌&&◌, eqb, leb, ltb, List, [], ◌∷◌, take, Option, Some, None, refl, sym, ap, ◌∙◌, subst, arith, inl, inr}
use Rattle.std.specs.Prelude.{reverse, Contains, length, not, is_some}
use Rattle.std.proofs.lemmas.List.Sums.{sum_by-cons}
use Rattle.kp_record.specs.Record.{Record}
use Rattle.std.specs.List.{AllByRecursion, filter, filter_map, take_while}
use Rattle.std.specs.Option.{option_map, option_map_or}
use Rattle.std.proofs.lemmas.Bool.{cases_Bool, le-leb, lt-ltb, le-ltb, eqb-true, and_parts, ltb-false, ltb-true, leb-true}
use Rattle.kp_types.specs.declared.refusal.Refusal.TheVariants.{InvalidProducerEpoch, OutOfOrderSequence, InvalidTxnState}
use Rattle.kp_batch.specs.Batch.{Body, Content, Plain, Produced, Marker}
use Rattle.kp_model.specs.Log.{Batch, Follow, IsLog, width, next_offset, end_of}
use Rattle.kp_model.specs.Lookups.{batch_at}
use Rattle.kp_model.specs.Producers.{Producer, Kept, content_of, is_of, has_producer_epoch, kept_from, newest_of, recent_of, producer_epoch, coordinator_of, producer_in, sequence_after}
use Rattle.kp_model.specs.Transactions.{open_of}
use Rattle.kp_model.specs.Admission.{Append, Duplicate, Refused, admit, admit_content, of_known, in_turn, from_zero, same_sequences, next_sequence}
use Rattle.kp_replica.specs.Replies.{Claim, claim_of}
use Rattle.kp_replica.proofs.Elements.{all_reverse, all_take_while, all_take, all_filter_map}
use Rattle.kp_types.proofs.Elements.{all_weaker, all_both, all_filter, all_itself, all_find}

-- ---- each batch of a log is the one at its base offset

abbrev IsAt : ℕ → List Batch → Batch → Type 0
IsAt offset log b = (offset ≤ b.base) × (batch_at log b.base ≡ Some b)

here : (b : Batch) (bs : List Batch) → 0 < width b → batch_at (b ∷ bs) b.base ≡ Some b
here b bs some = rw (le-leb b.base b.base (omega arith), lt-ltb b.base (next_offset b) (omega arith)) refl

later : (b c : Batch) (bs : List Batch) → next_offset b ≤ c.base → batch_at (b ∷ bs) c.base ≡ batch_at bs c.base
later b c bs behind = rw (le-leb b.base c.base (omega arith), le-ltb c.base (next_offset b) behind) refl

pub each_at : (offset epoch : ℕ) (log : List Batch) → Follow offset epoch log → AllByRecursion (IsAt offset log) log
each_at offset epoch [] h = tt
each_at offset epoch (b ∷ bs) h =
    let some : 0 < width b = h.2.some in
    let base : b.base ≡ offset = h.0 in (
      (omega arith, here b bs some),
      all_weaker (IsAt (offset + width b) bs) (IsAt offset (b ∷ bs))
          (λ c at. let behind : offset + width b ≤ c.base = at.0 in (omega arith, later b c bs (omega arith) ∙ at.1)) bs (each_at (offset + width b) b.epoch bs h.3),
    )

-- and lies below the log's end
each_below : (offset epoch : ℕ) (log : List Batch) → Follow offset epoch log → AllByRecursion (λ b. next_offset b ≤ offset + end_of log) log
each_below offset epoch [] h = tt
each_below offset epoch (b ∷ bs) h =
    let base : b.base ≡ offset = h.0 in
    let longer : end_of (b ∷ bs) ≡ width b + end_of bs = sum_by-cons width b bs in (
      omega (arith, longer),
      all_weaker (λ c. next_offset c ≤ (offset + width b) + end_of bs) (λ c. next_offset c ≤ offset + end_of (b ∷ bs)) (λ c at. omega (arith, at, longer)) bs
          (each_below (offset + width b) b.epoch bs h.3),
    )

-- an offset at which a batch is found lies below the log's end
pub below_end : (log : List Batch) (offset : ℕ) (b : Batch) → IsLog log → batch_at log offset ≡ Some b → offset < end_of log
below_end log offset b lawful e =
    let found = all_find (λ b. leb b.base offset && ltb offset (next_offset b)) (λ b. next_offset b ≤ 0 + end_of log) log b (each_below 0 0 log lawful) e in
    let tests = and_parts (leb b.base offset) (ltb offset (next_offset b)) found.1 in
    omega (arith, found.0, ltb-true offset (next_offset b) tests.1)

pub base_at : (log : List Batch) (offset : ℕ) (b : Batch) → batch_at log offset ≡ Some b → b.base ≤ offset
base_at log offset b e =
    let found = all_find (λ b. leb b.base offset && ltb offset (next_offset b)) (λ b. Unit {0}) log b (all_nothing log) e in
    leb-true b.base offset (and_parts (leb b.base offset) (ltb offset (next_offset b)) found.1).0
  where
    all_nothing : (log : List Batch) → AllByRecursion (λ b. Unit {0}) log
    all_nothing [] = tt
    all_nothing (b ∷ bs) = (tt, all_nothing bs)

-- ---- a kept batch stands in the log

-- the batch of the log that this one was kept of
pub record IsKeptOf (log : List Batch) (producer epoch : ℕ) (k : Kept) : Type 0 where
  pub batch : Batch
  pub stands : Contains log batch
  pub at : batch_at log batch.base ≡ Some batch
  pub own : is_of producer batch ≡ true
  pub in_epoch : has_producer_epoch epoch batch ≡ true
  pub kept : kept_from batch (content_of batch) ≡ Some k

pub recent_stand : (log : List Batch) (producer epoch : ℕ) → IsLog log → AllByRecursion (IsKeptOf log producer epoch) (recent_of producer epoch log)
recent_stand log producer epoch lawful =
    let all = all_both (Contains log) (IsAt 0 log) log (all_itself log) (each_at 0 0 log lawful) in
    let own = all_reverse _ (filter (is_of producer) log) (all_filter (is_of producer) _ log all) in
    let in_epoch = all_take_while (has_producer_epoch epoch) _ (newest_of producer log) own in
    let stretch = take_while (has_producer_epoch epoch) (newest_of producer log) in
    let kept = all_filter_map (λ b. kept_from b (content_of b)) _ stretch in_epoch in
    let last = take 5 (filter_map (λ b. kept_from b (content_of b)) stretch) in
    all_weaker _ (IsKeptOf log producer epoch)
    (λ k c. record {
      batch = c.element;
      stands = c.holds.0.0.0;
      at = c.holds.0.0.1.1;
      own = c.holds.0.1;
      in_epoch = c.holds.1;
      kept = c.gives;
    }) (reverse last) (all_reverse _ last (all_take _ 5 (filter_map (λ b. kept_from b (content_of b)) stretch) kept))

-- ---- what it says of its producer

abbrev claim_at : ℕ → ℕ → Kept → Claim
claim_at producer epoch k = record { producer = producer; epoch = epoch; first = k.first; last = k.last }

claim_is : (b : Batch) (producer epoch : ℕ) (k : Kept) → is_of producer b ≡ true → has_producer_epoch epoch b ≡ true → kept_from b (content_of b) ≡ Some k →
    (claim_of b.body ≡ Some (claim_at producer epoch k)) × (b.base ≡ k.base)
claim_is b producer epoch k own in_epoch kept = by_content b.body.content refl
  where
    by_content : (content : Content) → b.body.content ≡ content → (claim_of b.body ≡ Some (claim_at producer epoch k)) × (b.base ≡ k.base)
    by_content (Plain records) e =
        let none : None ≡ Some k = rw e at kept in
        absurd cc
    by_content (Produced p q s t records) e =
        let same_producer : p ≡ producer = eqb-true p producer (rw e at own) in
        let same_epoch : q ≡ epoch = eqb-true q epoch (rw e at in_epoch) in
        let x : Kept = record { first = s; last = sequence_after s (length records - 1); base = b.base } in
        let is : Some x ≡ Some k = rw e at kept in
        let k_is : x ≡ k = cc in
        let said : claim_of b.body ≡ Some (claim_at p q x) = rw e refl in (
          said ∙ ap (λ (n : ℕ). Some (claim_at n q x)) same_producer ∙ ap (λ (n : ℕ). Some (claim_at producer n x)) same_epoch
              ∙ ap (λ (y : Kept). Some (claim_at producer epoch y)) k_is,
          ap (λ (y : Kept). y.base) k_is,
        )
    by_content (Marker p q c t) e =
        let none : None ≡ Some k = rw e at kept in
        absurd cc

-- ---- what the table's duplicate is

not_zero : (sequence base : ℕ) → from_zero sequence ≡ Duplicate base → ⊥
not_zero sequence base e = elim (cases_Bool (eqb sequence 0)) [
  | inl t ↦ let d : Append ≡ Duplicate base = rw t at e in cc
  | inr f ↦ let d = rw f at e in cc
]

not_turn : (p : Producer) (ongoing : Bool) (sequence base : ℕ) (transactional : Bool) → in_turn p ongoing sequence transactional ≡ Duplicate base → ⊥
not_turn p ongoing sequence base transactional e =
    by_cases (not (eqb sequence (next_sequence p))) (ongoing && not transactional) e
  where
    by_cases : (a b : Bool) → cond a (Refused OutOfOrderSequence) (cond b (Refused InvalidTxnState) Append) ≡ Duplicate base → ⊥
    by_cases true b e = cc
    by_cases false true e = cc
    by_cases false false e = cc

-- The kept batch with these sequences, of the producer's own epoch.
record IsFound (p : Producer) (epoch first last base : ℕ) : Type 0 where
  pub kept : Kept
  pub found : same_sequences first last p ≡ Some kept
  pub in_epoch : epoch ≡ p.epoch
  pub base_is : kept.base ≡ base

known_found : (p : Producer) (ongoing : Bool) (epoch first last base : ℕ) (transactional : Bool) → of_known p ongoing epoch first last transactional ≡ Duplicate base → IsFound p epoch first last base
known_found p ongoing epoch first last base transactional e =
    by_epoch (ltb epoch p.epoch) refl (ltb p.epoch epoch) refl (same_sequences first last p) refl e
  where
    by_epoch : (below : Bool) → ltb epoch p.epoch ≡ below → (above : Bool) → ltb p.epoch epoch ≡ above → (o : Option Kept) → same_sequences first last p ≡ o
        → cond below (Refused InvalidProducerEpoch) (cond above (cond ongoing (Refused InvalidTxnState) (from_zero first)) (option_map_or (λ k. Duplicate k.base) o (in_turn p ongoing first transactional))) ≡ Duplicate base
        → IsFound p epoch first last base
    by_epoch true b above a o s e = absurd cc
    by_epoch false b true a o s e = absurd (not_higher ongoing e)
      where
        not_higher : (ongoing : Bool) → cond ongoing (Refused InvalidTxnState) (from_zero first) ≡ Duplicate base → ⊥
        not_higher true e = cc
        not_higher false e = not_zero first base e
    by_epoch false b false a None s e = absurd (not_turn p ongoing first base transactional e)
    by_epoch false b false a (Some k) s e =
        record {
          kept = k;
          found = s;
          in_epoch = omega (arith, ltb-false epoch p.epoch b, ltb-false p.epoch epoch a);
          base_is = cc;
        }

recent_is : (log : List Batch) (producer : ℕ) (p : Producer) → producer_in log producer ≡ Some p → p.recent ≡ recent_of producer p.epoch log
unfolding producer_in
recent_is log producer p e = by_epoch (producer_epoch producer log) e
  where
    by_epoch : (o : Option ℕ) → option_map (λ epoch. let x : Producer = record { epoch = epoch; recent = recent_of producer epoch log; coordinator = coordinator_of producer log } in x) o ≡ Some p → p.recent ≡ recent_of producer p.epoch log
    by_epoch None e = absurd cc
    by_epoch (Some epoch) e =
        let x : Producer = record { epoch = epoch; recent = recent_of producer epoch log; coordinator = coordinator_of producer log } in
        let same : x ≡ p = cc in
        subst (λ (y : Producer). y.recent ≡ recent_of producer y.epoch log) same refl

-- the batch that a duplicate repeats: it is the one at this offset, and says the same of its producer
pub record IsRepeated (log : List Batch) (body : Body) (base : ℕ) : Type 0 where
  pub batch : Batch
  pub stands : Contains log batch
  pub at : batch_at log base ≡ Some batch
  pub base_is : batch.base ≡ base
  pub claim : Claim
  pub there : claim_of batch.body ≡ Some claim
  pub again : claim_of body ≡ Some claim

repeated_by : (log : List Batch) (body : Body) (base producer epoch first last : ℕ) (p : Producer) → IsLog log → producer_in log producer ≡ Some p → IsFound p epoch first last base
    → claim_of body ≡ Some (record { producer = producer; epoch = epoch; first = first; last = last }) → IsRepeated log body base
repeated_by log body base producer epoch first last p lawful known f claimed =
    let all = subst (AllByRecursion (IsKeptOf log producer p.epoch)) (sym (recent_is log producer p known)) (recent_stand log producer p.epoch lawful) in
    let found = all_find (λ k. eqb k.first first && eqb k.last last) (IsKeptOf log producer p.epoch) p.recent f.kept all f.found in
    let of = found.0 in
    let sequences = and_parts (eqb f.kept.first first) (eqb f.kept.last last) found.1 in
    let said = claim_is of.batch producer p.epoch f.kept of.own of.in_epoch of.kept in
    let here : of.batch.base ≡ base = said.1 ∙ f.base_is in
    record {
      batch = of.batch;
      stands = of.stands;
      at = subst (λ (n : ℕ). batch_at log n ≡ Some of.batch) here of.at;
      base_is = here;
      claim = record { producer = producer; epoch = epoch; first = first; last = last };
      there =
          said.0
          ∙ rw (sym f.in_epoch, eqb-true f.kept.first first sequences.0, eqb-true f.kept.last last sequences.1) refl;
      again = claimed;
    }

pub duplicate_stands : (log : List Batch) (body : Body) (base : ℕ) → IsLog log → admit log body.content ≡ Duplicate base → IsRepeated log body base
unfolding admit
duplicate_stands log body base lawful e = by_content body.content refl e
  where
    by_known : (producer epoch sequence : ℕ) (transactional : Bool) (records : List Record) → body.content ≡ Produced producer epoch sequence transactional records
        → (o : Option Producer) → producer_in log producer ≡ o
        → option_map_or (λ p. of_known p (is_some (open_of log producer)) epoch sequence (sequence_after sequence (length records - 1)) transactional) o (from_zero sequence) ≡ Duplicate base
        → IsRepeated log body base
    by_known producer epoch sequence transactional records is None known e = absurd (not_zero sequence base e)
    by_known producer epoch sequence transactional records is (Some p) known e =
        repeated_by log body base producer epoch sequence (sequence_after sequence (length records - 1)) p lawful known
        (known_found p (is_some (open_of log producer)) epoch sequence (sequence_after sequence (length records - 1)) base transactional e)
        (rw is refl)

    by_content : (content : Content) → body.content ≡ content → admit_content log content ≡ Duplicate base → IsRepeated log body base
    by_content (Plain records) is e = absurd cc
    by_content (Produced producer epoch sequence transactional records) is e =
        by_known producer epoch sequence transactional records is (producer_in log producer) refl e
    by_content (Marker producer epoch coordinator commit) is e = absurd cc
