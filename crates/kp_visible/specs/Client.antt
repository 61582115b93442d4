-- What an answer to a read-committed fetch names of the aborted transactions, and what a client makes of the answer, at which alone it
-- looks (KIP-98; Kafka protocol guide, Fetch, 'aborted_transactions').
use Rattle.std.specs.Prelude.{ℕ, nat_lt, nat_le, ◌==◌, ◌&&◌, not, Bool, true, false, List, [], ◌∷◌, ◌++◌, map, if◌then◌else◌}
use Rattle.std.specs.List.{filter, list_any}
use Rattle.kp_batch.specs.Batch.{Content, Plain, Produced, Marker}
use Rattle.kp_model.specs.Log.{Batch, last_offset, next_offset}
use Rattle.kp_model.specs.Producers.{content_of, is_of}
use Rattle.kp_model.specs.Transactions.{Aborted, is_abort}

-- ---- what the answer names

-- it began below the end, and its marker stands at the start or above
abbrev pub overlaps : ℕ → ℕ → Aborted → Bool
overlaps start end a = nat_lt a.first end && nat_le start a.marker

-- the offset after the last of the batches; where there is none, this one
abbrev pub end_after : ℕ → List Batch → ℕ
end_after offset [] = offset
end_after offset (b ∷ batches) = end_after (next_offset b) batches

-- Those that overlap the batches, from the base offset of the first to the end of the last. (No marker lies between that base offset and
-- another offset of the first batch, so it is the same from the offset that was asked for.)
abbrev pub overlapping : List Batch → List Aborted → List Aborted
overlapping [] aborted = []
overlapping (b ∷ batches) aborted = filter (overlaps b.base (end_after (next_offset b) batches)) aborted

-- what is named of one: its producer, and its first offset
abbrev pub named : Aborted → ℕ × ℕ
named a = (a.producer, a.first)

-- ---- what a client makes of it

-- an abort marker of the producer's, from one offset on and below another
abbrev pub aborts_between : ℕ → ℕ → ℕ → Batch → Bool
aborts_between producer first offset m =
    (is_abort (content_of m) && is_of producer m) && (nat_le first m.base && nat_lt m.base offset)

-- the entry names a transaction of the producer's that began at or below the offset, and no abort marker among the batches ended it since
abbrev pub drops : List Batch → ℕ → ℕ → ℕ × ℕ → Bool
drops batches producer offset entry =
    ((entry.0 == producer) && nat_le entry.1 offset) && not (list_any (aborts_between producer entry.1 offset) batches)

abbrev pub keeps_at : List (ℕ × ℕ) → List Batch → ℕ → Content → Bool
keeps_at entries batches offset (Plain records) = true
keeps_at entries batches offset (Produced producer epoch sequence transactional records) =
    not (transactional && list_any (drops batches producer offset) entries)
keeps_at entries batches offset (Marker producer epoch coordinator commit) = false

-- what is left of the batches: data that isn't transactional, or that no entry drops
abbrev pub kept : List (ℕ × ℕ) → List Batch → List Batch
kept entries batches = filter (λ b. keeps_at entries batches b.base (content_of b)) batches

-- ---- the same by the transactions themselves, with their markers

-- it is the producer's, began at or below the offset, and ends above it
abbrev pub spans : ℕ → ℕ → Aborted → Bool
spans producer offset a = ((a.producer == producer) && nat_le a.first offset) && nat_lt offset a.marker

abbrev pub is_clear_at : List Aborted → ℕ → Content → Bool
is_clear_at aborted offset (Plain records) = true
is_clear_at aborted offset (Produced producer epoch sequence transactional records) = not (transactional && list_any (spans producer offset) aborted)
is_clear_at aborted offset (Marker producer epoch coordinator commit) = false

-- data that isn't transactional, or that none of these spans
abbrev pub is_clear : List Aborted → Batch → Bool
is_clear aborted b = is_clear_at aborted b.base (content_of b)

-- ---- a client as it is programmed: Kafka's own consumer, which keeps the entries in a queue by first offset

-- the producers that it has noted, once it has seen a batch of this content: an abort marker takes its producer out
abbrev pub noted_after : Content → List ℕ → List ℕ
noted_after (Plain records) producers = producers
noted_after (Produced producer epoch sequence transactional records) producers = producers
noted_after (Marker producer epoch coordinator commit) producers = if commit then producers else filter (λ p. not (p == producer)) producers

abbrev pub passes : Content → List ℕ → Bool
passes (Plain records) producers = true
passes (Produced producer epoch sequence transactional records) producers = not (transactional && list_any (λ p. p == producer) producers)
passes (Marker producer epoch coordinator commit) producers = false

-- It goes over the batches with the entries that wait and the producers that it has noted. In front of a batch each entry that begins at or
-- below the batch's last offset is taken, and its producer noted. Data that isn't transactional, or of no noted producer, passes.
abbrev pub gone_over : List (ℕ × ℕ) → List ℕ → List Batch → List Batch
gone_over waiting producers [] = []
gone_over waiting producers (b ∷ batches) =
    let noted = map (λ e. e.0) (filter (λ e. nat_le e.1 (last_offset b)) waiting) ++ producers in
    let rest = gone_over (filter (λ e. not (nat_le e.1 (last_offset b))) waiting) (noted_after (content_of b) noted) batches in
    if passes (content_of b) noted then b ∷ rest else rest
