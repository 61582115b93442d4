-- How many bytes a batch of a line's values has, at most and at least.
use Rattle.std.proofs.Common.{◌≡◌, ℕ, suc, ◌+◌, ◌*◌, ◌/◌, ◌%◌, ◌<◌, ◌≤◌, eqb, ltb, List, [], ◌∷◌, length, length-append, map, ap, arith}
use Rattle.std.proofs.lemmas.Bool.{cond_both}
use Rattle.std.proofs.lemmas.List.Splits.{length-slice_split}
use Rattle.std.specs.List.{count_by}
use Rattle.kp_record.specs.Varint.{varint, varint_within, sized, sized_or_null}
use Rattle.kp_record.specs.Record.{record_fields, record_spelling, records_spelling}
use Rattle.kp_script.specs.Call.{values_text}
use Rattle.kp_words.specs.Words.{pieces}
use Rattle.kp_record.specs.Made.{plain_record}
use Rattle.kp_words.proofs.Commas.{pieces_back, some_piece}
use Rattle.kp_record.proofs.GroupCounts.{varint_short}

sized_length : (bytes : List ℕ) → length (sized bytes) ≤ 10 + length bytes
unfolding sized
sized_length bytes = let size = varint_short (2 * length bytes) in simp length-append (omega arith)

fields_length : (time place : ℕ) (value : List ℕ) → length (record_fields time place (plain_record time value)) ≤ 51 + length value
unfolding record_fields sized_or_null
fields_length time place value = simp length-append (omega (arith, varint_short, sized_length))

record_length : (time place : ℕ) (value : List ℕ) → length (record_spelling time place (plain_record time value)) ≤ 61 + length value
unfolding record_spelling
record_length time place value =
    let fields = fields_length time place value in
    let size = sized_length (record_fields time place (plain_record time value)) in
    omega arith

pub records_length : (time place : ℕ) (values : List (List ℕ)) → 0 < length values → length (records_spelling time place (map (plain_record time) values)) ≤ 61 * (length (values_text values) + 1)
unfolding records_spelling
records_length time place [] some = absurd (omega arith)
records_length time place (value ∷ []) some =
    let first = record_length time place value in
    simp length-append (omega arith)
records_length time place (value ∷ next ∷ values) some =
    let first = record_length time place value in
    let rest = records_length time (suc place) (next ∷ values) (omega arith) in
    let text : length (values_text (value ∷ next ∷ values)) ≡ length value + suc (length (values_text (next ∷ values))) = length-append value (44 ∷ values_text (next ∷ values)) in
    let all = length-append (record_spelling time place (plain_record time value)) (records_spelling time (suc place) (map (plain_record time) (next ∷ values))) in
    omega arith

-- a line's values make a batch that has a length field
pub line_size : (time : ℕ) (text : List ℕ) → length text ≤ 2100000 →
    61 + length (records_spelling time 0 (map (plain_record time) (pieces text))) ≤ 2147483647
line_size time text short =
    let size = records_length time 0 (pieces text) (some_piece text) in
    let same = ap length (pieces_back text) in
    omega arith

-- ---- and at least

varint_some : (n : ℕ) → 1 ≤ length (varint n)
unfolding varint varint_within
varint_some n = cond_both (ltb n 128) (n ∷ []) ((128 + n % 128) ∷ varint_within 8 (n / 128)) (λ (l : List ℕ). 1 ≤ length l) (λ e. omega arith) (λ e. omega arith)

record_least : (time place : ℕ) (value : List ℕ) → 7 + length value ≤ length (record_spelling time place (plain_record time value))
unfolding record_spelling record_fields sized sized_or_null
record_least time place value = simp length-append (omega (arith, varint_some))

pub records_least : (time place : ℕ) (values : List (List ℕ)) → 0 < length values →
    1 + 6 * length values + length (values_text values) ≤ length (records_spelling time place (map (plain_record time) values))
unfolding records_spelling
records_least time place [] some = absurd (omega arith)
records_least time place (value ∷ []) some =
    let first = record_least time place value in
    simp length-append (omega arith)
records_least time place (value ∷ next ∷ values) some =
    let first = record_least time place value in
    let rest = records_least time (suc place) (next ∷ values) (omega arith) in
    let text : length (values_text (value ∷ next ∷ values)) ≡ length value + suc (length (values_text (next ∷ values))) = length-append value (44 ∷ values_text (next ∷ values)) in
    let all = length-append (record_spelling time place (plain_record time value)) (records_spelling time (suc place) (map (plain_record time) (next ∷ values))) in
    omega arith

-- a batch of a text's values has at least so many bytes
pub line_least : (time : ℕ) (text : List ℕ) →
    68 + length text + 6 * count_by (λ byte. eqb byte 44) text ≤ 61 + length (records_spelling time 0 (map (plain_record time) (pieces text)))
line_least time text =
    let size = records_least time 0 (pieces text) (some_piece text) in
    let same = ap length (pieces_back text) in
    let many = length-slice_split (λ (x : ℕ). eqb x 44) text in
    omega arith
