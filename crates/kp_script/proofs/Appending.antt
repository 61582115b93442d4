-- No cause speaks against a batch of a line's values, and a batch that is asked for has the content that its fields say.
use Rattle.std.proofs.Common.{◌≡◌, ℕ, suc, ◌+◌, ◌<◌, ◌≤◌, ◌^◌, Bool, true, false, List, [], ◌∷◌, length, Option, Some, None, Result, Ok, Err, map, refl, sym, ap, ◌∙◌, arith}
use Rattle.std.specs.Prelude.{nat_lt, if◌then◌else◌, IfErr}
use Rattle.kp_types.specs.Causes.{IsRefusedBy}
use Rattle.kp_types.specs.declared.refusal.Refusal.{Refusal}
use Rattle.kp_types.specs.declared.refusal.Refusal.TheVariants.{Memory}
use Rattle.std.specs.List.{list_all}
use Rattle.std.specs.Str.{is_utf8}
use Rattle.std.proofs.lemmas.Bool.{ne_eqb, lt-ltb, le-ltb}
use Rattle.std.proofs.lemmas.List.{length-map}
use Rattle.kp_record.specs.Record.{Record, record_spelling, records_spelling}
use Rattle.kp_record.specs.Made.{header_made, plain_record, record_made}
use Rattle.kp_record.specs.declared.parts.Parts.{Parts}
use Rattle.kp_record.specs.declared.parts.HeaderParts.{HeaderParts}
use Rattle.kp_batch.specs.Batch.{Content, Plain, Produced, Marker, Body, attributes, contents}
use Rattle.kp_batch.specs.Producer.{producer_of, producer_epoch_of, sequence_of}
use Rattle.kp_batch.specs.Building.{asked_size, has_text_keys, head_cause, key_cause, marker_cause}
use Rattle.kp_batch.specs.Spelling.{spell_cause}
use Rattle.kp_batch.specs.declared.build.Fields.{Fields}
use Rattle.kp_script.specs.Call.{Sender}
use Rattle.kp_script.specs.Told.{body_at}

-- the fields that a line asks for
abbrev pub fields_at : (time : ℕ) → Sender → (transactional : Bool) → Fields
fields_at time sender transactional =
    record {
      base_timestamp = time;
      producer_id = sender.producer;
      producer_epoch = sender.epoch;
      base_sequence = sender.sequence;
      transactional = transactional;
      control = false;
    }

-- each part is at the time, and has no headers
are_early : (time : ℕ) (values : List (List ℕ)) (parts : List Parts) → map record_made parts ≡ map (plain_record time) values → time < 2 ^ 62 →
    list_all (λ p. nat_lt p.timestamp (2 ^ 62)) parts ≡ true
are_early time values [] e early = refl
are_early time [] (p ∷ ps) e early = absurd (omega (arith, ap length e))
are_early time (v ∷ vs) (p ∷ ps) e early =
    let one : record_made p ≡ plain_record time v = cc in
    let others : map record_made ps ≡ map (plain_record time) vs = cc in
    let at : p.timestamp ≡ time = ap (λ (r : Record). r.time) one in
    rw (lt-ltb p.timestamp (2 ^ 62) (omega (arith, at, early)), are_early time vs ps others early) refl

no_headers : (hs : List HeaderParts) → map header_made hs ≡ [] → hs ≡ []
no_headers [] e = refl
no_headers (h ∷ hs) e = absurd (omega (arith, ap length e))

text_keys : (p : Parts) → p.headers.now ≡ [] → has_text_keys p ≡ true
text_keys p none = ap (λ (hs : List HeaderParts). list_all (λ h. is_utf8 h.key.now) hs) none

no_keys : (base place at time : ℕ) (values : List (List ℕ)) (parts : List Parts) → map record_made parts ≡ map (plain_record time) values → key_cause base place at parts ≡ None
unfolding key_cause
no_keys base place at time values [] e = refl
no_keys base place at time [] (p ∷ ps) e = absurd (omega (arith, ap length e))
no_keys base place at time (v ∷ vs) (p ∷ ps) e =
    let one : record_made p ≡ plain_record time v = cc in
    let others : map record_made ps ≡ map (plain_record time) vs = cc in
    let none : p.headers.now ≡ [] = no_headers p.headers.now (ap (λ (r : Record). r.headers) one) in
    let rest = no_keys base (suc place) (at + length (record_spelling base place (record_made p))) time vs ps others in
    rw (text_keys p none) rest

head_none : (time : ℕ) (sender : Sender) (transactional : Bool) (parts : List Parts) → 0 < length parts → asked_size (fields_at time sender transactional) parts ≤ 2147483647 → time < 2 ^ 62 →
    head_cause 2147483659 (fields_at time sender transactional) parts ≡ None
unfolding head_cause
head_none time sender transactional parts some fits early =
    rw (
      le-ltb 2147483659 (asked_size (fields_at time sender transactional) parts) (omega (arith, fits)),
      ne_eqb (length parts) 0 (λ e. omega (arith, e, some)),
      lt-ltb time (2 ^ 62) early,
    ) refl

marker_none : (time : ℕ) (sender : Sender) (transactional : Bool) (parts : List Parts) → marker_cause (fields_at time sender transactional) parts ≡ None
unfolding marker_cause
marker_none time sender transactional parts = refl

pub no_cause : (time : ℕ) (sender : Sender) (transactional : Bool) (values : List (List ℕ)) (parts : List Parts) → map record_made parts ≡ map (plain_record time) values → 0 < length values → time < 2 ^ 62 →
    61 + length (records_spelling time 0 (map (plain_record time) values)) ≤ 2147483647 → spell_cause (fields_at time sender transactional) parts ≡ None
no_cause time sender transactional values parts e some early fits =
    let count : length parts ≡ length values = sym (length-map parts record_made) ∙ ap length e ∙ length-map values (plain_record time) in
    let size = ap (λ (rs : List Record). 61 + length (records_spelling time 0 rs)) e in
    let head = head_none time sender transactional parts (omega (arith, count, some)) (omega (arith, size, fits)) early in
    rw (head, are_early time values parts e early, no_keys time 0 61 time values parts e, marker_none time sender transactional parts) refl

-- what has no cause is refused for want of memory alone
pub lacks : {A : Type 0} (cause : Option Refusal) (r : Result A Refusal) → cause ≡ None → IsRefusedBy cause r → IfErr r (λ refusal. refusal ≡ Memory)
lacks None (Ok x) is h = tt
lacks None (Err refusal) is h = h
lacks (Some other) r is h = absurd cc

-- ---- what is spelled

-- the content of an asked batch of no producer
pub plain_is : (time : ℕ) (c : Content) → attributes c ≡ 0 → producer_of c ≡ None → c ≡ Plain (contents time c)
plain_is time (Plain records) a p = refl
plain_is time (Produced producer epoch sequence transactional records) a p = absurd cc
plain_is time (Marker producer epoch coordinator commit) a p = absurd (omega (arith, a))

-- the content of an asked batch of a producer
pub produced_is : (time : ℕ) (c : Content) (p e s : ℕ) (t : Bool) → attributes c ≡ (if t then 16 else 0) → producer_of c ≡ Some p → producer_epoch_of c ≡ Some e → sequence_of c ≡ Some s → c ≡ Produced p e s t (contents time c)
produced_is time (Plain records) p e s t a x y z = absurd cc
produced_is time (Produced producer epoch sequence true records) p e s true a x y z = cc
produced_is time (Produced producer epoch sequence true records) p e s false a x y z = absurd (omega (arith, a))
produced_is time (Produced producer epoch sequence false records) p e s true a x y z = absurd (omega (arith, a))
produced_is time (Produced producer epoch sequence false records) p e s false a x y z = cc
produced_is time (Marker producer epoch coordinator commit) p e s true a x y z = absurd (omega (arith, a))
produced_is time (Marker producer epoch coordinator commit) p e s false a x y z = absurd (omega (arith, a))

-- a body is its time and its content
pub body_is : (b : Body) (time : ℕ) (content : Content) → b.base_time ≡ time → b.content ≡ content → b ≡ body_at time content
body_is b time content first second = ap (λ (t : ℕ). body_at t b.content) first ∙ ap (body_at time) second
