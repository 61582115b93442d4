-- What a line of a script says, and how it is written: words with one space between each two.
use Rattle.std.specs.Prelude.{◌≡◌, ◌≢◌, ℕ, ◌<◌, ◌≤◌, ◌^◌, ◌&&◌, ◌==◌, Bool, true, false, not, nat_le, IsTrue, List, [], ◌∷◌, ◌++◌, length, Option, Some, None, IfSome, codes}
use Rattle.std.specs.List.{join_with_byte, list_all}
use Rattle.std.specs.Fmt.{decimal}
use Rattle.kp_record.specs.Record.{AreBytes}
use Rattle.kp_marker.specs.Marker.{commits}
use Rattle.kp_replica.specs.declared.act.PlainAct.{PlainAct}
use Rattle.kp_replica.specs.declared.act.PlainAct.TheVariants.{Adopt, Mark, Ask, Raise, Alter, Checkpoint, Stop, Restart, Show, Read, Committed}
use Rattle.kp_replica.specs.declared.altering.IsrChange.TheVariants.{Join, Leave}
use Rattle.kp_words.specs.Words.{hex_text}

-- What an append says of its producer: who, in which epoch, and with which first sequence number (KIP-98). None is -1.
pub record Sender : Type 0 where
  pub producer : Option ℕ
  pub epoch : Option ℕ
  pub sequence : Option ℕ

-- What an event's line asks for: an election, that a batch or other bytes are handed in, an act that is handed no bytes, or
-- that a message comes.
pub data Call : Type 0 where
  Elect : (node : ℕ) → Call
  Append : (node time : ℕ) → (sender : Sender) → (transactional : Bool) → (values : List (List ℕ)) → Call
  Raw : (node : ℕ) → (bytes : List ℕ) → Call
  Acts : (node : ℕ) → PlainAct → Call
  Deliver : (number : ℕ) → Call

-- The node that a call names. A delivery names none, and none of its replies tells a node: 0 stands there.
abbrev pub node_of : Call → ℕ
node_of (Elect node) = node
node_of (Append node time sender transactional values) = node
node_of (Raw node bytes) = node
node_of (Acts node act) = node
node_of (Deliver number) = 0

-- what the first line that counts says: how many nodes there are, and the limits of their segments and indexes
pub record Header : Type 0 where
  pub count : ℕ
  pub segment : ℕ
  pub interval : ℕ

-- these words, with one space between each two
abbrev pub spaced : List (List ℕ) → List ℕ
spaced words = join_with_byte 32 words

-- values, with a comma between each two
abbrev pub values_text : List (List ℕ) → List ℕ
values_text values = join_with_byte 44 values

-- a producer field: -1, or a number
abbrev pub signed_text : Option ℕ → List ℕ
signed_text None = codes "-1"
signed_text (Some n) = decimal n

-- data of a transaction, or other data
abbrev pub kind_text : (transactional : Bool) → List ℕ
kind_text true = codes "t"
kind_text false = codes "d"

-- how a transaction ends
abbrev pub ending_text : (commit : Bool) → List ℕ
ending_text true = codes "commit"
ending_text false = codes "abort"

abbrev pub header_text : Header → List ℕ
header_text header =
    spaced (codes "nodes" ∷ decimal header.count ∷ codes "segment" ∷ decimal header.segment ∷ codes "interval" ∷ decimal header.interval ∷ [])

-- the verb of an act, and its fields behind the node
abbrev pub act_words : PlainAct → List ℕ × List (List ℕ)
act_words Adopt = (codes "adopt", [])
act_words (Mark handed) = (
  codes "mark",
  decimal handed.marker.timestamp ∷ decimal handed.marker.producer_id ∷ decimal handed.marker.producer_epoch ∷ decimal handed.marker.coordinator_epoch ∷ ending_text (commits handed.marker.kind) ∷ [],
)
act_words Ask = (codes "ask", [])
act_words Raise = (codes "raise", [])
act_words (Alter (Join member)) = (codes "join", decimal member ∷ [])
act_words (Alter (Leave member)) = (codes "leave", decimal member ∷ [])
act_words Checkpoint = (codes "checkpoint", [])
act_words Stop = (codes "stop", [])
act_words Restart = (codes "restart", [])
act_words Show = (codes "show", [])
act_words (Read from) = (codes "read", decimal from ∷ [])
act_words (Committed from) = (codes "committed", decimal from ∷ [])

-- The verb says this act of a node, and names nothing but the node.
abbrev pub SaysAct : (verb : List ℕ) → PlainAct → Type 0
SaysAct verb act = (verb ≡ (act_words act).0) × ((act_words act).1 ≡ [])

-- No call that has more, or other, fields than a node has this verb.
pub record IsNoLongVerb (verb : List ℕ) : Type 0 where
  pub append : verb ≢ codes "append"
  pub raw : verb ≢ codes "raw"
  pub mark : verb ≢ codes "mark"
  pub join : verb ≢ codes "join"
  pub leave : verb ≢ codes "leave"
  pub deliver : verb ≢ codes "deliver"
  pub read : verb ≢ codes "read"
  pub committed : verb ≢ codes "committed"

-- No call that names a node and nothing else has this verb.
pub record IsNoNodeVerb (verb : List ℕ) : Type 0 where
  pub elect : verb ≢ codes "elect"
  pub act : (act : PlainAct) → ¬ SaysAct verb act

-- the verb of a call, and its fields
abbrev pub words_of : Call → List ℕ × List (List ℕ)
words_of (Elect node) = (codes "elect", decimal node ∷ [])
words_of (Append node time sender transactional values) = (
  codes "append",
  decimal node ∷ decimal time ∷ signed_text sender.producer ∷ signed_text sender.epoch ∷ signed_text sender.sequence ∷ kind_text transactional ∷ values_text values ∷ [],
)
words_of (Raw node bytes) = (codes "raw", decimal node ∷ hex_text bytes ∷ [])
words_of (Acts node act) = ((act_words act).0, decimal node ∷ (act_words act).1)
words_of (Deliver number) = (codes "deliver", decimal number ∷ [])

abbrev pub verb_text : Call → List ℕ
verb_text call = (words_of call).0

abbrev pub fields_text : Call → List ℕ
fields_text call = spaced (words_of call).1

-- A call's line is its verb, a space, and its fields.
abbrev pub call_text : Call → List ℕ
call_text call = verb_text call ++ 32 ∷ fields_text call

-- A byte of a value is a visible ASCII character other than the comma.
abbrev pub is_value_byte : ℕ → Bool
is_value_byte byte = nat_le 33 byte && nat_le byte 126 && not (byte == 44)

-- A value has one such byte or more.
abbrev pub is_value : List ℕ → Bool
is_value value = nat_le 1 (length value) && list_all is_value_byte value

-- A header's numbers are in range. There are up to seven nodes.
pub record IsHeader (header : Header) : Type 0 where
  pub least_count : 1 ≤ header.count
  pub greatest_count : header.count ≤ 7
  pub least_segment : 1024 ≤ header.segment
  pub greatest_segment : header.segment ≤ 1073741824
  pub interval : header.interval ≤ 1048576

-- A producer's fields are in range.
pub record IsSender (sender : Sender) : Type 0 where
  pub producer : IfSome sender.producer (λ producer. producer < 2 ^ 63)
  pub epoch : IfSome sender.epoch (λ epoch. epoch < 2 ^ 15)
  pub sequence : IfSome sender.sequence (λ sequence. sequence < 2 ^ 31)

-- An act's numbers are in range where there are so many nodes. Offsets are below 2 ^ 62.
abbrev pub IsActInRange : (count : ℕ) → PlainAct → Type 0
IsActInRange count (Alter (Join member)) = member < count
IsActInRange count (Alter (Leave member)) = member < count
IsActInRange count (Read from) = from < 2 ^ 62
IsActInRange count (Committed from) = from < 2 ^ 62
IsActInRange count _ = Unit {0}

-- A call's numbers, its values and its bytes are in range where there are so many nodes. Times are below 2 ^ 62. There is a
-- value, or a byte.
abbrev pub IsCallInRange : (count : ℕ) → Call → Type 0
IsCallInRange count (Elect node) = node < count
IsCallInRange count (Append node time sender transactional values) =
    (node < count) × (time < 2 ^ 62) × IsSender sender × (0 < length values) × IsTrue (list_all is_value values)
IsCallInRange count (Raw node bytes) = (node < count) × (0 < length bytes) × AreBytes bytes
IsCallInRange count (Acts node act) = (node < count) × IsActInRange count act
IsCallInRange count (Deliver number) = number < 2 ^ 31

-- A call is in range, and its line has at most 2,100,000 bytes.
pub record IsCall (count : ℕ) (call : Call) : Type 0 where
  pub range : IsCallInRange count call
  pub short : length (call_text call) ≤ 2100000

-- The bytes are the text of this header, which is in range.
abbrev pub IsHeaderText : List ℕ → Header → Type 0
IsHeaderText bytes header = IsHeader header × (bytes ≡ header_text header)

-- The bytes are the text of this call, which is in range where there are so many nodes.
abbrev pub IsCallText : (count : ℕ) → List ℕ → Call → Type 0
IsCallText count bytes call = IsCall count call × (bytes ≡ call_text call)

-- The bytes are not the text of a header in range.
abbrev pub SpellsNoHeader : List ℕ → Type 0
SpellsNoHeader bytes = (header : Header) → IsHeader header → bytes ≢ header_text header

-- The bytes are not the text of a call in range.
abbrev pub SpellsNoCall : (count : ℕ) → List ℕ → Type 0
SpellsNoCall count bytes = (call : Call) → IsCall count call → bytes ≢ call_text call

-- A text is that of one call in range at most.
abbrev pub HasOneCall : Type 0
HasOneCall =
    (count : ℕ) (a b : Call) → count < 2 ^ 64 → IsCall count a → IsCall count b → call_text a ≡ call_text b → a ≡ b
