-- The texts in which is kept what a process left: of a node beside its log, and of the controller's record (own rule). They are
-- lines of words, and the last line is the checksum of those before it.
use Rattle.std.specs.Prelude.{◌≡◌, ℕ, ◌<◌, ◌≤◌, ◌^◌, ◌&&◌, ◌==◌, Bool, true, nat_lt, IsTrue, List, [], ◌∷◌, ◌++◌, map, Option, Some, None, IfSome, codes}
use Rattle.std.specs.Fmt.{decimal}
use Rattle.std.specs.Int.{w32, to_be_bytes}
use Rattle.std.specs.List.{AllByRecursion, join_with_byte}
use Rattle.std.specs.Option.{option_map}
use Rattle.kp_crc.specs.Crc.{crc}
use Rattle.kp_model.specs.Controller.{greatest_epoch}
use Rattle.kp_model.specs.Step.{IsInRange}
use Rattle.kp_model.specs.World.{LeaderAndIsr, most_nodes}
use Rattle.kp_words.specs.Words.{hex_text}
use Rattle.kp_texts.specs.declared.texts.EpochStart.{EpochStart}

-- A node: its checkpoint, its life, the leader epoch that it last took up, the offset up to which its log was kept then, and the
-- leader epochs of the log up to there, each with the offset at which it begins.
pub record StateText : Type 0 where
  pub checkpoint : ℕ
  pub life : ℕ
  pub kept : Option ℕ
  pub end : ℕ
  pub starts : List EpochStart

-- How many nodes there are, the controller's record, and how many messages had been sent, where that is kept.
pub record RecordText : Type 0 where
  pub nodes : ℕ
  pub controller : LeaderAndIsr
  pub messages : Option ℕ

-- ---- how they are written

-- words with a space between each two, and a line feed
abbrev pub line : List (List ℕ) → List ℕ
line words = join_with_byte 32 words ++ 10 ∷ []

-- words with a comma between each two, or that there is none
abbrev pub listed : List (List ℕ) → List ℕ
listed [] = codes "none"
listed (word ∷ words) = join_with_byte 44 (word ∷ words)

-- a number, or that there is none
abbrev pub or_none : Option ℕ → List ℕ
or_none None = codes "none"
or_none (Some number) = decimal number

-- an epoch, a colon, and the offset at which it begins
abbrev pub start_text : EpochStart → List ℕ
start_text s = decimal s.epoch ++ 58 ∷ decimal s.start

-- lines, and the line of their CRC-32C in eight hexadecimal digits
unfoldable pub sealed : List ℕ → List ℕ
sealed lines = lines ++ line (codes "crc" ∷ hex_text (to_be_bytes w32 (crc lines)) ∷ [])

-- a state's lines but for the last one
abbrev pub state_lines : StateText → List ℕ
state_lines s =
    line (codes "kpart node 1" ∷ [])
    ++ line (codes "checkpoint" ∷ decimal s.checkpoint ∷ codes "life" ∷ decimal s.life ∷ codes "epoch" ∷ or_none s.kept ∷ [])
    ++ line (codes "end" ∷ decimal s.end ∷ [])
    ++ line (codes "epochs" ∷ listed (map start_text s.starts) ∷ [])

abbrev pub state_text : StateText → List ℕ
state_text s = sealed (state_lines s)

-- the line of how many messages had been sent, where that is kept
abbrev pub messages_line : Option ℕ → List ℕ
messages_line None = []
messages_line (Some number) = line (codes "messages" ∷ decimal number ∷ [])

-- a record's lines but for the last one
abbrev pub record_lines : RecordText → List ℕ
record_lines r =
    line (codes "kpart record 1" ∷ [])
    ++ line (codes "nodes" ∷ decimal r.nodes ∷ [])
    ++ line (
    codes "leader" ∷ or_none (option_map (λ l. l.node) r.controller.leader)
    ∷ codes "epoch" ∷ or_none (option_map (λ l. l.epoch) r.controller.leader)
    ∷ codes "isr" ∷ listed (map decimal r.controller.isr) ∷ codes "version" ∷ decimal r.controller.version ∷ [])
    ++ messages_line r.messages

abbrev pub record_text : RecordText → List ℕ
record_text r = sealed (record_lines r)

-- ---- what they may say

-- an epoch and an offset in range
abbrev pub IsStart : EpochStart → Type 0
IsStart s = (s.epoch ≤ greatest_epoch) × (s.start ≤ 2 ^ 62)

-- the first one begins at offset 0
abbrev pub begin_at_0 : List EpochStart → Bool
begin_at_0 [] = true
begin_at_0 (s ∷ ss) = s.start == 0

-- it is below the first of the others
abbrev pub is_below : EpochStart → List EpochStart → Bool
is_below s [] = true
is_below s (t ∷ ts) = nat_lt s.epoch t.epoch && nat_lt s.start t.start

-- each is below the next one
abbrev pub rise : List EpochStart → Bool
rise [] = true
rise (s ∷ ss) = is_below s ss && rise ss

-- epochs in range that rise from offset 0 on, and their offsets with them
pub record AreStarts (starts : List EpochStart) : Type 0 where
  pub each : AllByRecursion IsStart starts
  pub first : IsTrue (begin_at_0 starts)
  pub rising : IsTrue (rise starts)

-- a state's numbers are in range
pub record IsStateInRange (s : StateText) : Type 0 where
  pub checkpoint : s.checkpoint ≤ 2 ^ 62
  pub life : s.life < 2 ^ 64
  pub kept : IfSome s.kept (λ epoch. epoch ≤ greatest_epoch)
  pub end : s.end ≤ 2 ^ 62
  pub starts : AreStarts s.starts

-- There are 1 to 7 nodes, and the record is one of theirs.
pub record IsRecordInRange (r : RecordText) : Type 0 where
  pub least : 1 ≤ r.nodes
  pub most : r.nodes ≤ most_nodes
  pub controller : IsInRange r.nodes r.controller
  pub messages : IfSome r.messages (λ number. number < 2 ^ 31)

-- A text is that of one state in range at most.
abbrev pub HasOneState : Type 0
HasOneState = (a b : StateText) → IsStateInRange a → IsStateInRange b → state_text a ≡ state_text b → a ≡ b

-- A text is that of one record in range at most.
abbrev pub HasOneRecord : Type 0
HasOneRecord = (a b : RecordText) → IsRecordInRange a → IsRecordInRange b → record_text a ≡ record_text b → a ≡ b
