-- What each step on a word tells the pass that makes it (own rule): the view before, the word found, and the view after.
use Rattle.std.specs.Prelude.{◌≡◌, ◌≢◌, ℕ, ◌<◌, ◌≤◌, max, List, ◌∷◌, ◌++◌, length, slice_index, MatchBool, None, ◌==◌, Contains}
use Rattle.atomic_table.specs.Table.{Me, Step}
use Rattle.kp_control.specs.Word.{packed}
use Rattle.kp_model.specs.Beginning.{Begins}
use Rattle.kp_model.specs.Log.{Batch, end_of}
use Rattle.kp_model.specs.World.{LeaderAndIsr, Node, Message, most_nodes}
use Rattle.kp_model.specs.Step.{IsInRange, elect_cause}
use Rattle.kp_board.specs.Views.{NodeView, CallerView, KeptReceipt, View, of_node, of_caller}
use Rattle.kp_board.specs.Rule.{mark_word, ShowsARun, ShowsLastRecord, ShowsElection}
use Rattle.kp_board.specs.Premises.{ShowsAWorld}

abbrev Seated : Type 0
Seated = Me ℕ View

-- the record is one that a run may have, and this is its word
pub record IsRecordOfWord (s : LeaderAndIsr) (word : ℕ) : Type 0 where
  pub range : IsInRange most_nodes s
  pub word_is : packed s ≡ word

-- a record was found, which is not before the one that was shown
pub record Finds (old s : LeaderAndIsr) (found : ℕ) : Type 0 where
  pub is : IsRecordOfWord s found
  pub later : old.version ≤ s.version

-- ---- a node's steps

-- the node, which was as a world of a run has it, has become y, and sent these messages
abbrev pub Stepped : Node → List Message → Step ℕ → Seated → ℕ → Seated → Type 0
Stepped y sent st m found m' = (p : NodeView) → m.0 ≡ of_node p
    → (m' ≡ (of_node (record p { state = y; told = sent ++ p.told }), m.1)) × ShowsAWorld p

-- the same, and it sent some message that fits
abbrev pub SteppedAndSent : (Message → Type 0) → Node → Step ℕ → Seated → ℕ → Seated → Type 0
SteppedAndSent fits y st m found m' = (p : NodeView) → m.0 ≡ of_node p
    → (l : Message) × fits l × (m' ≡ (of_node (record p { state = y; told = l ∷ p.told }), m.1)) × ShowsAWorld p

-- the node is as it was
abbrev pub Unchanged : Step ℕ → Seated → ℕ → Seated → Type 0
Unchanged st m found m' = (p : NodeView) → m.0 ≡ of_node p → m' ≡ m

-- the node has become y, and its mark word is at least the watermark
abbrev pub MarkRaised : Node → Step ℕ → Seated → ℕ → Seated → Type 0
MarkRaised y st m found m' = (p : NodeView) → m.0 ≡ of_node p → m' ≡ (of_node (record p { state = y; published = max p.published st.first }), m.1)

-- the node has become what it becomes under the record that was found, of which this is known
abbrev pub SteppedUnder : (LeaderAndIsr → Node) → (LeaderAndIsr → Type 0) → Step ℕ → Seated → ℕ → Seated → Type 0
SteppedUnder y knows st m found m' = (p : NodeView) → m.0 ≡ of_node p
    → (s : LeaderAndIsr) × Finds p.shown s found × (m' ≡ (of_node (record p { state = y s; shown = s }), m.1)) × knows s

-- ---- a caller's steps

-- the record was shown, the last one of some run that has all that the pass then shows
abbrev pub Looked : Step ℕ → Seated → ℕ → Seated → Type 0
Looked st m found m' = (c : CallerView) → m.0 ≡ of_caller c
    → (s : LeaderAndIsr) × Finds c.shown s found × (m' ≡ (of_caller (record c { shown = s }), m.1)) × ShowsLastRecord (record c { shown = s })

-- What a look at the mark word of node k changes in a caller's pass c, which is d then: the watermark shown, no lower than
-- before, and the committed list seen, which is at least that long and begins with all that was seen and told before.
pub record Learned (c d : CallerView) (k mark : ℕ) : Type 0 where
  pub seen : Begins c.seen d.seen
  pub told : Begins c.told.list d.seen
  pub reached : c.told.node ≡ k → c.told.mark ≤ mark
  pub long : mark ≤ end_of d.seen
  pub shown : d.shown ≡ c.shown
  pub mark_is : slice_index d.marks k ≡ mark
  pub others : (j : ℕ) → j ≢ k → slice_index d.marks j ≡ slice_index c.marks j
  pub rises : slice_index c.marks k ≤ mark
  pub wide : length d.marks ≡ length c.marks
  pub receipts : d.receipts ≡ c.receipts
  pub sent : d.sent ≡ c.sent
  pub changes : d.changes ≡ c.changes
  -- a receipt's batch is the one of its offset and leader epoch in whatever log the pass was told of
  pub agrees : (x : KeptReceipt) (b : Batch) → Contains c.receipts x → Contains c.told.log b → x.batch.base ≡ b.base → x.batch.epoch ≡ b.epoch → x.batch ≡ b
  pub of_run : ShowsARun d

-- What a caller's pass c, which is d then, has seen goes on from what it had seen before, and from this list.
pub record Recalls (promised : List Batch) (c d : CallerView) : Type 0 where
  pub seen : Begins c.seen d.seen
  pub promised_is : Begins promised d.seen
  pub others : d ≡ record c { seen = d.seen }
  pub of_run : ShowsARun d

abbrev pub Recalled : List Batch → Step ℕ → Seated → ℕ → Seated → Type 0
Recalled promised st m found m' = (c : CallerView) → m.0 ≡ of_caller c → (d : CallerView) × (m' ≡ (of_caller d, m.1)) × Recalls promised c d

abbrev pub MarkShown : Step ℕ → Seated → ℕ → Seated → Type 0
MarkShown st m found m' = (c : CallerView) (k : ℕ) → m.0 ≡ of_caller c → st.word ≡ mark_word k → (d : CallerView) × (m' ≡ (of_caller d, m.1)) × Learned c d k found

-- a receipt that fits was put to the others
abbrev pub ReceiptKept : (KeptReceipt → Type 0) → Step ℕ → Seated → ℕ → Seated → Type 0
ReceiptKept fits st m found m' = (c : CallerView) → m.0 ≡ of_caller c → (x : KeptReceipt) × fits x × (m' ≡ (of_caller (record c { receipts = x ∷ c.receipts }), m.1))

-- a record that allows the election came no earlier than the old one, and the new one came after it
pub record IsPassedBy (old new : LeaderAndIsr) (node : ℕ) : Type 0 where
  pub found : LeaderAndIsr
  pub free : elect_cause found node ≡ None
  pub later : old.version ≤ found.version
  pub passed : found.version < new.version

-- the pass after an election, which made this record
abbrev pub electing : LeaderAndIsr → CallerView → CallerView
electing next c = record c { shown = next; changes = next ∷ c.changes }

-- By one event of this node the record has become the next one, which the pass counts; or another one was found, of a higher
-- version.
abbrev pub Elected : (node : ℕ) (next : LeaderAndIsr) → Step ℕ → Seated → ℕ → Seated → Type 0
Elected node next st m found m' = (c : CallerView) → m.0 ≡ of_caller c
    → MatchBool (found == st.first)
    ((m' ≡ (of_caller (electing next c), m.1)) × ShowsElection node c.shown (electing next c))
    ((s : LeaderAndIsr) × IsRecordOfWord s found × (m' ≡ (of_caller (record c { shown = s }), m.1)) × (c.shown.version < s.version) × ShowsLastRecord (record c { shown = s }))
