-- What the passes of a board show (own rule). A pass has no bytes: what it shows stands in the proof alone.
use Rattle.std.specs.Prelude.{ℕ, ◌+◌, List, [], ◌∷◌, ◌++◌, length, replicate}
use Rattle.kp_model.specs.Log.{Batch}
use Rattle.kp_model.specs.World.{LeaderAndIsr, Node, Message, Asks, initial}
use Rattle.kp_model.specs.Left.{Opening, beginning, node_in}
use Rattle.kp_model.specs.Run.{held}

-- A node's pass: how many nodes the board has, the node's number and its state now, the record that the node was last
-- shown, the value of its mark word, and messages that are known to have been sent.
pub record NodeView : Type 0 where
  pub count : ℕ
  pub number : ℕ
  pub state : Node
  pub shown : LeaderAndIsr
  pub published : ℕ
  pub told : List Message

-- A receipt that a caller keeps: the batch that it names, and the bytes that were handed in for it.
pub record KeptReceipt : Type 0 where
  pub batch : Batch
  pub bytes : List ℕ

-- What one pass tells another: a committed list, a watermark that the mark word of this node has reached, a log that some
-- node had, and receipts.
pub record Note : Type 0 where
  pub list : List Batch
  pub node : ℕ
  pub mark : ℕ
  pub log : List Batch
  pub receipts : List KeptReceipt

-- A caller's pass: the committed list that it has seen, what it was told last, messages that are known to have been sent, the
-- record that it was last shown, the watermark of each node that it was last shown, its receipts, and the records that its
-- elections and decisions made. The newest of these come first.
pub record CallerView : Type 0 where
  pub seen : List Batch
  pub told : Note
  pub sent : List Message
  pub shown : LeaderAndIsr
  pub marks : List ℕ
  pub receipts : List KeptReceipt
  pub changes : List LeaderAndIsr

-- A pass that closes the board: the committed list that a caller has seen, and the nodes whose passes it has taken in.
pub record ClosingView : Type 0 where
  pub seen : List Batch
  pub nodes : List NodeView

-- All passes: the founder, which makes the passes of the nodes from j on, as the board opened with them, and has made those of so
-- many callers; a node's; a caller's; that of a message that was sent; a note on its way from one pass to another; one that closes the
-- board; and one that is used up.
pub data View : Type 0 where
  founder : (j : ℕ) (o : Opening) (made : ℕ) → View
  of_node : NodeView → View
  of_caller : CallerView → View
  of_message : Message → View
  of_note : Note → View
  of_closing : ClosingView → View
  spent : View

-- ---- new passes

-- node k's: the node as the board opened with it, the record then, and a mark word at the watermark that the node had
abbrev pub opened_node : (o : Opening) (k : ℕ) → NodeView
opened_node o k =
    record { count = o.count; number = k; state = node_in o k; shown = o.controller; published = (node_in o k).watermark; told = [] }

-- the same at the start of a run of n nodes
abbrev pub new_node : (n k : ℕ) → NodeView
new_node n k = opened_node (beginning n) k

abbrev pub no_note : Note
no_note = record { list = []; node = 0; mark = 0; log = []; receipts = [] }

-- a caller's, on a board of n nodes: it has seen the empty list, the record of the start and watermark 0 of each node
abbrev pub new_caller : (n : ℕ) → CallerView
new_caller n = record { seen = []; told = no_note; sent = []; shown = initial n; marks = replicate n 0; receipts = []; changes = [] }

abbrev pub no_message : Message
no_message = Asks (record { from = 0; to = 0; life = 0; epoch = 0; log = [] })

-- ---- what a view is, where it is of that sort

abbrev pub node_view : View → NodeView
node_view (of_node p) = p
node_view _ = new_node 0 0

abbrev pub caller_view : View → CallerView
caller_view (of_caller c) = c
caller_view _ = new_caller 0

abbrev pub message_view : View → Message
message_view (of_message l) = l
message_view _ = no_message

abbrev pub closing_view : View → ClosingView
closing_view (of_closing x) = x
closing_view _ = record { seen = []; nodes = [] }

abbrev pub opening_of : View → Opening
opening_of (founder j o made) = o
opening_of _ = beginning 0

-- ---- what the rule counts

-- how many callers' passes a pass has made, which is one that has, and which is one of them
abbrev pub made_by : View → ℕ
made_by (founder j o made) = made
made_by _ = 0

abbrev pub one_if_founder : View → ℕ
one_if_founder (founder j o made) = 1
one_if_founder _ = 0

abbrev pub one_if_caller : View → ℕ
one_if_caller (of_caller c) = 1
one_if_caller _ = 0

-- how often a pass has changed the controller's record
abbrev pub changes_by : View → ℕ
changes_by (of_caller c) = length c.changes
changes_by _ = 0

-- ---- how a view is cut in two, and how two are joined

-- the founder makes one node's pass, and goes on with the next node
abbrev pub next_founder : View → View
next_founder (founder j o made) = founder (j + 1) o made
next_founder v = v

abbrev pub founded_node : View → View
founded_node (founder j o made) = of_node (opened_node o j)
founded_node v = spent

-- or makes one caller's pass
abbrev pub admitting : View → View
admitting (founder j o made) = founder j o (made + 1)
admitting v = v

abbrev pub admitted : View → View
admitted (founder j o made) = of_caller (new_caller o.count)
admitted v = spent

-- a node tells what it holds, its mark word's value and its log
abbrev pub node_note : NodeView → Note
node_note p = record { list = held p.state; node = p.number; mark = p.published; log = p.state.log; receipts = [] }

-- a caller tells what it has seen, and its receipts
abbrev pub caller_note : CallerView → Note
caller_note c = record { list = c.seen; node = 0; mark = 0; log = []; receipts = c.receipts }

abbrev pub noted : View → View
noted (of_node p) = of_note (node_note p)
noted (of_caller c) = of_note (caller_note c)
noted _ = spent

abbrev pub first_message : List Message → View
first_message [] = spent
first_message (l ∷ ls) = of_message l

-- a node gives out the message that it sent last, and so does a caller; a message's pass is doubled
abbrev pub sent_message : View → View
sent_message (of_node p) = first_message p.told
sent_message (of_caller c) = first_message c.sent
sent_message (of_message l) = of_message l
sent_message _ = spent

-- a caller is told a note; a node or a caller is told that a message was sent
abbrev pub told_of : View → View → View
told_of (of_caller c) (of_note x) = of_caller (record c { told = x })
told_of (of_caller c) (of_message l) = of_caller (record c { sent = l ∷ [] })
told_of (of_node p) (of_message l) = of_node (record p { told = l ∷ [] })
told_of v w = v

-- a caller takes over the receipts of a note
abbrev pub with_receipts : CallerView → List KeptReceipt → CallerView
with_receipts c receipts = record c { receipts = receipts ++ c.receipts }

abbrev pub receipts_of : View → View → View
receipts_of (of_caller c) (of_note x) = of_caller (with_receipts c x.receipts)
receipts_of v w = v

-- a caller gives out a pass that closes the board, which takes in a node's pass
abbrev pub closing_of : View → View
closing_of (of_caller c) = of_closing (record { seen = c.seen; nodes = [] })
closing_of _ = spent

abbrev pub with_node_of : View → View → View
with_node_of (of_closing x) (of_node p) = of_closing (record x { nodes = x.nodes ++ p ∷ [] })
with_node_of v w = v
