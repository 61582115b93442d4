-- What a process of nodes leaves that ended, and how a new one goes on from it (own rule; that a crash is a stop of all nodes at
-- one moment, as 'a node that fails stops and keeps its log': Kafka replication design).
use Rattle.std.specs.Prelude.{◌≡◌, ◌≢◌, ◌⊎◌, ℕ, ◌+◌, ◌<◌, ◌≤◌, ◌^◌, List, [], ◌∷◌, ◌++◌, map, length, Option, Some, None, slice_get, slice_index_or}
use Rattle.kp_model.specs.Log.{Batch}
use Rattle.kp_model.specs.World.{LeaderAndIsr, Node, Down, Message, World, addressee, fresh, initial, IsSent}
use Rattle.kp_model.specs.Event.{Event, Elect, Acts, Deliver}
use Rattle.kp_model.specs.Run.{BeginsHeld, Moment, Run, Among, IsOf, last, now, worlds}

-- ---- what a run goes on from

-- The controller's record, the nodes from 0 on, and what is promised: a list that some node held. A node that isn't listed is as at
-- the start.
pub record Opening : Type 0 where
  pub count : ℕ
  pub controller : LeaderAndIsr
  pub nodes : List Node
  pub promised : List Batch

-- the start of a run of so many nodes
abbrev pub beginning : ℕ → Opening
beginning n = record { count = n; controller = initial n; nodes = []; promised = [] }

abbrev pub node_in : Opening → ℕ → Node
node_in o k = slice_index_or o.nodes k fresh

-- the run ends with just this
pub record IsOpening (o : Opening) (r : Run o.count) : Type 0 where
  pub record_is : (last r).controller ≡ o.controller
  pub nodes : (k : ℕ) → k < o.count → (last r).nodes k ≡ node_in o k
  pub promised : BeginsHeld r o.promised

-- ---- what is kept

-- what is kept of a node: its log, its checkpoint, how often it was restarted, and the leader epoch that it last took up
pub record LeftNode : Type 0 where
  pub log : List Batch
  pub checkpoint : ℕ
  pub life : ℕ
  pub kept : Option ℕ

-- what is kept of all: the controller's record, and each node, from 0 on
pub record LeftBehind : Type 0 where
  pub controller : LeaderAndIsr
  pub nodes : List LeftNode

abbrev pub nothing_left : LeftNode
nothing_left = record { log = []; checkpoint = 0; life = 0; kept = None }

abbrev pub left_node : LeftBehind → ℕ → LeftNode
left_node x k = slice_index_or x.nodes k nothing_left

-- The node is down with just this, in this life or an earlier one. Its high watermark isn't kept.
pub record IsLeft (x : LeftNode) (y : Node) : Type 0 where
  pub log : y.log ≡ x.log
  pub checkpoint : y.checkpoint ≡ x.checkpoint
  pub life : y.life ≤ x.life
  pub kept : y.kept ≡ x.kept
  pub down : y.mode ≡ Down

-- The host's premise: the run's last world has every node down, with just what is kept of it, and this record.
pub record WasLeft (x : LeftBehind) (r : Run (length x.nodes)) : Type 0 where
  pub record_is : (last r).controller ≡ x.controller
  pub nodes : (k : ℕ) → k < length x.nodes → IsLeft (left_node x k) ((last r).nodes k)

-- As a new process has the node: down, in its next life, with its high watermark at its checkpoint.
abbrev pub again : LeftNode → Node
again x = record { log = x.log; watermark = x.checkpoint; checkpoint = x.checkpoint; life = x.life + 1; kept = x.kept; mode = Down }

-- the new process opens so, and a list that the old one committed is promised
abbrev pub opening_again : LeftBehind → List Batch → Opening
opening_again x promised = record { count = length x.nodes; controller = x.controller; nodes = map again x.nodes; promised = promised }

-- What was left may be opened again: some run goes on from the one that left it, to the new process's opening, by a restart and a stop of
-- each node; and all that any node has held may be promised.
abbrev pub LeftOnesGoOn : Type 0
LeftOnesGoOn =
    (x : LeftBehind) (r : Run (length x.nodes)) (promised : List Batch) → WasLeft x r
    → ((k : ℕ) → k < length x.nodes → (left_node x k).life + 1 < 2 ^ 64) → BeginsHeld r promised
    → (q : Run (length x.nodes)) × ((w : World) → IsOf w r → IsOf w q) × IsOpening (opening_again x promised) q

-- ---- when what a host kept is what some run leaves

-- what is kept of a node, up or down
abbrev pub left_of : Node → LeftNode
left_of y = record { log = y.log; checkpoint = y.checkpoint; life = y.life; kept = y.kept }

-- A crash is a stop: some run goes on from the one that the crash ended, by a stop of each node that is up. All nodes are down
-- there, with what they had, and the record is what it was.
abbrev pub CrashesAreStops : Type 0
CrashesAreStops =
    (count : ℕ) (r : Run count)
    → (q : Run count) × ((w : World) → IsOf w r → IsOf w q) × ((last q).controller ≡ (last r).controller)
    × ((k : ℕ) → k < count → IsLeft (left_of ((last r).nodes k)) ((last q).nodes k))

-- the node to which a message goes, if it has come, and if it goes to one
abbrev pub goes_to_node : Option Message → Option ℕ
goes_to_node None = None
goes_to_node (Some m) = addressee m

-- the node that an event is of: none of the controller's
abbrev pub node_of : World → Event → Option ℕ
node_of w (Elect n) = None
node_of w (Acts n act) = Some n
node_of w (Deliver number) = goes_to_node (slice_get w.messages number)

-- In the later moments, behind the past ones, node k sends nothing.
abbrev pub IsSilent : (count k : ℕ) (later past : List Moment) → Type 0
IsSilent count k [] past = Unit {0}
IsSilent count k (m ∷ later) past =
    (node_of (now count (later ++ past)) m.event ≡ Some k → m.after.messages ≡ (now count (later ++ past)).messages) × IsSilent count k later past

-- What a node has done since it last sent a message may be lost: some run ends as this one does, but has the node as it was before.
-- The other nodes were in it all that they were in this one.
abbrev pub UnheardActsMayBeLost : Type 0
UnheardActsMayBeLost =
    (count k : ℕ) (r : Run count) (later past : List Moment) → r.moments ≡ later ++ past → IsSilent count k later past
    → (q : Run count) × ((w : World) → Among w (worlds count past) → IsOf w q)
    × ((last q).controller ≡ (last r).controller) × ((last q).nodes k ≡ (now count past).nodes k)
    × ((j : ℕ) → j ≢ k → (last q).nodes j ≡ (last r).nodes j) × ((m : Message) → IsSent (last r).messages m → IsSent (last q).messages m)
    × ((w : World) → IsOf w r → (j : ℕ) → j ≢ k → (v : World) × IsOf v q × (v.nodes j ≡ w.nodes j))

-- The same of all nodes at once, each from a moment of its own: after `stop k` moments, counted from the oldest, node k sends nothing.
abbrev pub AreSilent : (count : ℕ) (stop : ℕ → ℕ) → List Moment → Type 0
AreSilent count stop [] = Unit {0}
AreSilent count stop (m ∷ past) =
    ((k : ℕ) → node_of (now count past) m.event ≡ Some k → stop k ≤ length past → m.after.messages ≡ (now count past).messages) × AreSilent count stop past

-- after its moments node k was so
abbrev pub WereSo : (count : ℕ) (stop : ℕ → ℕ) (x : ℕ → Node) → List Moment → Type 0
WereSo count stop x moments = (later past : List Moment) (k : ℕ) → moments ≡ later ++ past → stop k ≡ length past → x k ≡ (now count past).nodes k

-- A crash may take from each node what it did since it last sent a message: some run ends with each node as it was then, the record as it
-- is, and no message fewer; and each node was in it all that it was up to then.
abbrev pub TailsMayBeLost : Type 0
TailsMayBeLost =
    (count : ℕ) (r : Run count) (stop : ℕ → ℕ) (x : ℕ → Node) → AreSilent count stop r.moments → WereSo count stop x r.moments
    → ((k : ℕ) → stop k ≤ length r.moments)
    → (q : Run count) × ((last q).controller ≡ (last r).controller) × ((k : ℕ) → (last q).nodes k ≡ x k)
    × ((m : Message) → IsSent (last r).messages m → IsSent (last q).messages m)
    × ((later past : List Moment) (k : ℕ) → r.moments ≡ later ++ past → length past ≤ stop k → (v : World) × IsOf v q × (v.nodes k ≡ (now count past).nodes k))

-- ---- what was being written when the process ended

-- Of what the node appended in one act a beginning is left: it is down, and all else is as it was before that act.
pub record IsTorn (before after y : Node) : Type 0 where
  pub left : List Batch
  pub lost : List Batch
  pub appended : after.log ≡ before.log ++ left ++ lost
  pub is : y ≡ record before { log = before.log ++ left; mode = Down }

-- The moment behind so many ones, counted from the oldest, is an act of node k, and was torn.
pub record WasTorn (count stop k : ℕ) (y : Node) (moments : List Moment) : Type 0 where
  pub later : List Moment
  pub moment : Moment
  pub past : List Moment
  pub are : moments ≡ later ++ moment ∷ past
  pub at : stop ≡ length past
  pub of : node_of (now count past) moment.event ≡ Some k
  pub torn : IsTorn ((now count past).nodes k) (moment.after.nodes k) y

-- A take is one act of a follower, and appends all batches of a fetch. Where the process ended while they were being written, a beginning
-- of them is on the disk: that is left by some run, too, since a take that lacks memory takes so much. It stands beside what a crash may
-- take by `TailsMayBeLost`: some run ends with each node as it was after its moments, or down, with a beginning of what its next act appended.
abbrev pub TornTakesMayBeLeft : Type 0
TornTakesMayBeLeft =
    (count : ℕ) (r : Run count) (stop : ℕ → ℕ) (x y : ℕ → Node) → AreSilent count stop r.moments → WereSo count stop x r.moments
    → ((k : ℕ) → stop k ≤ length r.moments) → ((k : ℕ) → (y k ≡ x k) ⊎ WasTorn count (stop k) k (y k) r.moments)
    → (q : Run count) × ((last q).controller ≡ (last r).controller) × ((k : ℕ) → (last q).nodes k ≡ y k)
    × ((m : Message) → IsSent (last r).messages m → IsSent (last q).messages m)
    × ((later past : List Moment) (k : ℕ) → r.moments ≡ later ++ past → length past ≤ stop k → (v : World) × IsOf v q × (v.nodes k ≡ (now count past).nodes k))

-- ---- checkpoints that are kept late

-- the node with another checkpoint
abbrev pub with_checkpoint : Node → ℕ → Node
with_checkpoint y c = record y { checkpoint = c }

-- Node k had this checkpoint in a world of the run, and wasn't restarted since: it is still in the life that it had there.
abbrev pub HadCheckpoint : {count : ℕ} → Run count → ℕ → ℕ → Type 0
HadCheckpoint {count} r k c = (w : World) × IsOf w r × ((w.nodes k).life ≡ ((last r).nodes k).life) × ((w.nodes k).checkpoint ≡ c)

-- A checkpoint that is older than the node's was left by some run, too, if the node wasn't restarted since; so it is of any number of nodes at
-- once, each with an older checkpoint or its own. That run ends with the same record, messages and nodes, but for the checkpoints; and all that
-- the nodes were in this run they were in it, but for checkpoints.
abbrev pub OlderCheckpointsMayBeLeft : Type 0
OlderCheckpointsMayBeLeft =
    (count : ℕ) (r : Run count) (c : ℕ → ℕ) → ((k : ℕ) → HadCheckpoint r k (c k))
    → (q : Run count) × ((last q).controller ≡ (last r).controller) × ((k : ℕ) → (last q).nodes k ≡ with_checkpoint ((last r).nodes k) (c k))
    × ((last q).messages ≡ (last r).messages)
    × ((w : World) → IsOf w r → (v : World) × IsOf v q × ((k : ℕ) → v.nodes k ≡ with_checkpoint (w.nodes k) (v.nodes k).checkpoint))
