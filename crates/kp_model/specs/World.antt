-- The replicated log as one state: the controller's record, the nodes, and every message ever sent
-- (Kafka replication design; KIP-101, KIP-279, KIP-320).
use Rattle.std.specs.Prelude.{◌≡◌, ℕ, ◌==◌, List, [], ◌∷◌, ◌++◌, Option, Some, None, if◌then◌else◌, slice_get, slice_index_or, replicate}
use Rattle.std.specs.List.{range_with_len}
use Rattle.kp_model.specs.Log.{Batch}

-- who leads, in which leader epoch
pub record Leader : Type 0 where
  pub node : ℕ
  pub epoch : ℕ

-- The controller's record: the leader (none before the first election, where the epoch is -1), the
-- in-sync replicas in rising order, and the version, which every change raises.
pub record LeaderAndIsr : Type 0 where
  pub leader : Option Leader
  pub isr : List ℕ
  pub version : ℕ

-- A leader: its epoch, the in-sync set and version that it knows, the set that it has proposed, its log's end when it began
-- to lead, and for each node, by its number, the greatest offset that it fetched from in this leadership.
pub record Leading : Type 0 where
  pub epoch : ℕ
  pub isr : List ℕ
  pub version : ℕ
  pub pending : Option (List ℕ)
  pub start : ℕ
  pub reported : List (Option ℕ)

-- a leader keeps the reports of so many nodes, the first ones (own rule)
abbrev pub most_nodes : ℕ
most_nodes = 7

abbrev pub no_reports : List (Option ℕ)
no_reports = replicate most_nodes None

-- what this node reported
abbrev pub report_of : Leading → ℕ → Option ℕ
report_of l m = slice_index_or l.reported m None

-- A follower: whom it follows in which epoch.
pub record Following : Type 0 where
  pub leader : ℕ
  pub epoch : ℕ

pub data Mode : Type 0 where
  Down : Mode
  Idle : Mode
  Leads : Leading → Mode
  Follows : Following → Mode

-- Beside its log a node remembers the leader epoch that it last took up; no restart forgets it.
pub record Node : Type 0 where
  pub log : List Batch
  pub watermark : ℕ
  pub checkpoint : ℕ
  pub life : ℕ
  pub kept : Option ℕ
  pub mode : Mode

-- A request for what comes after the asker's log: who asks whom, in which life and leader epoch, and that log, whose end and
-- last epoch are what it asks by.
pub record Request : Type 0 where
  pub from : ℕ
  pub to : ℕ
  pub life : ℕ
  pub epoch : ℕ
  pub log : List Batch

-- An answer: the request, and the leader's log and watermark when it answered.
pub record Answer : Type 0 where
  pub request : Request
  pub log : List Batch
  pub watermark : ℕ

-- A proposal: the leader that sends it to the controller, the record that it knows, and the in-sync set that it asks for.
pub record Proposal : Type 0 where
  pub from : ℕ
  pub known : LeaderAndIsr
  pub isr : List ℕ

-- A decision: the proposal, and the record as it is after it.
pub record Decision : Type 0 where
  pub proposal : Proposal
  pub decided : LeaderAndIsr

pub data Message : Type 0 where
  Asks : Request → Message
  Answers : Answer → Message
  Proposes : Proposal → Message
  Decides : Decision → Message

-- The nodes from 0 on, so many as are counted, and the messages by their numbers, from 0 on. A node's
-- state is plain data, and so is a message; the world only holds them together.
pub record World : Type 0 where
  pub count : ℕ
  pub controller : LeaderAndIsr
  pub nodes : ℕ → Node
  pub messages : List Message

-- the start: no leader, all nodes in sync, empty logs, all idle
abbrev pub fresh : Node
fresh = record { log = []; watermark = 0; checkpoint = 0; life = 0; kept = None; mode = Idle }

abbrev pub initial : ℕ → LeaderAndIsr
initial count = record { leader = None; isr = range_with_len 0 count; version = 0 }

abbrev pub start : ℕ → World
start count = record { count = count; controller = initial count; nodes = λ n. fresh; messages = [] }

-- the world with another record, another state of node n, or one more message
abbrev pub with_record : World → LeaderAndIsr → World
with_record w r = record w { controller = r }

abbrev pub with_node : World → ℕ → Node → World
with_node w n x = record w { nodes = λ m. if m == n then x else w.nodes m }

abbrev pub with_message : World → Message → World
with_message w m = record w { messages = w.messages ++ m ∷ [] }

-- whose message it is; the controller's is no node's
abbrev pub sender : Message → Option ℕ
sender (Asks r) = Some r.from
sender (Answers a) = Some a.request.to
sender (Proposes p) = Some p.from
sender (Decides d) = None

-- and to whom it goes: a request to the leader that its sender follows, an answer to the sender of its request, a proposal to
-- the controller, and a decision to the sender of its proposal
abbrev pub addressee : Message → Option ℕ
addressee (Asks r) = Some r.to
addressee (Answers a) = Some a.request.from
addressee (Proposes p) = None
addressee (Decides d) = Some d.proposal.from

-- the message has been sent: it has a number
abbrev pub IsSent : List Message → Message → Type 0
IsSent messages m = (number : ℕ) × (slice_get messages number ≡ Some m)
