-- The files that a run leaves in a folder (own rule; those of one node are a broker's).
use Rattle.std.specs.Prelude.{◌≡◌, ◌⊎◌, ℕ, ◌+◌, List, [], ◌∷◌, ◌++◌, length, map, take, Option}
use Rattle.kp_types.specs.Folders.{Entry, Puts, PutsFront, file_entry}
use Rattle.kp_log.specs.Files.{AreFilesOf}
use Rattle.kp_model.specs.Epochs.{epoch_cache}
use Rattle.kp_model.specs.Log.{end_of}
use Rattle.kp_model.specs.World.{LeaderAndIsr, Node}
use Rattle.kp_replica.specs.NumberedNode.{NumberedNode}
use Rattle.kp_texts.specs.declared.texts.EpochStart.{EpochStart}
use Rattle.kp_texts.specs.Texts.{StateText, record_text, state_text}
use Rattle.kp_folder.specs.Files.{node_folder, record_name, state_name}

-- what a log tells of a leader epoch, as a state says it
abbrev pub start_of : ℕ × ℕ → EpochStart
start_of pair = record { epoch = pair.0; start = pair.1 }

-- what is kept of a node beside its log
abbrev pub kept_text : Node → StateText
kept_text x =
    record {
      checkpoint = x.checkpoint;
      life = x.life;
      kept = x.kept;
      end = end_of x.log;
      starts = map start_of (epoch_cache x.log);
    }

-- the text of the controller's record of so many nodes, and of how many messages were sent, if that is told
abbrev pub kept_record : LeaderAndIsr → (count : ℕ) → (sent : Option ℕ) → List ℕ
kept_record c count sent = record_text (record { nodes = count; controller = c; messages = sent })

-- The node's folder with the files of its log, and behind them its state.
abbrev pub AreFilesOfNode : (number : ℕ) → NumberedNode → List Entry → Type 0
AreFilesOfNode number m files =
    (segments : List Entry) × AreFilesOf (node_folder number) m.limits m.state.log segments
    × (files ≡ segments ++ file_entry (state_name number) (state_text (kept_text m.state)) ∷ [])

-- The files of these nodes, in the order of their numbers from this one on.
abbrev pub AreFilesOfNodes : (number : ℕ) → List NumberedNode → List Entry → Type 0
AreFilesOfNodes number [] entries = entries ≡ []
AreFilesOfNodes number (m ∷ ms) entries =
    (files others : List Entry) × AreFilesOfNode number m files × AreFilesOfNodes (number + 1) ms others × (entries ≡ files ++ others)

-- nothing has come behind the known entries, or a beginning of the node's files
abbrev pub NodeFront : (number : ℕ) → NumberedNode → Option (List Entry) → Option (List Entry) → Type 0
NodeFront number m old new = Puts old new [] ⊎ ((files : List Entry) × AreFilesOfNode number m files × PutsFront old new files)

-- the record of so many nodes has come behind the known entries, and the files of the nodes from 0 on
abbrev pub KeepsRun : LeaderAndIsr → List NumberedNode → (sent : Option ℕ) → Option (List Entry) → Option (List Entry) → Type 0
KeepsRun c ms sent old new =
    (entries : List Entry) × AreFilesOfNodes 0 ms entries × Puts old new (file_entry record_name (kept_record c (length ms) sent) ∷ entries)

-- or a beginning of the record and the files of the first nodes
abbrev pub KeepsRunFront : LeaderAndIsr → List NumberedNode → (sent : Option ℕ) → Option (List Entry) → Option (List Entry) → Type 0
KeepsRunFront c ms sent old new =
    (count : ℕ) × (entries : List Entry) × AreFilesOfNodes 0 (take count ms) entries
    × PutsFront old new (file_entry record_name (kept_record c (length ms) sent) ∷ entries)
