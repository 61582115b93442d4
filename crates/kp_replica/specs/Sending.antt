-- What it is that a call does which sends a message.
use Rattle.std.specs.Prelude.{◌≡◌, ℕ, true, List, map, None}
use Rattle.kp_batch.specs.Batch.{Written}
use Rattle.kp_model.specs.World.{Leading, Leads}
use Rattle.kp_model.specs.Event.{Act}
use Rattle.kp_model.specs.Letter.{FetchLetter, Letter}
use Rattle.kp_model.specs.Log.{Batch, is_boundary, logged}
use Rattle.kp_model.specs.Fetching.{piece_from, serve_cause_for}
use Rattle.kp_model.specs.Calls.{DoesSending as NodeDoesSending, served, answer_letter}
use Rattle.kp_replica.specs.NumberedNode.{NumberedNode, IsSameNode}

-- The node did this, sent a message with this letter, and became what it is now, whatever the controller's record was.
abbrev pub DoesSending : NumberedNode → NumberedNode → Act → Letter → Type 0
DoesSending old new act letter = NodeDoesSending old.number old.state new.state act letter × IsSameNode old new

-- A leader answered a request with this letter, which no cause refuses: what it is now, and what it sent, are what the letter
-- comes to.
pub record IsServed (old new : NumberedNode) (asked sent : FetchLetter) : Type 0 where
  pub leading : Leading
  pub leads : old.state.mode ≡ Leads leading
  pub free : serve_cause_for old.state.log asked.epoch asked.offset asked.last leading ≡ None
  pub new_is : new.state ≡ served old.state leading asked
  pub sent_is : sent ≡ answer_letter old.state asked
  pub same : IsSameNode old new

-- the log hands over these batches from this offset on, which is a boundary of it
abbrev pub IsPieceAt : List Batch → ℕ → List Written → Type 0
IsPieceAt log offset batches = (is_boundary log offset ≡ true) × (map logged batches ≡ piece_from offset log)
