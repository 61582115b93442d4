-- Messages without their board's name (own rule).
use Rattle.std.specs.Prelude.{Option, Some, None, Result, Ok, Err}
use Rattle.kp_types.specs.declared.refusal.Refusal.{Refusal}
use Rattle.kp_model.specs.World.{Message as ModelMessage}
use Rattle.kp_model.specs.declared.message.MessageBody.{MessageBody}
use Rattle.kp_board.specs.declared.message.Message.{Message}
use Rattle.kp_board.specs.declared.passes.BoardName.{Ghosts}

-- a message's body, and what its pass shows
pub record Posted : Type 0 where
  pub body : MessageBody
  pub pass : ModelMessage

abbrev pub posted : {X : Type 0} {g : Ghosts X} → Message X g → Posted
posted m = record { body = m.body; pass = m.pass }

abbrev pub post_of : {X : Type 0} {g : Ghosts X} → Result (Message X g) Refusal → Result Posted Refusal
post_of (Ok m) = Ok (posted m)
post_of (Err refusal) = Err refusal

abbrev pub posts_of : {X : Type 0} {g : Ghosts X} → Result (Option (Message X g)) Refusal → Result (Option Posted) Refusal
posts_of (Ok (Some m)) = Ok (Some (posted m))
posts_of (Ok None) = Ok None
posts_of (Err refusal) = Err refusal
