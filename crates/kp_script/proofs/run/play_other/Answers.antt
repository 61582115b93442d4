use Rattle.std.proofs.Common.{subst}
use Rattle.kp_script.specs.Playing.{MayPlay}
use Rattle.kp_script.specs.Seen.{seen_call}
use Rattle.kp_script.specs.declared.call.Call.{Call as ParsedCall}
use Rattle.kp_script.proofs.Played.{line_seen}
use Rattle.kp_script.proofs.run.play_other.Goals as goal

pub play_values-requires : goal.play_values-requires
play_values-requires c = subst (λ (call : ParsedCall). MayPlay c.args.world.now (seen_call call)) c.in-Append.is c.requires

pub returns-in-Append : goal.returns-in-Append
returns-in-Append c = line_seen c.args.line _ _ _ _ _ _ c.in-Append.is c.play_values.ensures

pub returns-in-Raw : goal.returns-in-Raw
returns-in-Raw c = line_seen c.args.line _ _ _ _ _ _ c.in-Raw.is c.play_raw.ensures
