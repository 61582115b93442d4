use Rattle.std.proofs.Common.{rules}
use Rattle.kp_transport.proofs.channels.ChannelsCarry.send.Goals as goal

pub returns : goal.returns
returns c = search rules
