use Rattle.std.proofs.Common.{rules}
use Rattle.kp_embed.proofs.callers.kp_watermark.Goals as goal

pub returns-in-Ok-Ok-None-clause-called : goal.returns-in-Ok-Ok-None-clause-called
returns-in-Ok-Ok-None-clause-called c = search rules
