use Rattle.std.proofs.Common.{rules}
use Rattle.kp_cli.proofs.host.HostFolderFolder.append.Goals as goal

pub returns-in_default-clause-only : goal.returns-in_default-clause-only
returns-in_default-clause-only c = search rules
