use Rattle.kp_embed.proofs.again.leave_in.Given as goal

abbrev pub ghosts-leave-B-BoardName : goal.ghosts-leave-B-BoardName
ghosts-leave-B-BoardName a = record { table = a.handle.now.table }
