use Rattle.kp_embed.proofs.segments.kp_segment.Given as goal

abbrev pub ghosts-segment-B-BoardName : goal.ghosts-segment-B-BoardName
ghosts-segment-B-BoardName a = record { table = a.handle.now.table }
