-- Where the workers stand (own rule).
use Rattle.std.specs.Prelude.{ℕ, ◌+◌, ◌==◌, if◌then◌else◌}

-- how many places are served where there are n nodes: one for each, and behind them the controller's; none without a node, which
-- would lend the board
abbrev pub places : ℕ → ℕ
places n = if n == 0 then 0 else n + 1
