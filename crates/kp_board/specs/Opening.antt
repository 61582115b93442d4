-- Which board it is, and how its table is told what it opens with (own rule).
use Rattle.std.specs.Prelude.{◌≡◌, ℕ, Option, Some, None}
use Rattle.atomic_table.specs.Table.{Me, Step}
use Rattle.atomic_table.specs.Seated.{TableId}
use Rattle.kp_model.specs.Left.{Opening, beginning}

-- how many words it has, its table, and what it opened with
pub record BoardId : Type 0 where
  pub words : ℕ
  pub id : TableId
  pub opening : Opening

-- what is named at a step
abbrev pub Named : Opening → Step ℕ → Me ℕ Opening → ℕ → Me ℕ Opening → Type 0
Named o st m found m' = m' ≡ (o, m.1)

-- what was named, and else the start
abbrev pub opened_by : ℕ → Option Opening → Opening
opened_by n None = beginning n
opened_by n (Some o) = o
