-- The records that a reader gets, as the definitions' lines.
use Rattle.std.specs.Prelude.{ℕ, ◌+◌, ◌≤◌, List, length, take, drop, IfSome}
use Rattle.std.specs.List.{AllByRecursion}
use Rattle.std.specs.Option.{option_map}
use Rattle.kp_model.specs.Event.{Line}
use Rattle.kp_visible.specs.declared.lines.ReadSpan.{ReadSpan}
use Rattle.kp_visible.specs.declared.lines.ReadRecord.{ReadRecord}

-- a lent record
abbrev pub line_of : ReadRecord → Line
line_of r = record { offset = r.offset; value = option_map (λ v. v.now) r.value }

-- the record whose value stands at this span among these bytes
abbrev pub line_in : List ℕ → ReadSpan → Line
line_in values span = record { offset = span.offset; value = option_map (λ v. take v.1 (drop v.0 values)) span.value }

-- each value stands among these bytes
abbrev pub AreWithin : List ℕ → List ReadSpan → Type 0
AreWithin values spans = AllByRecursion (λ span. IfSome span.value (λ v. v.0 + v.1 ≤ length values)) spans
