-- Where an epoch ends, as a message holds it.
use Rattle.std.specs.Prelude.{ℕ, Bool, true, false, Option, Some, None}
use Rattle.kp_model.specs.declared.message.EpochEnd.{EpochEnd}

-- the end of an epoch, where it is known
abbrev pub end_if : (known : Bool) → (epoch end : ℕ) → Option EpochEnd
end_if true epoch end = Some (record { epoch = epoch; end = end })
end_if false epoch end = None
