-- Which refusals a run of a script meets.
use Rattle.std.proofs.Common.{◌≡◌, ℕ, inl, inr, refl, subst}
use Rattle.std.specs.Prelude.{IfErr, Result, Ok, Err}
use Rattle.kp_types.specs.Devices.{CountsFault, CountsFaults, CountsOne, CountsOneFault, IsDeviceFault}
use Rattle.kp_types.specs.declared.refusal.Refusal.{Refusal}
use Rattle.kp_types.specs.declared.refusal.Refusal.TheVariants as refusals
use Rattle.kp_script.specs.Transcript.{IsRunRefusal}

pub run_by_device : (r : Refusal) → IsDeviceFault r → IsRunRefusal r
run_by_device refusals.Device h = tt
run_by_device refusals.Memory h = tt
run_by_device _ h = absurd h

-- no device's fault is a script's
pub no_script_fault : (r : Refusal) (line : ℕ) → IsDeviceFault r → r ≡ refusals.BadScript line → ⊥
no_script_fault r line h e = subst IsDeviceFault e h

-- a reader's fault, where the writer was not called
pub reader_counted : (r : Refusal) (read read_new written : ℕ) → CountsFault r read read_new → CountsOneFault r read read_new written written
reader_counted refusals.Device read read_new written h = inl (h, refl)
reader_counted _ read read_new written h = (h, refl)

-- a writer's fault, where the reader was not at fault
pub writer_counted : (r : Refusal) (read read_new written written_new : ℕ) → read_new ≡ read → CountsFault r written written_new
    → CountsOneFault r read read_new written written_new
writer_counted refusals.Device read read_new written written_new same h = inr (same, h)
writer_counted _ read read_new written written_new same h = (same, h)

-- a want of memory is no device's fault
pub memory_alone : (r : Refusal) → r ≡ refusals.Memory → r ≡ refusals.Device → ⊥
memory_alone r memory device = absurd cc

-- the same of what is answered, where the reader's call succeeded
pub counted_after : {A : Type 0} (result : Result A Refusal) (read read_new written written_new : ℕ) → read_new ≡ read → CountsFaults result written written_new
    → CountsOne result read read_new written written_new
counted_after (Ok x) read read_new written written_new same h = (same, h)
counted_after (Err r) read read_new written written_new same h = writer_counted r read read_new written written_new same h

-- a call that meets devices alone refuses no script
pub no_line_at_fault : {A : Type 0} (result : Result A Refusal) (line : ℕ) → IfErr result IsDeviceFault → result ≡ Err (refusals.BadScript line) → ⊥
no_line_at_fault result line h e = subst (λ r. IfErr r IsDeviceFault) e h

pub only_by_run : {A : Type 0} (result : Result A Refusal) → IfErr result IsDeviceFault → IfErr result IsRunRefusal
only_by_run (Ok x) h = tt
only_by_run (Err r) h = run_by_device r h
