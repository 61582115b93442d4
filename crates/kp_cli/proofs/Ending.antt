-- What a run and an inspection have written.
use Rattle.std.proofs.Common.{◌≡◌, ◌∙◌, ◌++◌, ap, ℕ, List, Option, None, Some, IfSome, Err, inl, inr, sym, refl, subst}
use Rattle.std.proofs.KnownBytes.{Keeps-refl}
use Rattle.std.specs.Io.KnownBytes.{Keeps}
use Rattle.kp_types.specs.declared.counted.Counted.{Counted}
use Rattle.kp_script.specs.Ended.{RunEnd, WritesTo}
use Rattle.kp_folder.specs.Files.{Files}
use Rattle.kp_folder.specs.Bad.{refusal_of as refusal_of_folder}
use Rattle.kp_folder.specs.declared.fault.FolderFault.{FolderFault}
use Rattle.kp_script.specs.Left.{HoldsBehind, HoldsOrKeeps, IsCut, IsFolderFault, IsLineFault, apart}
use Rattle.kp_script.specs.Script.{IsFaultAt}
use Rattle.kp_script.specs.declared.left.CutRun.{CutRun}
use Rattle.kp_script.specs.declared.left.CutRun.TheVariants.{Folder, Run}
use Rattle.kp_script.specs.Transcript.{IsRunRefusal, Past, Writes, WritesFirst, no_past}
use Rattle.kp_script.specs.Transcript.{WritesFront as WritesTraceFront}
use Rattle.kp_types.specs.declared.refusal.Refusal.{Refusal}
use Rattle.kp_types.specs.declared.refusal.Refusal.TheVariants as refusals
use Rattle.kp_types.specs.declared.limits.Limits.{Limits}
use Rattle.kp_types.specs.Devices.{CountsFault, CountsOne, IsDeviceFault, Tells, device_of}
use Rattle.kp_draw.specs.Pictured.{WritesPictureFront}
use Rattle.kp_draw.specs.declared.lines.Lines.{Lines}
use Rattle.kp_inspect.specs.Inspected.{WritesFront}
use Rattle.kp_cli.specs.Left.{ComplainsLeft, RunsLeft, folder_complaint, status_left}
use Rattle.kp_cli.specs.Told.{complaint, status_of_refusal}
use Rattle.kp_cli.specs.declared.fault.Fault.{Fault}
use Rattle.kp_cli.specs.Perform.{CountsOneOfThree, Draws, Inspects, RunsScript}

pub inspects_front : (limits : Limits) (input old new : Option (List ℕ)) (refusal : Refusal) → IsDeviceFault refusal → WritesFront limits input old new
    → Inspects limits input old new (Err refusal)
inspects_front limits input old new refusals.Device only front = front
inspects_front limits input old new refusals.Memory only front = front
inspects_front limits input old new _ only front = absurd only

-- a run that ended has written its trace
pub ran_behind : (past : Past) (input old new : Option (List ℕ)) (ended : RunEnd) → WritesTo past input old new ended → Writes past input old new ended.refused
ran_behind past None old new ended written = tt
ran_behind past (Some bytes) old new ended written = (written.0, written.1.transcript, written.2)

pub ran : (input old new : Option (List ℕ)) (ended : RunEnd) → WritesTo no_past input old new ended → Writes no_past input old new ended.refused
ran input old new ended written = ran_behind no_past input old new ended written

-- also behind what a folder has
pub left_ran : (files : Option Files) (input old new : Option (List ℕ)) (ended : RunEnd) → HoldsBehind files (λ past. WritesTo past input old new ended)
    → HoldsBehind files (λ past. Writes past input old new ended.refused)
left_ran None input old new ended played = tt
left_ran (Some files) input old new ended played =
    (played.0, played.1, played.2, λ past came. let on = played.3 past came in (on.0, on.1, ran_behind (past ++ on.0) input old new ended on.2))

-- and so it is where it is cut off
pub left_cut : (files : Option Files) (input old new : Option (List ℕ)) (cut : CutRun) → IsCut cut
    → ((line : ℕ) → cut ≡ Run (refusals.BadScript line) → IsLineFault files input line × Keeps old new)
    → ((fault : FolderFault) → cut ≡ Folder fault → IsFolderFault files input fault × Keeps old new)
    → (cut ≡ Run refusals.Memory → HoldsOrKeeps files old new (λ past. WritesFirst past input old new)) → HoldsOrKeeps files old new (λ past. WritesTraceFront past input old new)
    → RunsLeft files input old new (Err cut)
left_cut files input old new (Run (refusals.BadScript line)) only line_fault fault first front = line_fault line refl
left_cut files input old new (Run refusals.Device) only line_fault fault first front = front
left_cut files input old new (Run refusals.Memory) only line_fault fault first front = (first refl, front)
left_cut files input old new (Run _) only line_fault fault first front = absurd only
left_cut files input old new (Folder f) only line_fault fault first front = fault f refl

-- what was counted of a cut, whatever else would have been answered
pub counted_apart : (cut : CutRun) (read read_new written written_new : ℕ) → CountsOne {A = RunEnd} (apart (Err cut)) read read_new written written_new
    → CountsOne {A = ℕ} (apart (Err cut)) read read_new written written_new
counted_apart (Run refusal) read read_new written written_new h = h
counted_apart (Folder fault) read read_new written written_new h = h

-- a cut that is a refusal is told by its line and the second one
pub refusal_told : {E : Type 0} (told : E → Option (List ℕ)) (from : List ℕ) (why : Fault) (second : List ℕ) (old new : Counted E) (cut : CutRun) (refusal other : Refusal) → cut ≡ Run refusal
    → other ≡ refusal → Tells told old new (complaint other ++ second) → ComplainsLeft told from why second old new (Err cut)
refusal_told told from why second old new cut refusal other is same h =
    subst (λ (c : CutRun). ComplainsLeft told from why second old new (Err c)) (sym is) (subst (λ (r : Refusal). Tells told old new (complaint r ++ second)) same h)

-- and one that is a folder's fault by the folder's
pub fault_told : {E : Type 0} (told : E → Option (List ℕ)) (from : List ℕ) (why answered : Fault) (second : List ℕ) (old new : Counted E) (cut : CutRun) (fault other : FolderFault) → cut ≡ Folder fault
    → answered ≡ why → other ≡ fault → Tells told old new (folder_complaint from answered other) → ComplainsLeft told from why second old new (Err cut)
fault_told told from why answered second old new cut fault other is same_why same h =
    subst (λ (c : CutRun). ComplainsLeft told from why second old new (Err c)) (sym is)
    (subst (λ (p : Fault × FolderFault). Tells told old new (folder_complaint from p.0 p.1)) (λ i. (same_why i, same i)) h)

pub refusal_status : (cut : CutRun) (refusal other : Refusal) (status : ℕ) → cut ≡ Run refusal → other ≡ refusal → status ≡ status_of_refusal other → status ≡ status_left (Err cut)
refusal_status cut refusal other status is same told = told ∙ ap status_of_refusal same ∙ ap (λ (c : CutRun). status_left (Err c)) (sym is)

pub fault_status : (cut : CutRun) (fault other : FolderFault) (status : ℕ) → cut ≡ Folder fault → other ≡ fault → status ≡ status_of_refusal (refusal_of_folder other)
    → status ≡ status_left (Err cut)
fault_status cut fault other status is same told = told ∙ ap (λ (f : FolderFault). status_of_refusal (refusal_of_folder f)) same ∙ ap (λ (c : CutRun). status_left (Err c)) (sym is)

-- a run that was refused has written nothing for a fault of the script, and else a beginning
pub run_refused : (input old new : Option (List ℕ)) (refusal : Refusal) → IsRunRefusal refusal
    → ((line : ℕ) → refusal ≡ refusals.BadScript line → IfSome input (λ bytes. IsFaultAt bytes line) × Keeps old new)
    → (refusal ≡ refusals.Memory → WritesFirst no_past input old new) → WritesTraceFront no_past input old new → RunsScript input old new (Err refusal)
run_refused input old new (refusals.BadScript line) only fault first front = fault line refl
run_refused input old new refusals.Device only fault first front = front
run_refused input old new refusals.Memory only fault first front = (first refl, front)
run_refused input old new _ only fault first front = absurd only

-- a picture that isn't drawn has come to nothing for a fault of the script or a want of memory, and else to a beginning
pub draw_refused : (part : Lines) (input old new : Option (List ℕ)) (refusal : Refusal) → IsRunRefusal refusal
    → ((line : ℕ) → refusal ≡ refusals.BadScript line → IfSome input (λ bytes. IsFaultAt bytes line) × Keeps old new)
    → (refusal ≡ refusals.Memory → Keeps old new) → WritesPictureFront part input old new → Draws part input old new (Err refusal)
draw_refused part input old new (refusals.BadScript line) only fault nothing front = fault line refl
draw_refused part input old new refusals.Device only fault nothing front = front
draw_refused part input old new refusals.Memory only fault nothing front = nothing refl
draw_refused part input old new _ only fault nothing front = absurd only

-- a writer that is the same keeps what it holds
pub same_kept : {W : Type 0} (contents : W → Option (List ℕ)) (a b : Counted W) → b ≡ a → Keeps (contents (device_of a)) (contents (device_of b))
same_kept contents a b same = subst (λ (w : Counted _). Keeps (contents (device_of a)) (contents (device_of w))) (sym same) (Keeps-refl (contents (device_of a)))

-- a folder's count of failed calls is the one that rose where its call failed
pub kept_counted : (refusal : Refusal) → IsDeviceFault refusal → (read read_new written written_new put put_new : ℕ)
    → (read_new ≡ read) × (written_new ≡ written) → CountsFault refusal put put_new
    → CountsOneOfThree (Err refusal) read read_new written written_new put put_new
kept_counted refusals.Device only read read_new written written_new put put_new same counted = inr (refl, same.0, same.1, counted)
kept_counted refusals.Memory only read read_new written written_new put put_new same counted = inl (same, counted)
kept_counted _ only read read_new written written_new put put_new same counted = absurd only
