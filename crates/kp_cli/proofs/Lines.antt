-- How a path is shown, and which second line a refusal has.
use Rattle.std.proofs.Common.{◌≡◌, ◌⊎◌, ◌∙◌, ◌++◌, ℕ, Bool, cond, List, [], ap, codes, sym, subst, refl, append-nil, Option, Result, Ok, Err, OnOk, OnErr, inl, inr}
use Rattle.std.proofs.lemmas.Bool.{eq-eqb}
use Rattle.clap.specs.declared.error.kind.ErrorKind.{ErrorKind}
use Rattle.clap.specs.declared.error.kind.ErrorKind.TheVariants as kinds
use Rattle.kp_types.specs.declared.counted.Counted.{Counted}
use Rattle.kp_types.specs.Devices.{AppendsFront, CountsFault, IsBegun, IsOut, Tells, device_of, faults_of}
use Rattle.kp_types.specs.declared.refusal.Refusal.{Refusal}
use Rattle.kp_types.specs.declared.refusal.Refusal.TheVariants as refusals
use Rattle.kp_folder.specs.Bad.{refusal_of as refusal_of_folder}
use Rattle.kp_folder.specs.declared.fault.FolderFault.{FolderFault}
use Rattle.kp_folder.specs.declared.fault.FolderFault.TheVariants.{NoMemory}
use Rattle.kp_cli.specs.Faults.{refusal_of}
use Rattle.kp_cli.specs.Left.{fault_place, fault_told, folder_complaint}
use Rattle.kp_cli.specs.Program.{Explains, words_complaint, words_status}
use Rattle.kp_cli.specs.Told.{Prints, complaint, reason_of, reason, shown, status_of_refusal}
use Rattle.kp_cli.specs.declared.fault.Fault.{Fault}
use Rattle.kp_cli.specs.declared.fault.Fault.TheVariants as faults

-- where no call failed there is no second line
pub no_reason : {T : Type 0} (fault : T → Fault) (path : List ℕ) (faults : ℕ) (left : Counted T) → faults_of left ≡ faults
    → reason_of fault path faults left ≡ []
no_reason fault path faults left same =
    ap (λ (b : Bool). cond b [] (reason path (fault left.inner))) (eq-eqb (faults_of left) faults same)

-- words that can't be read for another reason than their bytes
pub other_words : (fault : Fault) → (fault ≡ faults.NotText → ⊥) → words_complaint fault ≡ complaint (refusal_of fault)
other_words faults.NotText other = absurd (other refl)
other_words _ other = refl

pub other_status : (fault : Fault) → (fault ≡ faults.NotText → ⊥) → words_status fault ≡ 1
other_status faults.NotText other = absurd (other refl)
other_status _ other = refl

pub other_refusal : (fault : Fault) → status_of_refusal (refusal_of fault) ≡ 1
other_refusal faults.OutOfMemory = refl
other_refusal _ = refl

-- what is told, by the path and the count that it was told by
pub told_since : {T E : Type 0} (fault : T → Fault) (contents : E → Option (List ℕ)) (err err_new : Counted E) (refusal : Refusal) (left : Counted T)
    (path path_too : List ℕ) (faults faults_too : ℕ) → path ≡ path_too → faults ≡ faults_too
    → Tells contents err err_new (complaint refusal ++ reason_of fault path faults left)
    → Tells contents err err_new (complaint refusal ++ reason_of fault path_too faults_too left)
told_since fault contents err err_new refusal left path path_too faults faults_too same_path same_count told =
    subst (λ (p : List ℕ). Tells contents err err_new (complaint refusal ++ reason_of fault p faults_too left)) same_path
    (subst (λ (n : ℕ). Tells contents err err_new (complaint refusal ++ reason_of fault path n left)) same_count told)

-- there is no reason
pub told_alone : {E : Type 0} (contents : E → Option (List ℕ)) (err err_new : Counted E) (refusal : Refusal) (second : List ℕ) → second ≡ []
    → Tells contents err err_new (complaint refusal) → Tells contents err err_new (complaint refusal ++ second)
told_alone contents err err_new refusal second none told =
    subst (λ (l : List ℕ). Tells contents err err_new l) (sym (ap (λ (l : List ℕ). complaint refusal ++ l) none ∙ append-nil (complaint refusal))) told

-- of two reasons the second is none
pub told_first : {E : Type 0} (contents : E → Option (List ℕ)) (err err_new : Counted E) (refusal : Refusal) (first second : List ℕ) → second ≡ []
    → Tells contents err err_new (complaint refusal ++ first) → Tells contents err err_new (complaint refusal ++ (first ++ second))
told_first contents err err_new refusal first second none told =
    subst (λ (l : List ℕ). Tells contents err err_new (complaint refusal ++ l)) (sym (ap (λ (l : List ℕ). first ++ l) none ∙ append-nil first)) told

-- or the first
pub told_second : {E : Type 0} (contents : E → Option (List ℕ)) (err err_new : Counted E) (refusal : Refusal) (first second : List ℕ) → first ≡ []
    → Tells contents err err_new (complaint refusal ++ second) → Tells contents err err_new (complaint refusal ++ (first ++ second))
told_second contents err err_new refusal first second none told =
    subst (λ (l : List ℕ). Tells contents err err_new (complaint refusal ++ l)) (sym (ap (λ (l : List ℕ). l ++ second) none)) told

-- a text is told, by a call's answer
pub tells : {T X Y : Type 0} (contents : T → Option (List ℕ)) (a b : Counted T) (text : List ℕ) (r : Result X Y) → OnOk r (IsOut contents a b text)
    → OnErr r (IsBegun contents a b text) → Tells contents a b text
tells contents a b text (Ok x) out begun = inl out
tells contents a b text (Err y) out begun = inr begun

-- a text of which a beginning is out
pub print_failed : {W E : Type 0} (held : W → Option (List ℕ)) (told : E → Option (List ℕ)) (text bytes : List ℕ) (wanted : ℕ) (out out_new : Counted W) (err err_new : Counted E)
    (refusal : Refusal) (status : ℕ) → bytes ≡ text → refusal ≡ refusals.Device
    → AppendsFront (held (device_of out)) (held (device_of out_new)) bytes → CountsFault refusal (faults_of out) (faults_of out_new)
    → Tells told err err_new (complaint refusal) → status ≡ status_of_refusal refusal → Prints held told text wanted out out_new err err_new status
print_failed held told text bytes wanted out out_new err err_new refusal status same device front counted complains is =
    inr (
      (
        subst (AppendsFront (held (device_of out)) (held (device_of out_new))) same front,
        subst (λ (r : Refusal). CountsFault r (faults_of out) (faults_of out_new)) device counted,
      ),
      subst (λ (r : Refusal). Tells told err err_new (complaint r)) device complains,
      is ∙ ap status_of_refusal device,
    )

-- what help and the version leave is what their kinds do
pub helps : {W E : Type 0} (held : W → Option (List ℕ)) (told : E → Option (List ℕ)) (kind : ErrorKind) (text : List ℕ) (out out_new : Counted W) (err err_new : Counted E)
    (status : ℕ) → (kind ≡ kinds.DisplayHelp) ⊎ (kind ≡ kinds.DisplayVersion) → Prints held told text 0 out out_new err err_new status
    → Explains held told kind text out out_new err err_new status
helps held told kind text out out_new err err_new status (inl is) said =
    subst (λ (k : ErrorKind). Explains held told k text out out_new err err_new status) (sym is) said
helps held told kind text out out_new err err_new status (inr is) said =
    subst (λ (k : ErrorKind). Explains held told k text out out_new err err_new status) (sym is) said

-- a text, piece by piece
pub by_pieces : (P : List ℕ → Type 0) (a b c d e f g h i j a2 b2 c2 d2 e2 f2 g2 h2 i2 j2 : List ℕ) → a ≡ a2 → b ≡ b2 → c ≡ c2 → d ≡ d2 → e ≡ e2 → f ≡ f2 → g ≡ g2 → h ≡ h2 → i ≡ i2 → j ≡ j2
    → P (a ++ (b ++ (c ++ (d ++ (e ++ (f ++ (g ++ (h ++ (i ++ (j ++ ([]))))))))))) → P (a2 ++ (b2 ++ (c2 ++ (d2 ++ (e2 ++ (f2 ++ (g2 ++ (h2 ++ (i2 ++ (j2))))))))))
by_pieces P a b c d e f g h i j a2 b2 c2 d2 e2 f2 g2 h2 i2 j2 is-a is-b is-c is-d is-e is-f is-g is-h is-i is-j holds =
    subst P (λ at. is-a at ++ (is-b at ++ (is-c at ++ (is-d at ++ (is-e at ++ (is-f at ++ (is-g at ++ (is-h at ++ (is-i at ++ ((append-nil j ∙ is-j) at)))))))))) holds

-- ---- a folder's fault

-- a fault that lies in a file
pub other_fault : (from : List ℕ) (why : Fault) (fault : FolderFault) → (fault ≡ NoMemory → ⊥)
    → folder_complaint from why fault
    ≡ complaint (refusal_of_folder fault) ++ (codes "kpart: " ++ (shown from ++ fault_place fault (codes ": " ++ (fault_told why fault ++ codes "\n"))))
other_fault from why NoMemory other = absurd (other refl)
other_fault from why _ other = refl
