use Rattle.std.proofs.Common.{◌≡◌, ◌∙◌, ◌⊎◌, refl, sym, subst, map, string_bytes, List, Result, Ok, Err}
use Rattle.clap.specs.Words.{IsAmong, Text, fault_of, subcommand_of}
use Rattle.clap.specs.declared.error.kind.ErrorKind.{ErrorKind}
use Rattle.clap.specs.declared.error.kind.ErrorKind.TheVariants as kinds
use Rattle.kp_cli.specs.Line.{IsCallOf, kpart}
use Rattle.kp_cli.specs.Program.{Asks, IsAsked, Mistakes, Unread}
use Rattle.kp_cli.specs.declared.call.Call.{Call}
use Rattle.kp_cli.specs.declared.fault.Fault.{Fault}
use Rattle.kp_cli.proofs.program.main_with.Goals as goal

asked_call : {A : Type 0} (texts : A → List Text) (words : Result A Fault) (read : A) (call : Call) → words ≡ Ok read
    → IsCallOf (subcommand_of kpart (texts read)) call → IsAsked texts words (Asks call)
asked_call texts words read call is asks = subst (λ w. IsAsked texts w (Asks call)) (sym is) asks

asked_mistaken : {A : Type 0} (texts : A → List Text) (words : Result A Fault) (read : A) (kind : ErrorKind) → words ≡ Ok read
    → ((kind ≡ kinds.OutOfMemory) ⊎ IsAmong kind (fault_of kpart (texts read))) → IsAsked texts words (Mistakes kind)
asked_mistaken texts words read kind is fails = subst (λ w. IsAsked texts w (Mistakes kind)) (sym is) fails

unread : {A : Type 0} (texts : A → List Text) (words : Result A Fault) (fault : Fault) → words ≡ Err fault → IsAsked texts words (Unread fault)
unread texts words fault is = subst (λ w. IsAsked texts w (Unread fault)) (sym is) refl

pub returns-in-Err : goal.returns-in-Err
returns-in-Err g c = (
  Unread c.in-Err.fault,
  unread (λ all. map string_bytes all.items) c.args.words c.in-Err.fault c.in-Err.is,
  ((c.leave.ensures.file, c.leave.ensures.folder), refl, c.refuse_words.ensures.told, c.leave.ensures.status ∙ c.refuse_words.ensures.status),
)

pub returns-in-Err-call_of : goal.returns-in-Err-call_of
returns-in-Err-call_of g c = (
  Mistakes c.kind.result,
  asked_mistaken (λ all. map string_bytes all.items) c.args.words c.in-Ok.words c.kind.result c.in-Ok.is
      (subst (λ (k : ErrorKind). (k ≡ kinds.OutOfMemory) ⊎ IsAmong k (fault_of kpart (map string_bytes c.in-Ok.words.items))) (sym c.kind.ensures)
      (subst (λ items. (c.in-Err-call_of.error.kind ≡ kinds.OutOfMemory) ⊎ IsAmong c.in-Err-call_of.error.kind (fault_of kpart (map string_bytes items)))
      c.as_slice.ensures.value c.in-Err-call_of.ensures.kinds)),
  ((c.leave-in-Err-call_of.ensures.file, c.leave-in-Err-call_of.ensures.folder), rw c.leave-in-Err-call_of.ensures.status c.explain-status.ensures),
)

pub returns-in-Ok-call_of : goal.returns-in-Ok-call_of
returns-in-Ok-call_of g c =
    let call = c.in-Ok-call_of.call in (
      Asks call,
      asked_call (λ all. map string_bytes all.items) c.args.words c.in-Ok.words call c.in-Ok.is
          (subst (λ items. IsCallOf (subcommand_of kpart (map string_bytes items)) call) c.as_slice.ensures.value c.in-Ok-call_of.ensures.call),
      c.called.ensures,
    )
