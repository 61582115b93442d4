-- How many events were refused, as their answers say it.
use mir.Val.{bool_byte}
use Rattle.std.proofs.Common.{◌≡◌, ℕ, ◌+◌, ◌≤◌, Bool, true, false, cond, List, [], ◌∷◌, ◌++◌, Result, Ok, Err, refl, sym, ap, ◌∙◌, subst, arith}
use Rattle.std.specs.Prelude.{is_err}
use Rattle.std.proofs.lemmas.Bool.{cond_both}
use Rattle.kp_types.specs.declared.refusal.Refusal.{Refusal}
use Rattle.kp_types.specs.declared.refusal.Refusal.TheVariants.{Memory}
use Rattle.kp_model.specs.Calls.{said_reply}
use Rattle.kp_model.specs.Event.{At, DuplicateOf, Outcome, Reply}
use Rattle.kp_model.specs.declared.message.Said.{Said}
use Rattle.kp_model.specs.declared.message.Said.TheVariants.{AsksFrom}
use Rattle.kp_replica.specs.Acts.{answer_reply}
use Rattle.kp_replica.specs.declared.act.Answer.{Answer}
use Rattle.kp_replica.specs.declared.act.Answer.TheVariants.{Adopted, Appended}
use Rattle.kp_replica.specs.declared.adopting.Role.TheVariants.{Leads, Follows}
use Rattle.kp_replica.specs.declared.producing.Receipt.{Receipt}
use Rattle.kp_world.specs.Answers.{appended, outcome_of}
use Rattle.kp_world.specs.declared.event.EventAnswer.{EventAnswer}
use Rattle.kp_world.specs.declared.event.EventAnswer.TheVariants.{Changed, Sent, Answered}
use Rattle.kp_script.specs.Playing.{TellsLine}
use Rattle.kp_script.specs.Trace.{trace_line}
use Rattle.kp_script.specs.Transcript.{is_refusal, refusals_in}

message_told : (said : Said) → is_refusal (said_reply said) ≡ false
message_told (AsksFrom offset last) = refl
message_told _ = refl

answer_told : (answer : Answer) → is_refusal (answer_reply answer) ≡ false
answer_told (Adopted (Leads epoch start)) = refl
answer_told (Adopted (Follows leader epoch)) = refl
answer_told (Appended receipt) =
    cond_both receipt.duplicate (DuplicateOf receipt.base) (At receipt.base) (λ (r : Reply). is_refusal r ≡ false) (λ e. refl) (λ e. refl)
answer_told _ = refl

refusal_told : (o : Result EventAnswer Refusal) → is_refusal (outcome_of o).reply ≡ is_err o
refusal_told (Ok (Changed controller)) = refl
refusal_told (Ok (Sent number said)) = message_told said
refusal_told (Ok (Answered answer)) = answer_told answer
refusal_told (Err refusal) = refl

-- what is told of a receipt is refused where it is
pub receipt_refused : (r : Result Receipt Refusal) → is_err r ≡ is_err (appended r)
receipt_refused (Ok receipt) = refl
receipt_refused (Err refusal) = refl

-- a flag as a number
flag_number : (b : Bool) → bool_byte b ≡ 0 + cond b 1 0
flag_number true = refl
flag_number false = refl

one_refused : (o : Result EventAnswer Refusal) (b : Bool) (n : ℕ) → n ≡ bool_byte b → b ≡ is_err o → n ≡ refusals_in (outcome_of o ∷ [])
one_refused o b n e f = e ∙ ap bool_byte (f ∙ sym (refusal_told o)) ∙ flag_number (is_refusal (outcome_of o).reply)

flag_few : (b : Bool) → bool_byte b ≤ 1
flag_few true = omega arith
flag_few false = omega arith

-- the line that is told of an answer
pub line_of : (number node : ℕ) (o : Result EventAnswer Refusal) (before after : List ℕ) (b : Bool) (n : ℕ) → after ≡ before ++ trace_line number node (outcome_of o) → n ≡ bool_byte b → b ≡ is_err o
    → TellsLine number node (outcome_of o) before after (Ok n)
line_of number node o before after b n text e f = record { told = (text, one_refused o b n e f); few = subst (λ (m : ℕ). m ≤ 1) (sym e) (flag_few b); only = tt }

-- and a want of memory, with whatever text
pub line_lost : (number node : ℕ) (o : Outcome) (before after : List ℕ) (refusal : Refusal) → refusal ≡ Memory → TellsLine number node o before after (Err refusal)
line_lost number node o before after refusal memory = record { told = tt; few = tt; only = memory }
