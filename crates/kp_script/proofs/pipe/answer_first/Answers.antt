use Rattle.std.proofs.Common.{ℕ, List, [], None, Some, Option, sym, subst, inl, inr}
use Rattle.std.specs.Prelude.{IfOk}
use Rattle.std.specs.Io.KnownBytes.{Appends}
use Rattle.std.proofs.KnownBytes.{Appends-nil}
use Rattle.kp_types.specs.Devices.{device_of}
use Rattle.kp_script.specs.Piped.{fault_line}
use Rattle.kp_script.specs.Piping.{StandsOn}
use Rattle.kp_script.specs.Seen.{seen_header}
use Rattle.kp_script.specs.declared.pipe.Running.{Running}
use Rattle.kp_script.proofs.Answering.{stands_faulty, stands_header, wrong_answered}
use Rattle.kp_script.proofs.pipe.answer_first.Goals as goal

pub returns-in-Ok-clause-ok : goal.returns-in-Ok-clause-ok
returns-in-Ok-clause-ok g c = (
  [],
  stands_header c.args.number c.args.line.now (seen_header c.in-Some.header) c.in-Ok.nodes c.requires.counts c.in-Some.ensures.found c.in-Ok.ensures.count c.in-Ok.ensures.shown,
  Appends-nil _,
)

pub returns-in-None-clause-ok : goal.returns-in-None-clause-ok
returns-in-None-clause-ok g c =
    let stands = stands_faulty (c.args.number, Some c.args.line.now) c.requires.counts (inr c.in-None.ensures.none) in
    let before = g.W.Write.contents (device_of c.args.writer.now) in
    let after = g.W.Write.contents (device_of c.refuse_line.new.writer) in
    subst (λ (running : Option Running). IfOk c.refuse_line.result (λ refused. (answer : List ℕ)
    × StandsOn (c.args.number, Some c.args.line.now) None running refused answer × Appends before after answer)) (sym c.requires.none)
    (wrong_answered c.args.number (Some c.args.line.now) None None c.refuse_line.result before after stands c.refuse_line.ensures.ok c.refuse_line.ensures.one)

pub returns-in-None-clause-begun : goal.returns-in-None-clause-begun
returns-in-None-clause-begun g c = λ e. (
  1,
  fault_line c.args.number,
  subst (λ (running : Option Running). StandsOn (c.args.number, Some c.args.line.now) None running 1 (fault_line c.args.number)) (sym c.requires.none)
      (stands_faulty (c.args.number, Some c.args.line.now) c.requires.counts (inr c.in-None.ensures.none)),
  c.refuse_line.ensures.begun e,
)

pub returns-in-None-clause-stands : goal.returns-in-None-clause-stands
returns-in-None-clause-stands g c = λ e. inl c.requires.none

pub returns-in-Err-clause-stands : goal.returns-in-Err-clause-stands
returns-in-Err-clause-stands g c = λ e. inl c.requires.none
