use Rattle.std.proofs.Common.{◌≡◌, ◌∙◌, ◌<◌, ℕ, List, [], Some, None, Option, false, inl, length, refl, sym, ap, subst}
use Rattle.std.specs.Prelude.{IfOk, not}
use Rattle.std.specs.Io.KnownBytes.{Appends}
use Rattle.std.proofs.KnownBytes.{Appends-nil}
use Rattle.kp_types.specs.Devices.{AppendsFront, device_of}
use Rattle.kp_script.specs.Piped.{counts, fault_line}
use Rattle.kp_script.specs.Piping.{StandsCut, StandsOn}
use Rattle.kp_script.specs.Reads.{kept_of}
use Rattle.kp_script.specs.declared.pipe.Running.{Running}
use Rattle.kp_script.proofs.Answering.{is_whole, long_ok, long_whole, stands_long, stands_quiet, whole_begun, whole_cut, whole_ok}
use Rattle.kp_script.proofs.pipe.answer_line.Goals as goal

pub returns-then-line-gt-LONGEST_LINE-clause-ok : goal.returns-then-line-gt-LONGEST_LINE-clause-ok
returns-then-line-gt-LONGEST_LINE-clause-ok g c =
    long_ok c.args.line.now c.args.number c.args.running.now c.refuse_line.result (g.W.Write.contents (device_of c.args.writer.now)) (g.W.Write.contents (device_of c.refuse_line.new.writer))
    c.if-line-gt-LONGEST_LINE.true c.refuse_line.ensures.ok c.refuse_line.ensures.one

pub returns-then-line-gt-LONGEST_LINE-clause-begun : goal.returns-then-line-gt-LONGEST_LINE-clause-begun
returns-then-line-gt-LONGEST_LINE-clause-begun g c = λ e whole is. (
  1,
  fault_line c.args.number,
  stands_long c.args.number whole c.args.running.now (long_whole 2100001 2100000 whole (subst (λ (l : List ℕ). 2100000 < length l) is c.if-line-gt-LONGEST_LINE.true)),
  c.refuse_line.ensures.begun e,
)

pub returns-then-is_passed_over-clause-ok : goal.returns-then-is_passed_over-clause-ok
returns-then-is_passed_over-clause-ok g c = λ whole is.
    let quiet : counts (c.args.number, Some c.args.line.now) ≡ false = ap not (sym c.is_passed_over.ensures ∙ c.if-is_passed_over.true) in (
      [],
      subst (λ (l : List ℕ). StandsOn (c.args.number, Some l) c.args.running.now c.args.running.now 0 []) (is_whole c.args.line.now whole c.if-line-gt-LONGEST_LINE.false is)
          (stands_quiet (c.args.number, Some c.args.line.now) c.args.running.now quiet),
      Appends-nil _,
    )

pub returns-in-Some-clause-ok : goal.returns-in-Some-clause-ok
returns-in-Some-clause-ok g c =
    let before = g.W.Write.contents (device_of c.args.writer.now) in
    let after = g.W.Write.contents (device_of c.answer_event.new.writer) in
    let new : Option Running = Some c.answer_event.new.running in
    subst (λ (old : Option Running). IfOk c.answer_event.result (λ refused. (whole : List ℕ) → c.args.line.now ≡ kept_of whole → (answer : List ℕ)
    × StandsOn (c.args.number, Some whole) old new refused answer × Appends before after answer)) (sym c.in-Some.is)
    (whole_ok c.args.line.now c.args.number (Some c.in-Some.nodes) new c.answer_event.result before after c.if-line-gt-LONGEST_LINE.false c.answer_event.ensures.ok)

pub returns-in-Some-clause-begun : goal.returns-in-Some-clause-begun
returns-in-Some-clause-begun g c = λ e whole is.
    let before = g.W.Write.contents (device_of c.args.writer.now) in
    let after = g.W.Write.contents (device_of c.answer_event.new.writer) in
    let new : Option Running = Some c.answer_event.new.running in
    subst (λ (old : Option Running). (refused : ℕ) × (answer : List ℕ) × StandsOn (c.args.number, Some whole) old new refused answer × AppendsFront before after answer) (sym c.in-Some.is)
    (whole_begun c.args.line.now whole c.args.number (Some c.in-Some.nodes) new before after c.if-line-gt-LONGEST_LINE.false is (c.answer_event.ensures.begun e))

pub returns-in-Some-clause-stands : goal.returns-in-Some-clause-stands
returns-in-Some-clause-stands g c = λ e whole is.
    let new : Option Running = Some c.answer_event.new.running in
    subst (λ (old : Option Running). StandsCut (c.args.number, Some whole) old new) (sym c.in-Some.is)
    (whole_cut c.args.line.now whole c.args.number (Some c.in-Some.nodes) new c.if-line-gt-LONGEST_LINE.false is (c.answer_event.ensures.stands e))

pub returns-in-None-clause-ok : goal.returns-in-None-clause-ok
returns-in-None-clause-ok g c =
    let before = g.W.Write.contents (device_of c.args.writer.now) in
    let after = g.W.Write.contents (device_of c.answer_first.new.writer) in
    subst (λ (old : Option Running). IfOk c.answer_first.result (λ refused. (whole : List ℕ) → c.args.line.now ≡ kept_of whole → (answer : List ℕ)
    × StandsOn (c.args.number, Some whole) old c.answer_first.new.running refused answer × Appends before after answer)) (sym c.in-None.is)
    (whole_ok c.args.line.now c.args.number None c.answer_first.new.running c.answer_first.result before after c.if-line-gt-LONGEST_LINE.false c.answer_first.ensures.ok)

pub returns-in-None-clause-begun : goal.returns-in-None-clause-begun
returns-in-None-clause-begun g c = λ e whole is.
    let before = g.W.Write.contents (device_of c.args.writer.now) in
    let after = g.W.Write.contents (device_of c.answer_first.new.writer) in
    subst (λ (old : Option Running). (refused : ℕ) × (answer : List ℕ) × StandsOn (c.args.number, Some whole) old c.answer_first.new.running refused answer × AppendsFront before after answer)
    (sym c.in-None.is) (whole_begun c.args.line.now whole c.args.number None c.answer_first.new.running before after c.if-line-gt-LONGEST_LINE.false is (c.answer_first.ensures.begun e))

pub returns-in-None-clause-stands : goal.returns-in-None-clause-stands
returns-in-None-clause-stands g c = λ e whole is.
    subst (λ (old : Option Running). StandsCut (c.args.number, Some whole) old c.answer_first.new.running) (sym c.in-None.is)
    (whole_cut c.args.line.now whole c.args.number None c.answer_first.new.running c.if-line-gt-LONGEST_LINE.false is (c.answer_first.ensures.stands e))

pub returns-then-line-gt-LONGEST_LINE-clause-stands : goal.returns-then-line-gt-LONGEST_LINE-clause-stands
returns-then-line-gt-LONGEST_LINE-clause-stands g c = λ e whole is. inl refl
