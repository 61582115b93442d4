use Rattle.std.proofs.Common.{ℕ, List, [], ◌∷◌, Some, Ok, inl, refl, sym, subst, ◌∙◌}
use Rattle.std.proofs.lemmas.Result.{err_from_is_err_and}
use Rattle.std.specs.Io.KnownBytes.{Appends}
use Rattle.kp_types.specs.Devices.{AppendsFront, IsDeviceFault, device_of}
use Rattle.kp_script.specs.Call.{Call, IsCall}
use Rattle.kp_script.specs.Piped.{fault_line}
use Rattle.kp_script.specs.Playing.{PlaysOne, Reaches}
use Rattle.kp_script.specs.Seen.{seen_call}
use Rattle.kp_script.proofs.Answering.{event_begun, event_cut, event_played, stands_wrong, wrong_answered}
use Rattle.kp_script.proofs.Played.{one_out, out_written, reaches_all}
use Rattle.kp_script.proofs.Refusing.{memory_alone}
use Rattle.kp_script.proofs.pipe.answer_event.Goals as goal

pub play_line-requires : goal.play_line-requires
play_line-requires g c = (
  subst (λ (count : ℕ). IsCall count (seen_call c.in-Some.call)) (sym c.requires.nodes.0) c.in-Some.ensures.found.0,
  subst (λ (first : ℕ). Reaches first (seen_call c.in-Some.call)) (sym c.requires.nodes.1) (reaches_all (seen_call c.in-Some.call)),
)

pub returns-in_err-refused-in-Some : goal.returns-in_err-refused-in-Some
returns-in_err-refused-in-Some g c =
    let r = c.in_err-refused-in-Some.field-0.0 in
    let q = err_from_is_err_and c.from_residual.result c.from_residual.ensures.1 in
    rw (q.1, q.2) (record {
      ok = tt;
      begun = λ e. absurd (memory_alone r c.in_err-refused-in-Some.ensures.only (cc));
      untouched = λ e. refl;
      stands = λ e. event_cut c.args.number c.args.line.now (seen_call c.in-Some.call) c.args.running.now c.play_line.new.world c.requires.counts c.in-Some.ensures.found c.in_err-refused-in-Some.ensures.cut;
      nodes = (c.play_line.ensures.nodes ∙ c.requires.nodes.0, c.play_line.ensures.first ∙ c.requires.nodes.1);
      few = tt;
      only = subst IsDeviceFault (sym c.in_err-refused-in-Some.ensures.only) tt;
      counted = rw c.in_err-refused-in-Some.ensures.only refl;
    })

pub returns-in_ok-write_all-in-Some-clause-ok : goal.returns-in_ok-write_all-in-Some-clause-ok
returns-in_ok-write_all-in-Some-clause-ok g c =
    let call : ℕ × Call = (c.args.number, seen_call c.in-Some.call) in
    let refused = c.in_ok-refused-in-Some.refused in
    let before = g.W.Write.contents (device_of c.args.writer.now) in
    let after = g.W.Write.contents (device_of c.write_all.new.self) in
    let text : List ℕ = c.play_line.new.work.text.items in
    let one = one_out call c.args.running.now.world c.play_line.new.world refused text
    (subst (λ (front : List ℕ). PlaysOne call c.args.running.now.world c.play_line.new.world refused front text) c.clear.ensures.items c.in_ok-refused-in-Some.ensures.played) in
    event_played c.args.number c.args.line.now (seen_call c.in-Some.call) c.args.running.now (record { count = c.args.running.now.count; world = c.play_line.new.world }) (Ok refused) before after
    c.requires.counts c.in-Some.ensures.found
    (out_written (call ∷ []) c.args.running.now.world c.play_line.new.world refused text before after one (subst (Appends before after) c.deref.ensures.value c.in_ok-write_all-in-Some.ensures.ok)) refl

pub returns-in_err-write_all-in-Some-clause-begun : goal.returns-in_err-write_all-in-Some-clause-begun
returns-in_err-write_all-in-Some-clause-begun g c = λ e.
    let call : ℕ × Call = (c.args.number, seen_call c.in-Some.call) in
    let refused = c.in_ok-refused-in-Some.refused in
    let before = g.W.Write.contents (device_of c.args.writer.now) in
    let after = g.W.Write.contents (device_of c.write_all.new.self) in
    let text : List ℕ = c.play_line.new.work.text.items in
    let one = one_out call c.args.running.now.world c.play_line.new.world refused text
    (subst (λ (front : List ℕ). PlaysOne call c.args.running.now.world c.play_line.new.world refused front text) c.clear.ensures.items c.in_ok-refused-in-Some.ensures.played) in
    event_begun c.args.number c.args.line.now (seen_call c.in-Some.call) c.args.running.now c.play_line.new.world refused text before after c.requires.counts c.in-Some.ensures.found one
    (subst (AppendsFront before after) c.deref.ensures.value c.in_err-write_all-in-Some.ensures.err)

pub returns-in_err-write_all-in-Some-clause-stands : goal.returns-in_err-write_all-in-Some-clause-stands
returns-in_err-write_all-in-Some-clause-stands g c = λ e.
    let q = err_from_is_err_and c.from_residual-in_err-write_all-in-Some.result c.from_residual-in_err-write_all-in-Some.ensures.1 in
    absurd (memory_alone c.in_err-write_all-in-Some.field-0.0 (cc) c.in_err-write_all-in-Some.ensures.only)

pub returns-in_err-write_all-in-Some-clause-untouched : goal.returns-in_err-write_all-in-Some-clause-untouched
returns-in_err-write_all-in-Some-clause-untouched g c = λ e.
    let q = err_from_is_err_and c.from_residual-in_err-write_all-in-Some.result c.from_residual-in_err-write_all-in-Some.ensures.1 in
    absurd (memory_alone c.in_err-write_all-in-Some.field-0.0 (cc) c.in_err-write_all-in-Some.ensures.only)

pub returns-in_err-write_all-in-Some-clause-only : goal.returns-in_err-write_all-in-Some-clause-only
returns-in_err-write_all-in-Some-clause-only g c =
    let q = err_from_is_err_and c.from_residual-in_err-write_all-in-Some.result c.from_residual-in_err-write_all-in-Some.ensures.1 in
    rw (q.1, q.2, c.in_err-write_all-in-Some.ensures.only) tt

pub returns-in_err-write_all-in-Some-clause-counted : goal.returns-in_err-write_all-in-Some-clause-counted
returns-in_err-write_all-in-Some-clause-counted g c =
    let q = err_from_is_err_and c.from_residual-in_err-write_all-in-Some.result c.from_residual-in_err-write_all-in-Some.ensures.1 in
    rw (q.1, q.2) c.in_err-write_all-in-Some.ensures.counted

pub returns-in-None-clause-ok : goal.returns-in-None-clause-ok
returns-in-None-clause-ok g c =
    let stands = stands_wrong (c.args.number, Some c.args.line.now) c.args.running.now c.requires.counts c.in-None.ensures.none in
    wrong_answered c.args.number (Some c.args.line.now) (Some c.args.running.now) (Some c.args.running.now) c.refuse_line.result (g.W.Write.contents (device_of c.args.writer.now)) (g.W.Write.contents (device_of c.refuse_line.new.writer)) stands
    c.refuse_line.ensures.ok c.refuse_line.ensures.one

pub returns-in-None-clause-begun : goal.returns-in-None-clause-begun
returns-in-None-clause-begun g c = λ e. (
  1,
  fault_line c.args.number,
  stands_wrong (c.args.number, Some c.args.line.now) c.args.running.now c.requires.counts c.in-None.ensures.none,
  c.refuse_line.ensures.begun e,
)

pub returns-in-None-clause-stands : goal.returns-in-None-clause-stands
returns-in-None-clause-stands g c = λ e. inl refl
