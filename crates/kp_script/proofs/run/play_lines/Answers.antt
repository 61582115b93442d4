use Rattle.std.proofs.Common.{◌≡◌, ◌∙◌, ℕ, ◌+◌, ◌<◌, List, ◌∷◌, ◌++◌, [], take, drop, length, length-drop, get_or, refl, sym, ap, subst, arith}
use Rattle.std.proofs.lemmas.List.{get_or-drop, take_more}
use Rattle.std.proofs.lemmas.Result.{err_from_is_err_and}
use Rattle.std.specs.Io.KnownBytes.{Appends}
use Rattle.kp_types.specs.Devices.{AppendsFront, IsDeviceFault, device_of}
use Rattle.kp_script.specs.Call.{Call, Elect, IsCall}
use Rattle.kp_script.specs.Playing.{MayPlay, PlayedOut, Reaches}
use Rattle.kp_script.proofs.Played.{out_begun, out_more, out_none, out_written}
use Rattle.kp_script.proofs.Refusing.{memory_alone}
use Rattle.kp_script.proofs.Telling.{each_at}
use Rattle.kp_script.proofs.run.play_lines.Goals as goal

pub loop-played-init : goal.loop-played-init
loop-played-init g c = record {
  within = omega arith;
  out = subst (PlayedOut [] c.args.world.now c.args.world.now 0) (sym c.clear.ensures.items) (out_none c.args.world.now);
  nodes = refl;
  first = refl;
  few = omega arith;
}

pub play_at-requires-clause-call : goal.play_at-requires-clause-call
play_at-requires-clause-call g c = λ other.
    let calls = drop c.args.from c.args.section.now in
    let inside : c.loop-played.played < length calls = omega (arith, c.loop-played-test.true, length-drop c.args.from c.args.section.now) in
    let old = c.args.world.now in
    let may : MayPlay old (get_or c.args.section.now (c.args.from + c.loop-played.played) other).1 =
    subst (λ (call : ℕ × Call). MayPlay old call.1) (get_or-drop c.args.from c.args.section.now c.loop-played.played other)
    (each_at (λ call. MayPlay old call.1) calls c.loop-played.played other c.requires.calls inside) in (
      subst (λ (n : ℕ). IsCall n (get_or c.args.section.now (c.args.from + c.loop-played.played) other).1) (sym c.loop-played.invariant.nodes) may.0,
      subst (λ (n : ℕ). Reaches n (get_or c.args.section.now (c.args.from + c.loop-played.played) other).1) (sym c.loop-played.invariant.first) may.1,
    )

pub overflow_add-refused : goal.overflow_add-refused
overflow_add-refused g c = omega (arith, c.loop-played.invariant.few, (c.in_ok-refused.ensures (0, Elect 0)).few)

pub loop-played-preserved : goal.loop-played-preserved
loop-played-preserved g c =
    let k = c.loop-played.played in
    let calls : List (ℕ × Call) = drop c.args.from c.args.section.now in
    let other : ℕ × Call = (0, Elect 0) in
    let call : ℕ × Call = get_or c.args.section.now (c.args.from + k) other in
    let one = c.in_ok-refused.ensures other in
    let more : take (k + 1) calls ≡ take k calls ++ call ∷ [] =
    take_more calls k other (omega (arith, c.loop-played-test.true, length-drop c.args.from c.args.section.now))
    ∙ ap (λ (l : ℕ × Call). take k calls ++ l ∷ []) (get_or-drop c.args.from c.args.section.now k other) in
    record {
      within = omega (arith, c.loop-played-test.true);
      out =
          subst (λ (calls : List (ℕ × Call)). PlayedOut calls c.args.world.now c.play_at.new.world (c.loop-played.refused + c.in_ok-refused.field-0) c.play_at.new.work.text.items) (sym more)
          (out_more (take k calls) call c.args.world.now c.loop-played.world c.play_at.new.world c.loop-played.refused c.in_ok-refused.field-0 c.loop-played.work.text.items
          c.play_at.new.work.text.items c.loop-played.invariant.out one.played);
      nodes = one.nodes ∙ c.loop-played.invariant.nodes;
      first = one.first ∙ c.loop-played.invariant.first;
      few = omega (arith, c.loop-played.invariant.few, one.few);
    }

pub returns-in_err-refused : goal.returns-in_err-refused
returns-in_err-refused g c =
    let q = err_from_is_err_and c.from_residual.result c.from_residual.ensures.1 in
    let one = c.in_err-refused.ensures (0, Elect 0) in
    rw (q.1, q.2) (record {
      played = tt;
      some = tt;
      within = tt;
      fits = tt;
      few = tt;
      begun = λ e. absurd (memory_alone c.in_err-refused.field-0.0 one.only cc);
      untouched = λ e. refl;
      nodes = one.nodes ∙ c.loop-played.invariant.nodes;
      first = one.first ∙ c.loop-played.invariant.first;
      only = subst IsDeviceFault (sym one.only) tt;
      counted = rw one.only refl;
    })

pub returns-in_err-write_all : goal.returns-in_err-write_all
returns-in_err-write_all g c =
    let q = err_from_is_err_and c.from_residual-in_err-write_all.result c.from_residual-in_err-write_all.ensures.1 in
    let before = g.W.Write.contents (device_of c.args.writer.now) in
    let after = g.W.Write.contents (device_of c.write_all.new.self) in
    rw (q.1, q.2) (record {
      played = tt;
      some = tt;
      within = tt;
      fits = tt;
      few = tt;
      begun = λ e. (
        c.loop-played.played,
        omega (arith, c.loop-played.invariant.within),
        out_begun _ c.args.world.now c.loop-played.world c.loop-played.refused _ before after c.loop-played.invariant.out
            (subst (AppendsFront before after) c.deref.ensures.value c.in_err-write_all.ensures.err),
      );
      untouched = λ e. absurd (memory_alone c.in_err-write_all.field-0.0 (cc) c.in_err-write_all.ensures.only);
      nodes = c.loop-played.invariant.nodes;
      first = c.loop-played.invariant.first;
      only = subst IsDeviceFault (sym c.in_err-write_all.ensures.only) tt;
      counted = c.in_err-write_all.ensures.counted;
    })

pub returns-clause-played : goal.returns-clause-played
returns-clause-played g c =
    let before = g.W.Write.contents (device_of c.args.writer.now) in
    let after = g.W.Write.contents (device_of c.write_all.new.self) in
    out_written _ c.args.world.now c.loop-played.world c.loop-played.refused _ before after c.loop-played.invariant.out
    (subst (Appends before after) c.deref.ensures.value c.in_ok-write_all.ensures.ok)
