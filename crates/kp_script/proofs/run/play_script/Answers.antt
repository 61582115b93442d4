use Rattle.std.proofs.Common.{inl, refl, subst}
use Rattle.std.proofs.lemmas.Result.{IfOk-weaker, err_from_is_err_and}
use Rattle.std.proofs.KnownBytes.{Keeps-refl}
use Rattle.kp_types.specs.Devices.{device_of}
use Rattle.kp_types.specs.declared.limits.Limits.{Limits}
use Rattle.kp_model.specs.World.{start}
use Rattle.kp_world.specs.Shown.{IsShown}
use Rattle.kp_world.proofs.Delivered.{on_err}
use Rattle.kp_world.proofs.Playing.{reached_none}
use Rattle.kp_script.specs.Ended.{limits_in}
use Rattle.kp_script.specs.Parsed.{seen_script}
use Rattle.kp_script.specs.Playing.{LedTo}
use Rattle.kp_script.specs.Transcript.{no_past}
use Rattle.kp_script.proofs.Played.{all_may_play, writes_after, writes_first_of, writes_front}
use Rattle.kp_script.proofs.Refusing.{counted_after, no_line_at_fault, only_by_run, reader_counted}
use Rattle.kp_script.proofs.run.play_script.Goals as goal

pub returns-in_err-script : goal.returns-in_err-script
returns-in_err-script g c =
    let r = c.in_err-script.field-0.0 in
    let q = err_from_is_err_and c.from_residual.result c.from_residual.ensures.1 in
    rw (q.1, q.2) (record {
      played = tt;
      limited = tt;
      fault = λ line e. c.in_err-script.ensures.fault line cc;
      untouched = λ line e. refl;
      first = λ e. inl (Keeps-refl _);
      front = inl (Keeps-refl _);
      only = c.in_err-script.ensures.only;
      counted = reader_counted r _ _ _ c.in_err-script.ensures.counted;
    })

pub returns-in_err-world : goal.returns-in_err-world
returns-in_err-world g c =
    let q = err_from_is_err_and c.from_residual-in_err-world.result c.from_residual-in_err-world.ensures.1 in
    rw (q.1, q.2) (record {
      played = tt;
      limited = tt;
      fault = λ line e. absurd cc;
      untouched = λ line e. refl;
      first = λ e. inl (Keeps-refl _);
      front = inl (Keeps-refl _);
      only = tt;
      counted = (c.in_ok-script.ensures.counted, refl);
    })

pub play_on-requires-clause-header : goal.play_on-requires-clause-header
play_on-requires-clause-header g c = c.in_ok-script.ensures.found.spelled.header

pub play_on-requires-clause-few : goal.play_on-requires-clause-few
play_on-requires-clause-few g c = c.in_ok-script.ensures.found.spelled.few

pub play_on-requires-clause-calls : goal.play_on-requires-clause-calls
play_on-requires-clause-calls g c =
    all_may_play c.in_ok-world.world c.in_ok-script.script.header.count (seen_script c.in_ok-script.script).calls c.in_ok-world.ensures.count c.in_ok-world.ensures.first
    c.in_ok-script.ensures.found.spelled.calls

pub returns-clause-played : goal.returns-clause-played
returns-clause-played g c =
    let found = c.in_ok-script.ensures.found in
    let script = seen_script c.in_ok-script.script in
    let led : LedTo no_past script.header c.in_ok-world.world =
    reached_none script.header.count (limits_in script.header) c.in_ok-world.world
    (subst (λ (l : Limits). IsShown l c.in_ok-world.world (start script.header.count)) c.limits_of.ensures c.in_ok-world.ensures.shown) in
    IfOk-weaker c.play_on.result _ _ (λ ended all.
    writes_after c.runs_are_safe.ensures c.no_delivery_is_refused_oddly.ensures no_past (g.R.Read.remaining (device_of c.args.reader.now)) found.bytes script ended
    (g.W.Write.contents (device_of c.args.writer.now)) (g.W.Write.contents (device_of c.play_on.new.writer)) found.same found.spelled (all no_past led)) c.play_on.ensures.played

pub returns-clause-limited : goal.returns-clause-limited
returns-clause-limited g c =
    let script = seen_script c.in_ok-script.script in
    let led : LedTo no_past script.header c.in_ok-world.world =
    reached_none script.header.count (limits_in script.header) c.in_ok-world.world
    (subst (λ (l : Limits). IsShown l c.in_ok-world.world (start script.header.count)) c.limits_of.ensures c.in_ok-world.ensures.shown) in
    IfOk-weaker c.play_on.result _ _ (λ ended all. all no_past led tt) c.play_on.ensures.limited

pub returns-clause-fault : goal.returns-clause-fault
returns-clause-fault g c = λ line e. absurd (no_line_at_fault c.play_on.result line c.play_on.ensures.only e)

pub returns-clause-untouched : goal.returns-clause-untouched
returns-clause-untouched g c = λ line e. absurd (no_line_at_fault c.play_on.result line c.play_on.ensures.only e)

pub returns-clause-first : goal.returns-clause-first
returns-clause-first g c = λ e.
    let found = c.in_ok-script.ensures.found in
    let script = seen_script c.in_ok-script.script in
    let led : LedTo no_past script.header c.in_ok-world.world =
    reached_none script.header.count (limits_in script.header) c.in_ok-world.world
    (subst (λ (l : Limits). IsShown l c.in_ok-world.world (start script.header.count)) c.limits_of.ensures c.in_ok-world.ensures.shown) in
    writes_first_of c.runs_are_safe.ensures c.no_delivery_is_refused_oddly.ensures no_past (g.R.Read.remaining (device_of c.args.reader.now)) found.bytes script
    (g.W.Write.contents (device_of c.args.writer.now)) (g.W.Write.contents (device_of c.play_on.new.writer)) found.same found.spelled (c.play_on.ensures.first e no_past led)

pub returns-clause-front : goal.returns-clause-front
returns-clause-front g c =
    let found = c.in_ok-script.ensures.found in
    let script = seen_script c.in_ok-script.script in
    let led : LedTo no_past script.header c.in_ok-world.world =
    reached_none script.header.count (limits_in script.header) c.in_ok-world.world
    (subst (λ (l : Limits). IsShown l c.in_ok-world.world (start script.header.count)) c.limits_of.ensures c.in_ok-world.ensures.shown) in
    on_err (λ all.
    writes_front no_past (g.R.Read.remaining (device_of c.args.reader.now)) found.bytes script (g.W.Write.contents (device_of c.args.writer.now))
    (g.W.Write.contents (device_of c.play_on.new.writer)) found.same found.spelled (all no_past led)) c.play_on.result c.play_on.ensures.front

pub returns-clause-only : goal.returns-clause-only
returns-clause-only g c = only_by_run c.play_on.result c.play_on.ensures.only

pub returns-clause-counted : goal.returns-clause-counted
returns-clause-counted g c = counted_after c.play_on.result _ _ _ _ c.in_ok-script.ensures.counted c.play_on.ensures.counted
