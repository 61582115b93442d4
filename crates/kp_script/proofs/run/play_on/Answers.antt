use Rattle.std.proofs.Common.{◌≡◌, ◌∙◌, ℕ, ◌+◌, List, [], ◌++◌, Option, Err, drop, length, length-append, length-drop, length-take-le, take, refl, sym, ap, subst, arith, append_assoc, append-nil}
use Rattle.std.proofs.lemmas.Result.{err_from_is_err_and}
use Rattle.kp_types.specs.Devices.{CountsFault, device_of, faults_of}
use Rattle.kp_types.specs.declared.refusal.Refusal.TheVariants as refusals
use Rattle.std.specs.List.{AllByRecursion}
use Rattle.kp_script.specs.Call.{Call, IsCall}
use Rattle.kp_script.specs.Ended.{AreLimited, RunEnd, logs_of}
use Rattle.kp_script.proofs.Limited.{limited}
use Rattle.kp_script.specs.Parsed.{calls_in, seen_script}
use Rattle.kp_script.specs.Seen.{seen_header}
use Rattle.kp_script.specs.Playing.{Front, HasPlayed, HasPlayedFirst, LedTo, MayPlay, left_in}
use Rattle.kp_script.specs.Transcript.{Past}
use Rattle.kp_script.proofs.Played.{all_lawful, begun_lines, by_fault, may_play_too, others_lawful, parts, played_more, played_past, rest_lawful, second_part, traced, whole_lines}
use Rattle.kp_script.proofs.LeftCalls.{fewer_left, front_may, in_front, left_further, next_is, none_left, within_none}
use Rattle.kp_script.proofs.run.play_on.Goals as goal
use Rattle.kp_types.proofs.Causes.{always}

pub loop-section-init : goal.loop-section-init
loop-section-init g c = record {
  played = ([], (refl, λ past led. played_past past (seen_header c.args.script.header) c.args.world (g.W.Write.contents (device_of c.args.writer.now)) led));
  within = within_none c.args.script.sections.items;
  nodes = refl;
  first = refl;
  few = omega arith;
  faults = refl;
}

pub play_lines-requires-clause-calls : goal.play_lines-requires-clause-calls
play_lines-requires-clause-calls g c =
    let played = c.loop-section.invariant.played in
    let all : List (ℕ × Call) = calls_in c.args.script.sections.items in
    let sections = c.loop-section.script.sections.items in
    let front = in_front c.loop-section.from sections c.in-Some.section.now (omega (arith, c.in-Some.ensures.item)) c.in-Some.ensures.lookup c.loop-section.invariant.within in
    let rest : List (ℕ × Call) = left_in c.loop-section.from c.loop-section.script.sections.items in
    let may : AllByRecursion (λ call. MayPlay c.args.world call.1) rest =
    second_part (λ call. MayPlay c.args.world call.1) played.0 rest
    (subst (λ (xs : List (ℕ × Call)). AllByRecursion (λ call. MayPlay c.args.world call.1) xs) played.1.0 c.requires.calls) in
    may_play_too c.args.world c.loop-section.world (drop c.loop-section.from c.in-Some.section.now) c.loop-section.invariant.nodes c.loop-section.invariant.first
    (front_may c.args.world c.loop-section.from sections c.in-Some.section.now front may)

pub returns-in_err-played-clause-only : goal.returns-in_err-played-clause-only
returns-in_err-played-clause-only g c =
    let q = err_from_is_err_and c.from_residual.result c.from_residual.ensures.1 in
    rw (q.1, q.2) c.in_err-played.ensures.only

pub returns-in_err-played-clause-counted : goal.returns-in_err-played-clause-counted
returns-in_err-played-clause-counted g c =
    let r = c.in_err-played.field-0.0 in
    let q = err_from_is_err_and c.from_residual.result c.from_residual.ensures.1 in
    rw (q.1, q.2) (subst (λ (n : ℕ). CountsFault r n (faults_of c.play_lines.new.writer)) c.loop-section.invariant.faults c.in_err-played.ensures.counted)

pub returns-in_err-played-clause-first : goal.returns-in_err-played-clause-first
returns-in_err-played-clause-first g c = λ e past led.
    let r = c.in_err-played.field-0.0 in
    let q = err_from_is_err_and c.from_residual.result c.from_residual.ensures.1 in
    let memory : r ≡ refusals.Memory = sym q.2 ∙ cc in
    let same : c.play_lines.new.writer ≡ c.loop-section.writer = c.in_err-played.ensures.untouched (ap Err memory) in
    let played = c.loop-section.invariant.played in
    let old = g.W.Write.contents (device_of c.args.writer.now) in
    let kept : g.W.Write.contents (device_of c.play_lines.new.writer) ≡ g.W.Write.contents (device_of c.loop-section.writer) =
    ap (λ w. g.W.Write.contents (device_of w)) same in
    subst (λ (known : Option (List ℕ)). HasPlayedFirst past (seen_script c.args.script) old known) (sym kept)
    (record {
      done = played.0;
      others = left_in c.loop-section.from c.loop-section.script.sections.items;
      calls_are = played.1.0;
      stage = c.loop-section.world;
      refused = c.loop-section.refused;
      played = played.1.1 past led;
    })

pub returns-in_err-played-clause-front : goal.returns-in_err-played-clause-front
returns-in_err-played-clause-front g c =
    let r = c.in_err-played.field-0.0 in
    let played = c.loop-section.invariant.played in
    let done = played.0 in
    let rest : List (ℕ × Call) = (left_in c.loop-section.from c.loop-section.script.sections.items) in
    let all : List (ℕ × Call) = calls_in c.args.script.sections.items in
    let header = seen_header c.args.script.header in
    let count = header.count in
    let old = g.W.Write.contents (device_of c.args.writer.now) in
    let mid = g.W.Write.contents (device_of c.loop-section.writer) in
    let now = g.W.Write.contents (device_of c.play_lines.new.writer) in
    let lawful : AllByRecursion (λ call. IsCall count call.1) all = all_lawful c.args.world count all c.requires.nodes c.requires.calls in
    let sections = c.loop-section.script.sections.items in
    let first = in_front c.loop-section.from sections c.in-Some.section.now (omega (arith, c.in-Some.ensures.item)) c.in-Some.ensures.lookup c.loop-section.invariant.within in
    let front : (past : Past) → LedTo past header c.args.world → Front past count all old now =
    λ past led. by_fault r (Front past count all old now) c.in_err-played.ensures.only
    (λ device.
    let b = c.in_err-played.ensures.begun (ap Err device) in
    let next : List (ℕ × Call) = take b.0 (drop c.loop-section.from c.in-Some.section.now) in
    let others : List (ℕ × Call) = drop b.0 rest in
    let p = parts all done rest next others b.0 played.1.0 (next_is c.loop-section.from b.0 sections c.in-Some.section.now first b.1) refl in
    begun_lines c.runs_are_safe.ensures c.no_delivery_is_refused_oddly.ensures c.plays_go_on.ensures c.bytes_are_an_offer.ensures.some past header all done next others
    c.loop-section.world c.loop-section.refused old mid now p.lines_are (others_lawful count all done rest next others p lawful) (played.1.1 past led) b.2)
    (λ memory.
    let same : c.play_lines.new.writer ≡ c.loop-section.writer = c.in_err-played.ensures.untouched (ap Err memory) in
    let kept : now ≡ mid = ap (λ w. g.W.Write.contents (device_of w)) same in
    subst (λ (known : Option (List ℕ)). Front past count all old known) (sym kept)
    (whole_lines c.plays_go_on.ensures c.bytes_are_an_offer.ensures.some past count all done rest _ c.loop-section.refused old mid played.1.0
    (rest_lawful count all done rest played.1.0 lawful)
    (traced c.runs_are_safe.ensures c.no_delivery_is_refused_oddly.ensures past header done c.loop-section.world c.loop-section.refused old mid (played.1.1 past led))
    (played.1.1 past led).written)) in
    always c.from_residual.result front

pub loop-section-smaller : goal.loop-section-smaller
loop-section-smaller g c =
    let sections = c.loop-section.script.sections.items in
    let from : ℕ = c.loop-section.from in
    let first = in_front c.loop-section.from sections c.in-Some.section.now (omega (arith, c.in-Some.ensures.item)) c.in-Some.ensures.lookup c.loop-section.invariant.within in
    fewer_left from c.in_ok-played.played.lines sections c.in-Some.section.now c.left_behind-from.result c.left_behind-from.new.sections.items first c.in_ok-played.ensures.within
    c.in_ok-played.ensures.some (c.left_behind-from.ensures.left ∙ left_further from c.in_ok-played.played.lines sections) c.left_behind-from.ensures.fewer c.left_behind-from.ensures.gone

pub loop-section-preserved : goal.loop-section-preserved
loop-section-preserved g c =
    let played = c.loop-section.invariant.played in
    let done = played.0 in
    let sections = c.loop-section.script.sections.items in
    let from : ℕ = c.loop-section.from in
    let rest : List (ℕ × Call) = left_in from sections in
    let n : ℕ = c.in_ok-played.played.lines in
    let next : List (ℕ × Call) = take n (drop c.loop-section.from c.in-Some.section.now) in
    let others : List (ℕ × Call) = left_in c.left_behind-from.result c.left_behind-from.new.sections.items in
    let all : List (ℕ × Call) = calls_in c.args.script.sections.items in
    let header = seen_header c.args.script.header in
    let old = g.W.Write.contents (device_of c.args.writer.now) in
    let mid = g.W.Write.contents (device_of c.loop-section.writer) in
    let now = g.W.Write.contents (device_of c.play_lines.new.writer) in
    let first = in_front c.loop-section.from sections c.in-Some.section.now (omega (arith, c.in-Some.ensures.item)) c.in-Some.ensures.lookup c.loop-section.invariant.within in
    let left : others ≡ drop n rest = c.left_behind-from.ensures.left ∙ left_further from n sections in
    let p = parts all done rest next others n played.1.0 (next_is from n sections c.in-Some.section.now first c.in_ok-played.ensures.within) left in
    let long : length rest ≡ length next + length others = ap length p.rest_is ∙ length-append next others in
    let front : length next ≡ n = length-take-le n (drop c.loop-section.from c.in-Some.section.now) (omega (arith, c.in_ok-played.ensures.within, length-drop c.loop-section.from c.in-Some.section.now)) in
    record {
      played = (
        done ++ next,
        (
          p.lines_are ∙ sym (append_assoc done next others),
          λ past led.
              played_more past header done next c.loop-section.world c.play_lines.new.world c.loop-section.refused c.in_ok-played.played.refused old mid now (played.1.1 past led)
              c.in_ok-played.ensures.played,
        ),
      );
      within = c.left_behind-from.ensures.within;
      nodes = c.in_ok-played.ensures.nodes ∙ c.loop-section.invariant.nodes;
      first = c.in_ok-played.ensures.first ∙ c.loop-section.invariant.first;
      few = omega (arith, long, front, c.loop-section.invariant.few, c.in_ok-played.ensures.few);
      faults = c.in_ok-played.ensures.counted ∙ c.loop-section.invariant.faults;
    }

pub returns-clause-played : goal.returns-clause-played
returns-clause-played g c = λ past led.
    let played = c.loop-section.invariant.played in
    let script = seen_script c.args.script in
    let old = g.W.Write.contents (device_of c.args.writer.now) in
    let now = g.W.Write.contents (device_of c.loop-section.writer) in
    let none : left_in c.loop-section.from c.loop-section.script.sections.items ≡ [] = none_left c.loop-section.from c.loop-section.script.sections.items (omega (arith, c.in_default.ensures.item)) in
    let whole : played.0 ≡ script.calls =
    sym (append-nil played.0) ∙ sym (ap (λ (xs : List (ℕ × Call)). played.0 ++ xs) none) ∙ sym played.1.0 in
    record {
      stage = c.loop-section.world;
      nodes = c.loop-section.invariant.nodes ∙ c.requires.nodes;
      played = subst (λ (n : ℕ). HasPlayed past script.header script.calls c.loop-section.world n old now) (sym (ap (λ (e : RunEnd). e.refused) c.new.ensures))
          (subst (λ (calls : List (ℕ × Call)). HasPlayed past script.header calls c.loop-section.world c.loop-section.refused old now) whole (played.1.1 past led));
      stage_is = ap (λ (e : RunEnd). e.stage) c.new.ensures;
    }

pub returns-clause-limited : goal.returns-clause-limited
returns-clause-limited g c = λ past led small.
    let played = c.loop-section.invariant.played in
    subst (λ (ended : RunEnd). AreLimited (logs_of ended.stage)) (sym c.new.ensures)
    (limited c.batches_keep_their_size.ensures past (seen_header c.args.script.header) played.0 c.loop-section.world c.loop-section.refused
    (g.W.Write.contents (device_of c.args.writer.now)) (g.W.Write.contents (device_of c.loop-section.writer)) (c.loop-section.invariant.nodes ∙ c.requires.nodes) small (played.1.1 past led))
