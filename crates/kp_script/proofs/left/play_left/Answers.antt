use Rattle.std.proofs.Common.{◌≡◌, ◌∙◌, None, Err, inr, sym, ap, subst}
use Rattle.kp_types.specs.declared.refusal.Refusal.TheVariants.{Memory as WantOfMemory}
use Rattle.kp_types.specs.Devices.{device_of}
use Rattle.kp_script.specs.Ended.{WritesTo}
use Rattle.kp_script.specs.Left.{lost_line}
use Rattle.kp_script.specs.Parsed.{seen_script}
use Rattle.kp_script.specs.Transcript.{WritesFirst, WritesFront}
use Rattle.kp_script.proofs.Leftover.{all_reach, holds_behind, of_the_script}
use Rattle.kp_script.proofs.Played.{writes_after, writes_first_of, writes_front}
use Rattle.kp_script.proofs.left.play_left.Goals as goal

pub returns-in-Err-clause-line : goal.returns-in-Err-clause-line
returns-in-Err-clause-line g c = λ line e. of_the_script (g.F.ReadFolder.files c.args.folder.now) (g.R.Read.remaining (device_of c.args.reader.now)) line (c.in-Err.ensures.fault line cc)

pub play_on-requires-clause-calls : goal.play_on-requires-clause-calls
play_on-requires-clause-calls g c =
    let script = seen_script c.in-Ok.read.0 in
    all_reach c.in_ok-world.world script.header.count script.calls c.in_ok-world.ensures.count
    (subst (λ first. lost_line first script.calls ≡ None) (sym c.in_ok-world.ensures.first) (sym c.lost.ensures ∙ c.in_default.is)) c.in-Ok.ensures.found.spelled.calls

pub returns-in-Ok-play_on-clause-played : goal.returns-in-Ok-play_on-clause-played
returns-in-Ok-play_on-clause-played g c =
    let script = seen_script c.in-Ok.read.0 in
    let found = c.in-Ok.ensures.found in
    let input = g.R.Read.remaining (device_of c.args.reader.now) in
    let old = g.W.Write.contents (device_of c.args.writer.now) in
    let new = g.W.Write.contents (device_of c.play_on.new.writer) in
    holds_behind c.left_stages_go_on.ensures (g.F.ReadFolder.files c.args.folder.now) script.header c.in_ok-world.first c.in_ok-world.world (λ past. WritesTo past input old new c.in-Ok-play_on.ended)
    c.in_ok-world.ensures.found
    (λ past led. writes_after c.runs_are_safe.ensures c.no_delivery_is_refused_oddly.ensures past input found.bytes script c.in-Ok-play_on.ended old new found.same found.spelled
    (c.in-Ok-play_on.ensures.played past led))

pub returns-in-Err-play_on-clause-first : goal.returns-in-Err-play_on-clause-first
returns-in-Err-play_on-clause-first g c = λ e.
    let memory : c.in-Err-play_on.refusal ≡ WantOfMemory = cc in
    let script = seen_script c.in-Ok.read.0 in
    let found = c.in-Ok.ensures.found in
    let input = g.R.Read.remaining (device_of c.args.reader.now) in
    let old = g.W.Write.contents (device_of c.args.writer.now) in
    let new = g.W.Write.contents (device_of c.play_on.new.writer) in
    inr (holds_behind c.left_stages_go_on.ensures (g.F.ReadFolder.files c.args.folder.now) script.header c.in_ok-world.first c.in_ok-world.world (λ past. WritesFirst past input old new)
    c.in_ok-world.ensures.found
    (λ past led. writes_first_of c.runs_are_safe.ensures c.no_delivery_is_refused_oddly.ensures past input found.bytes script old new found.same found.spelled
    (c.in-Err-play_on.ensures.first (ap Err memory) past led)))

pub returns-in-Err-play_on-clause-front : goal.returns-in-Err-play_on-clause-front
returns-in-Err-play_on-clause-front g c =
    let script = seen_script c.in-Ok.read.0 in
    let found = c.in-Ok.ensures.found in
    let input = g.R.Read.remaining (device_of c.args.reader.now) in
    let old = g.W.Write.contents (device_of c.args.writer.now) in
    let new = g.W.Write.contents (device_of c.play_on.new.writer) in
    inr (holds_behind c.left_stages_go_on.ensures (g.F.ReadFolder.files c.args.folder.now) script.header c.in_ok-world.first c.in_ok-world.world (λ past. WritesFront past input old new)
    c.in_ok-world.ensures.found
    (λ past led. writes_front past input found.bytes script old new found.same found.spelled (c.in-Err-play_on.ensures.front past led)))
