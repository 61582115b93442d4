use Rattle.kp_script.specs.Parsed.{seen_script}
use Rattle.kp_script.specs.Script.{Script}
use Rattle.kp_draw.specs.Rows.{titles_kept}
use Rattle.kp_draw.proofs.Spelled.{behind_header, some_header}
use Rattle.kp_draw.proofs.Titling.{pictured}
use Rattle.kp_draw.proofs.drawing.picture_text.Goals as goal

pub unreachable-requires : goal.unreachable-requires
unreachable-requires c = some_header c.args.input.now (seen_script c.in_ok-script.script) c.in_ok-script.ensures.found c.in_default.ensures.end.0

pub play_rows-requires-clause-header : goal.play_rows-requires-clause-header
play_rows-requires-clause-header c = c.in_ok-script.ensures.found.header

pub play_rows-requires-clause-spelled : goal.play_rows-requires-clause-spelled
play_rows-requires-clause-spelled c =
    let script : Script = seen_script c.in_ok-script.script in
    let first = c.in-Ok.first in
    (script.calls, behind_header c.args.input.now first.number first.line.now first.rest.now script c.in_ok-script.ensures.found c.in-Ok.ensures.found)

pub returns-clause-pictured : goal.returns-clause-pictured
returns-clause-pictured c =
    let script : Script = seen_script c.in_ok-script.script in
    let first = c.in-Ok.first in
    let spelled = behind_header c.args.input.now first.number first.line.now first.rest.now script c.in_ok-script.ensures.found c.in-Ok.ensures.found in
    let stands = c.in_ok-kept.ensures.stands script.calls spelled in
    pictured c.runs_are_safe.ensures c.no_delivery_is_refused_oddly.ensures c.args.part.now c.args.input.now c.in_ok-text.text.items script stands.0 (titles_kept c.in_ok-kept.kept.rows.items)
    c.in_ok-script.ensures.found stands.1 c.in_ok-text.ensures
