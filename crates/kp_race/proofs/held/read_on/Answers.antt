use Rattle.std.proofs.Common.{◌≡◌, ℕ, ◌≤◌, ◌^◌, ap, sym, subst, arith, length, ◌-◌, ◌∙◌, min, ◌+◌}
use Rattle.std.specs.List.{slice_get}
use Rattle.kp_batch.specs.Batch.{count_of}
use Rattle.kp_model.specs.Log.{IsLog}
use Rattle.kp_race.proofs.Pieces.{reads_nothing, reads_on}
use Rattle.kp_race.proofs.held.read_on.Goals as goal

pub returns-in_default-clause-ok : goal.returns-in_default-clause-ok
returns-in_default-clause-ok g c =
    let x = c.args.node.now.node.state in
    let piece = c.in_ok-piece.piece.items in
    let read = ap (λ (s : _). slice_get s (length s - 1)) c.deref.ensures.value in
    reads_nothing x c.args.from piece c.in_ok-piece.ensures.found (sym read ∙ sym c.in_default.ensures.value) c.args.list.now.items

pub returns-clause-ok : goal.returns-clause-ok
returns-clause-ok g c =
    let x = c.args.node.now.node.state in
    let piece = c.in_ok-piece.piece.items in
    let read = ap (λ (s : _). slice_get s (length s - 1)) c.deref.ensures.value in
    let lawful = subst (λ (l : _). IsLog l.log) c.log.ensures.value c.end_offset-end.ensures.lawful in
    let settled = ap (λ (l : _). l.settled) c.log.ensures.value in
    let low : x.watermark ≤ 2 ^ 62 = omega (arith, settled) in
    let last = c.in-Some.last.now in
    let behind : c.base_offset.result + c.from.result ≡ last.base + count_of last.body = omega (arith, c.base_offset.ensures, c.from.ensures, c.count.ensures.value) in
    let next = c.saturating_add-next.ensures ∙ ap (λ (n : ℕ). min n 18446744073709551615) behind in
    reads_on x c.args.from piece c.in_ok-piece.ensures.found lawful low last (sym read ∙ sym c.in-Some.ensures.value) c.saturating_add-next.result next
    c.args.list.now.items c.push_all.new.list.items c.in_ok-push_all.ensures.ok
