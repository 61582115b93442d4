use Rattle.std.proofs.Common.{◌≡◌, ◌<◌, length, sym, subst, arith, ap, slice_index_or}
use Rattle.kp_race.proofs.judge.all_ended.Goals as goal

pub returns-in-Err-clause-err : goal.returns-in-Err-clause-err
returns-in-Err-clause-err g c =
    let place = c.loop-one.one-index in
    let one = c.one-item.result in
    let items = c.deref-one-items.ensures.value in
    let within : place < length c.args.reached.now.items = omega (arith, ap length items) in
    (place, one, within, subst (λ (all : _). slice_index_or all place one ≡ one) items (sym c.one-item.is), c.in-Err.is)
