use Rattle.std.proofs.Common.{◌≡◌, true, false, Option, ap, sym, ◌∙◌}
use Rattle.std.specs.Option.{option_map_or}
use Rattle.kp_model.specs.Transactions.{Aborted}
use Rattle.kp_visible.specs.Filter.{covers, decides}
use Rattle.kp_visible.proofs.Lists.{find_at, find_nothing}
use Rattle.kp_visible.proofs.filter.is_hidden.Goals as goal

pub returns : goal.returns
returns c = sym (ap (λ (o : Option Aborted). option_map_or (covers c.args.producer c.args.offset) o false) (find_nothing (decides c.args.producer c.args.offset) c.args.aborted.now c.loop-ended.ended-index c.loop-ended.invariant c.loop-ended-test.false))

pub returns-then-decides : goal.returns-then-decides
returns-then-decides c =
    let test = decides c.args.producer c.args.offset in
    let covering = covers c.args.producer c.args.offset in
    let at = c.ended-item.result in
    let here : test at ≡ true = sym c.decides.ensures ∙ c.if-decides.true in
    let found = find_at test c.args.aborted.now c.loop-ended.ended-index at c.loop-ended.invariant c.loop-ended-test.true (ap test (sym c.ended-item.is) ∙ here) in
    c.covers.ensures ∙ sym (ap (λ (o : Option Aborted). option_map_or covering o false) found ∙ ap covering (sym c.ended-item.is))
