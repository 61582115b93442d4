use Rattle.std.proofs.Common.{◌≡◌, ℕ, ◌∙◌, ap, rules}
use Rattle.std.proofs.lemmas.List.{get_or_default}
use Rattle.kp_visible.proofs.Keys.{is_less}
use Rattle.kp_visible.proofs.by_producer.ByProducer.comes_before.Goals as goal

pub returns : goal.returns
returns c = λ d.
    let same : c.lt.result ≡ is_less c.index.result.now c.args.key = search rules in
    same ∙ ap (λ (key : ℕ × ℕ). is_less key c.args.key) (c.index.ensures ∙ get_or_default c.args.self.now.keys.items c.args.at c.index.result.now d c.requires)
