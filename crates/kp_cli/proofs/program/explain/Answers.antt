use Rattle.std.proofs.Common.{◌≡◌, ◌∙◌, inl, string_bytes, ap, subst, List, ℕ}
use Rattle.kp_cli.specs.Program.{Explains}
use Rattle.kp_cli.specs.Told.{tamed}
use Rattle.kp_cli.proofs.program.explain.Goals as goal

pub returns-in-Ok-tame : goal.returns-in-Ok-tame
returns-in-Ok-tame g c =
    let same : c.as_slice.result.now ≡ tamed (string_bytes c.in-Ok.text) = c.as_slice.ensures.value ∙ c.in-Ok-tame.ensures ∙ ap tamed c.as_bytes.ensures.value in
    inl (
      string_bytes c.in-Ok.text,
      c.in-Ok.ensures.ok,
      subst (λ (t : List ℕ). Explains g.W.Write.contents g.E.Write.contents c.args.kind t c.args.out.now c.say.new.out c.args.err.now c.say.new.err c.say.result) same c.say.ensures,
    )
