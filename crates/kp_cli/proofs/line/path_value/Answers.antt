use Rattle.std.proofs.Common.{◌∙◌, ap, List, ℕ, Some, sym}
use Rattle.clap.proofs.WalkLemmas.{first_value-rows}
use Rattle.clap.specs.Words.{found_of}
use Rattle.kp_cli.proofs.line.path_value.Goals as goal

pub returns-in_ok-path-in-Some : goal.returns-in_ok-path-in-Some
returns-in_ok-path-in-Some c =
    sym (c.in-Some.ensures ∙ first_value-rows (found_of c.args.found.now) c.args.name.now)
    ∙ ap (λ (path : List ℕ). Some path) (sym c.in_ok-path-in-Some.ensures.ok)

pub returns-in-None : goal.returns-in-None
returns-in-None c = sym (c.in-None.ensures ∙ first_value-rows (found_of c.args.found.now) c.args.name.now)
