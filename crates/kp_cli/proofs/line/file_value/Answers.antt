use Rattle.std.proofs.Common.{◌≡◌, ◌∙◌, None, ap, codes, is_some, sym, true≢false}
use Rattle.clap.proofs.WalkLemmas.{first_value-rows}
use Rattle.clap.specs.Words.{first_of, found_of, rows_of}
use Rattle.kp_cli.proofs.line.file_value.Goals as goal

pub unreachable-requires : goal.unreachable-requires
unreachable-requires c =
    let none : None ≡ first_of (codes "FILE") (rows_of (found_of c.args.found.now)) =
    c.in-None.ensures ∙ first_value-rows (found_of c.args.found.now) (codes "FILE") in
    true≢false (sym c.requires ∙ ap is_some (sym none))

pub returns : goal.returns
returns c = sym (c.in-Some.ensures ∙ first_value-rows (found_of c.args.found.now) (codes "FILE"))
