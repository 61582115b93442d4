use Rattle.std.proofs.Common.{◌∷◌, ◌++◌, codes, map, sym, ◌∙◌, arith}
use Rattle.std.specs.Fmt.{decimal}
use Rattle.kp_words.proofs.Splitting.{no_parting, one_parting}
use Rattle.kp_texts.specs.Texts.{listed}
use Rattle.kp_texts.proofs.RisingNodes.{members_lack}
use Rattle.kp_texts.proofs.records.isr_then.Goals as goal

pub returns-in_default-clause-none : goal.returns-in_default-clause-none
returns-in_default-clause-none c = λ isr version rest rises fits e.
    no_parting 32 c.args.bytes.now (listed (map decimal isr)) (codes "version " ++ (decimal version ++ 10 ∷ rest)) c.in_default.ensures.none e

pub returns-in_default-members_named-clause-none : goal.returns-in_default-members_named-clause-none
returns-in_default-members_named-clause-none c = λ isr version rest rises fits e.
    let found = c.in-Some.ensures.found in
    let parts = one_parting 32 c.in-Some.word.now (listed (map decimal isr)) c.in-Some.rest.now (codes "version " ++ (decimal version ++ 10 ∷ rest)) found.1 (members_lack c.args.nodes isr (omega arith) rises) (sym found.0 ∙ e) in
    c.in_default-members_named.ensures.none isr rises parts.0

pub returns-in-None-clause-none : goal.returns-in-None-clause-none
returns-in-None-clause-none c = λ isr version rest rises fits e.
    let found = c.in-Some.ensures.found in
    let parts = one_parting 32 c.in-Some.word.now (listed (map decimal isr)) c.in-Some.rest.now (codes "version " ++ (decimal version ++ 10 ∷ rest)) found.1 (members_lack c.args.nodes isr (omega arith) rises) (sym found.0 ∙ e) in
    c.in-None.ensures.none version rest (omega (arith, fits, c.from.ensures)) parts.1
