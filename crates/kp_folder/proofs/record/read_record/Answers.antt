use Rattle.std.proofs.Common.{rules, ◌∙◌, sym, subst, inr}
use Rattle.kp_folder.specs.Files.{IsFile, record_name}
use Rattle.kp_folder.proofs.Known.{has_record, no_record, other_record}
use Rattle.kp_folder.proofs.record.read_record.Goals as goal

pub returns-in_default-clause-fault : goal.returns-in_default-clause-fault
returns-in_default-clause-fault g c =
    let known = g.F.ReadFolder.files c.args.folder.now in
    let found = subst (IsFile known record_name) c.in-Ok-Some.field-0-is c.in-Ok-Some.ensures.found in
    inr (no_record known c.args.count c.in-Ok-Some.bytes found (λ kept range e. c.in_default.ensures.none kept range (c.deref.ensures.value ∙ e)))

pub returns-then-kept-count-clause-fault : goal.returns-then-kept-count-clause-fault
returns-then-kept-count-clause-fault g c =
    let known = g.F.ReadFolder.files c.args.folder.now in
    let found = subst (IsFile known record_name) c.in-Ok-Some.field-0-is c.in-Ok-Some.ensures.found in
    let kept = c.in-Some.ensures.found in
    inr (other_record known c.args.count c.in-Ok-Some.bytes c.in-Some.kept c.texts_say_one_value.ensures.records found (sym c.deref.ensures.value ∙ kept.0) kept.1 (λ nodes. absurd (search rules)))

pub returns-clause-found : goal.returns-clause-found
returns-clause-found g c =
    let known = g.F.ReadFolder.files c.args.folder.now in
    let found = subst (IsFile known record_name) c.in-Ok-Some.field-0-is c.in-Ok-Some.ensures.found in
    let kept = c.in-Some.ensures.found in
    has_record known c.args.count c.in-Ok-Some.bytes c.in-Some.kept found (sym c.deref.ensures.value ∙ kept.0) kept.1 (search rules)
