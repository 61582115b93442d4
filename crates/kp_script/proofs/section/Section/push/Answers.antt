use Rattle.std.proofs.Common.{◌∙◌, [], ◌∷◌, ◌++◌, ℕ, List, map, sym, ap, subst}
use Rattle.kp_script.specs.Call.{Call}
use Rattle.kp_script.specs.Seen.{seen_line}
use Rattle.kp_script.specs.Sections.{IsHeldBy, kept_line}
use Rattle.kp_script.specs.declared.section.KeptLine.{KeptLine}
use Rattle.kp_script.proofs.Sections.{AreHeldBy, all_held, pushed}
use Rattle.kp_script.proofs.section.Section.push.Goals as goal

pub invariant_of-self-2 : goal.invariant_of-self-2
invariant_of-self-2 c =
    let line : KeptLine = record { number = c.args.line.number; asked = c.in_ok-asked.asked } in
    let before : List ℕ = c.self.inside.bytes.items in
    let more = c.in_ok-asked.ensures.grown in
    let held : IsHeldBy (before ++ more.0) line.asked = subst (λ (bytes : List ℕ). IsHeldBy bytes line.asked) more.1 c.in_ok-asked.ensures.held in
    subst (λ (bytes : List ℕ). AreHeldBy bytes c.push_reserved.new.self.items) (sym more.1)
    (subst (λ (lines : List KeptLine). AreHeldBy (before ++ more.0) lines) (sym (c.push_reserved.ensures.items ∙ ap (λ (xs : List KeptLine). xs ++ line ∷ []) c.reserve.ensures.items))
    (all_held before more.0 c.self.inside.lines.items line c.self.invariant held))

pub returns-clause-pushed : goal.returns-clause-pushed
returns-clause-pushed c =
    let line : KeptLine = record { number = c.args.line.number; asked = c.in_ok-asked.asked } in
    let before : List ℕ = c.self.inside.bytes.items in
    let after : List ℕ = c.keep.new.bytes.items in
    let lines : List KeptLine = c.self.inside.lines.items in
    let more = c.in_ok-asked.ensures.grown in
    ap (map (kept_line after)) (c.push_reserved.ensures.items ∙ ap (λ (xs : List KeptLine). xs ++ line ∷ []) c.reserve.ensures.items)
    ∙ ap (λ (bytes : List ℕ). map (kept_line bytes) (lines ++ line ∷ [])) more.1
    ∙ pushed before more.0 lines line c.self.invariant
    ∙ ap (λ (bytes : List ℕ). map (kept_line before) lines ++ kept_line bytes line ∷ []) (sym more.1)
    ∙ ap (λ (call : Call). map (kept_line before) lines ++ (line.number, call) ∷ []) c.in_ok-asked.ensures.kept
    ∙ ap (λ (xs : List (ℕ × Call)). xs ++ seen_line c.args.line ∷ []) c.self.view_is
