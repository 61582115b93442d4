use Rattle.std.proofs.Common.{◌≡◌, [], ◌∷◌, ◌++◌, List, ℕ, true, sym, ap, ◌∙◌, refl, arith, codes}
use Rattle.std.specs.Fmt.{decimal}
use Rattle.std.proofs.lemmas.Bool.{false≢true}
use Rattle.kp_script.specs.Hex.{is_hex}
use Rattle.kp_script.proofs.HexLaws.{digits_of, text_is_hex}
use Rattle.kp_words.proofs.Numbers.{same_field}
use Rattle.kp_script.proofs.Verbs.{no_fields}
use Rattle.kp_script.proofs.fields.raw_of.Goals as goal
use Rattle.kp_script.proofs.fields.raw_of.Goals.{in_default-via-in-Some+else-is_hex, in_default-via-in_default}

pub returns-in_default-clause-none : goal.returns-in_default-clause-none
returns-in_default-clause-none c = no_fields c.args.count (codes "raw") c.args.fields.now (λ node raw range e.
    elim c.in_default.branch [
      | in_default-via-in-Some+else-is_hex w ↦
          let first = same_field [] c.args.fields.now w.in-Some.node node w.in-Some.digits.now _ (omega (arith, w.in-Some.ensures.found.1)) (omega (arith, range.0)) w.in-Some.ensures.found.0 e in
          false≢true (w.if-is_hex.ensures ∙ ap is_hex first.1 ∙ text_is_hex raw range.1 range.2)
      | in_default-via-in_default w ↦ w.in_default.ensures.none node _ range.0 e
    ])

pub returns-in-Some-clause-found : goal.returns-in-Some-clause-found
returns-in-Some-clause-found c =
    let found = c.in-Some.ensures.found in
    let digits = c.in-Some.digits.now in
    let lawful : is_hex digits ≡ true = sym c.if-is_hex.ensures in
    let d = digits_of digits lawful in
    ((omega (arith, found), d.some, d.bytes), refl, found.0 ∙ ap (λ (end : List ℕ). decimal c.in-Some.node ++ 32 ∷ end) d.text)
