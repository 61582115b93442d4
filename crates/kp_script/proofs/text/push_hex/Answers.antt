use Rattle.std.proofs.Common.{rules, ◌≡◌, ℕ, ◌+◌, ap, ◌∙◌, arith, List, ◌++◌, length, length-append}
use Rattle.kp_record.proofs.FrontRecords.{all_bytes}
use Rattle.kp_script.proofs.HexText.{front_stays, same_digits, put_behind}
use Rattle.kp_script.proofs.text.push_hex.Goals as goal

pub returns-in-Ok : goal.returns-in-Ok
returns-in-Ok c =
    let bytes = c.args.bytes.now in
    let old = c.args.text.now.items in
    let added = c.in_ok-push_zeros.ensures in
    let shown = c.deref_mut.ensures.value ∙ added.1 in
    let whole : length c.deref_mut.result.now ≡ length old + length added.0 = ap length shown ∙ length-append old added.0 in
    put_behind c.len-start.result c.push_zeros.new.text.len old c.deref_mut.result.now c.encode_to_slice.new.output c.push_zeros.new.text.items (search rules)
    (front_stays c.len-start.result old added.0 c.deref_mut.result.now (search rules) shown)
    (search rules) (search rules)
    ∙ ap (λ (xs : List ℕ). old ++ xs) (c.in-Ok.ensures.written ∙ same_digits bytes (all_bytes bytes (λ i. omega (arith, c.type_inv.bytes i))))
