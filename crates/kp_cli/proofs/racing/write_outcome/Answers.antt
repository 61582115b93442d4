use Rattle.std.proofs.Common.{List, ℕ, OnOk, OnErr, ◌∙◌}
use Rattle.kp_types.specs.Devices.{IsBegun, IsOut}
use Rattle.kp_cli.proofs.Lines.{by_pieces}
use Rattle.kp_cli.proofs.racing.write_outcome.Goals as goal

pub returns-clause-ok : goal.returns-clause-ok
returns-clause-ok g c =
    by_pieces (λ (text : List ℕ). OnOk c.write_each.result (IsOut g.W.Write.contents c.args.out.now c.write_each.new.self text))
    _ _ _ _ _ _ _ _ _ _ _ _ _ _ _ _ _ _ _ _
    c.as_bytes.ensures.value
    (c.as_bytes-2.ensures.value ∙ c.format.ensures.text)
    c.as_bytes-3.ensures.value
    (c.as_bytes-4.ensures.value ∙ c.format-2.ensures.text)
    c.as_bytes-5.ensures.value
    (c.as_bytes-6.ensures.value ∙ c.format-3.ensures.text)
    c.as_bytes-7.ensures.value
    (c.as_bytes-8.ensures.value ∙ c.format-4.ensures.text)
    c.as_bytes-9.ensures.value
    (c.as_bytes-10.ensures.value ∙ c.agreement.ensures)
    c.write_each.ensures.ok

pub returns-clause-err : goal.returns-clause-err
returns-clause-err g c =
    by_pieces (λ (text : List ℕ). OnErr c.write_each.result (IsBegun g.W.Write.contents c.args.out.now c.write_each.new.self text))
    _ _ _ _ _ _ _ _ _ _ _ _ _ _ _ _ _ _ _ _
    c.as_bytes.ensures.value
    (c.as_bytes-2.ensures.value ∙ c.format.ensures.text)
    c.as_bytes-3.ensures.value
    (c.as_bytes-4.ensures.value ∙ c.format-2.ensures.text)
    c.as_bytes-5.ensures.value
    (c.as_bytes-6.ensures.value ∙ c.format-3.ensures.text)
    c.as_bytes-7.ensures.value
    (c.as_bytes-8.ensures.value ∙ c.format-4.ensures.text)
    c.as_bytes-9.ensures.value
    (c.as_bytes-10.ensures.value ∙ c.agreement.ensures)
    c.write_each.ensures.err
