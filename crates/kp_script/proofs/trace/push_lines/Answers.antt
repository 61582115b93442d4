use Rattle.std.proofs.Common.{◌≡◌, ℕ, None, ◌∷◌, ◌++◌, ap, ◌∙◌, length, take, arith}
use Rattle.std.specs.Prelude.{codes}
use Rattle.std.specs.Fmt.{decimal}
use Rattle.std.specs.List.{flat_map}
use Rattle.kp_model.specs.Event.{Line}
use Rattle.kp_visible.specs.Lines.{line_of}
use Rattle.kp_script.specs.Trace.{line_text}
use Rattle.kp_script.proofs.Tracing.{grown, lines_as_pieces, lines_more}
use Rattle.kp_script.proofs.trace.push_lines.Goals as goal
use Rattle.std.proofs.lemmas.List.{take_all}

-- what is read past the end
abbrev no_line : Line
no_line = record { offset = 0; value = None }

pub loop-place-preserved : goal.loop-place-preserved
loop-place-preserved c = record {
  text =
      lines_more c.push_named.new.text.items c.push_line.new.text.items c.loop-place.text.items c.args.lines.now c.loop-place.place (line_of c.get.result) no_line
      (omega (arith, c.loop-place-test.true, c.loop-place.invariant.end)) (c.get.ensures no_line) c.loop-place.invariant.text c.in_ok-push_line.ensures;
  within = omega (arith, c.loop-place-test.true, c.loop-place.invariant.end);
  end = c.loop-place.invariant.end;
}

pub returns : goal.returns
returns c =
    let all : take c.loop-place.place c.args.lines.now ≡ c.args.lines.now = take_all c.loop-place.place c.args.lines.now (omega (arith, c.loop-place.invariant.end)) in
    let said : c.loop-place.text.items ≡ c.push_named.new.text.items ++ flat_map (λ x. 32 ∷ line_text x) c.args.lines.now =
    rw all at c.loop-place.invariant.text in
    let counted : c.push_named.new.text.items ≡ c.args.text.now.items ++ (codes "read " ++ decimal (length c.args.lines.now)) =
    c.in_ok-push_named.ensures ∙ ap (λ (n : ℕ). c.args.text.now.items ++ (codes "read " ++ decimal n)) c.len.ensures in
    grown _ _ _ _ _ _ said counted (lines_as_pieces c.args.lines.now)
