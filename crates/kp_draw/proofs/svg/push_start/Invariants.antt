use Rattle.std.proofs.Common.{◌≡◌, ◌∷◌, ◌++◌, take, map}
use Rattle.kp_draw.specs.Drawing.{attribute_of, attributes_text, tag_name}
use Rattle.kp_draw.proofs.svg.push_start.Given as goal

abbrev pub invariant-loop-attribute : goal.invariant-loop-attribute
invariant-loop-attribute l =
    l.text.items ≡ l.fn.text.items ++ (60 ∷ tag_name l.fn.tag ++ attributes_text (map attribute_of (take l.attribute-index l.attributes)))
