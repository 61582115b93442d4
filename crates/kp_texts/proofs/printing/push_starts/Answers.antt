use Rattle.std.proofs.Common.{List, ◌++◌, ◌∷◌, map, ap, sym, ◌∙◌, string_bytes, arith}
use Rattle.std.proofs.lemmas.List.{take_all}
use Rattle.std.specs.List.{flat_map}
use Rattle.kp_texts.specs.declared.texts.EpochStart.{EpochStart}
use Rattle.kp_texts.specs.Texts.{listed, start_text}
use Rattle.kp_texts.proofs.Joined.{starts_written}
use Rattle.kp_texts.proofs.printing.push_starts.Goals as goal

pub returns : goal.returns
returns c =
    let old = string_bytes c.args.text.now in
    let mid = string_bytes c.write.new.self in
    let others = c.in-Some.others.now in
    starts_written old mid (string_bytes c.loop-next.text) c.in-Some.first.now others c.in_ok-write.ensures.bytes
    (c.loop-next.invariant ∙ ap (λ (ss : List EpochStart). mid ++ flat_map (λ s. 44 ∷ start_text s) ss) (take_all c.loop-next.next-index others (omega (arith, c.loop-next-test.false))))
    ∙ ap (λ (ss : List EpochStart). old ++ listed (map start_text ss)) (sym c.in-Some.ensures.cases.0)
