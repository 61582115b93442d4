use Rattle.std.proofs.Common.{◌≡◌, ◌∙◌, ◌+◌, ◌≤◌, ◌++◌, ℕ, List, length, take, ap, arith, rules}
use Rattle.std.proofs.Math.Seq.{take-append-add}
use Rattle.std.proofs.lemmas.List.{length-take-le}
use Rattle.kp_script.proofs.text.push_zeros.Goals as goal

-- some of those that were put behind
cut : (old zeros all : List ℕ) (end count : ℕ) → all ≡ old ++ zeros → end ≡ length old + count → count ≤ length zeros
    → (rest : List ℕ) × (take end all ≡ old ++ rest) × (length rest ≡ count)
cut old zeros all end count is ends fits = (
  take count zeros,
  ap (λ (n : ℕ). take n all) ends ∙ ap (take (length old + count)) is ∙ take-append-add old zeros count,
  length-take-le count zeros fits,
)

pub returns : goal.returns
returns c =
    let old = c.args.text.now.items in
    let ends : c.saturating_add-end.result ≡ length old + c.args.count = search rules in
    let some = cut old _ c.extend_from_slice.new.self.items c.saturating_add-end.result c.args.count c.in_ok-extend_from_slice.ensures.items ends (omega (arith, c.if-count-gt32.false)) in
    (some.0, c.truncate.ensures.items ∙ some.1, some.2)
