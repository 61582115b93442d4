use Rattle.std.proofs.Common.{◌≡◌, ℕ, ◌<◌, ◌≤◌, ◌-◌, true, false, length, get_or, sym, ◌∙◌, arith, inl, inr}
use Rattle.std.proofs.lemmas.Bool.{cases_Bool, leb-true}
use Rattle.kp_visible.proofs.Keys.{is_less, parted_between}
use Rattle.kp_visible.proofs.by_producer.ByProducer.are_parted_at.Goals as goal
use Rattle.kp_visible.proofs.by_producer.ByProducer.are_parted_at.Goals.{After-len-then-comes_before, then-count-len+then-count-eq0, then-count-len+else-count-eq0, else-count-len}

front : (c : After-len-then-comes_before)
    → (c.args.count ≤ length c.args.self.now.keys.items) × (0 < c.args.count → (d : ℕ × ℕ) → is_less (get_or c.args.self.now.keys.items (c.args.count - 1) d) c.args.key ≡ true)
front c = elim c.if-count-len.branch [
  | then-count-len+then-count-eq0 w ↦ (omega (arith, c.args.self.now.keys.ok.0), λ some d. absurd (omega (arith, some)))
  | then-count-len+else-count-eq0 w ↦ (omega (arith, c.args.self.now.keys.ok.0), λ some d. sym (w.comes_before.ensures d) ∙ sym w.value-is ∙ c.if-comes_before.true)
  | else-count-len w ↦ let le = leb-true c.args.count c.len.result (sym w.value-is ∙ c.if-comes_before.true) in absurd (omega (arith, le))
]

pub returns-then-count-len-2 : goal.returns-then-count-len-2
returns-then-count-len-2 c = λ yes.
    let at = front (goal.at.returns-then-count-len-2 c).After-len-then-comes_before in
    parted_between c.args.self.now.keys.items c.args.key c.args.count c.args.self.now.rising at.0 at.1 (λ within d. absurd (omega (arith, within, c.args.self.now.keys.ok.0)))

pub returns-else-count-len-2 : goal.returns-else-count-len-2
returns-else-count-len-2 c = λ yes.
    let at = front (goal.at.returns-else-count-len-2 c).After-len-then-comes_before in
    let next = c.comes_before-else-count-len-2 in
    let no : next.result ≡ false = elim (cases_Bool next.result) [
      | inl t ↦ let bad : false ≡ true = rw t at yes in absurd cc
      | inr f ↦ f
    ] in
    parted_between c.args.self.now.keys.items c.args.key c.args.count c.args.self.now.rising at.0 at.1 (λ within d. sym (next.ensures d) ∙ no)
