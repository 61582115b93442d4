use Rattle.std.proofs.Common.{arith, ◌≡◌, ℕ, zero, suc, ◌+◌, ◌*◌, List, [], ◌∷◌, take, get_or, replicate, refl, sym, ap, subst, length-take, ◌∙◌}
use Rattle.kp_control.specs.Word.{packed}
use Rattle.atomic_table.specs.Table.{opening}
use Rattle.kp_board.specs.Rule.{Ruled}
use Rattle.kp_board.specs.Views.{founder}
use Rattle.kp_model.specs.Left.{Opening, beginning}
use Rattle.kp_board.proofs.Sharing.{begins_so, opens}
use Rattle.kp_board.proofs.board.Opened.new.Goals as goal

zeros : (m k i : ℕ) → get_or {A = ℕ} (take k (replicate m 0)) i 0 ≡ 0
zeros zero zero i = refl
zeros zero (suc k) i = refl
zeros (suc m) zero i = refl
zeros (suc m) (suc k) zero = refl
zeros (suc m) (suc k) (suc i) = zeros m k i

pub of_words-requires : goal.of_words-requires
of_words-requires c =
    let word = c.pack.result in
    let all : List ℕ = word ∷ replicate 14 0 in
    let n = c.args.nodes in
    let r = c.requires in
    let wide : 2 * n + 1 ≡ suc (2 * n) = omega arith in
    let head : get_or (take (2 * n + 1) all) 0 0 ≡ word = subst (λ (z : ℕ). get_or (take z all) 0 0 ≡ word) (sym wide) refl in
    subst (λ (o : Opening). Ruled o (opening (take (2 * n + 1) all) [] (founder 0 o 0))) (sym c.beginning-key.ensures)
    (opens (beginning n) (take (2 * n + 1) all) (record { moments = []; is_run = tt }) (begins_so n) r (let s = r in let e = length-take (2 * n + 1) all in omega arith) (head ∙ c.pack.ensures ∙ ap packed c.initial.ensures)
    (λ k l. let at : 2 * k + 2 ≡ suc (2 * k + 1) = omega arith in subst (λ (z : ℕ × ℕ). get_or (take z.0 all) z.1 0 ≡ 0) (λ i. (sym wide i, sym at i)) (zeros 14 (2 * n) (2 * k + 1))))
