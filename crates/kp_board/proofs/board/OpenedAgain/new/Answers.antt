use Rattle.std.proofs.Common.{arith, ◌≡◌, ℕ, zero, suc, ◌+◌, ◌*◌, ◌<◌, ◌≤◌, List, [], ◌∷◌, length, take, get_or, refl, sym, ap, subst, length-take, ◌∙◌}
use Rattle.atomic_table.specs.Table.{opening}
use Rattle.kp_control.specs.Word.{packed}
use Rattle.kp_model.specs.Left.{Opening, node_in}
use Rattle.kp_board.specs.Rule.{mark_word, Ruled}
use Rattle.kp_board.specs.Views.{founder}
use Rattle.kp_board.proofs.Sharing.{opens}
use Rattle.kp_board.proofs.board.OpenedAgain.new.Goals as goal

within : (xs : List ℕ) (k i : ℕ) → i < k → get_or (take k xs) i 0 ≡ get_or xs i 0
within xs zero i l = absurd (omega arith)
within [] (suc k) i l = refl
within (x ∷ xs) (suc k) zero l = refl
within (x ∷ xs) (suc k) (suc i) l = within xs k i (omega arith)

pub of_words-requires : goal.of_words-requires
of_words-requires g c =
    let o : Opening = g.E.Left.opening in
    let r = c.requires in
    let w = c.words_of-words.ensures in
    let all : List ℕ = c.words_of-words.result in
    let m : ℕ = length c.args.marks.now in
    let left = r.left in
    let count : o.count ≡ m = r.count in
    let same = λ (k : ℕ) (l : k < o.count). within all (2 * m + 1) (mark_word k) (omega arith) ∙ w.marks k (omega arith) ∙ r.marks k (omega arith) in
    subst (λ (k : Opening). Ruled k (opening (take (2 * m + 1) all) [] (founder 0 k 0))) (sym c.in_ok-key.ensures.named)
    (opens o (take (2 * m + 1) all) left.0 left.1 (let s = r.small in omega arith) (let e = length-take (2 * m + 1) all in let s = r.small in omega arith) (within all (2 * m + 1) 0 (omega arith) ∙ w.word ∙ ap packed r.controller) same)
