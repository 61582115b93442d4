use Rattle.std.proofs.Common.{◌≡◌, ℕ, ◌-◌, List, [], ◌∷◌, ◌++◌, ◌∙◌, sym, ap, length, take}
use Rattle.kp_script.specs.Seen.{seen_call}
use Rattle.kp_draw.proofs.Titling.{titled}
use Rattle.kp_draw.proofs.playing.play_titled.Goals as goal

pub returns-clause-titled : goal.returns-clause-titled
returns-clause-titled c =
    let line : List ℕ = c.args.line.now in
    let text : List ℕ = c.play_line.new.work.text.items in
    let first : c.extend_from_slice.new.self.items ≡ line = c.in_ok-extend_from_slice.ensures.items ∙ ap (λ (xs : List ℕ). xs ++ line) c.clear.ensures.items in
    let before : c.extend_from_slice-2.new.self.items ≡ line ++ 10 ∷ [] = c.in_ok-extend_from_slice-2.ensures.items ∙ ap (λ (xs : List ℕ). xs ++ 10 ∷ []) first in
    let last : c.saturating_sub-last.result ≡ length text - 1 = c.saturating_sub-last.ensures ∙ ap (λ (n : ℕ). n - 1) (c.len.ensures ∙ sym c.deref.ensures.len ∙ ap length c.deref.ensures.value) in
    let title : c.in_ok-title.title.items ≡ take c.saturating_sub-last.result text = c.in_ok-title.ensures.items ∙ ap (λ (xs : List ℕ). take c.saturating_sub-last.result xs) c.deref.ensures.value in
    titled (c.args.number, seen_call c.args.call) c.args.world.now c.play_line.new.world c.in_ok-refused.refused line c.extend_from_slice-2.new.self.items text c.in_ok-title.title.items c.saturating_sub-last.result
    c.requires.line before c.in_ok-refused.ensures.played last title
