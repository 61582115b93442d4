use Rattle.std.proofs.Common.{◌≡◌, ℕ, List, ◌++◌, ap, ◌∙◌, string_bytes}
use Rattle.std.specs.Global.{Vec}
use Rattle.kp_crc.specs.Crc.{crc}
use Rattle.kp_texts.specs.Texts.{sealed}
use Rattle.kp_texts.proofs.Seals.{seal}
use Rattle.kp_texts.proofs.sealing.sealed.Goals as goal

pub returns : goal.returns
unfolding sealed
returns c =
    let lines = string_bytes c.args.lines in
    let text : c.into_bytes-text.result.items ≡ lines = ap (λ (v : Vec ℕ). v.items) c.into_bytes-text.ensures.value in
    c.in_ok-extend_from_slice.ensures.items
    ∙ ap (λ (l : List ℕ). c.into_bytes-text.result.items ++ l) (c.seal_of-seal.ensures ∙ ap seal c.crc32c.ensures ∙ ap (λ (l : List ℕ). seal (crc l)) (c.deref.ensures.value ∙ text))
    ∙ ap (λ (l : List ℕ). l ++ seal (crc lines)) text
