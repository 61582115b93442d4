use Rattle.std.proofs.Common.{ℕ, sym, subst}
use Rattle.kp_script.specs.Call.{Call, Elect}
use Rattle.kp_script.specs.Playing.{MayPlay}
use Rattle.kp_script.proofs.run.play_at.Goals as goal

pub play_lone-requires-clause-call : goal.play_lone-requires-clause-call
play_lone-requires-clause-call c =
    let other : ℕ × Call = (0, Elect 0) in
    subst (λ (call : ℕ × Call). MayPlay c.args.world.now call.1) (c.in-Some.ensures.lone other) (c.requires.call other)

pub play_other-requires : goal.play_other-requires
play_other-requires c =
    let other : ℕ × Call = (0, Elect 0) in
    subst (λ (call : ℕ × Call). MayPlay c.args.world.now call.1) (sym (c.line.ensures other)) (c.requires.call other)
