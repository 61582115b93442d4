use Rattle.std.proofs.Common.{◌+◌, ◌<◌, ◌^◌, ◌∙◌, ℕ, List, sym, subst, arith}
use Rattle.kp_types.specs.declared.limits.Limits.{Limits}
use Rattle.kp_model.specs.World.{start}
use Rattle.kp_world.specs.Shown.{IsShown}
use Rattle.kp_script.specs.Call.{Header, IsCall}
use Rattle.kp_script.specs.Ended.{limits_in}
use Rattle.kp_script.specs.Playing.{Reaches}
use Rattle.kp_script.specs.Seen.{seen_call, seen_header}
use Rattle.kp_script.proofs.Played.{reaches_all}
use Rattle.kp_draw.specs.Rows.{titles_kept}
use Rattle.kp_draw.specs.declared.rows.Row.{Row}
use Rattle.kp_draw.proofs.Spelled.{SoFar, so_far_all, so_far_call, so_far_more, so_far_none}
use Rattle.kp_draw.proofs.playing.play_rows.Goals as goal

pub loop-next-init : goal.loop-next-init
loop-next-init c =
    let header : Header = seen_header c.args.header.now in
    let number : ℕ = c.args.first.now.number + 1 in
    let rest : List ℕ = c.args.first.now.rest.now in
    let shown : IsShown (limits_in header) c.in_ok-world.world (start header.count) =
    subst (λ (l : Limits). IsShown l c.in_ok-world.world (start header.count)) c.limits_of.ensures c.in_ok-world.ensures.shown in
    record {
      so_far = λ calls s.
          subst (λ (rows : List Row). SoFar c.args.part.now header number rest calls c.in_ok-world.world (titles_kept rows)) (sym c.in_ok-kept.ensures)
          (so_far_none c.args.part.now header number rest calls c.in_ok-world.world s shown);
      nodes = c.in_ok-world.ensures.count;
      first_is = c.in_ok-world.ensures.first;
      room = c.requires.room;
    }

pub unreachable-requires : goal.unreachable-requires
unreachable-requires c =
    let spelled = c.requires.spelled in
    let next = c.in-Ok.next in
    so_far_call c.args.part.now (seen_header c.args.header.now) c.loop-next.number next.number c.loop-next.rest.now next.line.now next.rest.now spelled.0 c.loop-next.world (titles_kept c.loop-next.kept.rows.items)
    (c.loop-next.invariant.so_far spelled.0 spelled.1) c.in-Ok.ensures.found c.in_default-call_of.ensures.none

pub play_row-requires-clause-call : goal.play_row-requires-clause-call
play_row-requires-clause-call c = (
  subst (λ (count : ℕ). IsCall count (seen_call c.in-Some.call)) (sym c.loop-next.invariant.nodes) c.in-Some.ensures.found.0,
  subst (λ (first : ℕ). Reaches first (seen_call c.in-Some.call)) (sym c.loop-next.invariant.first_is) (reaches_all (seen_call c.in-Some.call)),
)

pub loop-next-preserved : goal.loop-next-preserved
loop-next-preserved c =
    let header : Header = seen_header c.args.header.now in
    let next = c.in-Ok.next in
    let small : header.count < 2 ^ 64 = omega arith in
    record {
      so_far = λ calls s.
          so_far_more c.lines_say_one_call.ensures c.args.part.now header c.loop-next.number next.number c.loop-next.rest.now next.line.now next.rest.now calls (seen_call c.in-Some.call) c.loop-next.world c.play_row.new.world
          (titles_kept c.loop-next.kept.rows.items) (titles_kept c.play_row.new.kept.rows.items) small (c.loop-next.invariant.so_far calls s) c.in-Ok.ensures.found c.in-Some.ensures.found c.in_ok-play_row.ensures.adds;
      nodes = c.play_row.ensures.nodes ∙ c.loop-next.invariant.nodes;
      first_is = c.play_row.ensures.first ∙ c.loop-next.invariant.first_is;
      room = omega (arith, c.in-Ok.ensures.room, c.loop-next.invariant.room);
    }

pub returns-clause-stands : goal.returns-clause-stands
returns-clause-stands c = λ calls s. (
  c.loop-next.world,
  so_far_all c.args.part.now (seen_header c.args.header.now) c.loop-next.number c.loop-next.rest.now calls c.loop-next.world (titles_kept c.loop-next.kept.rows.items) (c.loop-next.invariant.so_far calls s)
      c.in_default.ensures.end.0,
)
