use Rattle.std.proofs.Common.{◌≡◌, ◌∙◌, ◌⊎◌, ◌+◌, ◌++◌, ◌∷◌, ◌<◌, ◌≤◌, ℕ, List, [], Option, Ok, inl, inr, length, length-append, refl, ap, sym, subst, arith}
use Rattle.std.specs.Prelude.{IfSome}
use Rattle.std.specs.Io.KnownBytes.{Appends}
use Rattle.std.proofs.KnownBytes.{Appends-nil, Appends-trans}
use Rattle.kp_types.specs.Devices.{device_of, faults_of}
use Rattle.kp_types.specs.declared.counted.Counted.{Counted}
use Rattle.kp_script.specs.Ended.{RunEnd}
use Rattle.kp_script.specs.Piped.{PipesFirst, PipesFront, PipesTo, counted_in}
use Rattle.kp_script.specs.Piping.{Stands, StandsOn, stage_of}
use Rattle.kp_script.specs.Reads.{Reads, reader_of}
use Rattle.kp_script.specs.declared.pipe.Running.{Running}
use Rattle.kp_script.proofs.Answering.{counted_push, cut_somewhere, most_nodes, pipes_first, pipes_front, pipes_to, reads_more, reads_nothing, reads_whole, some_nodes}
use Rattle.kp_script.proofs.pipe.play_pipe.Goals as goal

pub loop-read-init : goal.loop-read-init
loop-read-init g c = record {
  so_far = ([], [], refl, reads_nothing _, (tt, refl, refl), Appends-nil _);
  nodes = tt;
  few = omega arith;
  read_same = refl;
  written_same = refl;
}

pub answer_next-requires-clause-nodes : goal.answer_next-requires-clause-nodes
answer_next-requires-clause-nodes g c = c.loop-read.invariant.nodes

pub answer_next-requires-clause-reads : goal.answer_next-requires-clause-reads
answer_next-requires-clause-reads g c = omega (arith, c.loop-read.invariant.read_same, c.requires.reads)

pub answer_next-requires-clause-writes : goal.answer_next-requires-clause-writes
answer_next-requires-clause-writes g c = omega (arith, c.loop-read.invariant.written_same, c.requires.writes)

pub left-requires-clause-some : goal.left-requires-clause-some
left-requires-clause-some g c =
    let t = c.loop-read.invariant.so_far in
    let same = c.in-Ok-None.ensures.same (ap (λ (o : Option ℕ). Ok o) c.in-Ok-None.field-0-is) in
    subst (λ (running : Option Running). IfSome running (λ nodes. 0 < nodes.count)) (sym same) (some_nodes (counted_in t.0) t.1 c.loop-read.refused c.loop-read.running t.4)

pub left-requires-clause-most : goal.left-requires-clause-most
left-requires-clause-most g c =
    let t = c.loop-read.invariant.so_far in
    let same = c.in-Ok-None.ensures.same (ap (λ (o : Option ℕ). Ok o) c.in-Ok-None.field-0-is) in
    subst (λ (running : Option Running). IfSome running (λ nodes. nodes.count ≤ 7)) (sym same) (most_nodes (counted_in t.0) t.1 c.loop-read.refused c.loop-read.running t.4)

pub returns-in-Ok-None-clause-piped : goal.returns-in-Ok-None-clause-piped
returns-in-Ok-None-clause-piped g c =
    let t = c.loop-read.invariant.so_far in
    let none = ap (λ (o : Option ℕ). Ok o) c.in-Ok-None.field-0-is in
    let a = g.R.Read.remaining (reader_of c.args.reader.now) in
    let old = g.W.Write.contents (device_of c.args.writer.now) in
    let now = g.W.Write.contents (device_of c.answer_next.new.writer) in
    let refused = c.loop-read.refused in
    let piped : PipesTo a old (g.W.Write.contents (device_of c.loop-read.writer)) (record { refused = refused; stage = stage_of c.loop-read.running }) =
    pipes_to c.runs_keep_count.ensures c.runs_are_safe.ensures c.no_delivery_is_refused_oddly.ensures a (g.R.Read.remaining (reader_of c.loop-read.reader))
    (g.R.Read.remaining (reader_of c.answer_next.new.reader)) old (g.W.Write.contents (device_of c.loop-read.writer)) t.0 t.1 refused c.loop-read.running t.3 t.4 t.5 (c.in-Ok-None.ensures.end none) in
    subst (λ (ended : RunEnd). PipesTo a old now ended) (sym c.left.ensures)
    (subst (λ (running : Option Running). PipesTo a old now (record { refused = refused; stage = stage_of running })) (sym (c.in-Ok-None.ensures.same none))
    (subst (λ (w : Counted g.row.W.Denot). PipesTo a old (g.W.Write.contents (device_of w)) (record { refused = refused; stage = stage_of c.loop-read.running }))
    (sym (c.in-Ok-None.ensures.quiet none)) piped))

pub returns-in-Err-clause-cut : goal.returns-in-Err-clause-cut
returns-in-Err-clause-cut g c =
    let t = c.loop-read.invariant.so_far in
    let a = g.R.Read.remaining (reader_of c.args.reader.now) in
    let b = g.R.Read.remaining (reader_of c.loop-read.reader) in
    let left = g.R.Read.remaining (reader_of c.answer_next.new.reader) in
    let old = g.W.Write.contents (device_of c.args.writer.now) in
    let mid = g.W.Write.contents (device_of c.loop-read.writer) in
    let now = g.W.Write.contents (device_of c.answer_next.new.writer) in
    let number : c.loop-read.read + 1 ≡ length t.0 + 1 = omega (arith, t.2) in
    subst (λ (ended : RunEnd). ((faults_of c.answer_next.new.writer ≡ faults_of c.args.writer.now) × PipesFirst a left old now ended.stage)
    ⊎ ((faults_of c.answer_next.new.writer ≡ faults_of c.args.writer.now + 1) × PipesFront a left old now ended.stage)) (sym c.cut_off.ensures.piped) (
    elim c.in-Err.ensures.cut [
      | inl u ↦ inl (
        ap (λ (w : Counted g.row.W.Denot). faults_of w) u.0 ∙ c.loop-read.invariant.written_same,
        subst (λ (w : Counted g.row.W.Denot). PipesFirst a left old (g.W.Write.contents (device_of w)) (stage_of c.answer_next.new.running)) (sym u.0)
            (pipes_first c.runs_keep_count.ensures c.runs_are_safe.ensures c.no_delivery_is_refused_oddly.ensures a b left old mid t.0 t.1 c.loop-read.refused c.loop-read.running t.3 t.4 t.5
            (c.loop-read.read + 1) c.answer_next.new.running number u.1),
      )
      | inr f ↦ inr (
        f.0 ∙ ap (λ (n : ℕ). n + 1) c.loop-read.invariant.written_same,
        pipes_front c.runs_keep_count.ensures c.runs_are_safe.ensures c.no_delivery_is_refused_oddly.ensures a b left old mid t.0 t.1 c.loop-read.refused c.loop-read.running t.3 t.4 t.5
            (c.loop-read.read + 1) c.answer_next.new.running now number f.1,
      )
    ])

pub loop-read-preserved : goal.loop-read-preserved
loop-read-preserved g c =
    let t = c.loop-read.invariant.so_far in
    let b = g.R.Read.remaining (reader_of c.loop-read.reader) in
    let left = g.R.Read.remaining (reader_of c.answer_next.new.reader) in
    let old = g.W.Write.contents (device_of c.args.writer.now) in
    let mid = g.W.Write.contents (device_of c.loop-read.writer) in
    let now = g.W.Write.contents (device_of c.answer_next.new.writer) in
    let new = c.answer_next.new.running in
    let next : (line : Option (List ℕ)) × (answer : List ℕ) × Reads b left (line ∷ []) × StandsOn (c.loop-read.read + 1, line) c.loop-read.running new c.in-Ok-Some.more answer × Appends mid now answer =
    subst (λ (o : Option ℕ). IfSome o (λ refused. (line : Option (List ℕ)) × (answer : List ℕ) × Reads b left (line ∷ []) × StandsOn (c.loop-read.read + 1, line) c.loop-read.running new refused answer
    × Appends mid now answer)) c.in-Ok-Some.field-0-is c.in-Ok-Some.ensures.more in
    let one : c.in-Ok-Some.more ≤ 1 = subst (λ (o : Option ℕ). IfSome o (λ refused. refused ≤ 1)) c.in-Ok-Some.field-0-is c.in-Ok-Some.ensures.few in
    let number : c.loop-read.read + 1 ≡ length t.0 + 1 = omega (arith, t.2) in
    let refused = c.loop-read.refused + c.in-Ok-Some.more in
    record {
      so_far = (
        t.0 ++ next.0 ∷ [],
        t.1 ++ next.1,
        omega (arith, length-append t.0 (next.0 ∷ []), t.2),
        reads_more _ b left t.0 (next.0 ∷ []) t.3 next.2,
        subst (λ (all : List (ℕ × Option (List ℕ))). Stands all (t.1 ++ next.1) refused new) (sym (counted_push t.0 next.0 (c.loop-read.read + 1) number))
            (next.3 (counted_in t.0) t.1 c.loop-read.refused t.4),
        Appends-trans old mid now t.1 next.1 t.5 next.4,
      );
      nodes = c.in-Ok-Some.ensures.nodes;
      few = omega (arith, one, c.loop-read.invariant.few);
      read_same = c.in-Ok-Some.ensures.counted.0 ∙ c.loop-read.invariant.read_same;
      written_same = c.in-Ok-Some.ensures.counted.1 ∙ c.loop-read.invariant.written_same;
    }

pub returns-clause-cut : goal.returns-clause-cut
returns-clause-cut g c =
    let t = c.loop-read.invariant.so_far in
    let a = g.R.Read.remaining (reader_of c.args.reader.now) in
    let b = g.R.Read.remaining (reader_of c.loop-read.reader) in
    let old = g.W.Write.contents (device_of c.args.writer.now) in
    let now = g.W.Write.contents (device_of c.loop-read.writer) in
    inl (
      c.loop-read.invariant.written_same,
      subst (λ (ended : RunEnd). PipesFirst a b old now ended.stage) (sym c.cut_off-2.ensures.piped)
          (pipes_first c.runs_keep_count.ensures c.runs_are_safe.ensures c.no_delivery_is_refused_oddly.ensures a b b old now t.0 t.1 c.loop-read.refused c.loop-read.running t.3 t.4 t.5
          (length t.0 + 1) c.loop-read.running refl (inl (reads_whole b b [] (reads_nothing b), refl))),
    )

pub cut_off-requires-clause-some : goal.cut_off-requires-clause-some
cut_off-requires-clause-some g c =
    let t = c.loop-read.invariant.so_far in
    let s = cut_somewhere (c.loop-read.read + 1) _ _ c.loop-read.running c.answer_next.new.running _ _ (counted_in t.0) t.1 c.loop-read.refused t.4 c.in-Err.ensures.cut in
    some_nodes s.0 s.1 s.2 c.answer_next.new.running s.3

pub cut_off-requires-clause-most : goal.cut_off-requires-clause-most
cut_off-requires-clause-most g c =
    let t = c.loop-read.invariant.so_far in
    let s = cut_somewhere (c.loop-read.read + 1) _ _ c.loop-read.running c.answer_next.new.running _ _ (counted_in t.0) t.1 c.loop-read.refused t.4 c.in-Err.ensures.cut in
    most_nodes s.0 s.1 s.2 c.answer_next.new.running s.3
