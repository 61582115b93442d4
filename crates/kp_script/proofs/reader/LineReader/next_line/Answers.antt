use Rattle.std.proofs.Common.{◌≡◌, ◌∙◌, ◌++◌, [], ◌+◌, ◌<◌, ◌≢◌, List, ℕ, length, refl, sym, ap, subst, arith, rules, tests, append-nil, vec_len}
use Rattle.std.proofs.lemmas.Bool.{eqb-false}
use Rattle.std.proofs.KnownBytes.{Consumes-kept, Consumes-nil, Consumes-trans}
use Rattle.kp_types.specs.Devices.{CountsFault, IsDeviceFault}
use Rattle.kp_types.specs.declared.refusal.Refusal.{Refusal}
use Rattle.kp_script.specs.Reads.{Gives, ReadsInto, read_faults, reader_of}
use Rattle.kp_script.specs.declared.reader.Piece.{Piece}
use Rattle.kp_words.proofs.Splitting.{lacks_append}
use Rattle.kp_script.proofs.Pieces.{ended_before, kept_fits, kept_more, none_kept, reads_into, reads_last, reads_line, reads_none, some_kept, took_last}
use Rattle.kp_script.proofs.reader.LineReader.next_line.Goals as goal

pub loop-init : goal.loop-init
loop-init g c = record { taken = ([], tt, c.clear.ensures.items, Consumes-nil _); failed = refl }

pub take_piece-requires : goal.take_piece-requires
take_piece-requires g c = let t = c.loop.invariant.taken in kept_fits 2100001 c.loop.self.line.items t.0 t.2

pub loop-preserved : goal.loop-preserved
loop-preserved g c =
    let t = c.loop.invariant.taken in
    let p = c.in-Ok-Part.ensures.given in
    let gives = subst (λ (piece : Piece). Gives piece (g.R.Read.remaining c.loop.self.inner) (g.R.Read.remaining c.take_piece.new.reader) p.0) c.in-Ok-Part.field-0-is p.2 in
    record {
      taken = (
        t.0 ++ p.0,
        lacks_append 10 t.0 p.0 t.1 p.1,
        kept_more 2100001 c.loop.self.line.items c.take_piece.new.line.items t.0 p.0 t.2 p.3,
        Consumes-trans _ _ _ t.0 p.0 t.3 gives,
      );
      failed = c.loop.invariant.failed;
    }

pub returns-in-Ok-Last-clause-found : goal.returns-in-Ok-Last-clause-found
returns-in-Ok-Last-clause-found g c = λ e.
    let t = c.loop.invariant.taken in
    let p = c.in-Ok-Last.ensures.given in
    let gives = subst (λ (piece : Piece). Gives piece (g.R.Read.remaining c.loop.self.inner) (g.R.Read.remaining c.take_piece.new.reader) p.0) c.in-Ok-Last.field-0-is p.2 in (
      t.0 ++ p.0,
      kept_more 2100001 c.loop.self.line.items c.take_piece.new.line.items t.0 p.0 t.2 p.3,
      reads_line _ _ (t.0 ++ p.0) (lacks_append 10 t.0 p.0 t.1 p.1) (took_last _ _ _ t.0 p.0 t.3 gives),
    )

pub returns-in-Ok-End-clause-end : goal.returns-in-Ok-End-clause-end
returns-in-Ok-End-clause-end g c = λ e.
    let t = c.loop.invariant.taken in
    let p = c.in-Ok-End.ensures.given in
    let gives = subst (λ (piece : Piece). Gives piece (g.R.Read.remaining c.loop.self.inner) (g.R.Read.remaining c.take_piece.new.reader) p.0) c.in-Ok-End.field-0-is p.2 in
    let zero : length c.take_piece.new.line.items ≡ 0 = search (rules, tests) in
    let kept = kept_more 2100001 c.loop.self.line.items c.take_piece.new.line.items t.0 p.0 t.2 p.3 in
    let none = none_kept 2100001 (t.0 ++ p.0) (omega arith) (ap length (sym kept) ∙ zero) in
    ended_before _ _ t.0 (sym (append-nil t.0) ∙ ap (λ (l : List ℕ). t.0 ++ l) (sym gives.2) ∙ none) t.3 gives.1

pub returns-in-Ok-End-clause-rest : goal.returns-in-Ok-End-clause-rest
returns-in-Ok-End-clause-rest g c = λ e.
    let t = c.loop.invariant.taken in
    let p = c.in-Ok-End.ensures.given in
    let gives = subst (λ (piece : Piece). Gives piece (g.R.Read.remaining c.loop.self.inner) (g.R.Read.remaining c.take_piece.new.reader) p.0) c.in-Ok-End.field-0-is p.2 in
    let zero : length c.take_piece.new.line.items ≡ 0 = search (rules, tests) in
    let kept = kept_more 2100001 c.loop.self.line.items c.take_piece.new.line.items t.0 p.0 t.2 p.3 in
    let none = none_kept 2100001 (t.0 ++ p.0) (omega arith) (ap length (sym kept) ∙ zero) in
    reads_none _ _ _ t.0 p.0 (sym (append-nil t.0) ∙ ap (λ (l : List ℕ). t.0 ++ l) (sym gives.2) ∙ none) t.3 gives.0 gives.2

pub returns-in-Ok-End-2-clause-torn : goal.returns-in-Ok-End-2-clause-torn
returns-in-Ok-End-2-clause-torn g c = λ e.
    let t = c.loop.invariant.taken in
    let p = c.in-Ok-End.ensures.given in
    let gives = subst (λ (piece : Piece). Gives piece (g.R.Read.remaining c.loop.self.inner) (g.R.Read.remaining c.take_piece.new.reader) p.0) c.in-Ok-End.field-0-is p.2 in
    let long : vec_len c.take_piece.new.line ≢ 0 = eqb-false (vec_len c.take_piece.new.line) 0 (sym c.is_empty.ensures ∙ c.if-is_empty.false) in
    let some : length c.take_piece.new.line.items ≢ 0 = λ none. long (omega (arith, none, c.take_piece.new.line.ok.0)) in
    let kept = kept_more 2100001 c.loop.self.line.items c.take_piece.new.line.items t.0 p.0 t.2 p.3 in
    let whole : t.0 ++ p.0 ≡ t.0 = ap (λ (l : List ℕ). t.0 ++ l) gives.2 ∙ append-nil t.0 in
    let there = some_kept 2100001 (t.0 ++ p.0) (λ none. some (ap length kept ∙ none)) in
    reads_last _ _ _ t.0 p.0 t.1 (subst (λ (l : List ℕ). 0 < length l) whole there) t.3 gives.0 gives.1 gives.2

pub returns-in-Err-Memory-clause-begun : goal.returns-in-Err-Memory-clause-begun
returns-in-Err-Memory-clause-begun g c =
    let t = c.loop.invariant.taken in
    reads_into _ _ t.0 t.1 (Consumes-kept _ _ _ t.0 t.3 c.in-Err-Memory.ensures.err)

pub returns-in-Err : goal.returns-in-Err
returns-in-Err g c =
    let t = c.loop.invariant.taken in
    let a = g.R.Read.remaining (reader_of c.args.self.now) in
    record {
      found = search (rules, tests);
      torn = search (rules, tests);
      end = search (rules, tests);
      rest = search (rules, tests);
      begun =
          subst (λ (r : g.row.R.Denot). ReadsInto a (g.R.Read.remaining r) []) (sym c.fail.ensures.reader)
          (reads_into _ _ t.0 t.1 (Consumes-kept _ _ _ t.0 t.3 c.in-Err.ensures.err));
      only = subst IsDeviceFault (sym c.fail.ensures.device) tt;
      counted =
          subst (λ (r : Refusal). CountsFault r (read_faults c.args.self.now) (read_faults c.fail.new.self)) (sym c.fail.ensures.device)
          (c.fail.ensures.faults ∙ ap (λ (n : ℕ). n + 1) c.loop.invariant.failed);
    }

pub returns-clause-begun : goal.returns-clause-begun
returns-clause-begun g c =
    let t = c.loop.invariant.taken in
    let a = g.R.Read.remaining (reader_of c.args.self.now) in
    subst (λ (r : g.row.R.Denot). ReadsInto a (g.R.Read.remaining r) []) (sym c.fail-2.ensures.reader) (reads_into _ _ t.0 t.1 t.3)
