-- The dump of bytes, from what was found in them and what was written of it.
use Rattle.std.proofs.Common.{◌≡◌, ℕ, List, [], ◌++◌, map, Option, Some, None, sym, ap, ◌∙◌, subst}
use Rattle.std.specs.Prelude.{MatchOption}
use Rattle.kp_types.specs.declared.refusal.Refusal.{Refusal}
use Rattle.kp_types.specs.declared.limits.Limits.{Limits}
use Rattle.kp_batch.specs.Batch.{Written}
use Rattle.kp_model.specs.Log.{logged, bytes}
use Rattle.kp_model.specs.Tables.{AreSegmentsOf}
use Rattle.kp_inspect.specs.Dump.{batch_lines, table_lines, fault_line}
use Rattle.kp_inspect.specs.Texts.{TellsTables}
use Rattle.kp_inspect.specs.Scanned.{BeginsWithLog, StopsAt, IsScan}
use Rattle.kp_inspect.specs.Inspected.{IsDump}
use Rattle.kp_inspect.specs.declared.scan.Scan.{Scan}

-- the lines of the batches that were found
abbrev pub lines_of : Scan → List ℕ
lines_of s = batch_lines 0 s.log.log

pub lines_told : (s : Scan) (batches : List Written) (empty now : List ℕ) → map logged batches ≡ s.log.log → empty ≡ [] → now ≡ empty ++ batch_lines 0 (map logged batches)
    → now ≡ lines_of s
lines_told s batches empty now same none told = told ∙ ap (λ (l : List ℕ). l ++ batch_lines 0 (map logged batches)) none ∙ ap (batch_lines 0) same

pub whole_dump : (limits : Limits) (input read : List ℕ) (s : Scan) (now text : List ℕ) → read ≡ input → IsScan limits read s → s.fault ≡ None
    → now ≡ lines_of s → TellsTables s.log now text → IsDump limits input text s.fault
whole_dump limits input read s now text same found none lines tables =
    let found : IsScan limits input s = subst (λ (l : List ℕ). IsScan limits l s) same found in
    let whole : BeginsWithLog limits.max_batch input s.log.log [] =
    subst (λ (fault : Option Refusal). MatchOption fault (BeginsWithLog limits.max_batch input s.log.log []) (StopsAt limits.max_batch input s.log.log)) none found.found in
    subst (λ (fault : Option Refusal). IsDump limits input text fault) (sym none)
    (record {
      log = s.log.log;
      whole = whole;
      segments = tables.segments;
      tables = subst (λ (l : Limits). AreSegmentsOf l s.log.log tables.segments) found.limits_are tables.tables;
      producers = tables.producers;
      kept = tables.kept;
      text_is = tables.grown ∙ ap (λ (l : List ℕ). l ++ table_lines tables.segments tables.producers s.log.log) lines;
    })

pub faulty_dump : (limits : Limits) (input read : List ℕ) (s : Scan) (refusal : Refusal) (position : ℕ) (now text : List ℕ) → read ≡ input → IsScan limits read s
    → s.fault ≡ Some refusal → now ≡ lines_of s → position ≡ bytes s.log.log → text ≡ now ++ fault_line refusal position → IsDump limits input text s.fault
faulty_dump limits input read s refusal position now text same found some lines at told =
    let found : IsScan limits input s = subst (λ (l : List ℕ). IsScan limits l s) same found in
    let stops : StopsAt limits.max_batch input s.log.log refusal =
    subst (λ (fault : Option Refusal). MatchOption fault (BeginsWithLog limits.max_batch input s.log.log []) (StopsAt limits.max_batch input s.log.log)) some found.found in
    subst (λ (fault : Option Refusal). IsDump limits input text fault) (sym some)
    (record {
      log = s.log.log;
      stops = stops;
      text_is = told ∙ ap (λ (l : List ℕ). l ++ fault_line refusal position) lines ∙ ap (λ (n : ℕ). lines_of s ++ fault_line refusal n) at;
    })
