-- A text of a log's batches that grows line by line.
use Rattle.std.proofs.Common.{◌≡◌, ℕ, ◌+◌, ◌≤◌, ◌^◌, List, [], ◌∷◌, ◌++◌, map, ap, ◌∙◌, append_assoc, subst, codes}
use Rattle.std.specs.List.{AllByRecursion, flat_map}
use Rattle.std.specs.Fmt.{decimal}
use Rattle.std.proofs.lemmas.List.Folds.{flat_map-map}
use Rattle.kp_batch.specs.Batch.{Written}
use Rattle.kp_model.specs.Log.{logged, bytes, next_offset, end_of}
use Rattle.kp_segment.specs.Segmented.{Segmented}
use Rattle.kp_segment.specs.Shown.{Shown, ShowSegmentsOf, kept_shows, segment_shows}
use Rattle.kp_segment.specs.declared.segment.Segment.{Segment}
use Rattle.kp_inspect.specs.Dump.{epoch_line, line, batch_lines, segment_lines, producer_line, open_line, aborted_line}
use Rattle.kp_model.specs.Transactions.{Open, Aborted, open_in, aborted_in}
use Rattle.kp_log.specs.Partition.{Partition, segmented}
use Rattle.kp_model.specs.Epochs.{epoch_cache}
use Rattle.kp_epochs.specs.Cache.{Cache, AreEpochsOf}
use Rattle.kp_producers.specs.Table.{Table, AreProducersOf}
use Rattle.kp_inspect.specs.Texts.{shown_lines, TellsTables}

abbrev pub IsPlaced : Written → Type 0
IsPlaced w = next_offset (logged w) ≤ 2 ^ 62

-- the batches that are still to come begin at this byte
pub record Told (before now : List ℕ) (all : List Written) (position : ℕ) (rest : List Written) : Type 0 where
  pub text : now ++ batch_lines position (map logged rest) ≡ before ++ batch_lines 0 (map logged all)
  pub size : position + bytes (map logged rest) ≡ bytes (map logged all)
  pub placed : AllByRecursion IsPlaced rest

-- ---- the tables

-- five pieces behind a text, one after another
five_joined : (before first second third fourth after a b c d e : List ℕ) → first ≡ before ++ a → second ≡ first ++ b → third ≡ second ++ c → fourth ≡ third ++ d
    → after ≡ fourth ++ e → after ≡ before ++ (a ++ b ++ (c ++ d) ++ e)
five_joined before first second third fourth after a b c d e one two three four five =
    five ∙ ap (λ (t : List ℕ). t ++ e) (four ∙ ap (λ (t : List ℕ). t ++ d) three ∙ append_assoc second c d)
    ∙ ap (λ (t : List ℕ). t ++ (c ++ d) ++ e) (two ∙ ap (λ (t : List ℕ). t ++ b) one ∙ append_assoc before a b)
    ∙ ap (λ (t : List ℕ). t ++ e) (append_assoc before (a ++ b) (c ++ d))
    ∙ append_assoc before (a ++ b ++ (c ++ d)) e

-- and one more before them
six_joined : (before first noted second third fourth after a f b c d e : List ℕ) → first ≡ before ++ a → noted ≡ first ++ f → second ≡ noted ++ b → third ≡ second ++ c
    → fourth ≡ third ++ d → after ≡ fourth ++ e → after ≡ before ++ (a ++ f ++ b ++ (c ++ d) ++ e)
six_joined before first noted second third fourth after a f b c d e one more two three four five =
    five_joined before noted second third fourth after (a ++ f) b c d e (more ∙ ap (λ (t : List ℕ). t ++ f) one ∙ append_assoc before a f) two three four five

pub tables_told : (s : Partition) (t : Segmented) (shows : List Segment) (epochs : Cache) (table : Table) (opening : List Open) (aborted : List Aborted)
    (before segments noted producers opened done after : List ℕ) (end : ℕ) → t ≡ segmented s → ShowSegmentsOf t.limits t.log shows → AreEpochsOf s.log epochs → AreProducersOf s.log table
    → opening ≡ open_in s.log → aborted ≡ aborted_in s.log → segments ≡ before ++ flat_map shown_lines (map kept_shows shows)
    → noted ≡ segments ++ flat_map epoch_line epochs → producers ≡ noted ++ flat_map producer_line table → opened ≡ producers ++ flat_map open_line opening → done ≡ opened ++ flat_map aborted_line aborted
    → after ≡ done ++ line (codes "end" ∷ decimal end ∷ []) → end ≡ end_of s.log → TellsTables s before after
tables_told s t shows epochs table opening aborted before segments noted producers opened done after end same are cached holds opens aborts grown noting told more ended last ends =
    let are : ShowSegmentsOf s.limits s.log shows = subst (λ (x : Segmented). ShowSegmentsOf x.limits x.log shows) same are in
    let shown : flat_map shown_lines (map kept_shows shows) ≡ flat_map segment_lines are.segments =
    ap (λ (l : List Shown). flat_map shown_lines l) are.shown ∙ flat_map-map shown_lines segment_shows are.segments in
    let tables : segments ≡ before ++ flat_map segment_lines are.segments = grown ∙ ap (λ (t : List ℕ). before ++ t) shown in
    let caching : noted ≡ segments ++ flat_map epoch_line (epoch_cache s.log) = noting ∙ ap (λ (l : Cache). segments ++ flat_map epoch_line l) cached in
    let begun : opened ≡ producers ++ flat_map open_line (open_in s.log) = more ∙ ap (λ (l : List Open). producers ++ flat_map open_line l) opens in
    let ended : done ≡ opened ++ flat_map aborted_line (aborted_in s.log) = ended ∙ ap (λ (l : List Aborted). opened ++ flat_map aborted_line l) aborts in
    let closed : after ≡ done ++ line (codes "end" ∷ decimal (end_of s.log) ∷ []) = last ∙ ap (λ (n : ℕ). done ++ line (codes "end" ∷ decimal n ∷ [])) ends in
    record {
      segments = are.segments;
      tables = are.lawful;
      producers = table;
      kept = holds;
      grown = six_joined before segments noted producers opened done after (flat_map segment_lines are.segments) (flat_map epoch_line (epoch_cache s.log)) (flat_map producer_line table)
          (flat_map open_line (open_in s.log)) (flat_map aborted_line (aborted_in s.log)) (line (codes "end" ∷ decimal (end_of s.log) ∷ []))
          tables caching told begun ended closed;
    }
