-- What a client is left with of two answers, of which the second goes on where the first ended.
use Rattle.std.proofs.Common.{◌≡◌, ℕ, ◌≤◌, List, ◌++◌, refl, sym, ap, ◌∙◌, subst, append_assoc}
use Rattle.std.specs.Prelude.{Contains, map}
use Rattle.std.specs.List.{AllByRecursion, filter}
use Rattle.std.proofs.lemmas.List.Elements.{filter-append}
use Rattle.kp_model.specs.Beginning.{Begins}
use Rattle.kp_model.specs.Log.{Batch, IsLog, next_offset}
use Rattle.kp_model.specs.Transactions.{aborted_in, stable}
use Rattle.kp_model.specs.Visible.{is_visible}
use Rattle.kp_model.proofs.Plain.Logs.{IsLog-begins}
use Rattle.kp_visible.specs.Client.{kept, named, overlapping}
use Rattle.kp_visible.specs.Laws.{IsStablePiece}
use Rattle.kp_visible.proofs.Places.{log_apart}
use Rattle.kp_visible.proofs.Growing.{settled_is}
use Rattle.kp_visible.proofs.Clients.{clients_keep}
use Rattle.kp_types.proofs.Elements.{all_behind, all_both, all_front, all_itself, filter_agree_on}

-- a piece's batches are the log's
of_log : (log batches : List Batch) (high_watermark : ℕ) → IsStablePiece batches log high_watermark → AllByRecursion (Contains log) batches
of_log log batches high_watermark piece =
    all_behind (Contains log) piece.front batches
    (all_front (Contains log) (piece.front ++ batches) piece.rest (subst (AllByRecursion (Contains log)) piece.is (all_itself log)))

-- what is visible of it stays so when the log grows
stays : (log more batches : List Batch) (high_watermark : ℕ) → IsLog log → IsStablePiece batches log high_watermark → filter (is_visible log) batches ≡ filter (is_visible (log ++ more)) batches
stays log more batches high_watermark lawful piece =
    filter_agree_on (λ b. Contains log b × (next_offset b ≤ stable log high_watermark)) (is_visible log) (is_visible (log ++ more))
    (λ b h. sym (settled_is log more high_watermark b (log_apart log lawful) h.0 h.1)) batches
    (all_both (Contains log) (λ b. next_offset b ≤ stable log high_watermark) batches (of_log log batches high_watermark piece) piece.below)

-- the second part of a piece
second : (log one other : List Batch) (high_watermark : ℕ) → IsStablePiece (one ++ other) log high_watermark → IsStablePiece other log high_watermark
second log one other high_watermark piece =
    record {
      front = piece.front ++ one;
      rest = piece.rest;
      is = piece.is ∙ ap (λ (l : List Batch). l ++ piece.rest) (sym (append_assoc piece.front one other));
      below = all_behind (λ b. next_offset b ≤ stable log high_watermark) one other piece.below;
    }

pub clients_read_on : (log more one other : List Batch) (earlier later : ℕ) → IsLog (log ++ more) → IsStablePiece one log earlier → IsStablePiece (one ++ other) (log ++ more) later
    → kept (map named (overlapping one (aborted_in log))) one ++ kept (map named (overlapping other (aborted_in (log ++ more)))) other
    ≡ filter (is_visible (log ++ more)) (one ++ other)
clients_read_on log more one other earlier later lawful piece whole =
    let begins : Begins log (log ++ more) = record { rest = more; is = refl } in
    let known : IsLog log = IsLog-begins begins lawful in
    let before = clients_keep log one earlier known piece ∙ stays log more one earlier known piece in
    let after = clients_keep (log ++ more) other later lawful (second (log ++ more) one other later whole) in
    ap (λ (l : List Batch). l ++ kept (map named (overlapping other (aborted_in (log ++ more)))) other) before
    ∙ ap (λ (l : List Batch). filter (is_visible (log ++ more)) one ++ l) after
    ∙ sym (filter-append (is_visible (log ++ more)) one other)
