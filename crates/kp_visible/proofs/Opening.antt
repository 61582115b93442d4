-- Where in a log a producer's open transaction begins: at a batch that no marker of the producer's follows.
use Rattle.std.proofs.Common.{◌≡◌, ℕ, true, false, List, [], ◌∷◌, ◌++◌, Option, Some, None, refl, sym, ap, ◌∙◌, subst, append_assoc, append-nil, inl, inr}
use Rattle.std.specs.List.{AllByRecursion, find}
use Rattle.std.specs.Option.{option_map}
use Rattle.std.proofs.lemmas.Bool.{cases_Bool}
use Rattle.kp_model.specs.Log.{Batch}
use Rattle.kp_model.specs.Transactions.{is_marker_of, is_transactional_of, since_marker, open_of}
use Rattle.kp_visible.proofs.Lists.{found_first}
use Rattle.kp_visible.proofs.Since.{since_push}
use Rattle.kp_types.proofs.Elements.{all_append, all_behind}

-- the batches since the producer's last marker are the log's last ones, and none is a marker of the producer's
record Newest (producer : ℕ) (log : List Batch) : Type 0 where
  front : List Batch
  is : log ≡ front ++ since_marker producer log
  unmarked : AllByRecursion (λ x. is_marker_of producer x ≡ false) (since_marker producer log)

newest_push : (producer : ℕ) (log : List Batch) (b : Batch) → Newest producer log → Newest producer (log ++ b ∷ [])
newest_push producer log b h = elim (cases_Bool (is_marker_of producer b)) [
  | inl marks ↦
      let since : since_marker producer (log ++ b ∷ []) ≡ [] = since_push producer log b ∙ rw marks refl in
      record {
        front = log ++ b ∷ [];
        is = sym (append-nil (log ++ b ∷ [])) ∙ ap (λ (l : List Batch). (log ++ b ∷ []) ++ l) (sym since);
        unmarked = rw since tt;
      }
  | inr own ↦
      let since : since_marker producer (log ++ b ∷ []) ≡ since_marker producer log ++ b ∷ [] = since_push producer log b ∙ rw own refl in
      record {
        front = h.front;
        is =
            ap (λ (l : List Batch). l ++ b ∷ []) h.is ∙ append_assoc h.front (since_marker producer log) (b ∷ [])
            ∙ ap (λ (l : List Batch). h.front ++ l) (sym since);
        unmarked =
            subst (AllByRecursion (λ x. is_marker_of producer x ≡ false)) (sym since)
            (all_append (λ x. is_marker_of producer x ≡ false) (since_marker producer log) (b ∷ []) h.unmarked (own, tt));
      }
]

newest_more : (producer : ℕ) (log more : List Batch) → Newest producer log → Newest producer (log ++ more)
newest_more producer log [] h = subst (Newest producer) (sym (append-nil log)) h
newest_more producer log (b ∷ more) h =
    subst (Newest producer) (append_assoc log (b ∷ []) more) (newest_more producer (log ++ b ∷ []) more (newest_push producer log b h))

newest : (producer : ℕ) (log : List Batch) → Newest producer log
newest producer log =
    let none : Newest producer [] = record { front = []; is = refl; unmarked = tt } in
    newest_more producer [] log none

-- the batch that the open transaction begins with
pub record Opening (log : List Batch) (producer first : ℕ) : Type 0 where
  pub front : List Batch
  pub back : List Batch
  pub batch : Batch
  pub is : log ≡ front ++ batch ∷ back
  pub begins : batch.base ≡ first
  pub own : is_transactional_of producer batch ≡ true
  pub unmarked : AllByRecursion (λ x. is_marker_of producer x ≡ false) (batch ∷ back)

pub opening : (log : List Batch) (producer first : ℕ) → open_of log producer ≡ Some first → Opening log producer first
unfolding open_of
opening log producer first opened = by_found (find (is_transactional_of producer) (since_marker producer log)) refl opened
  where
    by_found : (o : Option Batch) → find (is_transactional_of producer) (since_marker producer log) ≡ o → option_map (λ x. x.base) o ≡ Some first → Opening log producer first
    by_found None e is = absurd cc
    by_found (Some t) e is =
        let n = newest producer log in
        let f = found_first (is_transactional_of producer) (since_marker producer log) t e in
        record {
          front = n.front ++ f.front;
          back = f.back;
          batch = t;
          is = n.is ∙ ap (λ (l : List Batch). n.front ++ l) f.is ∙ sym (append_assoc n.front f.front (t ∷ f.back));
          begins = let found : Some t.base ≡ Some first = is in cc;
          own = f.passes;
          unmarked = all_behind (λ x. is_marker_of producer x ≡ false) f.front (t ∷ f.back) (subst (AllByRecursion (λ x. is_marker_of producer x ≡ false)) f.is n.unmarked);
        }
