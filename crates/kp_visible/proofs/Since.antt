-- What follows a producer's last marker, and what its open transaction begins with.
use Rattle.std.proofs.Common.{◌≡◌, ℕ, ◌<◌, ◌≤◌, Bool, true, false, cond, List, [], ◌∷◌, ◌++◌, Option, Some, None, refl, sym, ap, ◌∙◌, subst, arith, append_assoc, append-nil}
use Rattle.std.specs.Prelude.{reverse, not}
use Rattle.std.specs.List.{AllByRecursion, find, take_while}
use Rattle.std.specs.Option.{option_map, option_or}
use Rattle.std.proofs.lemmas.List.{reverse-append}
use Rattle.std.proofs.lemmas.List.Sums.{take_while-cons}
use Rattle.kp_model.specs.Log.{Batch}
use Rattle.kp_model.specs.Transactions.{is_marker_of, is_transactional_of, since_marker, open_of}
use Rattle.kp_visible.proofs.Lists.{all_here}
use Rattle.kp_types.proofs.Elements.{all_append, all_front, find-append, all_find}

-- ---- the batches since the last marker

-- with one batch more: none, where it is a marker of the producer's, else one more
pub since_push : (producer : ℕ) (log : List Batch) (b : Batch) → since_marker producer (log ++ b ∷ []) ≡ cond (is_marker_of producer b) [] (since_marker producer log ++ b ∷ [])
since_push producer log b =
    let test : Batch → Bool = λ x. not (is_marker_of producer x) in
    let turned : take_while test (reverse (log ++ b ∷ [])) ≡ cond (test b) (b ∷ take_while test (reverse log)) [] =
    ap (take_while test) (reverse-append log (b ∷ [])) ∙ take_while-cons test b (reverse log) in
    ap reverse turned ∙ go (is_marker_of producer b) (take_while test (reverse log))
  where
    go : (marks : Bool) (newest : List Batch) → reverse (cond (not marks) (b ∷ newest) []) ≡ cond marks [] (reverse newest ++ b ∷ [])
    go true newest = refl
    go false newest = reverse-append (b ∷ []) newest

since_more : (producer : ℕ) (log more : List Batch) → AllByRecursion (λ x. is_marker_of producer x ≡ false) more → since_marker producer (log ++ more) ≡ since_marker producer log ++ more
since_more producer log [] none = ap (since_marker producer) (append-nil log) ∙ sym (append-nil (since_marker producer log))
since_more producer log (b ∷ more) none =
    let pushed : since_marker producer (log ++ b ∷ []) ≡ since_marker producer log ++ b ∷ [] = since_push producer log b ∙ rw none.0 refl in
    ap (since_marker producer) (sym (append_assoc log (b ∷ []) more)) ∙ since_more producer (log ++ b ∷ []) more none.1
    ∙ ap (λ (l : List Batch). l ++ more) pushed ∙ append_assoc (since_marker producer log) (b ∷ []) more

all_since_more : (P : Batch → Type 0) (producer : ℕ) (log more : List Batch) → AllByRecursion P (since_marker producer log) → AllByRecursion P more → AllByRecursion P (since_marker producer (log ++ more))
all_since_more P producer log [] h all = subst (λ (l : List Batch). AllByRecursion P (since_marker producer l)) (sym (append-nil log)) h
all_since_more P producer log (b ∷ more) h all =
    let pushed : AllByRecursion P (since_marker producer (log ++ b ∷ [])) =
    subst (AllByRecursion P) (sym (since_push producer log b)) (go (is_marker_of producer b)) in
    subst (λ (l : List Batch). AllByRecursion P (since_marker producer l)) (append_assoc log (b ∷ []) more) (all_since_more P producer (log ++ b ∷ []) more pushed all.1)
  where
    go : (marks : Bool) → AllByRecursion P (cond marks [] (since_marker producer log ++ b ∷ []))
    go true = tt
    go false = all_append P (since_marker producer log) (b ∷ []) h (all.0, tt)

-- what is true of each batch of a log
all_since : (P : Batch → Type 0) (producer : ℕ) (log : List Batch) → AllByRecursion P log → AllByRecursion P (since_marker producer log)
all_since P producer log all = all_since_more P producer [] log tt all

-- what is true of each batch behind a marker of the producer's
all_since_marker : (P : Batch → Type 0) (producer : ℕ) (front behind : List Batch) (m : Batch) → is_marker_of producer m ≡ true → AllByRecursion P behind
    → AllByRecursion P (since_marker producer (front ++ m ∷ behind))
all_since_marker P producer front behind m marks all =
    let none : since_marker producer (front ++ m ∷ []) ≡ [] = since_push producer front m ∙ rw marks refl in
    let start : AllByRecursion P (since_marker producer (front ++ m ∷ [])) = rw none tt in
    subst (λ (l : List Batch). AllByRecursion P (since_marker producer l)) (append_assoc front (m ∷ []) behind) (all_since_more P producer (front ++ m ∷ []) behind start all)

-- ---- the open transaction

-- the batch that the open transaction begins with
pub record OpensAt (P : Batch → Type 0) (log : List Batch) (producer high : ℕ) : Type 0 where
  pub batch : Batch
  pub opened : open_of log producer ≡ Some batch.base
  pub holds : P batch
  pub own : is_transactional_of producer batch ≡ true
  pub from : batch.base ≤ high

-- A producer has a transaction open that begins no later than its transactional batch that no marker of it follows.
pub opens_at : (P : Batch → Type 0) (producer : ℕ) (front back : List Batch) (b : Batch) → AllByRecursion P (front ++ b ∷ back) → AllByRecursion (λ x. x.base ≤ b.base) front
    → is_transactional_of producer b ≡ true → AllByRecursion (λ x. is_marker_of producer x ≡ false) (b ∷ back) → OpensAt P (front ++ b ∷ back) producer b.base
unfolding open_of
opens_at P producer front back b all earlier own none =
    by_first (find (is_transactional_of producer) (since_marker producer front)) refl
  where
    found_in : find (is_transactional_of producer) (since_marker producer (front ++ b ∷ back)) ≡ option_or (find (is_transactional_of producer) (since_marker producer front)) (Some b)
    found_in =
        ap (find (is_transactional_of producer)) (since_more producer front (b ∷ back) none)
        ∙ find-append (is_transactional_of producer) (since_marker producer front) (b ∷ back) ∙ rw own refl

    by_first : (o : Option Batch) → find (is_transactional_of producer) (since_marker producer front) ≡ o → OpensAt P (front ++ b ∷ back) producer b.base
    by_first None e =
        record {
          batch = b;
          opened = ap (option_map (λ x. x.base)) (rw e at found_in);
          holds = all_here P front back b all;
          own = own;
          from = omega arith;
        }
    by_first (Some t) e =
        let before = all_since (λ x. x.base ≤ b.base) producer front earlier in
        let holds = all_since P producer front (all_front P front (b ∷ back) all) in
        record {
          batch = t;
          opened = ap (option_map (λ x. x.base)) (rw e at found_in);
          holds = (all_find (is_transactional_of producer) P (since_marker producer front) t holds e).0;
          own = (all_find (is_transactional_of producer) P (since_marker producer front) t holds e).1;
          from = (all_find (is_transactional_of producer) (λ x. x.base ≤ b.base) (since_marker producer front) t before e).0;
        }

-- A transaction that is open behind a marker of its producer begins behind the marker.
pub opens_behind : (producer low first : ℕ) (front behind : List Batch) (m : Batch) → is_marker_of producer m ≡ true → AllByRecursion (λ x. low < x.base) behind
    → open_of (front ++ m ∷ behind) producer ≡ Some first → low < first
unfolding open_of
opens_behind producer low first front behind m marks later opened =
    by_found (find (is_transactional_of producer) (since_marker producer (front ++ m ∷ behind))) refl opened
  where
    by_found : (o : Option Batch) → find (is_transactional_of producer) (since_marker producer (front ++ m ∷ behind)) ≡ o → option_map (λ x. x.base) o ≡ Some first → low < first
    by_found None e is = absurd cc
    by_found (Some t) e is =
        let same : t.base ≡ first = cc in
        let late = (all_find (is_transactional_of producer) (λ x. low < x.base) (since_marker producer (front ++ m ∷ behind)) t
        (all_since_marker (λ x. low < x.base) producer front behind m marks later) e).0 in
        omega (arith, same, late)
