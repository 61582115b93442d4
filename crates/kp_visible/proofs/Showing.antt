-- Of the batches below the last stable offset the list of aborted transactions shows those that are visible.
use Rattle.std.proofs.Common.{◌≡◌, ℕ, ◌<◌, ◌≤◌, Bool, true, false, leb, ◌&&◌, ◌||◌, List, [], ◌∷◌, ◌++◌, Option, Some, None, refl, sym, ap, ◌∙◌, subst, arith, append_assoc, inl, inr}
use Rattle.std.specs.Prelude.{Contains, map, not}
use Rattle.std.specs.List.{AllByRecursion, filter, find}
use Rattle.std.specs.Option.{option_map_or}
use Rattle.std.proofs.lemmas.Bool.{cases_Bool, eq-eqb, leb-true, and_parts}
use Rattle.kp_batch.specs.Batch.{Content, Plain, Produced, Marker, is_marker, is_transactional}
use Rattle.kp_model.specs.Log.{Batch, IsLog, below, from_offset, next_offset}
use Rattle.kp_model.specs.Producers.{content_of, producer_of, is_of}
use Rattle.kp_model.specs.Transactions.{aborted_in, is_abort, is_marker_of, is_transactional_of, stable}
use Rattle.kp_model.specs.Visible.{is_commit, is_visible, records_in, visible}
use Rattle.kp_visible.specs.Filter.{hides, shows, shows_at}
use Rattle.kp_visible.proofs.Lists.{Splits, splits, found_first, none_passes, all_here}
use Rattle.kp_visible.proofs.Places.{Apart, around, from_split, log_apart}
use Rattle.kp_visible.proofs.Since.{opens_at}
use Rattle.kp_visible.proofs.Holding.{IsPassed, abort_holds, commit_holds_nothing, held}
use Rattle.kp_visible.proofs.Stability.{stable_within, stable_before}
use Rattle.kp_visible.proofs.Stopping.{aborted_stable, hides_held}
use Rattle.kp_types.proofs.Elements.{all_weaker, all_append, all_filter, filter_agree_on, all_itself}

-- a marker is a commit or an abort
pub commit_or_abort : (content : Content) → is_marker content ≡ true → is_commit content ≡ not (is_abort content)
commit_or_abort (Plain records) e = absurd cc
commit_or_abort (Produced producer epoch sequence transactional records) e = absurd cc
commit_or_abort (Marker producer epoch coordinator true) e = refl
commit_or_abort (Marker producer epoch coordinator false) e = refl

-- the batch's next marker says whether the list holds it
held_at_marker : (front back behind : List Batch) (b m : Batch) (producer : ℕ) → Apart 0 (front ++ b ∷ (back ++ m ∷ behind)) → is_transactional_of producer b ≡ true → is_marker_of producer b ≡ false
    → is_marker_of producer m ≡ true → AllByRecursion (λ x. is_marker_of producer x ≡ false) back
    → held (aborted_in (front ++ b ∷ (back ++ m ∷ behind))) producer b.base ≡ is_abort (content_of m)
held_at_marker front back behind b m producer apart own unmarked marks none =
    let known = front ++ b ∷ back in
    let regrouped : front ++ b ∷ (back ++ m ∷ behind) ≡ known ++ m ∷ behind = sym (append_assoc front (b ∷ back) (m ∷ behind)) in
    let whole : Apart 0 (known ++ m ∷ behind) = subst (Apart 0) regrouped apart in
    let at = around 0 front (back ++ m ∷ behind) b apart in
    let at_marker = around 0 known behind m whole in
    let earlier = all_weaker _ (λ x. x.base ≤ b.base) (λ x h. let takes = h.0 in let ends = h.1 in omega (arith, takes, ends)) front at.ends in
    let passed = all_append (IsPassed producer b.base) front (b ∷ back) (all_weaker _ (IsPassed producer b.base) (λ x le. inl le) front earlier)
    (inr unmarked, all_weaker _ (IsPassed producer b.base) (λ x e. inr e) back none) in
    let o = opens_at (λ x. Unit {0}) producer front back b (nothing known) earlier own (unmarked, none) in
    let some = at.some in
    let ends = b_ends at_marker.ends in
    let late : b.base < m.base = omega (arith, some, ends) in
    ap (λ (l : List Batch). held (aborted_in l) producer b.base) regrouped
    ∙ elim (cases_Bool (is_abort (content_of m))) [
      | inl aborts ↦ abort_holds known behind m producer b.base o.batch.base whole passed marks aborts o.opened o.from late ∙ sym aborts
      | inr commits ↦ commit_holds_nothing known behind m producer b.base whole passed marks commits late ∙ sym commits
    ]
  where
    nothing : (xs : List Batch) → AllByRecursion (λ x. Unit {0}) xs
    nothing [] = tt
    nothing (x ∷ xs) = (tt, nothing xs)

    b_ends : AllByRecursion (λ x. (x.base < next_offset x) × (next_offset x ≤ m.base)) (front ++ b ∷ back) → next_offset b ≤ m.base
    b_ends h = (all_here (λ x. (x.base < next_offset x) × (next_offset x ≤ m.base)) front back b h).1

-- transactional data below the last stable offset: the list hides it where it isn't committed
hidden_is : (log : List Batch) (high_watermark : ℕ) (b : Batch) (producer : ℕ) → IsLog log → Splits log b → next_offset b ≤ stable log high_watermark
    → is_transactional_of producer b ≡ true → is_marker_of producer b ≡ false
    → not (hides (aborted_in log) producer b.base) ≡ option_map_or (λ m. is_commit (content_of m)) (find (is_marker_of producer) (from_offset (next_offset b) log)) false
hidden_is log high_watermark b producer lawful s within own unmarked = by_next (find (is_marker_of producer) s.back) refl
  where
    apart : Apart 0 (s.front ++ b ∷ s.back)
    apart = subst (Apart 0) s.is (log_apart log lawful)

    behind_is : from_offset (next_offset b) log ≡ s.back
    behind_is = ap (from_offset (next_offset b)) s.is ∙ from_split s.front s.back b (around 0 s.front s.back b apart)

    by_next : (o : Option Batch) → find (is_marker_of producer) s.back ≡ o
        → not (hides (aborted_in log) producer b.base) ≡ option_map_or (λ m. is_commit (content_of m)) (find (is_marker_of producer) (from_offset (next_offset b) log)) false
    by_next None e =
        let some = (around 0 s.front s.back b apart).some in
        let high = stable_within log high_watermark (log_apart log lawful) in
        let back = stable_before s.front s.back b producer high_watermark apart own (unmarked, none_passes (is_marker_of producer) s.back e) (omega (arith, within, high)) in
        let held : stable log high_watermark ≤ b.base = subst (λ (l : List Batch). stable l high_watermark ≤ b.base) (sym s.is) back in
        absurd (omega (arith, some, held, within))
    by_next (Some m) e =
        let f = found_first (is_marker_of producer) s.back m e in
        let parts : log ≡ s.front ++ b ∷ (f.front ++ m ∷ f.back) = s.is ∙ ap (λ (l : List Batch). s.front ++ b ∷ l) f.is in
        let holds = held_at_marker s.front f.front f.back b m producer (subst (Apart 0) parts (log_apart log lawful)) own unmarked f.passes f.before in
        let said : hides (aborted_in log) producer b.base ≡ is_abort (content_of m) =
        hides_held (aborted_in log) producer b.base (aborted_stable log lawful) ∙ ap (λ (l : List Batch). held (aborted_in l) producer b.base) parts ∙ holds in
        let next : find (is_marker_of producer) (from_offset (next_offset b) log) ≡ Some m = ap (find (is_marker_of producer)) behind_is ∙ e in
        let marks = (and_parts (is_marker (content_of m)) (is_of producer m) f.passes).0 in
        ap not said ∙ sym (commit_or_abort (content_of m) marks) ∙ sym (ap (λ (o : Option Batch). option_map_or (λ m. is_commit (content_of m)) o false) next)

-- whether a batch of this content would be visible in place of this one
abbrev pub visible_at : List Batch → Batch → Content → Bool
visible_at log b content =
    not (is_marker content)
    && (not (is_transactional content)
    || option_map_or (λ p. option_map_or (λ m. is_commit (content_of m)) (find (is_marker_of p.0) (from_offset (next_offset b) log)) false) (producer_of content) false)

-- one batch
pub shows_visible : (log : List Batch) (high_watermark : ℕ) (b : Batch) → IsLog log → Contains log b → next_offset b ≤ stable log high_watermark → shows (aborted_in log) b ≡ is_visible log b
shows_visible log high_watermark b lawful stands within = by_content (content_of b) refl
  where
    by_content : (content : Content) → content_of b ≡ content → shows (aborted_in log) b ≡ is_visible log b
    by_content (Plain records) is = rw is refl
    by_content (Produced producer epoch sequence false records) is = rw is refl
    by_content (Produced producer epoch sequence true records) is =
        let same = eq-eqb producer producer refl in
        let own : is_transactional_of producer b ≡ true = rw is same in
        let unmarked : is_marker_of producer b ≡ false = rw is refl in
        ap (shows_at (aborted_in log) b.base) is ∙ hidden_is log high_watermark b producer lawful (splits log b stands) within own unmarked ∙ sym (ap (visible_at log b) is)
    by_content (Marker producer epoch coordinator commit) is = rw is refl

-- all the batches
pub shown_is : (log batches : List Batch) (high_watermark : ℕ) → IsLog log → AllByRecursion (λ b. Contains log b × (next_offset b ≤ stable log high_watermark)) batches
    → records_in (filter (shows (aborted_in log)) batches) ≡ records_in (filter (is_visible log) batches)
shown_is log batches high_watermark lawful all =
    ap records_in (filter_agree_on _ (shows (aborted_in log)) (is_visible log) (λ b h. shows_visible log high_watermark b lawful h.0 h.1) batches all)

-- and each of them
pub shown_are : (log batches : List Batch) (high_watermark : ℕ) → IsLog log → AllByRecursion (λ b. Contains log b × (next_offset b ≤ stable log high_watermark)) batches
    → map (shows (aborted_in log)) batches ≡ map (is_visible log) batches
shown_are log [] high_watermark lawful all = refl
shown_are log (b ∷ batches) high_watermark lawful all =
    let here = shows_visible log high_watermark b lawful all.0.0 all.0.1 in
    let rest = shown_are log batches high_watermark lawful all.1 in
    cc

-- all that are below the last stable offset
pub whole_is : (log : List Batch) (high_watermark : ℕ) → IsLog log
    → records_in (filter (shows (aborted_in log)) (below (stable log high_watermark) log)) ≡ visible log high_watermark
unfolding visible
whole_is log high_watermark lawful =
    let known = below (stable log high_watermark) log in
    let stand = all_filter (λ x. leb (next_offset x) (stable log high_watermark)) (Contains log) log (all_itself log) in
    shown_is log known high_watermark lawful
    (all_weaker _ (λ b. Contains log b × (next_offset b ≤ stable log high_watermark)) (λ b h. (h.0, leb-true (next_offset b) (stable log high_watermark) h.1)) known stand)
