-- A caller's look at a mark word keeps the rule, and what it shows.
use Rattle.std.proofs.Common.{◌≡◌, ◌≢◌, ℕ, zero, suc, ◌<◌, ◌≤◌, List, [], ◌∷◌, length, get_or, set, inl, ⊎_elim, refl, sym, ap, ◌∙◌, subst, arith, length-set, get_or-set_other, get_or-set_same}
use Rattle.std.specs.Prelude.{Contains, slice_index_or}
use mathlib.Core.Logic.{dite}
use mathlib.Core.Option.{none}
use native.Mathlib.Decide.{ℕ_discrete}
use Rattle.atomic_table.specs.Table.{Me, step, keeps, Allows}
use Rattle.kp_model.specs.Beginning.{Begins}
use Rattle.kp_model.specs.Log.{Batch, end_of}
use Rattle.kp_model.specs.World.{World}
use Rattle.kp_model.specs.Run.{Run, BeginsHeld, IsOf, last, held, WasAppended}
use Rattle.kp_model.specs.Left.{Opening}
use Rattle.kp_model.proofs.Plain.Beginnings.{Begins-agree, Begins-refl, Begins-trans}
use Rattle.kp_model.proofs.Plain.Logs.{end_of-append}
use Rattle.kp_model.proofs.Safety.HeldRuns.{runs_are_safe, marks_are_ends}
use Rattle.kp_model.proofs.InRuns.MessageLogs.{offset_and_epoch_fix}
use Rattle.kp_board.specs.Views.{CallerView, KeptReceipt, View, of_caller}
use Rattle.kp_board.specs.Rule.{mark_word, WasWatermark, WasLog, AreAppended, Ruled, IsOfRun}
use Rattle.kp_board.specs.Laws.{CallersAgree}
use Rattle.kp_board.specs.Plays.{Learned, MarkShown, Recalls, Recalled}
use Rattle.kp_board.proofs.Counting.{caller_counts}
use Rattle.kp_board.proofs.Steps.{looks_on}
use Rattle.kp_board.proofs.Lists.{Cleft, cleft}
use Rattle.kp_board.proofs.Fitting.{caller_fits, same_caller}

module _ (n : ℕ) where
  -- of two held lists of a run the longer one is begun by both
  both_begin : (r : Run n) (w v : World) (j k : ℕ) → IsOf w r → IsOf v r
      → (u : World) × (i : ℕ) × IsOf u r × Begins (held (w.nodes j)) (held (u.nodes i)) × Begins (held (v.nodes k)) (held (u.nodes i))
  both_begin r w v j k a b = ⊎_elim (λ (x : Begins (held (w.nodes j)) (held (v.nodes k))). (v, k, b, x, Begins-refl (held (v.nodes k))))
      (λ (x : Begins (held (v.nodes k)) (held (w.nodes j))). (w, j, a, Begins-refl (held (w.nodes j)), x)) ((runs_are_safe n r).agree w v j k a b)

  begins_end : (xs ys : List Batch) → Begins xs ys → end_of xs ≤ end_of ys
  begins_end xs ys b = omega (arith, end_of-append xs b.rest, ap end_of b.is)

  -- a committed list that goes on from two others, and is at least this long
  reach : (r : Run n) (xs ys : List Batch) (k mark : ℕ) → BeginsHeld r xs → BeginsHeld r ys → WasWatermark r k mark → (zs : List Batch) × BeginsHeld r zs × Begins xs zs × Begins ys zs × (mark ≤ end_of zs)
  reach r xs ys k mark a b c =
      let one = both_begin r a.0 b.0 a.1 b.1 a.2 b.2 in
      let two = both_begin r one.0 c.0 one.1 k one.2 c.1 in
      let zs : List Batch = held (two.0.nodes two.1) in
      let short : List Batch = held (one.0.nodes one.1) in
      let last_one : List Batch = held (c.0.nodes k) in
      let long = begins_end last_one zs two.4 in
      let size : end_of last_one ≡ (c.0.nodes k).watermark = (marks_are_ends n r c.0 c.1 k).1 in
      let m = c.2 in (
        zs,
        (two.0, two.1, two.2, Begins-refl zs),
        Begins-trans (Begins-trans a.3 one.3) two.3,
        Begins-trans (Begins-trans b.3 one.4) two.3,
        omega arith,
      )

  -- the batch of a receipt is the one of its offset and epoch in each log of the run
  appended_at : (r : Run n) (xs : List KeptReceipt) → AreAppended r xs → (x : KeptReceipt) (i : ℕ) → i < length xs → slice_index_or xs i x ≡ x → WasAppended r x.batch
  appended_at r [] a x i l e = absurd (omega arith)
  appended_at r (y ∷ ys) a x zero l e = subst (λ (z : KeptReceipt). WasAppended r z.batch) e a.0
  appended_at r (y ∷ ys) a x (suc i) l e = appended_at r ys a.1 x i (omega arith) e

  one_batch : (r : Run n) (xs : List KeptReceipt) (log : List Batch) → AreAppended r xs → WasLog r log → (x : KeptReceipt) (b : Batch) → Contains xs x → Contains log b → x.batch.base ≡ b.base → x.batch.epoch ≡ b.epoch → x.batch ≡ b
  one_batch r xs log all was x b x_in b_in base epoch =
      let a = appended_at r xs all x x_in.0 x_in.1 x_in.2 in
      let one : Cleft (a.0.nodes a.1).log x.batch = cleft (a.0.nodes a.1).log x.batch a.3.0 a.3.1 a.3.2 in
      let other : Cleft log b = cleft log b b_in.0 b_in.1 b_in.2 in
      (offset_and_epoch_fix n r a.0 was.0 a.2 was.2 one.front one.rest other.front other.rest x.batch b
      (inl (a.1, one.is)) (inl (was.1, other.is ∙ was.3)) base epoch).0

module _ (o : Opening) where
  abbrev n : ℕ
  n = o.count

  -- a caller's look at the mark word of the node k
  pub marks_seen : (slots id : ℕ) (m : Me ℕ View) (c : CallerView) (k : ℕ) → m.0 ≡ of_caller c → k < n → Allows (Ruled o) slots id m (mark_word k) (λ x. x) (MarkShown (step slots (mark_word k) 0 0 none) m)
  marks_seen slots id m c k is inside s d _ at _ =
      let f = caller_fits o s d id m.0 c at is in
      let i : ℕ = mark_word k in
      let found : ℕ = get_or s.words i 0 in
      let was = d.marks k inside in
      let low = f.reached k inside in
      let r = reach n d.run c.seen c.told.list k found f.of_run.seen f.told.list was in
      let width = f.of_run.wide in
      let c' : CallerView = record c { seen = r.0; marks = set c.marks k found } in
      let here : get_or (set c.marks k found) k 0 ≡ found = get_or-set_same c.marks k found 0 (omega arith) in
      let other = λ (j : ℕ) (ne : j ≢ k). get_or-set_other c.marks k j found 0 ne in
      let of_run : IsOfRun d.run c' = record {
        wide = length-set c.marks k found ∙ f.of_run.wide;
        seen = r.1;
        shown = f.of_run.shown;
        marks = λ j l. dite (ℕ_discrete j k)
            (λ e. subst (λ (x : ℕ). WasWatermark d.run x (get_or (set c.marks k found) x 0)) (sym e) (subst (WasWatermark d.run k) (sym here) was))
            (λ ne. subst (WasWatermark d.run j) (sym (other j ne)) (f.of_run.marks j l));
        receipts = f.of_run.receipts;
        sent = f.of_run.sent;
        changes = f.of_run.changes;
      } in (
        of_caller c',
        keeps,
        tt,
        looks_on s d i id (of_caller c') record {
          of_run = of_run;
          told = f.told;
          reached = λ j l. dite (ℕ_discrete j k)
              (λ e. subst (λ (x : ℕ). get_or (set c.marks k found) x 0 ≤ get_or s.words (mark_word x) 0) (sym e) (omega (arith, here)))
              (λ ne. subst (λ (x : ℕ). x ≤ get_or s.words (mark_word j) 0) (sym (other j ne)) (f.reached j l));
        } m.0 at (caller_counts m.0 c c' (last d.run).controller.version (last d.run).controller.version is refl),
        λ q j e at_word. let same = same_caller o c q (sym is ∙ e) in let whose : k ≡ j = omega arith in (
          c',
          refl,
          subst (λ (x : CallerView × ℕ). Learned x.0 c' x.1 found) (λ t. (same t, whose t)) record {
            seen = r.2;
            told = r.3;
            reached = λ g. let low' = f.told.mark (omega arith) in let h = ap (λ (x : ℕ). get_or s.words (mark_word x) 0) g in omega arith;
            long = r.4;
            shown = refl;
            mark_is = here;
            others = other;
            rises = low;
            wide = length-set c.marks k found;
            receipts = refl;
            sent = refl;
            changes = refl;
            agrees = λ x b x_in b_in base epoch. one_batch n d.run c.receipts c.told.log f.of_run.receipts f.told.log x b x_in b_in base epoch;
            of_run = (n, d.run, of_run);
          },
        ),
      )

  -- a caller's look that makes what is promised a part of what it has seen
  pub recalls : (slots id : ℕ) (m : Me ℕ View) (c : CallerView) → m.0 ≡ of_caller c → Allows (Ruled o) slots id m 0 (λ x. x) (Recalled o.promised (step slots 0 0 0 none) m)
  recalls slots id m c is s d _ at _ =
      let f = caller_fits o s d id m.0 c at is in
      let was = d.opening.promised in
      let one = both_begin n d.run f.of_run.seen.0 was.0 f.of_run.seen.1 was.1 f.of_run.seen.2 (d.goes_on was.0 was.2) in
      let zs : List Batch = held (one.0.nodes one.1) in
      let seen : Begins c.seen zs = Begins-trans f.of_run.seen.3 one.3 in
      let promised : Begins o.promised zs = Begins-trans was.3 one.4 in
      let c' : CallerView = record c { seen = zs } in
      let of_run : IsOfRun d.run c' = record {
        wide = f.of_run.wide;
        seen = (one.0, one.1, one.2, Begins-refl zs);
        shown = f.of_run.shown;
        marks = f.of_run.marks;
        receipts = f.of_run.receipts;
        sent = f.of_run.sent;
        changes = f.of_run.changes;
      } in (
        of_caller c',
        keeps,
        tt,
        looks_on s d 0 id (of_caller c') record { of_run = of_run; told = f.told; reached = f.reached } m.0 at (caller_counts m.0 c c' (last d.run).controller.version (last d.run).controller.version is refl),
        λ q e. let same = same_caller o c q (sym is ∙ e) in (
          c',
          refl,
          subst (λ (x : CallerView). Recalls o.promised x c') same record { seen = seen; promised_is = promised; others = refl; of_run = (n, d.run, of_run) },
        ),
      )

-- two callers of one board have seen lists of which one begins the other
pub callers_agree : CallersAgree
callers_agree o s d one other c e at_one at_other =
    let a = (d.seats one (of_caller c) at_one).of_run.seen in
    let b = (d.seats other (of_caller e) at_other).of_run.seen in
    let both = both_begin o.count d.run a.0 b.0 a.1 b.1 a.2 b.2 in
    Begins-agree (Begins-trans a.3 both.3) (Begins-trans b.3 both.4)
