-- What a log's end and last epoch show of it: whether it begins a kin log, and which log it is.
use Rattle.std.proofs.Common.{◌≡◌, ◌⊎◌, ℕ, ◌+◌, ◌<◌, ◌≤◌, true, eqb, leb, List, [], ◌∷◌, Option, Some, None, refl, sym, ap, ◌∙◌, subst, arith, inl, inr}
use Rattle.std.specs.Prelude.{IsTrue}
use Rattle.std.proofs.lemmas.Bool.{and_parts, eqb-true, eq-eqb, leb-true, le-leb, false≢true}
use Rattle.kp_model.specs.Beginning.{Begins}
use Rattle.kp_model.specs.Log.{Batch, end_of, IsLog, occurs, up_to, IsKin}
use Rattle.kp_model.specs.Epochs.{reaches, covers, end_for, epoch_at_most}
use Rattle.kp_model.specs.Fetching.{last_epoch}
use Rattle.kp_model.specs.Laws.{EndAndEpochShow}
use Rattle.kp_model.proofs.Plain.Beginnings.{Begins-nil, Begins-refl, Begins-trans, Begins-length, Begins-whole}
use Rattle.kp_model.proofs.Plain.Logs.{end_of-append, last_epoch_or, IsLog-begins}
use Rattle.kp_model.proofs.Kinship.SoundLogs.{AllBelow, last_epoch_some}
use Rattle.kp_model.proofs.Kinship.Ledger.{up_to-begins, up_to_all}
use Rattle.kp_model.proofs.InRuns.LogEpochs.{last_occurs, below_bound}
use Rattle.kp_model.proofs.Safety.HeldSteps.{shorter_by_end}
use Rattle.kp_model.proofs.Plain.CutPlaces.{AtMost, at_most_none, at_most_some, end_for_none, end_for_some, last_top, up_to_front, up_to_below, empty_by_end, nil_of}
use Rattle.kp_types.proofs.Elements.{all_front}

-- a log is empty, or its last epoch is that of its last batch
pub last_of : (log : List Batch) → (log ≡ []) ⊎ (last_epoch log ≡ Some (last_epoch_or 0 log))
last_of [] = inl refl
last_of (b ∷ bs) = inr (last_epoch_some b.epoch bs)

-- it has no batch of a later epoch
whole_up_to : (log : List Batch) → IsLog log → up_to (last_epoch_or 0 log) log ≡ log
whole_up_to log h = up_to_all (last_epoch_or 0 log) log (last_top 0 0 log h)

reached : (log other : List Batch) (top : ℕ) → IsLog other → reaches (end_of log) top (end_for other top) ≡ true
    → AtMost other top top × (end_of log ≤ end_of (up_to top other))
reached log other top h e = by_found (epoch_at_most other top) refl
  where
    by_found : (o : Option ℕ) → epoch_at_most other top ≡ o → AtMost other top top × (end_of log ≤ end_of (up_to top other))
    by_found None is = absurd (false≢true (ap (reaches (end_of log) top) (sym (end_for_none other top is)) ∙ e))
    by_found (Some found) is =
        let parts = and_parts _ _ (ap (reaches (end_of log) top) (sym (end_for_some other top found h is)) ∙ e) in
        let same : found ≡ top = eqb-true found top parts.0 in
        let ends = leb-true (end_of log) (end_of (up_to found other)) parts.1 in (
          subst (AtMost other top) same (at_most_some other top found is),
          subst (λ (epoch : ℕ). end_of log ≤ end_of (up_to epoch other)) same ends,
        )

pub covered_begins : (log other : List Batch) → IsLog log → IsLog other → IsKin log other → covers other (end_of log) (last_epoch log) ≡ true → Begins log other
covered_begins log other h g k e =
    elim (last_of log) [
      | inl none ↦ subst (λ (l : List Batch). Begins l other) (sym none) (Begins-nil other)
      | inr last ↦
          (let top = last_epoch_or 0 log in
          let found = reached log other top g (ap (covers other (end_of log)) (sym last) ∙ e) in
          let whole = whole_up_to log h in
          let front = up_to_front 0 0 other top g in
          elim (k top (last_occurs log top last) found.0.has) [
            | inl shorter ↦ Begins-trans (subst (λ (l : List Batch). Begins l (up_to top other)) whole shorter) front
            | inr longer ↦
                Begins-trans (shorter_by_end log (up_to top other) log h (Begins-refl log) (subst (Begins (up_to top other)) whole longer) found.1) front
          ])
    ]

module _ (log other : List Batch) (g : IsLog other) (p : Begins log other) (last : last_epoch log ≡ Some (last_epoch_or 0 log)) where
  abbrev top : ℕ
  top = last_epoch_or 0 log

  has : IsTrue (occurs top log)
  has = last_occurs log top last

  begins_top : Begins log (up_to top other)
  begins_top = subst (λ (l : List Batch). Begins l (up_to top other)) (whole_up_to log (IsLog-begins p g)) (up_to-begins top p)

  reaches_by : (o : Option ℕ) → epoch_at_most other top ≡ o → reaches (end_of log) top (end_for other top) ≡ true
  reaches_by None is =
      let none : log ≡ [] = nil_of log (subst (Begins log) (at_most_none other top is) begins_top) in
      absurd (let lower = below_bound 0 top log (subst (AllBelow 0) (sym none) tt) has in omega arith)
  reaches_by (Some found) is =
      let at = at_most_some other top found is in
      let inside : Begins log (up_to found other) = subst (Begins log) at.same begins_top in
      let low : AllBelow (found + 1) log = all_front (λ b. b.epoch < found + 1) log inside.rest (subst (AllBelow (found + 1)) (sym inside.is) (up_to_below found other)) in
      let reach = below_bound (found + 1) top log low has in
      let least = at.low in
      let same : eqb found top ≡ true = eq-eqb found top (omega arith) in
      let ends : leb (end_of log) (end_of (up_to found other)) ≡ true =
      le-leb (end_of log) (end_of (up_to found other)) (omega (arith, end_of-append log inside.rest, ap end_of inside.is)) in
      ap (reaches (end_of log) top) (end_for_some other top found g is) ∙ rw (same, ends) refl

pub begins_covered : (log other : List Batch) → IsLog other → Begins log other → covers other (end_of log) (last_epoch log) ≡ true
begins_covered log other g p =
    elim (last_of log) [
      | inl none ↦ subst (λ (l : List Batch). covers other (end_of l) (last_epoch l) ≡ true) (sym none) refl
      | inr last ↦ ap (covers other (end_of log)) last ∙ reaches_by log other g p last (epoch_at_most other (last_epoch_or 0 log)) refl
    ]

pub shown_same : (log other : List Batch) → IsLog log → IsLog other → IsKin log other → end_of log ≡ end_of other → last_epoch log ≡ last_epoch other → log ≡ other
shown_same log other h g k ends last =
    elim (last_of log) [
      | inl none ↦ none ∙ sym (empty_by_end other g (sym ends ∙ ap end_of none))
      | inr top ↦
          (let shown : covers other (end_of log) (last_epoch log) ≡ true =
          subst (λ (e : Option ℕ). covers other (end_of log) e ≡ true) (sym last)
          (subst (λ (o : ℕ). covers other o (last_epoch other) ≡ true) (sym ends) (begins_covered other other g (Begins-refl other))) in
          let begins = covered_begins log other h g k shown in
          let back = shorter_by_end other log other g (Begins-refl other) begins (omega arith) in
          Begins-whole log other begins (Begins-length back))
    ]

pub end_and_epoch_show : EndAndEpochShow
end_and_epoch_show log other h g k = (covered_begins log other h g k, begins_covered log other g, shown_same log other h g k)
