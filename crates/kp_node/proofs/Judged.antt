-- What is answered of a receipt.
use Rattle.std.proofs.Common.{◌≡◌, ℕ, ◌+◌, ◌<◌, Bool, true, false, cond, leb, ltb, List, [], ◌∷◌, Option, Some, None, refl, sym, ap, ◌∙◌, subst, arith}
use Rattle.std.specs.Prelude.{◌&&◌, if◌then◌else◌, nat_le, nat_lt}
use Rattle.std.specs.List.{find, filter}
use Rattle.std.proofs.lemmas.Bool.{false≢true, and_parts, lt-leb, ltb-true}
use Rattle.kp_model.specs.Log.{Batch, IsLog, Follow, below, next_offset, width}
use Rattle.kp_model.specs.Lookups.{batch_at}
use Rattle.kp_replica.specs.declared.producing.Receipt.{Receipt}
use Rattle.kp_node.specs.declared.ack.Ack.{Ack}
use Rattle.kp_node.specs.declared.ack.Ack.TheVariants.{Yes, Lost, NotYet}
use Rattle.kp_node.specs.Acks.{is_receipts, ack_by}

Is : {A : Type 0} → Option A → A → Type 0
Is None x = ⊥
Is (Some y) x = y ≡ x

pub some_is : {A : Type 0} (x y : A) → Some x ≡ Some y → x ≡ y
unfolding Is
some_is x y e = subst (λ o. Is o y) (sym e) refl

pub none_some : {A : Type 0} (y : A) → None ≡ Some y → ⊥
unfolding Is
none_some y e = subst (λ o. Is o y) (sym e) refl

module _ {A : Type 0} (p q : A → Bool) where
  -- the first that passes p passes q
  pub found_kept : (xs : List A) (b : A) → find p xs ≡ Some b → q b ≡ true → find p (filter q xs) ≡ Some b
  found_kept [] b e h = absurd (none_some b e)
  found_kept (x ∷ xs) b e h = by_both (λ f. found_kept xs b f h) (p x) (q x) refl refl e
    where
      by_both : (find p xs ≡ Some b → find p (filter q xs) ≡ Some b) → (s t : Bool) → p x ≡ s → q x ≡ t → cond s (Some x) (find p xs) ≡ Some b → find p (cond t (x ∷ filter q xs) (filter q xs)) ≡ Some b
      by_both rest true true ps qs e = rw ps e
      by_both rest true false ps qs e = absurd (false≢true (sym qs ∙ ap q (some_is x b e) ∙ h))
      by_both rest false true ps qs e = rw ps (rest e)
      by_both rest false false ps qs e = rest e

  pub none_kept : (xs : List A) → find p xs ≡ None → find p (filter q xs) ≡ None
  none_kept [] e = refl
  none_kept (x ∷ xs) e = by_both (none_kept xs) (p x) (q x) refl refl e
    where
      by_both : (find p xs ≡ None → find p (filter q xs) ≡ None) → (s t : Bool) → p x ≡ s → q x ≡ t → cond s (Some x) (find p xs) ≡ None → find p (cond t (x ∷ filter q xs) (filter q xs)) ≡ None
      by_both rest true t ps qs e = absurd (none_some x (sym e))
      by_both rest false true ps qs e = rw ps (rest e)
      by_both rest false false ps qs e = rest e

abbrev pub holds : ℕ → Batch → Bool
holds o b = nat_le b.base o && nat_lt o (next_offset b)

-- batches that begin above the offset don't hold it
none_later : (offset epoch o : ℕ) (q : Batch → Bool) (log : List Batch) → Follow offset epoch log → o < offset → find (holds o) (filter q log) ≡ None
none_later offset epoch o q [] f l = refl
none_later offset epoch o q (b ∷ bs) f l = by_kept (none_later (offset + width b) b.epoch o q bs f.3 (omega arith)) (q b) refl
  where
    by_kept : find (holds o) (filter q bs) ≡ None → (t : Bool) → q b ≡ t → find (holds o) (cond t (b ∷ filter q bs) (filter q bs)) ≡ None
    by_kept rest true e = let base = f.0 in let out : leb b.base o ≡ false = lt-leb b.base o (omega arith) in rw out rest
    by_kept rest false e = rest

-- where the batch that holds the offset isn't kept, no other holds it
pub found_lost : (offset epoch o : ℕ) (q : Batch → Bool) (log : List Batch) (b : Batch) → Follow offset epoch log → batch_at log o ≡ Some b → q b ≡ false → batch_at (filter q log) o ≡ None
found_lost offset epoch o q [] b f e h = absurd (none_some b e)
found_lost offset epoch o q (x ∷ xs) b f e h = by_both (λ g. found_lost (offset + width x) x.epoch o q xs b f.3 g h) (holds o x) (q x) refl refl e
  where
    by_both : (find (holds o) xs ≡ Some b → find (holds o) (filter q xs) ≡ None) → (s t : Bool) → holds o x ≡ s → q x ≡ t → cond s (Some x) (find (holds o) xs) ≡ Some b → find (holds o) (cond t (x ∷ filter q xs) (filter q xs)) ≡ None
    by_both rest true true ps qs e = absurd (false≢true (sym h ∙ ap q (sym (some_is x b e)) ∙ qs))
    by_both rest true false ps qs e =
        let parts = and_parts (leb x.base o) (ltb o (next_offset x)) ps in
        let above : o < next_offset x = ltb-true o (next_offset x) parts.1 in
        let base = f.0 in
        none_later (offset + width x) x.epoch o q xs f.3 (omega arith)
    by_both rest false true ps qs e = rw ps (rest e)
    by_both rest false false ps qs e = rest e

module _ (log : List Batch) (mark : ℕ) (r : Receipt) where
  pub ack_none : batch_at log r.base ≡ None → NotYet ≡ ack_by r (batch_at (below mark log) r.base)
  ack_none e = sym (ap (ack_by r) (none_kept (holds r.base) (λ b. leb (next_offset b) mark) log e))

  pub ack_high : (b : Batch) → IsLog log → batch_at log r.base ≡ Some b → leb (next_offset b) mark ≡ false → NotYet ≡ ack_by r (batch_at (below mark log) r.base)
  ack_high b f e h = sym (ap (ack_by r) (found_lost 0 0 r.base (λ b. leb (next_offset b) mark) log b f e h))

  pub ack_low : (b : Batch) (named : Bool) → batch_at log r.base ≡ Some b → leb (next_offset b) mark ≡ true → is_receipts r b ≡ named → (if named then Yes else Lost) ≡ ack_by r (batch_at (below mark log) r.base)
  ack_low b named e h is = ap (λ (t : Bool). let a : Ack = if t then Yes else Lost in a) (sym is) ∙ sym (ap (ack_by r) (found_kept (holds r.base) (λ b. leb (next_offset b) mark) log b e h))
