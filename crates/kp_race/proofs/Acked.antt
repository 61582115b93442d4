-- What a node's Yes says of the list that a pass has seen.
use Rattle.std.proofs.Common.{◌≡◌, Bool, true, false, cond, List, [], ◌∷◌, Option, Some, None, refl, sym, ap, ◌∙◌, subst, inl, inr}
use Rattle.std.specs.Prelude.{◌&&◌, nat_le, nat_lt}
use Rattle.std.specs.List.{find, list_any}
use Rattle.std.proofs.lemmas.Bool.{cases_Bool, or_left, or_right}
use Rattle.std.proofs.lemmas.List.Folds.{list_any-append}
use Rattle.kp_model.specs.Beginning.{Begins}
use Rattle.kp_model.specs.Log.{Batch, next_offset}
use Rattle.kp_model.specs.Lookups.{batch_at}
use Rattle.kp_model.specs.World.{Node}
use Rattle.kp_model.specs.Run.{held}
use Rattle.kp_replica.specs.declared.producing.Receipt.{Receipt}
use Rattle.kp_node.specs.declared.ack.Ack.TheVariants.{Yes, Lost}
use Rattle.kp_node.specs.Acks.{ack_by, ack_of, is_receipts}
use Rattle.kp_node.proofs.Judged.{none_some, some_is}

found_any : {A : Type 0} (p q : A → Bool) (xs : List A) (x : A) → find p xs ≡ Some x → q x ≡ true → list_any q xs ≡ true
found_any p q [] x e h = absurd (none_some x e)
found_any {A} p q (y ∷ ys) x e h =
    elim (cases_Bool (p y)) [
      | inl here ↦
          (let first : Some y ≡ Some x = subst (λ (b : Bool). cond b (Some y) (find p ys) ≡ Some x) here e in
          or_left (q y) (list_any q ys) (ap q (some_is y x first) ∙ h))
      | inr later ↦
          (let rest : find p ys ≡ Some x = subst (λ (b : Bool). cond b (Some y) (find p ys) ≡ Some x) later e in
          or_right (q y) (list_any q ys) (found_any p q ys x rest h))
    ]

yes_is : (b : Bool) → cond b Yes Lost ≡ Yes → b ≡ true
yes_is true e = refl
yes_is false e = absurd cc

pub acked_any : (x : Node) (r : Receipt) → ack_of x r ≡ Yes → list_any (is_receipts r) (held x) ≡ true
acked_any x r e = by_batch (batch_at (held x) r.base) refl e
  where
    by_batch : (o : Option Batch) → batch_at (held x) r.base ≡ o → ack_by r o ≡ Yes → list_any (is_receipts r) (held x) ≡ true
    by_batch None at e = absurd cc
    by_batch (Some b) at e =
        found_any (λ c. nat_le c.base r.base && nat_lt r.base (next_offset c)) (is_receipts r) (held x) b at (yes_is (is_receipts r b) e)

pub any_begins : {A : Type 0} (q : A → Bool) {xs ys : List A} → Begins xs ys → list_any q xs ≡ true → list_any q ys ≡ true
any_begins {A} q {xs} {ys} p e =
    ap (list_any q) (sym p.is) ∙ list_any-append q xs p.rest ∙ or_left (list_any q xs) (list_any q p.rest) e
