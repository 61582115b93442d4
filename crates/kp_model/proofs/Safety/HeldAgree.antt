-- What nodes hold agrees.
use Rattle.std.proofs.Common.{◌≡◌, ℕ, ◌+◌, ◌≤◌, true, false, leb, List, [], ◌∷◌, ◌++◌, refl, sym, ap, ◌∙◌, subst, append-nil, arith}
use Rattle.std.proofs.lemmas.Bool.{le-leb, lt-leb}
use Rattle.std.proofs.lemmas.List.Elements.{filter-append}
use Rattle.kp_model.specs.Beginning.{Begins}
use Rattle.kp_model.specs.Log.{Batch, width, end_of, next_offset, Follow, IsLog, below}
use Rattle.kp_model.specs.World.{World}
use Rattle.kp_model.specs.Run.{held}
use Rattle.kp_model.proofs.Plain.Logs.{end_of-cons, Follow-front, Follow-rest, last_epoch_or}
use Rattle.kp_model.proofs.Kinship.SoundLogs.{WorldIsSound}
use Rattle.kp_model.proofs.Kinship.Kin.{History}
use Rattle.kp_model.proofs.Safety.Held.{Sets, IsHeld}

below_end : (offset epoch : ℕ) (log : List Batch) (end : ℕ) → Follow offset epoch log → offset + end_of log ≤ end → below end log ≡ log
below_end offset epoch [] end h l = refl
below_end offset epoch (b ∷ bs) end h l =
    let sum = end_of-cons b bs in
    let here : leb (next_offset b) end ≡ true = le-leb (next_offset b) end (omega (arith, h.0)) in
    rw here (ap (λ (s : List Batch). b ∷ s) (below_end (offset + width b) b.epoch bs end h.3 (omega arith)))

-- none of a log that starts at the end or above it is below it
pub below_start : (offset epoch : ℕ) (log : List Batch) (end : ℕ) → Follow offset epoch log → end ≤ offset → below end log ≡ []
below_start offset epoch [] end h l = refl
below_start offset epoch (b ∷ bs) end h l =
    let wide = h.2.some in
    let later : leb (next_offset b) end ≡ false = lt-leb (next_offset b) end (omega (arith, h.0)) in
    rw later (below_start (offset + width b) b.epoch bs end h.3 (omega arith))

-- the batches below a boundary are the beginning that ends there
pub below_boundary : (front log : List Batch) → IsLog log → Begins front log → below (end_of front) log ≡ front
below_boundary front log h p =
    let whole : IsLog (front ++ p.rest) = subst IsLog (sym p.is) h in
    let tail = Follow-rest 0 0 front p.rest whole in
    ap (below (end_of front)) (sym p.is)
    ∙ filter-append (λ b. leb (next_offset b) (end_of front)) front p.rest
    ∙ rw (
      below_end 0 0 front (end_of front) (Follow-front 0 0 front p.rest whole) (omega arith),
      below_start (0 + end_of front) (last_epoch_or 0 front) p.rest (end_of front) tail (omega arith),
    )
    (append-nil front)

pub held_is : (w : World) (g : History) (t : Sets) → WorldIsSound w → (h : IsHeld w g t) → (n : ℕ) → held (w.nodes n) ≡ (h.marks n).list
held_is w g t s h n =
    let mark = h.marks n in
    ap (λ (o : ℕ). below o (w.nodes n).log) (sym mark.ends) ∙ below_boundary mark.list (w.nodes n).log (s.nodes n).log mark.begins
