-- A line is the text of one call at most.
use Rattle.std.proofs.Common.{◌≡◌, ℕ, ◌<◌, ◌^◌, Bool, List, [], ◌∷◌, ◌++◌, refl, sym, ap, ◌∙◌, arith, length, subst}
use Rattle.std.specs.Prelude.{IsTrue}
use Rattle.std.specs.List.{list_all}
use Rattle.std.specs.Fmt.{decimal}
use Rattle.std.proofs.lemmas.Fmt.{decimal_injective}
use Rattle.kp_replica.specs.declared.act.PlainAct.{PlainAct}
use Rattle.kp_replica.specs.declared.act.PlainAct.TheVariants.{Mark, Alter, Read, Committed}
use Rattle.kp_replica.specs.declared.altering.IsrChange.TheVariants.{Join, Leave}
use Rattle.kp_script.specs.Call.{Call, Sender, Elect, Append, Raw, Acts, Deliver, IsSender, IsCallInRange, HasOneCall, act_words, is_value, verb_text, fields_text, kind_text, values_text}
use Rattle.kp_words.specs.Words.{pieces, hex_text}
use Rattle.kp_script.specs.Hex.{bytes_of}
use Rattle.kp_script.specs.Read.{sender_front}
use Rattle.kp_script.proofs.HexLaws.{bytes_back}
use Rattle.kp_words.proofs.Numbers.{same_field}
use Rattle.kp_words.proofs.Splitting.{one_parting}
use Rattle.kp_script.proofs.Verbs.{Each, by_verb, same_act, verb_lacks}
use Rattle.kp_script.proofs.Markers.{marks_apart}
use Rattle.kp_script.proofs.Senders.{same_sender, same_kind}
use Rattle.kp_script.proofs.Values.{values_back}

same_append : (m n t u : ℕ) (r s : Sender) (x y : Bool) (vs ws : List (List ℕ)) → m ≡ n → t ≡ u → r ≡ s → x ≡ y → vs ≡ ws → Append m t r x vs ≡ Append n u s y ws
same_append m n t u r s x y vs ws a b c d e =
    ap (λ (k : ℕ). Append k t r x vs) a ∙ ap (λ (k : ℕ). Append n k r x vs) b ∙ ap (λ (k : Sender). Append n u k x vs) c
    ∙ ap (λ (k : Bool). Append n u s k vs) d ∙ ap (λ (k : List (List ℕ)). Append n u s y k) e

-- the values, which the kind and a space stand before
same_values : (vs ws : List (List ℕ)) → 0 < length vs → IsTrue (list_all is_value vs) → 0 < length ws → IsTrue (list_all is_value ws) →
    values_text vs ≡ values_text ws → vs ≡ ws
same_values vs ws p q r s e = sym (values_back vs p q) ∙ ap pieces e ∙ values_back ws r s

appends_apart : (m n t u : ℕ) (r s : Sender) (x y : Bool) (vs ws : List (List ℕ)) → m < 2 ^ 64 → n < 2 ^ 64 → t < 2 ^ 64 → u < 2 ^ 64 → IsSender r → IsSender s →
    (values_text vs ≡ values_text ws → vs ≡ ws) → fields_text (Append m t r x vs) ≡ fields_text (Append n u s y ws) → Append m t r x vs ≡ Append n u s y ws
appends_apart m n t u r s x y vs ws a b c d p q values e =
    let first = same_field [] (fields_text (Append m t r x vs)) m n _ _ a b refl e in
    let behind = sender_front r (kind_text x ++ 32 ∷ values_text vs) in
    let second = same_field [] (decimal t ++ 32 ∷ behind) t u _ _ c d refl first.1 in
    let third = same_sender behind r s _ _ p q refl second.1 in
    let fourth = same_kind (kind_text x ++ 32 ∷ values_text vs) x y _ _ refl third.1 in
    same_append m n t u r s x y vs ws first.0 second.0 third.0 fourth.0 (values fourth.1)

same_raw : (m n : ℕ) (bs cs : List ℕ) → m ≡ n → bs ≡ cs → Raw m bs ≡ Raw n cs
same_raw m n bs cs p q = ap (λ (k : ℕ). Raw k bs) p ∙ ap (λ (l : List ℕ). Raw n l) q

-- the node that ends a line
same_node : (count m n : ℕ) → count < 2 ^ 64 → m < count → n < count → decimal m ≡ decimal n → m ≡ n
same_node count m n fits p q e = decimal_injective m n (omega arith) (omega arith) e

-- the node that ends a line with a number below the limit behind it
same_place : (count limit m n f g : ℕ) → count < 2 ^ 64 → limit < 2 ^ 64 → (m < count) × (f < limit) → (n < count) × (g < limit) → decimal m ++ 32 ∷ decimal f ≡ decimal n ++ 32 ∷ decimal g → (m ≡ n) × (f ≡ g)
same_place count limit m n f g fits small p q e =
    let first = same_field [] (decimal m ++ 32 ∷ decimal f) m n (decimal f) (decimal g) (omega (arith, p.0)) (omega (arith, q.0)) refl e in
    (first.0, decimal_injective f g (omega (arith, p.1)) (omega (arith, q.1)) first.1)

-- A call in range that has the same fields is the same call.
abbrev IsOnly : (count : ℕ) → Call → Call → Type 0
IsOnly count a b = IsCallInRange count b → fields_text a ≡ fields_text b → a ≡ b

-- Calls in range of one verb that have the same fields are one call.
apart : (count : ℕ) → count < 2 ^ 64 → (a : Call) → IsCallInRange count a → Each (IsOnly count a) (verb_text a)
apart count fits (Elect m) p = λ n q e. ap Elect (same_node count m n fits p q e)
apart count fits (Append m t r x vs) p = λ n u s y ws q e.
    appends_apart m n t u r s x y vs ws (omega (arith, p.0)) (omega (arith, q.0)) (omega (arith, p.1)) (omega (arith, q.1)) p.2 q.2
    (same_values vs ws p.3 p.4 q.3 q.4) e
apart count fits (Raw m bs) p = λ n cs q e.
    let first = same_field [] (fields_text (Raw m bs)) m n (hex_text bs) (hex_text cs) (omega (arith, p.0)) (omega (arith, q.0)) refl e in
    same_raw m n bs cs first.0 (sym (bytes_back bs p.2) ∙ ap bytes_of first.1 ∙ bytes_back cs q.2)
apart count fits (Deliver m) p = λ n q e. ap Deliver (decimal_injective m n (omega arith) (omega arith) e)
apart count fits (Acts m (Mark handed)) p = λ n other q e. marks_apart count m n handed other fits p q e
apart count fits (Acts m (Alter (Join f))) p = λ n g q e.
    let same = same_place count count m n f g fits fits p q e in
    ap (λ (k : ℕ). Acts k (Alter (Join f))) same.0 ∙ ap (λ (k : ℕ). Acts n (Alter (Join k))) same.1
apart count fits (Acts m (Alter (Leave f))) p = λ n g q e.
    let same = same_place count count m n f g fits fits p q e in
    ap (λ (k : ℕ). Acts k (Alter (Leave f))) same.0 ∙ ap (λ (k : ℕ). Acts n (Alter (Leave k))) same.1
apart count fits (Acts m (Read f)) p = λ n g q e.
    let same = same_place count (2 ^ 62) m n f g fits (omega arith) p q e in
    ap (λ (k : ℕ). Acts k (Read f)) same.0 ∙ ap (λ (k : ℕ). Acts n (Read k)) same.1
apart count fits (Acts m (Committed f)) p = λ n g q e.
    let same = same_place count (2 ^ 62) m n f g fits (omega arith) p q e in
    ap (λ (k : ℕ). Acts k (Committed f)) same.0 ∙ ap (λ (k : ℕ). Acts n (Committed k)) same.1
apart count fits (Acts m act) p = λ n other word.
    subst (λ (o : PlainAct). IsOnly count (Acts m act) (Acts n o)) (same_act act other (act_words act).0 (refl, refl) word)
    (λ q e. ap (λ (k : ℕ). Acts k act) (same_node count m n fits p.0 q.0 e))

-- Two calls in range with one text are one call.
pub one_call : HasOneCall
one_call count a b fits first second e =
    let parts = one_parting 32 (verb_text a) (verb_text b) (fields_text a) (fields_text b) (verb_lacks a) (verb_lacks b) e in
    by_verb (IsOnly count a) (verb_text a) b (apart count fits a first.range) parts.0 second.range parts.1
