-- Laws of a marker's fields: each line spells one marker at most.
use Rattle.std.proofs.Common.{◌≡◌, ℕ, ◌<◌, ◌^◌, Bool, true, false, List, [], ◌∷◌, ◌++◌, get_or, refl, ap, ◌∙◌, arith, subst}
use Rattle.std.specs.Fmt.{decimal}
use Rattle.kp_marker.specs.Marker.{commits}
use Rattle.kp_marker.specs.declared.parts.Kind.{Kind}
use Rattle.kp_marker.specs.declared.parts.Kind.TheVariants.{Commit, Abort}
use Rattle.kp_marker.specs.declared.parts.HandedMarker.{HandedMarker}
use Rattle.kp_marker.specs.declared.parts.Marker.{Marker}
use Rattle.std.specs.Coded.{le_prop}
use Rattle.kp_replica.specs.declared.act.PlainAct.TheVariants.{Mark}
use Rattle.kp_script.specs.Call.{Acts, IsCallInRange, fields_text, ending_text}
use Rattle.kp_script.specs.Read.{marker_text}
use Rattle.kp_words.proofs.Numbers.{same_field}

-- an end has one text
pub same_ending : (a b : Bool) → ending_text a ≡ ending_text b → a ≡ b
same_ending true true e = refl
same_ending true false e = absurd (omega (arith, ap (λ (l : List ℕ). get_or l 0 0) e))
same_ending false true e = absurd (omega (arith, ap (λ (l : List ℕ). get_or l 0 0) e))
same_ending false false e = refl

same_kind : (a b : Kind) → commits a ≡ commits b → a ≡ b
same_kind Commit Commit e = refl
same_kind Commit Abort e = absurd cc
same_kind Abort Commit e = absurd cc
same_kind Abort Abort e = refl

-- a call's fields are its node and its marker's
pub handed_text : (node : ℕ) (handed : HandedMarker) → fields_text (Acts node (Mark handed)) ≡ decimal node ++ 32 ∷ marker_text handed.marker
handed_text node handed = refl

-- the fields' text without the one in front
abbrev pub after_time : (producer epoch coordinator : ℕ) → List ℕ → List ℕ
after_time producer epoch coordinator ending =
    decimal producer ++ 32 ∷ (decimal epoch ++ 32 ∷ (decimal coordinator ++ 32 ∷ ending))

-- a handed marker is its marker
same_handed : (m n : HandedMarker) → m.marker ≡ n.marker → m ≡ n
same_handed m n e =
    let P : Marker → Type 0 = λ k. (a : k.producer_id < 2 ^ 63) (b : k.producer_epoch < 2 ^ 15) (c : k.coordinator_epoch < 2 ^ 31) (d : k.timestamp < 2 ^ 62)
    → m ≡ record { marker = k; producer = a; epoch = b; coordinator = c; time = d } in
    let here : P m.marker = λ a b c d. λ i. record {
      marker = m.marker;
      producer = le_prop m.producer a i;
      epoch = le_prop m.epoch b i;
      coordinator = le_prop m.coordinator c i;
      time = le_prop m.time d i;
    } in
    subst P e here n.producer n.epoch n.coordinator n.time

-- Two handed markers that have the same fields are one.
same_marker : (m n : HandedMarker) → marker_text m.marker ≡ marker_text n.marker → m ≡ n
same_marker h k same =
    let m = h.marker in
    let n = k.marker in
    let behind : Marker → List ℕ = λ x. after_time x.producer_id x.producer_epoch x.coordinator_epoch (ending_text (commits x.kind)) in
    let first = same_field [] (marker_text m) m.timestamp n.timestamp (behind m) (behind n) (let i = h.time in omega arith) (let i = k.time in omega arith) refl same in
    let second = same_field [] (behind m) m.producer_id n.producer_id _ _ (let i = h.producer in omega arith) (let i = k.producer in omega arith) refl first.1 in
    let third = same_field [] (decimal m.producer_epoch ++ 32 ∷ (decimal m.coordinator_epoch ++ 32 ∷ ending_text (commits m.kind))) m.producer_epoch n.producer_epoch _ _
    (let i = h.epoch in omega arith) (let i = k.epoch in omega arith) refl second.1 in
    let fourth = same_field [] (decimal m.coordinator_epoch ++ 32 ∷ ending_text (commits m.kind)) m.coordinator_epoch n.coordinator_epoch _ _
    (let i = h.coordinator in omega arith) (let i = k.coordinator in omega arith) refl third.1 in
    let kind = same_kind m.kind n.kind (same_ending (commits m.kind) (commits n.kind) fourth.1) in
    same_handed h k (λ i. record { producer_id = second.0 i; producer_epoch = third.0 i; coordinator_epoch = fourth.0 i; kind = kind i; timestamp = first.0 i })

same_mark : (i j : ℕ) (m n : HandedMarker) → i ≡ j → m ≡ n → Acts i (Mark m) ≡ Acts j (Mark n)
same_mark i j m n p q = ap (λ (k : ℕ). Acts k (Mark m)) p ∙ ap (λ (k : HandedMarker). Acts j (Mark k)) q

-- Two calls in range that hand in markers and have the same fields are one call.
pub marks_apart : (count i j : ℕ) (m n : HandedMarker) → count < 2 ^ 64 → IsCallInRange count (Acts i (Mark m)) → IsCallInRange count (Acts j (Mark n)) →
    fields_text (Acts i (Mark m)) ≡ fields_text (Acts j (Mark n)) → Acts i (Mark m) ≡ Acts j (Mark n)
marks_apart count i j m n fits a b same =
    let first = same_field [] (fields_text (Acts i (Mark m))) i j (marker_text m.marker) (marker_text n.marker) (omega (arith, a.0)) (omega (arith, b.0)) refl same in
    same_mark i j m n first.0 (same_marker m n first.1)
