-- The fields of an append, word by word.
use Rattle.std.proofs.Common.{◌≡◌, ℕ, ◌<◌, ◌≤◌, ◌^◌, Bool, List, [], ◌∷◌, ◌++◌, ap, ◌∙◌, arith, codes, length, length-append}
use Rattle.std.specs.Fmt.{decimal}
use Rattle.kp_script.specs.Call.{Sender, Append, call_text, fields_text, kind_text, values_text}
use Rattle.kp_words.specs.Words.{pieces}
use Rattle.kp_script.specs.Read.{sender_front}
use Rattle.kp_words.proofs.Numbers.{same_field}
use Rattle.kp_script.specs.Seen.{seen_values}
use Rattle.kp_script.proofs.Values.{seen_back}
use Rattle.kp_words.proofs.Commas.{pieces_back}

-- an append's node and time, in front of the rest of its fields
abbrev pub append_front : (node time : ℕ) → List ℕ → List ℕ
append_front node time rest = decimal node ++ 32 ∷ (decimal time ++ 32 ∷ rest)

-- the rest behind the node and the time
pub same_rest : (fields rest more : List ℕ) (m n t u : ℕ) (end : List ℕ) → m < 2 ^ 64 → n < 2 ^ 64 → t < 2 ^ 64 → u < 2 ^ 64 →
    fields ≡ decimal m ++ 32 ∷ rest → rest ≡ decimal t ++ 32 ∷ more → fields ≡ append_front n u end → more ≡ end
same_rest fields rest more m n t u end p q r s first second e =
    let behind = same_field [] fields m n rest _ p q first e in
    (same_field [] rest t u more end r s second behind.1).1

pub append_spelled : (fields rest more next values : List ℕ) (node time : ℕ) (sender : Sender) (transactional : Bool) →
    fields ≡ decimal node ++ 32 ∷ rest → rest ≡ decimal time ++ 32 ∷ more →
    more ≡ sender_front sender next → next ≡ kind_text transactional ++ 32 ∷ values →
    fields ≡ fields_text (Append node time sender transactional (pieces values))
append_spelled fields rest more next values node time sender transactional first second third fourth =
    first
    ∙ ap (λ (end : List ℕ). decimal node ++ 32 ∷ end) second
    ∙ ap (append_front node time) third
    ∙ ap (λ (end : List ℕ). append_front node time (sender_front sender end)) fourth
    ∙ ap (λ (end : List ℕ). append_front node time (sender_front sender (kind_text transactional ++ 32 ∷ end))) (pieces_back values)

-- a line that is not longer than a line may be has no longer values
pub values_short : (node time : ℕ) (sender : Sender) (transactional lone : Bool) (values : List ℕ) →
    length (call_text (Append node time sender transactional (seen_values lone values))) ≤ 2100000 → length values ≤ 2100000
values_short node time sender transactional lone values short =
    let all = ap length (seen_back lone values) in
    let fits : length (codes "append" ++ 32 ∷ append_front node time (sender_front sender (kind_text transactional ++ 32 ∷ values_text (seen_values lone values)))) ≤ 2100000 = short in
    let parts = simp length-append at fits in
    omega arith
