use Rattle.std.proofs.Common.{◌≡◌, ◌∙◌, ℕ, ◌+◌, List, [], ◌∷◌, ◌++◌, ap, append_assoc, arith, string_bytes, codes, Option}
use Rattle.std.specs.Prelude.{unwrap_or}
use Rattle.std.proofs.lemmas.Result.{on_ok_weaker}
use Rattle.std.specs.Fmt.{decimal}
use Rattle.kp_model.specs.Log.{last_offset, logged}
use Rattle.kp_inspect.specs.declared.text.Field.{Field}
use Rattle.kp_inspect.specs.Dump.{field_text, line}
use Rattle.kp_inspect.specs.Texts.{contents_text}
use Rattle.kp_inspect.proofs.text.push_batch.Goals as goal

-- a batch's line, by the texts of its numbers
abbrev row : (position size base last epoch time producer producer_epoch sequence kind : List ℕ) → List ℕ
row position size base last epoch time producer producer_epoch sequence kind =
    line (
    codes "batch" ∷ position ∷ codes "size" ∷ size ∷ codes "base" ∷ base ∷ codes "last" ∷ last ∷ codes "epoch" ∷ epoch ∷ codes "time" ∷ time
    ∷ codes "producer" ∷ producer ∷ producer_epoch ∷ sequence ∷ kind ∷ [])

-- three texts behind one another are one line
line_told : (before first second all position size base last epoch time producer producer_epoch sequence kind : List ℕ)
    → first ≡ before ++ (codes "batch " ++ (position ++ (codes " size " ++ (size ++ (codes " base " ++ (base ++ (codes " last " ++ (last ++ codes " "))))))))
    → second ≡ first ++ (codes "epoch " ++ (epoch ++ (codes " time " ++ (time ++ codes " "))))
    → all ≡ second ++ (codes "producer " ++ (producer ++ (codes " " ++ (producer_epoch ++ (codes " " ++ (sequence ++ (codes " " ++ (kind ++ 10 ∷ []))))))))
    → all ≡ before ++ row position size base last epoch time producer producer_epoch sequence kind
line_told before first second all position size base last epoch time producer producer_epoch sequence kind one two three =
    let stamp = codes "epoch " ++ (epoch ++ (codes " time " ++ (time ++ codes " "))) in
    let end = codes "producer " ++ (producer ++ (codes " " ++ (producer_epoch ++ (codes " " ++ (sequence ++ (codes " " ++ (kind ++ 10 ∷ []))))))) in
    three ∙ ap (λ (l : List ℕ). l ++ end) (two ∙ ap (λ (l : List ℕ). l ++ stamp) one) ∙ simp append_assoc

-- the line of other numbers that are the same
same_row : (before position size base last epoch time producer producer_epoch sequence kind size_2 base_2 last_2 epoch_2 time_2 producer_2 producer_epoch_2 sequence_2 kind_2 : List ℕ)
    → size ≡ size_2 → base ≡ base_2 → last ≡ last_2 → epoch ≡ epoch_2 → time ≡ time_2 → producer ≡ producer_2 → producer_epoch ≡ producer_epoch_2 → sequence ≡ sequence_2 → kind ≡ kind_2
    → before ++ row position size base last epoch time producer producer_epoch sequence kind
    ≡ before ++ row position size_2 base_2 last_2 epoch_2 time_2 producer_2 producer_epoch_2 sequence_2 kind_2
same_row before position size base last epoch time producer producer_epoch sequence kind size_2 base_2 last_2 epoch_2 time_2 producer_2 producer_epoch_2 sequence_2 kind_2 a b c d e f g h i = cc

pub returns : goal.returns
returns c =
    let last : c.base_offset-base.result + c.from.result ≡ last_offset (logged c.args.batch.now) =
    omega (arith, c.base_offset-base.ensures, c.from.ensures, c.last_offset_delta.ensures) in
    let number = λ (f : Field). f.number in
    on_ok_weaker c.writeln.result
    (λ told.
    line_told (string_bytes c.args.text.now) (string_bytes c.write.new.self) (string_bytes c.write-2.new.self) (string_bytes c.writeln.new.self)
    (decimal c.args.position) (decimal c.size-size.result) (decimal c.base_offset-base.result) (decimal (c.base_offset-base.result + c.from.result)) (decimal c.unwrap_or-epoch.result) (decimal c.max_timestamp-time.result)
    (field_text c.producer_id.result) (field_text c.of_epoch-producer_epoch.result.number) (field_text c.of_sequence-sequence.result.number) (contents_text c.of-contents.result)
    c.in_ok-write.ensures.bytes c.in_ok-write-2.ensures.bytes told
    ∙ same_row (string_bytes c.args.text.now) (decimal c.args.position) _ _ _ _ _ _ _ _ _ _ _ _ _ _ _ _ _ _
    (ap decimal c.size-size.ensures) (ap decimal c.base_offset-base.ensures) (ap decimal last)
    (ap decimal (c.unwrap_or-epoch.ensures ∙ ap (λ (o : Option ℕ). unwrap_or o 0) c.leader_epoch.ensures.value)) (ap decimal c.max_timestamp-time.ensures)
    (ap field_text c.producer_id.ensures) (ap field_text (ap number c.of_epoch-producer_epoch.ensures ∙ c.producer_epoch.ensures))
    (ap field_text (ap number c.of_sequence-sequence.ensures ∙ c.base_sequence.ensures)) c.of-contents.ensures)
    c.writeln.ensures.bytes
