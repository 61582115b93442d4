use Rattle.std.proofs.Common.{◌∷◌, ◌++◌, [], List, ℕ, map, sym, ap, ◌∙◌}
use Rattle.std.proofs.lemmas.List.{append_cancel_right}
use Rattle.kp_texts.specs.Reading.{state_front}
use Rattle.kp_texts.specs.Texts.{StateText, listed, start_text}
use Rattle.kp_texts.proofs.Fronts.{numbers_in, numbers_range, same_numbers, state_is}
use Rattle.kp_texts.proofs.states.state_in.Goals as goal

pub returns-in_default-clause-none : goal.returns-in_default-clause-none
returns-in_default-clause-none c = λ state range e.
    c.in_default.ensures.none (numbers_in state) (listed (map start_text state.starts) ++ 10 ∷ []) (numbers_range state range) (e ∙ sym (state_is state))

pub returns-in_default-before-clause-none : goal.returns-in_default-before-clause-none
returns-in_default-before-clause-none c = λ state range e.
    let found = c.in-Some.ensures.found in
    let word = listed (map start_text state.starts) in
    let same = same_numbers c.in-Some.numbers (numbers_in state) c.args.lines.now c.in-Some.rest.now (word ++ 10 ∷ []) found.1 (numbers_range state range) found.0 (e ∙ sym (state_is state)) in
    c.in_default-before.ensures.none word same.1

pub returns-in-Some-2-clause-found : goal.returns-in-Some-2-clause-found
returns-in-Some-2-clause-found c =
    let found = c.in-Some.ensures.found in
    let starts = rw (c.in-Some-2.is) at c.in_ok-starts.ensures.found in
    let numbers = c.in-Some.numbers in
    let seen : StateText = record { checkpoint = numbers.checkpoint; life = numbers.life; kept = numbers.kept; end = numbers.end; starts = c.in-Some-2.starts.items } in (
      found.0 ∙ ap (state_front numbers) (c.in-Some-before.ensures.found ∙ ap (λ (word : List ℕ). word ++ 10 ∷ []) starts.0) ∙ state_is seen,
      record { checkpoint = found.1.checkpoint; life = found.1.life; kept = found.1.kept; end = found.1.end; starts = starts.1 },
    )

pub returns-in-None-clause-none : goal.returns-in-None-clause-none
returns-in-None-clause-none c = λ state range e.
    let found = c.in-Some.ensures.found in
    let word = listed (map start_text state.starts) in
    let same = same_numbers c.in-Some.numbers (numbers_in state) c.args.lines.now c.in-Some.rest.now (word ++ 10 ∷ []) found.1 (numbers_range state range) found.0 (e ∙ sym (state_is state)) in
    let none = rw (c.in-None.is) at c.in_ok-starts.ensures.none in
    none state.starts range.starts (append_cancel_right c.in-Some-before.word.now word (10 ∷ []) (sym c.in-Some-before.ensures.found ∙ same.1))
