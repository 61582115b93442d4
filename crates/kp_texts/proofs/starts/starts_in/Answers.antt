use Rattle.std.proofs.Common.{◌++◌, [], List, ℕ, ap, sym, ◌∙◌, map, append-nil}
use Rattle.kp_words.specs.Words.{pieces}
use Rattle.kp_words.proofs.Commas.{one_piece}
use Rattle.kp_texts.specs.Texts.{start_text, IsStart}
use Rattle.kp_types.proofs.Elements.{all_push}
use Rattle.kp_texts.proofs.Pieces.{next_piece, piece_of, told_more}
use Rattle.kp_texts.proofs.starts.starts_in.Goals as goal

pub returns-in_default-start_of-clause-none : goal.returns-in_default-start_of-clause-none
returns-in_default-start_of-clause-none c = λ starts range e.
    let done = map start_text c.loop-piece.starts.items in
    let piece = c.in-Some.piece.now in
    let found = c.in-Some.ensures.found in
    let next = next_piece c.loop-piece.rest.now piece c.in-Some.others.now found.0 found.1 in
    let some = piece_of start_text IsStart done piece (pieces c.in-Some.others.now) starts (ap (λ (l : List (List ℕ)). done ++ l) (sym next) ∙ c.loop-piece.invariant.told ∙ e) range in
    c.in_default-start_of.ensures.none some.0 some.1 some.2

pub loop-piece-preserved : goal.loop-piece-preserved
loop-piece-preserved c =
    let items = c.loop-piece.starts.items in
    let piece = c.in-Some.piece.now in
    let found = c.in-Some.ensures.found in
    let start = c.in-Some-start_of.ensures.found in
    let next = next_piece c.loop-piece.rest.now piece c.in-Some.others.now found.0 found.1 in
    record {
      told = told_more start_text items c.push.new.self.items c.in-Some-start_of.start piece (pieces c.in-Some.others.now) (pieces c.args.word.now) c.in_ok-push.ensures.items start.0
          (ap (λ (l : List (List ℕ)). map start_text items ++ l) (sym next) ∙ c.loop-piece.invariant.told);
      range = rw (c.in_ok-push.ensures.items) (all_push IsStart items c.in-Some-start_of.start c.loop-piece.invariant.range start.1);
    }

pub returns-in_default-start_of-2-clause-none : goal.returns-in_default-start_of-2-clause-none
returns-in_default-start_of-2-clause-none c = λ starts range e.
    let done = map start_text c.loop-piece.starts.items in
    let last = one_piece c.loop-piece.rest.now c.in_default.ensures.none in
    let some = piece_of start_text IsStart done c.loop-piece.rest.now [] starts (ap (λ (l : List (List ℕ)). done ++ l) (sym last) ∙ c.loop-piece.invariant.told ∙ e) range in
    c.in_default-start_of-2.ensures.none some.0 some.1 some.2

pub returns-clause-found : goal.returns-clause-found
returns-clause-found c =
    let items = c.loop-piece.starts.items in
    let rest = c.loop-piece.rest.now in
    let start = c.in-Some-start_of-2.ensures.found in
    let last = one_piece rest c.in_default.ensures.none in
    let told = told_more start_text items c.push-2.new.self.items c.in-Some-start_of-2.start rest [] (pieces c.args.word.now) c.in_ok-push-2.ensures.items start.0
    (ap (λ (l : List (List ℕ)). map start_text items ++ l) (sym last) ∙ c.loop-piece.invariant.told) in (
      sym told ∙ append-nil (map start_text c.push-2.new.self.items),
      rw (c.in_ok-push-2.ensures.items) (all_push IsStart items c.in-Some-start_of-2.start c.loop-piece.invariant.range start.1),
    )
