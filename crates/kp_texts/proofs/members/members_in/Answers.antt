use Rattle.std.proofs.Common.{◌≡◌, ◌≤◌, ◌∷◌, ◌++◌, [], List, ℕ, map, ap, sym, ◌∙◌, arith, append-nil}
use Rattle.std.specs.Fmt.{decimal}
use Rattle.kp_model.specs.Set.{members_of}
use Rattle.kp_words.specs.Words.{pieces}
use Rattle.kp_words.proofs.Commas.{one_piece}
use Rattle.kp_texts.proofs.Pieces.{next_piece, told_more}
use Rattle.kp_texts.proofs.RisingNodes.{next_after, next_named, next_push, rise_push, with_last}
use Rattle.kp_texts.proofs.members.members_in.Goals as goal

pub returns-in_default-member_of-clause-none : goal.returns-in_default-member_of-clause-none
returns-in_default-member_of-clause-none c = λ members rises e.
    let loop = c.loop-piece.invariant in
    let done = members_of c.loop-piece.set in
    let piece = c.in-Some.piece.now in
    let found = c.in-Some.ensures.found in
    let next = next_piece c.loop-piece.rest.now piece c.in-Some.others.now found.0 found.1 in
    let some = next_named 0 c.args.nodes done members piece (pieces c.in-Some.others.now) (omega arith) loop.range rises (ap (λ (l : List (List ℕ)). map decimal done ++ l) (sym next) ∙ loop.told ∙ e) in
    c.in_default-member_of.ensures.none some.0 (omega (arith, loop.least, some.1)) some.2 some.3

pub loop-piece-preserved : goal.loop-piece-preserved
loop-piece-preserved c =
    let loop = c.loop-piece.invariant in
    let done = members_of c.loop-piece.set in
    let node = c.in-Some-member_of.node in
    let now = members_of c.with-set.result in
    let named = c.in-Some-member_of.ensures.found in
    let found = c.in-Some.ensures.found in
    let next = next_piece c.loop-piece.rest.now c.in-Some.piece.now c.in-Some.others.now found.0 found.1 in
    let least : next_after 0 done ≤ node = omega (arith, loop.least, named.1) in
    let is : now ≡ done ++ node ∷ [] = c.with-set.ensures ∙ with_last 0 c.args.nodes done node loop.range least in
    record {
      told = told_more decimal done now node c.in-Some.piece.now (pieces c.in-Some.others.now) (pieces c.args.word.now) is named.0
          (ap (λ (l : List (List ℕ)). map decimal done ++ l) (sym next) ∙ loop.told);
      range = rw is (rise_push 0 c.args.nodes done node loop.range least named.2);
      least = sym (ap (next_after 0) is ∙ next_push 0 done node);
    }

pub returns-in-Some-member_of-2-clause-found : goal.returns-in-Some-member_of-2-clause-found
returns-in-Some-member_of-2-clause-found c =
    let loop = c.loop-piece.invariant in
    let done = members_of c.loop-piece.set in
    let node = c.in-Some-member_of-2.node in
    let now = members_of c.with.result in
    let named = c.in-Some-member_of-2.ensures.found in
    let rest = c.loop-piece.rest.now in
    let last = one_piece rest c.in_default.ensures.none in
    let least : next_after 0 done ≤ node = omega (arith, loop.least, named.1) in
    let is : now ≡ done ++ node ∷ [] = c.with.ensures ∙ with_last 0 c.args.nodes done node loop.range least in
    let told = told_more decimal done now node rest [] (pieces c.args.word.now) is named.0 (ap (λ (l : List (List ℕ)). map decimal done ++ l) (sym last) ∙ loop.told) in
    (sym told ∙ append-nil (map decimal now), rw is (rise_push 0 c.args.nodes done node loop.range least named.2))

pub returns-in-None-clause-none : goal.returns-in-None-clause-none
returns-in-None-clause-none c = λ members rises e.
    let loop = c.loop-piece.invariant in
    let done = members_of c.loop-piece.set in
    let rest = c.loop-piece.rest.now in
    let last = one_piece rest c.in_default.ensures.none in
    let some = next_named 0 c.args.nodes done members rest [] (omega arith) loop.range rises (ap (λ (l : List (List ℕ)). map decimal done ++ l) (sym last) ∙ loop.told ∙ e) in
    c.in-None.ensures.none some.0 (omega (arith, loop.least, some.1)) some.2 some.3
