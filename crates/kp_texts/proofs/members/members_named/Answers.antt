use Rattle.std.proofs.Common.{◌≢◌, ◌<◌, codes, map, sym, ◌∙◌, arith}
use Rattle.std.proofs.lemmas.Bool.{false≢true}
use Rattle.std.proofs.lemmas.Bool.Decides.{Decides-eqb}
use Rattle.std.proofs.lemmas.Slice.Eq.{slice_eq-Decides}
use Rattle.std.specs.Fmt.{decimal}
use Rattle.kp_model.specs.Set.{members_of}
use Rattle.kp_words.proofs.Options.{none_weaker, some_weaker}
use Rattle.kp_texts.proofs.Pieces.{listed_back, not_listed}
use Rattle.kp_texts.proofs.RisingNodes.{node_lacks, rise_bounds}
use Rattle.kp_texts.proofs.members.members_named.Goals as goal

pub returns-clause-found : goal.returns-clause-found
returns-clause-found c =
    some_weaker c.members_in.result _ _ (λ set found. (listed_back c.args.word.now (map decimal (members_of set)) found.0, found.1)) c.members_in.ensures.found

pub returns-clause-none : goal.returns-clause-none
returns-clause-none c =
    let word = c.args.word.now in
    let nodes = c.args.nodes in
    let other : word ≢ codes "none" = λ same. false≢true
    (sym c.if-eq.false ∙ (slice_eq-Decides Decides-eqb word c.as_slice.result.now c.eq.result c.eq.ensures).1 (same ∙ sym c.as_slice.ensures)) in
    none_weaker c.members_in.result _ _
    (λ differ members rises e. not_listed decimal (λ n. n < nodes) word (node_lacks 44 nodes (omega arith) (omega arith)) other members (rise_bounds 0 nodes members rises) (differ members rises) e)
    c.members_in.ensures.none
