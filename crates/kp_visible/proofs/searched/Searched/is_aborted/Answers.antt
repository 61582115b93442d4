use Rattle.std.proofs.Common.{◌≡◌, ◌&&◌, leb, List, Bool, false, Option, Some, None, sym, ap, ◌∙◌, arith}
use Rattle.std.specs.Prelude.{slice_get}
use Rattle.std.specs.Option.{option_map_or}
use Rattle.std.proofs.lemmas.Bool.{eq-eqb, ne_eqb}
use Rattle.std.proofs.lemmas.Grind.{common_steps}
use Rattle.std.proofs.lemmas.Option.{gets, slice_get_past}
use Rattle.kp_model.specs.Transactions.{Aborted}
use Rattle.kp_visible.specs.Filter.{covers}
use Rattle.kp_visible.proofs.searched.Searched.is_aborted.Goals as goal

pub returns-then-ended-producer-clause-hidden : goal.returns-then-ended-producer-clause-hidden
returns-then-ended-producer-clause-hidden c =
    let covering = covers c.args.producer c.args.self.now.offset in
    let list : c.search-place.new.self.index.aborted.now ≡ c.args.self.now.index.aborted.now = cc in
    let here : slice_get c.search-place.new.self.index.aborted.now c.search-place.result ≡ Some c.in-Some.ended.now = grind (arith, common_steps, gets, c.in-Some.ensures) in
    let is = c.search-place.ensures.found ∙ sym (ap (λ (l : List Aborted). slice_get l c.search-place.result) list) ∙ here in
    ap (λ n. leb c.ended.inside.first n) c.search-place.ensures.offset
    ∙ sym (ap (λ (own : Bool). own && leb c.ended.inside.first c.args.self.now.offset) (eq-eqb c.ended.inside.producer c.args.producer c.if-ended-producer.true))
    ∙ ap covering c.ended.view_is ∙ sym (ap (λ (o : Option Aborted). option_map_or covering o false) is)

pub returns-else-ended-producer-clause-hidden : goal.returns-else-ended-producer-clause-hidden
returns-else-ended-producer-clause-hidden c =
    let covering = covers c.args.producer c.args.self.now.offset in
    let list : c.search-place.new.self.index.aborted.now ≡ c.args.self.now.index.aborted.now = cc in
    let here : slice_get c.search-place.new.self.index.aborted.now c.search-place.result ≡ Some c.in-Some.ended.now = grind (arith, common_steps, gets, c.in-Some.ensures) in
    let is = c.search-place.ensures.found ∙ sym (ap (λ (l : List Aborted). slice_get l c.search-place.result) list) ∙ here in
    let other = ne_eqb c.ended.inside.producer c.args.producer c.if-ended-producer.false in
    other ∙ sym (ap (λ (own : Bool). own && leb c.ended.inside.first c.args.self.now.offset) other)
    ∙ ap covering c.ended.view_is ∙ sym (ap (λ (o : Option Aborted). option_map_or covering o false) is)

pub returns-in-None-clause-hidden : goal.returns-in-None-clause-hidden
returns-in-None-clause-hidden c =
    let covering = covers c.args.producer c.args.self.now.offset in
    let list : c.search-place.new.self.index.aborted.now ≡ c.args.self.now.index.aborted.now = cc in
    let here : slice_get c.search-place.new.self.index.aborted.now c.search-place.result ≡ None = slice_get_past c.search-place.new.self.index.aborted.now c.search-place.result c.in-None.ensures.lookup.3 in
    let is = c.search-place.ensures.found ∙ sym (ap (λ (l : List Aborted). slice_get l c.search-place.result) list) ∙ here in
    sym (ap (λ (o : Option Aborted). option_map_or covering o false) is)
