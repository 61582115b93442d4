use Rattle.std.proofs.Common.{◌≡◌, ℕ, ◌<◌, length, get_or, arith, sym, ap, ◌∙◌, subst}
use Rattle.std.proofs.lemmas.List.{get_or_default}
use Rattle.kp_model.specs.Transactions.{Aborted}
use Rattle.kp_visible.proofs.Keys.{found_own, looked_first, none_left}
use Rattle.kp_visible.proofs.by_producer.ByProducer.search.Goals as goal
use Rattle.kp_visible.proofs.by_producer.ByProducer.search.Goals.{else-loop-next-test, then-loop-next-test+then-owner-producer}

pub loop-next-init : goal.loop-next-init
loop-next-init c =
    let self = c.args.self.now in
    record {
      within = c.before-next.ensures.0;
      looked = looked_first self.aborted.now self.keys.items c.args.producer c.args.offset c.args.from c.before-next.result c.before-next.ensures;
    }

pub returns-then-ended-offset : goal.returns-then-ended-offset
returns-then-ended-offset c =
    let self = c.args.self.now in
    let list = self.aborted.now in
    let keys = self.keys.items in
    let next = c.loop-next.next in
    let key = c.index.result.now in
    let within : next < length keys = omega (arith, self.keys.ok.0) in
    let is : (d : ℕ × ℕ) → get_or keys next d ≡ key = λ d. get_or_default keys next d key within ∙ sym c.index.ensures in
    let of = self.of_list next key within in
    let stands : key.1 < length list = subst (λ (k : ℕ × ℕ). k.1 < length list) (is key) of.0 in
    let read : (d : Aborted) → c.ended.inside.marker ≡ (get_or list key.1 d).marker = λ d.
    ap (λ (a : Aborted). a.marker) (c.ended.view_is ∙ get_or_default list key.1 c.index-self-place.result d stands) in
    found_own list keys c.args.producer c.args.offset c.args.from next key.1 self.rising self.of_list self.of_each c.loop-next.invariant.looked within
    (λ d. ap (λ (k : ℕ × ℕ). k.0) (is d) ∙ c.if-owner-producer.false) (λ d. ap (λ (k : ℕ × ℕ). k.1) (is d))
    (λ d. subst (λ n. c.args.offset < n) (read d) c.if-ended-offset.true)

pub returns : goal.returns
returns c =
    let self = c.args.self.now in
    let keys = self.keys.items in
    let next = c.loop-next.next in
    none_left self.aborted.now keys c.args.producer c.args.offset c.args.from next self.rising self.of_each c.loop-next.invariant.looked c.requires
    (λ within d own. elim c.loop-next-test.branch [
      | else-loop-next-test w ↦ omega (arith, self.keys.ok.0)
      | then-loop-next-test+then-owner-producer w ↦ w.if-owner-producer.true (ap (λ (k : ℕ × ℕ). k.0) (w.index.ensures ∙ get_or_default keys next w.index.result.now d within) ∙ own)
    ])
