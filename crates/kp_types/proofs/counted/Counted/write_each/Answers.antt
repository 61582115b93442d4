use Rattle.std.proofs.lemmas.Result.{on_err_weaker}
use Rattle.std.proofs.Common.{◌≡◌, ◌∙◌, ℕ, suc, ◌+◌, ◌<◌, List, ◌++◌, ap, sym, subst, rules, arith, take, drop, length, get_or, append_assoc}
use Rattle.std.proofs.Math.Seq.{drop-cons}
use Rattle.std.proofs.lemmas.List.{take-append-drop, take_all}
use Rattle.std.proofs.lemmas.Grind.{common_steps, flat_map-append}
use Rattle.std.proofs.lemmas.List.Concat.{flat_map-cons}
use Rattle.std.specs.List.{flat_map}
use Rattle.kp_types.specs.Devices.{IsBegun}
use Rattle.kp_types.proofs.Fronts.{begun_more, out_begun, out_out, part_out}
use Rattle.kp_types.proofs.counted.Counted.write_each.Goals as goal

-- all of them, by one of them
parted : {X : Type 0} (f : X → List ℕ) (texts : List X) (i : ℕ) (d : X) → i < length texts →
    flat_map f (take i texts) ++ (f (get_or texts i d) ++ flat_map f (drop (suc i) texts)) ≡ flat_map f texts
parted f texts i d below =
    let x = get_or texts i d in
    let later = drop (suc i) texts in
    ap (λ (l : List ℕ). flat_map f (take i texts) ++ l)
    (sym (flat_map-cons f x later) ∙ ap (flat_map f) (sym (drop-cons texts i d below)))
    ∙ sym (flat_map-append f (take i texts) (drop i texts)) ∙ ap (flat_map f) (take-append-drop i texts)

one_more : {X : Type 0} (f : X → List ℕ) (texts : List X) (i : ℕ) (d : X) → i < length texts →
    flat_map f (take i texts) ++ f (get_or texts i d) ≡ flat_map f (take (i + 1) texts)
one_more f texts i d below = grind (arith, common_steps)

-- what is out and joined, one of them more, and those that follow
whole_of : {X : Type 0} (f : X → List ℕ) (texts : List X) (i : ℕ) (d : X) (out joined : List ℕ) → i < length texts → out ++ joined ≡ flat_map f (take i texts)
    → (out ++ (joined ++ f (get_or texts i d))) ++ flat_map f (drop (suc i) texts) ≡ flat_map f texts
whole_of f texts i d out joined below is =
    let text = f (get_or texts i d) in
    let rest = flat_map f (drop (suc i) texts) in
    ap (λ (l : List ℕ). l ++ rest) (sym (append_assoc out joined text) ∙ ap (λ (l : List ℕ). l ++ text) is)
    ∙ append_assoc (flat_map f (take i texts)) text rest ∙ parted f texts i d below

-- one of them is out, or joined
grown_of : {X : Type 0} (f : X → List ℕ) (texts : List X) (i : ℕ) (d : X) (out joined more new : List ℕ) → i < length texts → out ++ joined ≡ flat_map f (take i texts)
    → more ++ new ≡ joined ++ f (get_or texts i d) → (out ++ more) ++ new ≡ flat_map f (take (i + 1) texts)
grown_of f texts i d out joined more new below is took =
    let text = f (get_or texts i d) in
    append_assoc out more new ∙ ap (λ (l : List ℕ). out ++ l) took ∙ sym (append_assoc out joined text) ∙ ap (λ (l : List ℕ). l ++ text) is
    ∙ one_more f texts i d below

pub returns-in_err-join-clause-err : goal.returns-in_err-join-clause-err
returns-in_err-join-clause-err g c =
    let contents = g.W.Write.contents in
    let old = c.args.self.now in
    let new = c.join.new.self in
    let texts = c.args.texts.now in
    let before = c.loop-text.invariant in
    let begun : IsBegun contents old new (flat_map (λ text. text.now) texts) =
    subst (IsBegun contents old new) (whole_of (λ text. text.now) texts c.loop-text.text-index _ before.0 c.loop-text.joined.items (omega arith) before.2)
    (begun_more contents old new new _ _ (out_begun contents old c.loop-text.self new before.0 _ before.1 c.in_err-join.ensures.err)) in
    search rules

pub loop-text-preserved : goal.loop-text-preserved
loop-text-preserved g c =
    let contents = g.W.Write.contents in
    let texts = c.args.texts.now in
    let before = c.loop-text.invariant in
    let more = c.in_ok-join.ensures.ok in (
      before.0 ++ more.0,
      out_out contents c.args.self.now c.loop-text.self c.join.new.self before.0 more.0 before.1 more.1,
      grown_of (λ text. text.now) texts c.loop-text.text-index _ before.0 c.loop-text.joined.items more.0 c.join.new.joined.items (omega arith) before.2 more.2,
    )

pub returns-clause-err : goal.returns-clause-err
returns-clause-err g c =
    let contents = g.W.Write.contents in
    let old = c.args.self.now in
    let new = c.write_all.new.self in
    let texts = c.args.texts.now in
    let before = c.loop-text.invariant in
    let whole : before.0 ++ c.as_slice.result.now ≡ flat_map (λ text. text.now) texts =
    ap (λ (l : List ℕ). before.0 ++ l) c.as_slice.ensures.value ∙ before.2
    ∙ ap (flat_map (λ text. text.now)) (take_all c.loop-text.text-index texts (omega (arith, c.loop-text-test.false))) in
    on_err_weaker c.write_all.result
    (λ begun. subst (IsBegun contents old new) whole (out_begun contents old c.loop-text.self new before.0 c.as_slice.result.now before.1 begun))
    (part_out contents c.loop-text.self new c.as_slice.result.now c.write_all.result c.write_all.ensures.err c.write_all.ensures.only c.write_all.ensures.counted)
