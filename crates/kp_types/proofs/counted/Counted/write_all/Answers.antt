use Rattle.std.proofs.Common.{◌≡◌, ℕ, List, ◌++◌, ap, sym, ◌∙◌, subst, take, arith, rules, Option, length, drop, ◌+◌, ◌-◌, Some, None}
use Rattle.std.proofs.lemmas.List.{take_rest, length-take, length-drop}
use Rattle.std.proofs.Math.Seq.{take-add}
use Rattle.std.proofs.KnownBytes.{Appends-trans}
use Rattle.std.specs.Io.KnownBytes.{Appends, Keeps}
use Rattle.kp_types.proofs.counted.Counted.write_all.Goals as goal
use Rattle.kp_types.proofs.counted.Counted.write_all.Goals.{in-Ok, in-Err+else-ne}

-- a front of the rest, after a front
fronts : (text : List ℕ) (done n : ℕ) → take done text ++ take n (take (length text - done) (drop done text)) ≡ take (done + n) text
fronts text done n =
    ap (λ (l : List ℕ). take done text ++ take n l) (take_rest text done) ∙ sym (take-add done n text)

Appends-kept : (a b c : Option (List ℕ)) (bs : List ℕ) → Appends a b bs → Keeps b c → Appends a c bs
Appends-kept None b c bs p q = tt
Appends-kept (Some x) None c bs p q = absurd p
Appends-kept (Some x) (Some y) None bs p q = absurd q
Appends-kept (Some x) (Some y) (Some z) bs p q = q ∙ p

pub loop-preserved : goal.loop-preserved
loop-preserved g c = elim c.match-write.branch [
  | in-Ok w ↦ record {
    within = omega (arith, w.done-is, w.in-Ok.ensures.bound, c.loop.invariant.within, length-take {A = ℕ}, length-drop {A = ℕ});
    bytes =
        let joined : take c.loop.done c.args.text.now ++ take w.in-Ok.n (take (length c.args.text.now - c.loop.done) (drop c.loop.done c.args.text.now)) ≡ take c.match-write.done c.args.text.now =
        fronts c.args.text.now c.loop.done w.in-Ok.n ∙ ap (λ (n : ℕ). take n c.args.text.now) (sym w.done-is) in
        subst (Appends _ _) joined (Appends-trans _ _ _ _ _ c.loop.invariant.bytes w.in-Ok.ensures.bytes);
    failed = c.loop.invariant.failed;
  }
  | in-Err+else-ne w ↦ record {
    within = omega (arith, w.done-is, c.loop.invariant.within);
    bytes = subst (Appends _ _) (ap (λ (n : ℕ). take n c.args.text.now) (sym w.done-is)) (Appends-kept _ _ _ _ c.loop.invariant.bytes w.in-Err.ensures.bytes);
    failed = c.loop.invariant.failed;
  }
]

pub returns-clause-counted : goal.returns-clause-counted
returns-clause-counted c = search rules
