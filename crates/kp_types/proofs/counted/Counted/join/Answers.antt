use Rattle.std.proofs.lemmas.Result.{on_err_weaker, on_ok_weaker}
use Rattle.std.proofs.Common.{◌∙◌, ap, subst, rules, ◌++◌, append-nil, List, ℕ}
use Rattle.kp_types.specs.Devices.{IsBegun, IsOut}
use Rattle.kp_types.proofs.Fronts.{all_out, begun_more, counted_once, out_begun, out_out, part_out}
use Rattle.kp_types.proofs.counted.Counted.join.Goals as goal

pub returns-in_err-write_all-in-Err-clause-err : goal.returns-in_err-write_all-in-Err-clause-err
returns-in_err-write_all-in-Err-clause-err g c =
    let contents = g.W.Write.contents in
    let held = c.as_slice.ensures.value ∙ ap (λ v. v.items) c.in-Err.ensures.err in
    let failed = c.in_err-write_all-in-Err in
    let begun : IsBegun contents c.args.self.now c.write_all.new.self c.as_slice.result.now =
    (failed.ensures.err, counted_once failed.field-0.0 _ _ failed.ensures.only failed.ensures.counted) in
    let more : IsBegun contents c.args.self.now c.write_all.new.self (c.args.joined.now.items ++ c.args.text.now) =
    subst (λ (l : List ℕ). IsBegun contents c.args.self.now c.write_all.new.self (l ++ c.args.text.now)) held
    (begun_more contents c.args.self.now c.write_all.new.self c.write_all.new.self c.as_slice.result.now c.args.text.now begun) in
    search rules

pub returns-in-Err-try_extend_from_slice-clause-ok : goal.returns-in-Err-try_extend_from_slice-clause-ok
returns-in-Err-try_extend_from_slice-clause-ok g c =
    let contents = g.W.Write.contents in
    let old = c.args.self.now in
    let between = c.write_all.new.self in
    let new = c.write_all-in-Err-try_extend_from_slice.new.self in
    let joined = c.args.joined.now.items in
    let text = c.args.text.now in
    let held = c.as_slice.ensures.value ∙ ap (λ v. v.items) c.in-Err.ensures.err in
    let first : IsOut contents old between joined =
    subst (λ (l : List ℕ). IsOut contents old between l) held (c.in_ok-write_all-in-Err.ensures.ok, c.in_ok-write_all-in-Err.ensures.counted) in
    let empty = ap (λ v. v.items) c.in-Err-try_extend_from_slice.ensures.err ∙ c.clear.ensures in
    on_ok_weaker c.write_all-in-Err-try_extend_from_slice.result
    (λ out. (joined ++ text, out_out contents old between new joined text first out, ap (λ (l : List ℕ). (joined ++ text) ++ l) empty ∙ append-nil (joined ++ text)))
    (all_out contents between new text c.write_all-in-Err-try_extend_from_slice.result c.write_all-in-Err-try_extend_from_slice.ensures.ok
    c.write_all-in-Err-try_extend_from_slice.ensures.counted)

pub returns-in-Err-try_extend_from_slice-clause-err : goal.returns-in-Err-try_extend_from_slice-clause-err
returns-in-Err-try_extend_from_slice-clause-err g c =
    let contents = g.W.Write.contents in
    let old = c.args.self.now in
    let between = c.write_all.new.self in
    let new = c.write_all-in-Err-try_extend_from_slice.new.self in
    let joined = c.args.joined.now.items in
    let text = c.args.text.now in
    let held = c.as_slice.ensures.value ∙ ap (λ v. v.items) c.in-Err.ensures.err in
    let first : IsOut contents old between joined =
    subst (λ (l : List ℕ). IsOut contents old between l) held (c.in_ok-write_all-in-Err.ensures.ok, c.in_ok-write_all-in-Err.ensures.counted) in
    on_err_weaker c.write_all-in-Err-try_extend_from_slice.result
    (λ begun. out_begun contents old between new joined text first begun)
    (part_out contents between new text c.write_all-in-Err-try_extend_from_slice.result c.write_all-in-Err-try_extend_from_slice.ensures.err
    c.write_all-in-Err-try_extend_from_slice.ensures.only c.write_all-in-Err-try_extend_from_slice.ensures.counted)
