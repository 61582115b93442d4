use Rattle.std.proofs.Common.{◌≡◌, ◌+◌, length, ap, ◌∙◌, arith, string_bytes}
use Rattle.kp_texts.proofs.Joined.{first_member, next_member, no_member}
use Rattle.kp_texts.proofs.printing.push_members.Goals as goal
use Rattle.kp_texts.proofs.printing.push_members.Goals.{then-member+then-first+in_ok-write, then-member+else-first+in_ok-write-2, else-member}

pub loop-member-preserved : goal.loop-member-preserved
loop-member-preserved c =
    let places = c.in-Some.ensures.cases in
    let text = c.loop-member.invariant.text in
    let count : c.loop-member.node + 1 + length c.in-Some.others.now ≡ 7 = omega (arith, places.1, c.loop-member.invariant.count) in
    elim c.if-member.branch [
      | then-member+then-first+in_ok-write w ↦
          record { text = first_member _ _ _ _ _ _ c.loop-member.node _ _ places.0 w.if-member.true w.if-first.true (ap string_bytes w.text-is ∙ w.in_ok-write.ensures.bytes) w.first-is text; count = count }
      | then-member+else-first+in_ok-write-2 w ↦
          record { text = next_member _ _ _ _ _ _ c.loop-member.node _ _ places.0 w.if-member.true w.if-first.false (ap string_bytes w.text-is ∙ w.in_ok-write-2.ensures.bytes) w.first-is text; count = count }
      | else-member w ↦
          record { text = no_member _ _ _ _ _ _ c.loop-member.node _ _ places.0 w.if-member.false (ap string_bytes w.text-is) w.first-is text; count = count }
    ]
