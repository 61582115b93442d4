use Rattle.std.specs.Prelude.{[], ◌∷◌, codes}
use Rattle.kp_script.specs.Trace.{epoch_text}
use Rattle.kp_script.proofs.Tracing.{asks_pushed, on_ok, told_pushed}
use Rattle.kp_script.proofs.trace.push_sent.Goals as goal

pub returns-in_ok-push-in-AsksFrom : goal.returns-in_ok-push-in-AsksFrom
returns-in_ok-push-in-AsksFrom c =
    rw c.in-AsksFrom.is
    (on_ok c.push_epoch.result c.push_epoch.ensures
    (λ e. asks_pushed c.args.text.now.items c.push_named.new.text.items c.push_named-in-AsksFrom.new.text.items c.push.new.self.items c.push_epoch.new.text.items c.args.number
    c.in-AsksFrom.offset (epoch_text c.in-AsksFrom.last_epoch) c.in_ok-push_named.ensures c.in_ok-push_named-in-AsksFrom.ensures c.in_ok-push-in-AsksFrom.ensures.items e))

pub returns-in_ok-extend_from_slice-in-Diverging : goal.returns-in_ok-extend_from_slice-in-Diverging
returns-in_ok-extend_from_slice-in-Diverging c =
    rw c.in-Diverging.is
    (on_ok c.push_end.result c.push_end.ensures
    (λ e. told_pushed c.args.text.now.items c.push_named.new.text.items c.extend_from_slice.new.self.items c.push_end.new.text.items c.args.number (codes " diverges ") _
    c.in_ok-push_named.ensures c.in_ok-extend_from_slice-in-Diverging.ensures.items e))

pub returns-in_ok-extend_from_slice-in-Proposes : goal.returns-in_ok-extend_from_slice-in-Proposes
returns-in_ok-extend_from_slice-in-Proposes c =
    rw c.in-Proposes.is
    (on_ok c.push_isr.result c.push_isr.ensures
    (λ e. told_pushed c.args.text.now.items c.push_named.new.text.items c.extend_from_slice-in-Proposes.new.self.items c.push_isr.new.text.items c.args.number (codes " proposes ") _
    c.in_ok-push_named.ensures c.in_ok-extend_from_slice-in-Proposes.ensures.items e))

pub returns-in_ok-push-in-Decides : goal.returns-in_ok-push-in-Decides
returns-in_ok-push-in-Decides c =
    rw c.in-Decides.is
    (on_ok c.push_record.result c.push_record.ensures
    (λ e. told_pushed c.args.text.now.items c.push_named.new.text.items c.push-in-Decides.new.self.items c.push_record.new.text.items c.args.number (32 ∷ []) _ c.in_ok-push_named.ensures
    c.in_ok-push-in-Decides.ensures.items e))
