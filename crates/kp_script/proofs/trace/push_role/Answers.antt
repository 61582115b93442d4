use Rattle.kp_script.proofs.Tracing.{follows_pushed, leads_pushed, on_ok}
use Rattle.kp_script.proofs.trace.push_role.Goals as goal

pub returns-in_ok-push_named-in-Leads : goal.returns-in_ok-push_named-in-Leads
returns-in_ok-push_named-in-Leads c =
    rw c.in-Leads.is
    (on_ok c.push_named-in-Leads.result c.push_named-in-Leads.ensures
    (λ e. leads_pushed c.args.text.now.items c.push_named.new.text.items c.push_named-in-Leads.new.text.items c.in-Leads.epoch c.in-Leads.start c.from.result c.from.ensures
    c.in_ok-push_named-in-Leads.ensures e))

pub returns-in_ok-push_named-in-Follows : goal.returns-in_ok-push_named-in-Follows
returns-in_ok-push_named-in-Follows c =
    rw c.in-Follows.is
    (on_ok c.push_named-in-Follows-2.result c.push_named-in-Follows-2.ensures
    (λ e. follows_pushed c.args.text.now.items c.push_named-in-Follows.new.text.items c.push_named-in-Follows-2.new.text.items c.in-Follows.leader c.in-Follows.epoch c.from-in-Follows.result
    c.from-in-Follows-2.result c.from-in-Follows.ensures c.from-in-Follows-2.ensures c.in_ok-push_named-in-Follows.ensures e))
