use Rattle.std.proofs.Common.{◌≡◌, ◌+◌, ◌++◌, ◌∙◌, [], ◌∷◌, ℕ, List, Ok, ap, append-nil, length, length-append, sym, subst, arith}
use Rattle.std.proofs.lemmas.Grind.{flat_map-append}
use Rattle.kp_script.specs.Call.{Call}
use Rattle.kp_script.specs.Parsed.{calls_in}
use Rattle.kp_script.specs.Script.{IsFaultAt, IsScript}
use Rattle.kp_script.specs.Seen.{seen_header}
use Rattle.kp_script.proofs.Reading.{Progress, progress_more, progress_none, fault_of_header, fault_of_call, fault_of_count, script_read}
use Rattle.kp_script.proofs.script.parse.Goals as goal

pub returns-in_default-clause-fault : goal.returns-in_default-clause-fault
returns-in_default-clause-fault c = λ line e.
    let same : c.in-Ok.first.number ≡ line = cc in
    subst (IsFaultAt c.args.bytes.now) same
    (fault_of_header c.args.bytes.now c.in-Ok.first.number c.in-Ok.first.line.now (c.in-Ok.first.number + 1) c.in-Ok.first.rest.now c.in-Ok.ensures.found c.in_default.ensures.none)

pub loop-next-init : goal.loop-next-init
loop-next-init c =
    let none : calls_in c.new-sections.result.items ++ c.new-last.result ≡ [] =
    ap (λ (sections : List (List (ℕ × Call))). calls_in sections ++ c.new-last.result) c.new-sections.ensures.items ∙ c.new-last.ensures in
    record {
      progress =
          subst (λ items. Progress c.args.bytes.now (seen_header c.in-Some.header) items (c.in-Ok.first.number + 1) c.in-Ok.first.rest.now) (sym none)
          (progress_none c.args.bytes.now (seen_header c.in-Some.header) (c.in-Ok.first.number, c.in-Ok.first.line.now) (c.in-Ok.first.number + 1) c.in-Ok.first.rest.now c.in-Some.ensures.found c.in-Ok.ensures.found);
      events = sym (ap length none);
      room = omega (arith, c.in-Ok.ensures.room);
    }

pub returns-then-events-eq-MOST_EVENTS-clause-fault : goal.returns-then-events-eq-MOST_EVENTS-clause-fault
returns-then-events-eq-MOST_EVENTS-clause-fault c = λ line e.
    let same : c.in-Ok-next_counted.next.number ≡ line = cc in
    let next = c.in-Ok-next_counted.next in
    subst (IsFaultAt c.args.bytes.now) same
    (fault_of_count c.args.bytes.now (seen_header c.in-Some.header) (calls_in c.loop-next.sections.items ++ c.loop-next.last) c.loop-next.number c.loop-next.rest.now next.number next.line.now (next.number + 1) next.rest.now
    c.loop-next.invariant.progress c.in-Ok-next_counted.ensures.found (sym c.loop-next.invariant.events ∙ c.if-events-eq-MOST_EVENTS.true))

pub returns-then-not-is_call-clause-fault : goal.returns-then-not-is_call-clause-fault
returns-then-not-is_call-clause-fault c = λ line e.
    let same : c.in-Ok-next_counted.next.number ≡ line = cc in
    let next = c.in-Ok-next_counted.next in
    subst (IsFaultAt c.args.bytes.now) same
    (fault_of_call c.args.bytes.now (seen_header c.in-Some.header) (calls_in c.loop-next.sections.items ++ c.loop-next.last) c.loop-next.number c.loop-next.rest.now next.number next.line.now (next.number + 1) next.rest.now
    c.loop-next.invariant.progress c.in-Ok-next_counted.ensures.found (c.in_ok-is_call.ensures.none (ap Ok c.if-not-is_call.true)))

pub loop-next-preserved : goal.loop-next-preserved
loop-next-preserved c =
    let next = c.in-Ok-next_counted.next in
    let items : List (ℕ × Call) = calls_in c.loop-next.sections.items ++ c.loop-next.last in
    let put = c.in_ok-is_call.ensures.put (ap Ok c.if-not-is_call.false) in
    record {
      progress =
          subst (λ (calls : List (ℕ × Call)). Progress c.args.bytes.now (seen_header c.in-Some.header) calls (next.number + 1) next.rest.now) (sym put.2)
          (progress_more c.args.bytes.now (seen_header c.in-Some.header) items c.loop-next.number c.loop-next.rest.now next.number next.line.now put.0 (next.number + 1) next.rest.now c.loop-next.invariant.progress
          c.in-Ok-next_counted.ensures.found put.1 (omega (arith, c.loop-next.invariant.events, c.loop-next.invariant.progress.few, c.if-events-eq-MOST_EVENTS.false)));
      events = ap (λ (n : ℕ). n + 1) c.loop-next.invariant.events ∙ sym (ap length put.2 ∙ length-append items ((next.number, put.0) ∷ []));
      room = omega (arith, c.in-Ok-next_counted.ensures.room, c.loop-next.invariant.room);
    }

pub returns-clause-found : goal.returns-clause-found
returns-clause-found c =
    let sections : List (List (ℕ × Call)) = c.loop-next.sections.items in
    let all : calls_in c.push_back.new.self.items ≡ calls_in sections ++ c.loop-next.last =
    ap calls_in c.in_ok-push_back.ensures.items ∙ flat_map-append (λ (section : List (ℕ × Call)). section) sections (c.loop-next.last ∷ []) ∙ ap (λ (xs : List (ℕ × Call)). calls_in sections ++ xs) (append-nil c.loop-next.last) in
    subst (λ (items : List (ℕ × Call)). IsScript c.args.bytes.now (record { header = seen_header c.in-Some.header; calls = items })) (sym all)
    (script_read c.args.bytes.now (seen_header c.in-Some.header) (calls_in sections ++ c.loop-next.last) c.loop-next.number c.loop-next.rest.now c.loop-next.invariant.progress c.in_default-next_counted.ensures.end.0)
