-- What the rule says of a pass and of word 0; and a step of a node, whatever it is, keeps the rule.
use Rattle.std.proofs.Common.{◌≡◌, ◌≢◌, ◌⊎◌, ℕ, suc, ◌<◌, ◌≤◌, max, List, [], ◌∷◌, ◌++◌, length, get_or, set, inl, inr, ⊎_elim, refl, sym, ap, ◌∙◌, subst, arith, get_or-set_other}
use mathlib.Core.Logic.{dite}
use mathlib.Core.Option.{some}
use native.Mathlib.Decide.{ℕ_discrete}
use lib.ListN.{get_elem?}
use Rattle.atomic_table.specs.Table.{State}
use Rattle.kp_model.specs.World.{LeaderAndIsr, Node, Message, IsSent, most_nodes}
use Rattle.kp_model.specs.Event.{Act}
use Rattle.kp_model.specs.Effect.{Effect}
use Rattle.kp_model.specs.Local.{Local}
use Rattle.kp_model.specs.Step.{IsGiven, IsInRange}
use Rattle.kp_model.specs.Run.{Run, last}
use Rattle.kp_model.specs.Left.{Opening}
use Rattle.kp_model.proofs.InRuns.RunLaws.{last_is_of, one_record}
use Rattle.kp_model.proofs.InRuns.Longer.{acted, sent_after, sent_before}
use Rattle.kp_model.proofs.InRuns.Ranges.{records_are_in_range}
use Rattle.kp_control.specs.Word.{packed}
use Rattle.kp_control.proofs.Words.{one_word}
use Rattle.kp_board.proofs.Counting.{node_counts}
use Rattle.kp_board.proofs.InRange.{in_seven}
use Rattle.kp_board.specs.Views.{NodeView, CallerView, View, of_node, of_caller, node_view, caller_view}
use Rattle.kp_board.specs.Rule.{end_word, mark_word, WasWatermark, WasRecord, AreSent, FitsNode, FitsCaller, IsOfRun, Fits, Ruled}
use Rattle.kp_board.specs.Premises.{Shows}
use Rattle.kp_board.specs.Plays.{IsRecordOfWord}
use Rattle.kp_board.proofs.Steps.{told_later, keeps_rule, acts_on}
use Rattle.kp_model.proofs.Marks.Raised.{node_moved}

module _ (o : Opening) where
  abbrev n : ℕ
  n = o.count

  -- what the rule says of a node's pass
  pub node_fits : (s : State ℕ View) (d : Ruled o s) (id : ℕ) (v : View) (p : NodeView) → get_elem? s.views id ≡ some v → v ≡ of_node p → FitsNode d.run d.owner s.words id p
  node_fits s d id v p at is = subst (Fits d.run d.owner s.words id) is (d.seats id v at)

  pub caller_fits : (s : State ℕ View) (d : Ruled o s) (id : ℕ) (v : View) (c : CallerView) → get_elem? s.views id ≡ some v → v ≡ of_caller c → FitsCaller d.run s.words c
  caller_fits s d id v c at is = subst (Fits d.run d.owner s.words id) is (d.seats id v at)

  pub same_node : (p q : NodeView) → of_node p ≡ of_node q → p ≡ q
  same_node p q e = ap node_view e

  pub same_caller : (p q : CallerView) → of_caller p ≡ of_caller q → p ≡ q
  same_caller p q e = ap caller_view e

  -- word 0 is the word of the run's record
  pub record_word : (s : State ℕ View) (d : Ruled o s) → IsRecordOfWord (last d.run).controller (get_or s.words 0 0)
  record_word s d = record { range = in_seven n (last d.run).controller d.small (records_are_in_range n d.run (last d.run) (last_is_of n d.run)); word_is = sym d.record_is }

  -- a record shown is in range
  pub shown_range : (s : State ℕ View) (d : Ruled o s) (c : LeaderAndIsr) → WasRecord d.run c → IsInRange most_nodes c
  shown_range s d c h = subst (IsInRange most_nodes) h.2 (in_seven n h.0.controller d.small (records_are_in_range n d.run h.0 h.1))

  -- where word 0 is this record's word, it is the run's record
  pub same_word : (s : State ℕ View) (d : Ruled o s) (c : LeaderAndIsr) → IsInRange most_nodes c → get_or s.words 0 0 ≡ packed c → (last d.run).controller ≡ c
  same_word s d c range e = one_word (last d.run).controller c (record_word s d).range range (sym d.record_is ∙ e)

  -- the version shown is not above the one found
  pub not_above : (s : State ℕ View) (d : Ruled o s) (c : LeaderAndIsr) → WasRecord d.run c → (c ≡ (last d.run).controller) ⊎ (c.version < (last d.run).controller.version)
  not_above s d c h = subst (λ (z : LeaderAndIsr). (z ≡ (last d.run).controller) ⊎ (z.version < (last d.run).controller.version)) h.2 (one_record n d.run h.0 h.1)

  pub version_le : (c z : LeaderAndIsr) → (c ≡ z) ⊎ (c.version < z.version) → c.version ≤ z.version
  version_le c z (inl e) = let f = ap (λ (x : LeaderAndIsr). x.version) e in omega arith
  version_le c z (inr l) = omega arith

  pub shows : (s : State ℕ View) (d : Ruled o s) (id : ℕ) (p : NodeView) → FitsNode d.run d.owner s.words id p → Shows d.run p
  shows s d id p f = record { count = f.count; inside = f.inside; state = f.state; shown = f.shown; told = f.told }

  -- a caller's pass, once the run's record is the one shown
  pub shown_now : (s : State ℕ View) (d : Ruled o s) (c : CallerView) → FitsCaller d.run s.words c → IsOfRun d.run (record c { shown = (last d.run).controller })
  shown_now s d c f = record { wide = f.of_run.wide; seen = f.of_run.seen; shown = (last d.run, last_is_of n d.run, refl); marks = f.of_run.marks; receipts = f.of_run.receipts; sent = f.of_run.sent; changes = f.of_run.changes }

  -- a node's step, at words that leave the others' words as they were
  pub node_step : (s : State ℕ View) (d : Ruled o s) (words' : List ℕ) (id : ℕ) (v : View) (p p' : NodeView) (act : Act) (e : Effect) → get_elem? s.views id ≡ some v → v ≡ of_node p → FitsNode d.run d.owner s.words id p
      → IsGiven (last d.run).messages act → Local (last d.run).controller p.number p.state act e → p'.state ≡ e.node → p'.number ≡ p.number → p'.count ≡ p.count
      → length words' ≡ length s.words → get_or words' 0 0 ≡ packed (last d.run).controller → ((j : ℕ) → j < n → j ≢ p.number → get_or words' (mark_word j) 0 ≡ get_or s.words (mark_word j) 0)
      → get_or words' (mark_word p.number) 0 ≡ p'.published → p.published ≤ p'.published → (p'.published ≡ p.published) ⊎ (p'.published ≡ p'.state.watermark) → p.state.watermark ≤ max p'.published p'.state.watermark
      → WasRecord d.run p'.shown → AreSent ((last d.run).messages ++ e.sent) p'.told → Ruled o record { words = words'; homes = s.homes; views = set s.views id (of_node p') }
  node_step s d words' id v p p' act e at is f given local as_effect same count wide zero_word others mark rise which low shown told =
      let k : ℕ = p.number in
      let y : Node = p'.state in
      let local' : Local (last d.run).controller k ((last d.run).nodes k) act e = subst (λ (x : Node). Local (last d.run).controller k x act e) (sym f.state) local in
      let q : Run n = acted d.run k act e f.inside given local' in
      let here : (last q).nodes k ≡ y = node_moved (last d.run) k e ∙ sym as_effect in
      let was = f.word in
      let later = acts_on d.run d.owner s.words words' id k act e f.inside given local' f.own others (omega arith) (let a = ap (λ (x : Node). x.watermark) f.state in let b = ap (λ (x : Node). x.watermark) as_effect in omega arith) in
      let carried_over = λ (j : ℕ) (m : ℕ) (b : WasWatermark d.run j m). let c : WasWatermark q j m = (b.0, inr b.1, b.2) in c in
      keeps_rule s d q words' id (of_node p') later wide zero_word
      (λ j l. dite (ℕ_discrete j k)
      (λ e. subst (λ (z : ℕ). WasWatermark q z (get_or words' (mark_word z) 0)) (sym e) (subst (WasWatermark q k) (sym mark) (⊎_elim
      (λ (b : p'.published ≡ p.published). subst (WasWatermark q k) (was ∙ sym b) (carried_over k (get_or s.words (mark_word k) 0) (d.marks k f.inside)))
      (λ (b : p'.published ≡ y.watermark). (last q, inl refl, ap (λ (x : Node). x.watermark) here ∙ sym b)) which)))
      (λ ne. subst (WasWatermark q j) (sym (others j l ne)) (carried_over j (get_or s.words (mark_word j) 0) (d.marks j l))))
      record {
        count = count ∙ f.count;
        inside = subst (λ (z : ℕ). z < n) (sym same) f.inside;
        own = ap d.owner same ∙ f.own;
        state = ap (λ (z : ℕ). (last q).nodes z) same ∙ here;
        shown = (shown.0, inr shown.1, shown.2);
        word = ap (λ (z : ℕ). get_or words' (mark_word z) 0) same ∙ mark;
        told = told;
      }
      v at (node_counts v p p' (last d.run).controller.version is)

pub end_words : (words : List ℕ) (k j x : ℕ) → get_or (set words (end_word k) x) (mark_word j) 0 ≡ get_or words (mark_word j) 0
end_words words k j x = get_or-set_other words (end_word k) (mark_word j) x 0 (λ e. omega arith)

pub told_more : (messages sent ls : List Message) → AreSent messages ls → AreSent (messages ++ sent) ls
told_more messages sent ls t = told_later messages (messages ++ sent) (λ l. sent_before messages sent l) ls t

pub told_all : (ls ms messages : List Message) → ((l : Message) → IsSent ls l → IsSent messages l) → AreSent messages ms → AreSent messages (ls ++ ms)
told_all [] ms messages h t = t
told_all (l ∷ ls) ms messages h t = (h l (0, refl), told_all ls ms messages (λ m e. h m (suc e.0, e.1)) t)

pub told_sent : (messages sent ls : List Message) → AreSent messages ls → AreSent (messages ++ sent) (sent ++ ls)
told_sent messages sent ls t = told_all sent ls (messages ++ sent) (sent_after messages sent) (told_more messages sent ls t)
