-- A node's steps on its end word and its mark word keep the rule.
use Rattle.std.proofs.Common.{◌≡◌, ◌≢◌, ℕ, ◌<◌, ◌≤◌, max, List, [], ◌∷◌, ◌++◌, length, get_or, set, inl, inr, refl, sym, ap, ◌∙◌, subst, arith, length-set, get_or-set_other, get_or-set_same}
use mathlib.Core.Logic.{dite}
use mathlib.Core.Option.{none}
use native.Mathlib.Decide.{ℕ_discrete, dec_le}
use lib.Seq.{set-get_or}
use Rattle.atomic_table.specs.Table.{Me, step, keeps, Allows}
use Rattle.kp_model.specs.World.{Node, Message}
use Rattle.kp_model.specs.Event.{Act}
use Rattle.kp_model.specs.Run.{last}
use Rattle.kp_model.specs.Left.{Opening}
use Rattle.kp_model.proofs.InRuns.RunLaws.{last_is_of}
use Rattle.kp_board.specs.Views.{NodeView, View, of_node}
use Rattle.kp_board.specs.Rule.{end_word, mark_word, WasWatermark, Ruled}
use Rattle.kp_board.specs.Premises.{leaves, MayStep, ShowsAWorld}
use Rattle.kp_board.specs.Plays.{Stepped, SteppedAndSent, Unchanged, MarkRaised}
use Rattle.kp_board.proofs.Counting.{node_counts}
use Rattle.kp_board.proofs.Steps.{keeps_rule}
use Rattle.kp_board.proofs.Fitting.{node_fits, same_node, shows, node_step, end_words, told_more, told_sent}

module _ (o : Opening) where
  abbrev n : ℕ
  n = o.count

  -- a store to the node's end word
  pub stores : (slots id : ℕ) (m : Me ℕ View) (p : NodeView) (act : Act) (y : Node) (sent : List Message) (new : ℕ) → m.0 ≡ of_node p → MayStep p act y sent → p.state.watermark ≤ max p.published y.watermark
      → Allows (Ruled o) slots id m (end_word p.number) (λ _. new) (λ _. Stepped y sent (step slots (end_word p.number) new 0 none) m new)
  stores slots id m p act y sent new is may low s d _ at _ =
      let f = node_fits o s d id m.0 p at is in
      let i : ℕ = end_word p.number in
      let p' : NodeView = record p { state = y; told = sent ++ p.told } in (
        of_node p',
        keeps,
        tt,
        node_step o s d (set s.words i new) id m.0 p p' act (leaves y sent may.reply) at is f (may.given (last d.run).messages f.told) (may.local n d.run (shows o s d id p f)) refl refl refl (length-set s.words i new)
            (get_or-set_other s.words i 0 new 0 (λ e. omega arith) ∙ d.record_is)
            (λ j l ne. end_words s.words p.number j new) (end_words s.words p.number p.number new ∙ f.word) (omega arith) (inl refl) low f.shown (told_sent (last d.run).messages sent p.told f.told),
        λ q e. let same = same_node o p q (sym is ∙ e) in (
          ap (λ (z : NodeView). let x : Me ℕ View = (of_node (record z { state = y; told = sent ++ z.told }), m.1) in x) same,
          subst ShowsAWorld same (n, d.run, shows o s d id p f),
        ),
      )

  -- a store to the node's end word with no event
  pub follows : (slots id : ℕ) (m : Me ℕ View) (p : NodeView) (k : ℕ) (new : ℕ) → p.number ≡ k → m.0 ≡ of_node p
      → Allows (Ruled o) slots id m (end_word k) (λ _. new) (λ _. Unchanged (step slots (end_word k) new 0 none) m new)
  follows slots id m p k new num is s d _ at _ =
      let f = node_fits o s d id m.0 p at is in
      let i : ℕ = end_word k in
      let words' : List ℕ = set s.words i new in
      let marks = λ (j : ℕ). end_words s.words k j new in (
        of_node p,
        keeps,
        tt,
        keeps_rule s d d.run words' id (of_node p)
            record {
              among = λ w a. a;
              messages = λ l t. t;
              nodes = λ j l ne. refl;
              cases = λ w a. inr a;
              lows = λ j l. omega arith;
              same = λ j l ne. marks j;
              rises = λ j l. let g = marks j in omega arith;
            }
            (length-set s.words i new) (get_or-set_other s.words i 0 new 0 (λ e. omega arith) ∙ d.record_is)
            (λ j l. subst (WasWatermark d.run j) (sym (marks j)) (d.marks j l))
            record { count = f.count; inside = f.inside; own = f.own; state = f.state; shown = f.shown; word = marks p.number ∙ f.word; told = f.told }
            m.0 at (node_counts m.0 p p (last d.run).controller.version is),
        λ q e. λ j. (sym is j, m.1),
      )

  -- a load of the node's end word
  pub loads : (slots id : ℕ) (m : Me ℕ View) (p : NodeView) (act : Act) (y : Node) (sent : List Message) → m.0 ≡ of_node p → MayStep p act y sent → p.state.watermark ≤ max p.published y.watermark
      → Allows (Ruled o) slots id m (end_word p.number) (λ x. x) (Stepped y sent (step slots (end_word p.number) 0 0 none) m)
  loads slots id m p act y sent is may low s d _ at _ =
      let f = node_fits o s d id m.0 p at is in
      let i : ℕ = end_word p.number in
      let p' : NodeView = record p { state = y; told = sent ++ p.told } in (
        of_node p',
        keeps,
        tt,
        subst (λ (ws : List ℕ). Ruled o record { words = ws; homes = s.homes; views = set s.views id (of_node p') }) (sym (set-get_or s.words i 0))
            (node_step o s d s.words id m.0 p p' act (leaves y sent may.reply) at is f (may.given (last d.run).messages f.told) (may.local n d.run (shows o s d id p f)) refl refl refl refl d.record_is
            (λ j l ne. refl) f.word (omega arith) (inl refl) low f.shown (told_sent (last d.run).messages sent p.told f.told)),
        λ q e. let same = same_node o p q (sym is ∙ e) in (
          ap (λ (z : NodeView). let x : Me ℕ View = (of_node (record z { state = y; told = sent ++ z.told }), m.1) in x) same,
          subst ShowsAWorld same (n, d.run, shows o s d id p f),
        ),
      )

  -- the same where the message is known to fit alone
  pub loads_some : (slots id : ℕ) (m : Me ℕ View) (p : NodeView) (k : ℕ) (act : Act) (y : Node) (fits : Message → Type 0) (l : Message) → p.number ≡ k → m.0 ≡ of_node p → fits l → MayStep p act y (l ∷ []) → p.state.watermark ≤ max p.published y.watermark
      → Allows (Ruled o) slots id m (end_word k) (λ x. x) (SteppedAndSent fits y (step slots (end_word k) 0 0 none) m)
  loads_some slots id m p k act y fits l num is fit may low = subst (λ (z : ℕ). Allows (Ruled o) slots id m (end_word z) (λ x. x) (SteppedAndSent fits y (step slots (end_word z) 0 0 none) m)) num
      (λ s d a at b. let r = loads slots id m p act y (l ∷ []) is may low s d a at b in (r.0, r.1, r.2, r.3, λ q e. let told = r.4 q e in (l, fit, told.0, told.1)))

  mark_words : (words : List ℕ) (k j x : ℕ) → j ≢ k → get_or (set words (mark_word k) x) (mark_word j) 0 ≡ get_or words (mark_word j) 0
  mark_words words k j x ne = get_or-set_other words (mark_word k) (mark_word j) x 0 (λ e. ne (omega arith))

  -- a fetch_max on the node's mark word, to the node's new watermark
  pub raises : (slots id : ℕ) (m : Me ℕ View) (p : NodeView) (act : Act) (y : Node) (new : ℕ) → m.0 ≡ of_node p → MayStep p act y [] → new ≡ y.watermark → p.state.watermark ≤ max p.published new
      → Allows (Ruled o) slots id m (mark_word p.number) (λ x. max x new) (MarkRaised y (step slots (mark_word p.number) new 0 none) m)
  raises slots id m p act y new is may to low s d _ at _ =
      let f = node_fits o s d id m.0 p at is in
      let i : ℕ = mark_word p.number in
      let here = f.word in
      let p' : NodeView = record p { state = y; published = max p.published new } in
      let inside : i < length s.words = (let a = d.wide in let b = f.inside in omega arith) in (
        of_node p',
        keeps,
        tt,
        node_step o s d (set s.words i (max (get_or s.words i 0) new)) id m.0 p p' act (leaves y [] may.reply) at is f (may.given (last d.run).messages f.told) (may.local n d.run (shows o s d id p f)) refl refl refl
            (length-set s.words i (max (get_or s.words i 0) new))
            (get_or-set_other s.words i 0 (max (get_or s.words i 0) new) 0 (λ e. omega arith) ∙ d.record_is)
            (λ j l ne. mark_words s.words p.number j (max (get_or s.words i 0) new) ne) (get_or-set_same s.words i (max (get_or s.words i 0) new) 0 inside ∙ ap (λ (z : ℕ). max z new) here) (omega arith)
            (dite (dec_le new p.published) (λ l. let e : max p.published new ≡ p.published = omega arith in inl e) (λ l. let e : max p.published new ≡ y.watermark = omega arith in inr e))
            (omega arith) f.shown (told_more (last d.run).messages [] p.told f.told),
        λ q e. let same = same_node o p q (sym is ∙ e) in ap (λ (z : NodeView). let x : Me ℕ View = (of_node (record z { state = y; published = max z.published new }), m.1) in x) same,
      )

  -- a fetch_max on the node's mark word, to the watermark that it has
  pub publishes : (slots id : ℕ) (m : Me ℕ View) (p : NodeView) (y : Node) (new : ℕ) → m.0 ≡ of_node p → y ≡ p.state → new ≡ p.state.watermark
      → Allows (Ruled o) slots id m (mark_word p.number) (λ x. max x new) (MarkRaised y (step slots (mark_word p.number) new 0 none) m)
  publishes slots id m p y new is stay to s d _ at _ =
      let f = node_fits o s d id m.0 p at is in
      let k : ℕ = p.number in
      let i : ℕ = mark_word k in
      let here = f.word in
      let x : ℕ = max (get_or s.words i 0) new in
      let p' : NodeView = record p { state = y; published = max p.published new } in
      let inside : i < length s.words = (let a = d.wide in let b = f.inside in omega arith) in
      let now : get_or (set s.words i x) i 0 ≡ max p.published new = get_or-set_same s.words i x 0 inside ∙ ap (λ (z : ℕ). max z new) here in (
        of_node p',
        keeps,
        tt,
        keeps_rule s d d.run (set s.words i x) id (of_node p')
            record {
              among = λ w a. a;
              messages = λ l t. t;
              nodes = λ j l ne. refl;
              cases = λ w a. inr a;
              lows = λ j l. omega arith;
              same = λ j l ne. mark_words s.words k j x (λ e. ne (ap d.owner e ∙ f.own));
              rises = λ j l. dite (ℕ_discrete j k) (λ e. subst (λ (z : ℕ). get_or s.words (mark_word z) 0 ≤ get_or (set s.words i x) (mark_word z) 0) (sym e) (omega arith)) (λ ne. let g = mark_words s.words k j x ne in omega arith);
            }
            (length-set s.words i x) (get_or-set_other s.words i 0 x 0 (λ e. omega arith) ∙ d.record_is)
            (λ j l. dite (ℕ_discrete j k)
            (λ e. subst (λ (z : ℕ). WasWatermark d.run z (get_or (set s.words i x) (mark_word z) 0)) (sym e) (subst (WasWatermark d.run k) (sym now)
            (dite (dec_le new p.published) (λ b. let g : get_or s.words i 0 ≡ max p.published new = omega arith in subst (WasWatermark d.run k) g (d.marks k f.inside))
            (λ b. let g : new ≡ max p.published new = omega arith in (last d.run, last_is_of n d.run, ap (λ (z : Node). z.watermark) f.state ∙ sym to ∙ g)))))
            (λ ne. subst (WasWatermark d.run j) (sym (mark_words s.words k j x ne)) (d.marks j l)))
            record {
              count = f.count;
              inside = f.inside;
              own = f.own;
              state = f.state ∙ sym stay;
              shown = f.shown;
              word = now;
              told = f.told;
            }
            m.0 at (node_counts m.0 p p' (last d.run).controller.version is),
        λ q e. let same = same_node o p q (sym is ∙ e) in ap (λ (z : NodeView). let v : Me ℕ View = (of_node (record z { state = y; published = max z.published new }), m.1) in v) same,
      )

  pub stores_at : (slots id : ℕ) (m : Me ℕ View) (p : NodeView) (k : ℕ) (act : Act) (y : Node) (sent : List Message) (new : ℕ) → p.number ≡ k → m.0 ≡ of_node p → MayStep p act y sent → p.state.watermark ≤ max p.published y.watermark
      → Allows (Ruled o) slots id m (end_word k) (λ _. new) (λ _. Stepped y sent (step slots (end_word k) new 0 none) m new)
  stores_at slots id m p k act y sent new e is may low = subst (λ (z : ℕ). Allows (Ruled o) slots id m (end_word z) (λ _. new) (λ _. Stepped y sent (step slots (end_word z) new 0 none) m new)) e (stores slots id m p act y sent new is may low)

  pub loads_at : (slots id : ℕ) (m : Me ℕ View) (p : NodeView) (k : ℕ) (act : Act) (y : Node) (sent : List Message) → p.number ≡ k → m.0 ≡ of_node p → MayStep p act y sent → p.state.watermark ≤ max p.published y.watermark
      → Allows (Ruled o) slots id m (end_word k) (λ x. x) (Stepped y sent (step slots (end_word k) 0 0 none) m)
  loads_at slots id m p k act y sent e is may low = subst (λ (z : ℕ). Allows (Ruled o) slots id m (end_word z) (λ x. x) (Stepped y sent (step slots (end_word z) 0 0 none) m)) e (loads slots id m p act y sent is may low)

  pub raises_at : (slots id : ℕ) (m : Me ℕ View) (p : NodeView) (k : ℕ) (act : Act) (y : Node) (new : ℕ) → p.number ≡ k → m.0 ≡ of_node p → MayStep p act y [] → new ≡ y.watermark → p.state.watermark ≤ max p.published new
      → Allows (Ruled o) slots id m (mark_word k) (λ x. max x new) (MarkRaised y (step slots (mark_word k) new 0 none) m)
  raises_at slots id m p k act y new e is may to low = subst (λ (z : ℕ). Allows (Ruled o) slots id m (mark_word z) (λ x. max x new) (MarkRaised y (step slots (mark_word z) new 0 none) m)) e (raises slots id m p act y new is may to low)

  pub publishes_at : (slots id : ℕ) (m : Me ℕ View) (p : NodeView) (k : ℕ) (y : Node) (new : ℕ) → p.number ≡ k → m.0 ≡ of_node p → y ≡ p.state → new ≡ p.state.watermark
      → Allows (Ruled o) slots id m (mark_word k) (λ x. max x new) (MarkRaised y (step slots (mark_word k) new 0 none) m)
  publishes_at slots id m p k y new e is stay to = subst (λ (z : ℕ). Allows (Ruled o) slots id m (mark_word z) (λ x. max x new) (MarkRaised y (step slots (mark_word z) new 0 none) m)) e (publishes slots id m p y new is stay to)
