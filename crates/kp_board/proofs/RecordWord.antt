-- Steps on word 0, looks and exchanges, keep the rule.
use Rattle.std.proofs.Common.{◌≡◌, ℕ, ◌<◌, max, List, [], ◌∷◌, length, get_or, set, eqb, Bool, Option, None, inl, inr, ⊎_elim, refl, sym, ap, ◌∙◌, subst, arith, length-set, get_or-set_other, get_or-set_same, eq-eqb, ne_eqb}
use Rattle.std.specs.Prelude.{MatchBool, Contains}
use Rattle.kp_types.specs.declared.refusal.Refusal.{Refusal}
use mathlib.Core.Logic.{dite}
use mathlib.Core.Option.{none}
use native.Mathlib.Decide.{ℕ_discrete}
use lib.Seq.{set-get_or}
use prog.Atomic.{either}
use Rattle.atomic_table.specs.Table.{Me, step, keeps, stepped, Allows}
use Rattle.kp_model.specs.Log.{Batch}
use Rattle.kp_model.specs.World.{LeaderAndIsr, Node, with_record, most_nodes}
use Rattle.kp_model.specs.Event.{Act, Elect, Reply, Changed}
use Rattle.kp_model.specs.Controller.{elected}
use Rattle.kp_model.specs.Local.{Local}
use Rattle.kp_model.specs.Step.{Step, IsInRange, ElectsBy, elect_cause, told as outcome_told}
use Rattle.kp_model.specs.Run.{Run, last}
use Rattle.kp_model.specs.Left.{Opening}
use Rattle.kp_model.proofs.InRuns.RunLaws.{last_is_of}
use Rattle.kp_model.proofs.InRuns.Longer.{elected_run, election_step}
use Rattle.kp_control.specs.Word.{packed}
use Rattle.kp_board.specs.Views.{NodeView, CallerView, KeptReceipt, View, of_node, of_caller}
use Rattle.kp_board.specs.Rule.{mark_word, WasWatermark, WasRecord, IsOfRun, Ruled, EndsElecting, ShowsLastRecord, ShowsElection}
use Rattle.kp_board.specs.Premises.{leaves, MayStepUnder}
use Rattle.kp_board.specs.Plays.{IsRecordOfWord, Finds, SteppedUnder, Looked, ReceiptKept, Elected, electing}
use Rattle.kp_board.proofs.Counting.{node_counts, caller_counts}
use Rattle.kp_board.proofs.Steps.{caller_later, keeps_rule, looks_on, record_on}
use Rattle.kp_board.proofs.Fitting.{node_fits, caller_fits, same_node, same_caller, record_word, shown_range, same_word, not_above, version_le, shows, shown_now, node_step, told_more}

abbrev Same : Me ℕ View → Me ℕ View → Type 0
Same a b = a ≡ b

module _ (o : Opening) where
  abbrev n : ℕ
  n = o.count

  -- a caller's look at word 0
  pub caller_looks : (slots id : ℕ) (m : Me ℕ View) (c : CallerView) → m.0 ≡ of_caller c → Allows (Ruled o) slots id m 0 (λ x. x) (Looked (step slots 0 0 0 none) m)
  caller_looks slots id m c is s d _ at _ =
      let f = caller_fits o s d id m.0 c at is in
      let now : LeaderAndIsr = (last d.run).controller in
      let c' : CallerView = record c { shown = now } in (
        of_caller c',
        keeps,
        tt,
        looks_on s d 0 id (of_caller c') record { of_run = shown_now o s d c f; told = f.told; reached = f.reached } m.0 at (caller_counts m.0 c c' (last d.run).controller.version (last d.run).controller.version is refl),
        λ q e. let same = same_caller o c q (sym is ∙ e) in
            subst (λ (x : CallerView). (k : LeaderAndIsr) × Finds x.shown k (get_or s.words 0 0) × Same (of_caller c', m.1) (of_caller (record x { shown = k }), m.1) × ShowsLastRecord (record x { shown = k })) same
            (now, record { is = record_word o s d; later = version_le o c.shown now (not_above o s d c.shown f.of_run.shown) }, refl, (n, d.run, shown_now o s d c f, refl)),
      )

  -- a caller's look that puts a receipt to the others: its batch stands in a log that the pass was told of
  pub keeps_receipt : (slots id : ℕ) (m : Me ℕ View) (c : CallerView) (fits : KeptReceipt → Type 0) (x : KeptReceipt) → m.0 ≡ of_caller c → fits x → Contains c.told.log x.batch
      → Allows (Ruled o) slots id m 0 (λ x. x) (ReceiptKept fits (step slots 0 0 0 none) m)
  keeps_receipt slots id m c fits x is fit stands s d _ at _ =
      let f = caller_fits o s d id m.0 c at is in
      let log = f.told.log in
      let c' : CallerView = record c { receipts = x ∷ c.receipts } in (
        of_caller c',
        keeps,
        tt,
        looks_on s d 0 id (of_caller c') record {
          of_run = record { wide = f.of_run.wide; seen = f.of_run.seen; shown = f.of_run.shown; marks = f.of_run.marks; receipts = ((log.0, log.1, log.2, subst (λ (l : List Batch). Contains l x.batch) log.3 stands), f.of_run.receipts); sent = f.of_run.sent; changes = f.of_run.changes };
          told = f.told;
          reached = f.reached;
        } m.0 at (caller_counts m.0 c c' (last d.run).controller.version (last d.run).controller.version is refl),
        λ q e. let same = same_caller o c q (sym is ∙ e) in
            subst (λ (z : CallerView). (r : KeptReceipt) × fits r × Same (of_caller c', m.1) (of_caller (record z { receipts = r ∷ z.receipts }), m.1)) same (x, fit, refl),
      )

  -- a load of word 0 by a node, which acts under the record that it finds, or only looks
  pub steps_under : (slots id : ℕ) (m : Me ℕ View) (p : NodeView) (act : Act) (y : LeaderAndIsr → Node) (knows : LeaderAndIsr → Type 0) → m.0 ≡ of_node p → MayStepUnder p act y knows
      → Allows (Ruled o) slots id m 0 (λ x. x) (SteppedUnder y knows (step slots 0 0 0 none) m)
  steps_under slots id m p act y knows is may s d _ at _ =
      let f = node_fits o s d id m.0 p at is in
      let z = record_word o s d in
      let now : LeaderAndIsr = (last d.run).controller in
      let below = version_le o p.shown now (not_above o s d p.shown f.shown) in
      let p' : NodeView = record p { state = y now; shown = now } in
      let low = may.mark now in
      let showed : WasRecord d.run now = (last d.run, last_is_of n d.run, refl) in
      let known = may.known n d.run (shows o s d id p f) in (
        of_node p',
        keeps,
        tt,
        ⊎_elim
            (λ (stay : y now ≡ p.state). looks_on s d 0 id (of_node p') record {
              count = f.count;
              inside = f.inside;
              own = f.own;
              state = f.state ∙ sym stay;
              shown = showed;
              word = f.word;
              told = f.told;
            } m.0 at (node_counts m.0 p p' (last d.run).controller.version is))
            (λ (goes_on : (reply : Reply) × Local now p.number p.state act (leaves (y now) [] reply)).
            subst (λ (ws : List ℕ). Ruled o record { words = ws; homes = s.homes; views = set s.views id (of_node p') }) (sym (set-get_or s.words 0 0))
            (node_step o s d s.words id m.0 p p' act (leaves (y now) [] goes_on.0) at is f (may.given (last d.run).messages f.told) goes_on.1 refl refl refl refl d.record_is
            (λ j l ne. refl) f.word (omega arith) (inl refl) low showed (told_more (last d.run).messages [] p.told f.told)))
            (may.local n d.run (shows o s d id p f)),
        λ q e. let same = same_node o p q (sym is ∙ e) in
            subst (λ (x : NodeView). (k : LeaderAndIsr) × Finds x.shown k (get_or s.words 0 0) × Same (of_node p', m.1) (of_node (record x { state = y k; shown = k }), m.1) × knows k) same
            (now, record { is = z; later = below }, refl, known),
      )

  ends_electing : (r : Run n) (k : ℕ) (free : elect_cause (last r).controller k ≡ None) (c : LeaderAndIsr) → (last r).controller ≡ c → EndsElecting (elected_run r k free) k c (elected c k)
  ends_electing r k free c same = record {
    before = r;
    outcome = outcome_told (Changed (elected (last r).controller k));
    after = with_record (last r) (elected (last r).controller k);
    step = election_step r k free;
    is = refl;
    old_is = same;
    next_is = ap (λ (x : LeaderAndIsr). elected x k) same;
  }

  abbrev ElectedBy : Bool → CallerView → List (ℕ × ℕ) → CallerView → ℕ → LeaderAndIsr → ℕ → Type 0
  ElectedBy b c' rest x k next found = MatchBool b (Same (of_caller c', rest) (of_caller (electing next x), rest) × ShowsElection k x.shown (electing next x))
      ((s : LeaderAndIsr) × IsRecordOfWord s found × Same (of_caller c', rest) (of_caller (record x { shown = s }), rest) × (x.shown.version < s.version) × ShowsLastRecord (record x { shown = s }))

  -- a compare-exchange on word 0 from the record that the caller was shown
  pub elects_one : (slots id : ℕ) (m : Me ℕ View) (c : CallerView) (k : ℕ) → m.0 ≡ of_caller c → elect_cause c.shown k ≡ None
      → Allows (Ruled o) slots id m 0 (λ x. either (eqb x (packed c.shown)) (packed (elected c.shown k)) x) (Elected k (elected c.shown k) (step slots 0 (packed c.shown) (packed (elected c.shown k)) none) m)
  elects_one slots id m c k is free s d _ at _ =
      let f = caller_fits o s d id m.0 c at is in
      let found : ℕ = get_or s.words 0 0 in
      let old : ℕ = packed c.shown in
      let new : ℕ = packed (elected c.shown k) in
      let now : LeaderAndIsr = (last d.run).controller in
      let there : 0 < length s.words = (let a = d.wide in omega arith) in
      let in_range : IsInRange most_nodes c.shown = shown_range o s d c.shown f.of_run.shown in
      dite (ℕ_discrete found old)
      (λ hit.
      let same : now ≡ c.shown = same_word o s d c.shown in_range hit in
      let free_now : elect_cause now k ≡ None = ap (λ (x : LeaderAndIsr). elect_cause x k) same ∙ free in
      let q : Run n = elected_run d.run k free_now in
      let words' : List ℕ = set s.words 0 new in
      let others = λ (j : ℕ). get_or-set_other s.words 0 (mark_word j) new 0 (λ e. omega arith) in
      let later = record_on d.run q d.owner s.words words' id (λ w a. inr a) (λ w a. a) (λ j. refl) (λ l t. t) others in
      let c' : CallerView = electing (elected c.shown k) c in
      let g = caller_later d.run q d.owner s.words words' id later c f in
      let of_run : IsOfRun q c' = record { wide = g.of_run.wide; seen = g.of_run.seen; shown = (last q, inl refl, ap (λ (x : LeaderAndIsr). elected x k) same); marks = g.of_run.marks; receipts = g.of_run.receipts; sent = g.of_run.sent; changes = ((last q, inl refl, ap (λ (x : LeaderAndIsr). elected x k) same), g.of_run.changes) } in (
        of_caller c',
        keeps,
        tt,
        subst (λ b. Ruled o (stepped s 0 (either b new found) id m.1 (of_caller c') keeps)) (sym (eq-eqb found old hit))
            (keeps_rule s d q words' id (of_caller c') later (length-set s.words 0 new) (get_or-set_same s.words 0 new 0 there ∙ ap (λ (x : LeaderAndIsr). packed (elected x k)) (sym same))
            (λ j l. subst (WasWatermark q j) (sym (others j)) (let w = d.marks j l in (w.0, inr w.1, w.2)))
            record { of_run = of_run; told = g.told; reached = g.reached }
            m.0 at (caller_counts m.0 c c' now.version (last q).controller.version is (omega arith))),
        λ x e. let here = same_caller o c x (sym is ∙ e) in
            subst (λ b. ElectedBy b c' m.1 x k (elected c.shown k) found) (sym (eq-eqb found old hit))
            (subst (λ (y : CallerView). Same (of_caller c', m.1) (of_caller (electing (elected c.shown k) y), m.1) × ShowsElection k y.shown (electing (elected c.shown k) y)) here
            (refl, (n, q, of_run, ends_electing d.run k free_now c.shown same))),
      ))
      (λ miss.
      let c' : CallerView = record c { shown = now } in
      let above : c.shown.version < now.version =
      ⊎_elim (λ (e : c.shown ≡ now). absurd (miss (d.record_is ∙ ap packed (sym e))))
      (λ (l : c.shown.version < now.version). l) (not_above o s d c.shown f.of_run.shown) in (
        of_caller c',
        keeps,
        tt,
        subst (λ b. Ruled o (stepped s 0 (either b new found) id m.1 (of_caller c') keeps)) (sym (ne_eqb found old miss))
            (looks_on s d 0 id (of_caller c') record { of_run = shown_now o s d c f; told = f.told; reached = f.reached } m.0 at (caller_counts m.0 c c' now.version now.version is refl)),
        λ x e. let here = same_caller o c x (sym is ∙ e) in
            subst (λ b. ElectedBy b c' m.1 x k (elected c.shown k) found)
            (sym (ne_eqb found old miss))
            (subst (λ (y : CallerView). (s : LeaderAndIsr) × IsRecordOfWord s found × Same (of_caller c', m.1) (of_caller (record y { shown = s }), m.1) × (y.shown.version < s.version) × ShowsLastRecord (record y { shown = s })) here
            (now, record_word o s d, refl, above, (n, d.run, shown_now o s d c f, refl))),
      ))

  pub elects_as : (slots id : ℕ) (m : Me ℕ View) (c : CallerView) (k node : ℕ) (next : LeaderAndIsr) (old new : ℕ) → m.0 ≡ of_caller c → node ≡ k → old ≡ packed c.shown → next ≡ elected c.shown k → new ≡ packed next → elect_cause c.shown k ≡ None
      → Allows (Ruled o) slots id m 0 (λ x. either (eqb x old) new x) (Elected node next (step slots 0 old new none) m)
  elects_as slots id m c k node next old new is whose e g f free =
      subst (λ (z : ℕ × ℕ × LeaderAndIsr × ℕ). Allows (Ruled o) slots id m 0 (λ x. either (eqb x z.0) z.1 x) (Elected z.3 z.2 (step slots 0 z.0 z.1 none) m)) (λ i. (sym e i, sym (f ∙ ap packed g) i, sym g i, sym whose i)) (elects_one slots id m c k is free)
