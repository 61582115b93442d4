-- Each step keeps the rule.
use Rattle.std.proofs.Common.{◌≡◌, ◌≢◌, ◌⊎◌, ℕ, ◌<◌, ◌≤◌, max, List, [], ◌∷◌, length, get_or, set, inl, inr, ⊎_elim, refl, sym, ap, ◌∙◌, subst, arith}
use mathlib.Core.Logic.{dite}
use mathlib.Core.Option.{some}
use native.Mathlib.Decide.{ℕ_discrete}
use lib.ListN.{get_elem?}
use lib.Seq.{set-get_or}
use Rattle.atomic_table.specs.Table.{State}
use Rattle.atomic_table.proofs.Lists.{at_set}
use Rattle.kp_model.specs.Log.{Batch}
use Rattle.kp_model.specs.World.{LeaderAndIsr, Node, Message, World, IsSent}
use Rattle.kp_model.specs.Event.{Act}
use Rattle.kp_model.specs.Effect.{Effect}
use Rattle.kp_model.specs.Local.{Local}
use Rattle.kp_model.specs.Step.{IsGiven, moved}
use Rattle.kp_model.specs.Run.{Run, BeginsHeld, IsOf, last, WasAppended}
use Rattle.kp_model.specs.Left.{Opening}
use Rattle.kp_model.proofs.InRuns.Longer.{acted, moved_other, sent_before}
use Rattle.kp_model.proofs.Marks.Raised.{node_moved}
use Rattle.kp_control.specs.Word.{packed}
use Rattle.kp_board.specs.Views.{NodeView, CallerView, Note, KeptReceipt, View, founder, of_node, of_caller, of_message, of_note, of_closing, spent}
use Rattle.kp_board.proofs.Counting.{Counts, counts_on}
use Rattle.kp_board.specs.Rule.{mark_word, WasWatermark, WasRecord, AreAppended, AreSent, WereRecords, IsOfRun, FitsNote, FitsNode, FitNodes, FitsCaller, Fits, Ruled}

pub told_later : (messages messages' : List Message) → ((l : Message) → IsSent messages l → IsSent messages' l) → (ls : List Message) → AreSent messages ls → AreSent messages' ls
told_later messages messages' h [] t = tt
told_later messages messages' h (l ∷ ls) t = (h l t.0, told_later messages messages' h ls t.1)

module _ {n : ℕ} where
  -- the run q goes on from r, and what the seats other than id know stays true
  pub record Later (r q : Run n) (owner : ℕ → ℕ) (words words' : List ℕ) (id : ℕ) : Type 0 where
    pub among : (w : World) → IsOf w r → IsOf w q
    pub messages : (l : Message) → IsSent (last r).messages l → IsSent (last q).messages l
    pub nodes : (k : ℕ) → k < n → owner k ≢ id → (last q).nodes k ≡ (last r).nodes k
    pub cases : (w : World) → IsOf w q → (w ≡ last q) ⊎ IsOf w r
    pub lows : (k : ℕ) → k < n → ((last r).nodes k).watermark ≤ max (get_or words' (mark_word k) 0) ((last q).nodes k).watermark
    pub same : (k : ℕ) → k < n → owner k ≢ id → get_or words' (mark_word k) 0 ≡ get_or words (mark_word k) 0
    pub rises : (k : ℕ) → k < n → get_or words (mark_word k) 0 ≤ get_or words' (mark_word k) 0

  module _ (r q : Run n) (owner : ℕ → ℕ) (words words' : List ℕ) (id : ℕ) (later : Later r q owner words words' id) where
    pub showed_later : (c : LeaderAndIsr) → WasRecord r c → WasRecord q c
    showed_later c s = (s.0, later.among s.0 s.1, s.2)

    pub begins_later : (xs : List Batch) → BeginsHeld r xs → BeginsHeld q xs
    begins_later xs b = (b.0, b.1, later.among b.0 b.2, b.3)

    pub was_later : (k m : ℕ) → WasWatermark r k m → WasWatermark q k m
    was_later k m b = (b.0, later.among b.0 b.1, b.2)

    pub appended_later : (xs : List KeptReceipt) → AreAppended r xs → AreAppended q xs
    appended_later [] a = tt
    appended_later (x ∷ xs) a = let b : WasAppended r x.batch = a.0 in ((b.0, b.1, later.among b.0 b.2, b.3), appended_later xs a.1)

    pub note_later : (x : Note) → FitsNote r words x → FitsNote q words' x
    note_later x f = record {
      list = begins_later x.list f.list;
      mark = λ l. let a = f.mark l in let b = later.rises x.node l in omega arith;
      log = (f.log.0, f.log.1, later.among f.log.0 f.log.2, f.log.3);
      receipts = appended_later x.receipts f.receipts;
    }

    pub records_later : (cs : List LeaderAndIsr) → WereRecords r cs → WereRecords q cs
    records_later [] w = tt
    records_later (c ∷ cs) w = (showed_later c w.0, records_later cs w.1)

    pub of_run_later : (c : CallerView) → IsOfRun r c → IsOfRun q c
    of_run_later c f = record {
      wide = f.wide;
      seen = begins_later c.seen f.seen;
      shown = showed_later c.shown f.shown;
      marks = λ k l. was_later k (get_or c.marks k 0) (f.marks k l);
      receipts = appended_later c.receipts f.receipts;
      sent = told_later (last r).messages (last q).messages later.messages c.sent f.sent;
      changes = records_later c.changes f.changes;
    }

    pub caller_later : (c : CallerView) → FitsCaller r words c → FitsCaller q words' c
    caller_later c f = record {
      of_run = of_run_later c f.of_run;
      told = note_later c.told f.told;
      reached = λ k l. let rise = later.rises k l in let low = f.reached k l in omega arith;
    }

    node_later : (j : ℕ) (p : NodeView) → j ≢ id → FitsNode r owner words j p → FitsNode q owner words' j p
    node_later j p apart f = let ne : owner p.number ≢ id = λ e. apart (sym f.own ∙ e) in record {
      count = f.count;
      inside = f.inside;
      own = f.own;
      state = later.nodes p.number f.inside ne ∙ f.state;
      shown = showed_later p.shown f.shown;
      word = later.same p.number f.inside ne ∙ f.word;
      told = told_later (last r).messages (last q).messages later.messages p.told f.told;
    }

    nodes_later : (j : ℕ) (ps : List NodeView) → j ≢ id → FitNodes r owner words j ps → FitNodes q owner words' j ps
    nodes_later j [] apart f = tt
    nodes_later j (p ∷ ps) apart f = (node_later j p apart f.0, nodes_later j ps apart f.1)

    pub others_fit : (j : ℕ) (v : View) → j ≢ id → Fits r owner words j v → Fits q owner words' j v
    others_fit j (founder i o made) apart f = record {
      count = f.count;
      shown = showed_later o.controller f.shown;
      own = f.own;
      state = λ k a l. later.nodes k l (λ e. apart (sym (f.own k a l) ∙ e)) ∙ f.state k a l;
      word = λ k a l. later.same k l (λ e. apart (sym (f.own k a l) ∙ e)) ∙ f.word k a l;
    }
    others_fit j (of_node p) apart f = node_later j p apart f
    others_fit j (of_caller c) apart f = caller_later c f
    others_fit j (of_message l) apart f = later.messages l f
    others_fit j (of_note x) apart f = note_later x f
    others_fit j (of_closing x) apart f = (begins_later x.seen f.0, nodes_later j x.nodes apart f.1)
    others_fit j spent apart f = tt

  -- the views, after one has changed
  pub views_fit : (r : Run n) (owner : ℕ → ℕ) (words : List ℕ) (views : List View) (id : ℕ) (w : View) → Fits r owner words id w
      → ((j : ℕ) (v : View) → j ≢ id → get_elem? views j ≡ some v → Fits r owner words j v) → (j : ℕ) (v : View) → get_elem? (set views id w) j ≡ some v → Fits r owner words j v
  views_fit r owner words views id w own others j v e =
      ⊎_elim (λ (t : (j ≡ id) × (w ≡ v)). subst (λ (x : ℕ × View). Fits r owner words x.0 x.1) (λ i. (sym t.0 i, t.1 i)) own)
      (λ (t : (j ≢ id) × (get_elem? views j ≡ some v)). others j v t.0 t.1) (at_set views id j w v e)

  -- nothing happens in the model
  pub stays : (r : Run n) (owner : ℕ → ℕ) (words : List ℕ) (id : ℕ) → Later r r owner words words id
  stays r owner words id = record { among = λ w a. a; messages = λ l s. s; nodes = λ k l ne. refl; cases = λ w a. inr a; lows = λ k l. omega arith; same = λ k l ne. refl; rises = λ k l. omega arith }

  -- what the others know stays true over a step of the node k, whose pass is id
  pub acts_on : (r : Run n) (owner : ℕ → ℕ) (words words' : List ℕ) (id k : ℕ) (act : Act) (e : Effect) (inside : k < n) (given : IsGiven (last r).messages act) (local : Local (last r).controller k ((last r).nodes k) act e)
      → owner k ≡ id → ((j : ℕ) → j < n → j ≢ k → get_or words' (mark_word j) 0 ≡ get_or words (mark_word j) 0) → get_or words (mark_word k) 0 ≤ get_or words' (mark_word k) 0
      → ((last r).nodes k).watermark ≤ max (get_or words' (mark_word k) 0) e.node.watermark → Later r (acted r k act e inside given local) owner words words' id
  acts_on r owner words words' id k act e inside given local own same rise low =
      let other = λ (j : ℕ) (ne : j ≢ k). moved_other (last r) k j e ne in record {
        among = λ w a. inr a;
        messages = λ l s. sent_before (last r).messages e.sent l s;
        nodes = λ j l ne. other j (λ g. ne (ap owner g ∙ own));
        cases = λ w a. a;
        lows = λ j l. dite (ℕ_discrete j k)
            (λ g. subst (λ (z : ℕ). ((last r).nodes z).watermark ≤ max (get_or words' (mark_word z) 0) ((moved (last r) k e).nodes z).watermark) (sym g)
            (let f = ap (λ (x : Node). x.watermark) (node_moved (last r) k e) in omega arith))
            (λ ne. let f = ap (λ (x : Node). x.watermark) (other j ne) in omega arith);
        same = λ j l ne. same j l (λ g. ne (ap owner g ∙ own));
        rises = λ j l. dite (ℕ_discrete j k) (λ g. subst (λ (z : ℕ). get_or words (mark_word z) 0 ≤ get_or words' (mark_word z) 0) (sym g) rise) (λ ne. let f = same j l ne in omega arith);
      }

  -- the run after another event that changes the record alone
  pub record_on : (r q : Run n) (owner : ℕ → ℕ) (words words' : List ℕ) (id : ℕ)
      → ((w : World) → IsOf w r → IsOf w q) → ((w : World) → IsOf w q → (w ≡ last q) ⊎ IsOf w r)
      → ((k : ℕ) → (last q).nodes k ≡ (last r).nodes k) → ((l : Message) → IsSent (last r).messages l → IsSent (last q).messages l)
      → ((j : ℕ) → get_or words' (mark_word j) 0 ≡ get_or words (mark_word j) 0) → Later r q owner words words' id
  record_on r q owner words words' id among cases nodes messages same = record {
    among = among;
    messages = messages;
    nodes = λ j l ne. nodes j;
    cases = cases;
    lows = λ j l. let f = ap (λ (x : Node). x.watermark) (nodes j) in omega arith;
    same = λ j l ne. same j;
    rises = λ j l. let f = same j in omega arith;
  }

module _ {o : Opening} where
  -- A step keeps the rule: the one lemma under all kinds.
  pub keeps_rule : (s : State ℕ View) (d : Ruled o s) (q : Run o.count) (words' : List ℕ) (id : ℕ) (w : View) → Later d.run q d.owner s.words words' id → length words' ≡ length s.words
      → get_or words' 0 0 ≡ packed (last q).controller → ((k : ℕ) → k < o.count → WasWatermark q k (get_or words' (mark_word k) 0)) → Fits q d.owner words' id w
      → (v : View) → get_elem? s.views id ≡ some v → Counts v w (last d.run).controller.version (last q).controller.version → Ruled o record { words = words'; homes = s.homes; views = set s.views id w }
  keeps_rule s d q words' id w later as_wide record_is marks fits v at counts = record {
    small = d.small;
    old = d.old;
    opening = d.opening;
    run = q;
    goes_on = λ w a. later.among w (d.goes_on w a);
    owner = d.owner;
    wide = as_wide ∙ d.wide;
    record_is = record_is;
    marks = marks;
    tops = λ k l w a. let rise = later.rises k l in let low = later.lows k l in ⊎_elim
        (λ (e : w ≡ last q). let f = ap (λ (z : World). (z.nodes k).watermark) e in inr (omega arith))
        (λ (b : IsOf w d.run). ⊎_elim (λ (before : IsOf w d.old). inl before) (λ (g : (w.nodes k).watermark ≤ max (get_or s.words (mark_word k) 0) ((last d.run).nodes k).watermark). inr (omega arith)) (d.tops k l w b))
        (later.cases w a);
    seats = views_fit q d.owner words' s.views id w fits (λ j v apart e. others_fit d.run q d.owner s.words words' id later j v apart (d.seats j v e));
    counted = counts_on s.views id v w o.controller.version (last d.run).controller.version (last q).controller.version at counts d.counted;
  }

  -- a load that tells the seat something
  pub looks_on : (s : State ℕ View) (d : Ruled o s) (i id : ℕ) (w : View) → Fits d.run d.owner s.words id w
      → (v : View) → get_elem? s.views id ≡ some v → Counts v w (last d.run).controller.version (last d.run).controller.version
      → Ruled o record { words = set s.words i (get_or s.words i 0); homes = s.homes; views = set s.views id w }
  looks_on s d i id w fits v at counts = subst (λ (ws : List ℕ). Ruled o record { words = ws; homes = s.homes; views = set s.views id w }) (sym (set-get_or s.words i 0))
      (keeps_rule s d d.run s.words id w (stays d.run d.owner s.words id) refl d.record_is d.marks fits v at counts)
