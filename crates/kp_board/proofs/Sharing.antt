-- New passes, notes between passes, and the passes of messages keep the rule.
use Rattle.std.proofs.lemmas.List.Sums.{sum_by_push}
use Rattle.std.proofs.Common.{◌≡◌, ◌≢◌, ℕ, zero, suc, ◌+◌, ◌*◌, ◌<◌, ◌≤◌, List, [], ◌∷◌, ◌++◌, length, get_or, set, replicate, inl, ⊎_elim, refl, sym, ap, ◌∙◌, subst, arith, length-set}
use mathlib.Core.Option.{some, some-ne-none, some-injective}
use lib.ListN.{get_elem?, length-replicate}
use Rattle.atomic_table.specs.Table.{State, Splits, Joins, opening}
use Rattle.atomic_table.proofs.Lists.{at_set, set_again}
use Rattle.kp_model.specs.Beginning.{Begins}
use Rattle.kp_model.specs.World.{LeaderAndIsr, Node, Message, fresh, start}
use Rattle.kp_model.specs.Run.{BeginsHeld, Run, last, held}
use Rattle.kp_model.specs.Left.{IsOpening, Opening, beginning, node_in}
use Rattle.kp_model.proofs.Plain.Beginnings.{Begins-refl}
use Rattle.kp_model.proofs.InRuns.RunLaws.{start_is_of, last_is_of}
use Rattle.kp_control.specs.Word.{packed}
use Rattle.kp_board.specs.Views.{NodeView, CallerView, Note, KeptReceipt, View, node_note, caller_note, founder, of_node, of_caller, of_message, of_note, of_closing, spent, opened_node, new_caller, next_founder, founded_node, admitting, admitted, noted, first_message, sent_message, told_of, with_receipts, receipts_of, made_by, one_if_founder, one_if_caller, changes_by}
use Rattle.kp_board.specs.Rule.{mark_word, WasWatermark, AreAppended, AreSent, FitsNode, FitNodes, FitsCaller, FitsFounder, Fits, Ruled}
use Rattle.kp_board.proofs.Counting.{Counts, counts_on, counts_same, counts_more, sum_set}
use Rattle.kp_board.proofs.Steps.{views_fit}
use Rattle.kp_board.proofs.Lists.{put, put_here, put_else, at_inside, at_end}

module _ (o : Opening) where
  abbrev n : ℕ
  n = o.count

  fresh_fits : (s : State ℕ View) (d : Ruled o s) → FitsCaller d.run s.words (new_caller n)
  fresh_fits s d = record {
    of_run = record {
      wide = length-replicate n 0;
      seen = (last d.run, 0, last_is_of n d.run, record { rest = held ((last d.run).nodes 0); is = refl });
      shown = (start n, start_is_of n d.run, refl);
      marks = λ k l. let zero_list : List ℕ = replicate n 0 in let e : get_or zero_list k 0 ≡ 0 = zeros n k in
          subst (WasWatermark d.run k) (sym e) (start n, start_is_of n d.run, refl);
      receipts = tt;
      sent = tt;
      changes = tt;
    };
    told = record { list = (last d.run, 0, last_is_of n d.run, record { rest = held ((last d.run).nodes 0); is = refl }); mark = λ l. omega arith; log = (start n, 0, start_is_of n d.run, refl); receipts = tt };
    reached = λ k l. let zero_list : List ℕ = replicate n 0 in let e : get_or zero_list k 0 ≡ 0 = zeros n k in omega arith;
  }
    where
      zeros : (m k : ℕ) → get_or {A = ℕ} (replicate m 0) k 0 ≡ 0
      zeros zero k = refl
      zeros (suc m) zero = refl
      zeros (suc m) (suc k) = zeros m k

  -- the views, with one more
  one_more : (s : State ℕ View) (d : Ruled o s) (views : List View) (w : View) (owner : ℕ → ℕ) → ((j : ℕ) (v : View) → get_elem? views j ≡ some v → Fits d.run owner s.words j v) → Fits d.run owner s.words (length views) w
      → (j : ℕ) (v : View) → get_elem? (views ++ w ∷ []) j ≡ some v → Fits d.run owner s.words j v
  one_more s d views w owner old fits j v e = ⊎_elim (λ (x : (get_elem? views j ≡ some v) × (j < length views)). old j v x.0) (λ (x : (j ≡ length views) × (w ≡ v)). subst (λ (z : ℕ × View). Fits d.run owner s.words z.0 z.1) (λ i. (sym x.0 i, x.1 i)) fits) (at_end views w v j e)

  -- a split that leaves the first view as it was, and gives a second one that fits by it
  pub shares : (id : ℕ) (v w : View) → one_if_founder w ≡ 0 → one_if_caller w ≡ 0 → made_by w ≡ 0 → changes_by w ≡ 0
      → ((s : State ℕ View) (d : Ruled o s) → Fits d.run d.owner s.words id v → (j : ℕ) → Fits d.run d.owner s.words j w) → Splits (Ruled o) id v v w
  shares id v w a b c e gives s d at = record {
    small = d.small;
    old = d.old;
    opening = d.opening;
    run = d.run;
    goes_on = d.goes_on;
    owner = d.owner;
    wide = d.wide;
    record_is = d.record_is;
    marks = d.marks;
    tops = d.tops;
    seats = one_more s d (set s.views id v) w d.owner (λ j u e. d.seats j u (subst (λ l. get_elem? l j ≡ some u) (set_again s.views id v at) e)) (gives s d (d.seats id v at) (length (set s.views id v)));
    counted = let version : ℕ = (last d.run).controller.version in
        counts_more (set s.views id v) w o.controller.version version a b c e (counts_on s.views id v v o.controller.version version version at (counts_same v version) d.counted);
  }

  begins_held : (r : Run n) (k : ℕ) (x : Node) → (last r).nodes k ≡ x → BeginsHeld r (held x)
  begins_held r k x e = (last r, k, last_is_of n r, subst (λ (y : Node). Begins (held x) (held y)) (sym e) (Begins-refl (held x)))

  pub node_notes : (id : ℕ) (p : NodeView) → Splits (Ruled o) id (of_node p) (of_node p) (noted (of_node p))
  node_notes id p = shares id (of_node p) (of_note (node_note p)) refl refl refl refl (λ s d f j. record { list = begins_held d.run p.number p.state f.state; mark = λ l. let h = f.word in omega arith; log = (last d.run, p.number, last_is_of n d.run, sym (ap (λ (x : Node). x.log) f.state)); receipts = tt })

  pub caller_notes : (id : ℕ) (c : CallerView) → Splits (Ruled o) id (of_caller c) (of_caller c) (noted (of_caller c))
  caller_notes id c = shares id (of_caller c) (of_note (caller_note c)) refl refl refl refl (λ s d f j. record { list = f.of_run.seen; mark = λ l. omega arith; log = (start n, 0, start_is_of n d.run, refl); receipts = f.of_run.receipts })

  -- the first of the messages that a pass knows to have been sent, if there is one
  gives_first : (id : ℕ) (v : View) (ls : List Message) → ((s : State ℕ View) (d : Ruled o s) → Fits d.run d.owner s.words id v → AreSent (last d.run).messages ls) → Splits (Ruled o) id v v (first_message ls)
  gives_first id v [] gives = shares id v spent refl refl refl refl (λ s d f j. tt)
  gives_first id v (l ∷ ls) gives = shares id v (of_message l) refl refl refl refl (λ s d f j. (gives s d f).0)

  pub sends : (id : ℕ) (p : NodeView) → Splits (Ruled o) id (of_node p) (of_node p) (sent_message (of_node p))
  sends id p = gives_first id (of_node p) p.told (λ s d f. f.told)

  pub caller_sends : (id : ℕ) (c : CallerView) → Splits (Ruled o) id (of_caller c) (of_caller c) (sent_message (of_caller c))
  caller_sends id c = gives_first id (of_caller c) c.sent (λ s d f. f.of_run.sent)

  pub repeats : (id : ℕ) (l : Message) → Splits (Ruled o) id (of_message l) (of_message l) (sent_message (of_message l))
  repeats id l = shares id (of_message l) (of_message l) refl refl refl refl (λ s d f j. f)

  -- a join that spends the second view
  joins_by : (id : ℕ) (v : View) (other : ℕ) (w both : View) → ((m : ℕ) → Counts v both m m) → ((m : ℕ) → Counts w spent m m) → ((s : State ℕ View) (d : Ruled o s) → Fits d.run d.owner s.words id v → Fits d.run d.owner s.words other w → Fits d.run d.owner s.words id both) → Joins (Ruled o) id v other w both spent
  joins_by id v other w both same none_left gives s d at apart there =
      let theirs_at : get_elem? s.views other ≡ some w = ⊎_elim (λ (t : (other ≡ id) × (both ≡ w)). absurd (apart t.0)) (λ (t : (other ≢ id) × (get_elem? s.views other ≡ some w)). t.1) (at_set s.views id other both w there) in
      let version : ℕ = (last d.run).controller.version in
      let fits = gives s d (d.seats id v at) (d.seats other w theirs_at) in record {
        small = d.small;
        old = d.old;
        opening = d.opening;
        run = d.run;
        goes_on = d.goes_on;
        owner = d.owner;
        wide = d.wide;
        record_is = d.record_is;
        marks = d.marks;
        tops = d.tops;
        seats = views_fit d.run d.owner s.words (set s.views id both) other spent tt (λ j u _ e. views_fit d.run d.owner s.words s.views id both fits (λ i x _ e'. d.seats i x e') j u e);
        counted = counts_on (set s.views id both) other w spent o.controller.version version version there (none_left version) (counts_on s.views id v both o.controller.version version version at (same version) d.counted);
      }

  pub tells : (id : ℕ) (c : CallerView) (other : ℕ) (xs : Note) → Joins (Ruled o) id (of_caller c) other (of_note xs) (told_of (of_caller c) (of_note xs)) spent
  tells id c other xs = joins_by id (of_caller c) other (of_note xs) (of_caller (record c { told = xs })) (λ m. record { founder = refl; caller = refl; made = refl; changes = refl }) (λ m. record { founder = refl; caller = refl; made = refl; changes = refl }) (λ s d f g. record {
    of_run = record { wide = f.of_run.wide; seen = f.of_run.seen; shown = f.of_run.shown; marks = f.of_run.marks; receipts = f.of_run.receipts; sent = f.of_run.sent; changes = f.of_run.changes };
    told = g;
    reached = f.reached;
  })

  appended_all : (r : Run n) (xs ys : List KeptReceipt) → AreAppended r xs → AreAppended r ys → AreAppended r (xs ++ ys)
  appended_all r [] ys a b = b
  appended_all r (x ∷ xs) ys a b = (a.0, appended_all r xs ys a.1 b)

  pub tells_receipts : (id : ℕ) (c : CallerView) (other : ℕ) (xs : Note) → Joins (Ruled o) id (of_caller c) other (of_note xs) (receipts_of (of_caller c) (of_note xs)) spent
  tells_receipts id c other xs = joins_by id (of_caller c) other (of_note xs) (of_caller (with_receipts c xs.receipts)) (λ m. record { founder = refl; caller = refl; made = refl; changes = refl }) (λ m. record { founder = refl; caller = refl; made = refl; changes = refl }) (λ s d f g. record {
    of_run = record { wide = f.of_run.wide; seen = f.of_run.seen; shown = f.of_run.shown; marks = f.of_run.marks; receipts = appended_all d.run xs.receipts c.receipts g.receipts f.of_run.receipts; sent = f.of_run.sent; changes = f.of_run.changes };
    told = f.told;
    reached = f.reached;
  })

  pub hears : (id : ℕ) (c : CallerView) (other : ℕ) (l : Message) → Joins (Ruled o) id (of_caller c) other (of_message l) (told_of (of_caller c) (of_message l)) spent
  hears id c other l = joins_by id (of_caller c) other (of_message l) (of_caller (record c { sent = l ∷ [] })) (λ m. record { founder = refl; caller = refl; made = refl; changes = refl }) (λ m. record { founder = refl; caller = refl; made = refl; changes = refl }) (λ s d f g. record {
    of_run = record { wide = f.of_run.wide; seen = f.of_run.seen; shown = f.of_run.shown; marks = f.of_run.marks; receipts = f.of_run.receipts; sent = (g, tt); changes = f.of_run.changes };
    told = f.told;
    reached = f.reached;
  })

  pub receives : (id : ℕ) (p : NodeView) (other : ℕ) (l : Message) → Joins (Ruled o) id (of_node p) other (of_message l) (told_of (of_node p) (of_message l)) spent
  receives id p other l = joins_by id (of_node p) other (of_message l) (of_node (record p { told = l ∷ [] })) (λ m. record { founder = refl; caller = refl; made = refl; changes = refl }) (λ m. record { founder = refl; caller = refl; made = refl; changes = refl }) (λ s d f g. record { count = f.count; inside = f.inside; own = f.own; state = f.state; shown = f.shown; word = f.word; told = (g, tt) })

  -- of a node that the pass id had, another pass is the owner now
  node_moves : (r : Run n) (owner : ℕ → ℕ) (words : List ℕ) (id j new i : ℕ) (p : NodeView) → owner j ≡ id → i ≢ id → FitsNode r owner words i p → FitsNode r (put owner j new) words i p
  node_moves r owner words id j new i p own ne f = record { count = f.count; inside = f.inside; own = put_else owner j new p.number (λ e. ne (sym f.own ∙ ap owner e ∙ own)) ∙ f.own; state = f.state; shown = f.shown; word = f.word; told = f.told }

  nodes_move : (r : Run n) (owner : ℕ → ℕ) (words : List ℕ) (id j new i : ℕ) (ps : List NodeView) → owner j ≡ id → i ≢ id → FitNodes r owner words i ps → FitNodes r (put owner j new) words i ps
  nodes_move r owner words id j new i [] own ne f = tt
  nodes_move r owner words id j new i (p ∷ ps) own ne f = (node_moves r owner words id j new i p own ne f.0, nodes_move r owner words id j new i ps own ne f.1)

  pub moves_owner : (r : Run n) (owner : ℕ → ℕ) (words : List ℕ) (id j new i : ℕ) (v : View) → owner j ≡ id → i ≢ id → Fits r owner words i v → Fits r (put owner j new) words i v
  moves_owner r owner words id j new i (founder a p made) own ne f = record { count = f.count; shown = f.shown; own = λ k x l. put_else owner j new k (λ e. ne (sym (f.own k x l) ∙ ap owner e ∙ own)) ∙ f.own k x l; state = f.state; word = f.word }
  moves_owner r owner words id j new i (of_node p) own ne f = node_moves r owner words id j new i p own ne f
  moves_owner r owner words id j new i (of_caller c) own ne f = f
  moves_owner r owner words id j new i (of_message l) own ne f = f
  moves_owner r owner words id j new i (of_note x) own ne f = f
  moves_owner r owner words id j new i (of_closing x) own ne f = (f.0, nodes_move r owner words id j new i x.nodes own ne f.1)
  moves_owner r owner words id j new i spent own ne f = tt

  -- the next node's pass
  pub founds : (id j made : ℕ) → j < n → Splits (Ruled o) id (founder j o made) (next_founder (founder j o made)) (founded_node (founder j o made))
  founds id j made inside s d at =
      let f : FitsFounder d.run d.owner s.words id j o = d.seats id (founder j o made) at in
      let version : ℕ = (last d.run).controller.version in
      let views' : List View = set s.views id (founder (j + 1) o made) in
      let new : ℕ = length views' in
      let owner' : ℕ → ℕ = put d.owner j new in
      let old_seat : id < length s.views = at_inside s.views id (founder j o made) at in
      let apart : (i : ℕ) → i < length s.views → i ≢ new = λ i l e. let z = length-set s.views id (founder (j + 1) o made) in omega arith in
      record {
        small = d.small;
        old = d.old;
        opening = d.opening;
        run = d.run;
        goes_on = d.goes_on;
        owner = owner';
        wide = d.wide;
        record_is = d.record_is;
        marks = d.marks;
        tops = d.tops;
        seats = one_more s d views' (of_node (opened_node o j)) owner'
            (views_fit d.run owner' s.words s.views id (founder (j + 1) o made)
            record {
              count = refl;
              shown = f.shown;
              own = λ k a l. put_else d.owner j new k (λ e. omega arith) ∙ f.own k (omega arith) l;
              state = λ k a l. f.state k (omega arith) l;
              word = λ k a l. f.word k (omega arith) l;
            }
            (λ i v ne e. moves_owner d.run d.owner s.words id j new i v (f.own j (omega arith) inside) ne (d.seats i v e)))
            record {
              count = refl;
              inside = inside;
              own = put_here d.owner j new;
              state = f.state j (omega arith) inside;
              shown = f.shown;
              word = f.word j (omega arith) inside;
              told = tt;
            };
        counted = counts_more views' (of_node (opened_node o j)) o.controller.version version refl refl refl refl
            (counts_on s.views id (founder j o made) (founder (j + 1) o made) o.controller.version version version at record { founder = refl; caller = refl; made = refl; changes = refl } d.counted);
      }

  pub founds_as : (id j made : ℕ) (v : View) → v ≡ founder j o made → j < n → Splits (Ruled o) id v (next_founder v) (founded_node v)
  founds_as id j made v is inside = subst (λ (x : View). Splits (Ruled o) id x (next_founder x) (founded_node x)) (sym is) (founds id j made inside)

  -- a caller's pass
  admits : (id j made : ℕ) → Splits (Ruled o) id (founder j o made) (admitting (founder j o made)) (admitted (founder j o made))
  admits id j made s d at =
      let f : FitsFounder d.run d.owner s.words id j o = d.seats id (founder j o made) at in
      let left : View = founder j o (made + 1) in
      let right : View = of_caller (new_caller n) in
      let views' : List View = set s.views id left in record {
        small = d.small;
        old = d.old;
        opening = d.opening;
        run = d.run;
        goes_on = d.goes_on;
        owner = d.owner;
        wide = d.wide;
        record_is = d.record_is;
        marks = d.marks;
        tops = d.tops;
        seats = one_more s d views' right d.owner
            (views_fit d.run d.owner s.words s.views id left record { count = f.count; shown = f.shown; own = f.own; state = f.state; word = f.word } (λ i v ne e. d.seats i v e))
            (fresh_fits s d);
        counted =
            let one = sum_set one_if_founder s.views id (founder j o made) left at in
            let two = sum_set one_if_caller s.views id (founder j o made) left at in
            let three = sum_set made_by s.views id (founder j o made) left at in
            let four = sum_set changes_by s.views id (founder j o made) left at in
            let five = sum_by_push one_if_founder views' right in
            let six = sum_by_push one_if_caller views' right in
            let seven = sum_by_push made_by views' right in
            let eight = sum_by_push changes_by views' right in
            let founders = d.counted.founders in
            let callers = d.counted.callers in
            let changes = d.counted.changes in
            record { founders = omega arith; callers = omega arith; changes = omega arith };
      }

  pub admits_as : (id j made : ℕ) (v : View) → v ≡ founder j o made → Splits (Ruled o) id v (admitting v) (admitted v)
  admits_as id j made v is = subst (λ (x : View). Splits (Ruled o) id x (admitting x) (admitted x)) (sym is) (admits id j made)

  pub notes_at : (id : ℕ) (v : View) (p : NodeView) → v ≡ of_node p → Splits (Ruled o) id v v (noted v)
  notes_at id v p is = subst (λ (x : View). Splits (Ruled o) id x x (noted x)) (sym is) (node_notes id p)

  pub caller_notes_at : (id : ℕ) (v : View) (c : CallerView) → v ≡ of_caller c → Splits (Ruled o) id v v (noted v)
  caller_notes_at id v c is = subst (λ (x : View). Splits (Ruled o) id x x (noted x)) (sym is) (caller_notes id c)

  pub sends_at : (id : ℕ) (v : View) (p : NodeView) → v ≡ of_node p → Splits (Ruled o) id v v (sent_message v)
  sends_at id v p is = subst (λ (x : View). Splits (Ruled o) id x x (sent_message x)) (sym is) (sends id p)

  pub caller_sends_at : (id : ℕ) (v : View) (c : CallerView) → v ≡ of_caller c → Splits (Ruled o) id v v (sent_message v)
  caller_sends_at id v c is = subst (λ (x : View). Splits (Ruled o) id x x (sent_message x)) (sym is) (caller_sends id c)

  pub repeats_at : (id : ℕ) (v : View) (l : Message) → v ≡ of_message l → Splits (Ruled o) id v v (sent_message v)
  repeats_at id v l is = subst (λ (x : View). Splits (Ruled o) id x x (sent_message x)) (sym is) (repeats id l)

  pub tells_at : (id : ℕ) (v : View) (c : CallerView) (other : ℕ) (w : View) (xs : Note) → v ≡ of_caller c → w ≡ of_note xs → Joins (Ruled o) id v other w (told_of v w) spent
  tells_at id v c other w xs e f = subst (λ (x : View × View). Joins (Ruled o) id x.0 other x.1 (told_of x.0 x.1) spent) (λ i. (sym e i, sym f i)) (tells id c other xs)

  pub tells_receipts_at : (id : ℕ) (v : View) (c : CallerView) (other : ℕ) (w : View) (xs : Note) → v ≡ of_caller c → w ≡ of_note xs → Joins (Ruled o) id v other w (receipts_of v w) spent
  tells_receipts_at id v c other w xs e f = subst (λ (x : View × View). Joins (Ruled o) id x.0 other x.1 (receipts_of x.0 x.1) spent) (λ i. (sym e i, sym f i)) (tells_receipts id c other xs)

  pub hears_at : (id : ℕ) (v : View) (c : CallerView) (other : ℕ) (w : View) (l : Message) → v ≡ of_caller c → w ≡ of_message l → Joins (Ruled o) id v other w (told_of v w) spent
  hears_at id v c other w l e f = subst (λ (x : View × View). Joins (Ruled o) id x.0 other x.1 (told_of x.0 x.1) spent) (λ i. (sym e i, sym f i)) (hears id c other l)

  pub receives_at : (id : ℕ) (v : View) (p : NodeView) (other : ℕ) (w : View) (l : Message) → v ≡ of_node p → w ≡ of_message l → Joins (Ruled o) id v other w (told_of v w) spent
  receives_at id v p other w l e f = subst (λ (x : View × View). Joins (Ruled o) id x.0 other x.1 (told_of x.0 x.1) spent) (λ i. (sym e i, sym f i)) (receives id p other l)

  -- the board as it opens
  pub opens : (words : List ℕ) (r : Run n) → IsOpening o r → n ≤ 7 → length words ≡ 2 * n + 1 → get_or words 0 0 ≡ packed o.controller → ((k : ℕ) → k < n → get_or words (mark_word k) 0 ≡ (node_in o k).watermark) → Ruled o (opening words [] (founder 0 o 0))
  opens words r was small wide record_is same = record {
    small = small;
    old = r;
    opening = was;
    run = r;
    goes_on = λ w a. a;
    owner = λ _. 0;
    wide = wide;
    record_is = record_is ∙ ap packed (sym was.record_is);
    marks = λ k l. (last r, last_is_of n r, ap (λ (x : Node). x.watermark) (was.nodes k l) ∙ sym (same k l));
    tops = λ k l w a. inl a;
    seats = λ j v e. first words r was same j v e;
    counted = record { founders = refl; callers = refl; changes = (let e = ap (λ (c : LeaderAndIsr). c.version) was.record_is in omega arith) };
  }
    where
      first : (words : List ℕ) (r : Run n) → IsOpening o r → ((k : ℕ) → k < n → get_or words (mark_word k) 0 ≡ (node_in o k).watermark) → (j : ℕ) (v : View) → get_elem? (founder 0 o 0 ∷ []) j ≡ some v → Fits r (λ _. 0) words j v
      first words r was same zero v e = subst (Fits r (λ _. 0) words 0) (some-injective (founder 0 o 0) v e) record {
        count = refl;
        shown = (last r, last_is_of n r, was.record_is);
        own = λ k a l. refl;
        state = λ k a l. was.nodes k l;
        word = λ k a l. same k l;
      }
      first words r was same (suc j) v e = absurd (some-ne-none v (sym e))

-- a run of no events ends with the start of a run
pub begins_so : (n : ℕ) → IsOpening (beginning n) (record { moments = []; is_run = tt })
begins_so n = record { record_is = refl; nodes = λ k l. refl; promised = (start n, 0, inl refl, record { rest = held fresh; is = refl }) }
