-- In a walk that nothing refuses, what each use and each default keeps of the rows holds of the matches.
use Rattle.std.proofs.Common.{◌≡◌, ◌++◌, ◌&&◌, ℕ, Bool, cond, true, false, zero, suc, refl, subst, List, [], ◌∷◌, length, Option, Some, None}
use Rattle.std.specs.List.{find, fold}
use Rattle.std.specs.Option.{is_some, option_map_or}
use Rattle.std.specs.Str.{bytes_eq, chars}
use Rattle.std.specs.Prelude.{encode_utf8, drop, slice_get}
use Rattle.clap.specs.Lexer.{long_of, short_of}
use Rattle.clap.specs.Kinds.{Kinds, or_else}
use Rattle.clap.specs.Simple.{Shape}
use Rattle.clap.specs.Faults.{bundle_fault, bundle_step_fault, check_fault, defaults_fault, flag_word_fault, flags_fault, level_fault, long_fault, option_fault, other_fault, positional_fault, react_fault, settle_fault, short_fault, step_fault, stray_fault, turn_fault, use_fault, walk_fault, word_fault}
use Rattle.clap.specs.Walk.{Held, Names, Outcome, Row, Rule, Step, Text, Waiting, Walk, after_flag, after_step, arg_by_id, arg_by_index, arg_by_long, arg_by_short, at_row, attached_value, bundle, bundle_met, bundle_step, default_rows, done, flag_met, has_row, idle, is_pending, long_met, long_or_other, next, nothing_held, option, option_met, plain, plain_word, positional, positional_held, reacted, reading_by, refused, rows_after, settled, settled_rows, short_met, short_or_plain, subcommand, subcommand_met, subcommand_or_other, takes_several, takes_values, to_positional, trailing, used, used_by_id, value, waits, walk, walk_from, walked, walked_from, with_default, without, word_met}
use Rattle.clap.specs.declared.error.kind.ErrorKind.{ErrorKind}
use Rattle.clap.specs.declared.error.kind.ErrorKind.TheVariants as kind

-- ---- lists of kinds

pub refuses : (A : Type 0) (k : ErrorKind) (ks : Kinds) → k ∷ ks ≡ [] → A
refuses A k ks e = absurd cc

pub first_empty : (a b : Kinds) → or_else a b ≡ [] → a ≡ []
first_empty [] b e = refl
first_empty (k ∷ ks) b e = e

pub next_empty : (a b : Kinds) → or_else a b ≡ [] → b ≡ []
next_empty [] b e = e
next_empty (k ∷ ks) b e = refuses (b ≡ []) k ks e

-- ---- rows

-- of each row P holds
abbrev pub Filled : (Row → Type 0) → List Row → Type 0
Filled P [] = Unit {0}
Filled P (r ∷ rs) = P r × Filled P rs

pub at_row_filled : (P : Row → Type 0) (id : Text) (change : Row → List Row) (missing : List Row) → Filled P missing
    → ((r : Row) (rs : List Row) → bytes_eq r.id id ≡ true → P r → Filled P rs → Filled P (change r ++ rs))
    → (rows : List Row) → Filled P rows → Filled P (at_row id change missing rows)
at_row_filled P id change missing new changes [] filled = new
at_row_filled P id change missing new changes (r ∷ rs) filled =
    go (bytes_eq r.id id) refl (at_row_filled P id change missing new changes rs filled.1)
  where
    go : (b : Bool) → bytes_eq r.id id ≡ b → Filled P (at_row id change missing rs)
        → Filled P (cond b (change r ++ rs) (r ∷ at_row id change missing rs))
    go true is below = changes r rs is filled.0 filled.1
    go false is below = (filled.0, below)

pub without_filled : (P : Row → Type 0) (id : Text) (rows : List Row) → Filled P rows → Filled P (without id rows)
without_filled P id rows filled = at_row_filled P id (λ _. []) [] tt (λ r rs is one rest. rest) rows filled

-- the first row that passes the test
pub found_filled : (P : Row → Type 0) (p : Row → Bool) (rows : List Row) (r : Row) → Filled P rows → find p rows ≡ Some r → P r × (p r ≡ true)
found_filled P p [] r filled e = absurd cc
found_filled P p (x ∷ xs) r filled e = go (p x) refl e (λ h. found_filled P p xs r filled.1 h)
  where
    go : (b : Bool) → p x ≡ b → cond b (Some x) (find p xs) ≡ Some r → (find p xs ≡ Some r → P r × (p r ≡ true)) → P r × (p r ≡ true)
    go true passes h later = let same : x ≡ r = cc in subst (λ (y : Row). P y × (p y ≡ true)) same (filled.0, passes)
    go false passes h later = later h

-- ---- one use of an argument

-- a use of the argument that nothing refuses keeps P
abbrev pub FillsItself : (Row → Type 0) → Bool → Rule → Type 0
FillsItself P again a = (values : List Text) (rows : List Row) → use_fault again a values rows ≡ [] → Filled P rows
    → Filled P (used a values rows)

abbrev pub EachFills : (Row → Type 0) → Bool → List Rule → Type 0
EachFills P again c = (p : Rule → Bool) (a : Rule) → find p c ≡ Some a → FillsItself P again a

module _ (P : Row → Type 0) (c : List Rule) (again : Bool) (each : EachFills P again c) where
  used_filled : (p : Rule → Bool) (values : List Text) (rows : List Row) (found : Option Rule) → find p c ≡ found
      → option_map_or (λ a. use_fault again a values rows) found [] ≡ [] → Filled P rows → Filled P (used_by_id found values rows)
  used_filled p values rows None is e filled = filled
  used_filled p values rows (Some a) is e filled = each p a is values rows e filled

  settled_rows_filled : (waits_for : Option (Text × List Text)) (rows : List Row)
      → option_map_or (λ q. option_map_or (λ a. use_fault again a q.1 rows) (arg_by_id c q.0) []) waits_for [] ≡ []
      → Filled P rows → Filled P (settled_rows c waits_for rows)
  settled_rows_filled None rows e filled = filled
  settled_rows_filled (Some q) rows e filled = used_filled _ q.1 rows (arg_by_id c q.0) refl e filled

  pub settled_filled : (h : Held) → settle_fault c again h ≡ [] → Filled P h.rows → Filled P (settled c h).rows
  settled_filled h e filled = settled_rows_filled h.pending h.rows e filled

  reacted_filled : (a : Rule) (values : List Text) (h : Held) → FillsItself P again a → react_fault c again a values h ≡ [] → Filled P h.rows
      → Filled P (reacted c a values h).rows
  reacted_filled a values h fills e filled =
      fills values (settled c h).rows (next_empty (settle_fault c again h) _ e) (settled_filled h (first_empty _ _ e) filled)

  option_filled : (a : Rule) (v : Option Text) (h : Held) → FillsItself P again a → option_fault c again a v h ≡ [] → Filled P h.rows
      → Filled P (option_met c a v h).0.rows
  option_filled a (Some v) h fills e filled = reacted_filled a (v ∷ []) h fills e filled
  option_filled a None h fills e filled = settled_filled h e filled

  flag_filled : (a : Rule) (v : Option Text) (h : Held) → FillsItself P again a
      → cond (is_some v) (kind.TooManyValues ∷ []) (react_fault c again a [] h) ≡ [] → Filled P h.rows
      → Filled P (flag_met c a v h).0.rows
  flag_filled a (Some v) h fills e filled = filled
  flag_filled a None h fills e filled = reacted_filled a [] h fills e filled

  long_filled : (p : Rule → Bool) (found : Option Rule) (v : Option Text) (h : Held) → find p c ≡ found → long_fault c again found v h ≡ []
      → Filled P h.rows → Filled P (long_met c found v h).0.rows
  long_filled p None v h is e filled = filled
  long_filled p (Some a) v h is e filled = go (takes_values a) e
    where
      go : (b : Bool)
          → cond b (option_fault c again a v h) (cond (is_some v) (kind.TooManyValues ∷ []) (react_fault c again a [] h)) ≡ []
          → Filled P (cond {A = Held × Outcome} b (option_met c a v h) (flag_met c a v h)).0.rows
      go true e1 = option_filled a v h (each p a is) e1 filled
      go false e1 = flag_filled a v h (each p a is) e1 filled

  short_filled : (p : Rule → Bool) (found : Option Rule) (rest : Text) (h : Held) (after : Held → Held × Outcome) (fault : Held → Kinds)
      → find p c ≡ found → ((g : Held) → fault g ≡ [] → Filled P g.rows → Filled P (after g).0.rows)
      → short_fault c again found rest h fault ≡ [] → Filled P h.rows → Filled P (short_met c found rest h after).0.rows
  short_filled p None rest h after fault is later e filled = filled
  short_filled p (Some a) rest h after fault is later e filled = go (takes_values a) e
    where
      go : (b : Bool)
          → cond b (option_fault c again a (attached_value rest) h) (or_else (react_fault c again a [] h) (fault (reacted c a [] h))) ≡ []
          → Filled P (cond {A = Held × Outcome} b (option_met c a (attached_value rest) h) (after (reacted c a [] h))).0.rows
      go true e1 = option_filled a (attached_value rest) h (each p a is) e1 filled
      go false e1 = later (reacted c a [] h) (next_empty (react_fault c again a [] h) _ e1)
          (reacted_filled a [] h (each p a is) (first_empty _ _ e1) filled)

  bundle_step_filled : (x : Option ℕ) (flags : Text) (skip : ℕ) (so_far : Outcome) (h : Held)
      (after : Text → ℕ → Outcome → Held → Held × Outcome) (fault : Text → ℕ → Held → Kinds)
      → ((rest : Text) (n : ℕ) (o : Outcome) (g : Held) → fault rest n g ≡ [] → Filled P g.rows → Filled P (after rest n o g).0.rows)
      → bundle_step_fault c again x flags skip h fault ≡ [] → Filled P h.rows → Filled P (bundle_step c x flags skip so_far h after).0.rows
  bundle_step_filled None flags skip so_far h after fault later e filled = filled
  bundle_step_filled (Some x) flags zero so_far h after fault later e filled =
      let rest : Text = drop (length (encode_utf8 x)) flags in
      short_filled _ (arg_by_short c x) rest h (after rest 0 done) (fault rest 0) refl (later rest 0 done) e filled
  bundle_step_filled (Some x) flags (suc skip) so_far h after fault later e filled =
      later (drop (length (encode_utf8 x)) flags) skip so_far h e filled

  bundle_filled : (k : ℕ) (flags : Text) (skip : ℕ) (so_far : Outcome) (h : Held) → flags_fault c again k flags skip h ≡ [] → Filled P h.rows
      → Filled P (bundle_met c k flags skip so_far h).0.rows
  unfolding bundle_met flags_fault
  bundle_filled zero flags skip so_far h e filled = filled
  bundle_filled (suc k) flags skip so_far h e filled =
      bundle_step_filled (slice_get (chars flags) 0) flags skip so_far h (bundle_met c k) (flags_fault c again k)
      (λ rest n o g. bundle_filled k rest n o g) e filled

  -- ---- one word

  plain_filled : (waiting : Waiting) (word : Text) (h : Held) → Filled P h.rows → Filled P (plain_word c waiting word h).0.rows
  plain_filled idle word h filled = filled
  plain_filled positional word h filled = filled
  plain_filled (option id) word h filled = go (arg_by_id c id)
    where
      go : (found : Option Rule) → Filled P (Rattle.clap.specs.Walk.option_word found id word h).0.rows
      go None = filled
      go (Some a) = filled

  after_filled : (waiting : Waiting) (word : Text) (h : Held) (o : Outcome) → Filled P h.rows → Filled P (after_flag c waiting word h o).0.rows
  after_filled waiting word h done filled = filled
  after_filled waiting word h (waits id) filled = filled
  after_filled waiting word h plain filled = plain_filled waiting word h filled
  after_filled waiting word h refused filled = plain_filled waiting word h filled

  short_word_filled : (waiting : Waiting) (word : Text) (flags : Option Text) (h : Held)
      → option_map_or (λ f. bundle_fault c again f h) flags [] ≡ [] → Filled P h.rows → Filled P (short_or_plain c waiting word flags h).0.rows
  short_word_filled waiting word None h e filled = plain_filled waiting word h filled
  short_word_filled waiting word (Some flags) h e filled =
      after_filled waiting word (bundle c flags h).0 (bundle c flags h).1
      (bundle_filled (length flags) flags h.skip plain (record h { skip = 0 }) e filled)

  flag_word_filled : (waiting : Waiting) (word : Text) (long : Option (Text × Option Text)) (h : Held) → flag_word_fault c again long word h ≡ []
      → Filled P h.rows → Filled P (long_or_other c waiting word long h).0.rows
  flag_word_filled waiting word None h e filled = short_word_filled waiting word (short_of word) h e filled
  flag_word_filled waiting word (Some q) h e filled =
      after_filled waiting word _ (long_met c (arg_by_long c q.0) q.1 h).1 (long_filled _ (arg_by_long c q.0) q.1 h refl e filled)

  to_positional_filled : (s : Shape) (word : Text) (w : Walk) (h : Held) (p : Rule → Bool) (found : Option Rule) → find p c ≡ found
      → option_map_or (λ a. positional_fault c again a h) found (stray_fault s) ≡ [] → Filled P h.rows
      → Filled P (to_positional c found word w h).held.rows
  to_positional_filled s word w h p None is e filled = filled
  to_positional_filled s word w h p (Some a) is e filled = go (is_pending a h.pending && takes_several a) e
    where
      go : (b : Bool) → cond b [] (settle_fault c again h) ≡ [] → Filled P (cond {A = Held} b h (settled c h)).rows
      go true e1 = filled
      go false e1 = settled_filled h e1 filled

-- ---- the walk

module _ (P : Row → Type 0) (s : Shape) (each : EachFills P s.args_override_self s.rules) where
  step_filled : (word : Text) (w : Walk) (h : Held) (step : Step) → step_fault s w.position h step ≡ [] → Filled P h.rows
      → Filled P (after_step s.rules word w h step).held.rows
  step_filled word w h (next waiting) e filled = filled
  step_filled word w h (trailing position) e filled = filled
  step_filled word w h (subcommand name) e filled = filled
  step_filled word w h value e filled =
      to_positional_filled P s.rules s.args_override_self each s word w h _ (arg_by_index s.rules w.position) refl e filled

  other_filled : (name : Option Text) (waiting : Waiting) (position : ℕ) (word : Text) (h : Held) → other_fault s name word h ≡ []
      → Filled P h.rows → Filled P (subcommand_or_other s.rules name waiting position word h).0.rows
  other_filled (Some name) waiting position word h e filled = filled
  other_filled None waiting position word h e filled = go (bytes_eq word (45 ∷ 45 ∷ [])) e
    where
      go : (b : Bool) → cond b [] (flag_word_fault s.rules s.args_override_self (long_of word) word h) ≡ []
          → Filled P (cond {A = Held × Step} b (h, trailing position) (long_or_other s.rules waiting word (long_of word) h)).0.rows
      go true e1 = filled
      go false e1 = flag_word_filled P s.rules s.args_override_self each waiting word (long_of word) h e1 filled

  word_filled : (names : Names) (is_trailing : Bool) (waiting : Waiting) (position : ℕ) (word : Text) (h : Held)
      → word_fault s names is_trailing waiting word h ≡ [] → Filled P h.rows
      → Filled P (word_met s.rules names is_trailing waiting position word h).0.rows
  word_filled names true waiting position word h e filled = filled
  word_filled names false waiting position word h e filled = other_filled (subcommand_met names waiting word) waiting position word h e filled

  turn_filled : (names : Names) (w : Walk) (word : Text) → turn_fault s names w word ≡ [] → Filled P w.held.rows
      → Filled P (walked s.rules names w word).held.rows
  unfolding walked
  turn_filled names w word e filled = go w.stopped e
    where
      go : (stopped : Option (Text × List Text))
          → cond (is_some stopped) [] (or_else (word_fault s names w.is_trailing w.waiting word w.held)
          (step_fault s w.position (word_met s.rules names w.is_trailing w.waiting w.position word w.held).0
          (word_met s.rules names w.is_trailing w.waiting w.position word w.held).1)) ≡ []
          → Filled P (walked_from s.rules names stopped w word).held.rows
      go (Some p) e1 = filled
      go None e1 = step_filled word w _ (word_met s.rules names w.is_trailing w.waiting w.position word w.held).1
          (next_empty (word_fault s names w.is_trailing w.waiting word w.held) _ e1)
          (word_filled names w.is_trailing w.waiting w.position word w.held (first_empty _ _ e1) filled)

  pub walk_filled : (names : Names) (words : List Text) (w : Walk) → walk_fault s names w words ≡ [] → Filled P w.held.rows
      → Filled P (fold (walked s.rules names) w words).held.rows
  unfolding walk_fault
  walk_filled names [] w e filled = filled
  walk_filled names (word ∷ rest) w e filled =
      walk_filled names rest (walked s.rules names w word) (next_empty (turn_fault s names w word) _ e)
      (turn_filled names w word (first_empty _ _ e) filled)

-- ---- defaults

-- the default values of the argument keep P
abbrev pub FillsByDefault : (Row → Type 0) → Rule → Type 0
FillsByDefault P a = (rows : List Row) → Filled P rows → Filled P (default_rows a.id (reading_by a) a.defaults rows)

default_filled : (P : Row → Type 0) (a : Rule) (rows : List Row) → FillsByDefault P a → Filled P rows → Filled P (with_default rows a)
default_filled P a rows fills filled = go (has_row a.id rows)
  where
    go : (b : Bool) → Filled P (cond b rows (default_rows a.id (reading_by a) a.defaults rows))
    go true = filled
    go false = fills rows filled

-- Q holds of each rule
abbrev pub EachRule : (Rule → Type 0) → List Rule → Type 0
EachRule Q [] = Unit {0}
EachRule Q (a ∷ c) = Q a × EachRule Q c

pub found_rule : (Q : Rule → Type 0) (p : Rule → Bool) (c : List Rule) (a : Rule) → EachRule Q c → find p c ≡ Some a → Q a
found_rule Q p [] a each e = absurd cc
found_rule Q p (x ∷ c) a each e = go (p x) e (λ h. found_rule Q p c a each.1 h)
  where
    go : (b : Bool) → cond b (Some x) (find p c) ≡ Some a → (find p c ≡ Some a → Q a) → Q a
    go true h later = let same : x ≡ a = cc in subst Q same each.0
    go false h later = later h

pub defaults_filled : (P : Row → Type 0) (c : List Rule) (rows : List Row) → EachRule (FillsByDefault P) c → Filled P rows
    → Filled P (fold with_default rows c)
defaults_filled P [] rows each filled = filled
defaults_filled P (a ∷ c) rows each filled = defaults_filled P c (with_default rows a) each.1 (default_filled P a rows each.0 filled)

-- ---- a whole level

-- in a level that nothing refuses, what each use and each default keeps holds of the matches
pub level_filled : (P : Row → Type 0) (s : Shape) → EachRule (FillsItself P s.args_override_self) s.rules → EachRule (FillsByDefault P) s.rules
    → (words : List Text) → level_fault s [] nothing_held words false [] ≡ [] → Filled P (rows_after s.rules [] words)
level_filled P s uses defaults words e =
    let each : EachFills P s.args_override_self s.rules = λ p a is. found_rule (FillsItself P s.args_override_self) p s.rules a uses is in
    let end : Held = (walk s.rules [] nothing_held words).held in
    let rest = next_empty (walk_fault s [] (walk_from nothing_held) words) _ e in
    let here : Filled P end.rows = walk_filled P s each [] words (walk_from nothing_held) (first_empty _ _ e) tt in
    defaults_filled P s.rules _ defaults
    (settled_filled P s.rules s.args_override_self each end (first_empty _ _ rest) here)

-- and what is required is there
pub level_checked : (s : Shape) (words : List Text) → level_fault s [] nothing_held words false [] ≡ []
    → check_fault s (rows_after s.rules [] words) false ≡ []
level_checked s words e =
    let end : Held = (walk s.rules [] nothing_held words).held in
    next_empty (defaults_fault (settled s.rules end).rows s.rules) _
    (next_empty (settle_fault s.rules s.args_override_self end) _
    (next_empty (walk_fault s [] (walk_from nothing_held) words) _ e))
