-- A walk that nothing refuses doesn't stop at the subcommand `help`.
use Rattle.std.proofs.Common.{◌≡◌, ◌&&◌, ℕ, Bool, cond, true, false, not, refl, List, [], ◌∷◌, Option, Some, None, codes}
use Rattle.std.specs.List.{fold}
use Rattle.std.specs.Option.{is_some}
use Rattle.std.specs.Str.{bytes_eq}
use Rattle.clap.specs.Lexer.{long_of, short_of}
use Rattle.clap.specs.Kinds.{or_else}
use Rattle.clap.specs.Simple.{Shape}
use Rattle.clap.specs.Faults.{other_fault, step_fault, turn_fault, walk_fault, word_fault}
use Rattle.clap.specs.Walk.{Held, Names, Outcome, Rule, Step, Text, Waiting, Walk, after_flag, after_step, arg_by_index, bundle, done, idle, long_met, arg_by_long, long_or_other, next, option, plain, plain_word, positional, refused, short_or_plain, subcommand, subcommand_met, subcommand_or_other, to_positional, trailing, value, waits, walked, walked_from, word_met}
use Rattle.clap.specs.declared.error.kind.ErrorKind.TheVariants as kind
use Rattle.kp_cli.proofs.Filled.{first_empty, next_empty, refuses}

abbrev pub StopsAside : Option (Text × List Text) → Type 0
StopsAside None = Unit {0}
StopsAside (Some p) = bytes_eq p.0 (codes "help") ≡ false

abbrev IsAside : Step → Type 0
IsAside (next waiting) = Unit {0}
IsAside (trailing position) = Unit {0}
IsAside (subcommand name) = bytes_eq name (codes "help") ≡ false
IsAside value = Unit {0}

plain_aside : (c : List Rule) (waiting : Waiting) (word : Text) (h : Held) → IsAside (plain_word c waiting word h).1
plain_aside c idle word h = tt
plain_aside c (option id) word h = tt
plain_aside c positional word h = tt

after_aside : (c : List Rule) (waiting : Waiting) (word : Text) (h : Held) (o : Outcome) → IsAside (after_flag c waiting word h o).1
after_aside c waiting word h done = tt
after_aside c waiting word h (waits id) = tt
after_aside c waiting word h plain = plain_aside c waiting word h
after_aside c waiting word h refused = plain_aside c waiting word h

short_aside : (c : List Rule) (waiting : Waiting) (word : Text) (flags : Option Text) (h : Held)
    → IsAside (short_or_plain c waiting word flags h).1
short_aside c waiting word None h = plain_aside c waiting word h
short_aside c waiting word (Some flags) h = after_aside c waiting word (bundle c flags h).0 (bundle c flags h).1

flag_aside : (c : List Rule) (waiting : Waiting) (word : Text) (long : Option (Text × Option Text)) (h : Held)
    → IsAside (long_or_other c waiting word long h).1
flag_aside c waiting word None h = short_aside c waiting word (short_of word) h
flag_aside c waiting word (Some q) h =
    after_aside c waiting word (long_met c (arg_by_long c q.0) q.1 h).0 (long_met c (arg_by_long c q.0) q.1 h).1

not_help : (b off : Bool) → off ≡ false → cond (b && not off) (kind.DisplayHelp ∷ kind.InvalidSubcommand ∷ []) [] ≡ [] → b ≡ false
not_help false off has_help e = refl
not_help true false has_help e = refuses _ _ _ e
not_help true true has_help e = has_help

module _ (s : Shape) (has_help : s.disable_help_subcommand ≡ false) where
  other_aside : (name : Option Text) (waiting : Waiting) (position : ℕ) (word : Text) (h : Held) → other_fault s name word h ≡ []
      → IsAside (subcommand_or_other s.rules name waiting position word h).1
  other_aside (Some name) waiting position word h e =
      not_help (bytes_eq name (codes "help")) s.disable_help_subcommand has_help e
  other_aside None waiting position word h e = go (bytes_eq word (45 ∷ 45 ∷ []))
    where
      go : (b : Bool)
          → IsAside (cond {A = Held × Step} b (h, trailing position) (long_or_other s.rules waiting word (long_of word) h)).1
      go true = tt
      go false = flag_aside s.rules waiting word (long_of word) h

  word_aside : (names : Names) (is_trailing : Bool) (waiting : Waiting) (position : ℕ) (word : Text) (h : Held)
      → word_fault s names is_trailing waiting word h ≡ [] → IsAside (word_met s.rules names is_trailing waiting position word h).1
  word_aside names true waiting position word h e = tt
  word_aside names false waiting position word h e = other_aside (subcommand_met names waiting word) waiting position word h e

  step_aside : (word : Text) (w : Walk) (h : Held) (step : Step) → StopsAside w.stopped → IsAside step
      → StopsAside (after_step s.rules word w h step).stopped
  step_aside word w h (next waiting) before e = before
  step_aside word w h (trailing position) before e = before
  step_aside word w h (subcommand name) before e = e
  step_aside word w h value before e = go (arg_by_index s.rules w.position)
    where
      go : (found : Option Rule) → StopsAside (to_positional s.rules found word w h).stopped
      go None = before
      go (Some a) = tt

  turn_aside : (names : Names) (w : Walk) (word : Text) → turn_fault s names w word ≡ [] → StopsAside w.stopped
      → StopsAside (walked s.rules names w word).stopped
  unfolding walked
  turn_aside names w word e before = go w.stopped before e
    where
      go : (stopped : Option (Text × List Text)) → StopsAside stopped
          → cond (is_some stopped) [] (or_else (word_fault s names w.is_trailing w.waiting word w.held)
          (step_fault s w.position (word_met s.rules names w.is_trailing w.waiting w.position word w.held).0
          (word_met s.rules names w.is_trailing w.waiting w.position word w.held).1)) ≡ []
          → StopsAside (walked_from s.rules names stopped w word).stopped
      go (Some p) here e1 = here
      go None here e1 = step_aside word w _ (word_met s.rules names w.is_trailing w.waiting w.position word w.held).1 before
          (word_aside names w.is_trailing w.waiting w.position word w.held (first_empty _ _ e1))

  pub walk_aside : (names : Names) (words : List Text) (w : Walk) → walk_fault s names w words ≡ [] → StopsAside w.stopped
      → StopsAside (fold (walked s.rules names) w words).stopped
  unfolding walk_fault
  walk_aside names [] w e before = before
  walk_aside names (word ∷ rest) w e before =
      walk_aside names rest (walked s.rules names w word) (next_empty (turn_fault s names w word) _ e)
      (turn_aside names w word (first_empty _ _ e) before)
