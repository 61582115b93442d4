-- Where nothing refuses the words, they name a call.
use Rattle.std.proofs.Common.{◌≡◌, ◌∙◌, ◌||◌, ℕ, Bool, cond, true, false, not, refl, sym, List, [], ◌∷◌, length, Option, Some, None, IsSomeAnd, codes, inl, inr, true≢false}
use Rattle.std.specs.List.{find, fold, slice_index_or}
use Rattle.std.specs.Option.{is_some, option_map, option_map_or}
use Rattle.std.specs.Prelude.{option_and_then, slice_get}
use Rattle.std.specs.Str.{bytes_eq}
use Rattle.std.proofs.lemmas.Bool.Decides.{Decides-like, same_from_decides}
use Rattle.std.proofs.lemmas.Bool.{false≢true}
use Rattle.std.proofs.lemmas.Slice.Eq.{bytes_eq-Decides}
use Rattle.clap.specs.Facts.{explicit_source}
use Rattle.clap.specs.Takes.{is_given}
use Rattle.clap.specs.Kinds.{check_kinds, or_else, range_kinds}
use Rattle.clap.specs.Simple.{Shape, argument_words, built, entered, names_of, rows_at, subcommand_of}
use Rattle.clap.specs.Faults.{check_fault, defaults_fault, entered_fault, fault_of, is_simple_and_free, level_fault, repeat_fault, set_fault, settle_fault, values_fault, walk_fault}
use Rattle.clap.specs.ValueTests.{accepts}
use Rattle.clap.specs.Values.{IsUnsignedIn}
use Rattle.clap.specs.Walk.{Names, Row, Rule, Text, Walk, finished, has_row, nothing_held, reading_by, rows_after, settled, values_or_missing, walk, walk_from, with_default, with_values, without}
use Rattle.clap.specs.declared.builder.value_parser.ValueParser.TheVariants.{Unsigned}
use Rattle.clap.specs.declared.parser.matches.ValueSource.TheVariants.{CommandLine, DefaultValue}
use Rattle.clap.proofs.ValueTestLemmas.{accepts-Accepts}
use Rattle.kp_cli.specs.Line.{HasFile, HasNumber, NamesCall, NamesRace, file_rule, kpart}
use Rattle.kp_cli.proofs.Aside.{StopsAside, walk_aside}
use Rattle.kp_cli.proofs.Filled.{EachRule, Filled, FillsByDefault, FillsItself, first_empty, found_filled, level_checked, level_filled, next_empty, refuses}
use Rattle.kp_cli.proofs.Suits.{HasOne, Suits, given_suits, row_by_default, row_stays, text_there, used_suits, values_passed}

pub kpart_is_free : is_simple_and_free kpart ≡ true
kpart_is_free = refl

-- ---- a file that is required

given : (rows : List Row) → check_kinds false false (not (is_given (codes "FILE") rows) || false) ≡ [] → is_given (codes "FILE") rows ≡ true
given rows e = go (is_given (codes "FILE") rows) e
  where
    go : (b : Bool) → check_kinds false false (not b || false) ≡ [] → b ≡ true
    go true h = refl
    go false h = refuses _ _ _ h

first_there : (values : List Text) → HasOne values → is_some (slice_get values 0) ≡ true
first_there [] one = absurd one
first_there (v ∷ vs) one = refl

has_value : (a : Rule) (rows : List Row) → Filled (Suits a) rows → is_given (codes "FILE") rows ≡ true → HasFile rows
has_value a rows filled e = go (find (λ r. bytes_eq r.id (codes "FILE")) rows) refl e
  where
    go : (o : Option Row) → find (λ r. bytes_eq r.id (codes "FILE")) rows ≡ o
        → option_map_or (λ r. explicit_source r.source) o false ≡ true
        → is_some (option_and_then (λ r. slice_get r.values 0) o) ≡ true
    go None is h = h
    go (Some r) is h = first_there r.values (found_filled (Suits a) _ rows r filled is).0.0

-- ---- `run FILE [--from FOLDER] [--keep FOLDER]`

abbrev run_shape : Shape
run_shape = slice_index_or (built kpart).subs 0 kpart.top

abbrev file : Rule
file = slice_index_or run_shape.rules 0 file_rule

abbrev left : Rule
left = slice_index_or run_shape.rules 1 file_rule

abbrev keep : Rule
keep = slice_index_or run_shape.rules 2 file_rule

abbrev help : Rule
help = slice_index_or run_shape.rules 3 file_rule

-- a use that takes one value, by a rule that is a where it has the id of a
takes_one : (a b : Rule) → (bytes_eq b.id a.id ≡ true → b ≡ a) → (values : List Text) (rows : List Row)
    → or_else (range_kinds 1 1 (length values)) (set_fault false b (values_or_missing b values) rows) ≡ [] → Filled (Suits a) rows
    → Filled (Suits a) (with_values b.id (reading_by b) CommandLine (values_or_missing b values) (without b.id rows))
takes_one a b one [] rows e filled = refuses _ _ _ e
takes_one a b one (v ∷ vs) rows e filled =
    used_suits a b one v vs rows
    (next_empty (repeat_fault false b.id rows) _ (next_empty (range_kinds 1 1 (length (v ∷ vs))) _ e)) filled

run_uses : EachRule (FillsItself (Suits file) false) run_shape.rules
run_uses = (
  takes_one file file (λ e. refl),
  (takes_one file left (λ e. absurd cc), (takes_one file keep (λ e. absurd cc), ((λ values rows e filled. filled), tt))),
)

run_defaults : EachRule (FillsByDefault (Suits file)) run_shape.rules
run_defaults = ((λ rows filled. filled), ((λ rows filled. filled), ((λ rows filled. filled), ((λ rows filled. filled), tt))))

run_has_file : (words : List Text) → level_fault run_shape [] nothing_held words false [] ≡ [] → HasFile (rows_after run_shape.rules [] words)
run_has_file words e =
    has_value file _ (level_filled (Suits file) run_shape run_uses run_defaults words e)
    (given (rows_after run_shape.rules [] words) (level_checked run_shape words e))

-- ---- `inspect FILE`

abbrev inspect_shape : Shape
inspect_shape = slice_index_or (built kpart).subs 1 kpart.top

abbrev segment : Rule
segment = slice_index_or inspect_shape.rules 1 file_rule

abbrev interval : Rule
interval = slice_index_or inspect_shape.rules 2 file_rule

segment_uses : EachRule (FillsItself (Suits segment) false) inspect_shape.rules
segment_uses = (
  takes_one segment file (λ e. absurd cc),
  (takes_one segment segment (λ e. refl), (takes_one segment interval (λ e. absurd cc), ((λ values rows e filled. filled), tt))),
)

interval_uses : EachRule (FillsItself (Suits interval) false) inspect_shape.rules
interval_uses = (
  takes_one interval file (λ e. absurd cc),
  (takes_one interval segment (λ e. absurd cc), (takes_one interval interval (λ e. refl), ((λ values rows e filled. filled), tt))),
)

by_default : (a b : Rule) → (bytes_eq b.id a.id ≡ true → b ≡ a) → (v : Text) → values_fault b (v ∷ []) ≡ [] → (rows : List Row)
    → Filled (Suits a) rows → Filled (Suits a) (with_values b.id (reading_by b) DefaultValue (v ∷ []) rows)
by_default a b one v e rows filled = given_suits a b one DefaultValue v [] rows (values_passed b (v ∷ []) e) filled

segment_defaults : EachRule (FillsByDefault (Suits segment)) inspect_shape.rules
segment_defaults = (
  (λ rows filled. filled),
  (
    by_default segment segment (λ e. refl) (codes "1073741824") refl,
    (by_default segment interval (λ e. absurd cc) (codes "4096") refl, ((λ rows filled. filled), tt)),
  ),
)

interval_defaults : EachRule (FillsByDefault (Suits interval)) inspect_shape.rules
interval_defaults = (
  (λ rows filled. filled),
  (
    by_default interval segment (λ e. absurd cc) (codes "1073741824") refl,
    (by_default interval interval (λ e. refl) (codes "4096") refl, ((λ rows filled. filled), tt)),
  ),
)

has_segment : (rows : List Row) → has_row segment.id (fold with_default rows inspect_shape.rules) ≡ true
has_segment rows =
    let before = with_default rows file in
    row_stays segment.id help (with_default (with_default before segment) interval)
    (row_stays segment.id interval (with_default before segment) (row_by_default segment (codes "1073741824") [] before refl))

has_interval : (rows : List Row) → has_row interval.id (fold with_default rows inspect_shape.rules) ≡ true
has_interval rows =
    let before = with_default (with_default rows file) segment in
    row_stays interval.id help (with_default before interval) (row_by_default interval (codes "4096") [] before refl)

inspect_has_file : (words : List Text) → level_fault inspect_shape [] nothing_held words false [] ≡ []
    → HasFile (rows_after inspect_shape.rules [] words)
inspect_has_file words e =
    has_value segment _ (level_filled (Suits segment) inspect_shape segment_uses segment_defaults words e)
    (given (rows_after inspect_shape.rules [] words) (level_checked inspect_shape words e))

-- a text that passes the test of numbers is a number
number_there : (o : Option Text) (least greatest : ℕ) → IsSomeAnd o (λ text. accepts false (Unsigned least greatest) text ≡ true)
    → IsSomeAnd o (IsUnsignedIn least greatest)
number_there None least greatest h = h
number_there (Some text) least greatest h = accepts-Accepts false (Unsigned least greatest) text h

inspect_has_segment : (words : List Text) → level_fault inspect_shape [] nothing_held words false [] ≡ []
    → HasNumber (codes "segment") 1024 1073741824 (rows_after inspect_shape.rules [] words)
inspect_has_segment words e =
    number_there _ 1024 1073741824 (text_there segment refl (rows_after inspect_shape.rules [] words)
    (level_filled (Suits segment) inspect_shape segment_uses segment_defaults words e)
    (has_segment (settled inspect_shape.rules (walk inspect_shape.rules [] nothing_held words).held).rows))

inspect_has_interval : (words : List Text) → level_fault inspect_shape [] nothing_held words false [] ≡ []
    → HasNumber (codes "interval") 0 1048576 (rows_after inspect_shape.rules [] words)
inspect_has_interval words e =
    number_there _ 0 1048576 (text_there interval refl (rows_after inspect_shape.rules [] words)
    (level_filled (Suits interval) inspect_shape interval_uses interval_defaults words e)
    (has_interval (settled inspect_shape.rules (walk inspect_shape.rules [] nothing_held words).held).rows))

-- ---- `draw FILE`

abbrev draw_shape : Shape
draw_shape = slice_index_or (built kpart).subs 4 kpart.top

abbrev from_line : Rule
from_line = slice_index_or draw_shape.rules 1 file_rule

abbrev to_line : Rule
to_line = slice_index_or draw_shape.rules 2 file_rule

from_uses : EachRule (FillsItself (Suits from_line) false) draw_shape.rules
from_uses = (
  takes_one from_line file (λ e. absurd cc),
  (takes_one from_line from_line (λ e. refl), (takes_one from_line to_line (λ e. absurd cc), ((λ values rows e filled. filled), tt))),
)

to_uses : EachRule (FillsItself (Suits to_line) false) draw_shape.rules
to_uses = (
  takes_one to_line file (λ e. absurd cc),
  (takes_one to_line from_line (λ e. absurd cc), (takes_one to_line to_line (λ e. refl), ((λ values rows e filled. filled), tt))),
)

from_defaults : EachRule (FillsByDefault (Suits from_line)) draw_shape.rules
from_defaults = (
  (λ rows filled. filled),
  (
    by_default from_line from_line (λ e. refl) (codes "1") refl,
    (by_default from_line to_line (λ e. absurd cc) (codes "4294967295") refl, ((λ rows filled. filled), tt)),
  ),
)

to_defaults : EachRule (FillsByDefault (Suits to_line)) draw_shape.rules
to_defaults = (
  (λ rows filled. filled),
  (
    by_default to_line from_line (λ e. absurd cc) (codes "1") refl,
    (by_default to_line to_line (λ e. refl) (codes "4294967295") refl, ((λ rows filled. filled), tt)),
  ),
)

has_from : (rows : List Row) → has_row from_line.id (fold with_default rows draw_shape.rules) ≡ true
has_from rows =
    let before = with_default rows file in
    row_stays from_line.id help (with_default (with_default before from_line) to_line)
    (row_stays from_line.id to_line (with_default before from_line) (row_by_default from_line (codes "1") [] before refl))

has_to : (rows : List Row) → has_row to_line.id (fold with_default rows draw_shape.rules) ≡ true
has_to rows =
    let before = with_default (with_default rows file) from_line in
    row_stays to_line.id help (with_default before to_line) (row_by_default to_line (codes "4294967295") [] before refl)

draw_has_file : (words : List Text) → level_fault draw_shape [] nothing_held words false [] ≡ [] → HasFile (rows_after draw_shape.rules [] words)
draw_has_file words e =
    has_value from_line _ (level_filled (Suits from_line) draw_shape from_uses from_defaults words e)
    (given (rows_after draw_shape.rules [] words) (level_checked draw_shape words e))

draw_has_from : (words : List Text) → level_fault draw_shape [] nothing_held words false [] ≡ []
    → HasNumber (codes "from") 1 4294967295 (rows_after draw_shape.rules [] words)
draw_has_from words e =
    number_there _ 1 4294967295 (text_there from_line refl (rows_after draw_shape.rules [] words)
    (level_filled (Suits from_line) draw_shape from_uses from_defaults words e)
    (has_from (settled draw_shape.rules (walk draw_shape.rules [] nothing_held words).held).rows))

draw_has_to : (words : List Text) → level_fault draw_shape [] nothing_held words false [] ≡ []
    → HasNumber (codes "to") 1 4294967295 (rows_after draw_shape.rules [] words)
draw_has_to words e =
    number_there _ 1 4294967295 (text_there to_line refl (rows_after draw_shape.rules [] words)
    (level_filled (Suits to_line) draw_shape to_uses to_defaults words e)
    (has_to (settled draw_shape.rules (walk draw_shape.rules [] nothing_held words).held).rows))

-- ---- `race`

abbrev race_shape : Shape
race_shape = slice_index_or (built kpart).subs 2 kpart.top

abbrev nodes : Rule
nodes = slice_index_or race_shape.rules 0 file_rule

abbrev producers : Rule
producers = slice_index_or race_shape.rules 1 file_rule

abbrev batches : Rule
batches = slice_index_or race_shape.rules 2 file_rule

abbrev moves : Rule
moves = slice_index_or race_shape.rules 3 file_rule

nodes_uses : EachRule (FillsItself (Suits nodes) false) race_shape.rules
nodes_uses = (
  takes_one nodes nodes (λ e. refl),
  (
    takes_one nodes producers (λ e. absurd cc),
    (takes_one nodes batches (λ e. absurd cc), (takes_one nodes moves (λ e. absurd cc), ((λ values rows e filled. filled), tt))),
  ),
)

producers_uses : EachRule (FillsItself (Suits producers) false) race_shape.rules
producers_uses = (
  takes_one producers nodes (λ e. absurd cc),
  (
    takes_one producers producers (λ e. refl),
    (takes_one producers batches (λ e. absurd cc), (takes_one producers moves (λ e. absurd cc), ((λ values rows e filled. filled), tt))),
  ),
)

batches_uses : EachRule (FillsItself (Suits batches) false) race_shape.rules
batches_uses = (
  takes_one batches nodes (λ e. absurd cc),
  (
    takes_one batches producers (λ e. absurd cc),
    (takes_one batches batches (λ e. refl), (takes_one batches moves (λ e. absurd cc), ((λ values rows e filled. filled), tt))),
  ),
)

moves_uses : EachRule (FillsItself (Suits moves) false) race_shape.rules
moves_uses = (
  takes_one moves nodes (λ e. absurd cc),
  (
    takes_one moves producers (λ e. absurd cc),
    (takes_one moves batches (λ e. absurd cc), (takes_one moves moves (λ e. refl), ((λ values rows e filled. filled), tt))),
  ),
)

-- no rule of a race has a default
no_defaults : (P : Row → Type 0) → EachRule (FillsByDefault P) race_shape.rules
no_defaults P = (
  (λ rows filled. filled),
  ((λ rows filled. filled), ((λ rows filled. filled), ((λ rows filled. filled), ((λ rows filled. filled), tt)))),
)

-- what was given has a row
row_given : (id : Text) (rows : List Row) → is_given id rows ≡ true → has_row id rows ≡ true
row_given id [] e = absurd (false≢true e)
row_given id (r ∷ rows) e = go (bytes_eq r.id id) e (row_given id rows)
  where
    go : (b : Bool) → option_map_or (λ r. explicit_source r.source) (cond b (Some r) (find (λ r. bytes_eq r.id id) rows)) false ≡ true
        → (is_given id rows ≡ true → has_row id rows ≡ true) → (b || has_row id rows) ≡ true
    go true h later = refl
    go false h later = later h

-- all four are given
all_given : (a b c d : Bool) → check_kinds false false (not a || (not b || (not c || (not d || false)))) ≡ []
    → (a ≡ true) × (b ≡ true) × (c ≡ true) × (d ≡ true)
all_given true true true true e = (refl, refl, refl, refl)
all_given false b c d e = refuses _ _ _ e
all_given true false c d e = refuses _ _ _ e
all_given true true false d e = refuses _ _ _ e
all_given true true true false e = refuses _ _ _ e

race_is_there : (words : List Text) → level_fault race_shape [] nothing_held words false [] ≡ [] → NamesRace (rows_after race_shape.rules [] words)
race_is_there words e =
    let rows : List Row = rows_after race_shape.rules [] words in
    let given =
    all_given (is_given (codes "nodes") rows) (is_given (codes "producers") rows) (is_given (codes "batches") rows) (is_given (codes "moves") rows)
    (level_checked race_shape words e) in (
      number_there _ 1 7 (text_there nodes refl rows (level_filled (Suits nodes) race_shape nodes_uses (no_defaults (Suits nodes)) words e)
          (row_given (codes "nodes") rows given.0)),
      number_there _ 1 8 (text_there producers refl rows
          (level_filled (Suits producers) race_shape producers_uses (no_defaults (Suits producers)) words e)
          (row_given (codes "producers") rows given.1)),
      number_there _ 0 10000 (text_there batches refl rows
          (level_filled (Suits batches) race_shape batches_uses (no_defaults (Suits batches)) words e)
          (row_given (codes "batches") rows given.2)),
      number_there _ 0 1000 (text_there moves refl rows (level_filled (Suits moves) race_shape moves_uses (no_defaults (Suits moves)) words e)
          (row_given (codes "moves") rows given.3)),
    )

-- ---- the whole command

is_used : (rows : List Row) (has : Bool) → check_fault (built kpart).top rows has ≡ [] → has ≡ true
is_used rows true e = refl
is_used rows false e = refuses _ _ _ e

abbrev help_shape : Shape
help_shape = slice_index_or (built kpart).subs 5 kpart.top

abbrev pipe_shape : Shape
pipe_shape = slice_index_or (built kpart).subs 3 kpart.top

swapped : (xs ys : Text) → bytes_eq xs ys ≡ bytes_eq ys xs
swapped xs ys = same_from_decides _ _ (bytes_eq-Decides xs ys) (Decides-like _ sym sym (bytes_eq-Decides ys xs))

-- the subcommand of which the tests say that it is `run`, `inspect`, `race`, `pipe`, `draw` or `help`
abbrev chosen : (run inspect race pipe draw help : Bool) → Option Shape
chosen b d r p w h =
    cond (b || false) (Some run_shape)
    (cond (d || false) (Some inspect_shape)
    (cond (r || false) (Some race_shape) (cond (p || false) (Some pipe_shape) (cond (w || false) (Some draw_shape) (cond (h || false) (Some help_shape) None)))))

answered : (stop : Option (Text × List Text)) → StopsAside stop → is_some (entered (built kpart) stop) ≡ true
    → entered_fault (built kpart) stop ≡ [] → NamesCall (entered (built kpart) stop)
answered None aside has e = absurd (true≢false (sym has))
answered (Some p) aside has e =
    go (bytes_eq (codes "run") p.0) (bytes_eq (codes "inspect") p.0) (bytes_eq (codes "race") p.0) (bytes_eq (codes "pipe") p.0) (bytes_eq (codes "draw") p.0)
    (bytes_eq (codes "help") p.0) (swapped (codes "help") p.0 ∙ aside) has e
  where
    go : (b d r q w h : Bool) → h ≡ false → is_some (option_map (λ s. rows_at s p.1) (chosen b d r q w h)) ≡ true
        → option_map_or (λ s. level_fault s [] nothing_held p.1 false []) (chosen b d r q w h) [] ≡ []
        → NamesCall (option_map (λ s. rows_at s p.1) (chosen b d r q w h))
    go true d r q w h n some f = inl (refl, run_has_file p.1 f)
    go false true r q w h n some f = inr (inl (refl, inspect_has_file p.1 f, inspect_has_segment p.1 f, inspect_has_interval p.1 f))
    go false false true q w h n some f = inr (inr (inl (refl, race_is_there p.1 f)))
    go false false false true w h n some f = inr (inr (inr (inl refl)))
    go false false false false true h n some f = inr (inr (inr (inr (refl, draw_has_file p.1 f, draw_has_from p.1 f, draw_has_to p.1 f))))
    go false false false false false true n some f = absurd (true≢false n)
    go false false false false false false n some f = absurd (true≢false (sym some))

pub taken : (words : List Text) → fault_of kpart words ≡ [] → NamesCall (subcommand_of kpart words)
taken words e =
    let top : Shape = (built kpart).top in
    let names : Names = names_of (built kpart) in
    let end : Walk = walk top.rules names nothing_held (argument_words kpart words) in
    let rest = next_empty (walk_fault top names (walk_from nothing_held) (argument_words kpart words)) _ e in
    let after = next_empty (entered_fault (built kpart) end.stopped) _ rest in
    let last = next_empty (defaults_fault (settled top.rules end.held).rows top.rules) _
    (next_empty (settle_fault top.rules top.args_override_self end.held) _ after) in
    answered end.stopped
    (walk_aside top refl names (argument_words kpart words) (walk_from nothing_held) (first_empty _ _ e) tt)
    (is_used (finished top.rules end.held) (is_some (entered (built kpart) end.stopped)) last)
    (first_empty _ _ rest)
