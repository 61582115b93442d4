-- The program's command line.
use Rattle.std.specs.Prelude.{◌≡◌, ◌⊎◌, ℕ, List, [], ◌∷◌, Option, Some, None, IsSomeAnd, codes, Bool, true, false, is_some, string_bytes}
use Rattle.std.specs.Option.{option_map}
use Rattle.std.specs.Str.Parse.{digits_value, without_leading_plus}
use Rattle.clap.specs.Words.{App, IsUnsignedIn, Row, Rule, Text, first_of, new_app, new_rule, one_of, with_rule, with_subcommand}
use Rattle.clap.specs.declared.builder.value_parser.ValueParser.TheVariants.{Unsigned}
use Rattle.kp_cli.specs.declared.call.Call.{Call}
use Rattle.kp_cli.specs.declared.call.Call.TheVariants.{Draw, Inspect, Pipe, Race, Run}

-- the path of a file, a required word
abbrev pub file_rule : Rule
file_rule = record (new_rule (codes "FILE")) { required = true }

-- `--keep FOLDER`
abbrev pub keep_rule : Rule
keep_rule = record (new_rule (codes "keep")) { long = Some (codes "keep"); value_names = 1 }

-- `--from FOLDER`
abbrev pub left_rule : Rule
left_rule = record (new_rule (codes "from")) { long = Some (codes "from"); value_names = 1 }

-- `run FILE [--from FOLDER] [--keep FOLDER]`
abbrev pub run_app : App
run_app = with_rule (with_rule (with_rule (new_app (codes "run")) file_rule) left_rule) keep_rule

-- `--NAME NUMBER`, a number from `least` to `greatest`, with the text that stands for it where it is left out
abbrev pub number_rule : (name : Text) → (least greatest : ℕ) → (default : Text) → Rule
number_rule name least greatest default = record (new_rule name) {
  long = Some name;
  value_names = 1;
  parser = Some (Unsigned least greatest);
  defaults = default ∷ [];
}

-- `--segment S`
abbrev pub segment_rule : Rule
segment_rule = number_rule (codes "segment") 1024 1073741824 (codes "1073741824")

-- `--interval I`
abbrev pub interval_rule : Rule
interval_rule = number_rule (codes "interval") 0 1048576 (codes "4096")

-- `inspect FILE [--segment S] [--interval I]`
abbrev pub inspect_app : App
inspect_app = with_rule (with_rule (with_rule (new_app (codes "inspect")) file_rule) segment_rule) interval_rule

-- `--from L`
abbrev pub from_rule : Rule
from_rule = number_rule (codes "from") 1 4294967295 (codes "1")

-- `--to L`
abbrev pub to_rule : Rule
to_rule = number_rule (codes "to") 1 4294967295 (codes "4294967295")

-- `draw FILE [--from L] [--to L]`
abbrev pub draw_app : App
draw_app = with_rule (with_rule (with_rule (new_app (codes "draw")) file_rule) from_rule) to_rule

-- `--NAME NUMBER`, a number from `least` to `greatest` that has to be given
abbrev pub race_rule : (name : Text) → (least greatest : ℕ) → Rule
race_rule name least greatest = record (new_rule name) {
  long = Some name;
  value_names = 1;
  parser = Some (Unsigned least greatest);
  required = true;
}

-- `race --nodes N --producers P`, and what it is told besides
abbrev pub racers_app : App
racers_app = with_rule (with_rule (new_app (codes "race")) (race_rule (codes "nodes") 1 7)) (race_rule (codes "producers") 1 8)

-- `race --nodes N --producers P --batches B --moves M`
abbrev pub race_app : App
race_app = with_rule (with_rule racers_app (race_rule (codes "batches") 0 10000)) (race_rule (codes "moves") 0 1000)

-- `pipe [--keep FOLDER]`
abbrev pub pipe_app : App
pipe_app = with_rule (new_app (codes "pipe")) keep_rule

-- `kpart`, of which a subcommand has to be used; it can be asked for its version
abbrev pub kpart_app : App
kpart_app =
    let app = new_app (codes "kpart") in
    record app { top = record app.top { subcommand_required = true; has_version = true } }

-- with the subcommands that read a file
abbrev pub kpart_reading : App
kpart_reading = with_subcommand
    (with_subcommand kpart_app run_app.top)
    inspect_app.top

-- and with a race
abbrev pub kpart_racing : App
kpart_racing = with_subcommand kpart_reading race_app.top

-- and with a pipe
abbrev pub kpart_piping : App
kpart_piping = with_subcommand kpart_racing pipe_app.top

-- the whole command line
abbrev pub kpart : App
kpart = with_subcommand kpart_piping draw_app.top

-- the text of this name is a decimal numeral from `least` to `greatest`
abbrev pub HasNumber : (name : Text) → (least greatest : ℕ) → List Row → Type 0
HasNumber name least greatest rows = IsSomeAnd (one_of name rows) (IsUnsignedIn least greatest)

-- the text of this name is a decimal numeral from `least` to `greatest`, and its number is this
abbrev pub HasTheNumber : (name : Text) → (least greatest : ℕ) → List Row → ℕ → Type 0
HasTheNumber name least greatest rows number = IsSomeAnd (one_of name rows) (λ text.
    IsUnsignedIn least greatest text × (digits_value 10 (without_leading_plus text) ≡ number))

-- the call is the race that these matches are
abbrev pub IsRaceOf : List Row → Call → Type 0
IsRaceOf rows (Race nodes plan) =
    HasTheNumber (codes "nodes") 1 7 rows nodes
    × HasTheNumber (codes "producers") 1 8 rows plan.producers
    × HasTheNumber (codes "batches") 0 10000 rows plan.batches
    × HasTheNumber (codes "moves") 0 1000 rows plan.moves
IsRaceOf rows _ = ⊥

-- the call is the one that the used subcommand and its matches are
abbrev pub IsCallOf : Option (Text × List Row) → Call → Type 0
IsCallOf None call = ⊥
IsCallOf (Some entered) (Run file from keep) =
    (entered.0 ≡ codes "run") × (first_of (codes "FILE") entered.1 ≡ Some (string_bytes file))
    × (first_of (codes "from") entered.1 ≡ option_map string_bytes from)
    × (first_of (codes "keep") entered.1 ≡ option_map string_bytes keep)
IsCallOf (Some entered) (Inspect file segment_bytes index_interval) =
    (entered.0 ≡ codes "inspect") × (first_of (codes "FILE") entered.1 ≡ Some (string_bytes file))
    × HasTheNumber (codes "segment") 1024 1073741824 entered.1 segment_bytes
    × HasTheNumber (codes "interval") 0 1048576 entered.1 index_interval
IsCallOf (Some entered) (Pipe keep) = (entered.0 ≡ codes "pipe") × (first_of (codes "keep") entered.1 ≡ option_map string_bytes keep)
IsCallOf (Some entered) (Draw file from to) =
    (entered.0 ≡ codes "draw") × (first_of (codes "FILE") entered.1 ≡ Some (string_bytes file))
    × HasTheNumber (codes "from") 1 4294967295 entered.1 from
    × HasTheNumber (codes "to") 1 4294967295 entered.1 to
IsCallOf (Some entered) (Race nodes plan) = (entered.0 ≡ codes "race") × IsRaceOf entered.1 (Race nodes plan)

-- the matches have a file
abbrev pub HasFile : List Row → Type 0
HasFile rows = is_some (first_of (codes "FILE") rows) ≡ true

-- the matches are a race
abbrev pub NamesRace : List Row → Type 0
NamesRace rows =
    HasNumber (codes "nodes") 1 7 rows
    × HasNumber (codes "producers") 1 8 rows
    × HasNumber (codes "batches") 0 10000 rows
    × HasNumber (codes "moves") 0 1000 rows

-- the used subcommand and its matches are a call
abbrev pub NamesCall : Option (Text × List Row) → Type 0
NamesCall None = ⊥
NamesCall (Some entered) = ((entered.0 ≡ codes "run") × HasFile entered.1)
    ⊎ (((entered.0 ≡ codes "inspect") × HasFile entered.1
    × HasNumber (codes "segment") 1024 1073741824 entered.1
    × HasNumber (codes "interval") 0 1048576 entered.1)
    ⊎ (((entered.0 ≡ codes "race") × NamesRace entered.1)
    ⊎ ((entered.0 ≡ codes "pipe")
    ⊎ ((entered.0 ≡ codes "draw") × HasFile entered.1
    × HasNumber (codes "from") 1 4294967295 entered.1
    × HasNumber (codes "to") 1 4294967295 entered.1))))
