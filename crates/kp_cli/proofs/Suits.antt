-- Rows whose values pass the test of a rule, and that such a row is there where the rule has a default.
use Rattle.std.proofs.Common.{◌≡◌, ◌∙◌, ◌++◌, ◌||◌, Bool, cond, true, false, ap, refl, sym, subst, List, [], ◌∷◌, Some, IsSomeAnd}
use Rattle.std.specs.List.{find, list_any}
use Rattle.std.specs.Prelude.{option_map, slice_get}
use Rattle.std.specs.Str.{bytes_eq}
use Rattle.std.proofs.lemmas.Bool.{false≢true, or_left, or_right}
use Rattle.std.proofs.lemmas.Slice.Eq.{bytes_eq-Decides}
use Rattle.clap.specs.Facts.{parser_of_value}
use Rattle.clap.specs.Faults.{values_fault}
use Rattle.clap.specs.Kinds.{value_kinds}
use Rattle.clap.specs.Takes.{value_passes}
use Rattle.clap.specs.Values.{read_as, refused_kind}
use Rattle.clap.specs.Walk.{Row, Rule, Text, at_row, default_rows, has_row, more_values, one_of, reading_by, with_default, with_values, without}
use Rattle.clap.specs.declared.builder.value_parser.Reading.{Reading}
use Rattle.clap.specs.declared.builder.value_parser.Reading.TheVariants.{AsWritten}
use Rattle.clap.specs.declared.parser.matches.ValueSource.{ValueSource}
use Rattle.clap.specs.declared.parser.matches.ValueSource.TheVariants.{CommandLine}
use Rattle.kp_cli.proofs.Filled.{Filled, at_row_filled, first_empty, found_filled, next_empty, refuses, without_filled}

-- ---- rows whose values suit a rule

abbrev pub HasOne : List Text → Type 0
HasOne [] = ⊥
HasOne (v ∷ vs) = Unit {0}

one_more : (xs ys : List Text) → HasOne xs → HasOne (xs ++ ys)
one_more [] ys one = absurd one
one_more (x ∷ xs) ys one = tt

-- each value passes the rule's test
abbrev pub EachPasses : Rule → List Text → Type 0
EachPasses a [] = Unit {0}
EachPasses a (v ∷ vs) = (value_passes a v ≡ true) × EachPasses a vs

-- the row has a value, and where it is the rule's row it is read as the rule says and its values pass
abbrev pub Suits : Rule → Row → Type 0
Suits a r = HasOne r.values × (bytes_eq r.id a.id ≡ true → (r.reading ≡ reading_by a) × EachPasses a r.values)

more_pass : (a : Rule) (xs ys : List Text) → EachPasses a xs → EachPasses a ys → EachPasses a (xs ++ ys)
more_pass a [] ys before after = after
more_pass a (x ∷ xs) ys before after = (before.0, more_pass a xs ys before.1 after)

value_passed : (a : Rule) (v : Text) → value_kinds a.ignore_case (parser_of_value a.parser) v ≡ [] → value_passes a v ≡ true
value_passed a v e = go (value_passes a v) e
  where
    go : (b : Bool) → cond b [] (refused_kind (parser_of_value a.parser) ∷ []) ≡ [] → b ≡ true
    go true h = refl
    go false h = refuses _ _ _ h

pub values_passed : (a : Rule) (vs : List Text) → values_fault a vs ≡ [] → EachPasses a vs
values_passed a [] e = tt
values_passed a (v ∷ vs) e = (
  value_passed a v (first_empty _ _ e),
  values_passed a vs (next_empty (value_kinds a.ignore_case (parser_of_value a.parser) v) _ e),
)

-- the values of a rule b, which is the rule a where it has the id of a
module _ (a b : Rule) (one : bytes_eq b.id a.id ≡ true → b ≡ a) where
  same_id : (r : Row) → bytes_eq r.id b.id ≡ true → bytes_eq r.id a.id ≡ true → b ≡ a
  same_id r is_b is_a = one ((bytes_eq-Decides b.id a.id).1
      (sym ((bytes_eq-Decides r.id b.id).0 is_b) ∙ (bytes_eq-Decides r.id a.id).0 is_a))

  pub given_suits : (s : ValueSource) (v : Text) (vs : List Text) (rows : List Row) → EachPasses b (v ∷ vs) → Filled (Suits a) rows
      → Filled (Suits a) (with_values b.id (reading_by b) s (v ∷ vs) rows)
  given_suits s v vs rows pass filled =
      at_row_filled (Suits a) b.id (more_values s (v ∷ vs)) _
      ((tt, λ is. (ap reading_by (one is), subst (λ (x : Rule). EachPasses x (v ∷ vs)) (one is) pass)), tt)
      (λ r rs is suits rest. (
        (
          one_more r.values (v ∷ vs) suits.0,
          λ is_a. (
            (suits.1 is_a).0,
            more_pass a r.values (v ∷ vs) (suits.1 is_a).1
                (subst (λ (x : Rule). EachPasses x (v ∷ vs)) (same_id r is is_a) pass),
          ),
        ),
        rest,
      )) rows filled

  pub used_suits : (v : Text) (vs : List Text) (rows : List Row) → values_fault b (v ∷ vs) ≡ [] → Filled (Suits a) rows
      → Filled (Suits a) (with_values b.id (reading_by b) CommandLine (v ∷ vs) (without b.id rows))
  used_suits v vs rows e filled =
      given_suits CommandLine v vs (without b.id rows) (values_passed b (v ∷ vs) e) (without_filled (Suits a) b.id rows filled)

-- ---- the row of a rule with a default

module _ (id : Text) where
  row_kept : (other : Text) (s : ValueSource) (values : List Text) (missing : List Row) (rows : List Row) → has_row id rows ≡ true
      → has_row id (at_row other (more_values s values) missing rows) ≡ true
  row_kept other s values missing [] e = absurd (false≢true e)
  row_kept other s values missing (r ∷ rs) e = go (bytes_eq r.id other) (row_kept other s values missing rs)
    where
      later : (b : Bool) → (b || has_row id rs) ≡ true → (has_row id rs ≡ true → has_row id (at_row other (more_values s values) missing rs) ≡ true)
          → (b || has_row id (at_row other (more_values s values) missing rs)) ≡ true
      later true h rest = refl
      later false h rest = rest h

      go : (b : Bool) → (has_row id rs ≡ true → has_row id (at_row other (more_values s values) missing rs) ≡ true)
          → has_row id (cond b (more_values s values r ++ rs) (r ∷ at_row other (more_values s values) missing rs)) ≡ true
      go true rest = e
      go false rest = later (bytes_eq r.id id) e rest

  row_added : (s : ValueSource) (values : List Text) (missing : List Row) (rows : List Row) → has_row id missing ≡ true
      → has_row id (at_row id (more_values s values) missing rows) ≡ true
  row_added s values missing [] e = e
  row_added s values missing (r ∷ rs) e = go (bytes_eq r.id id) refl (row_added s values missing rs e)
    where
      go : (b : Bool) → bytes_eq r.id id ≡ b → has_row id (at_row id (more_values s values) missing rs) ≡ true
          → has_row id (cond b (more_values s values r ++ rs) (r ∷ at_row id (more_values s values) missing rs)) ≡ true
      go true is rest = or_left (bytes_eq r.id id) _ is
      go false is rest = or_right (bytes_eq r.id id) _ rest

-- a row stays at the defaults
pub row_stays : (id : Text) (a : Rule) (rows : List Row) → has_row id rows ≡ true → has_row id (with_default rows a) ≡ true
row_stays id a rows e = go (has_row a.id rows) a.defaults
  where
    go : (b : Bool) (values : List Text) → has_row id (cond b rows (default_rows a.id (reading_by a) values rows)) ≡ true
    go true values = e
    go false [] = e
    go false (v ∷ vs) = row_kept id a.id _ (v ∷ vs) _ rows e

-- and a rule with a default has one after its default
pub row_by_default : (a : Rule) (v : Text) (vs : List Text) (rows : List Row) → a.defaults ≡ v ∷ vs → has_row a.id (with_default rows a) ≡ true
row_by_default a v vs rows has = go (has_row a.id rows) refl a.defaults has
  where
    go : (b : Bool) → has_row a.id rows ≡ b → (values : List Text) → values ≡ v ∷ vs
        → has_row a.id (cond b rows (default_rows a.id (reading_by a) values rows)) ≡ true
    go true is values same = is
    go false is [] same = absurd cc
    go false is (x ∷ xs) same =
        row_added a.id _ (x ∷ xs) _ rows (or_left (bytes_eq a.id a.id) false ((bytes_eq-Decides a.id a.id).1 refl))

-- ---- what is read of such a row

found_at : (p : Row → Bool) (rows : List Row) → list_any p rows ≡ true → (r : Row) × (find p rows ≡ Some r)
found_at p [] e = absurd (false≢true e)
found_at p (x ∷ xs) e = go (p x) e (found_at p xs)
  where
    go : (b : Bool) → (b || list_any p xs) ≡ true → (list_any p xs ≡ true → (r : Row) × (find p xs ≡ Some r))
        → (r : Row) × (cond b (Some x) (find p xs) ≡ Some r)
    go true h later = (x, refl)
    go false h later = later h

-- where a rule's values are read as they are written, its row has a text that passes
pub text_there : (a : Rule) → reading_by a ≡ AsWritten → (rows : List Row) → Filled (Suits a) rows → has_row a.id rows ≡ true
    → IsSomeAnd (one_of a.id rows) (λ text. value_passes a text ≡ true)
text_there a as_written rows filled has =
    let found = found_at (λ r. bytes_eq r.id a.id) rows has in
    let suits = found_filled (Suits a) (λ r. bytes_eq r.id a.id) rows found.0 filled found.1 in
    let reads = suits.0.1 suits.1 in
    rw found.1 (go found.0.values found.0.reading suits.0.0 (reads.0 ∙ as_written) reads.1)
  where
    go : (values : List Text) (how : Reading) → HasOne values → how ≡ AsWritten → EachPasses a values
        → IsSomeAnd (option_map (read_as how) (slice_get values 0)) (λ text. value_passes a text ≡ true)
    go [] how one is pass = absurd one
    go (v ∷ vs) how one is pass = subst (λ (x : Reading). value_passes a (read_as x v) ≡ true) (sym is) pass.0
