-- How a search in a list of aborted transactions finds the one that decides: it is the earlier of two, each found by itself.
use Rattle.std.specs.Prelude.{◌≡◌, ℕ, nat_lt, ◌<◌, ◌≤◌, ◌==◌, ◌&&◌, Bool, true, false, List, length, slice_index_or}
use Rattle.std.specs.List.{All, AllWithin, HoldsAt, list_any}
use Rattle.std.specs.declared.cmp.Ordering.{Ordering}
use Rattle.std.specs.List.Sorted.{IsPartitionPoint}
use Rattle.std.specs.Ordering.{is_lt, nat_cmp, ordering_then}
use Rattle.kp_model.specs.Transactions.{Aborted}
use Rattle.kp_visible.specs.Filter.{ends_above}

-- it is the producer's, and ends above the offset
abbrev pub is_own : ℕ → ℕ → Aborted → Bool
is_own producer offset a = (a.producer == producer) && ends_above offset a

-- it ends above the offset, and at its marker nothing that began at or below the offset was open any more
abbrev pub stops : ℕ → Aborted → Bool
stops offset a = ends_above offset a && nat_lt offset a.stable

-- the place of the first from a place on that passes the test; behind the last, where none does
abbrev pub IsFirstFrom : {X : Type 0} → (X → Bool) → List X → ℕ → ℕ → Type 0
IsFirstFrom test xs from first = (from ≤ first) × AllWithin (λ x. test x ≡ false) xs from first × (first < length xs → HoldsAt (λ x. test x ≡ true) xs first)

-- by producer, and of one producer by place
abbrev pub key_cmp : ℕ × ℕ → ℕ × ℕ → Ordering
key_cmp one other = ordering_then (nat_cmp one.0 other.0) (nat_cmp one.1 other.1)

-- so many keys come before this one, and the others don't
abbrev pub ArePartedAt : ℕ × ℕ → List (ℕ × ℕ) → ℕ → Type 0
ArePartedAt key keys count = (count ≤ length keys) × IsPartitionPoint (λ other. is_lt (key_cmp other key) ≡ true) (λ other. is_lt (key_cmp other key) ≡ false) keys count

-- each key is the producer and the place of a transaction of the list
abbrev pub AreKeysOf : List Aborted → List (ℕ × ℕ) → Type 0
AreKeysOf aborted keys = All (λ key. (key.1 < length aborted) × HoldsAt (λ a. a.producer ≡ key.0) aborted key.1) keys

-- each transaction of the list has its key
abbrev pub HaveKeys : List Aborted → List (ℕ × ℕ) → Type 0
HaveKeys aborted keys = (place : ℕ) (d : Aborted) → place < length aborted → list_any (λ key. (key.0 == (slice_index_or aborted place d).producer) && (key.1 == place)) keys ≡ true
