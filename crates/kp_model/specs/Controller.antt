-- The controller's record: what an election makes of it and what a changed set does, and when two records are the same (Kafka
-- replication design; own: the greatest epoch and version).
use Rattle.std.specs.Prelude.{ℕ, ◌+◌, ◌-◌, ◌^◌, nat_lt, nat_le, ◌==◌, ◌&&◌, ◌||◌, not, Bool, false, List, ◌∷◌, ◌++◌, Option, Some, None, bytes_eq}
use Rattle.std.specs.List.{filter, list_any}
use Rattle.std.specs.Option.{option_map_or, option_eq}
use Rattle.kp_model.specs.World.{Leader, LeaderAndIsr}

abbrev pub next_epoch : Option Leader → ℕ
next_epoch None = 0
next_epoch (Some l) = l.epoch + 1

abbrev pub is_member : ℕ → List ℕ → Bool
is_member n isr = list_any (λ m. m == n) isr

-- n is elected: the next epoch, the same in-sync set
abbrev pub elected : LeaderAndIsr → ℕ → LeaderAndIsr
elected r n = record { leader = Some (record { node = n; epoch = next_epoch r.leader }); isr = r.isr; version = r.version + 1 }

abbrev pub altered : LeaderAndIsr → List ℕ → LeaderAndIsr
altered r isr = record { leader = r.leader; isr = isr; version = r.version + 1 }

-- the set with a member more, in rising order, or with one less
abbrev pub with_member : ℕ → List ℕ → List ℕ
with_member m isr = filter (λ x. nat_lt x m) isr ++ m ∷ filter (λ x. nat_lt m x) isr

abbrev pub without_member : ℕ → List ℕ → List ℕ
without_member m isr = filter (λ x. not (x == m)) isr

abbrev pub greatest_version : ℕ
greatest_version = 2 ^ 28 - 1

abbrev pub greatest_epoch : ℕ
greatest_epoch = 2 ^ 24 - 2

abbrev pub cannot_elect : LeaderAndIsr → Bool
cannot_elect r = nat_lt greatest_epoch (next_epoch r.leader) || nat_le greatest_version r.version

abbrev pub same_record : LeaderAndIsr → LeaderAndIsr → Bool
same_record r s =
    option_eq (λ l m. (l.node == m.node) && (l.epoch == m.epoch)) r.leader s.leader
    && bytes_eq r.isr s.isr && (r.version == s.version)

abbrev pub has_epoch : LeaderAndIsr → Option ℕ → Bool
has_epoch r epoch = option_map_or (λ l. option_eq ◌==◌ (Some l.epoch) epoch) r.leader false
