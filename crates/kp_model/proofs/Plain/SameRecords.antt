-- Two records that compare as the same are the same.
use Rattle.std.proofs.Common.{◌≡◌, true, eqb, Option, Some, None, refl, ap}
use Rattle.std.specs.Prelude.{◌&&◌}
use Rattle.std.specs.Option.{option_eq}
use Rattle.std.proofs.lemmas.Slice.Eq.{bytes_eq-Decides}
use Rattle.std.proofs.lemmas.Bool.{and_parts, and_from, eqb-true, eq-eqb, false≢true}
use Rattle.kp_model.specs.World.{Leader, LeaderAndIsr}
use Rattle.kp_model.specs.Controller.{same_record}

pub same_record_is : (c r : LeaderAndIsr) → same_record c r ≡ true → c ≡ r
same_record_is c r e =
    let both = and_parts _ _ e in
    let first = and_parts _ _ both.0 in
    let leader : c.leader ≡ r.leader = by_leader c.leader r.leader first.0 in
    let isr : c.isr ≡ r.isr = (bytes_eq-Decides c.isr r.isr).0 first.1 in
    let version : c.version ≡ r.version = eqb-true c.version r.version both.1 in
    λ i. record { leader = leader i; isr = isr i; version = version i }
  where
    leader_is : (x y : Leader) → x.node ≡ y.node → x.epoch ≡ y.epoch → x ≡ y
    leader_is x y p q = λ i. record { node = p i; epoch = q i }

    by_leader : (o q : Option Leader) → option_eq (λ x y. eqb x.node y.node && eqb x.epoch y.epoch) o q ≡ true → o ≡ q
    by_leader None None t = refl
    by_leader None (Some y) t = absurd (false≢true t)
    by_leader (Some x) None t = absurd (false≢true t)
    by_leader (Some x) (Some y) t = let parts = and_parts (eqb x.node y.node) (eqb x.epoch y.epoch) t in ap Some (leader_is x y (eqb-true x.node y.node parts.0) (eqb-true x.epoch y.epoch parts.1))

-- a record is itself
pub same_itself : (r : LeaderAndIsr) → same_record r r ≡ true
same_itself r = and_from _ _ (and_from _ _ (leader_itself r.leader) ((bytes_eq-Decides r.isr r.isr).1 refl)) (eq-eqb r.version r.version refl)
  where
    leader_itself : (o : Option Leader) → option_eq (λ l m. eqb l.node m.node && eqb l.epoch m.epoch) o o ≡ true
    leader_itself None = refl
    leader_itself (Some l) = and_from _ _ (eq-eqb l.node l.node refl) (eq-eqb l.epoch l.epoch refl)
