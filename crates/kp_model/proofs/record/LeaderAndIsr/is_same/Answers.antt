use Rattle.std.proofs.Common.{◌≡◌, Bool, Option, Some, None, refl, sym, ◌∙◌, arith, eqb}
use Rattle.std.specs.Prelude.{◌&&◌, bytes_eq}
use Rattle.std.specs.Option.{option_eq, option_map}
use Rattle.std.proofs.Math.Bool.{and_assoc}
use Rattle.kp_model.specs.declared.record.Leader.{Leader}
use Rattle.kp_model.specs.Set.{leader_of, numbers_of}
use Rattle.kp_model.specs.World.{Leader as ModelLeader}
use Rattle.kp_model.proofs.Plain.Compared.{compared}
use Rattle.kp_model.proofs.record.LeaderAndIsr.is_same.Goals as goal

-- leaders are compared as the definitions compare theirs
leaders : (E : Leader → Leader → Bool) (D : ModelLeader → ModelLeader → Bool) → ((l m : Leader) → E l m ≡ D (leader_of l) (leader_of m))
    → (o p : Option Leader) → option_eq E o p ≡ option_eq D (option_map leader_of o) (option_map leader_of p)
leaders E D same None None = refl
leaders E D same None (Some m) = refl
leaders E D same (Some l) None = refl
leaders E D same (Some l) (Some m) = same l m

pub returns : goal.returns
returns c =
    let one = c.args.self.now in
    let other = c.args.other.now in
    let D : ModelLeader → ModelLeader → Bool = λ l m. eqb l.node m.node && eqb l.epoch m.epoch in
    c.eq.ensures
    ∙ (λ i. leaders _ D (λ l m. refl) one.leader other.leader i && (compared 0 one.isr.members other.isr.members (omega arith) i && eqb one.version other.version))
    ∙ sym (and_assoc (option_eq D (option_map leader_of one.leader) (option_map leader_of other.leader)) (bytes_eq (numbers_of 0 one.isr.members) (numbers_of 0 other.isr.members)) (eqb one.version other.version))
