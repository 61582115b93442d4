-- Laws of a record's lines from their front: bytes begin with one value's part at most.
use Rattle.std.proofs.Common.{◌≡◌, ◌≢◌, ℕ, ◌<◌, ◌≤◌, ◌^◌, List, [], ◌∷◌, ◌++◌, Option, Some, None, codes, drop, map, refl, sym, ap, ◌∙◌, arith, append_assoc}
use Rattle.std.specs.Prelude.{IfSome}
use Rattle.std.specs.Fmt.{decimal}
use Rattle.std.specs.Option.{option_map}
use Rattle.kp_model.specs.Controller.{greatest_epoch, greatest_version}
use Rattle.kp_model.specs.Step.{IsInRange, Rise}
use Rattle.kp_model.specs.World.{Leader, LeaderAndIsr, most_nodes}
use Rattle.kp_words.proofs.Numbers.{same_between}
use Rattle.kp_words.proofs.Splitting.{one_parting}
use Rattle.kp_texts.specs.Texts.{RecordText, line, listed, messages_line, or_none, record_lines}
use Rattle.kp_texts.specs.Reading.{IsLeader, controller_front, isr_front, leader_front, nodes_front}
use Rattle.kp_texts.proofs.Fronts.{feed, no_number, space}
use Rattle.kp_texts.proofs.RisingNodes.{members_lack}

pub same_nodes : (lines x y : List ℕ) (m n : ℕ) → m ≤ most_nodes → n ≤ most_nodes → lines ≡ nodes_front m x → lines ≡ nodes_front n y → (m ≡ n) × (x ≡ y)
same_nodes lines x y m n p q e f =
    same_between (codes "kpart record 1\nnodes ") lines 10 m n x y feed (omega (arith, p)) (omega (arith, q)) e f

-- ---- who leads

-- what is no leader's text
pub not_leader : (nodes : ℕ) (bytes : List ℕ) → ((rest : List ℕ) → bytes ≢ codes "leader none epoch none isr " ++ rest) → ((l : Leader) (rest : List ℕ) → IsLeader nodes (Some l) → bytes ≢ leader_front (Some l) rest) →
    (leader : Option Leader) (rest : List ℕ) → IsLeader nodes leader → bytes ≢ leader_front leader rest
not_leader nodes bytes none some None rest range e = none rest e
not_leader nodes bytes none some (Some l) rest range e = some l rest range e

pub leader_range : (nodes : ℕ) (leader : Option Leader) → ((l : Leader) → leader ≡ Some l → (l.node < nodes) × (l.epoch ≤ greatest_epoch)) → IsLeader nodes leader
leader_range nodes None range = tt
leader_range nodes (Some l) range = range l refl

pub after_leader : (nodes : ℕ) (a b : Option Leader) (bytes x y : List ℕ) → nodes ≤ most_nodes → IsLeader nodes a → IsLeader nodes b → bytes ≡ leader_front a x → bytes ≡ leader_front b y → (a ≡ b) × (x ≡ y)
after_leader nodes None None bytes x y few p q e f = (refl, ap (drop 27) (sym e ∙ f))
after_leader nodes None (Some l) bytes x y few p q e f =
    absurd (no_number l.node (32 ∷ (codes "epoch " ++ (decimal l.epoch ++ 32 ∷ (codes "isr " ++ y)))) (codes "one epoch none isr " ++ x) (omega (arith, few, q.0)) (ap (drop 7) (sym e ∙ f)))
after_leader nodes (Some l) None bytes x y few p q e f =
    absurd (no_number l.node (32 ∷ (codes "epoch " ++ (decimal l.epoch ++ 32 ∷ (codes "isr " ++ x)))) (codes "one epoch none isr " ++ y) (omega (arith, few, p.0)) (ap (drop 7) (sym f ∙ e)))
after_leader nodes (Some l) (Some m) bytes x y few p q e f =
    let tail : ℕ → List ℕ → List ℕ = λ epoch rest. codes "epoch " ++ (decimal epoch ++ 32 ∷ (codes "isr " ++ rest)) in
    let node = same_between (codes "leader ") bytes 32 l.node m.node (tail l.epoch x) (tail m.epoch y) space (omega (arith, few, p.0)) (omega (arith, few, q.0)) e f in
    let epoch = same_between (codes "epoch ") (tail l.epoch x) 32 l.epoch m.epoch (codes "isr " ++ x) (codes "isr " ++ y) space (omega (arith, p.1)) (omega (arith, q.1)) refl node.1 in
    (λ i. Some (record { node = node.0 i; epoch = epoch.0 i }), ap (drop 4) epoch.1)

-- ---- the in-sync replicas and the version

pub after_isr : (nodes : ℕ) (a b : List ℕ) (v w : ℕ) (bytes x y : List ℕ) → nodes ≤ most_nodes → Rise 0 nodes a → Rise 0 nodes b → v ≤ greatest_version → w ≤ greatest_version →
    bytes ≡ isr_front a v x → bytes ≡ isr_front b w y → (listed (map decimal a) ≡ listed (map decimal b)) × (v ≡ w) × (x ≡ y)
after_isr nodes a b v w bytes x y few p q m n e f =
    let tail : ℕ → List ℕ → List ℕ = λ version rest. codes "version " ++ (decimal version ++ 10 ∷ rest) in
    let parts = one_parting 32 (listed (map decimal a)) (listed (map decimal b)) (tail v x) (tail w y) (members_lack nodes a (omega (arith, few)) p) (members_lack nodes b (omega (arith, few)) q) (sym e ∙ f) in
    let version = same_between (codes "version ") (tail v x) 10 v w x y feed (omega (arith, m)) (omega (arith, n)) refl parts.1 in
    (parts.0, version.0, version.1)

-- what follows the controller's record
pub after_controller : (nodes : ℕ) (a b : LeaderAndIsr) (bytes x y : List ℕ) → nodes ≤ most_nodes → IsInRange nodes a → IsInRange nodes b → bytes ≡ controller_front a x → bytes ≡ controller_front b y → x ≡ y
after_controller nodes a b bytes x y few p q e f =
    let rest = after_leader nodes a.leader b.leader bytes (isr_front a.isr a.version x) (isr_front b.isr b.version y) few (leader_range nodes a.leader p.leader) (leader_range nodes b.leader q.leader) e f in
    (after_isr nodes a.isr b.isr a.version b.version (isr_front a.isr a.version x) x y few p.isr q.isr p.version q.version refl rest.1).2

-- ---- the whole

-- what is no line of messages, and not nothing
pub not_messages : (rest : List ℕ) → rest ≢ [] → ((n : ℕ) → n < 2 ^ 31 → rest ≢ codes "messages " ++ (decimal n ++ 10 ∷ [])) → (messages : Option ℕ) → IfSome messages (λ n. n < 2 ^ 31) → rest ≢ messages_line messages
not_messages rest some other None range e = some e
not_messages rest some other (Some n) range e = other n range e

none_is : (isr version rest : List ℕ) → ((isr ++ 32 ∷ (codes "version " ++ version)) ++ 10 ∷ []) ++ rest ≡ isr ++ 32 ∷ (codes "version " ++ (version ++ 10 ∷ rest))
none_is isr version rest = simp append_assoc

some_is : (node epoch isr version rest : List ℕ) → ((node ++ 32 ∷ (codes "epoch " ++ (epoch ++ 32 ∷ (codes "isr " ++ (isr ++ 32 ∷ (codes "version " ++ version)))))) ++ 10 ∷ []) ++ rest
    ≡ node ++ 32 ∷ (codes "epoch " ++ (epoch ++ 32 ∷ (codes "isr " ++ (isr ++ 32 ∷ (codes "version " ++ (version ++ 10 ∷ rest))))))
some_is node epoch isr version rest = simp append_assoc

-- the line of the controller's record, and the bytes behind it
abbrev controller_line : Option Leader → List ℕ → ℕ → List ℕ
controller_line leader isr version =
    line (codes "leader" ∷ or_none (option_map (λ l. l.node) leader) ∷ codes "epoch" ∷ or_none (option_map (λ l. l.epoch) leader) ∷ codes "isr" ∷ listed (map decimal isr) ∷ codes "version" ∷ decimal version ∷ [])

controller_is : (leader : Option Leader) (isr : List ℕ) (version : ℕ) (rest : List ℕ) → controller_line leader isr version ++ rest ≡ leader_front leader (isr_front isr version rest)
controller_is None isr version rest = ap (λ (l : List ℕ). codes "leader none epoch none isr " ++ l) (none_is (listed (map decimal isr)) (decimal version) rest)
controller_is (Some l) isr version rest = ap (λ (l : List ℕ). codes "leader " ++ l) (some_is (decimal l.node) (decimal l.epoch) (listed (map decimal isr)) (decimal version) rest)

nodes_is : (nodes : ℕ) (rest : List ℕ) → line (codes "kpart record 1" ∷ []) ++ line (codes "nodes" ∷ decimal nodes ∷ []) ++ rest ≡ nodes_front nodes rest
nodes_is nodes rest = ap (λ (l : List ℕ). codes "kpart record 1\nnodes " ++ l) (append_assoc (decimal nodes) (10 ∷ []) rest)

pub record_is : (r : RecordText) → nodes_front r.nodes (controller_front r.controller (messages_line r.messages)) ≡ record_lines r
record_is r =
    let front = line (codes "kpart record 1" ∷ []) ++ line (codes "nodes" ∷ decimal r.nodes ∷ []) in
    let rest = messages_line r.messages in
    let controller = controller_line r.controller.leader r.controller.isr r.controller.version in
    sym (append_assoc front controller rest ∙ ap (λ (l : List ℕ). front ++ l) (controller_is r.controller.leader r.controller.isr r.controller.version rest)
    ∙ nodes_is r.nodes (controller_front r.controller rest))
