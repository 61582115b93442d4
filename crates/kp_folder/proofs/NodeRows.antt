-- Nodes one behind another.
use Rattle.std.proofs.Common.{◌≡◌, ℕ, suc, ◌+◌, ◌<◌, ◌^◌, List, [], ◌∷◌, ◌++◌, length, Option, refl, sym, ap, ◌∙◌, subst, arith}
use Rattle.kp_types.specs.declared.limits.Limits.{Limits}
use Rattle.kp_model.specs.Left.{LeftNode, again}
use Rattle.kp_replica.specs.NumberedNode.{NumberedNode}
use Rattle.kp_folder.specs.Bad.{NoNode, NoNodes}
use Rattle.kp_folder.specs.Files.{Files}
use Rattle.kp_model.specs.Left.{LeftBehind}
use Rattle.kp_model.specs.World.{LeaderAndIsr}
use Rattle.kp_folder.specs.declared.fault.FolderFault.{FolderFault}
use Rattle.kp_folder.specs.Left.{HasLeft, HasNode, HasRecord, HaveLives, HaveNodes, nodes_again}

-- the nodes below so many are there
pub record SomeNodes (files : Files) (limits : Limits) (count : ℕ) (nodes : List NumberedNode) : Type 0 where
  pub left : List LeftNode
  pub many : length left ≡ count
  pub have : HaveNodes files limits.max_batch 0 left
  pub lives : HaveLives left
  pub are : nodes ≡ nodes_again limits 0 left

have_push : (files : Files) (max k : ℕ) (xs : List LeftNode) (x : LeftNode) → HaveNodes files max k xs → HasNode files max (k + length xs) x → HaveNodes files max k (xs ++ x ∷ [])
have_push files max k [] x have one = (subst (λ (n : ℕ). HasNode files max n x) (omega arith) one, tt)
have_push files max k (y ∷ ys) x have one =
    (have.0, have_push files max (k + 1) ys x have.1 (subst (λ (n : ℕ). HasNode files max n x) (omega arith) one))

lives_push : (xs : List LeftNode) (x : LeftNode) → HaveLives xs → x.life + 1 < 2 ^ 64 → HaveLives (xs ++ x ∷ [])
lives_push [] x lives one = (one, tt)
lives_push (y ∷ ys) x lives one = (lives.0, lives_push ys x lives.1 one)

again_push : (limits : Limits) (k : ℕ) (xs : List LeftNode) (x : LeftNode) (m : NumberedNode) → m ≡ record { number = k + length xs; limits = limits; state = again x }
    → nodes_again limits k xs ++ m ∷ [] ≡ nodes_again limits k (xs ++ x ∷ [])
again_push limits k [] x m is =
    let here : k + 0 ≡ k = omega arith in
    ap (λ (y : NumberedNode). y ∷ []) (is ∙ ap (λ (n : ℕ). record { number = n; limits = limits; state = again x }) here)
again_push limits k (y ∷ ys) x m is =
    let here : k + length (y ∷ ys) ≡ k + 1 + length ys = omega arith in
    ap (λ (l : List NumberedNode). record { number = k; limits = limits; state = again y } ∷ l)
    (again_push limits (k + 1) ys x m (is ∙ ap (λ (n : ℕ). record { number = n; limits = limits; state = again x }) here))

pub no_nodes : (files : Files) (limits : Limits) (nodes : List NumberedNode) → nodes ≡ [] → SomeNodes files limits 0 nodes
no_nodes files limits nodes none = record { left = []; many = refl; have = tt; lives = tt; are = none }

pub one_node_more : (files : Files) (limits : Limits) (count : ℕ) (nodes new : List NumberedNode) (m : NumberedNode) (x : LeftNode) → SomeNodes files limits count nodes
    → HasNode files limits.max_batch count x → x.life + 1 < 2 ^ 64 → m ≡ record { number = count; limits = limits; state = again x } → new ≡ nodes ++ m ∷ []
    → SomeNodes files limits (count + 1) new
one_node_more files limits count nodes new m x some has low is new_is =
    let many = some.many in
    let here : count ≡ 0 + length some.left = omega (arith, many) in
    record {
      left = some.left ++ x ∷ [];
      many = length_push some.left x ∙ ap (λ (n : ℕ). n + 1) some.many;
      have = have_push files limits.max_batch 0 some.left x some.have (subst (λ (n : ℕ). HasNode files limits.max_batch n x) here has);
      lives = lives_push some.left x some.lives low;
      are = new_is ∙ ap (λ (l : List NumberedNode). l ++ m ∷ []) some.are
          ∙ again_push limits 0 some.left x m (is ∙ ap (λ (n : ℕ). record { number = n; limits = limits; state = again x }) here);
    }
  where
    length_push : (xs : List LeftNode) (y : LeftNode) → length (xs ++ y ∷ []) ≡ length xs + 1
    length_push [] y = refl
    length_push (z ∷ zs) y = ap suc (length_push zs y) ∙ omega arith

-- nodes that begin again are as many as they were
pub length_again : (limits : Limits) (k : ℕ) (xs : List LeftNode) → length (nodes_again limits k xs) ≡ length xs
length_again limits k [] = refl
length_again limits k (x ∷ xs) = ap suc (length_again limits (k + 1) xs)

-- the record and the nodes are all that is left
pub all_left : (files : Files) (limits : Limits) (count : ℕ) (sent : Option ℕ) (c : LeaderAndIsr) (nodes : List NumberedNode) → HasRecord files count c sent → length nodes ≡ count
    → (xs : List LeftNode) × HaveNodes files limits.max_batch 0 xs × HaveLives xs × (nodes ≡ nodes_again limits 0 xs)
    → (x : LeftBehind) × HasLeft files limits.max_batch x sent × HaveLives x.nodes × (x.controller ≡ c) × (nodes ≡ nodes_again limits 0 x.nodes)
all_left files limits count sent c nodes said many has =
    let same : count ≡ length has.0 = sym many ∙ ap length has.3 ∙ length_again limits 0 has.0 in (
      record { controller = c; nodes = has.0 },
      record { record_is = subst (λ (n : ℕ). HasRecord files n c sent) same said; nodes = has.1 },
      has.2,
      refl,
      has.3,
    )

-- the nodes before one that is at fault are there
pub nodes_before : (files : Files) (limits : Limits) (count node : ℕ) (nodes : List NumberedNode) (fault : FolderFault) → SomeNodes files limits node nodes → node < count
    → NoNode files limits.max_batch node fault → NoNodes files limits.max_batch count fault
nodes_before files limits count node nodes fault some low bad = (
  some.left,
  some.have,
  subst (λ (n : ℕ). n < count) (sym some.many) low,
  subst (λ (n : ℕ). NoNode files limits.max_batch n fault) (sym some.many) bad,
)
