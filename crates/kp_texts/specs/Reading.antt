-- The texts from their front: a part of one, and the bytes behind it.
use Rattle.std.specs.Prelude.{ℕ, ◌<◌, ◌≤◌, ◌^◌, List, ◌∷◌, ◌++◌, map, Option, Some, None, IfSome, codes}
use Rattle.std.specs.Fmt.{decimal}
use Rattle.kp_model.specs.Controller.{greatest_epoch}
use Rattle.kp_model.specs.World.{Leader, LeaderAndIsr}
use Rattle.kp_texts.specs.Texts.{listed, or_none}
use Rattle.kp_texts.specs.declared.states.Numbers.{Numbers}

-- an epoch that may be absent, at a line's end
abbrev pub kept_front : Option ℕ → List ℕ → List ℕ
kept_front kept rest = codes "epoch " ++ (or_none kept ++ 10 ∷ rest)

-- a state's lines up to where its epochs are told
abbrev pub state_front : Numbers → List ℕ → List ℕ
state_front numbers rest =
    codes "kpart node 1\ncheckpoint " ++ (decimal numbers.checkpoint ++ 32 ∷ (codes "life " ++ (decimal numbers.life ++ 32 ∷
    kept_front numbers.kept (codes "end " ++ (decimal numbers.end ++ 10 ∷ (codes "epochs " ++ rest))))))

-- numbers in range
pub record AreNumbers (numbers : Numbers) : Type 0 where
  pub checkpoint : numbers.checkpoint ≤ 2 ^ 62
  pub life : numbers.life < 2 ^ 64
  pub kept : IfSome numbers.kept (λ epoch. epoch ≤ greatest_epoch)
  pub end : numbers.end ≤ 2 ^ 62

-- how many nodes there are
abbrev pub nodes_front : ℕ → List ℕ → List ℕ
nodes_front nodes rest = codes "kpart record 1\nnodes " ++ (decimal nodes ++ 10 ∷ rest)

-- who leads, in which leader epoch, and the key of the in-sync replicas
abbrev pub leader_front : Option Leader → List ℕ → List ℕ
leader_front None rest = codes "leader none epoch none isr " ++ rest
leader_front (Some l) rest = codes "leader " ++ (decimal l.node ++ 32 ∷ (codes "epoch " ++ (decimal l.epoch ++ 32 ∷ (codes "isr " ++ rest))))

-- a leader in range, where there are so many nodes
abbrev pub IsLeader : (nodes : ℕ) → Option Leader → Type 0
IsLeader nodes leader = IfSome leader (λ l. (l.node < nodes) × (l.epoch ≤ greatest_epoch))

-- the in-sync replicas, and the version
abbrev pub isr_front : List ℕ → ℕ → List ℕ → List ℕ
isr_front isr version rest = listed (map decimal isr) ++ 32 ∷ (codes "version " ++ (decimal version ++ 10 ∷ rest))

abbrev pub controller_front : LeaderAndIsr → List ℕ → List ℕ
controller_front r rest = leader_front r.leader (isr_front r.isr r.version rest)
