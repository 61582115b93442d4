-- A node, by its state and its batches.
use Rattle.std.proofs.Common.{◌≡◌, ◌⊎◌, ℕ, ◌+◌, ◌<◌, ◌^◌, List, [], map, Option, None, Result, Ok, Err, refl, inl, inr, ⊎_elim}
use Rattle.std.specs.Prelude.{IfErr, IfOk, IfSome, OnOk}
use Rattle.kp_types.specs.declared.limits.Limits.{Limits}
use Rattle.kp_batch.specs.Batch.{Written}
use Rattle.kp_model.specs.Epochs.{epoch_cache}
use Rattle.kp_model.specs.Left.{LeftNode, again}
use Rattle.kp_model.specs.Log.{logged}
use Rattle.kp_replica.specs.NumberedNode.{NumberedNode}
use Rattle.kp_replica.specs.ReadBack.{read_back_cause}
use Rattle.kp_texts.specs.Texts.{StateText}
use Rattle.kp_folder.specs.Bad.{Differs, IsStop, NoBatches, NoNode}
use Rattle.kp_folder.specs.Files.{Files}
use Rattle.kp_folder.specs.Left.{HasBatches, HasNode, HasState, left_in, starts_of}
use Rattle.kp_folder.specs.declared.fault.FolderFault.{FolderFault}
use Rattle.kp_folder.proofs.Known.{known_both}

-- the folder has the node that was made
pub node_there : (known : Option Files) (limits : Limits) (node : ℕ) (s : StateText) (ws : List Written) (r : Result NumberedNode FolderFault)
    → IfSome known (λ files. HasState files node s) → IfSome known (λ files. HasBatches files limits.max_batch node s.end ws) → s.life + 1 < 2 ^ 64
    → IfOk r (λ kept. kept ≡ record { number = node; limits = limits; state = again (left_in s ws) }) → OnOk r (read_back_cause [] ws s.checkpoint ≡ None)
    → OnOk r (starts_of s ≡ epoch_cache (map logged ws))
    → IfOk r (λ kept. IfSome known (λ files. (x : LeftNode) × HasNode files limits.max_batch node x × (x.life + 1 < 2 ^ 64) × (kept ≡ record { number = node; limits = limits; state = again x })))
node_there known limits node s ws (Err fault) said kept low is stands epochs = tt
node_there known limits node s ws (Ok m) said kept low is stands epochs =
    known_both known (λ files. HasState files node s) (λ files. HasBatches files limits.max_batch node s.end ws) _
    (λ files a b. (left_in s ws, record { state = s; said = a; batches = ws; kept = b; stands = stands; epochs = epochs; is = refl }, low, is)) said kept

-- or what it has is none
pub node_differs : (known : Option Files) (max node : ℕ) (s : StateText) (ws : List Written) (r : Result NumberedNode FolderFault)
    → IfSome known (λ files. HasState files node s) → IfSome known (λ files. HasBatches files max node s.end ws)
    → s.life + 1 < 2 ^ 64 → IfErr r (λ fault. IsStop fault ⊎ Differs node s ws fault)
    → IfErr r (λ fault. IsStop fault ⊎ IfSome known (λ files. NoNode files max node fault))
node_differs known max node s ws (Ok m) said kept low bad = tt
node_differs known max node s ws (Err fault) said kept low bad =
    ⊎_elim (λ stop. inl stop)
    (λ differs. inr (known_both known (λ files. HasState files node s) (λ files. HasBatches files max node s.end ws) (λ files. NoNode files max node fault)
    (λ files a b. inr (record { state = s; said = a; bad = inr (low, inr (ws, b, differs)) })) said kept)) bad

-- its batches aren't there
pub batches_not_there : (known : Option Files) (max node : ℕ) (s : StateText) (fault : FolderFault) → IfSome known (λ files. HasState files node s)
    → s.life + 1 < 2 ^ 64 → IsStop fault ⊎ IfSome known (λ files. NoBatches files max node s.end fault) → IsStop fault ⊎ IfSome known (λ files. NoNode files max node fault)
batches_not_there known max node s fault said low bad =
    ⊎_elim (λ stop. inl stop)
    (λ none. inr (known_both known (λ files. HasState files node s) (λ files. NoBatches files max node s.end fault) (λ files. NoNode files max node fault)
    (λ files a b. inr (record { state = s; said = a; bad = inr (low, inl b) })) said none)) bad
