-- The nodes' files, as they are put into a folder one node after another.
use Rattle.std.proofs.Common.{◌≡◌, ◌∙◌, ℕ, ◌+◌, ◌<◌, List, [], ◌∷◌, ◌++◌, length, map, take, get_or, refl, sym, ap, subst, arith, Option, append-nil, append_assoc, inl, inr}
use Rattle.std.proofs.lemmas.List.{length-take-le, take_more}
use Rattle.kp_types.specs.Folders.{Entry, Puts, PutsFront, file_entry}
use Rattle.kp_types.proofs.Filing.{put_front, put_more, put_none, put_nothing}
use Rattle.kp_log.specs.Files.{AreFilesOf}
use Rattle.kp_model.specs.World.{LeaderAndIsr}
use Rattle.kp_replica.specs.NumberedNode.{NumberedNode}
use Rattle.kp_texts.specs.Texts.{state_text}
use Rattle.kp_folder.specs.Files.{node_folder, record_name, state_name}
use Rattle.kp_folder.specs.Kept.{AreFilesOfNode, AreFilesOfNodes, KeepsRunFront, NodeFront, kept_record, kept_text, start_of}
use Rattle.kp_folder.specs.Left.{start_pair}

-- the starts of epochs are those that the pairs tell
pub starts_are : (starts : List _) (pairs : List (ℕ × ℕ)) → map start_pair starts ≡ pairs → starts ≡ map start_of pairs
starts_are [] [] is = refl
starts_are [] (p ∷ ps) is = absurd cc
starts_are (s ∷ ss) [] is = absurd cc
starts_are (s ∷ ss) (p ∷ ps) is =
    let here : start_pair s ≡ p = cc in
    let others : map start_pair ss ≡ ps = cc in
    (λ i. start_of (here i) ∷ starts_are ss ps others i)

-- ---- one node

-- the file of its state
abbrev pub state_of : ℕ → NumberedNode → Entry
state_of number m = file_entry (state_name number) (state_text (kept_text m.state))

module _ (a b c : Option (List Entry)) (number : ℕ) (m : NumberedNode) (segments : List Entry) (own : AreFilesOf (node_folder number) m.limits m.state.log segments) where
  pub whole_node : Puts a b segments → Puts b c (state_of number m ∷ []) → (files : List Entry) × AreFilesOfNode number m files × Puts a c files
  whole_node log state = (segments ++ state_of number m ∷ [], (segments, own, refl), put_more a b c segments (state_of number m ∷ []) log state)

  -- a beginning of its log
  pub log_front : PutsFront a c segments → NodeFront number m a c
  log_front front = inr (
    segments ++ state_of number m ∷ [],
    (segments, own, refl),
    put_front a a c [] segments (state_of number m ∷ []) (put_none a) front,
  )

  -- its log, and a beginning of its state
  pub state_front : Puts a b segments → PutsFront b c (state_of number m ∷ []) → NodeFront number m a c
  state_front log front = inr (
    segments ++ state_of number m ∷ [],
    (segments, own, refl),
    put_front a b c segments (state_of number m ∷ []) [] log front,
  )

-- ---- the record, and nodes from 0 on

-- The record and the files of the first nodes are there.
pub record HaveKept (head : Entry) (before now : Option (List Entry)) (ms : List NumberedNode) (number : ℕ) : Type 0 where
  pub entries : List Entry
  pub files : AreFilesOfNodes 0 (take number ms) entries
  pub put : Puts before now (head ∷ entries)

pub none_kept : (head : Entry) (a b : Option (List Entry)) (ms : List NumberedNode) → Puts a b (head ∷ []) → HaveKept head a b ms 0
none_kept head a b ms put = record { entries = []; files = refl; put = put }

-- one node more
node_more : (first : ℕ) (ms : List NumberedNode) (m : NumberedNode) (es files : List Entry) → AreFilesOfNodes first ms es → AreFilesOfNode (first + length ms) m files
    → AreFilesOfNodes first (ms ++ m ∷ []) (es ++ files)
node_more first [] m es files are own =
    rw are (
      files,
      [],
      subst (λ (n : ℕ). AreFilesOfNode n m files) (let n : first + 0 ≡ first = omega arith in n) own,
      refl,
      sym (append-nil files),
    )
node_more first (x ∷ xs) m es files (mine, others, mine_are, others_are, all) own = (
  mine,
  others ++ files,
  mine_are,
  node_more (first + 1) xs m others files others_are
      (subst (λ (n : ℕ). AreFilesOfNode n m files) (let n : first + length (x ∷ xs) ≡ (first + 1) + length xs = omega arith in n) own),
  ap (λ (l : List Entry). l ++ files) all ∙ append_assoc mine others files,
)

module _ (head : Entry) (a b c : Option (List Entry)) (ms : List NumberedNode) (number : ℕ) (m : NumberedNode) (h : HaveKept head a b ms number)
    (within : number < length ms) (is : m ≡ get_or ms number m) where
  one_more : (files : List Entry) → AreFilesOfNode number m files → AreFilesOfNodes 0 (take (number + 1) ms) (h.entries ++ files)
  one_more files own =
      let long : length (take number ms) ≡ number = length-take-le number ms (omega (arith, within)) in
      subst (λ (xs : List NumberedNode). AreFilesOfNodes 0 xs (h.entries ++ files)) (sym (take_more ms number m within ∙ ap (λ (x : NumberedNode). take number ms ++ x ∷ []) (sym is)))
      (node_more 0 (take number ms) m h.entries files h.files (subst (λ (n : ℕ). AreFilesOfNode n m files) (let n : number ≡ 0 + length (take number ms) = omega (arith, long) in n) own))

  pub kept_more : ((files : List Entry) × AreFilesOfNode number m files × Puts b c files) → HaveKept head a c ms (number + 1)
  kept_more (files, own, put) =
      record { entries = h.entries ++ files; files = one_more files own; put = put_more a b c (head ∷ h.entries) files h.put put }

  -- a beginning of that node's files
  pub kept_front : (cont : LeaderAndIsr) (sent : Option ℕ) → head ≡ file_entry record_name (kept_record cont (length ms) sent) → NodeFront number m b c → KeepsRunFront cont ms sent a c
  kept_front cont sent head_is (inl none) = (
    number,
    h.entries,
    h.files,
    subst (λ (x : Entry). PutsFront a c (x ∷ h.entries)) head_is
        (subst (λ (l : List Entry). PutsFront a c (head ∷ l)) (append-nil h.entries) (put_front a b c (head ∷ h.entries) [] [] h.put (put_nothing b c [] none))),
  )
  kept_front cont sent head_is (inr (files, own, front)) = (
    number + 1,
    h.entries ++ files,
    one_more files own,
    subst (λ (x : Entry). PutsFront a c (x ∷ (h.entries ++ files))) head_is
        (subst (λ (l : List Entry). PutsFront a c (head ∷ (h.entries ++ l))) (append-nil files) (put_front a b c (head ∷ h.entries) files [] h.put front)),
  )
