-- The rule of the board (own rule): some run of the definitions ends in just the world that the words and the passes show.
-- It holds between any two steps of any threads.
use Rattle.std.specs.Prelude.{◌≡◌, ◌⊎◌, ℕ, ◌+◌, ◌*◌, ◌<◌, ◌≤◌, max, List, [], ◌∷◌, length, slice_index, sum_by}
use mathlib.Core.Option.{some}
use lib.ListN.{get_elem?}
use Rattle.atomic_table.specs.Table.{State}
use Rattle.kp_control.specs.Word.{packed}
use Rattle.kp_model.specs.Log.{Batch}
use Rattle.kp_model.specs.World.{LeaderAndIsr, Message, World, IsSent}
use Rattle.kp_model.specs.Event.{Outcome, Elect}
use Rattle.kp_model.specs.Step.{Step}
use Rattle.kp_model.specs.Run.{Run, BeginsHeld, IsOf, last, extend, WasAppended}
use Rattle.kp_model.specs.Left.{IsOpening, Opening, node_in}
use Rattle.kp_board.specs.Views.{NodeView, CallerView, Note, KeptReceipt, View, founder, of_node, of_caller, of_message, of_note, of_closing, spent, made_by, one_if_founder, one_if_caller, changes_by}

-- The words: word 0 is the controller's record, packed; then for each node its log end offset and its watermark. Of an end
-- word the rule says nothing: it is for those who look and need no promise.
abbrev pub end_word : ℕ → ℕ
end_word k = 2 * k + 1

abbrev pub mark_word : ℕ → ℕ
mark_word k = 2 * k + 2

-- these messages were sent
abbrev pub AreSent : List Message → List Message → Type 0
AreSent messages [] = Unit {0}
AreSent messages (l ∷ ls) = IsSent messages l × AreSent messages ls

module _ {n : ℕ} (r : Run n) where
  -- node k had this watermark in a world of the run
  abbrev pub WasWatermark : (k mark : ℕ) → Type 0
  WasWatermark k mark = (w : World) × IsOf w r × ((w.nodes k).watermark ≡ mark)

  -- since the run's opening, up to which it was the old one, node k had no higher watermark
  abbrev pub NoWatermarkAbove : (old : Run n) (k mark : ℕ) → Type 0
  NoWatermarkAbove old k mark = (w : World) → IsOf w r → IsOf w old ⊎ ((w.nodes k).watermark ≤ mark)

  -- it was the record in a world of the run
  abbrev pub WasRecord : LeaderAndIsr → Type 0
  WasRecord c = (w : World) × IsOf w r × (w.controller ≡ c)

  -- the list was a node's log in a world of the run
  abbrev pub WasLog : List Batch → Type 0
  WasLog xs = (w : World) × (k : ℕ) × IsOf w r × (xs ≡ (w.nodes k).log)

  -- the batches of these receipts were appended in the run
  abbrev pub AreAppended : List KeptReceipt → Type 0
  AreAppended [] = Unit {0}
  AreAppended (x ∷ xs) = WasAppended r x.batch × AreAppended xs

  -- these were records in worlds of the run
  abbrev pub WereRecords : List LeaderAndIsr → Type 0
  WereRecords [] = Unit {0}
  WereRecords (c ∷ cs) = WasRecord c × WereRecords cs

  -- all that a caller's pass shows is of this run
  pub record IsOfRun (c : CallerView) : Type 0 where
    pub wide : length c.marks ≡ n
    pub seen : BeginsHeld r c.seen
    pub shown : WasRecord c.shown
    pub marks : (k : ℕ) → k < n → WasWatermark k (slice_index c.marks k)
    pub receipts : AreAppended c.receipts
    pub sent : AreSent (last r).messages c.sent
    pub changes : WereRecords c.changes

  -- ---- what the rule says of each sort of pass, by these words

  pub record FitsNote (words : List ℕ) (x : Note) : Type 0 where
    pub list : BeginsHeld r x.list
    pub mark : x.node < n → x.mark ≤ slice_index words (mark_word x.node)
    pub log : WasLog x.log
    pub receipts : AreAppended x.receipts

  -- The node in the run's last world is just what the pass shows, and its mark word too. Only one pass is its own.
  pub record FitsNode (owner : ℕ → ℕ) (words : List ℕ) (id : ℕ) (p : NodeView) : Type 0 where
    pub count : p.count ≡ n
    pub inside : p.number < n
    pub own : owner p.number ≡ id
    pub state : (last r).nodes p.number ≡ p.state
    pub shown : WasRecord p.shown
    pub word : slice_index words (mark_word p.number) ≡ p.published
    pub told : AreSent (last r).messages p.told

  -- all that it shows is of the run, and no watermark shown is above the node's mark word
  pub record FitsCaller (words : List ℕ) (c : CallerView) : Type 0 where
    pub of_run : IsOfRun c
    pub told : FitsNote words c.told
    pub reached : (k : ℕ) → k < n → slice_index c.marks k ≤ slice_index words (mark_word k)

  -- the nodes from j on have no pass yet, and are as the board opened with them
  pub record FitsFounder (owner : ℕ → ℕ) (words : List ℕ) (id j : ℕ) (o : Opening) : Type 0 where
    pub count : o.count ≡ n
    pub shown : WasRecord o.controller
    pub own : (k : ℕ) → j ≤ k → k < n → owner k ≡ id
    pub state : (k : ℕ) → j ≤ k → k < n → (last r).nodes k ≡ node_in o k
    pub word : (k : ℕ) → j ≤ k → k < n → slice_index words (mark_word k) ≡ (node_in o k).watermark

  -- each of these nodes is just what is shown of it, and is this pass's own
  abbrev pub FitNodes : (owner : ℕ → ℕ) (words : List ℕ) (id : ℕ) → List NodeView → Type 0
  FitNodes owner words id [] = Unit {0}
  FitNodes owner words id (p ∷ ps) = FitsNode owner words id p × FitNodes owner words id ps

  abbrev pub Fits : (owner : ℕ → ℕ) (words : List ℕ) (id : ℕ) → View → Type 0
  Fits owner words id (founder j o made) = FitsFounder owner words id j o
  Fits owner words id (of_node p) = FitsNode owner words id p
  Fits owner words id (of_caller c) = FitsCaller words c
  Fits owner words id (of_message l) = IsSent (last r).messages l
  Fits owner words id (of_note x) = FitsNote words x
  Fits owner words id (of_closing x) = BeginsHeld r x.seen × FitNodes owner words id x.nodes
  Fits owner words id spent = Unit {0}

-- What the passes of a board count between them: there is one founder; it has made each caller's pass; and each change of the
-- controller's record since its first version, which raises the version by one, is one that a caller's pass has made. So nobody
-- elects or decides but by a pass that shows it, and nobody comes by such a pass but from the founder.
pub record AreCounted (views : List View) (first version : ℕ) : Type 0 where
  pub founders : sum_by one_if_founder views ≡ 1
  pub callers : sum_by one_if_caller views ≡ sum_by made_by views
  pub changes : first + sum_by changes_by views ≡ version

-- The rule, of a board that opened with this: word 0 is the record of the last world of a run, which goes on from one that ended
-- with the opening; each mark word is a watermark that its node had; each pass fits, and the passes are counted. `owner` says which
-- pass is each node's own. The mark word, or where it doesn't yet follow the node's watermark this, is the greatest watermark that the
-- node had since the opening.
pub record Ruled (o : Opening) (s : State ℕ View) : Type 0 where
  pub small : o.count ≤ 7
  pub old : Run o.count
  pub opening : IsOpening o old
  pub run : Run o.count
  pub goes_on : (w : World) → IsOf w old → IsOf w run
  pub owner : ℕ → ℕ
  pub wide : length s.words ≡ 2 * o.count + 1
  pub record_is : slice_index s.words 0 ≡ packed (last run).controller
  pub marks : (k : ℕ) → k < o.count → WasWatermark run k (slice_index s.words (mark_word k))
  pub tops : (k : ℕ) → k < o.count → NoWatermarkAbove run old k (max (slice_index s.words (mark_word k)) ((last run).nodes k).watermark)
  pub seats : (id : ℕ) (v : View) → get_elem? s.views id ≡ some v → Fits run owner s.words id v
  pub counted : AreCounted s.views o.controller.version (last run).controller.version

-- ---- what a call can say of that run, which it can't name

-- some run has all that this pass shows
abbrev pub ShowsARun : CallerView → Type 0
ShowsARun c = (n : ℕ) × (r : Run n) × IsOfRun r c

-- and the record shown is the last one of that run
abbrev pub ShowsLastRecord : CallerView → Type 0
ShowsLastRecord c = (n : ℕ) × (r : Run n) × IsOfRun r c × ((last r).controller ≡ c.shown)

-- the newest event of the run is an election of this node, which changes one record to the next
pub record EndsElecting {n : ℕ} (r : Run n) (node : ℕ) (old next : LeaderAndIsr) : Type 0 where
  pub before : Run n
  pub outcome : Outcome
  pub after : World
  pub step : Step (last before) (Elect node) outcome after
  pub is : r ≡ extend before (Elect node) outcome after step
  pub old_is : (last before).controller ≡ old
  pub next_is : after.controller ≡ next

-- some run has all that this pass shows, and ends with an election of this node, from the record `old` to the one shown
abbrev pub ShowsElection : (node : ℕ) (old : LeaderAndIsr) → CallerView → Type 0
ShowsElection node old c = (n : ℕ) × (r : Run n) × IsOfRun r c × EndsElecting r node old c.shown
