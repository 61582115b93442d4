-- Why calls aren't made.
use Rattle.std.proofs.Common.{◌≡◌, ℕ, List, refl, sym, ap, subst, ◌∙◌}
use mathlib.Core.Logic.{inl, inr}
use Rattle.std.specs.Global.{Box}
use Rattle.std.specs.Prelude.{Option, Some, None, Result, Ok, Err, IfOk, IfErr, OnErr, length, slice_get}
use Rattle.kp_batch.specs.Batch.{Written}
use Rattle.kp_segment.specs.declared.name.SegmentName.{SegmentName}
use Rattle.kp_model.specs.World.{Message as ModelMessage}
use Rattle.kp_model.specs.declared.message.MessageBody.{MessageBody}
use Rattle.kp_board.specs.Views.{CallerView}
use Rattle.kp_node.specs.Seated.{SeatedNode}
use Rattle.kp_types.specs.declared.refusal.Refusal.{Refusal}
use Rattle.kp_replica.specs.declared.producing.Receipt.{Receipt}
use Rattle.kp_handles.specs.Again.{HoldsNoneLeft, KeepCalled}
use Rattle.kp_handles.specs.Left.{LeftView}
use Rattle.kp_handles.specs.CallerCalls.{ReceiptsTold}
use Rattle.kp_handles.specs.Called.{BadCaller, BadNode, BadPair, BadRoom, PairCalled, done_of, made_of}
use Rattle.kp_handles.specs.Handing.{BadHand, BadHanded, BadShare, HandedCalled, IsFree}
use Rattle.kp_handles.specs.Holding.{segments_in}
use Rattle.kp_handles.specs.Messages.{BadDecide, BadRepeat, BadStep}
use Rattle.kp_handles.specs.Objects.{ObjectView, caller, cluster, handed, is_open, left, message, node, segments}
use Rattle.kp_handles.specs.Opening.{BadCallerOpening, BadNodeOpening}
use Rattle.kp_node.specs.CallerCalls.{Produces}
use Rattle.kp_handles.specs.PairCalls.{BadBytes, FitsBatch}
use Rattle.kp_handles.specs.Segments.{BadName, BadSegment, GivesSegment, SegmentCalled, SegmentMet}
use Rattle.kp_handles.specs.declared.left.KeptIn.{KeptIn}
use Rattle.kp_handles.specs.declared.misuse.Misuse.{Misuse}
use Rattle.kp_handles.specs.declared.misuse.Misuse.TheVariants.{Closed, OtherKind, InUse, NoRoom, OutOfRange, BadLength}

unwrap : ObjectView → Option ObjectView → ObjectView
unwrap d None = d
unwrap d (Some o) = o

pub same_object : (o p : ObjectView) (x : Option ObjectView) → x ≡ Some o → x ≡ Some p → o ≡ p
unfolding unwrap
same_object o p x e f = ap (unwrap o) (sym e ∙ f)

-- what is so of objects is so of the handles that hold them
module _ (why : Misuse) (n m out : Option ObjectView) (o l : ObjectView) (en : n ≡ Some o) where
  pub pair_bad : (Own : Misuse → Type 0) → m ≡ Some l → BadPair Own (Some o) (Some l) why → BadPair Own n m why
  pair_bad Own em bad =
      subst (λ (a : Option ObjectView). BadPair Own a m why) (sym en) (subst (λ (b : Option ObjectView). BadPair Own (Some o) b why) (sym em) bad)

  pub pair_room : m ≡ Some l → out ≡ None → BadPair (BadRoom None) (Some o) (Some l) why → BadPair (BadRoom out) n m why
  pair_room em eo bad = pair_bad (BadRoom out) em (subst (λ (r : Option ObjectView). BadPair (BadRoom r) (Some o) (Some l) why) (sym eo) bad)

  pub repeat_room : m ≡ Some l → out ≡ None → BadRepeat (Some o) (Some l) None why → BadRepeat n m out why
  repeat_room em eo bad =
      subst (λ (a : Option ObjectView). BadRepeat a m out why) (sym en)
      (subst (λ (b : Option ObjectView). BadRepeat (Some o) b out why) (sym em) (subst (λ (r : Option ObjectView). BadRepeat (Some o) (Some l) r why) (sym eo) bad))

  pub node_bad : (Own : Misuse → Type 0) → BadNode Own (Some o) why → BadNode Own n why
  node_bad Own bad = subst (λ (a : Option ObjectView). BadNode Own a why) (sym en) bad

  pub node_room : out ≡ None → BadNode (BadRoom None) (Some o) why → BadNode (BadRoom out) n why
  node_room eo bad = node_bad (BadRoom out) (subst (λ (r : Option ObjectView). BadNode (BadRoom r) (Some o) why) (sym eo) bad)

  pub caller_bad : BadCaller (Some o) why → BadCaller n why
  caller_bad bad = subst (λ (a : Option ObjectView). BadCaller a why) (sym en) bad

  pub node_opening : out ≡ None → BadNodeOpening (Some o) None why → BadNodeOpening n out why
  node_opening eo bad =
      subst (λ (a : Option ObjectView). BadNodeOpening a out why) (sym en) (subst (λ (r : Option ObjectView). BadNodeOpening (Some o) r why) (sym eo) bad)

  pub caller_opening : out ≡ None → BadCallerOpening (Some o) None why → BadCallerOpening n out why
  caller_opening eo bad =
      subst (λ (a : Option ObjectView). BadCallerOpening a out why) (sym en) (subst (λ (r : Option ObjectView). BadCallerOpening (Some o) r why) (sym eo) bad)

  pub segment_bad : (index places : ℕ) → out ≡ None → BadSegment index places (Some o) None why → BadSegment index places n out why
  segment_bad index places eo bad =
      subst (λ (a : Option ObjectView). BadSegment index places a out why) (sym en) (subst (λ (r : Option ObjectView). BadSegment index places (Some o) r why) (sym eo) bad)

-- ---- of bytes

none_is_closed : (o : ObjectView) → Some o ≡ None → ⊥
none_is_closed o e = absurd cc

module _ (n m : Option ObjectView) (count : ℕ) where
  pair_bytes : (x : SeatedNode) (k : ℕ) (c : CallerView) (why : Misuse) → n ≡ Some (node x) → m ≡ Some (caller k c) → BadBytes count why → BadPair (BadBytes count) n m why
  pair_bytes x k c Closed e f bad = absurd bad
  pair_bytes x k c OtherKind e f bad = absurd bad
  pair_bytes x k c InUse e f bad = bad
  pair_bytes x k c NoRoom e f bad = ((x, k, c, e, f), bad)
  pair_bytes x k c OutOfRange e f bad = bad
  pair_bytes x k c BadLength e f bad = bad

  hand_bytes : (why : Misuse) → IsFree n → BadBytes count why → BadHand count n why
  hand_bytes Closed free bad = bad
  hand_bytes OtherKind free bad = bad
  hand_bytes InUse free bad = absurd bad
  hand_bytes NoRoom free bad = (free, bad)
  hand_bytes OutOfRange free bad = bad
  hand_bytes BadLength free bad = bad

  pub hand_anew : (why : Misuse) → n ≡ None → BadBytes count why → BadHand count n why
  hand_anew why none = hand_bytes why (inl none)

  pub hand_again : (was : List ℕ) (why : Misuse) → n ≡ Some (handed was) → BadBytes count why → BadHand count n why
  hand_again was why e = hand_bytes why (inr (was, e))

  pub hand_room : (why : Misuse) → why ≡ NoRoom → n ≡ None → FitsBatch count → BadHand count n why
  hand_room why e none fits = subst (BadHand count n) (sym e) (inl none, fits)

  pub hand_bad : (o : ObjectView) (why : Misuse) → n ≡ Some o → BadHand count (Some o) why → BadHand count n why
  hand_bad o why e bad = subst (λ (x : Option ObjectView). BadHand count x why) (sym e) bad

pub pair_copy : (bytes : List ℕ) (old new other then : ObjectView) (x y : SeatedNode) (k : ℕ) (c d : CallerView) (r : Result (Result Receipt Refusal) Misuse)
    → old ≡ node x → new ≡ node y → other ≡ caller k c → then ≡ caller k d → IfOk r (Produces bytes x y c d)
    → OnErr r ((y ≡ x) × (d ≡ c)) → IfErr r (BadBytes (length bytes)) → PairCalled (BadBytes (length bytes)) (Some old) (Some new) (Some other) (Some then) r (Produces bytes)
pair_copy bytes old new other then x y k c d (Ok answer) e e' f f' made same only =
    (x, y, k, c, d, ap (λ (v : ObjectView). Some v) e, ap (λ (v : ObjectView). Some v) e', ap (λ (v : ObjectView). Some v) f, ap (λ (v : ObjectView). Some v) f', made)
pair_copy bytes old new other then x y k c d (Err why) e e' f f' made (is, js) only = (
  ap (λ (v : ObjectView). Some v) (e' ∙ ap (λ (z : SeatedNode). node z) is ∙ sym e),
  ap (λ (v : ObjectView). Some v) (f' ∙ ap (λ (z : CallerView). caller k z) js ∙ sym f),
  pair_bytes (Some old) (Some other) (length bytes) x k c why (ap (λ (v : ObjectView). Some v) e) (ap (λ (v : ObjectView). Some v) f) only,
)

module _ (n : Option ObjectView) (o : ObjectView) where
  pub is_free : n ≡ Some o → IsFree (Some o) → IsFree n
  is_free e free = subst IsFree (sym e) free

  pub hand_used : ((was : List ℕ) → o ≡ handed was → ⊥) → IsFree (Some o) → ⊥
  hand_used never (inl none) = none_is_closed o none
  hand_used never (inr (was, e)) = never was (same_object o (handed was) (Some o) refl e)

module _ (held : Option ObjectView) where
  bad_share : (n m : Option ObjectView) (x : SeatedNode) (k : ℕ) (c : CallerView) (why : Misuse)
      → n ≡ Some (node x) → m ≡ Some (caller k c) → BadShare held why → BadHanded held n m why
  bad_share n m x k c Closed e f bad = inl bad
  bad_share n m x k c OtherKind e f bad = inl bad
  bad_share n m x k c InUse e f bad = bad
  bad_share n m x k c NoRoom e f bad = (bad, (x, k, c, e, f))
  bad_share n m x k c OutOfRange e f bad = bad
  bad_share n m x k c BadLength e f bad = bad

  pub handed_share : (old new other then : ObjectView) (x y : SeatedNode) (k : ℕ) (c d : CallerView) (r : Result (Result Receipt Refusal) Misuse)
      → old ≡ node x → new ≡ node y → other ≡ caller k c → then ≡ caller k d
      → IfOk r (λ answer. (bytes : List ℕ) × (held ≡ Some (handed bytes)) × Produces bytes x y c d answer)
      → OnErr r ((y ≡ x) × (d ≡ c)) → IfErr r (BadShare held) → HandedCalled held (Some old) (Some new) (Some other) (Some then) r
  handed_share old new other then x y k c d (Ok answer) e e' f f' (bytes, is, made) same only =
      (bytes, is, (x, y, k, c, d, ap (λ (v : ObjectView). Some v) e, ap (λ (v : ObjectView). Some v) e', ap (λ (v : ObjectView). Some v) f, ap (λ (v : ObjectView). Some v) f', made))
  handed_share old new other then x y k c d (Err why) e e' f f' made (is, js) only = (
    ap (λ (v : ObjectView). Some v) (e' ∙ ap (λ (z : SeatedNode). node z) is ∙ sym e),
    ap (λ (v : ObjectView). Some v) (f' ∙ ap (λ (z : CallerView). caller k z) js ∙ sym f),
    bad_share (Some old) (Some other) x k c why (ap (λ (v : ObjectView). Some v) e) (ap (λ (v : ObjectView). Some v) f) only,
  )

  pub handed_kind : (old new other then : ObjectView) (r : Result (Result Receipt Refusal) Misuse) → r ≡ Err OtherKind → new ≡ old → then ≡ other
      → ((x : SeatedNode) → (k : ℕ) → (c : CallerView) → old ≡ node x → other ≡ caller k c → ⊥)
      → HandedCalled held (Some old) (Some new) (Some other) (Some then) r
  handed_kind old new other then r e same kept never =
      subst (λ (s : Result (Result Receipt Refusal) Misuse). HandedCalled held (Some old) (Some new) (Some other) (Some then) s) (sym e) (
        ap (λ (v : ObjectView). Some v) same,
        ap (λ (v : ObjectView). Some v) kept,
        inr (refl, refl, λ x k c f g. never x k c (same_object old (node x) (Some old) refl f) (same_object other (caller k c) (Some other) refl g)),
      )

  pub handed_called : (o o' l l' : ObjectView) (n n' m m' : Option ObjectView) (r : Result (Result Receipt Refusal) Misuse)
      → HandedCalled held (Some o) (Some o') (Some l) (Some l') r → n ≡ Some o → n' ≡ Some o' → m ≡ Some l → m' ≡ Some l' → HandedCalled held n n' m m' r
  handed_called o o' l l' n n' m m' r called en en' em em' =
      subst (λ (a : Option ObjectView). HandedCalled held a n' m m' r) (sym en)
      (subst (λ (a : Option ObjectView). HandedCalled held (Some o) a m m' r) (sym en')
      (subst (λ (a : Option ObjectView). HandedCalled held (Some o) (Some o') a m' r) (sym em)
      (subst (λ (a : Option ObjectView). HandedCalled held (Some o) (Some o') (Some l) a r) (sym em') called)))

module _ (why : Misuse) (n m : Option ObjectView) (o l : ObjectView) (is : why ≡ OtherKind) (en : n ≡ Some o) (em : m ≡ Some l) where
  pub step_kind : ((x : SeatedNode) → (b : MessageBody) → (p : ModelMessage) → o ≡ node x → l ≡ message b p → ⊥) → BadStep n m why
  step_kind never = subst (BadStep n m) (sym is) (ap is_open en, ap is_open em, λ x b p e f. never x b p (same_object o (node x) n en e) (same_object l (message b p) m em f))

  pub decide_kind : ((k : ℕ) → (c : CallerView) → (b : MessageBody) → (p : ModelMessage) → o ≡ caller k c → l ≡ message b p → ⊥) → BadDecide n m why
  decide_kind never = subst (BadDecide n m) (sym is) (ap is_open en, ap is_open em, λ k c b p e f. never k c b p (same_object o (caller k c) n en e) (same_object l (message b p) m em f))

-- ---- of clusters

module _ (old out : Option ObjectView) (why : Misuse) where
  pub caller_room : (n : ℕ) (waiting : List SeatedNode) (callers : ℕ) → why ≡ NoRoom → old ≡ Some (cluster n waiting callers) → out ≡ None → BadCallerOpening old out why
  caller_room n waiting callers e is none = subst (BadCallerOpening old out) (sym e) (n, waiting, callers, is, none)

module _ (index places : ℕ) (out : Option ObjectView) where
  pub segment_name_bad : (ss : List (SegmentName × List Written)) (s : SegmentName × List Written) (o : ObjectView) (why : Misuse)
      → o ≡ segments ss → slice_get ss index ≡ Some s → BadName s places why → BadSegment index places (Some o) None why
  segment_name_bad ss s o BadLength e at bad = (o, refl, (ss, s, ap segments_in e, at, bad))
  segment_name_bad ss s o NoRoom e at bad = ((o, ss, s, refl, ap segments_in e, at, bad), refl)
  segment_name_bad ss s o Closed e at bad = absurd bad
  segment_name_bad ss s o OtherKind e at bad = absurd bad
  segment_name_bad ss s o InUse e at bad = absurd bad
  segment_name_bad ss s o OutOfRange e at bad = absurd bad

-- ---- of two callers

pub told_called : (o o' l l' : ObjectView) (n n' m m' : Option ObjectView) (r : Result (Unit {0}) Misuse)
    → ReceiptsTold (Some o) (Some o') (Some l) (Some l') r → n ≡ Some o → n' ≡ Some o' → m ≡ Some l → m' ≡ Some l' → ReceiptsTold n n' m m' r
told_called o o' l l' n n' m m' r told en en' em em' =
    subst (λ (x : Option ObjectView × Option ObjectView × Option ObjectView × Option ObjectView). ReceiptsTold x.0 x.1 x.2 x.3 r)
    (λ i. (sym en i, sym en' i, sym em i, sym em' i)) told

-- ---- of nodes that were read back

module _ (bytes : List ℕ) (k : KeptIn) (old : Option ObjectView) where
  pub keep_called : (new : Option ObjectView) (o p : ObjectView) (answer : Result (Result (Unit {0}) Refusal) Misuse) → old ≡ Some o → new ≡ Some p
      → KeepCalled bytes k (Some o) (Some p) answer → KeepCalled bytes k old new answer
  keep_called new o p answer e f called = subst (λ (x : Option ObjectView × Option ObjectView). KeepCalled bytes k x.0 x.1 answer) (λ i. (sym e i, sym f i)) called

pub no_left : (old : Option ObjectView) (o : ObjectView) (why : Misuse) → why ≡ OtherKind → old ≡ Some o → ((x : LeftView) → o ≡ left x → ⊥) → HoldsNoneLeft old why
no_left old o why is e never = subst (HoldsNoneLeft old) (sym is) (ap is_open e, λ x f. never x (same_object o (left x) old e f))

-- ---- of segments

-- one of what an object holds is one of what its handle holds
module _ (index : ℕ) (o : ObjectView) (from to : List ℕ) where
  pub segment_met : (ss : List (SegmentName × List Written)) (s : SegmentName × List Written) (answer : Result (Result (Box ObjectView) Refusal) Misuse)
      → o ≡ segments ss → slice_get ss index ≡ Some s → GivesSegment s from to answer → SegmentMet o index from to answer
  segment_met ss s (Ok (Ok made)) e at (wrote, is) = (o, ss, s, refl, ap segments_in e, at, (wrote, is))
  segment_met ss s (Ok (Err refusal)) e at (same, is) = (same, (o, ss, s, refl, ap segments_in e, at, is))
  segment_met ss s (Err why) e at (same, bad) = (same, segment_name_bad index (length from) None ss s o why e at bad)

  called_by : (old out wrote : Option ObjectView) (answer : Result (Result (Box ObjectView) Refusal) Misuse)
      → SegmentMet o index from to answer → old ≡ Some o → out ≡ None → wrote ≡ made_of answer → SegmentCalled old index from to out wrote (done_of answer)
  called_by old out wrote (Ok (Ok made)) (p, ss, s, e, f, at, (front, is)) held none came =
      (none, (p, ss, s, held ∙ e, f, at, (front, came ∙ ap (λ (v : ObjectView). Some v) is)))
  called_by old out wrote (Ok (Err refusal)) (same, (p, ss, s, e, f, at, is)) held none came = (same, came ∙ sym none, (p, ss, s, held ∙ e, f, at, is))
  called_by old out wrote (Err why) (same, bad) held none came = (same, came ∙ sym none, segment_bad why old None out o o held index (length from) none bad)

  pub segment_called : (old out wrote : Option ObjectView) (answer : Result (Result (Box ObjectView) Refusal) Misuse) (r : Result (Result (Unit {0}) Refusal) Misuse)
      → SegmentMet o index from to answer → old ≡ Some o → out ≡ None → wrote ≡ made_of answer → r ≡ done_of answer → SegmentCalled old index from to out wrote r
  segment_called old out wrote answer r met held none came e =
      subst (λ (d : Result (Result (Unit {0}) Refusal) Misuse). SegmentCalled old index from to out wrote d) (sym e) (called_by old out wrote answer met held none came)
