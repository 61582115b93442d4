-- A node cuts its log under the record that it finds.
use Rattle.std.proofs.Common.{◌≡◌, ℕ, ◌≤◌, false, [], ◌∷◌, Option, Some, None, Result, Ok, Err, refl, sym, ap, subst, ◌∙◌, inl, inr, arith}
use Rattle.std.specs.Prelude.{IsFalse, OnOk}
use Rattle.std.proofs.lemmas.Bool.{false≢true}
use Rattle.kp_types.specs.declared.refusal.Refusal.{Refusal}
use Rattle.kp_model.specs.Epochs.{cut_place}
use Rattle.kp_model.specs.World.{LeaderAndIsr, Node, Message, Answer, Answers, IsSent}
use Rattle.kp_model.specs.Event.{Receive, Reply, Refused, Cut}
use Rattle.kp_model.specs.Letter.{FetchLetter, Fetching, answered_letter, letter_of}
use Rattle.kp_model.specs.Effect.{Effect, becomes}
use Rattle.kp_model.specs.Fetching.{Accepts, Cuts, cut_cause, cut_cause_for, is_covered}
use Rattle.kp_model.specs.Local.{Local, LocalBy}
use Rattle.kp_model.specs.Calls.{cut, cut_by, answered_end}
use Rattle.kp_model.specs.Laws.{place_of}
use Rattle.kp_model.specs.Run.{Run, last}
use Rattle.kp_model.specs.declared.message.EpochEnd.{EpochEnd}
use Rattle.kp_model.specs.declared.message.FetchRequest.{FetchRequest}
use Rattle.kp_model.proofs.Cuts.Cutting.{by_answer, cause_is, cut_is_the_step, no_cut_below}
use Rattle.kp_model.proofs.Marks.NodeMarks.{marks_stay}
use Rattle.kp_model.proofs.InRuns.RunLaws.{last_is_of}
use Rattle.kp_replica.specs.NumberedNode.{NumberedNode, DoesUnder}
use Rattle.kp_replica.specs.Cutting.{diverging}
use Rattle.kp_replica.specs.Hearing.{IsCut}
use Rattle.kp_replica.specs.Replies.{cut_reply}
use Rattle.kp_replica.specs.declared.cutting.CutBack.{CutBack}
use Rattle.kp_board.specs.Views.{NodeView}
use Rattle.kp_board.specs.Rule.{AreSent}
use Rattle.kp_board.specs.Premises.{MayStepUnder, leaves}
use Rattle.kp_node.proofs.Heard.{fetched, first_told, answer_in, has_none, AnsweredWell, answered_well, own_log}
use Rattle.kp_node.proofs.Ties.{Tied}

-- What a run knows of an answer that its node n, which is x, gets under this record: its logs are logs, and kin to the node's, and
-- no cut on it goes below the node's watermark.
pub record CutsWell (c : LeaderAndIsr) (n : ℕ) (x : Node) (a : Answer) : Type 0 where
  pub heard : AnsweredWell x a
  pub above : IsFalse (is_covered a.log a.request) → cut_cause c n x a ≡ None → x.watermark ≤ place_of x a

abbrev pub FitsCut : LeaderAndIsr → ℕ → Node → Message → Type 0
FitsCut c n x m = (a : Answer) → m ≡ Answers a → CutsWell c n x a

-- ---- what a cut comes to

leaves_by : (o : Option Refusal) (c : LeaderAndIsr) (x : Node) (place : ℕ) → cut_by o x place ≡ leaves (cut_by o x place).node [] (cut_by o x place).reply
leaves_by (Some r) c x place = refl
leaves_by None c x place = refl

cut_leaves : (c : LeaderAndIsr) (n : ℕ) (x : Node) (l : FetchLetter) → cut c n x l ≡ leaves (cut c n x l).node [] (cut c n x l).reply
cut_leaves c n x l = leaves_by (cut_cause_for c n x l.from l.life l.epoch l.offset l.last) c x (cut_place x.log (answered_end l.answering))

-- ---- at the end of a run

module _ (n : ℕ) (r : Run n) (k : ℕ) (x : Node) (at : (last r).nodes k ≡ x) (a : Answer) (sent : IsSent (last r).messages (Answers a)) where
  cuts_well : CutsWell (last r).controller k x a
  cuts_well = record {
    heard = answered_well n r k x at a sent;
    above = subst (λ (y : Node). IsFalse (is_covered a.log a.request) → cut_cause (last r).controller k y a ≡ None → y.watermark ≤ place_of y a) at (no_cut_below n r (last r) (last_is_of n r) k a sent);
  }

  cut_goes : is_covered a.log a.request ≡ false → Local (last r).controller k x (Receive (Answers a)) (leaves (cut (last r).controller k x (answered_letter a)).node [] (cut (last r).controller k x (answered_letter a)).reply)
  cut_goes diverges =
      let c = (last r).controller in
      let well = cuts_well.heard in
      subst (λ (e : Effect). Local c k x (Receive (Answers a)) e) (cut_leaves c k x (answered_letter a)) (cut_is_the_step c k x a diverges (own_log n r k x at) well.log well.asked well.own well.kin).0

-- ---- a diverging answer comes to a node whose pass is p, and who was told of it last

pub cut_may : (words : ℕ) (p : NodeView) (m : NumberedNode) (message : Message) (r : FetchRequest) (end : Option EpochEnd) → Tied words p m → p.told ≡ message ∷ []
    → letter_of message ≡ Fetching (diverging r end)
    → MayStepUnder p (Receive message) (λ c. (cut c p.number p.state (diverging r end)).node) (λ c. FitsCut c p.number p.state (first_told p.told))
cut_may words p m message q end t told letter =
    let l = diverging q end in
    let b = answer_in message l _ refl letter in
    let same : answered_letter b.answer ≡ l = fetched (subst (λ (z : Message). letter_of z ≡ Fetching l) b.is letter) in
    let parted = has_none b.answer q end same in record {
      given = λ messages known. (subst (AreSent messages) told known).0;
      local = λ n r shows.
          let c = (last r).controller in
          let known : IsSent (last r).messages (Answers b.answer) = subst (IsSent (last r).messages) b.is (subst (AreSent (last r).messages) told shows.told).0 in
          let goes = cut_goes n r p.number p.state shows.state b.answer known parted in
          let by_letter : Local c p.number p.state (Receive (Answers b.answer)) (leaves (cut c p.number p.state l).node [] (cut c p.number p.state l).reply) =
          subst (λ (k : FetchLetter). Local c p.number p.state (Receive (Answers b.answer)) (leaves (cut c p.number p.state k).node [] (cut c p.number p.state k).reply)) same goes in
          inr (
            (cut c p.number p.state l).reply,
            subst (λ (z : Message). Local c p.number p.state (Receive z) (leaves (cut c p.number p.state l).node [] (cut c p.number p.state l).reply)) (sym b.is) by_letter,
          );
      mark = λ c. let low = t.2 in let same = ap (λ (x : Node). x.watermark) t.0 in omega arith;
      known = λ n r shows.
          let sent : IsSent (last r).messages message = (subst (AreSent (last r).messages) told shows.told).0 in
          λ a is. cuts_well n r p.number p.state shows.state a (subst (IsSent (last r).messages) (sym (ap first_told told) ∙ is) sent);
    }

-- ---- after the replica's call

HasCut : Reply → Type 0
HasCut (Cut end) = Unit {0}
HasCut _ = ⊥

no_cut : (f : Refusal) (end : ℕ) → Refused f ≡ Cut end → ⊥
unfolding HasCut
no_cut f end e = subst HasCut (sym e) tt

refused_by : (o : Option Refusal) (c : LeaderAndIsr) (n : ℕ) (x y : Node) (a : Answer) (f : Refusal) (place : ℕ) → is_covered a.log a.request ≡ false → LocalBy o c n x (Receive (Answers a)) (becomes y (Refused f)) → (cut_by o x place).node ≡ y
refused_by (Some r) c n x y a f place parted h = sym (ap (λ (e : Effect). e.node) h)
refused_by None c n x y a f place parted (inl h) =
    let cuts : Cuts x a (becomes y (Refused f)) = subst (λ b. Accepts x a b (becomes y (Refused f))) parted h in
    absurd (no_cut f _ (ap (λ (e : Effect). e.reply) cuts.effect_is))
refused_by None c n x y a f place parted (inr h) = absurd (false≢true (sym parted ∙ h.0))

refused_cut : (c : LeaderAndIsr) (n : ℕ) (x y : Node) (a : Answer) (f : Refusal) → is_covered a.log a.request ≡ false → Local c n x (Receive (Answers a)) (becomes y (Refused f)) → (cut c n x (answered_letter a)).node ≡ y
unfolding Local
refused_cut c n x y a f parted h =
    ap (λ (e : Effect). e.node) (by_answer c n x a parted)
    ∙ refused_by (cut_cause c n x a) c n x y a f (place_of x a) parted (subst (λ (o : Option Refusal). LocalBy o c n x (Receive (Answers a)) (becomes y (Refused f))) (cause_is c n x a parted) h)

pub record HasCutBack (words : ℕ) (c : LeaderAndIsr) (p p' : NodeView) (m m' : NumberedNode) (message : Message) (l : FetchLetter) (reply : Reply) : Type 0 where
  pub tied : Tied words p' m'
  pub event : DoesUnder c m m' (Receive message) reply
  pub state : m'.state ≡ (cut c m.number m.state l).node

pub cut_back : (words : ℕ) (c : LeaderAndIsr) (p p' : NodeView) (m m' : NumberedNode) (message : Message) (r : FetchRequest) (end : Option EpochEnd) (result : Result CutBack Refusal)
    → Tied words p m → p.told ≡ message ∷ [] → letter_of message ≡ Fetching (diverging r end) → FitsCut c p.number p.state (first_told p.told) → IsCut c r end m m' result
    → p' ≡ record p { state = (cut c p.number p.state (diverging r end)).node; shown = c }
    → HasCutBack words c p p' m m' message (diverging r end) (cut_reply result)
cut_back words c p p' m m' message r end result t told letter fits done e =
    let l = diverging r end in
    let b = answer_in message l _ refl letter in
    let a = b.answer in
    let same : answered_letter a ≡ l = fetched (subst (λ (z : Message). letter_of z ≡ Fetching l) b.is letter) in
    let parted = has_none a r end same in
    let well : CutsWell c m.number m.state a = subst (λ (z : ℕ × Node). CutsWell c z.0 z.1 a) (λ i. (t.1 i, t.0 i)) (fits a (ap first_told told ∙ b.is)) in
    let did = done.event a same well.heard.log well.heard.asked well.heard.own well.heard.kin well.above in
    let state : (cut c m.number m.state l).node ≡ m'.state = by_result result done.done a parted same did.0 in
    let mark = marks_stay c m.number m.state (Receive (Answers a)) (becomes m'.state (cut_reply result)) parted did.0 in
    let low = t.2 in
    let shown : (cut c p.number p.state l).node ≡ m'.state = (λ i. (cut c (t.1 i) (t.0 i) l).node) ∙ state in record {
      tied = subst (λ (q : NodeView). Tied words q m') (sym e) (shown, t.1 ∙ sym did.1.0, omega arith, t.3);
      event = subst (λ (z : Message). DoesUnder c m m' (Receive z) (cut_reply result)) (sym b.is) did;
      state = sym state;
    }
  where
    by_result : (res : Result CutBack Refusal) → OnOk res (becomes m'.state (cut_reply res) ≡ cut c m.number m.state (diverging r end)) → (a : Answer) → is_covered a.log a.request ≡ false
        → answered_letter a ≡ diverging r end → Local c m.number m.state (Receive (Answers a)) (becomes m'.state (cut_reply res)) → (cut c m.number m.state (diverging r end)).node ≡ m'.state
    by_result (Ok back) is a parted same local = sym (ap (λ (f : Effect). f.node) is)
    by_result (Err f) is a parted same local = sym (ap (λ (k : FetchLetter). (cut c m.number m.state k).node) same) ∙ refused_cut c m.number m.state m'.state a f parted local
