-- What an action of each class does to each part: the log, the watermark and the checkpoint, the mode, what is sent, and what is
-- replied. What rests on one part alone goes by that part, and an action of a class more is told here.
use Rattle.std.proofs.Common.{◌≡◌, ◌⊎◌, ℕ, ◌≤◌, false, eqb, List, [], ◌∷◌, ◌++◌, Some, None, refl, sym, subst, arith, inl, inr}
use Rattle.std.proofs.lemmas.Bool.{cond_both, eqb-true, eqb-false}
use Rattle.kp_batch.specs.Batch.{Body, IsBody}
use Rattle.kp_model.specs.Beginning.{Begins}
use Rattle.kp_model.specs.Log.{Batch, end_of}
use Rattle.kp_model.specs.World.{Leader, LeaderAndIsr, Leading, Following, Mode, Down, Idle, Leads, Follows, Node, Request, Answer, Decision, Message, Asks, Answers, Proposes, Decides, IsSent, no_reports}
use Rattle.kp_model.specs.Event.{Act, Reply}
use Rattle.kp_model.specs.Effect.{Effect}
use Rattle.kp_model.specs.Appending.{stamped, exhausts}
use Rattle.kp_model.specs.Fetching.{asked, answer, serve_cause, reporting, piece, grown, Continues}
use Rattle.kp_model.specs.InSync.{proposal, learn_cause}
use Rattle.kp_model.specs.Handed.{Hands}
use Rattle.kp_model.specs.Laws.{KeepsMark}
use Rattle.kp_model.proofs.OneStep.Steps.{served_either}
use Rattle.kp_model.proofs.OneStep.Classes.{IsPlain, MayPropose, Class, Rests, TakesUp, GrowsByOwn, GrowsByAnswer, GrowsInPart, IsCut, SendsRequest, SendsAnswer, SendsProposal, KnowsMore, RaisesMark, NotesMark, GoesDown, BeginsLife}

-- the log that is left
pub data LogPart (messages : List Message) (x : Node) (act : Act) (log : List Batch) : Type 0 where
  LogStays : log ≡ x.log → LogPart messages x act log
  LogGains : (l : Leading) (body : Body) → x.mode ≡ Leads l → IsBody body → Hands act body → exhausts x.log body ≡ false → log ≡ x.log ++ stamped x.log l.epoch body ∷ [] → LogPart messages x act log
  LogTakes : (a : Answer) → IsSent messages (Answers a) → Continues x a → log ≡ grown x a → LogPart messages x act log
  LogTakesSome : (a : Answer) (some : List Batch) → IsSent messages (Answers a) → Continues x a → Begins some (piece a.log a.request) → log ≡ x.log ++ some → LogPart messages x act log
  LogIsCut : (left : List Batch) → Begins left x.log → log ≡ left → LogPart messages x act log

-- the watermark and the checkpoint
pub data MarkPart (x : Node) (act : Act) (watermark checkpoint : ℕ) : Type 0 where
  MarksStay : watermark ≡ x.watermark → checkpoint ≡ x.checkpoint → MarkPart x act watermark checkpoint
  MarkRises : (KeepsMark act → ⊥) → x.watermark ≤ watermark → checkpoint ≡ x.checkpoint → MarkPart x act watermark checkpoint
  MarkIsNoted : watermark ≡ x.watermark → checkpoint ≡ x.watermark → MarkPart x act watermark checkpoint
  MarkGoesBack : (KeepsMark act → ⊥) → watermark ≡ x.checkpoint → checkpoint ≡ x.checkpoint → MarkPart x act watermark checkpoint

-- the mode
pub data ModePart (messages : List Message) (c : LeaderAndIsr) (n : ℕ) (x : Node) (mode : Mode) : Type 0 where
  ModeStays : mode ≡ x.mode → ModePart messages c n x mode
  NowLeading : (l : Leader) → c.leader ≡ Some l → l.node ≡ n
      → mode ≡ Leads (record { epoch = l.epoch; isr = c.isr; version = c.version; pending = None; start = end_of x.log; reported = no_reports }) → ModePart messages c n x mode
  NowFollowing : (l : Leader) → c.leader ≡ Some l → (l.node ≡ n → ⊥) → mode ≡ Follows (record { leader = l.node; epoch = l.epoch }) → ModePart messages c n x mode
  ReportIsLifted : (r : Request) (l : Leading) → x.mode ≡ Leads l → IsSent messages (Asks r) → mode ≡ Leads (reporting l r.from (end_of r.log)) → ModePart messages c n x mode
  SetIsPending : (isr : List ℕ) (l : Leading) → x.mode ≡ Leads l → MayPropose n x l isr → mode ≡ Leads (record l { pending = Some isr }) → ModePart messages c n x mode
  SetIsKnown : (d : Decision) (l : Leading) → x.mode ≡ Leads l → IsSent messages (Decides d) → learn_cause d l ≡ None
      → mode ≡ Leads (record l { isr = d.decided.isr; version = d.decided.version; pending = None }) → ModePart messages c n x mode
  RoleEnds : (mode ≡ Down) ⊎ (mode ≡ Idle) → ModePart messages c n x mode

-- what is sent
pub data SentPart (messages : List Message) (n : ℕ) (x : Node) (sent : List Message) : Type 0 where
  NoneIsSent : sent ≡ [] → SentPart messages n x sent
  RequestIsSent : (f : Following) → x.mode ≡ Follows f → sent ≡ Asks (asked n x f) ∷ [] → SentPart messages n x sent
  AnswerIsSent : (r : Request) (l : Leading) → x.mode ≡ Leads l → IsSent messages (Asks r) → serve_cause x.log r l ≡ None → sent ≡ Answers (answer x r) ∷ [] → SentPart messages n x sent
  ProposalIsSent : (isr : List ℕ) (l : Leading) → x.mode ≡ Leads l → MayPropose n x l isr → sent ≡ Proposes (proposal n l isr) ∷ [] → SentPart messages n x sent

-- all parts
pub record Parts (messages : List Message) (c : LeaderAndIsr) (n : ℕ) (x : Node) (act : Act) (e : Effect) : Type 0 where
  pub log : LogPart messages x act e.node.log
  pub marks : MarkPart x act e.node.watermark e.node.checkpoint
  pub mode : ModePart messages c n x e.node.mode
  pub sent : SentPart messages n x e.sent
  pub plain : IsPlain e.reply

module _ (messages : List Message) (c : LeaderAndIsr) (n : ℕ) (x : Node) (act : Act) where
  parts_by : (e f : Effect) → e ≡ f → Parts messages c n x act f → Parts messages c n x act e
  parts_by e f is parts = subst (Parts messages c n x act) (sym is) parts

  pub parts_of : (e : Effect) → Class messages c n x act e → Parts messages c n x act e
  parts_of e (Rests reply fair h) =
      parts_by e _ h (record { log = LogStays refl; marks = MarksStay refl refl; mode = ModeStays refl; sent = NoneIsSent refl; plain = fair })
  parts_of e (TakesUp l is news h) =
      parts_by e _ h
      (record {
        log = LogStays refl;
        marks = MarksStay refl refl;
        mode = cond_both (eqb l.node n) _ _ (λ (role : Mode × Reply). ModePart messages c n x role.0) (λ t. NowLeading l is (eqb-true l.node n t) refl) (λ t. NowFollowing l is (eqb-false l.node n t) refl);
        sent = NoneIsSent refl;
        plain = cond_both (eqb l.node n) _ _ (λ (role : Mode × Reply). IsPlain role.1) (λ t. tt) (λ t. tt);
      })
  parts_of e (GrowsByOwn l body mode lawful hands free h) =
      parts_by e _ h
      (record { log = LogGains l body mode lawful hands free refl; marks = MarksStay refl refl; mode = ModeStays refl; sent = NoneIsSent refl; plain = tt })
  parts_of e (GrowsByAnswer a sent free moves h) =
      parts_by e _ h.1
      (record { log = LogTakes a sent h.0 refl; marks = MarkRises moves (omega arith) refl; mode = ModeStays refl; sent = NoneIsSent refl; plain = tt })
  parts_of e (GrowsInPart a sent free h) =
      parts_by e _ h.effect_is
      (record {
        log = LogTakesSome a h.some sent h.continues h.begins refl;
        marks = MarksStay refl refl;
        mode = RoleEnds (inl refl);
        sent = NoneIsSent refl;
        plain = refl;
      })
  parts_of e (IsCut a sent free h) =
      parts_by e _ h.effect_is
      (record { log = LogIsCut h.left h.begins refl; marks = MarksStay refl refl; mode = ModeStays refl; sent = NoneIsSent refl; plain = tt })
  parts_of e (SendsRequest f reply fair mode h) =
      parts_by e _ h (record { log = LogStays refl; marks = MarksStay refl refl; mode = ModeStays refl; sent = RequestIsSent f mode refl; plain = fair })
  parts_of e (SendsAnswer r l mode sent free h) =
      served_either (Parts messages c n x act) x r l e
      (record {
        log = LogStays refl;
        marks = MarksStay refl refl;
        mode = ReportIsLifted r l mode sent refl;
        sent = AnswerIsSent r l mode sent free refl;
        plain = tt;
      })
      (record { log = LogStays refl; marks = MarksStay refl refl; mode = ModeStays refl; sent = AnswerIsSent r l mode sent free refl; plain = tt })
      h
  parts_of e (SendsProposal isr l mode may h) =
      parts_by e _ h
      (record {
        log = LogStays refl;
        marks = MarksStay refl refl;
        mode = SetIsPending isr l mode may refl;
        sent = ProposalIsSent isr l mode may refl;
        plain = tt;
      })
  parts_of e (KnowsMore d l mode sent free h) =
      parts_by e _ h
      (record { log = LogStays refl; marks = MarksStay refl refl; mode = SetIsKnown d l mode sent free refl; sent = NoneIsSent refl; plain = tt })
  parts_of e (RaisesMark l mode moves h) =
      parts_by e _ h
      (record { log = LogStays refl; marks = MarkRises moves (omega arith) refl; mode = ModeStays refl; sent = NoneIsSent refl; plain = tt })
  parts_of e (NotesMark reply fair h) =
      parts_by e _ h (record { log = LogStays refl; marks = MarkIsNoted refl refl; mode = ModeStays refl; sent = NoneIsSent refl; plain = fair })
  parts_of e (GoesDown reply fair h) =
      parts_by e _ h (record { log = LogStays refl; marks = MarksStay refl refl; mode = RoleEnds (inl refl); sent = NoneIsSent refl; plain = fair })
  parts_of e (BeginsLife reply fair moves h) =
      parts_by e _ h (record { log = LogStays refl; marks = MarkGoesBack moves refl refl; mode = RoleEnds (inr refl); sent = NoneIsSent refl; plain = fair })
