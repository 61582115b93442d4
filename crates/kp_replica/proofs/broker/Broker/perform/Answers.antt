use Rattle.std.proofs.Common.{◌≡◌, ℕ, List, Result, Ok, Err, refl, sym, ap, ◌∙◌, subst}
use Rattle.std.specs.Prelude.{◌≢◌, IfOk, IfErr}
use Rattle.kp_types.specs.declared.refusal.Refusal.{Refusal}
use Rattle.kp_types.specs.declared.refusal.Refusal.TheVariants.{Memory}
use Rattle.kp_model.specs.Set.{record_of}
use Rattle.kp_model.specs.declared.message.MessageBody.{MessageBody}
use Rattle.kp_model.specs.Event as model
use Rattle.kp_model.specs.Event.{Line}
use Rattle.kp_model.specs.World.{LeaderAndIsr}
use Rattle.kp_replica.specs.Acts.{Comes, FitsPlain, IsOfRun, Looks, TakesNoMemory, answered_reply, plain_act}
use Rattle.kp_replica.specs.Altering.{change_act}
use Rattle.kp_replica.specs.Broker.{node_at}
use Rattle.kp_replica.specs.NumberedNode.{DoesUnder, NumberedNode}
use Rattle.kp_replica.specs.Replies.{checkpoint_reply, lines_reply, receipt_reply, role_reply, state_reply, watermark_reply}
use Rattle.kp_replica.specs.declared.act.PlainAct.{PlainAct}
use Rattle.kp_replica.specs.declared.act.PlainAct.TheVariants as acts
use Rattle.kp_replica.specs.declared.act.Answer.{Answer}
use Rattle.kp_replica.specs.declared.act.Answer.TheVariants as answers
use Rattle.kp_replica.specs.declared.act.Effect.{Effect}
use Rattle.kp_replica.specs.declared.act.Effect.TheVariants.{Answers, Sends}
use Rattle.kp_replica.specs.declared.adopting.Role.{Role}
use Rattle.kp_replica.specs.declared.producing.Receipt.{Receipt}
use Rattle.kp_replica.specs.declared.reading.Shown.{Shown}
use Rattle.kp_replica.proofs.Acting.{IsMadeOf, adopts, answered, made, mapped, sent, spared_too}
use Rattle.kp_replica.proofs.broker.Broker.perform.Goals as goal
use Rattle.kp_replica.proofs.broker.Broker.perform.Goals.{in-Adopt, in-Mark, in-Raise, in-Checkpoint, in-Stop, in-Restart, in-Show, in-Read, in-Committed}

-- ---- what is sent

pub returns-in-Ask-clause-acts : goal.returns-in-Ask-clause-acts
returns-in-Ask-clause-acts c = λ k under of.
    let x = node_at c.args.self.now in
    subst (λ (y : PlainAct). Comes k x x (plain_act y) c.map.result) (sym c.in-Ask.is)
    (sent k x x model.Ask c.ask.result c.map.result c.ask.ensures.sent c.ask.ensures.refused c.map.ensures.cases)

pub returns-in-Alter-clause-acts : goal.returns-in-Alter-clause-acts
returns-in-Alter-clause-acts c = λ k under of.
    let x = node_at c.args.self.now in
    let y = node_at c.alter.new.self in
    subst (λ (z : PlainAct). Comes k x y (plain_act z) c.map-in-Alter.result) (sym c.in-Alter.is)
    (sent k x y (change_act c.in-Alter.change) c.alter.result c.map-in-Alter.result c.alter.ensures.sent c.alter.ensures.event c.map-in-Alter.ensures.cases)

pub returns-in-Ask-clause-spared : goal.returns-in-Ask-clause-spared
returns-in-Ask-clause-spared c = λ takes.
    spared_too MessageBody Effect Sends c.ask.result c.map.result c.map.ensures.cases (err_apart c.ask.result c.ask.ensures.spared)
  where
    err_apart : (r : Result MessageBody Refusal) → IfErr r (λ refusal. refusal ≢ Memory) → r ≢ Err Memory
    err_apart (Ok x) h e = cc
    err_apart (Err f) h e = h (let same : f ≡ Memory = cc in same)

pub returns-in-Alter-clause-spared : goal.returns-in-Alter-clause-spared
returns-in-Alter-clause-spared c = λ takes. spared_too MessageBody Effect Sends c.alter.result c.map-in-Alter.result c.map-in-Alter.ensures.cases c.alter.ensures.spared

any : (A B : Type 0) (K : A → B) (r : Result A Refusal) (m : Result B Refusal) → IsMadeOf A B K r m → IfOk m (λ y. (x : A) × (y ≡ K x))
any A B K (Ok x) (Ok y) is = (x, is)
any A B K (Ok x) (Err f) is = absurd is
any A B K (Err f) (Ok y) is = absurd cc
any A B K (Err f) (Err g) is = tt

pub returns-in-Alter-clause-fits : goal.returns-in-Alter-clause-fits
returns-in-Alter-clause-fits c =
    subst (λ (x : PlainAct). IfOk c.map-in-Alter.result (FitsPlain x (node_at c.alter.new.self))) (sym c.in-Alter.is)
    (any MessageBody Effect Sends c.alter.result c.map-in-Alter.result c.map-in-Alter.ensures.cases)

-- ---- what is answered

-- what the node did, where act, answer and what is left are written in other words
in_other_words : (k : LeaderAndIsr) (old new left : NumberedNode) (a b : PlainAct) (outcome other : Result Answer Refusal) (reply : model.Reply) → a ≡ b → new ≡ left → outcome ≡ other
    → answered_reply other ≡ reply → DoesUnder k old left (plain_act b) reply → DoesUnder k old new (plain_act a) (answered_reply outcome)
in_other_words k old new left a b outcome other reply act same is replied h =
    subst (λ (x : PlainAct). DoesUnder k old new (plain_act x) (answered_reply outcome)) (sym act)
    (subst (λ (m : NumberedNode). DoesUnder k old m (plain_act b) (answered_reply outcome)) (sym same)
    (subst (λ (r : model.Reply). DoesUnder k old left (plain_act b) r) (sym (ap answered_reply is ∙ replied)) h))

pub returns-clause-acts : goal.returns-clause-acts
returns-clause-acts c = λ k under of.
    let shown = record_of c.args.controller.now in
    let old = node_at c.args.self.now in
    let act = c.args.act in
    let new = node_at c.match-act.self in
    let outcome = c.match-act.answered in
    let does : DoesUnder k old new (plain_act act) (answered_reply outcome) = elim c.match-act.branch [
      | in-Adopt w ↦
          in_other_words k old new (node_at w.adopt.new.self) act acts.Adopt outcome w.map-answered.result (role_reply w.adopt.result) w.in-Adopt.is (ap node_at w.self-is) w.answered-is
          (mapped Role answers.Adopted role_reply _ w.adopt.result w.map-answered.result (λ x a h. h) (λ x. refl) (λ f. refl) w.map-answered.ensures.cases)
          (adopts k shown old (node_at w.adopt.new.self) (role_reply w.adopt.result) (subst (λ (x : PlainAct). Looks (plain_act x) → k ≡ shown) w.in-Adopt.is under)
          (subst (λ (x : PlainAct). IsOfRun k old (plain_act x)) w.in-Adopt.is of) w.adopt.ensures)
      | in-Mark w ↦
          in_other_words k old new (node_at w.mark.new.self) act (acts.Mark w.in-Mark.marker) outcome w.map-answered-in-Mark.result (receipt_reply w.mark.result) w.in-Mark.is (ap node_at w.self-is) w.answered-is
          (mapped Receipt answers.Appended receipt_reply _ w.mark.result w.map-answered-in-Mark.result (λ x a h. h) (λ x. refl) (λ f. refl) w.map-answered-in-Mark.ensures.cases)
          (w.mark.ensures.event k)
      | in-Raise w ↦
          in_other_words k old new (node_at w.raise.new.self) act acts.Raise outcome w.map-answered-in-Raise.result (watermark_reply w.raise.result) w.in-Raise.is (ap node_at w.self-is) w.answered-is
          (mapped ℕ answers.Watermark watermark_reply _ w.raise.result w.map-answered-in-Raise.result (λ x a h. h) (λ x. refl) (λ f. refl) w.map-answered-in-Raise.ensures.cases)
          (w.raise.ensures k)
      | in-Checkpoint w ↦
          in_other_words k old new (node_at w.checkpoint.new.self) act acts.Checkpoint outcome w.map-answered-in-Checkpoint.result (checkpoint_reply w.checkpoint.result) w.in-Checkpoint.is (ap node_at w.self-is) w.answered-is
          (mapped ℕ answers.Checkpoint checkpoint_reply _ w.checkpoint.result w.map-answered-in-Checkpoint.result (λ x a h. h) (λ x. refl) (λ f. refl) w.map-answered-in-Checkpoint.ensures.cases)
          (w.checkpoint.ensures k)
      | in-Stop w ↦
          in_other_words k old new (node_at w.stop-answered.new.self) act acts.Stop outcome w.stop-answered.result (answered_reply w.stop-answered.result) w.in-Stop.is (ap node_at w.self-is) w.answered-is
          refl (w.stop-answered.ensures.event k)
      | in-Restart w ↦
          in_other_words k old new (node_at w.restart-answered.new.self) act acts.Restart outcome w.restart-answered.result (answered_reply w.restart-answered.result) w.in-Restart.is (ap node_at w.self-is) w.answered-is
          refl (w.restart-answered.ensures.event k)
      | in-Show w ↦
          in_other_words k old new old act acts.Show outcome w.map-answered-in-Show.result (state_reply w.show.result) w.in-Show.is (ap node_at w.self-is) w.answered-is
          (mapped Shown answers.Shown state_reply _ w.show.result w.map-answered-in-Show.result (λ x a h. h) (λ x. refl) (λ f. refl) w.map-answered-in-Show.ensures.cases)
          (w.show.ensures k)
      | in-Read w ↦
          in_other_words k old new old act (acts.Read w.in-Read.from) outcome w.map-answered-in-Read.result (lines_reply w.read.result) w.in-Read.is (ap node_at w.self-is ∙ w.read.ensures.same) w.answered-is
          (mapped (List Line) answers.Lines lines_reply _ w.read.result w.map-answered-in-Read.result (λ x a h. h) (λ x. refl) (λ f. refl) w.map-answered-in-Read.ensures.cases)
          (w.read.ensures.does k)
      | in-Committed w ↦
          in_other_words k old new old act (acts.Committed w.in-Committed.from) outcome w.map-answered-in-Committed.result (lines_reply w.committed.result) w.in-Committed.is (ap node_at w.self-is ∙ w.committed.ensures.same) w.answered-is
          (mapped (List Line) answers.Lines lines_reply _ w.committed.result w.map-answered-in-Committed.result (λ x a h. h) (λ x. refl) (λ f. refl) w.map-answered-in-Committed.ensures.cases)
          (w.committed.ensures.does k)
    ] in
    answered k old new (plain_act act) outcome c.map-2.result does c.map-2.ensures.cases

-- what is known of an answer, where act and answer are written in other words, is known of the effect
answer_fits : (act same : PlainAct) (new left : NumberedNode) (P : Answer → Type 0) (outcome other : Result Answer Refusal) (m : Result Effect Refusal) → act ≡ same → new ≡ left → outcome ≡ other
    → IsMadeOf Answer Effect Answers outcome m → IfOk other P → ((x : Answer) → P x → FitsPlain same left (Answers x)) → IfOk m (FitsPlain act new)
answer_fits act same new left P (Ok x) (Ok y) (Ok e) acting nodes is of holds fits =
    let known : P x = subst P (let back : y ≡ x = cc in back) holds in
    subst (λ (d : PlainAct). FitsPlain d new e) (sym acting) (subst (λ (n : NumberedNode). FitsPlain same n e) (sym nodes) (subst (FitsPlain same left) (sym of) (fits x known)))
answer_fits act same new left P (Ok x) (Err g) (Ok e) acting nodes is of holds fits = absurd cc
answer_fits act same new left P (Ok x) other (Err f) acting nodes is of holds fits = absurd of
answer_fits act same new left P (Err g) other (Ok e) acting nodes is of holds fits = absurd cc
answer_fits act same new left P (Err g) other (Err f) acting nodes is of holds fits = tt

pub returns-clause-fits : goal.returns-clause-fits
returns-clause-fits c =
    let old = node_at c.args.self.now in
    let new = node_at c.match-act.self in
    let act = c.args.act in
    let outcome = c.match-act.answered in
    let m = c.map-2.result in
    elim c.match-act.branch [
      | in-Adopt w ↦
          answer_fits act acts.Adopt new (node_at w.adopt.new.self) _ outcome w.map-answered.result m w.in-Adopt.is (ap node_at w.self-is) w.answered-is c.map-2.ensures.cases
          (any Role Answer answers.Adopted w.adopt.result w.map-answered.result w.map-answered.ensures.cases) (λ x known. (known.0, ap Answers known.1))
      | in-Mark w ↦
          answer_fits act (acts.Mark w.in-Mark.marker) new (node_at w.mark.new.self) _ outcome w.map-answered-in-Mark.result m w.in-Mark.is (ap node_at w.self-is) w.answered-is c.map-2.ensures.cases
          (made Receipt Answer answers.Appended _ w.mark.result w.map-answered-in-Mark.result w.map-answered-in-Mark.ensures.cases w.mark.ensures.receipt) (λ x known. (known.0, ap Answers known.1, known.2))
      | in-Raise w ↦
          answer_fits act acts.Raise new (node_at w.raise.new.self) _ outcome w.map-answered-in-Raise.result m w.in-Raise.is (ap node_at w.self-is) w.answered-is c.map-2.ensures.cases
          (any ℕ Answer answers.Watermark w.raise.result w.map-answered-in-Raise.result w.map-answered-in-Raise.ensures.cases) (λ x known. (known.0, ap Answers known.1))
      | in-Checkpoint w ↦
          answer_fits act acts.Checkpoint new (node_at w.checkpoint.new.self) _ outcome w.map-answered-in-Checkpoint.result m w.in-Checkpoint.is (ap node_at w.self-is) w.answered-is c.map-2.ensures.cases
          (any ℕ Answer answers.Checkpoint w.checkpoint.result w.map-answered-in-Checkpoint.result w.map-answered-in-Checkpoint.ensures.cases) (λ x known. (known.0, ap Answers known.1))
      | in-Stop w ↦
          answer_fits act acts.Stop new (node_at w.stop-answered.new.self) _ outcome w.stop-answered.result m w.in-Stop.is (ap node_at w.self-is) w.answered-is c.map-2.ensures.cases
          w.stop-answered.ensures.fits (λ x known. ap Answers known)
      | in-Restart w ↦
          answer_fits act acts.Restart new (node_at w.restart-answered.new.self) _ outcome w.restart-answered.result m w.in-Restart.is (ap node_at w.self-is) w.answered-is c.map-2.ensures.cases
          w.restart-answered.ensures.fits (λ x known. (x, refl, known))
      | in-Show w ↦
          answer_fits act acts.Show new old _ outcome w.map-answered-in-Show.result m w.in-Show.is (ap node_at w.self-is) w.answered-is c.map-2.ensures.cases
          (any Shown Answer answers.Shown w.show.result w.map-answered-in-Show.result w.map-answered-in-Show.ensures.cases) (λ x known. (known.0, ap Answers known.1))
      | in-Read w ↦
          answer_fits act (acts.Read w.in-Read.from) new (node_at w.read.new.self) _ outcome w.map-answered-in-Read.result m w.in-Read.is (ap node_at w.self-is) w.answered-is c.map-2.ensures.cases
          (any (List Line) Answer answers.Lines w.read.result w.map-answered-in-Read.result w.map-answered-in-Read.ensures.cases) (λ x known. (known.0, ap Answers known.1))
      | in-Committed w ↦
          answer_fits act (acts.Committed w.in-Committed.from) new (node_at w.committed.new.self) _ outcome w.map-answered-in-Committed.result m w.in-Committed.is (ap node_at w.self-is) w.answered-is c.map-2.ensures.cases
          (any (List Line) Answer answers.Lines w.committed.result w.map-answered-in-Committed.result w.map-answered-in-Committed.ensures.cases) (λ x known. (known.0, ap Answers known.1))
    ]

-- ---- what takes no memory is sent

pub returns-clause-spared : goal.returns-clause-spared
returns-clause-spared c = λ takes.
    let none : (act : PlainAct) → c.args.act ≡ act → TakesNoMemory (node_at c.args.self.now).state (plain_act act) = λ act is.
    subst (λ (a : PlainAct). TakesNoMemory (node_at c.args.self.now).state (plain_act a)) is takes in
    absurd (elim c.match-act.branch [
      | in-Adopt w ↦ none acts.Adopt w.in-Adopt.is
      | in-Mark w ↦ none (acts.Mark w.in-Mark.marker) w.in-Mark.is
      | in-Raise w ↦ none acts.Raise w.in-Raise.is
      | in-Checkpoint w ↦ none acts.Checkpoint w.in-Checkpoint.is
      | in-Stop w ↦ none acts.Stop w.in-Stop.is
      | in-Restart w ↦ none acts.Restart w.in-Restart.is
      | in-Show w ↦ none acts.Show w.in-Show.is
      | in-Read w ↦ none (acts.Read w.in-Read.from) w.in-Read.is
      | in-Committed w ↦ none (acts.Committed w.in-Committed.from) w.in-Committed.is
    ])
