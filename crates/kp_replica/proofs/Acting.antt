-- What comes of what a node did.
use Rattle.std.proofs.Common.{◌≡◌, false, [], ◌∷◌, Option, Some, Result, Ok, Err, MatchResult, refl, sym, ap, ◌∙◌, subst}
use Rattle.std.specs.Prelude.{◌≢◌, IsOkAnd, IfOk, IfErr, is_some}
use Rattle.std.proofs.lemmas.Bool.{false≢true}
use Rattle.kp_types.specs.Causes.{IsRefusedOnlyBy}
use Rattle.kp_types.proofs.Causes.{only_cause, only_none}
use Rattle.kp_types.specs.declared.refusal.Refusal.{Refusal}
use Rattle.kp_types.specs.declared.refusal.Refusal.TheVariants as refusals
use Rattle.kp_model.specs.World.{LeaderAndIsr, Decision, Proposal, Message, Asks, Answers as AnswersOf, Proposes, Decides}
use Rattle.kp_model.specs.declared.message.EpochEnd.{EpochEnd}
use Rattle.kp_model.specs.declared.message.FetchRequest.{FetchRequest}
use Rattle.kp_model.specs.declared.message.Fetched.{Fetched}
use Rattle.kp_model.specs.Calls.{ForRequest, sent_reply}
use Rattle.kp_model.specs.Event.{Act, Receive, Reply, Refused}
use Rattle.kp_model.specs.Letter.{FetchLetter, Fetching, Proposing, Deciding, Letter, fetch_request, letter, letter_of}
use Rattle.kp_model.specs.Effect.{becomes, is_down, sends}
use Rattle.kp_model.specs.Local.{cause}
use Rattle.kp_replica.proofs.Downs.{refuses_proposal}
use Rattle.kp_model.specs.declared.message.MessageBody.{MessageBody}
use Rattle.kp_model.specs.Event as model
use Rattle.kp_replica.specs.Acts.{Comes, Fits, FitsPlain, NamesIn, IsOfRun, Looks, answer_reply, answered_reply}
use Rattle.kp_replica.specs.Adopting.{IsWithin}
use Rattle.kp_replica.specs.declared.act.Act.{Act as CodeAct}
use Rattle.kp_replica.specs.declared.act.Act.TheVariants.{Produce, Plain}
use Rattle.kp_replica.specs.declared.act.PlainAct.{PlainAct}
use Rattle.kp_replica.specs.declared.act.PlainAct.TheVariants as acts
use Rattle.kp_replica.specs.NumberedNode.{NumberedNode, Does, DoesUnder}
use Rattle.kp_replica.specs.Sending.{DoesSending}
use Rattle.kp_replica.specs.Cutting.{diverging}
use Rattle.kp_replica.specs.Hearing.{CutsAbove, IsCut, IsTaken}
use Rattle.kp_replica.specs.Taking.{carrying, fetch_cause}
use Rattle.kp_replica.specs.declared.cutting.CutBack.{CutBack}
use Rattle.kp_replica.specs.declared.taking.Taken.{Taken}
use Rattle.kp_replica.specs.declared.altering.Learned.{Learned as LearnedIsr}
use Rattle.kp_replica.specs.Replies.{cut_reply, learned_reply, taken_reply}
use Rattle.kp_replica.proofs.CuttingFacts.{cause_for}
use Rattle.kp_replica.proofs.HearingFacts.{carrying_cause, diverging_letter_cause, fetched, told, unanswered}
use Rattle.kp_replica.specs.declared.act.Answer.{Answer}
use Rattle.kp_replica.specs.declared.act.Effect.{Effect}
use Rattle.kp_replica.specs.declared.act.Effect.TheVariants.{Answers, Sends}

-- what a result is made of another one by
abbrev pub IsMadeOf : (A B : Type 0) → (A → B) → Result A Refusal → Result B Refusal → Type 0
IsMadeOf A B K r m = MatchResult r (λ x. IsOkAnd m (λ y. y ≡ K x)) (λ f. m ≡ Err f)

-- it answered, or refused
pub answering : (c : LeaderAndIsr) (old new : NumberedNode) (act : Act) (answer : Answer) → DoesUnder c old new act (answer_reply answer) → Comes c old new act (Ok (Answers answer))
answering c old new act answer does =
    record {
      effect = becomes new.state (answer_reply answer);
      local = does.0;
      node_is = refl;
      letters_are = refl;
      reply_is = refl;
      same = does.1;
    }

pub refusing : (c : LeaderAndIsr) (old new : NumberedNode) (act : Act) (refusal : Refusal) → DoesUnder c old new act (Refused refusal) → Comes c old new act (Err refusal)
refusing c old new act refusal does =
    record {
      effect = becomes new.state (Refused refusal);
      local = does.0;
      node_is = refl;
      letters_are = refl;
      reply_is = refl;
      same = does.1;
    }

pub answered : (c : LeaderAndIsr) (old new : NumberedNode) (act : Act) (r : Result Answer Refusal) (m : Result Effect Refusal) → DoesUnder c old new act (answered_reply r)
    → IsMadeOf Answer Effect Answers r m → Comes c old new act m
answered c old new act (Ok x) (Ok e) does is = subst (λ (y : Effect). Comes c old new act (Ok y)) (sym is) (answering c old new act x does)
answered c old new act (Ok x) (Err f) does is = absurd is
answered c old new act (Err f) m does is = subst (Comes c old new act) (sym is) (refusing c old new act f does)

-- it sent a message, or refused
pub sending : (c : LeaderAndIsr) (old new : NumberedNode) (act : Act) (body : MessageBody) → DoesSending old new act (letter body) → Comes c old new act (Ok (Sends body))
sending c old new act body does =
    let sent = does.0 in
    let l = letter body in
    record {
      effect = sends new.state sent.message (sent_reply l);
      local = sent.local c;
      node_is = refl;
      letters_are = ap (λ (k : Letter). k ∷ []) sent.letter_is;
      reply_is = refl;
      same = does.1;
    }

pub sent : (c : LeaderAndIsr) (old new : NumberedNode) (act : Act) (r : Result MessageBody Refusal) (m : Result Effect Refusal) → IfOk r (λ body. DoesSending old new act (letter body))
    → IfErr r (λ refusal. Does old new act (Refused refusal)) → IsMadeOf MessageBody Effect Sends r m → Comes c old new act m
sent c old new act (Ok x) (Ok e) does refused is = subst (λ (y : Effect). Comes c old new act (Ok y)) (sym is) (sending c old new act x does)
sent c old new act (Ok x) (Err f) does refused is = absurd is
sent c old new act (Err f) m does refused is = subst (Comes c old new act) (sym is) (refusing c old new act f (refused c))

-- ---- what looks at the record

pub adopts : (k shown : LeaderAndIsr) (old new : NumberedNode) (reply : Reply) → (Looks model.Adopt → k ≡ shown) → IsOfRun k old model.Adopt
    → (IsWithin shown old.state.log → DoesUnder shown old new model.Adopt reply) → DoesUnder k old new model.Adopt reply
adopts k shown old new reply under of event =
    let same : k ≡ shown = under tt in
    subst (λ (r : LeaderAndIsr). DoesUnder r old new model.Adopt reply) (sym same) (event (subst (λ (r : LeaderAndIsr). IsOfRun r old model.Adopt) same of))

-- ---- what `map` makes of a result

-- the reply of what is made of it
pub mapped : (A : Type 0) (K : A → Answer) (reply : Result A Refusal → Reply) (Q : A → Answer → Type 0) (r : Result A Refusal) (m : Result Answer Refusal)
    → ((x : A) (a : Answer) → Q x a → a ≡ K x) → ((x : A) → answer_reply (K x) ≡ reply (Ok x)) → ((f : Refusal) → Refused f ≡ reply (Err f))
    → MatchResult r (λ x. IsOkAnd m (Q x)) (λ f. m ≡ Err f) → answered_reply m ≡ reply r
mapped A K reply Q (Ok x) (Ok a) same ok err h = ap answer_reply (same x a h) ∙ ok x
mapped A K reply Q (Ok x) (Err f) same ok err h = absurd h
mapped A K reply Q (Err f) m same ok err h = ap answered_reply h ∙ err f

-- what a call answered, as the effect that is made of it
pub wrapped : (A : Type 0) (K : A → Answer) (reply : Result A Refusal → Reply) (c : LeaderAndIsr) (old new : NumberedNode) (act : Act) (r : Result A Refusal) (a : Result Answer Refusal) (e : Result Effect Refusal)
    → ((x : A) → answer_reply (K x) ≡ reply (Ok x)) → ((f : Refusal) → Refused f ≡ reply (Err f)) → IsMadeOf A Answer K r a → IsMadeOf Answer Effect Answers a e
    → DoesUnder c old new act (reply r) → Comes c old new act e
wrapped A K reply c old new act r a e ok err made then does =
    answered c old new act a e (subst (λ (p : Reply). DoesUnder c old new act p) (sym (mapped A K reply (λ x y. y ≡ K x) r a (λ x y h. h) ok err made)) does) then

-- what refuses it refuses what is made of it
pub refused_too : (A B : Type 0) (K : A → B) (why : Option Refusal) (r : Result A Refusal) (m : Result B Refusal) → IsMadeOf A B K r m → IsRefusedOnlyBy why r → IsRefusedOnlyBy why m
refused_too A B K why (Ok x) (Ok y) is refused = subst (λ (o : Option Refusal). IsRefusedOnlyBy {A = B} o (Ok y)) (sym (only_none A why x refused)) tt
refused_too A B K why (Ok x) (Err f) is refused = absurd is
refused_too A B K why (Err f) m is refused =
    subst (IsRefusedOnlyBy why) (sym is) (subst (λ (o : Option Refusal). IsRefusedOnlyBy {A = B} o (Err f)) (sym (only_cause A why f refused)) refl)

-- what is known of its value is known of what is made of it
pub made : (A B : Type 0) (K : A → B) (P : A → Type 0) (r : Result A Refusal) (m : Result B Refusal) → IsMadeOf A B K r m → IfOk r P → IfOk m (λ y. (x : A) × (y ≡ K x) × P x)
made A B K P (Ok x) (Ok y) is holds = (x, is, holds)
made A B K P (Ok x) (Err f) is holds = absurd is
made A B K P (Err f) (Ok y) is holds = absurd cc
made A B K P (Err f) (Err g) is holds = tt

-- and of what is made of that
pub made_twice : (A B C : Type 0) (K : A → B) (L : B → C) (P : A → Type 0) (r : Result A Refusal) (m : Result B Refusal) (n : Result C Refusal) → IsMadeOf A B K r m → IsMadeOf B C L m n
    → IfOk r P → IfOk n (λ z. (x : A) × (z ≡ L (K x)) × P x)
made_twice A B C K L P (Ok x) (Ok y) (Ok z) is then holds = (x, then ∙ ap L is, holds)
made_twice A B C K L P (Ok x) (Ok y) (Err f) is then holds = absurd then
made_twice A B C K L P (Ok x) (Err f) n is then holds = absurd is
made_twice A B C K L P (Err f) (Ok y) n is then holds = absurd cc
made_twice A B C K L P (Err f) (Err g) (Ok z) is then holds = absurd cc
made_twice A B C K L P (Err f) (Err g) (Err h) is then holds = tt

pub same_err : {A : Type 0} (r s : Refusal) → (let x : Result A Refusal = Err r in x) ≡ Err s → r ≡ s
same_err r s e = cc

-- what isn't refused for want of memory makes nothing that is
pub spared_too : (A B : Type 0) (K : A → B) (r : Result A Refusal) (m : Result B Refusal) → IsMadeOf A B K r m → r ≢ Err refusals.Memory → m ≢ Err refusals.Memory
spared_too A B K (Ok x) (Ok y) is spared e = absurd cc
spared_too A B K (Ok x) (Err f) is spared e = absurd is
spared_too A B K (Err f) m is spared e = spared (ap (λ (g : Refusal). let x : Result A Refusal = Err g in x) (same_err {A = B} f refusals.Memory (sym is ∙ e)))

-- ---- messages

-- what comes of a request, for each message with its letter
pub request_came : (c : LeaderAndIsr) (old new : NumberedNode) (r : FetchRequest) (sent : Letter) (m : Message) → letter_of m ≡ Fetching (fetch_request r) → IsOfRun c old (Receive m)
    → ForRequest (fetch_request r) old.state.log (λ m. DoesSending old new (Receive m) sent) → DoesSending old new (Receive m) sent
request_came c old new r sent (Asks q) is of event = event q (fetched is) of.0 of.1
request_came c old new r sent (AnswersOf a) is of event = absurd (false≢true (sym (ap (λ (l : FetchLetter). is_some l.answering) (fetched is))))
request_came c old new r sent _ is of event = absurd cc

-- what comes of batches
pub batches_came : (c : LeaderAndIsr) (old new : NumberedNode) (r : FetchRequest) (f : Fetched) (m : Message) (taken : Result Taken Refusal) → letter_of m ≡ Fetching (carrying r f)
    → IsOfRun c old (Receive m) → IsTaken r f old new taken → DoesUnder c old new (Receive m) (taken_reply taken)
batches_came c old new r f (Asks q) taken is of done = absurd (unanswered q r _ is)
batches_came c old new r f (AnswersOf a) taken is of done = done.event a (fetched is) of.0 of.1 of.2 of.3 c
batches_came c old new r f _ taken is of done = absurd cc

-- and what refuses them, whatever logs the message has
pub batches_refused : (c : LeaderAndIsr) (old new : NumberedNode) (r : FetchRequest) (f : Fetched) (m : Message) (refusal : Refusal) (taken : Result Taken Refusal)
    → letter_of m ≡ Fetching (carrying r f) → cause c old.number old.state (Receive m) ≡ Some refusal → IsTaken r f old new taken
    → (taken ≡ Err refusal) × DoesUnder c old new (Receive m) (Refused refusal)
batches_refused c old new r f (Asks q) refusal taken is held done = absurd (unanswered q r _ is)
batches_refused c old new r f (AnswersOf a) refusal taken is held done =
    let why : fetch_cause old.state r f ≡ Some refusal = sym (carrying_cause a r f (fetched is) c old) ∙ held in
    let refused = rw why at done.refused in
    (refused.0, refused.1 (AnswersOf a) is c)
batches_refused c old new r f _ refusal taken is held done = absurd cc

-- what comes of a diverging answer, which looks at the record that was shown
pub diverging_came : (c shown : LeaderAndIsr) (old new : NumberedNode) (r : FetchRequest) (end : Option EpochEnd) (m : Message) (back : Result CutBack Refusal)
    → letter_of m ≡ Fetching (diverging r end) → (Looks (Receive m) → c ≡ shown) → IsOfRun c old (Receive m) → IsCut shown r end old new back
    → DoesUnder c old new (Receive m) (cut_reply back)
diverging_came c shown old new r end (Asks q) back is under of done = absurd (unanswered q r _ is)
diverging_came c shown old new r end (AnswersOf a) back is under of done =
    let same : c ≡ shown = under (told a r end (fetched is)).covered in
    subst (λ (k : LeaderAndIsr). DoesUnder k old new (Receive (AnswersOf a)) (cut_reply back)) (sym same)
    (done.event a (fetched is) of.0 of.1 of.2 of.3 (subst (λ (k : LeaderAndIsr). CutsAbove k old (AnswersOf a)) same of.4))
diverging_came c shown old new r end _ back is under of done = absurd cc

pub diverging_refused : (c shown : LeaderAndIsr) (old new : NumberedNode) (r : FetchRequest) (end : Option EpochEnd) (m : Message) (refusal : Refusal) (back : Result CutBack Refusal)
    → letter_of m ≡ Fetching (diverging r end) → (Looks (Receive m) → c ≡ shown) → cause c old.number old.state (Receive m) ≡ Some refusal → IsCut shown r end old new back
    → (back ≡ Err refusal) × DoesUnder c old new (Receive m) (Refused refusal)
diverging_refused c shown old new r end (Asks q) refusal back is under held done = absurd (unanswered q r _ is)
diverging_refused c shown old new r end (AnswersOf a) refusal back is under held done =
    let same : c ≡ shown = under (told a r end (fetched is)).covered in
    let why : cause_for shown old.number old.state r ≡ Some refusal =
    ap (λ (k : LeaderAndIsr). cause_for k old.number old.state r) (sym same) ∙ sym (diverging_letter_cause a r end (fetched is) c old) ∙ held in
    let refused = rw why at done.refused in
    (refused.0, subst (λ (k : LeaderAndIsr). DoesUnder k old new (Receive (AnswersOf a)) (Refused refusal)) (sym same) (refused.1 (AnswersOf a) is))
diverging_refused c shown old new r end _ refusal back is under held done = absurd cc

-- what the controller is asked, and what it decides
proposed : {l m : Proposal} → Proposing l ≡ Proposing m → l ≡ m
proposed e = cc

decided : {l m : Decision} → Deciding l ≡ Deciding m → l ≡ m
decided e = cc

decision_came : (d : Decision) (m : Message) → letter_of m ≡ Deciding d → Decides d ≡ m
decision_came d (Decides e) is = ap Decides (sym (decided is))
decision_came d _ is = absurd cc

proposal_is : (p : Proposal) (m : Message) → letter_of m ≡ Proposing p → Proposes p ≡ m
proposal_is p (Proposes q) is = ap Proposes (sym (proposed is))
proposal_is p _ is = absurd cc

pub proposal_came : (c : LeaderAndIsr) (x : NumberedNode) (p : Proposal) (m : Message) → letter_of m ≡ Proposing p → is_down x.state.mode ≡ false
    → DoesUnder c x x (Receive m) (Refused refusals.StaleAnswer)
proposal_came c x p m is up = subst (λ (m : Message). DoesUnder c x x (Receive m) (Refused refusals.StaleAnswer)) (proposal_is p m is) (refuses_proposal c x p up)

pub learned_came : (c : LeaderAndIsr) (old new : NumberedNode) (d : Decision) (m : Message) (r : Result LearnedIsr Refusal) → letter_of m ≡ Deciding d
    → Does old new (Receive (Decides d)) (learned_reply r) → DoesUnder c old new (Receive m) (learned_reply r)
learned_came c old new d m r is does = subst (λ (m : Message). DoesUnder c old new (Receive m) (learned_reply r)) (decision_came d m is) (does c)

-- ---- receipts

-- what an act answers names a batch of the log that is left
plain_stands : (act : PlainAct) (new : NumberedNode) (e : Effect) → FitsPlain act new e → NamesIn new.state.log (Ok e)
plain_stands (acts.Mark handed) new e fits =
    let r = fits.2 in
    subst (λ (x : Effect). NamesIn new.state.log (Ok x)) (sym fits.1) (r.batch, r.stands, r.named)
plain_stands acts.Stop new e fits = subst (λ (x : Effect). NamesIn new.state.log (Ok x)) (sym fits) tt
plain_stands acts.Restart new e fits = subst (λ (x : Effect). NamesIn new.state.log (Ok x)) (sym (fits.1 ∙ ap Answers fits.2.3)) tt
plain_stands _ new e fits = subst (λ (x : Effect). NamesIn new.state.log (Ok x)) (sym fits.1) tt

pub receipt_stands : (act : CodeAct) (old new : NumberedNode) (outcome : Result Effect Refusal) → IfOk outcome (Fits act old new) → NamesIn new.state.log outcome
receipt_stands act old new (Err f) fits = tt
receipt_stands (Produce bytes) old new (Ok e) fits =
    let r = fits.2 in
    subst (λ (x : Effect). NamesIn new.state.log (Ok x)) (sym fits.1) (r.batch, r.stands, r.named)
receipt_stands (Plain act) old new (Ok e) fits = plain_stands act new e fits
