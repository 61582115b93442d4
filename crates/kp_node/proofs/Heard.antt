-- What a run knows of a message that comes to one of its nodes: the logs in it are logs, and kin.
use Rattle.std.proofs.Common.{◌≡◌, ℕ, false, List, [], ◌∷◌, Option, Some, None, refl, sym, ap, subst, ◌∙◌, inl, inr}
use Rattle.kp_model.specs.declared.message.EpochEnd.{EpochEnd}
use Rattle.kp_model.specs.declared.message.FetchRequest.{FetchRequest}
use Rattle.kp_model.specs.Log.{Batch, IsLog, IsKin}
use Rattle.kp_model.specs.World.{Node, Request, Answer, Proposal, Decision, Message, Asks, Answers, Proposes, Decides, IsSent}
use Rattle.kp_model.specs.Event.{Receive}
use Rattle.kp_model.specs.Letter.{Answering, Diverging, FetchLetter, Fetching, Proposing, Deciding, answering_of, answered_letter, letter_of}
use Rattle.kp_model.specs.Fetching.{is_covered}
use Rattle.kp_model.specs.Laws.{KeepsMark, StandsIn}
use Rattle.kp_model.specs.Run.{Run, last}
use Rattle.kp_model.proofs.OneStep.Letters.{tells}
use Rattle.kp_model.proofs.InRuns.MessageLogs.{runs_keep_logs, runs_keep_kin}
use Rattle.kp_model.proofs.InRuns.RunLaws.{last_is_of}
use Rattle.kp_replica.specs.Cutting.{diverging, told_end}
use Rattle.kp_board.specs.Views.{no_message}
use Rattle.kp_node.proofs.Judged.{none_some, some_is}

-- the message that a pass was told of last
abbrev pub first_told : List Message → Message
first_told [] = no_message
first_told (m ∷ ms) = m

-- ---- which message has a letter

pub fetched : {l k : FetchLetter} → Fetching l ≡ Fetching k → l ≡ k
fetched e = cc

pub record IsRequest (m : Message) : Type 0 where
  pub request : Request
  pub is : m ≡ Asks request

pub request_in : (m : Message) (l : FetchLetter) → l.answering ≡ None → letter_of m ≡ Fetching l → IsRequest m
request_in (Asks r) l none e = record { request = r; is = refl }
request_in (Answers a) l none e = absurd (none_some (answering_of a) (sym (ap (λ (k : FetchLetter). k.answering) (fetched e) ∙ none)))
request_in _ l none e = absurd cc

pub record IsAnswer (m : Message) : Type 0 where
  pub answer : Answer
  pub is : m ≡ Answers answer

pub answer_in : (m : Message) (l : FetchLetter) (given : Answering) → l.answering ≡ Some given → letter_of m ≡ Fetching l → IsAnswer m
answer_in (Asks r) l given some e = absurd (none_some given (ap (λ (k : FetchLetter). k.answering) (fetched e) ∙ some))
answer_in (Answers b) l given some e = record { answer = b; is = refl }
answer_in _ l given some e = absurd cc

pub proposal_in : (m : Message) (p : Proposal) → letter_of m ≡ Proposing p → m ≡ Proposes p
proposal_in (Proposes q) p e = let same : q ≡ p = cc in ap Proposes same
proposal_in _ p e = absurd cc

pub decision_in : (m : Message) (d : Decision) → letter_of m ≡ Deciding d → m ≡ Decides d
decision_in (Decides q) d e = let same : q ≡ d = cc in ap Decides same
decision_in _ d e = absurd cc

-- an answer that tells where the logs diverge is one to a request that the leader's log doesn't cover
pub has_none : (b : Answer) (r : FetchRequest) (end : Option EpochEnd) → answered_letter b ≡ diverging r end → is_covered b.log b.request ≡ false
has_none b r end e = (tells b (told_end end) (some_is (answering_of b) (Diverging (told_end end)) (ap (λ (k : FetchLetter). k.answering) e))).covered

-- a request keeps the watermark
pub asks_keep : (m : Message) (l : FetchLetter) → l.answering ≡ None → letter_of m ≡ Fetching l → KeepsMark (Receive m)
asks_keep m l none e = let q = request_in m l none e in subst (λ (z : Message). KeepsMark (Receive z)) (sym q.is) tt

-- ---- the logs of a request that comes to a node which is x, and of an answer

pub record AskedWell (x : Node) (r : Request) : Type 0 where
  pub log : IsLog r.log
  pub kin : IsKin r.log x.log

pub record AnsweredWell (x : Node) (a : Answer) : Type 0 where
  pub log : IsLog a.log
  pub asked : IsLog a.request.log
  pub own : IsKin a.request.log x.log
  pub kin : IsKin a.request.log a.log

module _ (n : ℕ) (r : Run n) (k : ℕ) (x : Node) (at : (last r).nodes k ≡ x) where
  here : StandsIn (last r) x.log
  here = inl (k, sym (ap (λ (y : Node). y.log) at))

  pub own_log : IsLog x.log
  own_log = runs_keep_logs n r (last r) (last_is_of n r) x.log here

  are_kin : (one other : List Batch) → StandsIn (last r) one → StandsIn (last r) other → IsKin one other
  are_kin = runs_keep_kin n r (last r) (last r) (last_is_of n r) (last_is_of n r)

  pub asked_well : (q : Request) → IsSent (last r).messages (Asks q) → AskedWell x q
  asked_well q sent =
      let there : StandsIn (last r) q.log = inr (Asks q, sent, refl) in
      record { log = runs_keep_logs n r (last r) (last_is_of n r) q.log there; kin = are_kin q.log x.log there here }

  pub answered_well : (a : Answer) → IsSent (last r).messages (Answers a) → AnsweredWell x a
  answered_well a sent =
      let there : StandsIn (last r) a.log = inr (Answers a, sent, inr refl) in
      let asked : StandsIn (last r) a.request.log = inr (Answers a, sent, inl refl) in
      record {
        log = runs_keep_logs n r (last r) (last_is_of n r) a.log there;
        asked = runs_keep_logs n r (last r) (last_is_of n r) a.request.log asked;
        own = are_kin a.request.log x.log asked here;
        kin = are_kin a.request.log a.log asked there;
      }
