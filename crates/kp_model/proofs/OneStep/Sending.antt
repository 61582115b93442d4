-- What it takes that a node asked, or served a request.
use Rattle.std.proofs.Common.{◌≡◌, ℕ, Bool, true, false, Some, refl, sym, ap, ◌∙◌, subst, inl, inr}
use Rattle.std.specs.Prelude.{if◌then◌else◌}
use Rattle.std.proofs.lemmas.Bool.{false≢true}
use Rattle.kp_model.specs.Log.{IsLog, IsKin, end_of}
use Rattle.kp_model.specs.World.{Leading, Following, Mode, Leads, Follows, Node, Request, Asks, Answers}
use Rattle.kp_model.specs.Event.{Ask, Receive}
use Rattle.kp_model.specs.Letter.{Batches, Diverging, letter_of}
use Rattle.kp_model.specs.Effect.{Effect, WhereLeads, WhereFollows, sends, unless_leads}
use Rattle.kp_model.specs.Fetching.{asked, ask_reply, ask_cause, last_epoch, reporting, piece, answer, epoch_answer, is_covered, serve_cause, Serves}
use Rattle.kp_model.specs.Calls.{reply_by, DoesSending}
use Rattle.kp_model.specs.Laws.{ServeIsTheStep}
use Rattle.kp_model.proofs.OneStep.Steps.{happened}
use Rattle.kp_model.proofs.Plain.Shown.{covered_begins, begins_covered}

-- a follower that asks
pub asks : (n : ℕ) (x : Node) (f : Following) → x.mode ≡ Follows f → DoesSending n x x Ask (letter_of (Asks (asked n x f)))
asks n x f mode =
    let r = asked n x f in
    record {
      message = Asks r;
      letter_is = refl;
      local = λ c.
          let effect : Effect = sends x (Asks r) (ask_reply r) in
          happened c n x Ask effect (ap ask_cause mode)
          (subst (λ (m : Mode). WhereFollows m (λ g. effect ≡ sends x (Asks (asked n x g)) (ask_reply (asked n x g)))) (sym mode) refl);
    }

-- what a leader sends to a request that it covers, or doesn't
abbrev sent_by : Node → Leading → Request → Bool → Effect
sent_by x l r covered =
    sends (if covered then record x { mode = Leads (reporting l r.from (end_of r.log)) } else x) (Answers (answer x r))
    (reply_by (end_of r.log) (last_epoch r.log) (Some (if covered then Batches (piece x.log r) x.watermark else Diverging (epoch_answer x.log r))))

serves_by : (x : Node) (l : Leading) (r : Request) → IsLog x.log → IsLog r.log → IsKin r.log x.log → (covered : Bool) → is_covered x.log r ≡ covered → Serves x r l (sent_by x l r covered)
serves_by x l r h q k true e = inl (covered_begins r.log x.log q h k e, refl)
serves_by x l r h q k false e = inr (λ p. false≢true (sym e ∙ begins_covered r.log x.log h p), refl)

-- a leader that answers a request of its epoch
pub serve_is_the_step : ServeIsTheStep
serve_is_the_step n x l r mode h q k free =
    record {
      message = Answers (answer x r);
      letter_is = refl;
      local = λ c.
          let effect : Effect = sent_by x l r (is_covered x.log r) in
          happened c n x (Receive (Asks r)) effect (ap (λ (m : Mode). unless_leads m (serve_cause x.log r)) mode ∙ free)
          (subst (λ (m : Mode). WhereLeads m (λ k. Serves x r k effect)) (sym mode) (serves_by x l r h q k (is_covered x.log r) refl));
    }
