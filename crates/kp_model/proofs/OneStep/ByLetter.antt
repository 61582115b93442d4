-- What a follower does with an answer that has batches is what the answer's letter comes to.
use Rattle.std.proofs.Common.{◌≡◌, ℕ, Bool, true, List, Option, Some, None, refl, sym, ap, ◌∙◌, subst}
use Rattle.std.specs.Prelude.{if◌then◌else◌}
use Rattle.kp_types.specs.declared.refusal.Refusal.{Refusal}
use Rattle.kp_model.specs.Beginning.{Begins}
use Rattle.kp_model.specs.Log.{Batch, IsLog, IsKin}
use Rattle.kp_model.specs.World.{LeaderAndIsr, Node, Answer, Answers}
use Rattle.kp_model.specs.Event.{Receive}
use Rattle.kp_model.specs.Fetching.{piece, is_covered, take_cause, cut_cause, Continues, Accepts}
use Rattle.kp_model.specs.Local.{Local, cause}
use Rattle.kp_model.specs.Calls.{taken_by, taken_some}
use Rattle.kp_model.specs.Laws.{TakeIsTheStep}
use Rattle.kp_model.proofs.OneStep.Steps.{happened, lacked_memory, was_refused}
use Rattle.kp_model.proofs.Kinship.SoundLogs.{take_facts}
use Rattle.kp_model.proofs.Kinship.Kin.{expected}
use Rattle.kp_model.proofs.Plain.Shown.{covered_begins, shown_same}

module _ (c : LeaderAndIsr) (n : ℕ) (x : Node) (a : Answer) (f : is_covered a.log a.request ≡ true) (h : IsLog x.log) (g : IsLog a.log) (q : IsLog a.request.log) (k : IsKin a.request.log x.log) (l : IsKin a.request.log a.log) where
  -- the node's log is still that of its request, and begins the leader's
  pub continues : take_cause x a ≡ None → Continues x a
  continues free =
      let shown = (expected x a x.mode refl (take_facts x a free).expected).1 in
      record {
        begins = covered_begins a.request.log a.log q g l f;
        same = shown_same a.request.log x.log q h k (sym shown.end) shown.last;
      }

  cause_is : cause c n x (Receive (Answers a)) ≡ take_cause x a
  cause_is = ap (λ (b : Bool). if b then take_cause x a else cut_cause c n x a) f

  takes : (o : Option Refusal) → take_cause x a ≡ o → Local c n x (Receive (Answers a)) (taken_by o x (piece a.log a.request) a.watermark)
  takes (Some refusal) e = was_refused c n x (Receive (Answers a)) refusal (cause_is ∙ e)
  takes None e =
      happened c n x (Receive (Answers a)) (taken_by None x (piece a.log a.request) a.watermark) (cause_is ∙ e)
      (subst (λ (b : Bool). Accepts x a b (taken_by None x (piece a.log a.request) a.watermark)) (sym f) (continues e, refl))

  -- or some of them, where there is no room for more
  takes_some : (some : List Batch) → take_cause x a ≡ None → Begins some (piece a.log a.request) → Local c n x (Receive (Answers a)) (taken_some x some)
  takes_some some free begins =
      lacked_memory c n x (Receive (Answers a)) (taken_some x some) (cause_is ∙ free)
      (f, record { continues = continues free; some = some; begins = begins; effect_is = refl })

pub take_is_the_step : TakeIsTheStep
take_is_the_step c n x a f h g q k l = (takes c n x a f h g q k l (take_cause x a) refl, takes_some c n x a f h g q k l)
