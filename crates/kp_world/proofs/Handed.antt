-- What a client's bytes lead on to, where their receipt alone is told.
use Rattle.std.proofs.Common.{◌≡◌, ◌≢◌, ◌<◌, ℕ, List, [], ◌∷◌, ◌++◌, length, get_or, Result, Ok, Err, refl, sym, ap, ◌∙◌, subst, append-nil}
use Rattle.std.specs.Prelude.{IfOk}
use Rattle.kp_types.specs.declared.limits.Limits.{Limits}
use Rattle.kp_types.specs.declared.refusal.Refusal.{Refusal}
use Rattle.kp_types.specs.declared.refusal.Refusal.TheVariants as refusals
use Rattle.kp_batch.specs.Batch.{Body}
use Rattle.kp_model.specs.Admission.{admit, Duplicate}
use Rattle.kp_model.specs.Event.{Acts, Produce}
use Rattle.kp_model.specs.Laws.{EpochsAreElected}
use Rattle.kp_model.specs.Letter.{Letter}
use Rattle.kp_model.specs.Log.{Batch}
use Rattle.kp_model.specs.World.{LeaderAndIsr}
use Rattle.kp_replica.specs.Acts.{Comes, NamesIn, TakesNoMemory, letters_in}
use Rattle.kp_replica.specs.NumberedNode.{NumberedNode, Does, DoesUnder}
use Rattle.kp_replica.specs.Replies.{IsOffer, IsReceiptOf, receipt_reply}
use Rattle.kp_replica.specs.declared.act.Answer.TheVariants.{Appended}
use Rattle.kp_replica.specs.declared.act.Effect.{Effect}
use Rattle.kp_replica.specs.declared.act.Effect.TheVariants.{Answers}
use Rattle.kp_replica.specs.declared.producing.Receipt.{Receipt}
use Rattle.kp_replica.proofs.Acting.{IsMadeOf, answering, refusing, spared_too}
use Rattle.kp_world.specs.Answers.{IsTold, appended}
use Rattle.kp_world.specs.Plays.{LeadOn}
use Rattle.kp_world.specs.Shown.{Stage, next, next_number}
use Rattle.kp_world.proofs.Moved.{acted}

-- what came of the bytes
abbrev pub effect_of : Result Receipt Refusal → Result Effect Refusal
effect_of (Ok receipt) = Ok (Answers (Appended receipt))
effect_of (Err refusal) = Err refusal

told_of : (count : ℕ) (r : Result Receipt Refusal) → IsTold count (effect_of r) (appended r)
told_of count (Ok receipt) = refl
told_of count (Err refusal) = refl

made_so : (r : Result Receipt Refusal) → IsMadeOf Receipt Effect (λ receipt. Answers (Appended receipt)) r (effect_of r)
made_so (Ok receipt) = refl
made_so (Err refusal) = refl

-- no message is sent
none_sent : (r : Result Receipt Refusal) → letters_in (effect_of r) ≡ []
none_sent (Ok receipt) = refl
none_sent (Err refusal) = refl

pub sends_none : (letters : List Letter) (r : Result Receipt Refusal) → letters ≡ letters ++ letters_in (effect_of r)
sends_none letters r = sym (ap (λ (ls : List Letter). letters ++ ls) (none_sent r) ∙ append-nil letters)

named : (max : ℕ) (bytes : List ℕ) (log : List Batch) (r : Result Receipt Refusal) → IfOk r (λ receipt. IsReceiptOf max bytes log receipt) → NamesIn log (effect_of r)
named max bytes log (Ok receipt) is = (is.batch, is.stands, is.named)
named max bytes log (Err refusal) is = tt

came : (c : LeaderAndIsr) (x m : NumberedNode) (offer : Result Body Refusal) (r : Result Receipt Refusal) → DoesUnder c x m (Produce offer) (receipt_reply r) → Comes c x m (Produce offer) (effect_of r)
came c x m offer (Ok receipt) does = answering c x m (Produce offer) (Appended receipt) does
came c x m offer (Err refusal) does = refusing c x m (Produce offer) refusal does

spared_so : (max : ℕ) (bytes : List ℕ) (x : NumberedNode) (offer : Result Body Refusal) (r : Result Receipt Refusal)
    → ((body : Body) → (base : ℕ) → IsOffer max bytes (Ok body) → admit x.state.log body.content ≡ Duplicate base → r ≢ Err refusals.Memory) → IsOffer max bytes offer
    → TakesNoMemory x.state (Produce offer) → effect_of r ≢ Err refusals.Memory
spared_so max bytes x (Ok body) r spared is (lawful, base, twice) =
    spared_too Receipt Effect (λ receipt. Answers (Appended receipt)) r (effect_of r) (made_so r) (spared body base is twice)
spared_so max bytes x (Err refusal) r spared is takes = absurd takes

-- the bytes came to the node x at place i, which is its number, and it became m
pub handed : EpochsAreElected → (limits : Limits) (n i : ℕ) (stage : Stage) (x m : NumberedNode) (bytes : List ℕ) (offer : Result Body Refusal) (r : Result Receipt Refusal) → i ≡ n
    → n < length stage.nodes → x ≡ get_or stage.nodes i x → IsOffer limits.max_batch bytes offer → IfOk r (λ receipt. IsReceiptOf x.limits.max_batch bytes m.state.log receipt)
    → ((body : Body) → (base : ℕ) → IsOffer x.limits.max_batch bytes (Ok body) → admit x.state.log body.content ≡ Duplicate base → r ≢ Err refusals.Memory)
    → ((offer : Result Body Refusal) → IsOffer x.limits.max_batch bytes offer → Does x m (Produce offer) (receipt_reply r))
    → LeadOn limits stage (Acts n (Produce offer) ∷ []) (appended r ∷ []) (next stage i m (effect_of r))
handed elected_all limits n i stage x m bytes offer r same inside there is receipt spared did =
    acted elected_all limits n i stage x m (Produce offer) (effect_of r) (appended r) same inside there tt (told_of (next_number stage) r) (named x.limits.max_batch bytes m.state.log r receipt)
    (λ of. spared_so x.limits.max_batch bytes x offer r spared (subst (λ (l : Limits). IsOffer l.max_batch bytes offer) (sym of) is))
    (λ of c looks run. came c x m offer r (did offer (subst (λ (l : Limits). IsOffer l.max_batch bytes offer) (sym of) is) c))
