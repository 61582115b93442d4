-- The acts of the definitions that the code's acts are.
use Rattle.std.proofs.Common.{Result, refl, sym, ap, ◌∙◌, subst}
use Rattle.kp_types.specs.declared.refusal.Refusal.{Refusal}
use Rattle.kp_batch.specs.Batch.{Body}
use Rattle.kp_model.specs.Event as model
use Rattle.kp_replica.specs.Acts.{IsAsked, plain_act}
use Rattle.kp_replica.specs.Laws.{ActsAreAsked, ActsAreTold, ActsAreToldOnce}
use Rattle.kp_replica.specs.Offers.{BytesAreAnOffer, OffersAreOne}
use Rattle.kp_replica.specs.declared.act.Act.TheVariants.{Produce, Plain}
use Rattle.kp_replica.specs.declared.act.PlainAct.{PlainAct}
use Rattle.kp_replica.specs.declared.act.PlainAct.TheVariants.{Alter}
use Rattle.kp_replica.specs.declared.altering.IsrChange.TheVariants.{Join, Leave}

pub act_told : BytesAreAnOffer → ActsAreTold
act_told some max (Produce bytes) h =
    let offered = some max bytes h in
    (model.Produce offered.0, (offered.0, offered.1, refl))
act_told some max (Plain act) h = (plain_act act, refl)

pub act_told_once : OffersAreOne → ActsAreToldOnce
act_told_once one max (Produce bytes) a b h (offer, of, is) (other, from, was) =
    is ∙ ap (λ (o : Result Body Refusal). model.Produce o) (one max bytes offer other h of from) ∙ sym was
act_told_once one max (Plain act) a b h is was = is ∙ sym was

pub plain_asked : (act : PlainAct) → IsAsked (plain_act act)
plain_asked (Alter (Join m)) = tt
plain_asked (Alter (Leave m)) = tt
plain_asked _ = tt

pub act_asked : ActsAreAsked
act_asked max (Produce bytes) a is = subst IsAsked (sym is.2) tt
act_asked max (Plain act) a is = subst IsAsked (sym is) (plain_asked act)
