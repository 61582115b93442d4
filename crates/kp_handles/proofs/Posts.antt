-- What a message's handle is left with.
use Rattle.std.proofs.Common.{◌≡◌, sym, ap, subst, ◌∙◌}
use Rattle.std.specs.Prelude.{Option, Some, Result, Ok, Err}
use Rattle.kp_types.specs.declared.refusal.Refusal.{Refusal}
use Rattle.kp_handles.specs.Messages.{StepMet, StepCalled, DecideMet, DecideCalled}
use Rattle.kp_handles.proofs.Bad.{step_kind, decide_kind}
use Rattle.kp_handles.specs.Objects.{ObjectView}
use Rattle.kp_handles.specs.declared.misuse.Misuse.{Misuse}

pub met_as : (old new l : ObjectView) (r s : Option ObjectView × Result (Result (Unit {0}) Refusal) Misuse)
    → r ≡ s → StepMet old new l s.0 s.1 → StepMet old new l r.0 r.1
met_as old new l r s e met = subst (λ (x : Option ObjectView × Result (Result (Unit {0}) Refusal) Misuse). StepMet old new l x.0 x.1) (sym e) met

pub decided_as : (old new l : ObjectView) (r s : Option ObjectView × Result (Result (Unit {0}) Refusal) Misuse)
    → r ≡ s → DecideMet old new l s.0 s.1 → DecideMet old new l r.0 r.1
decided_as old new l r s e met = subst (λ (x : Option ObjectView × Result (Result (Unit {0}) Refusal) Misuse). DecideMet old new l x.0 x.1) (sym e) met

pub step_of : (old new l k : ObjectView) (left : Option ObjectView) (r : Result (Result (Unit {0}) Refusal) Misuse)
    → StepMet old new k left r → l ≡ k → StepMet old new l left r
step_of old new l k left r met e = subst (λ (o : ObjectView). StepMet old new o left r) (sym e) met

pub decide_of : (old new l k : ObjectView) (left : Option ObjectView) (r : Result (Result (Unit {0}) Refusal) Misuse)
    → DecideMet old new k left r → l ≡ k → DecideMet old new l left r
decide_of old new l k left r met e = subst (λ (o : ObjectView). DecideMet old new o left r) (sym e) met

module _ (o o' l : ObjectView) (left n n' m m' : Option ObjectView) where
  pub step_called : (r : Result (Result (Unit {0}) Refusal) Misuse) → StepMet o o' l left r → n ≡ Some o → n' ≡ Some o' → m ≡ Some l → m' ≡ left → StepCalled n n' m m' r
  step_called (Ok done) (x, y, body, pass, e, e', f, took) en en' em em' =
      (x, y, body, pass, left, en ∙ ap (λ (v : ObjectView). Some v) e, en' ∙ ap (λ (v : ObjectView). Some v) e', em ∙ ap (λ (v : ObjectView). Some v) f, took, em')
  step_called (Err why) (is, same, kept, never) en en' em em' = (en' ∙ ap (λ (v : ObjectView). Some v) same ∙ sym en, em' ∙ kept ∙ sym em, step_kind why n m o l is en em never)

  pub decide_called : (r : Result (Result (Unit {0}) Refusal) Misuse) → DecideMet o o' l left r → n ≡ Some o → n' ≡ Some o' → m ≡ Some l → m' ≡ left → DecideCalled n n' m m' r
  decide_called (Ok done) (k, c, d, body, pass, e, e', f, chosen) en en' em em' =
      (k, c, d, body, pass, left, en ∙ ap (λ (v : ObjectView). Some v) e, en' ∙ ap (λ (v : ObjectView). Some v) e', em ∙ ap (λ (v : ObjectView). Some v) f, chosen, em')
  decide_called (Err why) (is, same, kept, never) en en' em em' = (en' ∙ ap (λ (v : ObjectView). Some v) same ∙ sym en, em' ∙ kept ∙ sym em, decide_kind why n m o l is en em never)
