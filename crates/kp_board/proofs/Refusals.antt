-- A refusal that a `?` hands on.
use Rattle.std.proofs.Common.{◌≡◌, Result, Ok, Err, IfErr, sym, subst}
use Rattle.std.specs.Prelude.{IsErrAnd}
use Rattle.kp_types.specs.declared.refusal.Refusal.{Refusal}

pub handed_on : {A : Type 0} (r : Result A Refusal) (f : Refusal) (P : Refusal → Type 0) → IsErrAnd r (λ e. e ≡ f) → P f → IfErr r P
handed_on (Ok x) f P h p = tt
handed_on (Err e) f P h p = subst P (sym h) p
