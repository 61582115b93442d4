-- A node that adopts a record does so in one way.
use Rattle.std.proofs.Common.{◌≡◌, ℕ, true, false, Option, Some, None, refl, sym, ap, subst, ◌∙◌, inl, inr}
use Rattle.std.specs.Prelude.{not, ◌==◌, if◌then◌else◌}
use Rattle.std.specs.Option.{option_map_or}
use Rattle.std.proofs.lemmas.Bool.{false≢true}
use Rattle.kp_types.specs.declared.refusal.Refusal.{Refusal}
use Rattle.kp_model.specs.World.{Leader, LeaderAndIsr, Node}
use Rattle.kp_model.specs.Event.{Adopt}
use Rattle.kp_model.specs.Effect.{Effect, is_down, mode_epoch}
use Rattle.kp_model.specs.Adopting.{Adopts, is_news, is_above}
use Rattle.kp_model.specs.Local.{Local, LocalBy, cause}
use Rattle.kp_model.specs.Calls.{adopted_by}
use Rattle.kp_model.specs.Laws.{AdoptingIsOne}
use Rattle.kp_types.proofs.Causes.{passed}

-- a record without a leader is no news
no_leader : (c : LeaderAndIsr) (n : ℕ) (x : Node) → c.leader ≡ None → cause c n x Adopt ≡ None → ⊥
no_leader c n x none free =
    let news = passed (not (is_news c n x)) _ _ (passed (is_down x.mode) _ _ free).1 in
    let old : not (is_news c n x) ≡ true = ap (λ (o : Option Leader). not (option_map_or (λ l. is_above (if l.node == n then x.kept else mode_epoch x.mode) l.epoch) o false)) none in
    false≢true (sym news.0 ∙ old)

so_by : (o : Option Refusal) (leader : Option Leader) (c : LeaderAndIsr) (n : ℕ) (x : Node) → cause c n x Adopt ≡ o → c.leader ≡ leader → LocalBy o c n x Adopt (adopted_by o leader c n x)
so_by (Some refusal) leader c n x e l = refl
so_by None None c n x e l = absurd (no_leader c n x l e)
so_by None (Some leader) c n x e l = inl (subst (λ (o : Option Leader). Adopts c n x o (adopted_by None (Some leader) c n x)) (sym l) refl)

adopts_one : (leader : Option Leader) (c : LeaderAndIsr) (n : ℕ) (x : Node) (e : Effect) → Adopts c n x leader e → e ≡ adopted_by None leader c n x
adopts_one None c n x e h = absurd h
adopts_one (Some l) c n x e h = h

one_by : (o : Option Refusal) (c : LeaderAndIsr) (n : ℕ) (x : Node) (e : Effect) → LocalBy o c n x Adopt e → e ≡ adopted_by o c.leader c n x
one_by (Some refusal) c n x e h = h
one_by None c n x e (inl h) = adopts_one c.leader c n x e h
one_by None c n x e (inr h) = absurd h

pub adopting_is_one : AdoptingIsOne
unfolding Local
adopting_is_one c n x = (so_by (cause c n x Adopt) c.leader c n x refl refl, λ e h. one_by (cause c n x Adopt) c n x e h)
