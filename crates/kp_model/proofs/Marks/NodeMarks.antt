-- What each action does to a node's watermark and its checkpoint.
use Rattle.std.proofs.Common.{◌≡◌, ℕ, ◌≤◌, Option, Some, None, refl, sym, ap, subst, arith, inl, inr}
use Rattle.kp_types.specs.declared.refusal.Refusal.{Refusal}
use Rattle.kp_model.specs.World.{LeaderAndIsr, Node, World}
use Rattle.kp_model.specs.Event.{Act, Event, Outcome}
use Rattle.kp_model.specs.Local
use Rattle.kp_model.specs.Effect.{Effect}
use Rattle.kp_model.specs.Local.{LocalBy, Happens, LacksMemory, LacksMemoryFor, Receives, cause}
use Rattle.kp_model.specs.Step.{Step}
use Rattle.kp_model.specs.Laws.{KeepsMark, MarksStay, CheckpointsAreEnds}
use Rattle.kp_model.proofs.OneStep.Steps.{with_node_keeps}
use Rattle.kp_model.proofs.OneStep.Classes.{step_cases, class_of, handed, handed_alone, acting_class}
use Rattle.kp_model.proofs.OneStep.Parts.{MarkPart, MarksStay as MarksAreLeft, MarkRises, MarkIsNoted, MarkGoesBack, parts_of}
use Rattle.kp_model.proofs.InRuns.Runs.{holds_in}
use Rattle.kp_model.proofs.Safety.Known.{known}

-- the checkpoint isn't above the watermark
abbrev IsFit : Node → Type 0
IsFit x = x.checkpoint ≤ x.watermark

-- where Keeps is so the watermark stays, and a fit node stays fit
record Marked (Keeps : Type 0) (x : Node) (e : Effect) : Type 0 where
  stays : Keeps → e.node.watermark ≡ x.watermark
  fits : IsFit x → IsFit e.node

module _ (c : LeaderAndIsr) (n : ℕ) (x : Node) where
  part_so : (act : Act) (e : Effect) → MarkPart x act e.node.watermark e.node.checkpoint → Marked (KeepsMark act) x e
  part_so act e (MarksAreLeft mark note) = record { stays = λ k. mark; fits = λ h. omega arith }
  part_so act e (MarkRises moves rises note) = record { stays = λ k. absurd (moves k); fits = λ h. omega arith }
  part_so act e (MarkIsNoted mark note) = record { stays = λ k. mark; fits = λ h. omega arith }
  part_so act e (MarkGoesBack moves mark note) = record { stays = λ k. absurd (moves k); fits = λ h. omega arith }

  by_cause : (o : Option Refusal) (act : Act) (e : Effect) → cause c n x act ≡ o → LocalBy o c n x act e → Marked (KeepsMark act) x e
  by_cause (Some r) act e is h = part_so act e (MarksAreLeft (ap (λ (f : Effect). f.node.watermark) h) (ap (λ (f : Effect). f.node.checkpoint) h))
  by_cause None act e is h = part_so act e (parts_of (handed act) c n x act e (class_of (handed act) c n x act e (handed_alone act) is h)).marks

pub marks_stay : MarksStay
unfolding Local.Local
marks_stay c n x act e k h = (by_cause c n x (cause c n x act) act e refl h).stays k

-- ---- in a run

abbrev AreFit : World → Type 0
AreFit w = (n : ℕ) → IsFit (w.nodes n)

step_fits : (w : World) (event : Event) (outcome : Outcome) (new : World) → AreFit w → Step w event outcome new → AreFit new
step_fits w event outcome new h s =
    elim (step_cases w event outcome new s) [
      | inl is ↦ subst AreFit (sym is) h
      | inr done ↦
          elim done [
            | inl e ↦ elim e [ inl chosen ↦ subst AreFit (sym chosen.new_is) h | inr d ↦ subst AreFit (sym d.new_is) h ]
            | inr a ↦
                subst AreFit (sym a.new_is)
                (with_node_keeps IsFit w.nodes a.node a.effect.node h
                ((part_so w.controller a.node (w.nodes a.node) a.act a.effect (parts_of w.messages w.controller a.node (w.nodes a.node) a.act a.effect (acting_class w new a)).marks).fits (h a.node)))
          ]
    ]

pub checkpoints_are_ends : CheckpointsAreEnds
checkpoints_are_ends count r w i n =
    let mark = (known count r w i).all.held.checkpoints n in (
      record { front = mark.list; begins = mark.begins; ends = mark.ends },
      holds_in AreFit count (λ k. omega arith) step_fits r w i n,
    )
