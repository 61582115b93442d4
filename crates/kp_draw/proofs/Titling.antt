-- The titles of a run's events, one call after another.
use Rattle.std.proofs.Common.{◌≡◌, ◌∙◌, ℕ, ◌-◌, Bool, true, false, List, [], ◌∷◌, ◌++◌, None, cond, length, length-append, map, take, refl, sym, ap, subst, arith, append_assoc}
use Rattle.std.specs.Prelude.{filter}
use Rattle.std.specs.List.{zip}
use Rattle.std.proofs.Math.Seq.{take-append_seam}
use Rattle.std.proofs.lemmas.List.{length-map, map-append}
use Rattle.std.proofs.lemmas.List.Elements.{filter-append}
use Rattle.kp_model.specs.Event.{Outcome}
use Rattle.kp_model.specs.Laws.{NoDeliveryIsRefusedOddly, RunsAreSafe}
use Rattle.kp_model.specs.World.{start}
use Rattle.kp_world.specs.Answers.{outcome_of}
use Rattle.kp_world.specs.Shown.{IsShown, Stage}
use Rattle.kp_script.specs.Call.{Call, Header, call_text, node_of}
use Rattle.kp_script.specs.Ended.{limits_in}
use Rattle.kp_script.specs.Playing.{PlaysOne}
use Rattle.kp_script.specs.Script.{Script, IsScript}
use Rattle.kp_script.specs.Trace.{trace_line}
use Rattle.kp_script.specs.Transcript.{no_past}
use Rattle.kp_script.proofs.Played.{answers_many, played_none, played_on, traced}
use Rattle.kp_draw.specs.Drawing.{IsSvg}
use Rattle.kp_draw.specs.Pictured.{IsPicture, is_among, title_of, titles_of}
use Rattle.kp_draw.specs.Rows.{Adds, Stands, Titles}
use Rattle.kp_draw.specs.declared.lines.Lines.{Lines}

zip_more : (xs ys : List (ℕ × Call)) (os ps : List Outcome) → length xs ≡ length os → zip (xs ++ ys) (os ++ ps) ≡ zip xs os ++ zip ys ps
zip_more [] ys [] ps e = refl
zip_more [] ys (o ∷ os) ps e = absurd (omega arith)
zip_more (x ∷ xs) ys [] ps e = absurd (omega arith)
zip_more (x ∷ xs) ys (o ∷ os) ps e = ap (λ (rest : List ((ℕ × Call) × Outcome)). (x, o) ∷ rest) (zip_more xs ys os ps (omega arith))

titles_more : (part : Lines) (calls others : List (ℕ × Call)) (os ps : List Outcome) → length calls ≡ length os
    → titles_of part (calls ++ others) (os ++ ps) ≡ titles_of part calls os ++ titles_of part others ps
titles_more part calls others os ps e =
    ap (λ (all : List ((ℕ × Call) × Outcome)). map titled (filter among all)) (zip_more calls others os ps e)
    ∙ ap (map titled) (filter-append among (zip calls os) (zip others ps)) ∙ map-append titled (filter among (zip calls os)) (filter among (zip others ps))
  where
    among : (ℕ × Call) × Outcome → Bool
    among event = is_among part event.0.0

    titled : (ℕ × Call) × Outcome → List ℕ
    titled event = title_of event.0 event.1

-- ---- one call

-- the title of a call that is drawn, or not
pub drawn_one : (part : Lines) (call : ℕ × Call) (outcome : Outcome) → is_among part call.0 ≡ true → titles_of part (call ∷ []) (outcome ∷ []) ≡ title_of call outcome ∷ []
drawn_one part call outcome e = ap (λ (b : Bool). map (λ (event : (ℕ × Call) × Outcome). title_of event.0 event.1) (cond b ((call, outcome) ∷ []) [])) e

pub passed_one : (part : Lines) (call : ℕ × Call) (outcome : Outcome) → is_among part call.0 ≡ false → titles_of part (call ∷ []) (outcome ∷ []) ≡ []
passed_one part call outcome e = ap (λ (b : Bool). map (λ (event : (ℕ × Call) × Outcome). title_of event.0 event.1) (cond b ((call, outcome) ∷ []) [])) e

-- a title is what was told but for the last line feed
told_title : (call : ℕ × Call) (outcome : Outcome) → (call_text call.1 ++ 10 ∷ []) ++ trace_line call.0 (node_of call.1) outcome ≡ title_of call outcome ++ 10 ∷ []
told_title call outcome = simp append_assoc

pub titled : (call : ℕ × Call) (old new : Stage) (refused : ℕ) (line before text title : List ℕ) (last : ℕ) → line ≡ call_text call.1 → before ≡ line ++ 10 ∷ []
    → PlaysOne call old new refused before text → last ≡ length text - 1 → title ≡ take last text → Titles call old new title
titled call old new refused line before text title last line_is before_is p last_is title_is =
    let whole : text ≡ title_of call (outcome_of p.answer) ++ 10 ∷ [] =
    p.text_is ∙ ap (λ (front : List ℕ). front ++ trace_line call.0 (node_of call.1) (outcome_of p.answer)) (before_is ∙ ap (λ (front : List ℕ). front ++ 10 ∷ []) line_is) ∙ told_title call (outcome_of p.answer) in
    let short : last ≡ length (title_of call (outcome_of p.answer)) =
    last_is ∙ ap (λ (t : List ℕ). length t - 1) whole ∙ omega (arith, length-append (title_of call (outcome_of p.answer)) (10 ∷ [])) in
    record {
      answer = p.answer;
      lead = p.lead;
      title_is =
          title_is ∙ ap (λ (n : ℕ). take n text) short ∙ ap (take (length (title_of call (outcome_of p.answer)))) whole
          ∙ take-append_seam (title_of call (outcome_of p.answer)) (10 ∷ []);
    }

pub adds_drawn : (part : Lines) (call : ℕ × Call) (old new : Stage) (title : List ℕ) (before after : List (List ℕ)) → is_among part call.0 ≡ true → Titles call old new title → after ≡ before ++ title ∷ []
    → Adds part call old new before after
adds_drawn part call old new title before after among t is =
    record {
      answer = t.answer;
      lead = t.lead;
      titles_are = is ∙ ap (λ (xs : List (List ℕ)). before ++ xs) (ap (λ (x : List ℕ). x ∷ []) t.title_is ∙ sym (drawn_one part call (outcome_of t.answer) among));
    }

pub adds_nothing : (part : Lines) (call : ℕ × Call) (old new : Stage) (title : List ℕ) (before after : List (List ℕ)) → is_among part call.0 ≡ false → Titles call old new title → after ≡ before ++ []
    → Adds part call old new before after
adds_nothing part call old new title before after among t is =
    record {
      answer = t.answer;
      lead = t.lead;
      titles_are = is ∙ ap (λ (xs : List (List ℕ)). before ++ xs) (sym (passed_one part call (outcome_of t.answer) among));
    }

-- ---- one call after another

pub stands_none : (part : Lines) (header : Header) (stage : Stage) → IsShown (limits_in header) stage (start header.count) → Stands part header [] stage []
stands_none part header stage shown = record { refused = 0; played = played_none header stage None shown; titles_are = refl }

pub stands_more : (part : Lines) (header : Header) (done : List (ℕ × Call)) (call : ℕ × Call) (old new : Stage) (before after : List (List ℕ)) → Stands part header done old before
    → Adds part call old new before after → Stands part header (done ++ call ∷ []) new after
stands_more part header done call old new before after s a =
    let next = played_on no_past header done (call ∷ []) old new s.refused s.played (a.answer ∷ []) a.lead in
    let many : length done ≡ length (map outcome_of s.played.answers) =
    sym (length-map done (λ (one : ℕ × Call). (one.0, node_of one.1))) ∙ answers_many no_past header done old s.refused None None s.played in
    let outcomes : map outcome_of next.0.answers ≡ map outcome_of s.played.answers ++ outcome_of a.answer ∷ [] =
    ap (map outcome_of) next.1 ∙ map-append outcome_of s.played.answers (a.answer ∷ []) in
    record {
      refused = _;
      played = next.0;
      titles_are =
          a.titles_are ∙ ap (λ (xs : List (List ℕ)). xs ++ titles_of part (call ∷ []) (outcome_of a.answer ∷ [])) s.titles_are
          ∙ sym (titles_more part done (call ∷ []) (map outcome_of s.played.answers) (outcome_of a.answer ∷ []) many) ∙ ap (titles_of part (done ++ call ∷ [])) (sym outcomes);
    }

-- ---- the whole picture

pub pictured : RunsAreSafe → NoDeliveryIsRefusedOddly → (part : Lines) (input bytes : List ℕ) (script : Script) (stage : Stage) (titles : List (List ℕ)) → IsScript input script
    → Stands part script.header script.calls stage titles → IsSvg titles bytes → IsPicture part input bytes
pictured safe odd part input bytes script stage titles spelled s svg =
    record {
      text = _;
      refused = s.refused;
      transcript = record { script = script; spelled = spelled; trace = traced safe odd no_past script.header script.calls stage s.refused None None s.played };
      svg = subst (λ (all : List (List ℕ)). IsSvg all bytes) s.titles_are svg;
    }
