-- The lines of a script that are left, and the calls that they spell.
use Rattle.std.proofs.Common.{◌≡◌, ◌∙◌, ℕ, ◌+◌, ◌<◌, ◌^◌, List, [], ◌∷◌, ◌++◌, append-nil, append_assoc, refl, sym, ap, subst}
use Rattle.kp_model.specs.World.{start}
use Rattle.kp_world.specs.Shown.{IsShown, Stage}
use Rattle.kp_script.specs.Call.{Call, Header, HasOneCall, IsCall, IsCallText, SpellsNoCall, call_text}
use Rattle.kp_script.specs.Ended.{limits_in}
use Rattle.kp_script.specs.Lines.{counted_from}
use Rattle.kp_script.specs.Script.{Script, IsScript}
use Rattle.kp_draw.specs.Rows.{Adds, Spells, Stands}
use Rattle.kp_draw.specs.declared.lines.Lines.{Lines}
use Rattle.kp_draw.proofs.Titling.{stands_more, stands_none}

first_of_lines : List (ℕ × List ℕ) → ℕ × List ℕ
first_of_lines [] = (0, [])
first_of_lines (x ∷ xs) = x

behind_first : List (ℕ × List ℕ) → List (ℕ × List ℕ)
behind_first [] = []
behind_first (x ∷ xs) = xs

-- The first of these calls is that of this line, and the others are those of the lines behind it.
pub record Next (count number : ℕ) (line rest : List ℕ) (calls : List (ℕ × Call)) : Type 0 where
  pub head : Call
  pub others : List (ℕ × Call)
  pub calls_are : calls ≡ (number, head) ∷ others
  pub line_is : line ≡ call_text head
  pub is : IsCall count head
  pub spells : Spells count (number + 1) rest others

pub next_of : (count from number : ℕ) (bytes line rest : List ℕ) (calls : List (ℕ × Call)) → Spells count from bytes calls
    → counted_from from bytes ≡ (number, line) ∷ counted_from (number + 1) rest → Next count number line rest calls
unfolding first_of_lines behind_first
next_of count from number bytes line rest [] s found = absurd (let e = sym found ∙ s.lines in cc)
next_of count from number bytes line rest (call ∷ calls) s found =
    let e = sym found ∙ s.lines in
    record {
      head = call.1;
      others = calls;
      calls_are = ap (λ (lines : List (ℕ × List ℕ)). ((first_of_lines lines).0, call.1) ∷ calls) (sym e);
      line_is = ap (λ (lines : List (ℕ × List ℕ)). (first_of_lines lines).1) e;
      is = s.lawful.0;
      spells = record { lines = ap behind_first e; lawful = s.lawful.1 };
    }

pub none_left : (count from : ℕ) (bytes : List ℕ) (calls : List (ℕ × Call)) → Spells count from bytes calls → counted_from from bytes ≡ [] → calls ≡ []
none_left count from bytes [] s none = refl
none_left count from bytes (call ∷ calls) s none = absurd (let e = sym none ∙ s.lines in cc)

-- the lines behind a script's header spell its calls
pub behind_header : (bytes : List ℕ) (number : ℕ) (line rest : List ℕ) (script : Script) → IsScript bytes script → counted_from 1 bytes ≡ (number, line) ∷ counted_from (number + 1) rest
    → Spells script.header.count (number + 1) rest script.calls
unfolding behind_first
behind_header bytes number line rest script s found = record { lines = ap behind_first (sym found ∙ s.spelled); lawful = s.calls }

-- a script has a header
pub some_header : (bytes : List ℕ) (script : Script) → IsScript bytes script → counted_from 1 bytes ≡ [] → ⊥
some_header bytes script s none = let e = sym none ∙ s.spelled in cc

-- a line that spells a call is one
pub some_call : {count number : ℕ} {line rest : List ℕ} {calls : List (ℕ × Call)} → Next count number line rest calls → SpellsNoCall count line → ⊥
some_call n none = none n.head n.is n.line_is

-- and no other
pub same_call : HasOneCall → {count number : ℕ} {line rest : List ℕ} {calls : List (ℕ × Call)} → (n : Next count number line rest calls) (call : Call) → count < 2 ^ 64 → IsCallText count line call → call ≡ n.head
same_call one {count} n call small (is, text) = one count call n.head small is n.is (sym text ∙ n.line_is)

-- ---- what has been played of a script, and what is left

-- Of these calls the first ones have been played, and the lines that are left spell the others.
pub record SoFar (part : Lines) (header : Header) (number : ℕ) (rest : List ℕ) (calls : List (ℕ × Call)) (stage : Stage) (titles : List (List ℕ)) : Type 0 where
  pub done : List (ℕ × Call)
  pub left : List (ℕ × Call)
  pub calls_are : calls ≡ done ++ left
  pub spells : Spells header.count number rest left
  pub stands : Stands part header done stage titles

pub so_far_none : (part : Lines) (header : Header) (number : ℕ) (rest : List ℕ) (calls : List (ℕ × Call)) (stage : Stage) → Spells header.count number rest calls
    → IsShown (limits_in header) stage (start header.count) → SoFar part header number rest calls stage []
so_far_none part header number rest calls stage s shown =
    record { done = []; left = calls; calls_are = refl; spells = s; stands = stands_none part header stage shown }

pub so_far_more : HasOneCall → (part : Lines) (header : Header) (from number : ℕ) (bytes line rest : List ℕ) (calls : List (ℕ × Call)) (call : Call) (old new : Stage) (before after : List (List ℕ)) → header.count < 2 ^ 64
    → SoFar part header from bytes calls old before → counted_from from bytes ≡ (number, line) ∷ counted_from (number + 1) rest → IsCallText header.count line call
    → Adds part (number, call) old new before after → SoFar part header (number + 1) rest calls new after
so_far_more one part header from number bytes line rest calls call old new before after small s found text adds =
    let n = next_of header.count from number bytes line rest s.left s.spells found in
    let same : call ≡ n.head = same_call one n call small text in
    record {
      done = s.done ++ (number, n.head) ∷ [];
      left = n.others;
      calls_are = s.calls_are ∙ ap (λ (left : List (ℕ × Call)). s.done ++ left) n.calls_are ∙ sym (append_assoc s.done ((number, n.head) ∷ []) n.others);
      spells = n.spells;
      stands = stands_more part header s.done (number, n.head) old new before after s.stands (subst (λ (c : Call). Adds part (number, c) old new before after) same adds);
    }

pub so_far_call : (part : Lines) (header : Header) (from number : ℕ) (bytes line rest : List ℕ) (calls : List (ℕ × Call)) (stage : Stage) (titles : List (List ℕ)) → SoFar part header from bytes calls stage titles
    → counted_from from bytes ≡ (number, line) ∷ counted_from (number + 1) rest → SpellsNoCall header.count line → ⊥
so_far_call part header from number bytes line rest calls stage titles s found none = some_call (next_of header.count from number bytes line rest s.left s.spells found) none

pub so_far_all : (part : Lines) (header : Header) (number : ℕ) (rest : List ℕ) (calls : List (ℕ × Call)) (stage : Stage) (titles : List (List ℕ)) → SoFar part header number rest calls stage titles
    → counted_from number rest ≡ [] → Stands part header calls stage titles
so_far_all part header number rest calls stage titles s none =
    let all : calls ≡ s.done = s.calls_are ∙ ap (λ (left : List (ℕ × Call)). s.done ++ left) (none_left header.count number rest s.left s.spells none) ∙ append-nil s.done in
    subst (λ (done : List (ℕ × Call)). Stands part header done stage titles) (sym all) s.stands
