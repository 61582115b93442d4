-- How far a script is read, and what its first fault is.
use Rattle.std.proofs.Common.{◌≡◌, ℕ, ◌+◌, ◌≤◌, List, [], ◌∷◌, ◌++◌, refl, ap, ◌∙◌, subst, arith, codes, inl, inr, length, map, sym, append_assoc, append-nil, length-append}
use Rattle.std.specs.List.{AllByRecursion}
use Rattle.std.proofs.lemmas.List.{length-map, map-append}
use Rattle.kp_types.proofs.Elements.{all_push}
use Rattle.kp_script.specs.Call.{Call, Header, call_text, IsCall, IsHeaderText, IsCallText, SpellsNoHeader, SpellsNoCall}
use Rattle.kp_script.specs.Lines.{lines, counted, counted_from}
use Rattle.kp_script.specs.Script.{BeginsScript, IsFaultAt, IsScript}
use Rattle.kp_words.proofs.Numbers.{same_field}

-- the line of a call
abbrev pub text_of : ℕ × Call → ℕ × List ℕ
text_of call = (call.0, call_text call.1)

abbrev pub Spelled : ℕ → ℕ × List ℕ → Type 0
Spelled count line = (call : Call) × IsCallText count line.1 call

-- The header is the first line that counts, the calls are those after it, and what is left counts from this number.
pub record Progress (bytes : List ℕ) (header : Header) (items : List (ℕ × Call)) (number : ℕ) (rest : List ℕ) : Type 0 where
  pub first : ℕ × List ℕ
  pub spelled : IsHeaderText first.1 header
  pub whole : counted bytes ≡ first ∷ (map text_of items ++ counted_from number rest)
  pub calls : AllByRecursion (λ call. IsCall header.count call.1) items
  pub few : length items ≤ 1000000

all_last : {X : Type 0} (P : X → Type 0) (xs : List X) (x : X) → AllByRecursion P (xs ++ x ∷ []) → P x
all_last P [] x all = all.0
all_last P (y ∷ ys) x all = all_last P ys x all.1

all_spelled : (count : ℕ) (calls : List (ℕ × Call)) → AllByRecursion (λ call. IsCall count call.1) calls → AllByRecursion (Spelled count) (map text_of calls)
all_spelled count [] all = tt
all_spelled count (call ∷ calls) all = ((call.1, (all.0, refl)), all_spelled count calls all.1)

-- the header is read
pub progress_none : (bytes : List ℕ) (header : Header) (first : ℕ × List ℕ) (number : ℕ) (rest : List ℕ) → IsHeaderText first.1 header →
    counted bytes ≡ first ∷ counted_from number rest → Progress bytes header [] number rest
progress_none bytes header first number rest spelled whole =
    record { first = first; spelled = spelled; whole = whole; calls = tt; few = omega arith }

-- a call more is read
pub progress_more : (bytes : List ℕ) (header : Header) (items : List (ℕ × Call)) (number : ℕ) (rest : List ℕ) (place : ℕ) (text : List ℕ) (call : Call) (after : ℕ) (left : List ℕ) →
    Progress bytes header items number rest → counted_from number rest ≡ (place, text) ∷ counted_from after left → IsCallText header.count text call → length items + 1 ≤ 1000000 →
    Progress bytes header (items ++ (place, call) ∷ []) after left
progress_more bytes header items number rest place text call after left p here is few =
    record {
      first = p.first;
      spelled = p.spelled;
      whole =
          p.whole
          ∙ ap (λ (l : List (ℕ × List ℕ)). p.first ∷ (map text_of items ++ l)) (here ∙ ap (λ (t : List ℕ). (place, t) ∷ counted_from after left) is.1)
          ∙ ap (λ (l : List (ℕ × List ℕ)). p.first ∷ l)
          (sym (append_assoc (map text_of items) (text_of (place, call) ∷ []) (counted_from after left))
          ∙ ap (λ (l : List (ℕ × List ℕ)). l ++ counted_from after left) (sym (map-append text_of items ((place, call) ∷ []))));
      calls = all_push (λ call. IsCall header.count call.1) items (place, call) p.calls is.0;
      few = omega (arith, length-append items ((place, call) ∷ []), few);
    }

-- nothing is left
pub script_read : (bytes : List ℕ) (header : Header) (items : List (ℕ × Call)) (number : ℕ) (rest : List ℕ) → Progress bytes header items number rest →
    counted_from number rest ≡ [] → IsScript bytes (record { header = header; calls = items })
script_read bytes header items number rest p none =
    record {
      first = p.first.0;
      spelled =
          p.whole
          ∙ ap (λ (l : List (ℕ × List ℕ)). p.first ∷ (map text_of items ++ l)) none
          ∙ ap (λ (l : List (ℕ × List ℕ)). p.first ∷ l) (append-nil (map text_of items))
          ∙ ap (λ (text : List ℕ). (p.first.0, text) ∷ map text_of items) p.spelled.1;
      header = p.spelled.0;
      calls = p.calls;
      few = p.few;
    }

-- What is read so far can begin a script.
begins : (bytes : List ℕ) (header : Header) (items : List (ℕ × Call)) (number : ℕ) (rest : List ℕ) (p : Progress bytes header items number rest) →
    BeginsScript p.first (map text_of items)
begins bytes header items number rest p =
    record {
      header = header;
      spelled = p.spelled;
      calls = all_spelled header.count items p.calls;
      few = omega (arith, length-map items text_of, p.few);
    }

-- a text is that of one count of nodes
one_count : (bytes : List ℕ) (a b : Header) → IsHeaderText bytes a → IsHeaderText bytes b → a.count ≡ b.count
one_count bytes a b p q =
    let few : a.count ≤ 7 = p.0.greatest_count in
    let others : b.count ≤ 7 = q.0.greatest_count in
    (same_field (codes "nodes ") bytes a.count b.count _ _ (omega arith) (omega arith) p.1 q.1).0

-- a line that is no call's can't stand behind a header
no_call : (header : Header) (first bad : ℕ × List ℕ) (front : List (ℕ × List ℕ)) → IsHeaderText first.1 header → SpellsNoCall header.count bad.1 → BeginsScript first (front ++ bad ∷ []) → ⊥
no_call header first bad front is none b =
    let last : Spelled b.header.count bad = all_last (Spelled b.header.count) front bad b.calls in
    none last.0 (subst (λ (n : ℕ). IsCall n last.0) (one_count first.1 b.header header b.spelled is) last.1.0) last.1.1

-- no line can stand behind the last event
too_many : (first bad : ℕ × List ℕ) (front : List (ℕ × List ℕ)) → length front ≡ 1000000 → BeginsScript first (front ++ bad ∷ []) → ⊥
too_many first bad front full b = omega (arith, b.few, length-append front (bad ∷ []))

fault_here : (bytes : List ℕ) (header : Header) (items : List (ℕ × Call)) (number : ℕ) (rest : List ℕ) (bad : ℕ × List ℕ) (after : ℕ) (left : List ℕ) →
    (p : Progress bytes header items number rest) → counted_from number rest ≡ bad ∷ counted_from after left →
    (BeginsScript p.first (map text_of items ++ bad ∷ []) → ⊥) → IsFaultAt bytes bad.0
fault_here bytes header items number rest bad after left p here unlawful =
    inl record {
      front = p.first ∷ map text_of items;
      bad = bad;
      rest = counted_from after left;
      whole = p.whole ∙ ap (λ (l : List (ℕ × List ℕ)). p.first ∷ (map text_of items ++ l)) here;
      lawful = begins bytes header items number rest p;
      unlawful = unlawful;
      place = refl;
    }

-- the next line is no call
pub fault_of_call : (bytes : List ℕ) (header : Header) (items : List (ℕ × Call)) (number : ℕ) (rest : List ℕ) (place : ℕ) (text : List ℕ) (after : ℕ) (left : List ℕ) →
    Progress bytes header items number rest → counted_from number rest ≡ (place, text) ∷ counted_from after left →
    SpellsNoCall header.count text → IsFaultAt bytes place
fault_of_call bytes header items number rest place text after left p here none =
    fault_here bytes header items number rest (place, text) after left p here
    (no_call header p.first (place, text) (map text_of items) p.spelled none)

-- the next line is an event too many
pub fault_of_count : (bytes : List ℕ) (header : Header) (items : List (ℕ × Call)) (number : ℕ) (rest : List ℕ) (place : ℕ) (text : List ℕ) (after : ℕ) (left : List ℕ) →
    Progress bytes header items number rest → counted_from number rest ≡ (place, text) ∷ counted_from after left →
    length items ≡ 1000000 → IsFaultAt bytes place
fault_of_count bytes header items number rest place text after left p here full =
    fault_here bytes header items number rest (place, text) after left p here
    (too_many p.first (place, text) (map text_of items) (length-map items text_of ∙ full))

-- the first line that counts is no header
pub fault_of_header : (bytes : List ℕ) (place : ℕ) (text : List ℕ) (after : ℕ) (left : List ℕ) →
    counted bytes ≡ (place, text) ∷ counted_from after left → SpellsNoHeader text → IsFaultAt bytes place
fault_of_header bytes place text after left here none =
    inl record {
      front = [];
      bad = (place, text);
      rest = counted_from after left;
      whole = here;
      lawful = tt;
      unlawful = λ (b : BeginsScript (place, text) []). none b.header b.spelled.0 b.spelled.1;
      place = refl;
    }

-- no line counts
pub fault_at_end : (bytes : List ℕ) (after : ℕ) → counted bytes ≡ [] → after ≡ 1 + length (lines bytes) → IsFaultAt bytes after
fault_at_end bytes after none is = inr (none, omega (arith, is))
