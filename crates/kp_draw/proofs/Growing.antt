-- A text that grows by pictures, one beside another.
use Rattle.std.proofs.Common.{◌≡◌, ◌∙◌, ℕ, List, [], ◌∷◌, ◌++◌, true, subst, refl, sym, ap, append_assoc, append-nil}
use Rattle.kp_draw.specs.declared.svg.Key.{Key}
use Rattle.kp_draw.specs.declared.svg.Key.TheVariants.{Xmlns}
use Rattle.kp_draw.specs.declared.svg.Tag.{Tag}
use Rattle.kp_draw.specs.declared.svg.Tag.TheVariants.{Svg}
use Rattle.kp_draw.specs.Drawing.{Drawing, Draws, HasKeysOnce, IsSvg, are_apart, keys_in, svg_name, Opens, Closes, OpensEvent, ClosesEvent, Nothing, Words, Element, Event, titles_in, written, escaped, start_text, end_text, event_front, event_end}

deeper : (a b c d e : List ℕ) → a ++ b ++ c ++ (d ++ e) ≡ (a ++ b ++ c ++ d) ++ e
deeper a b c d e = sym (append_assoc (a ++ b ++ c) d e)

enclosed : (x a b c : List ℕ) → ((x ++ a) ++ b) ++ c ≡ x ++ (a ++ b ++ c ++ [])
enclosed x a b c = simp (append_assoc, append-nil)

-- the second picture behind the first
beside : Drawing → Drawing → Drawing
beside Nothing d = d
beside (Words words behind) d = Words words (beside behind d)
beside (Element tag attributes within behind) d = Element tag attributes within (beside behind d)
beside (Event title within behind) d = Event title within (beside behind d)

titles_beside : (c d : Drawing) → titles_in (beside c d) ≡ titles_in c ++ titles_in d
unfolding beside
titles_beside Nothing d = refl
titles_beside (Words words behind) d = titles_beside behind d
titles_beside (Element tag attributes within behind) d =
    ap (λ (xs : List (List ℕ)). titles_in within ++ xs) (titles_beside behind d) ∙ sym (append_assoc (titles_in within) (titles_in behind) (titles_in d))
titles_beside (Event title within behind) d =
    ap (λ (xs : List (List ℕ)). title ∷ titles_in within ++ xs) (titles_beside behind d) ∙ ap (λ (xs : List (List ℕ)). title ∷ xs) (sym (append_assoc (titles_in within) (titles_in behind) (titles_in d)))

written_beside : (c d : Drawing) → written (beside c d) ≡ written c ++ written d
unfolding beside
written_beside Nothing d = refl
written_beside (Words words behind) d =
    ap (λ (xs : List ℕ). escaped words ++ xs) (written_beside behind d) ∙ sym (append_assoc (escaped words) (written behind) (written d))
written_beside (Element tag attributes within behind) d =
    ap (λ (xs : List ℕ). start_text tag attributes ++ written within ++ end_text tag ++ xs) (written_beside behind d)
    ∙ deeper (start_text tag attributes) (written within) (end_text tag) (written behind) (written d)
written_beside (Event title within behind) d =
    ap (λ (xs : List ℕ). event_front title ++ written within ++ event_end ++ xs) (written_beside behind d)
    ∙ deeper (event_front title) (written within) event_end (written behind) (written d)

keys_beside : (c d : Drawing) → HasKeysOnce c → HasKeysOnce d → HasKeysOnce (beside c d)
unfolding beside
keys_beside Nothing d h k = k
keys_beside (Words words behind) d h k = keys_beside behind d h k
keys_beside (Element tag attributes within behind) d h k = (h.0, h.1, keys_beside behind d h.2 k)
keys_beside (Event title within behind) d h k = (h.0, keys_beside behind d h.1 k)

pub draws_none : (text : List ℕ) → Draws [] text text
draws_none text = record { drawing = Nothing; keys = tt; titles_are = refl; written_is = sym (append-nil text) }

pub draws_more : {a b : List (List ℕ)} {x y z : List ℕ} → Draws a x y → Draws b y z → Draws (a ++ b) x z
draws_more {a} {b} {x} {y} {z} p q =
    record {
      drawing = beside p.drawing q.drawing;
      keys = keys_beside p.drawing q.drawing p.keys q.keys;
      titles_are = titles_beside p.drawing q.drawing ∙ ap (λ (xs : List (List ℕ)). xs ++ titles_in q.drawing) p.titles_are ∙ ap (λ (xs : List (List ℕ)). a ++ xs) q.titles_are;
      written_is =
          q.written_is ∙ ap (λ (xs : List ℕ). xs ++ written q.drawing) p.written_is ∙ append_assoc x (written p.drawing) (written q.drawing)
          ∙ ap (λ (xs : List ℕ). x ++ xs) (sym (written_beside p.drawing q.drawing));
    }

pub draws_words : (words x y : List ℕ) → y ≡ x ++ escaped words → Draws [] x y
draws_words words x y is = record { drawing = Words words Nothing; keys = tt; titles_are = refl; written_is = is ∙ ap (λ (xs : List ℕ). x ++ xs) (sym (append-nil (escaped words))) }

pub draws_element : {tag : Tag} {attributes : List (Key × List ℕ)} {titles : List (List ℕ)} {x y z w : List ℕ} → Opens tag attributes x y → Draws titles y z → Closes tag z w → Draws titles x w
draws_element {tag} {attributes} {titles} {x} {y} {z} {w} start p end =
    record {
      drawing = Element tag attributes p.drawing Nothing;
      keys = (start.keys, p.keys, tt);
      titles_are = append-nil (titles_in p.drawing) ∙ p.titles_are;
      written_is =
          end.is ∙ ap (λ (xs : List ℕ). xs ++ end_text tag) (p.written_is ∙ ap (λ (xs : List ℕ). xs ++ written p.drawing) start.is)
          ∙ enclosed x (start_text tag attributes) (written p.drawing) (end_text tag);
    }

pub draws_event : {title : List ℕ} {titles : List (List ℕ)} {x y z w : List ℕ} → OpensEvent title x y → Draws titles y z → ClosesEvent z w → Draws (title ∷ titles) x w
draws_event {title} {titles} {x} {y} {z} {w} start p end =
    record {
      drawing = Event title p.drawing Nothing;
      keys = (p.keys, tt);
      titles_are = ap (λ (xs : List (List ℕ)). title ∷ xs) (append-nil (titles_in p.drawing) ∙ p.titles_are);
      written_is =
          end.is ∙ ap (λ (xs : List ℕ). xs ++ event_end) (p.written_is ∙ ap (λ (xs : List ℕ). xs ++ written p.drawing) start.is)
          ∙ enclosed x (event_front title) (written p.drawing) event_end;
    }

-- all of a text, where it is one SVG
pub whole_svg : {attributes : List (Key × List ℕ)} {titles : List (List ℕ)} {x y z w : List ℕ} (others : List (Key × List ℕ)) → x ≡ [] → attributes ≡ (Xmlns, svg_name) ∷ others → Opens Svg attributes x y
    → Draws titles y z → Closes Svg z w → IsSvg titles w
whole_svg {attributes} {titles} {x} {y} {z} {w} others none are start p end =
    record {
      others = others;
      within = p.drawing;
      keys = (subst (λ (all : List (Key × List ℕ)). are_apart (keys_in all) ≡ true) are start.keys, p.keys, tt);
      titles_are = p.titles_are;
      written_is =
          end.is ∙ ap (λ (xs : List ℕ). xs ++ end_text Svg) (p.written_is ∙ ap (λ (xs : List ℕ). xs ++ written p.drawing) start.is)
          ∙ enclosed x (start_text Svg attributes) (written p.drawing) (end_text Svg)
          ∙ ap (λ (xs : List ℕ). xs ++ written (Element Svg attributes p.drawing Nothing)) none ∙ ap (λ (all : List (Key × List ℕ)). written (Element Svg all p.drawing Nothing)) are;
    }
