-- A picture: elements, one within another, and how they are written (SVG 1.1; XML 1.0).
use Rattle.std.specs.Prelude.{◌≡◌, ℕ, ◌==◌, ◌&&◌, ◌||◌, nat_le, Bool, true, not, map, List, [], ◌∷◌, ◌++◌, codes, if◌then◌else◌}
use Rattle.std.specs.List.{flat_map, list_all}
use Rattle.std.specs.Fmt.{decimal}
use Rattle.kp_draw.specs.declared.svg.Key.{Key}
use Rattle.kp_draw.specs.declared.svg.Key.TheVariants.{Xmlns, Class, Id, ViewBox, RefX, RefY, MarkerWidth, MarkerHeight, Orient, D, Width, Height, X, Y, X1, Y1, X2, Y2, Cx, Cy, R}
use Rattle.kp_draw.specs.declared.svg.Tag.{Tag}
use Rattle.kp_draw.specs.declared.svg.Tag.TheVariants.{Svg, Style, Marker, Path, Line, Rect, Circle, Text}
use Rattle.kp_draw.specs.declared.svg.Value.{Value}
use Rattle.kp_draw.specs.declared.svg.Value.TheVariants.{Number, Word}

-- Nothing; or words, an element, or an event, and what stands behind it. An element has attributes, each a key and its value, and something
-- within it. An event has a title, and within it what is drawn of it.
pub data Drawing : Type 0 where
  Nothing : Drawing
  Words : (words : List ℕ) → (behind : Drawing) → Drawing
  Element : (tag : Tag) → (attributes : List (Key × List ℕ)) → (within behind : Drawing) → Drawing
  Event : (title : List ℕ) → (within behind : Drawing) → Drawing

-- the titles of the events, in the order in which they stand
abbrev pub titles_in : Drawing → List (List ℕ)
titles_in Nothing = []
titles_in (Words words behind) = titles_in behind
titles_in (Element tag attributes within behind) = titles_in within ++ titles_in behind
titles_in (Event title within behind) = title ∷ titles_in within ++ titles_in behind

abbrev pub tag_name : Tag → List ℕ
tag_name Svg = codes "svg"
tag_name Style = codes "style"
tag_name Marker = codes "marker"
tag_name Path = codes "path"
tag_name Line = codes "line"
tag_name Rect = codes "rect"
tag_name Circle = codes "circle"
tag_name Text = codes "text"

abbrev pub key_name : Key → List ℕ
key_name Xmlns = codes "xmlns"
key_name Class = codes "class"
key_name Id = codes "id"
key_name ViewBox = codes "viewBox"
key_name RefX = codes "refX"
key_name RefY = codes "refY"
key_name MarkerWidth = codes "markerWidth"
key_name MarkerHeight = codes "markerHeight"
key_name Orient = codes "orient"
key_name D = codes "d"
key_name Width = codes "width"
key_name Height = codes "height"
key_name X = codes "x"
key_name Y = codes "y"
key_name X1 = codes "x1"
key_name Y1 = codes "y1"
key_name X2 = codes "x2"
key_name Y2 = codes "y2"
key_name Cx = codes "cx"
key_name Cy = codes "cy"
key_name R = codes "r"

-- A byte of a text, or of a value, as it is written: what would end the text or begin an element is written by its name. What is neither a line
-- feed, a space nor visible ASCII may not stand in a picture, and is written as a question mark: lines of scripts and traces have none.
abbrev pub escaped_byte : ℕ → List ℕ
escaped_byte byte =
    if byte == 38 then codes "&amp;"
    else (if byte == 60 then codes "&lt;"
    else (if byte == 62 then codes "&gt;"
    else (if byte == 34 then codes "&quot;"
    else (if byte == 10 || (nat_le 32 byte && nat_le byte 126) then byte ∷ []
    else codes "?"))))

abbrev pub escaped : List ℕ → List ℕ
escaped bytes = flat_map escaped_byte bytes

abbrev pub attribute_text : Key × List ℕ → List ℕ
attribute_text (key, value) = 32 ∷ key_name key ++ 61 ∷ 34 ∷ escaped value ++ 34 ∷ []

abbrev pub attributes_text : List (Key × List ℕ) → List ℕ
attributes_text attributes = flat_map attribute_text attributes

-- the beginning of an element, and its end
abbrev pub start_text : Tag → List (Key × List ℕ) → List ℕ
start_text tag attributes = 60 ∷ tag_name tag ++ attributes_text attributes ++ 62 ∷ []

abbrev pub end_text : Tag → List ℕ
end_text tag = 60 ∷ 47 ∷ tag_name tag ++ 62 ∷ 10 ∷ []

-- an event is a group that begins with its title
abbrev pub event_front : (title : List ℕ) → List ℕ
event_front title = codes "<g><title>" ++ escaped title ++ codes "</title>" ++ 10 ∷ []

abbrev pub event_end : List ℕ
event_end = codes "</g>" ++ 10 ∷ []

-- how a picture is written
abbrev pub written : Drawing → List ℕ
written Nothing = []
written (Words words behind) = escaped words ++ written behind
written (Element tag attributes within behind) = start_text tag attributes ++ written within ++ end_text tag ++ written behind
written (Event title within behind) = event_front title ++ written within ++ event_end ++ written behind

-- the place of a key among all keys
abbrev pub place_of : Key → ℕ
place_of Xmlns = 0
place_of Class = 1
place_of Id = 2
place_of ViewBox = 3
place_of RefX = 4
place_of RefY = 5
place_of MarkerWidth = 6
place_of MarkerHeight = 7
place_of Orient = 8
place_of D = 9
place_of Width = 10
place_of Height = 11
place_of X = 12
place_of Y = 13
place_of X1 = 14
place_of Y1 = 15
place_of X2 = 16
place_of Y2 = 17
place_of Cx = 18
place_of Cy = 19
place_of R = 20

-- no two of these keys are one
abbrev pub are_apart : List Key → Bool
are_apart [] = true
are_apart (key ∷ keys) = list_all (λ other. not (place_of other == place_of key)) keys && are_apart keys

abbrev pub keys_in : List (Key × List ℕ) → List Key
keys_in attributes = map (λ attribute. attribute.0) attributes

-- no element has two attributes of one key
abbrev pub HasKeysOnce : Drawing → Type 0
HasKeysOnce Nothing = Unit {0}
HasKeysOnce (Words words behind) = HasKeysOnce behind
HasKeysOnce (Element tag attributes within behind) = (are_apart (keys_in attributes) ≡ true) × HasKeysOnce within × HasKeysOnce behind
HasKeysOnce (Event title within behind) = HasKeysOnce within × HasKeysOnce behind

-- the name space of SVG
abbrev pub svg_name : List ℕ
svg_name = codes "http://www.w3.org/2000/svg"

-- The bytes are one element, an SVG, in which the events have these titles; no element of it has two attributes of one key.
pub record IsSvg (titles : List (List ℕ)) (bytes : List ℕ) : Type 0 where
  pub others : List (Key × List ℕ)
  pub within : Drawing
  pub keys : HasKeysOnce (Element Svg ((Xmlns, svg_name) ∷ others) within Nothing)
  pub titles_are : titles_in within ≡ titles
  pub written_is : bytes ≡ written (Element Svg ((Xmlns, svg_name) ∷ others) within Nothing)

-- ---- the code's attributes

abbrev pub value_text : Value → List ℕ
value_text (Number number) = decimal number
value_text (Word word) = word.now

abbrev pub attribute_of : Key × Value → Key × List ℕ
attribute_of attribute = (attribute.0, value_text attribute.1)

-- ---- a text that grows by a picture

-- It grew by the beginning of an element, or of an event, or by its end.
pub record Opens (tag : Tag) (attributes : List (Key × List ℕ)) (old new : List ℕ) : Type 0 where
  pub keys : are_apart (keys_in attributes) ≡ true
  pub is : new ≡ old ++ start_text tag attributes

pub record Closes (tag : Tag) (old new : List ℕ) : Type 0 where
  pub is : new ≡ old ++ end_text tag

pub record OpensEvent (title : List ℕ) (old new : List ℕ) : Type 0 where
  pub is : new ≡ old ++ event_front title

pub record ClosesEvent (old new : List ℕ) : Type 0 where
  pub is : new ≡ old ++ event_end

-- It grew by a picture that has these titles.
pub record Draws (titles : List (List ℕ)) (old new : List ℕ) : Type 0 where
  pub drawing : Drawing
  pub keys : HasKeysOnce drawing
  pub titles_are : titles_in drawing ≡ titles
  pub written_is : new ≡ old ++ written drawing
