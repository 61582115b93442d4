-- Laws of a text that grows word by word.
use Rattle.std.proofs.Common.{◌≡◌, ℕ, suc, cond, ◌+◌, ◌<◌, Bool, true, false, List, [], ◌∷◌, ◌++◌, length, map, take, length-take-le, get_or, refl, sym, ap, ◌∙◌, arith, append_assoc, append-nil, add-zero}
use Rattle.std.proofs.lemmas.List.{take_more, length-map, map-append}
use Rattle.std.specs.Prelude.{codes, is_ok, OnOk, Result, Ok, Err}
use Rattle.std.specs.List.{join_with_byte, flat_map, zip}
use Rattle.std.specs.Fmt.{decimal}
use Rattle.std.proofs.lemmas.Bool.{false≢true}
use Rattle.kp_model.specs.Set.{numbers_of}
use Rattle.kp_model.specs.Event.{Line as ModelLine}
use Rattle.kp_script.specs.Call.{spaced}
use Rattle.kp_script.specs.Trace.{line_text, lines_text, nodes_text, trace_line, trace_text}
use Rattle.kp_model.specs.Event.{Outcome}
use Rattle.std.proofs.lemmas.List.Concat.{flat_map-append}

-- what a text ends with, after one thing more
pub grown : (was now base xs ys whole : List ℕ) → now ≡ was ++ ys → was ≡ base ++ xs → whole ≡ xs ++ ys → now ≡ base ++ whole
grown was now base xs ys whole p q w =
    p ∙ ap (λ (t : List ℕ). t ++ ys) q ∙ append_assoc base xs ys ∙ ap (λ (rest : List ℕ). base ++ rest) (sym w)

-- what holds after a call that went well
pub on_ok : {T E P Q : Type 0} (r : Result T E) → OnOk r P → (P → Q) → OnOk r Q
on_ok (Ok x) p f = f p
on_ok (Err e) p f = tt

pub on_items : {T E P : Type 0} (r : Result T E) (now then else_then : List ℕ) → now ≡ cond (is_ok r) then else_then → (now ≡ then → P) → OnOk r P
on_items (Ok x) now then else_then e f = f e
on_items (Err y) now then else_then e f = tt

-- words with a byte before each but the first
pub joined_as_pieces : (c : ℕ) (x : List ℕ) (xs : List (List ℕ)) → join_with_byte c (x ∷ xs) ≡ x ++ flat_map (λ y. c ∷ y) xs
joined_as_pieces c x [] = sym (append-nil x)
joined_as_pieces c x (y ∷ ys) = ap (λ (rest : List ℕ). x ++ (c ∷ rest)) (joined_as_pieces c y ys)

-- no node has been written
abbrev pub is_none : List ℕ → Bool
is_none [] = true
is_none (n ∷ ns) = false

pub some_after : (ns : List ℕ) (n : ℕ) → is_none (ns ++ n ∷ []) ≡ false
some_after [] n = refl
some_after (m ∷ ns) n = refl

-- the comma that the next node needs
abbrev pub separator_of : List ℕ → List ℕ
separator_of [] = []
separator_of (n ∷ ns) = 44 ∷ []

pub separator_none : (ns : List ℕ) → is_none ns ≡ true → separator_of ns ≡ []
separator_none [] e = refl
separator_none (n ∷ ns) e = absurd (false≢true e)

pub separator_some : (ns : List ℕ) → is_none ns ≡ false → separator_of ns ≡ 44 ∷ []
separator_some [] e = absurd (false≢true (sym e))
separator_some (n ∷ ns) e = refl

-- one node more
pub nodes_more : (ns : List ℕ) (n : ℕ) → nodes_text (ns ++ n ∷ []) ≡ (nodes_text ns ++ separator_of ns) ++ decimal n
nodes_more [] n = refl
nodes_more (a ∷ []) n = sym (append_assoc (decimal a) (44 ∷ []) (decimal n))
nodes_more (a ∷ b ∷ ns) n =
    ap (λ (rest : List ℕ). decimal a ++ (44 ∷ rest)) (nodes_more (b ∷ ns) n)
    ∙ sym (append_assoc (decimal a) ((44 ∷ nodes_text (b ∷ ns)) ++ 44 ∷ []) (decimal n))
    ∙ ap (λ (rest : List ℕ). rest ++ decimal n) (sym (append_assoc (decimal a) (44 ∷ nodes_text (b ∷ ns)) (44 ∷ [])))

-- one place more, which is set, or isn't
pub numbers_set : (first : ℕ) (places : List Bool) → numbers_of first (places ++ true ∷ []) ≡ numbers_of first places ++ (first + length places) ∷ []
numbers_set first [] = ap (λ (n : ℕ). n ∷ []) (sym (add-zero first))
numbers_set first (true ∷ bs) = let there : (first + 1) + length bs ≡ first + suc (length bs) = omega arith in
    ap (λ (rest : List ℕ). first ∷ rest) (numbers_set (first + 1) bs ∙ ap (λ (n : ℕ). numbers_of (first + 1) bs ++ n ∷ []) there)
numbers_set first (false ∷ bs) = let there : (first + 1) + length bs ≡ first + suc (length bs) = omega arith in
    numbers_set (first + 1) bs ∙ ap (λ (n : ℕ). numbers_of (first + 1) bs ++ n ∷ []) there

pub numbers_unset : (first : ℕ) (places : List Bool) → numbers_of first (places ++ false ∷ []) ≡ numbers_of first places
numbers_unset first [] = refl
numbers_unset first (true ∷ bs) = ap (λ (rest : List ℕ). first ∷ rest) (numbers_unset (first + 1) bs)
numbers_unset first (false ∷ bs) = numbers_unset (first + 1) bs

-- the members below the place after this one
pub numbers_taken : (places : List Bool) (i : ℕ) → i < length places → get_or places i false ≡ true → numbers_of 0 (take (i + 1) places) ≡ numbers_of 0 (take i places) ++ i ∷ []
numbers_taken places i lt e =
    let there : 0 + length (take i places) ≡ i = omega (arith, length-take-le i places) in
    ap (numbers_of 0) (take_more places i false lt ∙ ap (λ (b : Bool). take i places ++ b ∷ []) e)
    ∙ numbers_set 0 (take i places)
    ∙ ap (λ (n : ℕ). numbers_of 0 (take i places) ++ n ∷ []) there

pub numbers_passed : (places : List Bool) (i : ℕ) → i < length places → get_or places i false ≡ false → numbers_of 0 (take (i + 1) places) ≡ numbers_of 0 (take i places)
numbers_passed places i lt e =
    ap (numbers_of 0) (take_more places i false lt ∙ ap (λ (b : Bool). take i places ++ b ∷ []) e)
    ∙ numbers_unset 0 (take i places)

-- one pair more
pub zip_more : {A B : Type 0} (xs : List A) (ys : List B) (x : A) (y : B) → length xs ≡ length ys → zip (xs ++ x ∷ []) (ys ++ y ∷ []) ≡ zip xs ys ++ (x, y) ∷ []
zip_more [] [] x y e = refl
zip_more [] (b ∷ ys) x y e = absurd (omega arith)
zip_more (a ∷ xs) [] x y e = absurd (omega arith)
zip_more {A} {B} (a ∷ xs) (b ∷ ys) x y e = ap (λ (rest : List (A × B)). (a, b) ∷ rest) (zip_more xs ys x y (omega arith))

-- a function after a function
flat_map_over : {A B : Type 0} (g : A → B) (f : B → List ℕ) (xs : List A) → flat_map f (map g xs) ≡ flat_map (λ x. f (g x)) xs
flat_map_over g f [] = refl
flat_map_over g f (x ∷ xs) = ap (λ (rest : List ℕ). f (g x) ++ rest) (flat_map_over g f xs)

-- a number, a space, what was answered, and a line feed
pub line_pushed : (text after_number after_space after_outcome whole : List ℕ) (number : ℕ) (outcome : List ℕ) →
    after_number ≡ text ++ decimal number → after_space ≡ after_number ++ 32 ∷ [] → after_outcome ≡ after_space ++ outcome → whole ≡ after_outcome ++ 10 ∷ [] →
    whole ≡ text ++ (decimal number ++ 32 ∷ outcome ++ 10 ∷ [])
line_pushed text after_number after_space after_outcome whole number outcome p s q r =
    r ∙ ap (λ (t : List ℕ). t ++ 10 ∷ []) (q ∙ ap (λ (t : List ℕ). t ++ outcome) (s ∙ ap (λ (t : List ℕ). t ++ 32 ∷ []) p))
    ∙ simp append_assoc

-- two digits
pub digits_pushed : (text after_high whole : List ℕ) (high low : ℕ) → after_high ≡ text ++ high ∷ [] → whole ≡ after_high ++ low ∷ [] → whole ≡ text ++ high ∷ low ∷ []
digits_pushed text after_high whole high low p q = q ∙ ap (λ (t : List ℕ). t ++ low ∷ []) p ∙ simp append_assoc

-- the lines of some events, and then those of others
pub trace_append : (events others : List (ℕ × ℕ)) (outcomes rest : List Outcome) → length events ≡ length outcomes →
    trace_text (events ++ others) (outcomes ++ rest) ≡ trace_text events outcomes ++ trace_text others rest
trace_append [] others [] rest e = refl
trace_append [] others (o ∷ outcomes) rest e = absurd (omega arith)
trace_append (x ∷ events) others [] rest e = absurd (omega arith)
trace_append (x ∷ events) others (o ∷ outcomes) rest e =
    ap (λ (text : List ℕ). trace_line x.0 x.1 o ++ text) (trace_append events others outcomes rest (omega arith))
    ∙ sym (append_assoc (trace_line x.0 x.1 o) (trace_text events outcomes) (trace_text others rest))

-- one event more
traced_push : (events : List (ℕ × ℕ)) (outcomes : List Outcome) (event : ℕ × ℕ) (outcome : Outcome) → length events ≡ length outcomes →
    trace_text (events ++ event ∷ []) (outcomes ++ outcome ∷ []) ≡ trace_text events outcomes ++ trace_line event.0 event.1 outcome
traced_push events outcomes event outcome e =
    ap (flat_map line_at) (zip_more events outcomes event outcome e)
    ∙ flat_map-append line_at (zip events outcomes) ((event, outcome) ∷ [])
    ∙ ap (λ (rest : List ℕ). trace_text events outcomes ++ rest) (append-nil (trace_line event.0 event.1 outcome))
  where
    line_at : (ℕ × ℕ) × Outcome → List ℕ
    line_at p = trace_line p.0.0 p.0.1 p.1

pub traced_more : {A B : Type 0} (f : A → ℕ × ℕ) (g : B → Outcome) (xs : List A) (ys : List B) (i : ℕ) (x : A) (y : B) → i < length xs → i < length ys → x ≡ get_or xs i x → y ≡ get_or ys i y →
    trace_text (map f (take (i + 1) xs)) (map g (take (i + 1) ys)) ≡ trace_text (map f (take i xs)) (map g (take i ys)) ++ trace_line (f x).0 (f x).1 (g y)
traced_more {A} {B} f g xs ys i x y lx ly ex ey =
    let xs_is : map f (take (i + 1) xs) ≡ map f (take i xs) ++ f x ∷ [] =
    ap (map f) (take_more xs i x lx ∙ ap (λ (z : A). take i xs ++ z ∷ []) (sym ex)) ∙ map-append f (take i xs) (x ∷ []) in
    let ys_is : map g (take (i + 1) ys) ≡ map g (take i ys) ++ g y ∷ [] =
    ap (map g) (take_more ys i y ly ∙ ap (λ (z : B). take i ys ++ z ∷ []) (sym ey)) ∙ map-append g (take i ys) (y ∷ []) in
    let as_long : length (map f (take i xs)) ≡ length (map g (take i ys)) =
    length-map (take i xs) f ∙ length-take-le i xs (omega arith) ∙ sym (length-map (take i ys) g ∙ length-take-le i ys (omega arith)) in
    ap (λ (events : List (ℕ × ℕ)). trace_text events (map g (take (i + 1) ys))) xs_is
    ∙ ap (λ (outcomes : List Outcome). trace_text (map f (take i xs) ++ f x ∷ []) outcomes) ys_is
    ∙ traced_push (map f (take i xs)) (map g (take i ys)) (f x) (g y) as_long

-- the records that were read, as they are appended
pub lines_as_pieces : (lines : List ModelLine) → lines_text lines ≡ (codes "read " ++ decimal (length lines)) ++ flat_map (λ l. 32 ∷ line_text l) lines
lines_as_pieces lines =
    ap (λ (rest : List ℕ). codes "read " ++ rest)
    (joined_as_pieces 32 (decimal (length lines)) (map line_text lines)
    ∙ ap (λ (rest : List ℕ). decimal (length lines) ++ rest) (flat_map_over line_text (λ y. 32 ∷ y) lines))

-- one record more
pub lines_more : (text now mid : List ℕ) (lines : List ModelLine) (place : ℕ) (line other : ModelLine) → place < length lines → line ≡ get_or lines place other
    → mid ≡ text ++ flat_map (λ l. 32 ∷ line_text l) (take place lines) → now ≡ mid ++ 32 ∷ line_text line → now ≡ text ++ flat_map (λ l. 32 ∷ line_text l) (take (place + 1) lines)
lines_more text now mid lines place line other within is before added =
    let told : ModelLine → List ℕ = λ l. 32 ∷ line_text l in
    let more : flat_map told (take (place + 1) lines) ≡ flat_map told (take place lines) ++ told line =
    ap (flat_map told) (take_more lines place other within ∙ ap (λ (l : ModelLine). take place lines ++ l ∷ []) (sym is))
    ∙ flat_map-append told (take place lines) (line ∷ []) ∙ ap (λ (rest : List ℕ). flat_map told (take place lines) ++ rest) (append-nil (told line)) in
    grown mid now text (flat_map told (take place lines)) (told line) _ added before more

-- what a role says, word by word
pub leads_pushed : (text mid now : List ℕ) (epoch start e : ℕ) → e ≡ epoch → mid ≡ text ++ (codes "leads epoch " ++ decimal e) → now ≡ mid ++ (codes " from " ++ decimal start)
    → now ≡ text ++ spaced (codes "leads epoch" ∷ decimal epoch ∷ codes "from" ∷ decimal start ∷ [])
leads_pushed text mid now epoch start e same p q =
    grown mid now text (codes "leads epoch " ++ decimal epoch) (codes " from " ++ decimal start) _ q (p ∙ ap (λ (n : ℕ). text ++ (codes "leads epoch " ++ decimal n)) same) refl

pub follows_pushed : (text mid now : List ℕ) (leader epoch l e : ℕ) → l ≡ leader → e ≡ epoch → mid ≡ text ++ (codes "follows " ++ decimal l) → now ≡ mid ++ (codes " epoch " ++ decimal e)
    → now ≡ text ++ spaced (codes "follows" ∷ decimal leader ∷ codes "epoch" ∷ decimal epoch ∷ [])
follows_pushed text mid now leader epoch l e same is p q =
    grown mid now text (codes "follows " ++ decimal leader) (codes " epoch " ++ decimal epoch) _ (q ∙ ap (λ (n : ℕ). mid ++ (codes " epoch " ++ decimal n)) is)
    (p ∙ ap (λ (n : ℕ). text ++ (codes "follows " ++ decimal n)) same) refl

-- what a follower asks, word by word
pub asks_pushed : (text a b c now : List ℕ) (number offset : ℕ) (last : List ℕ) → a ≡ text ++ (codes "sent " ++ decimal number) → b ≡ a ++ (codes " asks from " ++ decimal offset) → c ≡ b ++ 32 ∷ []
    → now ≡ c ++ last → now ≡ text ++ spaced (codes "sent" ∷ decimal number ∷ codes "asks from" ∷ decimal offset ∷ last ∷ [])
asks_pushed text a b c now number offset last p q r s =
    s ∙ ap (λ (t : List ℕ). t ++ last) (r ∙ ap (λ (t : List ℕ). t ++ 32 ∷ []) (q ∙ ap (λ (t : List ℕ). t ++ (codes " asks from " ++ decimal offset)) p))
    ∙ simp append_assoc

-- a message's number, what stands behind it, and what the message says
pub told_pushed : (text a b now : List ℕ) (number : ℕ) (between said : List ℕ) → a ≡ text ++ (codes "sent " ++ decimal number) → b ≡ a ++ between → now ≡ b ++ said
    → now ≡ text ++ (codes "sent " ++ (decimal number ++ (between ++ said)))
told_pushed text a b now number between said p q r = r ∙ ap (λ (t : List ℕ). t ++ said) (q ∙ ap (λ (t : List ℕ). t ++ between) p) ∙ simp append_assoc

pub ends_pushed : (text mid now : List ℕ) (epoch end e : ℕ) → e ≡ epoch → mid ≡ text ++ (codes "epoch " ++ decimal e) → now ≡ mid ++ (codes " end " ++ decimal end)
    → now ≡ text ++ spaced (codes "epoch" ∷ decimal epoch ∷ codes "end" ∷ decimal end ∷ [])
ends_pushed text mid now epoch end e same p q =
    grown mid now text (codes "epoch " ++ decimal epoch) (codes " end " ++ decimal end) _ q (p ∙ ap (λ (n : ℕ). text ++ (codes "epoch " ++ decimal n)) same) refl
