-- Laws of words with commas between them, as they are written.
use Rattle.std.proofs.Common.{◌≡◌, ℕ, ◌+◌, Bool, true, false, List, [], ◌∷◌, ◌++◌, map, refl, sym, ap, ◌∙◌, append-nil, append_assoc}
use Rattle.std.specs.Fmt.{decimal}
use Rattle.std.specs.List.{flat_map}
use Rattle.kp_model.specs.Set.{numbers_of}
use Rattle.kp_texts.specs.declared.texts.EpochStart.{EpochStart}
use Rattle.kp_texts.specs.Texts.{listed, start_text}

-- the first word, and a comma before each other one
joined : {A : Type 0} (f : A → List ℕ) (x : A) (xs : List A) → listed (map f (x ∷ xs)) ≡ f x ++ flat_map (λ y. 44 ∷ f y) xs
joined f x [] = sym (append-nil (f x))
joined f x (y ∷ ys) = ap (λ (rest : List ℕ). f x ++ 44 ∷ rest) (joined f y ys)

-- what was written of the starts
pub starts_written : (old mid now : List ℕ) (s : EpochStart) (ss : List EpochStart) → mid ≡ old ++ start_text s → now ≡ mid ++ flat_map (λ t. 44 ∷ start_text t) ss → now ≡ old ++ listed (map start_text (s ∷ ss))
starts_written old mid now s ss p q =
    q ∙ ap (λ (l : List ℕ). l ++ flat_map (λ t. 44 ∷ start_text t) ss) p
    ∙ append_assoc old (start_text s) (flat_map (λ t. 44 ∷ start_text t) ss)
    ∙ ap (λ (l : List ℕ). old ++ l) (sym (joined start_text s ss))

-- what is still to be written of nodes, of which the first is or isn't among them
abbrev pub behind : (first : Bool) → List ℕ → List ℕ
behind true nodes = listed (map decimal nodes)
behind false nodes = flat_map (λ node. 44 ∷ decimal node) nodes

-- one node more
pub first_written : (old now whole : List ℕ) (node : ℕ) (nodes : List ℕ) → now ≡ old ++ decimal node → old ++ behind true (node ∷ nodes) ≡ whole → now ++ behind false nodes ≡ whole
first_written old now whole node nodes p q =
    ap (λ (l : List ℕ). l ++ behind false nodes) p ∙ append_assoc old (decimal node) (behind false nodes)
    ∙ ap (λ (l : List ℕ). old ++ l) (sym (joined decimal node nodes)) ∙ q

pub next_written : (old now whole : List ℕ) (node : ℕ) (nodes : List ℕ) → now ≡ old ++ (44 ∷ decimal node) → old ++ behind false (node ∷ nodes) ≡ whole → now ++ behind false nodes ≡ whole
next_written old now whole node nodes p q =
    ap (λ (l : List ℕ). l ++ behind false nodes) p ∙ append_assoc old (44 ∷ decimal node) (behind false nodes) ∙ q

-- a place more, of which is known whether it is set
at_member : (text whole : List ℕ) (first f member m : Bool) (node : ℕ) (places others : List Bool) → places ≡ member ∷ others → member ≡ m → first ≡ f →
    text ++ behind first (numbers_of node places) ≡ whole → text ++ behind f (numbers_of node (m ∷ others)) ≡ whole
at_member text whole first f member m node places others p q r e =
    ap (λ (b : Bool). text ++ behind b (numbers_of node (m ∷ others))) (sym r)
    ∙ ap (λ (bs : List Bool). text ++ behind first (numbers_of node bs)) (sym (p ∙ ap (λ (b : Bool). b ∷ others) q)) ∙ e

pub first_member : (text now whole : List ℕ) (first after member : Bool) (node : ℕ) (places others : List Bool) → places ≡ member ∷ others → member ≡ true → first ≡ true →
    now ≡ text ++ decimal node → after ≡ false → text ++ behind first (numbers_of node places) ≡ whole → now ++ behind after (numbers_of (node + 1) others) ≡ whole
first_member text now whole first after member node places others p q r n a e =
    ap (λ (b : Bool). now ++ behind b (numbers_of (node + 1) others)) a
    ∙ first_written text now whole node (numbers_of (node + 1) others) n (at_member text whole first true member true node places others p q r e)

pub next_member : (text now whole : List ℕ) (first after member : Bool) (node : ℕ) (places others : List Bool) → places ≡ member ∷ others → member ≡ true → first ≡ false →
    now ≡ text ++ 44 ∷ decimal node → after ≡ false → text ++ behind first (numbers_of node places) ≡ whole → now ++ behind after (numbers_of (node + 1) others) ≡ whole
next_member text now whole first after member node places others p q r n a e =
    ap (λ (b : Bool). now ++ behind b (numbers_of (node + 1) others)) a
    ∙ next_written text now whole node (numbers_of (node + 1) others) n (at_member text whole first false member true node places others p q r e)

pub no_member : (text now whole : List ℕ) (first after member : Bool) (node : ℕ) (places others : List Bool) → places ≡ member ∷ others → member ≡ false →
    now ≡ text → after ≡ first → text ++ behind first (numbers_of node places) ≡ whole → now ++ behind after (numbers_of (node + 1) others) ≡ whole
no_member text now whole first after member node places others p q n a e =
    ap (λ (b : Bool). now ++ behind b (numbers_of (node + 1) others)) a
    ∙ ap (λ (l : List ℕ). l ++ behind first (numbers_of (node + 1) others)) n
    ∙ at_member text whole first first member false node places others p q refl e
