-- What stands in a folder, and how it comes there (own rule).
use Rattle.std.specs.Prelude.{◌≡◌, ◌⊎◌, ℕ, List, [], ◌∷◌, ◌++◌, take, Option, None, Some}
use Rattle.std.specs.Option.{option_map}

-- a name with the bytes of a file, or of a folder without any
pub record Entry : Type 0 where
  pub name : List ℕ
  pub bytes : Option (List ℕ)

abbrev pub folder_entry : List ℕ → Entry
folder_entry name = record { name = name; bytes = None }

abbrev pub file_entry : List ℕ → List ℕ → Entry
file_entry name bytes = record { name = name; bytes = Some bytes }

-- more entries have come behind the known ones
abbrev pub Puts : Option (List Entry) → Option (List Entry) → List Entry → Type 0
Puts None new more = Unit {0}
Puts (Some old) new more = new ≡ Some (old ++ more)

-- a file with more bytes at its end
abbrev pub longer : List ℕ → Entry → Entry
longer more e = record e { bytes = option_map (λ bytes. bytes ++ more) e.bytes }

-- the last one is longer
abbrev pub grow_last : List ℕ → List Entry → List Entry
grow_last more [] = []
grow_last more (e ∷ []) = longer more e ∷ []
grow_last more (e ∷ f ∷ es) = e ∷ grow_last more (f ∷ es)

-- the file that came last has more bytes at its end
abbrev pub Grows : Option (List Entry) → Option (List Entry) → List ℕ → Type 0
Grows None new more = Unit {0}
Grows (Some old) new more = new ≡ Some (grow_last more old)

-- or a beginning of them
abbrev pub GrowsFront : Option (List Entry) → Option (List Entry) → List ℕ → Type 0
GrowsFront old new more = (n : ℕ) × Grows old new (take n more)

-- a beginning of a file's bytes, or a folder
abbrev pub IsPartOf : Option (List ℕ) → Option (List ℕ) → Type 0
IsPartOf None None = Unit {0}
IsPartOf (Some some) (Some all) = (n : ℕ) × (some ≡ take n all)
IsPartOf _ _ = ⊥

-- the first of these entries, of which the last may be a part
abbrev pub AreBegun : List Entry → List Entry → Type 0
AreBegun [] all = Unit {0}
AreBegun (e ∷ es) [] = ⊥
AreBegun (e ∷ es) (f ∷ all) = ((e ≡ f) × AreBegun es all) ⊎ ((es ≡ []) × (e.name ≡ f.name) × IsPartOf e.bytes f.bytes)

-- a beginning of these entries has come behind the known ones
abbrev pub PutsFront : Option (List Entry) → Option (List Entry) → List Entry → Type 0
PutsFront old new all = (begun : List Entry) × AreBegun begun all × Puts old new begun
