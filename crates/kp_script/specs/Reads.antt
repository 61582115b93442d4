-- What a reader of lines has read (own rule).
use Rattle.std.specs.Prelude.{◌≡◌, ℕ, List, [], ◌∷◌, ◌++◌, take, Option, None, Some}
use Rattle.std.specs.Io.KnownBytes.{Consumes, IsAtEnd}
use Rattle.kp_script.specs.Lines.{sent_lines}
use Rattle.kp_words.specs.Words.{Lacks}
use Rattle.kp_script.specs.declared.reader.LineReader.{LineReader}
use Rattle.kp_script.specs.declared.reader.Piece.{Piece}
use Rattle.kp_script.specs.declared.reader.Piece.TheVariants.{Part, Last, End}

-- the reader itself
abbrev pub reader_of : {R : Type 0} → LineReader R → R
reader_of lines = lines.inner

-- how many of its calls failed
abbrev pub read_faults : {R : Type 0} → LineReader R → ℕ
read_faults lines = lines.failed

-- what is kept of a line: no more than shows that it is too long
abbrev pub kept_of : List ℕ → List ℕ
kept_of line = take 2100001 line

-- The lines of the bytes that were left are those that were read, and then those of the bytes that are left now.
abbrev pub Reads : (old new : Option (List ℕ)) → (read : List (Option (List ℕ))) → Type 0
Reads None new read = Unit {0}
Reads (Some all) None read = ⊥
Reads (Some all) (Some rest) read = sent_lines all ≡ read ++ sent_lines rest

-- And besides these lines the beginning of another one may have been read.
abbrev pub ReadsInto : (old new : Option (List ℕ)) → (read : List (Option (List ℕ))) → Type 0
ReadsInto None new read = Unit {0}
ReadsInto (Some all) None read = ⊥
ReadsInto (Some all) (Some rest) read = (begun : List ℕ) × Lacks 10 begun × (sent_lines all ≡ read ++ sent_lines (begun ++ rest))

-- What the reader gave of a line: bytes of it, or its last ones and the line feed; or nothing, as nothing is left.
abbrev pub Gives : Piece → (old new : Option (List ℕ)) → (part : List ℕ) → Type 0
Gives Part old new part = Consumes old new part
Gives Last old new part = Consumes old new (part ++ 10 ∷ [])
Gives End old new part = Consumes old new part × IsAtEnd old × (part ≡ [])
