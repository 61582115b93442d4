-- Facts on what an option holds.
use Rattle.std.proofs.Common.{Option, Some, None, MatchOption, IfSome, IfNone}

-- the parts of a fact by cases
pub some_part : {X : Type 0} (r : Option X) (P : Type 0) (Q : X → Type 0) → MatchOption r P Q → IfSome r Q
some_part None P Q h = tt
some_part (Some x) P Q h = h

pub none_part : {X : Type 0} (r : Option X) (P : Type 0) (Q : X → Type 0) → MatchOption r P Q → IfNone r P
none_part None P Q h = h
none_part (Some x) P Q h = tt

-- a fact for `Some`, or for `None`, from another one
pub some_weaker : {X : Type 0} (r : Option X) (P Q : X → Type 0) → ((x : X) → P x → Q x) → IfSome r P → IfSome r Q
some_weaker None P Q f h = tt
some_weaker (Some x) P Q f h = f x h

pub none_weaker : {X : Type 0} (r : Option X) (P Q : Type 0) → (P → Q) → IfNone r P → IfNone r Q
none_weaker None P Q f h = f h
none_weaker (Some x) P Q f h = tt
