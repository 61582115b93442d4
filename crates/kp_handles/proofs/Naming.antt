-- What an object owns doesn't depend on the type that names its board, once no value of that type tells anything.
use Rattle.std.proofs.Common.{◌≡◌, [], refl, subst}
use base.Fml.{Fml, ffalse}
use base.Stored.{Coded}
use denote.RattleType.{RattleType}
use denote.RawPtr.{Ptr}
use denote.Param.{param}
use Rattle.kp_board.specs.Opening.{BoardId}
use Rattle.core.specs.contracts.marker.Brand as Brand
use Rattle.core.specs.declared.marker.Brand as declared
use Rattle.kp_board.specs.declared.passes.BoardName.{Ghosts}
use Rattle.std_alloc.specs.Box.Ownership.{box_owns}
use Rattle.kp_handles.specs.Objects.{ObjectView}
use Rattle.kp_handles.specs.Rows.{chunk, object_row}
use Rattle.kp_handles.specs.contracts.object.Object as Object

-- a type with these values, of which nothing is owned
abbrev only_values : (X : Type 0) → Coded X → RattleType
only_values X c = record {
  Denot = X;
  mir = (Brand.the_row).mir;
  written = (Brand.the_row).written;
  reaches = [];
  lives = [];
  own_val = λ x vs. ffalse;
  exit = λ k. denote.Exit.unseen;
  coded = c;
  shr_at = λ x b o l. ffalse;
}

abbrev pub owned_as : RattleType → BoardId → Ptr → ObjectView → Fml
owned_as R t p x = box_owns chunk (object_row R t) p x

module _ (B : RattleType) (g : Ghosts B.Denot) (p : Ptr) (x : ObjectView) where
  of_values : (c : Coded B.Denot) → box_owns chunk (Object.the_row (param 0 B) g) p x ≡ owned_as (only_values B.Denot c) g.table p x
  of_values c = refl

  of_brand : owned_as (only_values declared.Brand (Brand.the_row).coded) g.table p x ≡ owned_as Brand.the_row g.table p x
  of_brand = refl

  renamed : (X : Type 0) → B.Denot ≡ X → (c : Coded X) → box_owns chunk (Object.the_row (param 0 B) g) p x ≡ owned_as (only_values X c) g.table p x
  renamed X e = subst (λ (Y : Type 0). (c : Coded Y) → box_owns chunk (Object.the_row (param 0 B) g) p x ≡ owned_as (only_values Y c) g.table p x) e of_values

  pub unnamed : B.Denot ≡ declared.Brand → box_owns chunk (Object.the_row (param 0 B) g) p x ≡ owned_as Brand.the_row g.table p x
  unnamed e = renamed declared.Brand e (Brand.the_row).coded
