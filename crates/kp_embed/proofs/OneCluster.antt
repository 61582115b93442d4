-- Two handles' objects of one cluster.
use Rattle.std.proofs.Common.{◌≡◌, refl, sym}
use Rattle.std.specs.Prelude.{Option, Some, None, IfSome}
use Rattle.kp_board.specs.Opening.{BoardId}
use Rattle.kp_handles.specs.Called.{AreOfOne, table_of}
use Rattle.kp_handles.specs.Objects.{ObjectView}

pub first_is : (o : Option ObjectView) (t u : BoardId) → IfSome o (λ _. t ≡ table_of o t u)
first_is None t u = tt
first_is (Some x) t u = refl

pub second_is : (o p : Option ObjectView) (t u : BoardId) → AreOfOne o t p u → IfSome p (λ _. u ≡ table_of o t u)
second_is o None t u e = tt
second_is None (Some y) t u e = refl
second_is (Some x) (Some y) t u e = sym e
