-- A refusal's number computes to its digits.
pub use Rattle.std.specs.Fmt.{digits}
