use Rattle.std.proofs.Common.{◌≡◌, ◌<◌, ◌≤◌, ◌-◌, ◌^◌, length, min, take}
use Rattle.std.specs.Str.Parse.{AllDigits, digits_value}
use Rattle.kp_words.proofs.few_digits.Given as goal

abbrev pub invariant-loop-digits : goal.invariant-loop-digits
invariant-loop-digits l = record {
  within : l.digits ≤ l.most;
  most : l.most ≡ min (length l.bytes) 18;
  digits : AllDigits 10 (take l.digits l.bytes);
  value : l.value ≡ digits_value 10 (take l.digits l.bytes);
  fits : l.value < 10 ^ l.digits;
}

abbrev pub decreases-loop-digits : goal.decreases-loop-digits
decreases-loop-digits l = l.most - l.digits
