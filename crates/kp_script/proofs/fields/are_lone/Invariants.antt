use Rattle.std.proofs.Common.{◌≡◌, length}
use Rattle.std.specs.List.{list_all}
use Rattle.kp_script.specs.Call.{is_value}
use Rattle.kp_words.specs.Words.{pieces}
use Rattle.kp_script.specs.Read.{goes_on}
use Rattle.kp_script.proofs.Values.{no_comma}
use Rattle.kp_script.proofs.fields.are_lone.Given as goal

-- what is left decides, both whether they are values and whether they are one
abbrev pub invariant-loop-eight : goal.invariant-loop-eight
invariant-loop-eight l = record {
  values : list_all is_value (pieces l.values) ≡ goes_on l.begun l.rest;
  commas : no_comma l.values ≡ no_comma l.rest;
}

abbrev pub decreases-loop-eight : goal.decreases-loop-eight
decreases-loop-eight l = length l.rest
