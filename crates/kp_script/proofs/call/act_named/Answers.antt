use Rattle.std.proofs.Common.{◌≡◌, arith}
use Rattle.kp_replica.specs.declared.act.PlainAct.TheVariants.{Mark, Alter, Read, Committed}
use Rattle.kp_replica.specs.declared.altering.IsrChange.TheVariants.{Join, Leave}
use Rattle.kp_script.specs.Call.{act_words}
use Rattle.kp_script.proofs.Verbs.{not_alone}
use Rattle.kp_script.proofs.call.act_named.Goals as goal

pub returns-in_default-clause-none : goal.returns-in_default-clause-none
returns-in_default-clause-none c (Mark handed) says = not_alone _ _ says.1
returns-in_default-clause-none c (Alter (Join member)) says = not_alone _ _ says.1
returns-in_default-clause-none c (Alter (Leave member)) says = not_alone _ _ says.1
returns-in_default-clause-none c (Read from) says = not_alone _ _ says.1
returns-in_default-clause-none c (Committed from) says = not_alone _ _ says.1
returns-in_default-clause-none c act says = let word : c.args.verb.now ≡ (act_words act).0 = says.0 in grind arith
