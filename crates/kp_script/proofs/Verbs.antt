-- Calls by their verbs: no two verbs have one text, and none has a space.
use Rattle.std.proofs.Common.{◌≡◌, ◌≢◌, ℕ, ◌<◌, Bool, true, not, eqb, List, [], ◌∷◌, ◌++◌, MatchBool, refl, sym, ◌∙◌, subst, codes, arith}
use Rattle.std.specs.Prelude.{bytes_eq, IfSome, None, Option, Some}
use Rattle.std.specs.Fmt.{decimal}
use Rattle.std.specs.List.{list_all}
use Rattle.std.proofs.lemmas.Bool.{and_parts, eqb-false, not-true}
use Rattle.kp_marker.specs.declared.parts.HandedMarker.{HandedMarker}
use Rattle.kp_replica.specs.declared.act.PlainAct.{PlainAct}
use Rattle.kp_replica.specs.declared.act.PlainAct.TheVariants.{Mark, Alter, Read, Committed}
use Rattle.kp_replica.specs.declared.altering.IsrChange.TheVariants.{Join, Leave}
use Rattle.kp_script.specs.Call.{Call, Sender, Elect, Append, Raw, Acts, Deliver, IsCallInRange, SpellsNoCall, IsNoLongVerb, IsNoNodeVerb, SaysAct, act_words, verb_text, fields_text}
use Rattle.kp_script.specs.Read.{AreFields, AreNoFields}
use Rattle.kp_words.specs.Words.{Lacks}
use Rattle.kp_script.specs.Seen.{seen_call}
use Rattle.kp_script.specs.declared.call.Call.{Call as ParsedCall}
use Rattle.kp_words.proofs.Splitting.{one_parting}

infixr 5 when◌then◌else◌
abbrev when◌then◌else◌ : Bool → Type 0 → Type 0 → Type 0
when b then X else Y = MatchBool b X Y

-- words that have a field are no verb alone
pub not_alone : (first : List ℕ) (fields : List (List ℕ)) → first ∷ fields ≡ [] → ⊥
not_alone first fields e = absurd cc

-- The word of an act that names a node alone decides the act.
pub same_act : (a b : PlainAct) (verb : List ℕ) → SaysAct verb a → SaysAct verb b → a ≡ b
same_act (Mark handed) b verb p q = absurd (not_alone _ _ p.1)
same_act (Alter (Join member)) b verb p q = absurd (not_alone _ _ p.1)
same_act (Alter (Leave member)) b verb p q = absurd (not_alone _ _ p.1)
same_act (Read from) b verb p q = absurd (not_alone _ _ p.1)
same_act (Committed from) b verb p q = absurd (not_alone _ _ p.1)
same_act a (Mark handed) verb p q = absurd (not_alone _ _ q.1)
same_act a (Alter (Join member)) verb p q = absurd (not_alone _ _ q.1)
same_act a (Alter (Leave member)) verb p q = absurd (not_alone _ _ q.1)
same_act a (Read from) verb p q = absurd (not_alone _ _ q.1)
same_act a (Committed from) verb p q = absurd (not_alone _ _ q.1)
same_act a b verb p q = let word : (act_words a).0 ≡ (act_words b).0 = sym p.0 ∙ q.0 in grind arith

-- Each call of this verb is as P says. A verb whose calls say more than a node has a line of its own here, in `each` and in `no_verb`.
abbrev pub Each : (P : Call → Type 0) → (verb : List ℕ) → Type 0
Each P verb =
    when bytes_eq verb (codes "elect") then ((node : ℕ) → P (Elect node)) else
    when bytes_eq verb (codes "append") then ((node time : ℕ) (sender : Sender) (transactional : Bool) (values : List (List ℕ)) →
    P (Append node time sender transactional values)) else
    when bytes_eq verb (codes "raw") then ((node : ℕ) (bytes : List ℕ) → P (Raw node bytes)) else
    when bytes_eq verb (codes "mark") then ((node : ℕ) (handed : HandedMarker) → P (Acts node (Mark handed))) else
    when bytes_eq verb (codes "deliver") then ((number : ℕ) → P (Deliver number)) else
    when bytes_eq verb (codes "join") then ((node member : ℕ) → P (Acts node (Alter (Join member)))) else
    when bytes_eq verb (codes "leave") then ((node member : ℕ) → P (Acts node (Alter (Leave member)))) else
    when bytes_eq verb (codes "read") then ((node from : ℕ) → P (Acts node (Read from))) else
    when bytes_eq verb (codes "committed") then ((node from : ℕ) → P (Acts node (Committed from))) else
    ((node : ℕ) (act : PlainAct) → SaysAct verb act → P (Acts node act))

each : (P : Call → Type 0) (call : Call) → Each P (verb_text call) → P call
each P (Elect node) h = h node
each P (Append node time sender transactional values) h = h node time sender transactional values
each P (Raw node bytes) h = h node bytes
each P (Deliver number) h = h number
each P (Acts node (Mark handed)) h = h node handed
each P (Acts node (Alter (Join member))) h = h node member
each P (Acts node (Alter (Leave member))) h = h node member
each P (Acts node (Read from)) h = h node from
each P (Acts node (Committed from)) h = h node from
each P (Acts node act) h = h node act (refl, refl)

-- So is a call that has this verb.
pub by_verb : (P : Call → Type 0) (verb : List ℕ) (call : Call) → Each P verb → verb ≡ verb_text call → P call
by_verb P verb call h e = each P call (subst (Each P) e h)

-- Where no call of this verb has the bytes as its fields, no call that has the verb does.
pub no_fields : (count : ℕ) (verb bytes : List ℕ) → Each (λ call. IsCallInRange count call → bytes ≢ fields_text call) verb →
    AreNoFields count verb bytes
no_fields count verb bytes h call range e =
    by_verb (λ (call : Call). IsCallInRange count call → bytes ≢ fields_text call) verb call h e range

lacks_from : (c : ℕ) (xs : List ℕ) → list_all (λ x. not (eqb x c)) xs ≡ true → Lacks c xs
lacks_from c [] all = tt
lacks_from c (x ∷ xs) all =
    let parts = and_parts (not (eqb x c)) (list_all (λ x. not (eqb x c)) xs) all in
    (eqb-false x c (not-true (eqb x c) parts.0), lacks_from c xs parts.1)

no_spaces : (call : Call) → list_all (λ x. not (eqb x 32)) (verb_text call) ≡ true
no_spaces (Acts node (Alter (Join member))) = refl
no_spaces (Acts node (Alter (Leave member))) = refl
no_spaces (Acts node _) = refl
no_spaces _ = refl

-- A verb has no space.
pub verb_lacks : (call : Call) → Lacks 32 (verb_text call)
verb_lacks call = lacks_from 32 (verb_text call) (no_spaces call)

-- What stands before the first space of a call's line is its verb, and what stands behind it are its fields.
pub no_call : (count : ℕ) (line verb bytes : List ℕ) → line ≡ verb ++ 32 ∷ bytes → Lacks 32 verb → AreNoFields count verb bytes → SpellsNoCall count line
no_call count line verb bytes parted lacks none call is e =
    let parts = one_parting 32 verb (verb_text call) bytes (fields_text call) lacks (verb_lacks call) (sym parted ∙ e) in
    none call is.range parts.0 parts.1

-- A call of such a verb names a node that there is, and it is all that its fields say.
pub record NamesNode (count : ℕ) (call : Call) : Type 0 where
  pub node : ℕ
  pub within : node < count
  pub fields : fields_text call ≡ decimal node

pub names_node : (count : ℕ) (text : List ℕ) → IsNoLongVerb text → (call : Call) → IsCallInRange count call → text ≡ verb_text call → NamesNode count call
names_node count text none (Elect node) range v = record { node = node; within = range; fields = refl }
names_node count text none (Append node time sender transactional values) range v = absurd (none.append v)
names_node count text none (Raw node bytes) range v = absurd (none.raw v)
names_node count text none (Deliver number) range v = absurd (none.deliver v)
names_node count text none (Acts node (Mark handed)) range v = absurd (none.mark v)
names_node count text none (Acts node (Alter (Join member))) range v = absurd (none.join v)
names_node count text none (Acts node (Alter (Leave member))) range v = absurd (none.leave v)
names_node count text none (Acts node (Read from)) range v = absurd (none.read v)
names_node count text none (Acts node (Committed from)) range v = absurd (none.committed v)
names_node count text none (Acts node _) range v = record { node = node; within = range.0; fields = refl }

-- A text that is neither verb is no call's.
pub no_verb : (text : List ℕ) → IsNoLongVerb text → IsNoNodeVerb text → (call : Call) → text ≢ verb_text call
no_verb text none other (Elect node) = other.elect
no_verb text none other (Append node time sender transactional values) = none.append
no_verb text none other (Raw node bytes) = none.raw
no_verb text none other (Deliver number) = none.deliver
no_verb text none other (Acts node (Mark handed)) = none.mark
no_verb text none other (Acts node (Alter (Join member))) = none.join
no_verb text none other (Acts node (Alter (Leave member))) = none.leave
no_verb text none other (Acts node (Read from)) = none.read
no_verb text none other (Acts node (Committed from)) = none.committed
no_verb text none other (Acts node act) = λ v. other.act act (v, refl)

-- ---- what a call of a node alone comes to

pub found_with : (o : Option ParsedCall) (count node : ℕ) (verb bytes : List ℕ) → bytes ≡ decimal node → node < count
    → IfSome o (λ call. (k : ℕ) → node < k → AreFields k verb (decimal node) (seen_call call)) → IfSome o (λ call. AreFields count verb bytes (seen_call call))
found_with None count node verb bytes is within h = tt
found_with (Some call) count node verb bytes is within h = subst (λ (xs : List ℕ). AreFields count verb xs (seen_call call)) (sym is) (h count within)

pub no_fields_with : (count : ℕ) (verb bytes : List ℕ) → IsNoLongVerb verb → IsNoNodeVerb verb → AreNoFields count verb bytes
no_fields_with count verb bytes none other = λ call range v e. no_verb verb none other call v
