-- What a folder has, as a script's run begins with it.
use Rattle.std.proofs.Common.{◌≡◌, ◌∙◌, ℕ, zero, suc, ◌+◌, ◌<◌, ◌^◌, Bool, true, false, List, [], ◌∷◌, ◌++◌, drop, length, Option, Some, None, Result, refl, sym, ap, subst, arith, slice_index_or, inl, inr}
use Rattle.std.specs.Prelude.{IfSome}
use Rattle.std.specs.List.{AllByRecursion}
use Rattle.std.proofs.lemmas.List.{drop_more, map-append}
use Rattle.std.proofs.lemmas.Bool.{ltb-false}
use Rattle.kp_types.specs.declared.limits.Limits.{Limits}
use Rattle.kp_types.specs.declared.refusal.Refusal.{Refusal}
use Rattle.kp_model.specs.Event.{Event}
use Rattle.kp_model.specs.World.{LeaderAndIsr}
use Rattle.kp_model.specs.Left.{LeftBehind, LeftNode, again, left_node, nothing_left}
use Rattle.kp_folder.proofs.NodeRows.{length_again}
use Rattle.kp_folder.specs.Files.{Files}
use Rattle.kp_folder.specs.Left.{HasLeft, HasRecord, HaveLives, nodes_again}
use Rattle.kp_folder.specs.declared.fault.FolderFault.{FolderFault}
use Rattle.kp_folder.specs.declared.fault.FolderFault.TheVariants.{BadFile}
use Rattle.kp_folder.specs.declared.fault.KeptFile.TheVariants.{Record}
use Rattle.kp_replica.specs.NumberedNode.{NumberedNode}
use Rattle.kp_world.specs.Left.{BeginsAgain, IsPause, LeftStagesGoOn}
use Rattle.kp_world.specs.Plays.{IsReached}
use Rattle.kp_world.specs.Shown.{Stage}
use Rattle.kp_world.specs.declared.event.EventAnswer.{EventAnswer}
use Rattle.kp_script.specs.Call.{Call, Deliver, Header, IsCall}
use Rattle.kp_script.specs.Ended.{limits_in}
use Rattle.kp_script.specs.Left.{CameTo, HoldsBehind, IsBegun, IsLineFault, LacksNumber, NoneToRun, is_before, lost_line}
use Rattle.kp_script.specs.Script.{IsFaultAt}
use Rattle.kp_script.specs.Playing.{LedTo, MayPlay, Reaches}
use Rattle.kp_script.specs.Transcript.{Past, answers_before, events_before}

-- ---- lost messages

pub lost_here : (first : ℕ) (call : ℕ × Call) (calls : List (ℕ × Call)) → is_before first call.1 ≡ true → lost_line first (call ∷ calls) ≡ Some call.0
lost_here first call calls is = rw is refl

pub lost_later : (first : ℕ) (call : ℕ × Call) (calls : List (ℕ × Call)) → is_before first call.1 ≡ false → lost_line first (call ∷ calls) ≡ lost_line first calls
lost_later first call calls is = rw is refl

none_before : (first : ℕ) (x : ℕ × Call) (xs ys : List (ℕ × Call)) (b : Bool) → is_before first x.1 ≡ b → (lost_line first xs ≡ None → lost_line first (xs ++ ys) ≡ lost_line first ys)
    → lost_line first (x ∷ xs) ≡ None → lost_line first (x ∷ xs ++ ys) ≡ lost_line first ys
none_before first x xs ys true is more none = absurd (let e = sym (lost_here first x xs is) ∙ none in cc)
none_before first x xs ys false is more none = lost_later first x (xs ++ ys) is ∙ more (sym (lost_later first x xs is) ∙ none)

-- behind calls of which none is lost
pub lost_behind : (first : ℕ) (xs ys : List (ℕ × Call)) → lost_line first xs ≡ None → lost_line first (xs ++ ys) ≡ lost_line first ys
lost_behind first [] ys none = refl
lost_behind first (x ∷ xs) ys none = none_before first x xs ys (is_before first x.1) refl (lost_behind first xs ys) none

some_before : (first line : ℕ) (x : ℕ × Call) (xs ys : List (ℕ × Call)) (b : Bool) → is_before first x.1 ≡ b → (lost_line first xs ≡ Some line → lost_line first (xs ++ ys) ≡ Some line)
    → lost_line first (x ∷ xs) ≡ Some line → lost_line first (x ∷ xs ++ ys) ≡ Some line
some_before first line x xs ys true is more some = lost_here first x (xs ++ ys) is ∙ sym (lost_here first x xs is) ∙ some
some_before first line x xs ys false is more some = lost_later first x (xs ++ ys) is ∙ more (sym (lost_later first x xs is) ∙ some)

-- the first of the lost ones is the first whatever comes behind it
pub lost_first : (first line : ℕ) (xs ys : List (ℕ × Call)) → lost_line first xs ≡ Some line → lost_line first (xs ++ ys) ≡ Some line
lost_first first line [] ys some = absurd cc
lost_first first line (x ∷ xs) ys some = some_before first line x xs ys (is_before first x.1) refl (lost_first first line xs ys) some

reaches : (first : ℕ) (call : Call) → is_before first call ≡ false → Reaches first call
reaches first (Deliver number) is = ltb-false number first is
reaches first _ is = tt

may_one : (first : ℕ) (x : ℕ × Call) (xs : List (ℕ × Call)) (b : Bool) → is_before first x.1 ≡ b → lost_line first (x ∷ xs) ≡ None → Reaches first x.1 × (lost_line first xs ≡ None)
may_one first x xs true is none = absurd (let e = sym (lost_here first x xs is) ∙ none in cc)
may_one first x xs false is none = (reaches first x.1 is, sym (lost_later first x xs is) ∙ none)

-- where none is lost each call may be played
pub all_reach : (stage : Stage) (count : ℕ) (calls : List (ℕ × Call)) → length stage.nodes ≡ count → lost_line stage.first calls ≡ None
    → AllByRecursion (λ call. IsCall count call.1) calls → AllByRecursion (λ call. MayPlay stage call.1) calls
all_reach stage count [] nodes none lawful = tt
all_reach stage count (x ∷ xs) nodes none lawful =
    let one = may_one stage.first x xs (is_before stage.first x.1) refl none in
    ((subst (λ (n : ℕ). IsCall n x.1) (sym nodes) lawful.0, one.0), all_reach stage count xs nodes one.1 lawful.1)

-- what is left of a list begins with what stands at this place
pub item_dropped : {X : Type 0} → (xs : List X) (at : ℕ) (x : X) → at < length xs → x ≡ slice_index_or xs at x → drop at xs ≡ x ∷ drop (at + 1) xs
item_dropped xs at x inside is = drop_more xs at x inside ∙ ap (λ (y : _). y ∷ drop (at + 1) xs) (sym is)

-- ---- what the folder has

again_at : (limits : Limits) (from : ℕ) (xs : List LeftNode) (k : ℕ) (m : NumberedNode) → k < length xs
    → slice_index_or (nodes_again limits from xs) k m ≡ record { number = from + k; limits = limits; state = again (slice_index_or xs k nothing_left) }
again_at limits from [] k m h = absurd (omega (arith, h))
again_at limits from (x ∷ xs) zero m h = let same : from ≡ from + 0 = omega arith in λ i. record { number = same i; limits = limits; state = again x }
again_at limits from (x ∷ xs) (suc k) m h =
    let same : from + 1 + k ≡ from + suc k = omega arith in
    again_at limits (from + 1) xs k m (omega (arith, h)) ∙ (λ i. record { number = same i; limits = limits; state = again (slice_index_or xs k nothing_left) })

-- the world of the nodes that were read begins with what was left
pub begins_again : (limits : Limits) (x : LeftBehind) (sent : ℕ) (nodes : List NumberedNode) (w : Stage) → nodes ≡ nodes_again limits 0 x.nodes
    → w ≡ record { controller = x.controller; nodes = nodes; first = sent; letters = [] } → BeginsAgain limits x sent w
begins_again limits x sent nodes w are is =
    let same : w.nodes ≡ nodes_again limits 0 x.nodes = ap (λ (s : Stage). s.nodes) is ∙ are in
    record {
      controller_is = ap (λ (s : Stage). s.controller) is;
      count = ap length same ∙ length_again limits 0 x.nodes;
      nodes = λ k m inside.
          let number : 0 + k ≡ k = omega arith in
          ap (λ (ns : List NumberedNode). slice_index_or ns k m) same ∙ again_at limits 0 x.nodes k m inside ∙ (λ i. record { number = number i; limits = limits; state = again (left_node x k) });
      first_is = ap (λ (s : Stage). s.first) is;
      no_letters = ap (λ (s : Stage). s.letters) is;
    }

lives_at : (xs : List LeftNode) → HaveLives xs → (k : ℕ) → k < length xs → (slice_index_or xs k nothing_left).life + 1 < 2 ^ 64
lives_at [] all k inside = absurd (omega (arith, inside))
lives_at (x ∷ xs) all zero inside = all.0
lives_at (x ∷ xs) all (suc k) inside = lives_at xs all.1 k (omega (arith, inside))

abbrev Happened : Type 0
Happened = Event × Result EventAnswer Refusal

-- whatever came to it leads to this stage
led_again : LeftStagesGoOn → (files : Files) (header : Header) (first : ℕ) (w : Stage) → (b : IsBegun files header first w) → (past : Past) → CameTo (length b.left.nodes) past b.left first
    → (pauses : Past) × AllByRecursion (λ happened. IsPause happened.0) pauses × LedTo (past ++ pauses) header w
led_again law files header first w b past came =
    let x : LeftBehind = b.left in
    let on = law (length x.nodes) came.limits (limits_in header) (events_before past) (answers_before past) came.stage w x first came.reached came.kept (lives_at x.nodes b.lives) b.begins in
    let more : Past = on.0 in
    let events : events_before (past ++ more) ≡ events_before past ++ events_before more = map-append (λ (h : Happened). h.0) past more in
    let answers : answers_before (past ++ more) ≡ answers_before past ++ answers_before more = map-append (λ (h : Happened). h.1) past more in
    let reached : IsReached (length x.nodes) (limits_in header) (events_before (past ++ more)) (answers_before (past ++ more)) w =
    subst (λ (es : List Event). IsReached (length x.nodes) (limits_in header) es (answers_before (past ++ more)) w) (sym events)
    (subst (λ (os : List (Result EventAnswer Refusal)). IsReached (length x.nodes) (limits_in header) (events_before past ++ events_before more) os w) (sym answers) on.2) in
    (more, on.1, subst (λ (n : ℕ). IsReached n (limits_in header) (events_before (past ++ more)) (answers_before (past ++ more)) w) b.count reached)

-- so what holds behind each past that leads to it holds behind the folder
pub holds_behind : LeftStagesGoOn → (known : Option Files) (header : Header) (first : ℕ) (w : Stage) (Holds : Past → Type 0) → IfSome known (λ files. IsBegun files header first w)
    → ((past : Past) → LedTo past header w → Holds past) → HoldsBehind known Holds
holds_behind law None header first w Holds begun holds = tt
holds_behind law (Some files) header first w Holds b holds = (b.left, first, b.has, λ past came. let on = led_again law files header first w b past came in (on.0, on.1, holds (past ++ on.0) on.2))

-- what was read of a folder: what it has, the record, and the nodes as they were read
abbrev pub WasRead : Files → (max : ℕ) → (messages : Option ℕ) → LeaderAndIsr → List NumberedNode → (limits : Limits) → Type 0
WasRead files max messages controller nodes limits =
    (x : LeftBehind) × HasLeft files max x messages × HaveLives x.nodes × (x.controller ≡ controller) × (nodes ≡ nodes_again limits 0 x.nodes)

pub world_begun : (known : Option Files) (limits : Limits) (header : Header) (messages : Option ℕ) (first : ℕ) (controller : LeaderAndIsr) (nodes : List NumberedNode) (w : Stage)
    → limits ≡ limits_in header → messages ≡ Some first → length nodes ≡ header.count → w ≡ record { controller = controller; nodes = nodes; first = first; letters = [] }
    → IfSome known (λ files. WasRead files limits.max_batch messages controller nodes limits) → IfSome known (λ files. IsBegun files header first w)
world_begun None limits header messages first controller nodes w of said many is read = tt
world_begun (Some files) limits header messages first controller nodes w of said many is read =
    let x : LeftBehind = read.0 in
    let whole : w ≡ record { controller = x.controller; nodes = nodes; first = first; letters = [] } =
    is ∙ (λ i. record { controller = sym read.3 i; nodes = nodes; first = first; letters = [] }) in
    record {
      left = x;
      has = subst (λ (m : ℕ × Option ℕ). HasLeft files m.0 x m.1) (λ i. ((of i).max_batch, said i)) read.1;
      lives = read.2;
      count = sym (length_again limits 0 x.nodes) ∙ sym (ap length read.4) ∙ many;
      begins = subst (λ (l : Limits). BeginsAgain l x first w) of (begins_again limits x first nodes w read.4 whole);
    }

-- it doesn't say how many messages were sent
pub no_number : (known : Option Files) (limits : Limits) (count : ℕ) (messages : Option ℕ) (controller : LeaderAndIsr) (nodes : List NumberedNode) (fault : FolderFault) → fault ≡ BadFile Record
    → messages ≡ None → length nodes ≡ count → IfSome known (λ files. WasRead files limits.max_batch messages controller nodes limits) → IfSome known (λ files. LacksNumber files count fault)
no_number None limits count messages controller nodes fault is said many read = tt
no_number (Some files) limits count messages controller nodes fault is said many read =
    let x : LeftBehind = read.0 in
    let long : length x.nodes ≡ count = sym (length_again limits 0 x.nodes) ∙ sym (ap length read.4) ∙ many in
    (is, (x.controller, subst (λ (m : ℕ × Option ℕ). HasRecord files m.0 x.controller m.1) (λ i. (long i, said i)) read.1.record_is))

pub of_the_script : (known : Option Files) (input : Option (List ℕ)) (line : ℕ) → IfSome input (λ bytes. IsFaultAt bytes line) → IsLineFault known input line
of_the_script known None line h = tt
of_the_script known (Some bytes) line h = inl h

pub either_lacks : (known : Option Files) (count : ℕ) (fault : FolderFault) → IfSome known (λ files. LacksNumber files count fault) → IfSome known (λ files. NoneToRun files count fault)
either_lacks None count fault h = tt
either_lacks (Some files) count fault h = inr h
