-- A text is of one state, or of one record.
use Rattle.std.proofs.Common.{◌≡◌, ◌≢◌, ℕ, ◌<◌, ◌≤◌, ◌^◌, List, [], ◌∷◌, ◌++◌, Option, Some, None, codes, length, map, refl, sym, ap, ◌∙◌, subst, arith, append-nil}
use Rattle.std.specs.Prelude.{IfSome}
use Rattle.std.specs.Fmt.{decimal}
use Rattle.std.specs.List.{AllByRecursion}
use Rattle.std.proofs.lemmas.Fmt.{decimal_injective}
use Rattle.std.proofs.lemmas.List.{append_cancel_right}
use Rattle.kp_model.specs.Step.{IsInRange}
use Rattle.kp_model.specs.World.{LeaderAndIsr, most_nodes}
use Rattle.kp_words.specs.Words.{Lacks}
use Rattle.kp_words.proofs.Numbers.{same_between}
use Rattle.kp_texts.specs.declared.texts.EpochStart.{EpochStart}
use Rattle.kp_texts.specs.Texts.{HasOneRecord, HasOneState, IsStart, StateText, listed, messages_line, record_lines, start_text, state_lines}
use Rattle.kp_texts.specs.Reading.{controller_front, isr_front}
use Rattle.kp_texts.proofs.EpochStarts.{same_starts, start_lacks}
use Rattle.kp_texts.proofs.Fronts.{feed, no_number, numbers_in, numbers_range, same_numbers, state_is}
use Rattle.kp_texts.proofs.Pieces.{all_map, listed_pieces}
use Rattle.kp_texts.proofs.RecordFronts.{after_isr, after_leader, leader_range, record_is, same_nodes}
use Rattle.kp_texts.proofs.RisingNodes.{node_lacks, rise_bounds}
use Rattle.kp_texts.proofs.Seals.{same_lines}

-- what is listed is listed of one list of words
same_listed : {A : Type 0} (f : A → List ℕ) (R : A → Type 0) → ((x : A) → R x → Lacks 44 (f x)) → ((x : A) → R x → codes "none" ≢ f x) → (xs ys : List A) → AllByRecursion R xs → AllByRecursion R ys →
    listed (map f xs) ≡ listed (map f ys) → map f xs ≡ map f ys
same_listed f R lacks some [] [] p q e = refl
same_listed f R lacks some [] (y ∷ ys) p q e =
    let parts : codes "none" ∷ [] ≡ f y ∷ map f ys = listed_pieces (f y) (map f ys) (codes "none") (lacks y q.0, all_map f R (Lacks 44) lacks ys q.1) e in
    let first : codes "none" ≡ f y = cc in
    absurd (some y q.0 first)
same_listed f R lacks some (x ∷ xs) [] p q e =
    let parts : codes "none" ∷ [] ≡ f x ∷ map f xs = listed_pieces (f x) (map f xs) (codes "none") (lacks x p.0, all_map f R (Lacks 44) lacks xs p.1) (sym e) in
    let first : codes "none" ≡ f x = cc in
    absurd (some x p.0 first)
same_listed f R lacks some (x ∷ xs) (y ∷ ys) p q e =
    sym (listed_pieces (f x) (map f xs) (listed (map f (x ∷ xs))) (lacks x p.0, all_map f R (Lacks 44) lacks xs p.1) refl)
    ∙ listed_pieces (f y) (map f ys) (listed (map f (x ∷ xs))) (lacks y q.0, all_map f R (Lacks 44) lacks ys q.1) e

-- ---- a state

start_some : (s : EpochStart) → IsStart s → codes "none" ≢ start_text s
start_some s range e = no_number s.epoch (58 ∷ decimal s.start) (codes "one") (omega (arith, range.0)) e

pub one_state : HasOneState
one_state a b p q e =
    let word : StateText → List ℕ = λ s. listed (map start_text s.starts) in
    let lines = same_lines (state_lines a) (state_lines b) e in
    let numbers = same_numbers (numbers_in a) (numbers_in b) (state_lines a) (word a ++ 10 ∷ []) (word b ++ 10 ∷ []) (numbers_range a p) (numbers_range b q) (sym (state_is a)) (lines ∙ sym (state_is b)) in
    let words = append_cancel_right (word a) (word b) (10 ∷ []) numbers.1 in
    let starts = same_starts a.starts b.starts p.starts.each q.starts.each (same_listed start_text IsStart start_lacks start_some a.starts b.starts p.starts.each q.starts.each words) in
    λ i. record { checkpoint = (numbers.0 i).checkpoint; life = (numbers.0 i).life; kept = (numbers.0 i).kept; end = (numbers.0 i).end; starts = starts i }

-- ---- a record

same_members : (nodes : ℕ) (ms ns : List ℕ) → nodes < 2 ^ 64 → AllByRecursion (λ m. m < nodes) ms → AllByRecursion (λ m. m < nodes) ns → map decimal ms ≡ map decimal ns → ms ≡ ns
same_members nodes [] [] fits p q e = refl
same_members nodes [] (n ∷ ns) fits p q e = absurd (omega (arith, ap length e))
same_members nodes (m ∷ ms) [] fits p q e = absurd (omega (arith, ap length e))
same_members nodes (m ∷ ms) (n ∷ ns) fits p q e =
    let head : decimal m ≡ decimal n = cc in
    let tail : map decimal ms ≡ map decimal ns = cc in
    ap (λ (k : ℕ). k ∷ ms) (decimal_injective m n (omega (arith, p.0)) (omega (arith, q.0)) head) ∙ ap (λ (ks : List ℕ). n ∷ ks) (same_members nodes ms ns fits p.1 q.1 tail)

node_some : (nodes : ℕ) → nodes < 2 ^ 64 → (n : ℕ) → n < nodes → codes "none" ≢ decimal n
node_some nodes fits n below e = no_number n [] (codes "one") (omega arith) (e ∙ sym (append-nil (decimal n)))

same_controller : (nodes : ℕ) (a b : LeaderAndIsr) (bytes x y : List ℕ) → nodes ≤ most_nodes → IsInRange nodes a → IsInRange nodes b → bytes ≡ controller_front a x → bytes ≡ controller_front b y → (a ≡ b) × (x ≡ y)
same_controller nodes a b bytes x y few p q e f =
    let fits : nodes < 2 ^ 64 = omega (arith, few) in
    let leader = after_leader nodes a.leader b.leader bytes (isr_front a.isr a.version x) (isr_front b.isr b.version y) few (leader_range nodes a.leader p.leader) (leader_range nodes b.leader q.leader) e f in
    let rest = after_isr nodes a.isr b.isr a.version b.version (isr_front a.isr a.version x) x y few p.isr q.isr p.version q.version refl leader.1 in
    let below_a = rise_bounds 0 nodes a.isr p.isr in
    let below_b = rise_bounds 0 nodes b.isr q.isr in
    let isr = same_members nodes a.isr b.isr fits below_a below_b
    (same_listed decimal (λ n. n < nodes) (node_lacks 44 nodes (omega arith) fits) (node_some nodes fits) a.isr b.isr below_a below_b rest.0) in
    (λ i. record { leader = leader.0 i; isr = isr i; version = rest.1 i }, rest.2)

same_messages : (m n : Option ℕ) → IfSome m (λ k. k < 2 ^ 31) → IfSome n (λ k. k < 2 ^ 31) → messages_line m ≡ messages_line n → m ≡ n
same_messages None None p q e = refl
same_messages None (Some n) p q e = absurd (omega (arith, ap length e))
same_messages (Some m) None p q e = absurd (omega (arith, ap length e))
same_messages (Some m) (Some n) p q e =
    ap (λ (k : ℕ). Some k) (same_between (codes "messages ") (messages_line (Some m)) 10 m n [] [] feed (omega (arith, p)) (omega (arith, q)) refl e).0

pub one_record : HasOneRecord
one_record a b p q e =
    let lines = same_lines (record_lines a) (record_lines b) e in
    let nodes = same_nodes (record_lines a) (controller_front a.controller (messages_line a.messages)) (controller_front b.controller (messages_line b.messages)) a.nodes b.nodes p.most q.most
    (sym (record_is a)) (lines ∙ sym (record_is b)) in
    let controller = same_controller a.nodes a.controller b.controller (controller_front a.controller (messages_line a.messages)) (messages_line a.messages) (messages_line b.messages) p.most p.controller
    (subst (λ (n : ℕ). IsInRange n b.controller) (sym nodes.0) q.controller) refl nodes.1 in
    let messages = same_messages a.messages b.messages p.messages q.messages controller.1 in
    λ i. record { nodes = nodes.0 i; controller = controller.0 i; messages = messages i }
