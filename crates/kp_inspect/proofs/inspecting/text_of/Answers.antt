use Rattle.std.proofs.Common.{List, ℕ, string_bytes, arith, refl, sym, ap, ◌∙◌, subst}
use Rattle.std.specs.List.{AllByRecursion}
use Rattle.kp_batch.specs.Batch.{Written}
use Rattle.kp_model.specs.Log.{Batch, bytes}
use Rattle.kp_inspect.specs.Texts.{TellsTables}
use Rattle.kp_inspect.proofs.Dumping.{lines_told, whole_dump, faulty_dump}
use Rattle.kp_inspect.proofs.Telling.{IsPlaced}
use Rattle.kp_inspect.proofs.Scanning.{scan_begins, begins_fits, taken_placed}
use Rattle.kp_inspect.proofs.inspecting.text_of.Goals as goal
use Rattle.kp_inspect.proofs.inspecting.text_of.Goals.{in-Some+in_ok-push_fault-in-Some, in-None+in_ok-push_tables-in-None}

pub push_batches-requires-clause-placed : goal.push_batches-requires-clause-placed
push_batches-requires-clause-placed c =
    let begins = scan_begins c.args.limits.now c.args.bytes.now c.args.found.now c.requires.found in
    subst (λ (l : List Written). AllByRecursion IsPlaced l) (sym c.batches.ensures.stamped)
    (taken_placed c.args.limits.now.max_batch c.args.found.now.log.log begins.1.taken)

pub push_batches-requires-clause-fits : goal.push_batches-requires-clause-fits
push_batches-requires-clause-fits c =
    let begins = scan_begins c.args.limits.now c.args.bytes.now c.args.found.now c.requires.found in
    let fits = begins_fits c.args.limits.now.max_batch c.args.bytes.now c.args.found.now.log.log begins.0 begins.1 in
    let same = ap (λ (l : List Batch). bytes l) c.batches.ensures.value in
    omega (arith, fits, same, c.len-size.ensures)

pub returns-clause-told : goal.returns-clause-told
returns-clause-told c =
    let found = c.args.found.now in
    let limits = c.args.limits.now in
    let read = c.args.bytes.now in
    let lines = lines_told found c.batches.result.now (string_bytes c.new-text.result) (string_bytes c.push_batches.new.text) c.batches.ensures.value c.new-text.ensures.bytes c.in_ok-position.ensures.told in
    elim c.match-found.branch [
      | in-Some+in_ok-push_fault-in-Some w ↦ (
          let position = c.in_ok-position.ensures.size ∙ ap (λ (l : List Batch). bytes l) c.batches.ensures.value in
          let told = ap string_bytes w.text-is ∙ w.in_ok-push_fault-in-Some.ensures in
          faulty_dump limits read read found w.in-Some.refusal c.in_ok-position.position (string_bytes c.push_batches.new.text) (string_bytes c.match-found.text)
          refl c.requires.found w.in-Some.is lines position told
          )
      | in-None+in_ok-push_tables-in-None w ↦ (
          let tables = subst (λ (t : List ℕ). TellsTables found.log (string_bytes c.push_batches.new.text) t) (sym (ap string_bytes w.text-is)) w.in_ok-push_tables-in-None.ensures.told in
          whole_dump limits read read found (string_bytes c.push_batches.new.text) (string_bytes c.match-found.text)
          refl c.requires.found w.in-None.is lines tables
          )
    ]
