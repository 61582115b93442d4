-- What it takes that a node did something.
use Rattle.std.proofs.Common.{◌≡◌, ℕ, ◌+◌, ◌-◌, ◌^◌, ◌<◌, ◌≤◌, leb, Bool, true, false, cond, eqb, Option, Some, None, refl, sym, ap, subst}
use Rattle.kp_types.specs.declared.refusal.Refusal.{Refusal}
use Rattle.kp_types.specs.declared.refusal.Refusal.TheVariants as refusals
use Rattle.std.proofs.lemmas.Bool.{eq-eqb, ne_eqb, lt-leb, le-leb}
use Rattle.kp_model.specs.Log.{end_of}
use Rattle.kp_model.specs.World.{Leader, LeaderAndIsr, Leading, Mode, Down, Idle, Leads, Follows, Node, no_reports}
use Rattle.kp_model.specs.Event.{Adopt, Raise, Checkpoint, Stop, Restart, Refused, NowLeads, NowFollows, MarkAt, CheckpointAt, Stopped, Restarted}
use Rattle.kp_model.specs.Effect.{Effect, becomes, is_down, WhereLeads}
use Rattle.kp_model.specs.Adopting.{is_news, under, Adopts}
use Rattle.kp_model.specs.Raising.{Raises, raised}
use Rattle.kp_model.specs.Local.{Local, cause}
use Rattle.kp_model.proofs.OneStep.Steps.{happened, lacked_memory, was_refused}

-- ---- adopt

adopt_cause : (c : LeaderAndIsr) (n : ℕ) (x : Node) (news : Bool) → is_down x.mode ≡ false → is_news c n x ≡ news → cause c n x Adopt ≡ cond news None (Some refusals.StaleRecord)
adopt_cause c n x true up news = rw (up, news) refl
adopt_cause c n x false up news = rw (up, news) refl

pub stale : (c : LeaderAndIsr) (n : ℕ) (x : Node) → is_down x.mode ≡ false → is_news c n x ≡ false → Local c n x Adopt (becomes x (Refused refusals.StaleRecord))
stale c n x up news = was_refused c n x Adopt refusals.StaleRecord (adopt_cause c n x false up news)

-- the node takes up this leader's epoch
pub adopted : (c : LeaderAndIsr) (n : ℕ) (x : Node) (l : Leader) → c.leader ≡ Some l → is_down x.mode ≡ false → is_news c n x ≡ true
    → Local c n x Adopt (becomes (record x { kept = Some l.epoch; mode = (under c l n x.log).0 }) (under c l n x.log).1)
adopted c n x l is up news =
    let e : Effect = becomes (record x { kept = Some l.epoch; mode = (under c l n x.log).0 }) (under c l n x.log).1 in
    happened c n x Adopt e (adopt_cause c n x true up news) (subst (λ (o : Option Leader). Adopts c n x o e) (sym is) refl)

pub adopted_leads : (c : LeaderAndIsr) (n : ℕ) (x : Node) (l : Leader) → c.leader ≡ Some l → is_down x.mode ≡ false → is_news c n x ≡ true → l.node ≡ n
    → Local c n x Adopt
    (becomes (record x { kept = Some l.epoch; mode = Leads (record { epoch = l.epoch; isr = c.isr; version = c.version; pending = None; start = end_of x.log; reported = no_reports }) }) (NowLeads l.epoch (end_of x.log)))
adopted_leads c n x l is up news here =
    let same : eqb l.node n ≡ true = eq-eqb l.node n here in
    rw same at (adopted c n x l is up news)

pub adopted_follows : (c : LeaderAndIsr) (n : ℕ) (x : Node) (l : Leader) → c.leader ≡ Some l → is_down x.mode ≡ false → is_news c n x ≡ true → (l.node ≡ n → ⊥)
    → Local c n x Adopt
    (becomes (record x { kept = Some l.epoch; mode = Follows (record { leader = l.node; epoch = l.epoch }) }) (NowFollows l.node l.epoch))
adopted_follows c n x l is up news apart =
    let other : eqb l.node n ≡ false = ne_eqb l.node n apart in
    rw other at (adopted c n x l is up news)

-- ---- raise

pub raises : (c : LeaderAndIsr) (n : ℕ) (x : Node) (l : Leading) (mark : ℕ) → x.mode ≡ Leads l → raised n x l ≡ mark
    → Local c n x Raise (becomes (record x { watermark = mark }) (MarkAt mark))
raises c n x l mark leads is =
    let e : Effect = becomes (record x { watermark = mark }) (MarkAt mark) in
    let does : Raises n x l e = ap (λ (m : ℕ). becomes (record x { watermark = m }) (MarkAt m)) (sym is) in
    happened c n x Raise e (rw leads refl) (subst (λ (m : Mode). WhereLeads m (λ l. Raises n x l e)) (sym leads) does)

-- ---- checkpoint, stop

pub checkpoints : (c : LeaderAndIsr) (n : ℕ) (x : Node) → is_down x.mode ≡ false → Local c n x Checkpoint (becomes (record x { checkpoint = x.watermark }) (CheckpointAt x.watermark))
checkpoints c n x up = happened c n x Checkpoint (becomes (record x { checkpoint = x.watermark }) (CheckpointAt x.watermark)) (rw up refl) refl

pub stops : (c : LeaderAndIsr) (n : ℕ) (x : Node) → is_down x.mode ≡ false → Local c n x Stop (becomes (record x { mode = Down }) Stopped)
stops c n x up = happened c n x Stop (becomes (record x { mode = Down }) Stopped) (rw up refl) refl

-- ---- restart

restart_cause : (c : LeaderAndIsr) (n : ℕ) (x : Node) (last : Bool) → is_down x.mode ≡ true → leb (2 ^ 64 - 1) x.life ≡ last
    → cause c n x Restart ≡ cond last (Some refusals.RecordFull) None
restart_cause c n x last down is = rw (down, is) refl

pub restarts : (c : LeaderAndIsr) (n : ℕ) (x : Node) → is_down x.mode ≡ true → x.life < 2 ^ 64 - 1
    → Local c n x Restart (becomes (record x { watermark = x.checkpoint; life = x.life + 1; mode = Idle }) (Restarted (x.life + 1) (end_of x.log) x.checkpoint))
restarts c n x down below =
    let e : Effect = becomes (record x { watermark = x.checkpoint; life = x.life + 1; mode = Idle }) (Restarted (x.life + 1) (end_of x.log) x.checkpoint) in
    happened c n x Restart e (restart_cause c n x false down (lt-leb (2 ^ 64 - 1) x.life below)) refl

-- in no life after the greatest
pub not_again : (c : LeaderAndIsr) (n : ℕ) (x : Node) → is_down x.mode ≡ true → 2 ^ 64 - 1 ≤ x.life → Local c n x Restart (becomes x (Refused refusals.RecordFull))
not_again c n x down last = was_refused c n x Restart refusals.RecordFull (restart_cause c n x true down (le-leb (2 ^ 64 - 1) x.life last))

-- nor without memory
pub lacks_room : (c : LeaderAndIsr) (n : ℕ) (x : Node) (refusal : Refusal) → is_down x.mode ≡ true → x.life < 2 ^ 64 - 1 → refusal ≡ refusals.Memory
    → Local c n x Restart (becomes x (Refused refusal))
lacks_room c n x refusal down below is =
    lacked_memory c n x Restart (becomes x (Refused refusal)) (restart_cause c n x false down (lt-leb (2 ^ 64 - 1) x.life below))
    (ap (λ (r : Refusal). becomes x (Refused r)) is)
