-- Why nothing that is held is lost: the facts that each step keeps, and what follows from them.
use Rattle.std.proofs.Common.{◌≡◌, ◌⊎◌, ℕ, ◌+◌, ◌<◌, ◌≤◌, List, [], ◌∷◌, length, Option, Some, None, refl, sym, ap, subst, arith, inl, inr, ◌∙◌}
use Rattle.std.specs.Prelude.{IsTrue, max}
use Rattle.std.proofs.lemmas.Bool.{cases_order}
use Rattle.kp_model.specs.Beginning.{Begins, Agree, IsCommonBeginning}
use Rattle.kp_model.specs.Log.{Batch, end_of}
use Rattle.kp_model.specs.World.{Leader, LeaderAndIsr, Leading, Leads, Node, Request, Answer, Proposal, Decision, Message, Asks, Answers, Proposes, Decides, World, IsSent, report_of}
use Rattle.kp_model.specs.Controller.{is_member, next_epoch}
use Rattle.kp_model.proofs.Plain.Beginnings.{Begins-nil, Begins-trans, Begins-agree, Begins-shorter, Agree-sym}
use Rattle.kp_model.proofs.Plain.Logs.{end_of-append}
use Rattle.kp_model.proofs.Kinship.SoundLogs.{AllBelow, mode_bound, elections_of}
use Rattle.kp_model.proofs.Kinship.Kin.{History, IsKept}

-- For each leader epoch: the in-sync set and the version that the record has, or had last, and its leader's log when it first led.
pub record Sets : Type 0 where
  pub members : ℕ → List ℕ
  pub version : ℕ → ℕ
  pub began : ℕ → Option (List Batch)

abbrev pub IsIn : ℕ → List ℕ → Type 0
IsIn m set = IsTrue (is_member m set)

-- a bound on the epochs in which the node may still act: its own epoch and those after it, or any later one
abbrev pub bound : World → ℕ → ℕ
bound w m = mode_bound (elections_of w) (w.nodes m).mode

abbrev pub Sent : World → Message → Type 0
Sent w m = IsSent w.messages m

-- the epochs up to the one that a node keeps, counted
abbrev pub kept_bound : Option ℕ → ℕ
kept_bound None = 0
kept_bound (Some epoch) = epoch + 1

-- m is in the set of a proposal that the controller would follow
abbrev pub IsLive : World → ℕ → Type 0
IsLive w m = (p : Proposal) × Sent w (Proposes p) × (p.known ≡ w.controller) × IsIn m p.isr

-- a member of the in-sync set, or one that a message already sent may make one
abbrev pub IsMember : World → ℕ → Type 0
IsMember w m = IsIn m w.controller.isr ⊎ IsLive w m

-- node m asked in epoch e, with a log that P begins
pub record Fetched (w : World) (m e : ℕ) (P : List Batch) : Type 0 where
  pub request : Request
  pub sent : Sent w (Asks request)
  pub from : request.from ≡ m
  pub epoch : request.epoch ≡ e
  pub begins : Begins P request.log

-- the same, or P is empty
abbrev pub Reached : World → ℕ → ℕ → List Batch → Type 0
Reached w m e P = (P ≡ []) ⊎ Fetched w m e P

-- each member but the leader has asked with P
pub record IsSure (w : World) (g : History) (t : Sets) (e : ℕ) (P : List Batch) : Type 0 where
  pub made : Begins P (g.ledger e)
  pub each : (m : ℕ) → IsIn m (t.members e) → (m ≡ g.leader e → ⊥) → Reached w m e P

-- the same, but a member that may still ask in this epoch is excused
pub record IsPossible (w : World) (g : History) (t : Sets) (e : ℕ) (P : List Batch) : Type 0 where
  pub made : Begins P (g.ledger e)
  pub each : (m : ℕ) → IsIn m (t.members e) → (m ≡ g.leader e → ⊥) → Reached w m e P ⊎ (bound w m ≤ e + 1)

-- a member has moved on to a later epoch
pub record HasPassed (w : World) (t : Sets) (e : ℕ) : Type 0 where
  pub member : ℕ
  pub is_in : IsIn member (t.members e)
  pub moved : e + 1 < bound w member

-- P is sure in some epoch, and if that is the last one, for those that may become members, too; its leader, if it still leads,
-- has it below its watermark or its start
pub record IsCommitted (w : World) (g : History) (t : Sets) (P : List Batch) : Type 0 where
  pub epoch : ℕ
  pub sure : IsSure w g t epoch P
  pub live : (m : ℕ) → IsLive w m → epoch + 1 ≡ elections_of w → (m ≡ g.leader epoch → ⊥) → Reached w m epoch P
  pub within : (l : Leading) → (w.nodes (g.leader epoch)).mode ≡ Leads l → l.epoch ≡ epoch → end_of P ≤ max (w.nodes (g.leader epoch)).watermark l.start

-- the offset is the end of a committed beginning of the log
pub record IsMark (w : World) (g : History) (t : Sets) (log : List Batch) (offset : ℕ) : Type 0 where
  pub list : List Batch
  pub begins : Begins list log
  pub ends : end_of list ≡ offset
  pub committed : IsCommitted w g t list

-- made in this epoch, or its leader hasn't begun it
abbrev pub IsOf : History → Sets → ℕ → List Batch → Type 0
IsOf g t e P = Begins P (g.ledger e) ⊎ (t.began e ≡ None)

-- As long as the asker stays in the request's epoch, its log has of the request's what the leader made in that epoch, and has
-- it all until the leader begins.
pub record RequestIsHeld (elections : ℕ) (g : History) (t : Sets) (r : Request) (x : Node) : Type 0 where
  pub reach : r.epoch + 1 ≤ mode_bound elections x.mode
  pub kept : r.epoch + 1 ≡ mode_bound elections x.mode → (P : List Batch) → Begins P r.log → IsOf g t r.epoch P → Begins P x.log

-- an answer has all that the request's log has of what the leader made
abbrev pub IsRecent : History → Answer → Type 0
IsRecent g a = (Q : List Batch) → Begins Q a.request.log → Begins Q (g.ledger a.request.epoch) → Begins Q a.log

-- its leader had begun this epoch by then
pub record HasBegun (t : Sets) (e : ℕ) (log : List Batch) : Type 0 where
  pub first : List Batch
  pub began : t.began e ≡ Some first
  pub begins : Begins first log

pub record AnswerIsHeld (w : World) (g : History) (t : Sets) (a : Answer) : Type 0 where
  pub begun : HasBegun t a.request.epoch a.log
  pub recent : IsRecent g a
  pub mark : IsMark w g t a.log a.watermark

-- what a leader knows of the record is what it is or was last in its epoch, or the change that it asked for has been made since
abbrev pub Knows : Sets → Leading → Type 0
Knows t l = ((l.version ≡ t.version l.epoch) × (l.isr ≡ t.members l.epoch)) ⊎ ((l.version + 1 ≡ t.version l.epoch) × (l.pending ≡ Some (t.members l.epoch)))

-- who sent the proposal: this leader, in this epoch
abbrev pub IsOfLeader : Proposal → ℕ → ℕ → Type 0
IsOfLeader p n epoch = p.known.leader ≡ Some (record { node = n; epoch = epoch })

pub record LeaderIsHeld (w : World) (g : History) (t : Sets) (log : List Batch) (l : Leading) : Type 0 where
  pub knows : Knows t l
  pub self : IsIn (g.leader l.epoch) l.isr
  pub own : (set : List ℕ) → l.pending ≡ Some set → IsIn (g.leader l.epoch) set
  pub asked : (p : Proposal) → Sent w (Proposes p) → IsOfLeader p (g.leader l.epoch) l.epoch → (p.known.version ≤ l.version) × (p.known.version ≡ l.version → l.pending ≡ Some p.isr)
  pub begun : HasBegun t l.epoch log
  pub start : (first : List Batch) → t.began l.epoch ≡ Some first → end_of first ≤ l.start
  pub fetched : (m r : ℕ) → report_of l m ≡ Some r → (P : List Batch) → Begins P (g.ledger l.epoch) → end_of P ≤ r → Fetched w m l.epoch P
  pub reported : (m r : ℕ) → report_of l m ≡ Some r → (P : List Batch) × Begins P (g.ledger l.epoch) × (end_of P ≡ r)

-- what a leader knows of a new member
pub record CaughtUp (watermark : ℕ) (l : Leading) (m : ℕ) : Type 0 where
  pub end : ℕ
  pub reported : report_of l m ≡ Some end
  pub above_mark : watermark ≤ end
  pub above_start : l.start ≤ end

-- each node of a pending set is in the known one, or caught up
abbrev pub IsReady : (watermark : ℕ) → Leading → Type 0
IsReady watermark l = (set : List ℕ) → l.pending ≡ Some set → (m : ℕ) → IsIn m set → IsIn m l.isr ⊎ CaughtUp watermark l m

pub record RecordIsHeld (w : World) (t : Sets) (l : Leader) : Type 0 where
  pub members : t.members l.epoch ≡ w.controller.isr
  pub version : t.version l.epoch ≡ w.controller.version
  pub leader : IsIn l.node w.controller.isr

pub record ProposalIsHeld (w : World) (t : Sets) (p : Proposal) : Type 0 where
  pub leader : Leader
  pub named : p.known.leader ≡ Some leader
  pub is_in : IsIn leader.node p.isr
  pub first : List Batch
  pub began : t.began leader.epoch ≡ Some first
  pub version : p.known.version ≤ w.controller.version

pub record RecordWasHeld (w : World) (g : History) (t : Sets) (r : LeaderAndIsr) (l : Leader) : Type 0 where
  pub leader : g.leader l.epoch ≡ l.node
  pub elected : l.epoch + 1 ≤ elections_of w
  pub version : r.version ≤ t.version l.epoch
  pub members : r.version ≡ t.version l.epoch → r.isr ≡ t.members l.epoch

abbrev pub DecisionIsHeld : World → History → Sets → Decision → Type 0
DecisionIsHeld w g t d = (l : Leader) → d.decided.leader ≡ Some l → RecordWasHeld w g t d.decided l

-- all that each step keeps
pub record IsHeld (w : World) (g : History) (t : Sets) : Type 0 where
  pub requests : (r : Request) → Sent w (Asks r) → RequestIsHeld (elections_of w) g t r (w.nodes r.from)
  pub answers : (a : Answer) → Sent w (Answers a) → AnswerIsHeld w g t a
  pub marks : (n : ℕ) → IsMark w g t (w.nodes n).log (w.nodes n).watermark
  pub checkpoints : (n : ℕ) → IsMark w g t (w.nodes n).log (w.nodes n).checkpoint
  pub leads : (n : ℕ) (l : Leading) → (w.nodes n).mode ≡ Leads l → LeaderIsHeld w g t (w.nodes n).log l
  pub ready : (n : ℕ) (l : Leading) → (w.nodes n).mode ≡ Leads l → IsReady (w.nodes n).watermark l
  pub record_is : (l : Leader) → w.controller.leader ≡ Some l → RecordIsHeld w t l
  pub proposals : (p : Proposal) → Sent w (Proposes p) → ProposalIsHeld w t p
  pub decisions : (d : Decision) → Sent w (Decides d) → DecisionIsHeld w g t d
  pub versions : (e : ℕ) → t.version e ≤ w.controller.version
  pub kept : (n : ℕ) → kept_bound (w.nodes n).kept ≤ elections_of w
  pub led_kept : (e : ℕ) (first : List Batch) → t.began e ≡ Some first → e + 1 ≤ kept_bound (w.nodes (g.leader e)).kept
  pub begun : (e : ℕ) (first : List Batch) → t.began e ≡ Some first → Begins first (g.ledger e) × (e + 1 ≤ bound w (g.leader e))
  pub not_begun : (e : ℕ) → t.began e ≡ None → g.ledger e ≡ []
  pub later : (e : ℕ) → elections_of w ≤ e → t.began e ≡ None
  pub joined : (m e : ℕ) → IsMember w m → e + 1 < elections_of w → bound w m ≤ e + 1 → IsIn m (t.members e)
  pub passed_begun : (e e' : ℕ) (first : List Batch) → t.began e' ≡ Some first → e < e' → HasPassed w t e
  pub passed_member : (m e : ℕ) → IsMember w m → e + 1 < bound w m → HasPassed w t e
  pub leaders_hold : (e e' : ℕ) (first P : List Batch) → t.began e' ≡ Some first → e < e' → IsPossible w g t e P → Begins P first
  pub members_hold : (m e : ℕ) (P : List Batch) → IsMember w m → e + 1 < bound w m → IsPossible w g t e P → Begins P (w.nodes m).log

-- what is known of a member, or of whom may become one
pub record IsFit (w : World) (g : History) (t : Sets) (m : ℕ) : Type 0 where
  pub joined : (e : ℕ) → e + 1 < elections_of w → bound w m ≤ e + 1 → IsIn m (t.members e)
  pub passed : (e : ℕ) → e + 1 < bound w m → HasPassed w t e
  pub holds : (e : ℕ) (P : List Batch) → e + 1 < bound w m → IsPossible w g t e P → Begins P (w.nodes m).log
  pub reached : (P : List Batch) (c : IsCommitted w g t P) → c.epoch + 1 ≡ elections_of w → (m ≡ g.leader c.epoch → ⊥) → Reached w m c.epoch P

-- once the last epoch has begun, its leader's log is all that was made in it
abbrev pub IsLed : World → History → Sets → Type 0
IsLed w g t = (l : Leader) → w.controller.leader ≡ Some l → (first : List Batch) → t.began l.epoch ≡ Some first → (w.nodes l.node).log ≡ g.ledger l.epoch

-- what a leader made after it began to lead is of its epoch
abbrev pub IsOwn : History → Sets → Type 0
IsOwn g t = (e : ℕ) (first Q : List Batch) → t.began e ≡ Some first → Begins Q (g.ledger e) → AllBelow e Q → Begins Q first

-- ---- what follows from them

pub member_fit : (w : World) (g : History) (t : Sets) → IsHeld w g t → (m : ℕ) → IsMember w m → IsFit w g t m
member_fit w g t h m i =
    record {
      joined = λ e. h.joined m e i;
      passed = λ e. h.passed_member m e i;
      holds = λ e P. h.members_hold m e P i;
      reached = λ P c top ne.
          elim i [
            | inr live ↦ c.live m live top ne
            | inl in_set ↦ (let now = led c.epoch top in
                let epoch : now.0.epoch ≡ c.epoch = (let last = ap next_epoch now.1 in omega arith) in
                c.sure.each m (subst (IsIn m) (sym (h.record_is now.0 now.1).members ∙ ap t.members epoch) in_set) ne)
          ];
    }
  where
    by_leader : (epoch : ℕ) → epoch + 1 ≡ elections_of w → (o : Option Leader) → w.controller.leader ≡ o → (l : Leader) × (w.controller.leader ≡ Some l)
    by_leader epoch top None e = absurd (let none = ap next_epoch e in omega arith)
    by_leader epoch top (Some l) e = (l, e)

    led : (epoch : ℕ) → epoch + 1 ≡ elections_of w → (l : Leader) × (w.controller.leader ≡ Some l)
    led epoch top = by_leader epoch top w.controller.leader refl

pub sure_possible : (w : World) (g : History) (t : Sets) (e : ℕ) (P : List Batch) → IsSure w g t e P → IsPossible w g t e P
sure_possible w g t e P h = record { made = h.made; each = λ m i ne. inl (h.each m i ne) }

pub begins_nil : {A : Type 0} (xs : List A) → Begins xs [] → xs ≡ []
begins_nil [] p = refl
begins_nil (x ∷ xs) p = let none = ap length p.is in absurd (omega arith)

pub fetched_begins : (w : World) (m e : ℕ) (P Q : List Batch) → Begins Q P → Fetched w m e P → Fetched w m e Q
fetched_begins w m e P Q p h =
    record { request = h.request; sent = h.sent; from = h.from; epoch = h.epoch; begins = Begins-trans p h.begins }

pub reached_begins : (w : World) (m e : ℕ) (P Q : List Batch) → Begins Q P → Reached w m e P → Reached w m e Q
reached_begins w m e P Q p r =
    elim r [
      | inl empty ↦ inl (begins_nil Q (subst (Begins Q) empty p))
      | inr f ↦ inr (fetched_begins w m e P Q p f)
    ]

pub committed_begins : (w : World) (g : History) (t : Sets) (P Q : List Batch) → Begins Q P → IsCommitted w g t P → IsCommitted w g t Q
committed_begins w g t P Q p h =
    record {
      epoch = h.epoch;
      sure = record { made = Begins-trans p h.sure.made; each = λ m i ne. reached_begins w m h.epoch P Q p (h.sure.each m i ne) };
      live = λ m i top ne. reached_begins w m h.epoch P Q p (h.live m i top ne);
      within = λ l e s. (let bound = h.within l e s in omega (arith, end_of-append Q p.rest, ap end_of p.is));
    }

-- a sure list of an epoch begins what a later epoch's leader made, or that leader made nothing
sure_later : (w : World) (g : History) (t : Sets) → IsHeld w g t → (e e' : ℕ) (P Q : List Batch) → e < e' → IsSure w g t e P → Begins Q (g.ledger e') → Agree P Q
sure_later w g t h e e' P Q lt p q = by_began (t.began e') refl
  where
    by_began : (o : Option (List Batch)) → t.began e' ≡ o → Agree P Q
    by_began None o =
        let none : Q ≡ [] = begins_nil Q (subst (λ (k : List Batch). Begins Q k) (h.not_begun e' o) q) in
        inr (subst (λ (k : List Batch). Begins k P) (sym none) (Begins-nil P))
    by_began (Some first) o =
        Begins-agree (Begins-trans (h.leaders_hold e e' first P o lt (sure_possible w g t e P p)) (h.begun e' first o).0) q

-- any two committed lists agree
pub committed_agree : (w : World) (g : History) (t : Sets) → IsHeld w g t → (P Q : List Batch) → IsCommitted w g t P → IsCommitted w g t Q → Agree P Q
committed_agree w g t h P Q p q =
    elim (cases_order p.epoch q.epoch) [
      | inl same ↦ Begins-agree (subst (λ (k : ℕ). Begins P (g.ledger k)) same p.sure.made) q.sure.made
      | inr other ↦
          elim other [
            | inl before ↦ sure_later w g t h p.epoch q.epoch P Q before p.sure q.sure.made
            | inr after ↦ Agree-sym (sure_later w g t h q.epoch p.epoch Q P after q.sure p.sure.made)
          ]
    ]

-- what a request's log has of a committed list, an answer to it in the last epoch has, too
pub answer_has : (w : World) (g : History) (t : Sets) → IsHeld w g t → IsKept w g → (a : Answer) → Sent w (Answers a) → elections_of w ≡ a.request.epoch + 1
    → (P : List Batch) → IsCommitted w g t P → Begins P a.request.log → Begins P a.log
answer_has w g t h k a sent now P p b =
    let held = h.answers a sent in
    elim (cases_order p.epoch a.request.epoch) [
      | inl same ↦ held.recent P b (subst (λ (e : ℕ). Begins P (g.ledger e)) same p.sure.made)
      | inr other ↦
          elim other [
            | inl before ↦
                Begins-trans (h.leaders_hold p.epoch a.request.epoch held.begun.first P held.begun.began before (sure_possible w g t p.epoch P p.sure)) held.begun.begins
            | inr after ↦
                (let none : g.ledger p.epoch ≡ [] = k.later p.epoch (omega arith) in
                let empty : P ≡ [] = begins_nil P (subst (λ (l : List Batch). Begins P l) none p.sure.made) in
                subst (λ (l : List Batch). Begins l a.log) (sym empty) (Begins-nil a.log))
          ]
    ]

-- so a cut keeps it
pub cut_holds : (left log answer common P : List Batch) → IsCommonBeginning common log answer → Begins common left → Begins P log → Begins P answer → Begins P left
cut_holds left log answer common P c k p q =
    Begins-trans (Begins-shorter p c.first (c.longest P p q)) k
