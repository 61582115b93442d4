-- What is held stays held where a leader's log grows, or becomes the log of its epoch.
use Rattle.std.proofs.Common.{◌≡◌, ◌⊎◌, ℕ, ◌+◌, ◌<◌, ◌≤◌, true, false, cond, eqb, List, [], ◌∷◌, ◌++◌, length, Option, Some, None, refl, sym, ap, ◌∙◌, subst, arith, inl, inr, length-append}
use Rattle.std.specs.Prelude.{IsTrue, max, is_some}
use Rattle.std.proofs.lemmas.Bool.{cases_eq, cases_lt, cond_both, eqb-true, eqb-false, eq-eqb, ne_eqb, false≢true, or_left, or_right}
use Rattle.kp_model.specs.Beginning.{Begins}
use Rattle.kp_model.specs.Log.{Batch, end_of, IsLog, occurs, up_to}
use Rattle.kp_model.specs.World.{Leading, Leads, Node, Request, Answer, Asks, Answers, World, with_node, report_of}
use Rattle.kp_model.specs.Controller.{next_epoch}
use Rattle.kp_model.proofs.Plain.Beginnings.{Begins-refl, Begins-nil, Begins-append, Begins-trans, Begins-agree, Begins-whole}
use Rattle.kp_model.proofs.OneStep.Steps.{each_sent}
use Rattle.kp_model.proofs.Kinship.SoundLogs.{AllBelow, mode_bound, elections_of, WorldIsSound}
use Rattle.kp_model.proofs.Kinship.Ledger.{Grows, IsMade, with_log, with_log_at, with_log_other, with_log_grows, occurs_front, up_to_all, up_to-begins}
use Rattle.kp_model.proofs.Kinship.Kin.{History, IsKept, MessageIsKept, with_node_each}
use Rattle.kp_model.proofs.Safety.Held.{Sets, bound, Sent, Reached, IsPossible, HasPassed, IsCommitted, IsMark, IsOf, RequestIsHeld, LeaderIsHeld, IsHeld, IsLed, IsOwn, IsReady, kept_bound}
use Rattle.kp_model.proofs.Safety.HeldNodes.{reached_in, fetched_in}
use Rattle.kp_model.proofs.Safety.HeldSteps.{shorter_by_end}

abbrev pub with_began : Sets → ℕ → List Batch → Sets
with_began t e first = record t { began = λ j. cond (eqb j e) (Some first) (t.began j) }

pub began_at : (t : Sets) (e : ℕ) (first : List Batch) → (with_began t e first).began e ≡ Some first
began_at t e first = let here : eqb e e ≡ true = eq-eqb e e refl in rw here refl

pub began_other : (t : Sets) (e : ℕ) (first : List Batch) (j : ℕ) → (j ≡ e → ⊥) → (with_began t e first).began j ≡ t.began j
began_other t e first j ne = let there : eqb j e ≡ false = ne_eqb j e ne in rw there refl

some_is : (x y : List Batch) → Some x ≡ Some y → x ≡ y
some_is x y e = cc

-- Node n leads in epoch e. Its log, and the log of the epoch, become this one.
module _ (w : World) (g : History) (t : Sets) (s : WorldIsSound w) (h : IsHeld w g t) (k : IsKept w g) (n e : ℕ) (log first : List Batch)
    (lawful : IsLog log) (longer : Begins (w.nodes n).log log) (made : Begins (g.ledger e) log) (is_first : Begins first log) (leader : g.leader e ≡ n)
    (here : bound w n ≡ e + 1) (now : e < elections_of w) (kept_here : e + 1 ≤ kept_bound (w.nodes n).kept)
    (old_first : (f : List Batch) → t.began e ≡ Some f → f ≡ first)
    (limit : ((f : List Batch) × (t.began e ≡ Some f)) ⊎ HasPassed w t e → (other Q : List Batch) → IsMade g.ledger other → Begins Q other → Begins Q log → Begins Q (g.ledger e))
    (passed : (before : ℕ) → before < e → HasPassed w t before)
    (holds : (before : ℕ) (P : List Batch) → before < e → IsPossible w g t before P → Begins P first) where
  abbrev node : Node
  node = record (w.nodes n) { log = log }

  abbrev new : World
  new = with_node w n node

  abbrev after : History
  after = record g { ledger = with_log g.ledger e log }

  abbrev sets : Sets
  sets = with_began t e first

  pub grows : Grows g.ledger after.ledger
  grows = with_log_grows g.ledger e log made

  bounds : (m : ℕ) → bound new m ≡ bound w m
  bounds m =
      cond_both (eqb m n) node (w.nodes m) (λ (y : Node). mode_bound (elections_of w) y.mode ≡ bound w m)
      (λ q. ap (λ (j : ℕ). bound w j) (sym (eqb-true m n q))) (λ q. refl)

  pub log_grown : (m : ℕ) → Begins (w.nodes m).log (new.nodes m).log
  log_grown m =
      cond_both (eqb m n) node (w.nodes m) (λ (y : Node). Begins (w.nodes m).log y.log)
      (λ q. subst (λ (j : ℕ). Begins (w.nodes j).log log) (sym (eqb-true m n q)) longer) (λ q. Begins-refl (w.nodes m).log)

  pub began_later : (j : ℕ) (f : List Batch) → t.began j ≡ Some f → sets.began j ≡ Some f
  began_later j f o =
      elim (cases_eq j e) [
        | inl same ↦
            (let at : t.began e ≡ Some f = ap t.began (sym same) ∙ o in
            ap sets.began same ∙ began_at t e first ∙ ap Some (sym (old_first f at)))
        | inr ne ↦ began_other t e first j ne ∙ o
      ]

  began_cases : (j : ℕ) (f : List Batch) → sets.began j ≡ Some f → ((j ≡ e) × (first ≡ f)) ⊎ (t.began j ≡ Some f)
  began_cases j f o =
      elim (cases_eq j e) [
        | inl same ↦ inl (same, some_is first f (sym (began_at t e first) ∙ ap sets.began (sym same) ∙ o))
        | inr ne ↦ inr (sym (began_other t e first j ne) ∙ o)
      ]

  request_made : (r : Request) → Sent w (Asks r) → IsMade g.ledger r.log
  request_made r q = each_sent (MessageIsKept g) w.messages (Asks r) k.messages q

  -- what was asked with had been made
  fetched_made : (j : ℕ) (P : List Batch) (m : ℕ) → HasPassed w t e → Begins P log → Reached w m j P → Begins P (g.ledger e)
  fetched_made j P m p b r =
      elim r [
        | inl empty ↦ subst (λ (l : List Batch). Begins l (g.ledger e)) (sym empty) (Begins-nil (g.ledger e))
        | inr f ↦ limit (inr p) f.request.log P (request_made f.request f.sent) f.begins b
      ]

  possible_back : (j : ℕ) (P : List Batch) → HasPassed w t j → IsPossible new after sets j P → IsPossible w g t j P
  possible_back j P p q =
      record {
        made = elim (cases_eq j e) [
          | inr ne ↦ subst (Begins P) (with_log_other g.ledger e log j ne) q.made
          | inl same ↦
              (let apart : p.member ≡ g.leader j → ⊥ = λ (is : p.member ≡ g.leader j). passed_not same (is ∙ ap g.leader same ∙ leader) in
              let whole : Begins P log = subst (Begins P) (ap after.ledger same ∙ with_log_at g.ledger e log) q.made in
              elim (q.each p.member p.is_in apart) [
                | inl r ↦ subst (λ (i : ℕ). Begins P (g.ledger i)) (sym same) (fetched_made j P p.member (subst (HasPassed w t) same p) whole (reached_in new w p.member j P (λ r s. s) r))
                | inr b ↦ absurd (let moved = p.moved in let is = bounds p.member in omega arith)
              ])
        ];
        each = λ m i ne. elim (q.each m i ne) [
          | inl r ↦ inl (reached_in new w m j P (λ r s. s) r)
          | inr b ↦ inr (let is = bounds m in omega arith)
        ];
      }
    where
      passed_not : j ≡ e → p.member ≡ n → ⊥
      passed_not same is =
          let moved = p.moved in
          let at : bound w p.member ≡ e + 1 = ap (λ (i : ℕ). bound w i) is ∙ here in
          absurd (omega arith)

  pub committed_grown : (P : List Batch) → IsCommitted w g t P → IsCommitted new after sets P
  committed_grown P p =
      record {
        epoch = p.epoch;
        sure = record { made = Begins-trans p.sure.made (grows p.epoch); each = λ m i ne. reached_in w new m p.epoch P (λ r s. s) (p.sure.each m i ne) };
        live = λ m i top ne. reached_in w new m p.epoch P (λ r s. s) (p.live m i top ne);
        within = cond_both (eqb (g.leader p.epoch) n) node (w.nodes (g.leader p.epoch))
            (λ (y : Node). (l : Leading) → y.mode ≡ Leads l → l.epoch ≡ p.epoch → end_of P ≤ max y.watermark l.start)
            (λ q. subst (λ (j : ℕ). (l : Leading) → (w.nodes j).mode ≡ Leads l → l.epoch ≡ p.epoch → end_of P ≤ max (w.nodes j).watermark l.start) (eqb-true (g.leader p.epoch) n q) p.within)
            (λ q. p.within);
      }

  pub epoch_grown : (P : List Batch) (p : IsCommitted w g t P) → (committed_grown P p).epoch ≡ p.epoch
  unfolding committed_grown
  epoch_grown P p = refl

  mark_grown : (old new_log : List Batch) (offset : ℕ) → Begins old new_log → IsMark w g t old offset → IsMark new after sets new_log offset
  mark_grown old new_log offset b p = record { list = p.list; begins = Begins-trans p.begins b; ends = p.ends; committed = committed_grown p.list p.committed }

  passed_grown : (j : ℕ) → HasPassed w t j → HasPassed new sets j
  passed_grown j p = record { member = p.member; is_in = p.is_in; moved = (let moved = p.moved in let is = bounds p.member in omega arith) }

  leader_grown : (old new_log : List Batch) (l : Leading) → Begins old new_log → LeaderIsHeld w g t old l → LeaderIsHeld new after sets new_log l
  leader_grown old new_log l b p =
      record {
        knows = p.knows;
        self = p.self;
        own = p.own;
        asked = p.asked;
        begun = record { first = p.begun.first; began = began_later l.epoch p.begun.first p.begun.began; begins = Begins-trans p.begun.begins b };
        start = λ f o. elim (began_cases l.epoch f o) [
          | inr was ↦ p.start f was
          | inl is ↦
              (let same = some_is p.begun.first f (sym (began_later l.epoch p.begun.first p.begun.began) ∙ o) in
              p.start f (p.begun.began ∙ ap Some same))
        ];
        fetched = λ m r q P c d. fetched_in w new m l.epoch P (λ y z. z) (p.fetched m r q P (was_made m r q P c d) d);
        reported = λ m r q. (let is = p.reported m r q in (is.0, Begins-trans is.1 (grows l.epoch), is.2));
      }
    where
      was_made : (m r : ℕ) → report_of l m ≡ Some r → (P : List Batch) → Begins P (after.ledger l.epoch) → end_of P ≤ r → Begins P (g.ledger l.epoch)
      was_made m r q P c d =
          elim (cases_eq l.epoch e) [
            | inr ne ↦ subst (Begins P) (with_log_other g.ledger e log l.epoch ne) c
            | inl same ↦
                (let is = p.reported m r q in
                let whole : Begins P log = subst (Begins P) (ap after.ledger same ∙ with_log_at g.ledger e log) c in
                let known : Begins is.0 log = Begins-trans (subst (λ (j : ℕ). Begins is.0 (g.ledger j)) same is.1) made in
                let ends = is.2 in
                Begins-trans (shorter_by_end P is.0 log lawful whole known (omega arith)) is.1)
          ]

  pub grown_held : IsHeld new after sets
  grown_held =
      record {
        requests = λ r q. cond_both (eqb r.from n) node (w.nodes r.from) (RequestIsHeld (elections_of w) after sets r)
            (λ z. (let old : RequestIsHeld (elections_of w) g t r (w.nodes n) = subst (λ (j : ℕ). RequestIsHeld (elections_of w) g t r (w.nodes j)) (eqb-true r.from n z) (h.requests r q) in record {
              reach = old.reach;
              kept = λ top P p of. Begins-trans (old.kept top P p (was_of r q P p of)) longer;
            }))
            (λ z. (let old = h.requests r q in record { reach = old.reach; kept = λ top P p of. old.kept top P p (was_of r q P p of) }));
        answers = λ a q. (let old = h.answers a q in record {
          begun = record { first = old.begun.first; began = began_later a.request.epoch old.begun.first old.begun.began; begins = old.begun.begins };
          recent = λ Q p b. old.recent Q p (was_made a q Q p b);
          mark = mark_grown a.log a.log a.watermark (Begins-refl a.log) old.mark;
        });
        marks = with_node_each (λ m y. IsMark new after sets y.log y.watermark) w.nodes n node
            (λ m ne. mark_grown (w.nodes m).log (w.nodes m).log (w.nodes m).watermark (Begins-refl (w.nodes m).log) (h.marks m)) (mark_grown (w.nodes n).log log (w.nodes n).watermark longer (h.marks n));
        checkpoints = with_node_each (λ m y. IsMark new after sets y.log y.checkpoint) w.nodes n node
            (λ m ne. mark_grown (w.nodes m).log (w.nodes m).log (w.nodes m).checkpoint (Begins-refl (w.nodes m).log) (h.checkpoints m)) (mark_grown (w.nodes n).log log (w.nodes n).checkpoint longer (h.checkpoints n));
        leads = with_node_each (λ m y. (l : Leading) → y.mode ≡ Leads l → LeaderIsHeld new after sets y.log l) w.nodes n node
            (λ m ne l z. leader_grown (w.nodes m).log (w.nodes m).log l (Begins-refl (w.nodes m).log) (h.leads m l z))
            (λ l z. leader_grown (w.nodes n).log log l longer (h.leads n l z));
        ready = with_node_each (λ m y. (l : Leading) → y.mode ≡ Leads l → IsReady y.watermark l) w.nodes n node (λ m ne. h.ready m) (h.ready n);
        record_is = λ l q. record { members = (h.record_is l q).members; version = (h.record_is l q).version; leader = (h.record_is l q).leader };
        proposals = λ p q. (let old = h.proposals p q in
            record { leader = old.leader; named = old.named; is_in = old.is_in; first = old.first; began = began_later old.leader.epoch old.first old.began; version = old.version });
        decisions = λ d q l z. (let old = h.decisions d q l z in record { leader = old.leader; elected = old.elected; version = old.version; members = old.members });
        versions = h.versions;
        kept = with_node_each (λ m y. kept_bound y.kept ≤ elections_of w) w.nodes n node (λ m ne. h.kept m) (h.kept n);
        led_kept = λ j f o.
            cond_both (eqb (g.leader j) n) node (w.nodes (g.leader j)) (λ (y : Node). j + 1 ≤ kept_bound y.kept)
            (λ q. (let at = eqb-true (g.leader j) n q in
            elim (began_cases j f o) [
              | inr was ↦ subst (λ (i : ℕ). j + 1 ≤ kept_bound (w.nodes i).kept) at (h.led_kept j f was)
              | inl is ↦ (let same = is.0 in omega arith)
            ]))
            (λ q. elim (began_cases j f o) [
              | inr was ↦ h.led_kept j f was
              | inl is ↦ absurd (eqb-false (g.leader j) n q (ap g.leader is.0 ∙ leader))
            ]);
        begun = λ j f o. elim (began_cases j f o) [
          | inr was ↦ (let old = h.begun j f was in (Begins-trans old.0 (grows j), (let reach = old.1 in let is = bounds (g.leader j) in omega arith)))
          | inl is ↦ (
            subst (Begins f) (sym (ap after.ledger is.0 ∙ with_log_at g.ledger e log)) (subst (λ (l : List Batch). Begins l log) is.1 is_first),
            (let same = is.0 in let at = bounds (g.leader j) in let who : bound w (g.leader j) ≡ e + 1 = ap (λ (i : ℕ). bound w (g.leader i)) same ∙ ap (λ (i : ℕ). bound w i) leader ∙ here in omega arith),
          )
        ];
        not_begun = λ j o. elim (cases_eq j e) [
          | inr ne ↦ with_log_other g.ledger e log j ne ∙ h.not_begun j (sym (began_other t e first j ne) ∙ o)
          | inl same ↦ absurd (false≢true (sym (ap is_some (sym (began_at t e first) ∙ ap sets.began (sym same) ∙ o))))
        ];
        later = λ j ge. began_other t e first j (λ (q : j ≡ e). omega arith) ∙ h.later j ge;
        joined = λ m j i before q. h.joined m j i before (let is = bounds m in omega arith);
        passed_begun = λ j j' f o lt. elim (began_cases j' f o) [
          | inr was ↦ passed_grown j (h.passed_begun j j' f was lt)
          | inl is ↦ passed_grown j (passed j (let same = is.0 in omega arith))
        ];
        passed_member = λ m j i moved. passed_grown j (h.passed_member m j i (let is = bounds m in omega arith));
        leaders_hold = λ j j' f P o lt p. elim (began_cases j' f o) [
          | inr was ↦ h.leaders_hold j j' f P was lt (possible_back j P (h.passed_begun j j' f was lt) p)
          | inl is ↦
              (let before : j < e = (let same = is.0 in omega arith) in
              subst (Begins P) is.1 (holds j P before (possible_back j P (passed j before) p)))
        ];
        members_hold = λ m j P i moved p.
            (let old : j + 1 < bound w m = (let is = bounds m in omega arith) in
            Begins-trans (h.members_hold m j P i old (possible_back j P (h.passed_member m j i old) p)) (log_grown m));
      }
    where
      was_of : (r : Request) → Sent w (Asks r) → (P : List Batch) → Begins P r.log → IsOf after sets r.epoch P → IsOf g t r.epoch P
      was_of r q P p of =
          elim (cases_eq r.epoch e) [
            | inr ne ↦
                elim of [
                  | inl m ↦ inl (subst (Begins P) (with_log_other g.ledger e log r.epoch ne) m)
                  | inr none ↦ inr (sym (began_other t e first r.epoch ne) ∙ none)
                ]
            | inl same ↦
                elim of [
                  | inl m ↦ by_began same (subst (Begins P) (ap after.ledger same ∙ with_log_at g.ledger e log) m) (t.began e) refl
                  | inr none ↦ absurd (false≢true (ap is_some (sym none ∙ ap sets.began same ∙ began_at t e first)))
                ]
          ]
        where
          by_began : r.epoch ≡ e → Begins P log → (o : Option (List Batch)) → t.began e ≡ o → IsOf g t r.epoch P
          by_began same whole None o = inr (ap t.began same ∙ o)
          by_began same whole (Some f) o = inl (subst (λ (j : ℕ). Begins P (g.ledger j)) (sym same) (limit (inl (f, o)) r.log P (request_made r q) p whole))

      was_made : (a : Answer) → Sent w (Answers a) → (Q : List Batch) → Begins Q a.request.log → Begins Q (after.ledger a.request.epoch) → Begins Q (g.ledger a.request.epoch)
      was_made a q Q p b =
          elim (cases_eq a.request.epoch e) [
            | inr ne ↦ subst (Begins Q) (with_log_other g.ledger e log a.request.epoch ne) b
            | inl same ↦
                (let begun = (h.answers a q).begun in
                let at : t.began e ≡ Some begun.first = ap t.began (sym same) ∙ begun.began in
                let whole : Begins Q log = subst (Begins Q) (ap after.ledger same ∙ with_log_at g.ledger e log) b in
                let made : MessageIsKept g (Answers a) = each_sent (MessageIsKept g) w.messages (Answers a) k.messages q in
                subst (λ (j : ℕ). Begins Q (g.ledger j)) (sym same) (limit (inl (begun.first, at)) a.request.log Q made.0 p whole))
          ]

  pub grown_led : IsLed w g t → IsLed new after sets
  grown_led led l q f o =
      elim (cases_eq l.epoch e) [
        | inl same ↦
            cond_both (eqb l.node n) node (w.nodes l.node) (λ (y : Node). y.log ≡ after.ledger l.epoch)
            (λ z. sym (ap after.ledger same ∙ with_log_at g.ledger e log))
            (λ z. absurd (eqb-false l.node n z (sym (k.leader l q) ∙ ap g.leader same ∙ leader)))
        | inr ne ↦
            (let was : t.began l.epoch ≡ Some f = sym (began_other t e first l.epoch ne) ∙ o in
            cond_both (eqb l.node n) node (w.nodes l.node) (λ (y : Node). y.log ≡ after.ledger l.epoch)
            (λ z. absurd (let reach = (h.begun l.epoch f was).1 in
            let at : bound w (g.leader l.epoch) ≡ e + 1 = ap (λ (i : ℕ). bound w i) (k.leader l q ∙ eqb-true l.node n z) ∙ here in
            let top : elections_of w ≡ l.epoch + 1 = ap next_epoch q in
            ne (omega arith)))
            (λ z. led l q f was ∙ sym (with_log_other g.ledger e log l.epoch ne)))
      ]

pub own_grown : (g : History) (t : Sets) (e : ℕ) (log first : List Batch) → IsOwn g t → ((Q : List Batch) → Begins Q log → AllBelow e Q → Begins Q first)
    → IsOwn (record g { ledger = with_log g.ledger e log }) (with_began t e first)
own_grown g t e log first own now j f Q o p below =
    elim (cases_eq j e) [
      | inl same ↦
          (let is : first ≡ f = some_is first f (sym (began_at t e first) ∙ ap (with_began t e first).began (sym same) ∙ o) in
          let whole : Begins Q log = subst (Begins Q) (ap (with_log g.ledger e log) same ∙ with_log_at g.ledger e log) p in
          subst (Begins Q) is (now Q whole (subst (λ (k : ℕ). AllBelow k Q) same below)))
      | inr ne ↦ own j f Q (sym (began_other t e first j ne) ∙ o) (subst (Begins Q) (with_log_other g.ledger e log j ne) p) below
    ]

-- ---- one batch more

-- what begins a list and one element more begins the list, or is the whole
pub push_cases : (Q log : List Batch) (b : Batch) → Begins Q (log ++ b ∷ []) → Begins Q log ⊎ (Q ≡ log ++ b ∷ [])
push_cases Q log b p =
    elim (Begins-agree p (Begins-append log (b ∷ []))) [
      | inl short ↦ inl short
      | inr long ↦
          elim (cases_lt (length log) (length Q)) [
            | inl more ↦ inr (Begins-whole Q (log ++ b ∷ []) p (omega (arith, length-append log (b ∷ []))))
            | inr same ↦ inl (subst (λ (l : List Batch). Begins l log) (Begins-whole log Q long same) (Begins-refl log))
          ]
    ]

pub occurs_last : (log : List Batch) (b : Batch) → IsTrue (occurs b.epoch (log ++ b ∷ []))
occurs_last [] b = or_left (eqb b.epoch b.epoch) false (eq-eqb b.epoch b.epoch refl)
occurs_last (c ∷ cs) b = or_right (eqb c.epoch b.epoch) (occurs b.epoch (cs ++ b ∷ [])) (occurs_last cs b)

-- a beginning of a made log that ends with a batch of this epoch, and has none of a higher one, was made in it
pub made_to : (ledger : ℕ → List Batch) (log front : List Batch) (b : Batch) → IsMade ledger log → Begins (front ++ b ∷ []) log → AllBelow (b.epoch + 1) (front ++ b ∷ []) → Begins (front ++ b ∷ []) (ledger b.epoch)
made_to ledger log front b made p below =
    let there : IsTrue (occurs b.epoch log) = subst (λ (l : List Batch). IsTrue (occurs b.epoch l)) p.is (occurs_front b.epoch (front ++ b ∷ []) p.rest (occurs_last front b)) in
    let whole : up_to b.epoch (front ++ b ∷ []) ≡ front ++ b ∷ [] = up_to_all b.epoch (front ++ b ∷ []) below in
    subst (λ (l : List Batch). Begins l (ledger b.epoch)) whole (Begins-trans (up_to-begins b.epoch p) (made b.epoch there))
