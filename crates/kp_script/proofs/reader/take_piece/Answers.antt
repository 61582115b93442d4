use Rattle.std.proofs.Common.{◌≡◌, ◌∙◌, ◌++◌, [], ◌∷◌, ◌+◌, ◌-◌, min, List, ℕ, length, take, length-append, take_all, le_refl, sym, ap, subst, arith, rules, tests, append-nil}
use Rattle.std.proofs.KnownBytes.{Consumes-nil, Consumes-kept}
use Rattle.std.specs.Io.KnownBytes.{Consumes}
use Rattle.std.specs.Io.BufRead.{FillKeeps}
use Rattle.kp_words.specs.Words.{Lacks}
use Rattle.kp_script.specs.Reads.{Gives, kept_of}
use Rattle.kp_script.specs.declared.reader.Piece.{Piece}
use Rattle.kp_script.proofs.Pieces.{at_end, given, no_bytes, up_to}
use Rattle.kp_script.proofs.reader.take_piece.Goals.{in-Some-split_first_at, in-None-split_first_at, in-None-2}
use Rattle.kp_script.proofs.reader.take_piece.Goals as goal

pub returns-in-None-clause-given : goal.returns-in-None-clause-given
returns-in-None-clause-given g c = (
  [],
  tt,
  Consumes-kept _ _ _ [] (Consumes-nil _) c.fill_buf.follows.holds-at-none.0,
  sym (ap kept_of (append-nil c.args.line.now.items) ∙ take_all 2100001 c.args.line.now.items c.requires),
)

pub returns-clause-given : goal.returns-clause-given
returns-clause-given g c =
    let shown = c.in-Ok.shown.now in
    let rested = c.fill_buf.follows.lender-at-none in
    let a = g.R.Read.remaining c.args.reader.now in
    let after = g.R.Read.remaining c.consume.new.self in
    let limit = g.R.BufRead.consumable_len rested in
    let kept = subst (FillKeeps _ (g.R.Read.remaining rested) limit) c.in-Ok.is c.fill_buf.follows.holds-at-none in
    let m = c.match-split_first_at.used in
    let part : List ℕ = m.0.now in
    let long : c.len.result ≡ length c.args.line.now.items = omega (arith, c.len.ensures, c.args.line.now.ok.0) in
    let room : c.min-room.result ≡ min (length part) (2100001 - length c.args.line.now.items) =
    c.min-room.ensures ∙ ap (λ (k : ℕ). min (length part) (2100001 - k)) long in
    let by = given 2100001 c.min-room.result m.1 a (g.R.Read.remaining rested) after limit shown c.args.line.now.items c.extend_from_slice.new.self.items part m.2
    c.in-Ok.ensures.front c.in-Ok.ensures.end kept.0 kept.1 c.consume.ensures.bytes c.requires room c.in_ok-extend_from_slice.ensures.items in
    elim c.match-split_first_at.branch [
      | in-Some-split_first_at w ↦
          let found = w.in-Some-split_first_at.ensures.found in
          let first : List ℕ = w.in-Some-split_first_at.part.now in
          let rest : List ℕ = w.in-Some-split_first_at.field-0-1.now in
          let part_is : part ≡ first = ap (λ t. t.0.now) w.used-is in
          let used_is : m.1 ≡ length first + 1 = ap (λ t. t.1) w.used-is in
          let taken : take m.1 shown ≡ part ++ 10 ∷ [] =
          ap (λ (k : ℕ). take k shown) used_is ∙ ap (take (length first + 1)) found.0 ∙ up_to first rest ∙ ap (λ (l : List ℕ). l ++ 10 ∷ []) (sym part_is) in
          by (subst (Lacks 10) (sym part_is) found.1) (omega (arith, used_is, ap length found.0, length-append first (10 ∷ rest)))
          (λ q. subst (λ (piece : Piece). Gives piece a after part) (sym (ap (λ t. t.2) w.used-is)) (subst (Consumes a after) taken q))
      | in-None-split_first_at w ↦
          let part_is : part ≡ shown = ap (λ t. t.0.now) w.used-is in
          let used_is : m.1 ≡ 0 = ap (λ t. t.1) w.used-is in
          let zero : length shown ≡ 0 = search (rules, tests) in
          let none : part ≡ [] = part_is ∙ no_bytes shown zero in
          by (subst (Lacks 10) (sym part_is) w.in-None-split_first_at.ensures.none) (omega (arith, used_is))
          (λ q. subst (λ (piece : Piece). Gives piece a after part) (sym (ap (λ t. t.2) w.used-is))
          (subst (Consumes a after) (ap (λ (k : ℕ). take k shown) used_is ∙ sym none) q, at_end a shown c.in-Ok.ensures.end zero, none))
      | in-None-2 w ↦
          let part_is : part ≡ shown = ap (λ t. t.0.now) w.used-is in
          let used_is : m.1 ≡ length shown = ap (λ t. t.1) w.used-is in
          by (subst (Lacks 10) (sym part_is) w.in-None-split_first_at.ensures.none) (omega (arith, used_is))
          (λ q. subst (λ (piece : Piece). Gives piece a after part) (sym (ap (λ t. t.2) w.used-is))
          (subst (Consumes a after) (ap (λ (k : ℕ). take k shown) used_is ∙ take_all (length shown) shown (le_refl (length shown)) ∙ sym part_is) q))
    ]
