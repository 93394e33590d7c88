-- Reading a part: the points without a mark are the points left. Assumes nothing.
use mathlib.Core.Path.{◌≡◌, refl, sym, ap, ◌∙◌, subst}
use mathlib.Core.Bool.{Bool, true, false, cond}
use mathlib.Core.List.{List, [], ◌∷◌}
use Prim.Native.Nat.{ℕ, zero, suc, ◌≤◌}
use native.Mathlib.Omega.{arith}
use lib.Dec.{eqb, ltb}
use lib.ListN.{length, get_or, drop, length-append, length-drop, length-take}
use lib.Seq.{drop_at}
use lib.Ieee.{Float}
use borrow.Author.Tests.{le-ltb}
use Rattle.rule.specs.Grid.{Point}
use Rattle.rule.specs.Answers.{kept}
use Rattle.rule.specs.Area.{area}
use Rattle.rule.specs.Reasons.{first_of, output_short}
use Rattle.rule.specs.Whole.{over}
use Rattle.rule.proofs.Settled.{call_done}
use Rattle.layout.specs.Layout.{slot_of}
use Rattle.layout.specs.declared.Layout.{Layout}
use Rattle.links.specs.Words.{mark_at}
use Rattle.links.specs.Ring.{kept_from, all_unmarked}
use Rattle.links.specs.Calls.{Listed}
use Rattle.links.proofs.Listing.{listed_all}
use Rattle.links.proofs.Rings.{line_all}
use Rattle.part.specs.Rep.{Rep}
use Rattle.part.specs.Parts.{ReadsPart}

pub kept_few : (mark : ℕ → ℕ) (i n : ℕ) → length (kept_from mark i n) ≤ n
unfolding kept_from
kept_few mark i zero = omega arith
kept_few mark i (suc n) = go (eqb (mark i) 0) (kept_few mark (suc i) n)
  where
    go : (b : Bool) → length (kept_from mark (suc i) n) ≤ n → length (cond b (i ∷ kept_from mark (suc i) n) (kept_from mark (suc i) n)) ≤ suc n
    go true h = omega arith
    go false h = omega arith

module _ (ws out : List ℕ) where
  abbrev left : List ℕ
  left = all_unmarked ws (slot_of (get_or ws 1 0))

  left_is : (fs : List Float) (ps : List Point) (t : Float) (ks : List ℕ) → Rep (area fs ws) ps t ks → ks ≡ left
  left_is fs ps t ks h = rw h.number (line_all ws (slot_of (length ps)) h.state.ring)

  reason : (ks : List ℕ) (b : Bool) → ks ≡ left → ltb (length out) (length left) ≡ b → first_of (output_short (length out) (length ks) ∷ []) ≡ cond b 7 0
  reason ks b e f = rw (e, f)

  listed : (out' : List ℕ) (r : ℕ) → length left ≤ length out → r ≡ length left → out' ≡ over left out → ReadsPart ws out (kept r) out'
  listed out' r g e f = record {
    short = λ n i h. absurd (let z : ◌≡◌ {A = ℕ} 0 1 = cc in omega arith);
    past = λ n h.
        let z : n ≡ length left = cc in
        (omega arith, rw f (simp (length-append, length-drop) (omega arith)), rw (f, z) (drop_at left (drop (length left) out) (length left) refl));
    does = λ fs ps t ks h.
        let d = left_is fs ps t ks h in
        call_done (reason ks false d (le-ltb (length out) (length left) g)) (ap kept (e ∙ ap length (sym d))) (f ∙ ap (λ (l : List ℕ). over l out) (sym d));
  }

-- by what `list_kept` promises, with the layout as it was read
pub listed_part : {ws out : List ℕ} {m : Layout} {out' : List ℕ} {r : ℕ} → m ≡ slot_of (get_or ws 1 0) → length (all_unmarked ws m) ≤ length out
    → Listed ws m out out' r → ReadsPart ws out (kept r) out'
listed_part {ws} {out} {m} {out'} {r} e g l =
    let w = listed_all (subst (λ (x : Layout). Listed ws x out out' r) e l) (subst (λ (x : Layout). length (all_unmarked ws x) ≤ length out) e g) in
    listed ws out out' r (subst (λ (x : Layout). length (all_unmarked ws x) ≤ length out) e g) w.0 w.1

pub listed_few : {ws out : List ℕ} {m : Layout} {out' : List ℕ} {r : ℕ} → Listed ws m out out' r → r ≤ m.points
listed_few {ws} {out} {m} l = omega (arith, l.number, length-take (length out) (all_unmarked ws m), kept_few (mark_at ws m) 0 m.points)
