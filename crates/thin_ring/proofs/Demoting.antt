-- The list of demoted points, the scores after a removal, and the rule's move by the score picked. Assumes nothing.
use mathlib.Core.Path.{◌≡◌, refl, sym, ap, ◌∙◌}
use mathlib.Core.Bool.{Bool, true, false, not, cond, ◌||◌}
use mathlib.Core.List.{List, [], ◌∷◌}
use mathlib.Core.Option.{Option, none, some}
use Prim.Native.Nat.{ℕ, suc, ◌<◌}
use native.Mathlib.Omega.{arith}
use lib.Dec.{eqb}
use lib.ListN.{length}
use lib.Ieee.{Float}
use borrow.Author.Tests.{eqb-true, eqb-false, eq-eqb, ne_eqb}
use Rattle.std.specs.Bool.{then_some}
use Rattle.rule.specs.Grid.{is_finite, positive}
use Rattle.rule.specs.Plain.{Candidate, least, without, area_at}
use Rattle.rule.specs.Preserve.{Minima, member, score_of, score_within, crosses, Move, stop, unless_few, move_of, move, demoted}
use Rattle.vscore.specs.declared.VScore.{VScore}
use Rattle.vscore.specs.Scale.{lowered, demotable}
use Rattle.vscore.proofs.Scales.{above_demotable}
use Rattle.scoring.specs.Plot.{priced}
use Rattle.thin.specs.Queue.{chosen, Choice, candidate_of}
use Rattle.thin.specs.State.{Suits}
use Rattle.thin_ring.specs.State.{Setting, beside, move_in, Once, view}

-- ---- membership

member_other : (i j : ℕ) (d : List ℕ) → (i ≡ j → ⊥) → member i (without j d) ≡ member i d
unfolding member without
member_other i j [] ne = refl
member_other i j (k ∷ d) ne = go (eqb j k) refl (member_other i j d ne)
  where
    go : (b : Bool) → eqb j k ≡ b → member i (without j d) ≡ member i d → member i (cond b d (k ∷ without j d)) ≡ (eqb i k || member i d)
    go true e r = sym (ap (λ (b : Bool). b || member i d) (ne_eqb i k (λ z. ne (z ∙ sym (eqb-true j k e)))))
    go false e r = ap (λ (b : Bool). eqb i k || b) r

member_gone : (j : ℕ) (d : List ℕ) → Once d → member j (without j d) ≡ false
unfolding member without
member_gone j [] o = refl
member_gone j (k ∷ d) o = go (eqb j k) refl (member_gone j d o.1)
  where
    go : (b : Bool) → eqb j k ≡ b → member j (without j d) ≡ false → member j (cond b d (k ∷ without j d)) ≡ false
    go true e r = ap (λ (z : ℕ). member z d) (eqb-true j k e) ∙ o.0
    go false e r = ap (λ (b : Bool). b || member j (without j d)) e ∙ r

once_without : (j : ℕ) (d : List ℕ) → Once d → Once (without j d)
unfolding without
once_without j [] o = tt
once_without j (k ∷ d) o = go (eqb j k) refl (once_without j d o.1)
  where
    go : (b : Bool) → eqb j k ≡ b → Once (without j d) → Once (cond b d (k ∷ without j d))
    go true e r = o.1
    go false e r = (member_other k j d (λ z. eqb-false j k e (sym z)) ∙ o.0, r)

pub once_demoted : (c : Candidate) (crossed : Bool) (d : List ℕ) → Once d → Once (demoted c crossed d)
unfolding demoted
once_demoted c true d o =
    let r = once_without c.right d o in
    (member_gone c.left (without c.right d) r, once_without c.left (without c.right d) r)
once_demoted c false d o = once_without c.left (without c.right d) (once_without c.right d o)

-- ---- the scores after a removal

module _ (c : Candidate) (d : List ℕ) (o : Once d) (lr : c.left < c.right) where
  rest : List ℕ
  rest = without c.left (without c.right d)

  at_other : (crossed : Bool) (i : ℕ) → (i ≡ c.left → ⊥) → (i ≡ c.right → ⊥) → member i (demoted c crossed d) ≡ member i d
  unfolding demoted member rest
  at_other true i nl nr =
      ap (λ (b : Bool). b || member i rest) (ne_eqb i c.left nl)
      ∙ member_other i c.left (without c.right d) nl ∙ member_other i c.right d nr
  at_other false i nl nr = member_other i c.left (without c.right d) nl ∙ member_other i c.right d nr

  at_left : (crossed : Bool) → member c.left (demoted c crossed d) ≡ crossed
  unfolding demoted member rest
  at_left true = ap (λ (b : Bool). b || member c.left rest) (eq-eqb c.left c.left refl)
  at_left false = member_gone c.left (without c.right d) (once_without c.right d o)

  not_left : c.right ≡ c.left → ⊥
  not_left z = omega arith

  at_right : (crossed : Bool) → member c.right (demoted c crossed d) ≡ false
  unfolding demoted member rest
  at_right true =
      ap (λ (b : Bool). b || member c.right rest) (ne_eqb c.right c.left not_left)
      ∙ member_other c.right c.left (without c.right d) not_left ∙ member_gone c.right d o
  at_right false = member_other c.right c.left (without c.right d) not_left ∙ member_gone c.right d o

module _ (g : Setting) (t : Float) (dem ks : List ℕ) where
  pub suits : (s : VScore) (crossed : Bool) → Once dem → s.left < s.right
      → Suits (view g t dem ks) s g.points (score_of g.points (demoted (candidate_of (view g t dem ks) s) crossed dem)) (then_some crossed t)
  unfolding score_of
  suits s crossed o lr = record {
    stay = λ l i r nl nr. ap (λ (b : Bool). cond b 0 (suc (area_at g.points l i r))) (at_other c dem o lr crossed i nl nr);
    left = λ a. price crossed (area_at g.points a s.left s.right)
        ∙ ap (λ (b : Bool). lowered t (cond b 0 (suc (area_at g.points a s.left s.right)))) (sym (at_left c dem o lr crossed));
    right = λ b. ap (λ (z : Bool). lowered t (cond z 0 (suc (area_at g.points s.left s.right b)))) (sym (at_right c dem o lr crossed));
  }
    where
      c : Candidate
      c = candidate_of (view g t dem ks) s

      price : (b : Bool) (d : ℕ) → priced (then_some b t) d ≡ lowered t (cond b 0 (suc d))
      price true d = refl
      price false d = refl

  -- ---- the rule's move is by what is picked

  module _ (q : Minima) (finite : is_finite t ≡ true) (above : positive t ≡ true) where
    -- steps 2 to 4 for c, with the count and the crossing as the rule has them
    abbrev pub unless : Candidate → Move
    unless c = unless_few q (length ks) c (crosses g.points c.left c.right (ks ∷ beside g))

    by_tolerance : Candidate → Bool → Move
    by_tolerance c b = elim b as (λ _. Move) [ true ↦ unless c | false ↦ stop ]

    chosen_by : (c : Candidate) → cond (not (score_within c.score t)) none (some c) ≡ chosen (demotable t) t (some c)
    unfolding chosen
    chosen_by c = ap (λ (b : Bool). cond b none (some c)) (sym (above_demotable t c.score finite above))

    pub move_none : Choice (view g t dem ks) t ≡ none → move_in g t q dem ks ≡ stop
    unfolding move move_of chosen by_tolerance
    move_none e = go (least (score_of g.points dem) ks) e
      where
        pick : (c : Candidate) (b : Bool) → cond (not b) none (some c) ≡ none → by_tolerance c b ≡ stop
        pick c true h = cc
        pick c false h = refl

        go : (o : Option Candidate) → chosen (demotable t) t o ≡ none → move_of g.points t q (beside g) ks o ≡ stop
        go none h = refl
        go (some c) h = pick c (score_within c.score t) (chosen_by c ∙ h)

    pub move_some : (c : Candidate) → Choice (view g t dem ks) t ≡ some c → move_in g t q dem ks ≡ unless c
    unfolding move move_of chosen by_tolerance
    move_some c e = go (least (score_of g.points dem) ks) e
      where
        pick : (d : Candidate) (b : Bool) → cond (not b) none (some d) ≡ some c → by_tolerance d b ≡ unless c
        pick d true h = let z : d ≡ c = cc in ap unless z
        pick d false h = cc

        go : (o : Option Candidate) → chosen (demotable t) t o ≡ some c → move_of g.points t q (beside g) ks o ≡ unless c
        go none h = cc
        go (some d) h = pick d (score_within d.score t) (chosen_by d ∙ h)
