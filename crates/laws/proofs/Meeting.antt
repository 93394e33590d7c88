-- Two closed segments share a point exactly if the test says so. Assumes nothing.
use mathlib.Core.Path.{◌≡◌, refl, sym, ap, ◌∙◌, subst, ap₂}
use mathlib.Core.Logic.{◌⊎◌, inl, inr, ◌↔◌}
use mathlib.Core.Bool.{Bool, true, false, not, ◌&&◌, ◌||◌, true≢false, false≢true}
use mathlib.Core.List.{List, [], ◌∷◌}
use Prim.Native.Nat.{ℕ, zero, suc, ◌+◌, ◌-◌, ◌*◌, ◌≤◌, ◌<◌}
use native.Mathlib.Omega.{arith}
use native.Mathlib.Nat.{mul-suc, mul-add, add-mul, mul-one, mul-pos, mul-le-mul_left}
use lib.IntN.{ℤ, pos, negsuc, neg_ℤ, nat_abs, ◌+ℤ◌, ◌-ℤ◌, ◌*ℤ◌, +ℤ_idl, +ℤ_idr, +ℤ_comm, +ℤ_invr, neg_ℤ-neg_ℤ, neg_ℤ-+ℤ, pos-ne-negsuc}
use lib.Signed.{le_z}
use borrow.Author.Tests.{leb-true, leb-false, lt-ltb, le-ltb}
use Rattle.ring.proofs.Order.{le_refl, le_total}
use Rattle.ring.proofs.Ring.{E, v, k, ◌⊕◌, ◌⊖◌, ◌⊗◌, ⊝◌, ring}
use Rattle.rule.specs.Grid.{Point, turn}
use Rattle.rule.specs.Segment.{along, Meets, one_side, overlap, meets}

-- ---- polynomials in the coordinates of four points

abbrev env : Point → Point → Point → Point → List ℤ
env a b c d = a.x ∷ a.y ∷ b.x ∷ b.y ∷ c.x ∷ c.y ∷ d.x ∷ d.y ∷ []

abbrev turn_e : E → E → E → E → E → E → E
turn_e ax ay bx by cx cy = (bx ⊖ ax) ⊗ (cy ⊖ ay) ⊖ (by ⊖ ay) ⊗ (cx ⊖ ax)

-- the four turns
abbrev abc : E
abc = turn_e (v 0) (v 1) (v 2) (v 3) (v 4) (v 5)

abbrev abd : E
abd = turn_e (v 0) (v 1) (v 2) (v 3) (v 6) (v 7)

abbrev cda : E
cda = turn_e (v 4) (v 5) (v 6) (v 7) (v 0) (v 1)

abbrev cdb : E
cdb = turn_e (v 4) (v 5) (v 6) (v 7) (v 2) (v 3)

-- they weigh the points: cdb a - cda b is abc d - abd c, in x, in y, and with 1 for each point
module _ (a b c d : Point) where
  weights_x : turn c d b *ℤ a.x +ℤ neg_ℤ (turn c d a) *ℤ b.x ≡ neg_ℤ (turn a b d) *ℤ c.x +ℤ turn a b c *ℤ d.x
  unfolding turn
  weights_x = ring (cdb ⊗ v 0 ⊕ ⊝ cda ⊗ v 2) (⊝ abd ⊗ v 4 ⊕ abc ⊗ v 6) (env a b c d) tt

  weights_y : turn c d b *ℤ a.y +ℤ neg_ℤ (turn c d a) *ℤ b.y ≡ neg_ℤ (turn a b d) *ℤ c.y +ℤ turn a b c *ℤ d.y
  unfolding turn
  weights_y = ring (cdb ⊗ v 1 ⊕ ⊝ cda ⊗ v 3) (⊝ abd ⊗ v 5 ⊕ abc ⊗ v 7) (env a b c d) tt

  weights_1 : turn c d b +ℤ neg_ℤ (turn c d a) ≡ neg_ℤ (turn a b d) +ℤ turn a b c
  unfolding turn
  weights_1 = ring (cdb ⊕ ⊝ cda) (⊝ abd ⊕ abc) (env a b c d) tt

turn_back : (a b c : Point) → turn b a c ≡ neg_ℤ (turn a b c)
unfolding turn
turn_back a b c = ring (turn_e (v 2) (v 3) (v 0) (v 1) (v 4) (v 5)) (⊝ abc) (env a b c c) tt

flat_back : (a b c : Point) → turn a b c ≡ pos 0 → turn b a c ≡ pos 0
flat_back a b c e = turn_back a b c ∙ ap neg_ℤ e

-- ---- the same segments, named in another order

swap : {a b c d : Point} → Meets a b c d → Meets c d a b
swap m = record { q = m.q; p = m.r; r = m.p; q_pos = m.q_pos; p_in = m.r_in; r_in = m.p_in; at_x = sym m.at_x; at_y = sym m.at_y }

along_back : (q r : ℕ) (c d : ℤ) → r ≤ q → along q r c d ≡ along q (q - r) d c
along_back q r c d h = +ℤ_comm (pos (q - r) *ℤ c) (pos r *ℤ d) ∙ ap (λ (n : ℕ). pos n *ℤ d +ℤ pos (q - r) *ℤ c) (omega arith)

flip : {a b c d : Point} → Meets a b c d → Meets a b d c
flip {a} {b} {c} {d} m = record {
  q = m.q;
  p = m.p;
  r = m.q - m.r;
  q_pos = m.q_pos;
  p_in = m.p_in;
  r_in = omega arith;
  at_x = m.at_x ∙ along_back m.q m.r c.x d.x m.r_in;
  at_y = m.at_y ∙ along_back m.q m.r c.y d.y m.r_in;
}

-- ---- order on ℤ, by what is added

pos_inj : {m n : ℕ} → pos m ≡ pos n → m ≡ n
pos_inj e = ap nat_abs e

-- y is x and at least n more
record Above (n : ℕ) (x y : ℤ) : Type 0 where
  by : ℕ
  least : n ≤ by
  sum : y ≡ x +ℤ pos by

down_up : (a b n : ℕ) → suc a + b ≡ n → negsuc a +ℤ pos n ≡ pos b
down_up a b n e = rw (le-ltb n (suc a) (omega arith)) (ap pos (omega arith))

down_down : (a b n : ℕ) → b + n ≡ a → negsuc a +ℤ pos n ≡ negsuc b
down_down a b n e = rw (lt-ltb n (suc a) (omega arith)) (ap negsuc (omega arith))

le_above : (x y : ℤ) → le_z x y ≡ true → Above 0 x y
le_above (pos a) (pos b) e = record { by = b - a; least = omega arith; sum = ap pos (omega (arith, leb-true a b e)) }
le_above (pos a) (negsuc b) e = absurd (false≢true e)
le_above (negsuc a) (pos b) e = record { by = suc a + b; least = omega arith; sum = sym (down_up a b (suc a + b) refl) }
le_above (negsuc a) (negsuc b) e = record { by = a - b; least = omega arith; sum = sym (down_down a b (a - b) (omega (arith, leb-true b a e))) }

gt_above : (x y : ℤ) → le_z x y ≡ false → Above 1 y x
gt_above (pos a) (pos b) e = let h = leb-false a b e in record { by = a - b; least = omega arith; sum = ap pos (omega arith) }
gt_above (pos a) (negsuc b) e = record { by = suc b + a; least = omega arith; sum = sym (down_up b a (suc b + a) refl) }
gt_above (negsuc a) (pos b) e = absurd (true≢false e)
gt_above (negsuc a) (negsuc b) e = let h = leb-false b a e in record { by = b - a; least = omega arith; sum = sym (down_down b a (b - a) (omega arith)) }

-- ---- from the definition to the test: the sides

-- how far what is X, Y with the weight W lies off the line of a and b
abbrev off : Point → Point → ℤ → ℤ → ℤ → ℤ
off a b X Y W = (b.x -ℤ a.x) *ℤ (Y -ℤ W *ℤ a.y) -ℤ (b.y -ℤ a.y) *ℤ (X -ℤ W *ℤ a.x)

off_weighed : (a b c d : Point) (m n : ℤ) → m *ℤ turn a b c +ℤ n *ℤ turn a b d ≡ off a b (m *ℤ c.x +ℤ n *ℤ d.x) (m *ℤ c.y +ℤ n *ℤ d.y) (m +ℤ n)
unfolding turn
off_weighed a b c d m n =
    ring (v 8 ⊗ abc ⊕ v 9 ⊗ abd)
    ((v 2 ⊖ v 0) ⊗ (v 8 ⊗ v 5 ⊕ v 9 ⊗ v 7 ⊖ (v 8 ⊕ v 9) ⊗ v 1) ⊖ (v 3 ⊖ v 1) ⊗ (v 8 ⊗ v 4 ⊕ v 9 ⊗ v 6 ⊖ (v 8 ⊕ v 9) ⊗ v 0))
    (a.x ∷ a.y ∷ b.x ∷ b.y ∷ c.x ∷ c.y ∷ d.x ∷ d.y ∷ m ∷ n ∷ []) tt

off_own : (a b : Point) (m n : ℤ) → off a b (m *ℤ a.x +ℤ n *ℤ b.x) (m *ℤ a.y +ℤ n *ℤ b.y) (m +ℤ n) ≡ pos 0
off_own a b m n =
    ring ((v 2 ⊖ v 0) ⊗ (v 4 ⊗ v 1 ⊕ v 5 ⊗ v 3 ⊖ (v 4 ⊕ v 5) ⊗ v 1) ⊖ (v 3 ⊖ v 1) ⊗ (v 4 ⊗ v 0 ⊕ v 5 ⊗ v 2 ⊖ (v 4 ⊕ v 5) ⊗ v 0)) (k (pos 0))
    (a.x ∷ a.y ∷ b.x ∷ b.y ∷ m ∷ n ∷ []) tt

-- a place along c d that is also along a b does not lie off the line of a and b
weighed : {a b c d : Point} (m : Meets a b c d) → pos (m.q - m.r) *ℤ turn a b c +ℤ pos m.r *ℤ turn a b d ≡ pos 0
weighed {a} {b} {c} {d} m =
    off_weighed a b c d (pos (m.q - m.r)) (pos m.r)
    ∙ ap₂ (λ (X Y : ℤ). off a b X Y (pos (m.q - m.r + m.r))) (sym m.at_x) (sym m.at_y)
    ∙ ap (λ (n : ℕ). off a b (along m.q m.p a.x b.x) (along m.q m.p a.y b.y) (pos n)) (all_of_it m.q m.p m.r m.p_in m.r_in)
    ∙ off_own a b (pos (m.q - m.p)) (pos m.p)
  where
    all_of_it : (q p r : ℕ) → p ≤ q → r ≤ q → q - r + r ≡ q - p + p
    all_of_it q p r h g = omega arith

none_left : (m n i j : ℕ) → pos m *ℤ pos (suc i) +ℤ pos n *ℤ pos (suc j) ≡ pos 0 → m + n ≡ 0
none_left m n i j e = omega (arith, pos_inj e, mul-suc m i, mul-suc n j)

weighed_back : (m n x y : ℤ) → m *ℤ x +ℤ n *ℤ y ≡ pos 0 → m *ℤ neg_ℤ x +ℤ n *ℤ neg_ℤ y ≡ pos 0
weighed_back m n x y e = ring (v 0 ⊗ ⊝ v 2 ⊕ v 1 ⊗ ⊝ v 3) (⊝ (v 0 ⊗ v 2 ⊕ v 1 ⊗ v 3)) (m ∷ n ∷ x ∷ y ∷ []) tt ∙ ap neg_ℤ e

not_one_side : (m n : ℕ) (x y : ℤ) → 0 < m + n → pos m *ℤ x +ℤ pos n *ℤ y ≡ pos 0 → one_side x y ≡ false
unfolding one_side
not_one_side m n (pos zero) y h e = refl
not_one_side m n (pos (suc i)) (pos zero) h e = refl
not_one_side m n (pos (suc i)) (pos (suc j)) h e = absurd (omega (arith, none_left m n i j e))
not_one_side m n (pos (suc i)) (negsuc j) h e = refl
not_one_side m n (negsuc i) (pos j) h e = refl
not_one_side m n (negsuc i) (negsuc j) h e = absurd (omega (arith, none_left m n i j (weighed_back (pos m) (pos n) (negsuc i) (negsuc j) e)))

sides : {a b c d : Point} → Meets a b c d → one_side (turn a b c) (turn a b d) ≡ false
sides {a} {b} {c} {d} m = not_one_side (m.q - m.r) m.r (turn a b c) (turn a b d) (omega arith) (weighed m)

-- ---- from the definition to the test: the boxes

-- the differences of the ends, with the products of their weights m, n of a, b and o, p of c, d
spread : (a b c d m n o p : ℤ)
    → m *ℤ o *ℤ (a -ℤ c) +ℤ m *ℤ p *ℤ (a -ℤ d) +ℤ n *ℤ o *ℤ (b -ℤ c) +ℤ n *ℤ p *ℤ (b -ℤ d)
    ≡ (o +ℤ p) *ℤ (m *ℤ a +ℤ n *ℤ b) -ℤ (m +ℤ n) *ℤ (o *ℤ c +ℤ p *ℤ d)
spread a b c d m n o p =
    ring (v 4 ⊗ v 6 ⊗ (v 0 ⊖ v 2) ⊕ v 4 ⊗ v 7 ⊗ (v 0 ⊖ v 3) ⊕ v 5 ⊗ v 6 ⊗ (v 1 ⊖ v 2) ⊕ v 5 ⊗ v 7 ⊗ (v 1 ⊖ v 3))
    ((v 6 ⊕ v 7) ⊗ (v 4 ⊗ v 0 ⊕ v 5 ⊗ v 1) ⊖ (v 4 ⊕ v 5) ⊗ (v 6 ⊗ v 2 ⊕ v 7 ⊗ v 3)) (a ∷ b ∷ c ∷ d ∷ m ∷ n ∷ o ∷ p ∷ []) tt

difference : {x y : ℤ} (h : Above 1 y x) → x -ℤ y ≡ pos h.by
difference {x} {y} h = ap (λ (z : ℤ). z -ℤ y) h.sum ∙ ring (v 0 ⊕ v 1 ⊖ v 0) (v 1) (y ∷ pos h.by ∷ []) tt

-- such a sum, where each difference is at least 1
spread_pos : (m n o p s t u w : ℕ) → 0 < m + n → 0 < o + p → 1 ≤ s → 1 ≤ t → 1 ≤ u → 1 ≤ w → m * o * s + m * p * t + n * o * u + n * p * w ≡ 0 → ⊥
spread_pos m n o p s t u w h g s1 t1 u1 w1 e =
    omega (arith, grown (m * o) s s1, grown (m * p) t t1, grown (n * o) u u1, grown (n * p) w w1, mul-pos h g, add-mul m n (o + p), mul-add m o p, mul-add n o p)
  where
    grown : (m i : ℕ) → 1 ≤ i → m ≤ m * i
    grown m i h = omega (arith, mul-le-mul_left m h, mul-one m)

-- of two ranges with a common place, the first has an end that is at most an end of the second
reaches : (q p r : ℕ) (a b c d : ℤ) → 0 < q → p ≤ q → r ≤ q → along q p a b ≡ along q r c d → (le_z a c || le_z a d || le_z b c || le_z b d) ≡ true
reaches q p r a b c d Q P R e = go (le_z a c) refl (le_z a d) refl (le_z b c) refl (le_z b d) refl
  where
    full : (n : ℕ) → n ≤ q → q - n + n ≡ q
    full n h = omega arith

    zero_sum : pos (q - p) *ℤ pos (q - r) *ℤ (a -ℤ c) +ℤ pos (q - p) *ℤ pos r *ℤ (a -ℤ d) +ℤ pos p *ℤ pos (q - r) *ℤ (b -ℤ c) +ℤ pos p *ℤ pos r *ℤ (b -ℤ d) ≡ pos 0
    zero_sum =
        spread a b c d (pos (q - p)) (pos p) (pos (q - r)) (pos r)
        ∙ ap₂ (λ (m n : ℕ). pos m *ℤ along q p a b -ℤ pos n *ℤ along q r c d) (full r R) (full p P)
        ∙ ap (λ (z : ℤ). pos q *ℤ z -ℤ pos q *ℤ along q r c d) e ∙ +ℤ_invr (pos q *ℤ along q r c d)

    go : (x : Bool) → le_z a c ≡ x → (y : Bool) → le_z a d ≡ y → (z : Bool) → le_z b c ≡ z → (w : Bool) → le_z b d ≡ w → (x || y || z || w) ≡ true
    go true ac y ad z bc w bd = refl
    go false ac true ad z bc w bd = refl
    go false ac false ad true bc w bd = refl
    go false ac false ad false bc true bd = refl
    go false ac false ad false bc false bd =
        let f = gt_above a c ac in
        let g = gt_above a d ad in
        let h = gt_above b c bc in
        let l = gt_above b d bd in
        absurd (spread_pos (q - p) p (q - r) r f.by g.by h.by l.by (omega arith) (omega arith) f.least g.least h.least l.least
        (pos_inj (rw (difference f, difference g, difference h, difference l) at zero_sum)))

both : {a b : Bool} → a ≡ true → b ≡ true → (a && b) ≡ true
both p q = rw (p, q)

overlaps : (q p r : ℕ) (a b c d : ℤ) → 0 < q → p ≤ q → r ≤ q → along q p a b ≡ along q r c d → overlap a b c d ≡ true
unfolding overlap
overlaps q p r a b c d Q P R e = both (reaches q p r a b c d Q P R e) (reaches q r p c d a b Q R P (sym e))

passes : {a b c d : Point} → Meets a b c d → meets a b c d ≡ true
unfolding meets
passes {a} {b} {c} {d} m =
    both (both (both
    (overlaps m.q m.p m.r a.x b.x c.x d.x m.q_pos m.p_in m.r_in m.at_x)
    (overlaps m.q m.p m.r a.y b.y c.y d.y m.q_pos m.p_in m.r_in m.at_y))
    (ap not (sides m))) (ap not (sides (swap m)))

-- ---- from the test to the definition: segments on one line

-- z lies m above a and n below b
record Rising (z a b : ℤ) : Type 0 where
  m : ℕ
  n : ℕ
  from : z ≡ a +ℤ pos m
  to : b ≡ z +ℤ pos n

rising : (z a b : ℤ) → le_z a z ≡ true → le_z z b ≡ true → Rising z a b
rising z a b e f = let g = le_above a z e in let h = le_above z b f in record { m = g.by; n = h.by; from = g.sum; to = h.sum }

abbrev Between : ℤ → ℤ → ℤ → Type 0
Between z a b = Rising z a b ⊎ Rising z b a

-- ranges that overlap: an end of one lies between the ends of the other
end_inside : (a b c d : ℤ) → le_z a c ≡ true → (le_z c a || le_z c b || le_z d a || le_z d b) ≡ true → Between c a b ⊎ Between a c d ⊎ Between b c d
end_inside a b c d ac o = go (le_z c b) refl (le_z c a) refl (le_z d a) refl (le_z d b) refl o
  where
    go : (x : Bool) → le_z c b ≡ x → (y : Bool) → le_z c a ≡ y → (z : Bool) → le_z d a ≡ z → (w : Bool) → le_z d b ≡ w → (y || x || z || w) ≡ true
        → Between c a b ⊎ Between a c d ⊎ Between b c d
    go true cb y ca z da w db o = inl (inl (rising c a b ac cb))
    go false cb true ca z da w db o = inl (inr (rising c b a (le_total c b cb) ca))
    go false cb false ca true da w db o = inr (inl (inr (rising a d c da ac)))
    go false cb false ca false da true db o = inr (inr (inr (rising b d c db (le_total c b cb))))
    go false cb false ca false da false db o = absurd (false≢true o)

-- one end lies between both
own_end : (z a b : ℤ) → z ≡ a → Between z a b
own_end z a b e = go (le_z z b) refl
  where
    go : (x : Bool) → le_z z b ≡ x → Between z a b
    go true f = inl (rising z a b (subst (λ (y : ℤ). le_z a y ≡ true) (sym e) (le_refl a)) f)
    go false f = inr (rising z b a (le_total z b f) (subst (λ (y : ℤ). le_z z y ≡ true) e (le_refl z)))

-- the place m / (m + n) along from A to B is C
placed : (m n : ℕ) (A B C D : ℤ) → pos n *ℤ A +ℤ pos m *ℤ B ≡ pos (m + n) *ℤ C → along (m + n) m A B ≡ along (m + n) 0 C D
placed m n A B C D h =
    ap (λ (i : ℕ). pos i *ℤ A +ℤ pos m *ℤ B) (omega arith) ∙ h
    ∙ ring (v 0 ⊗ v 1) (v 0 ⊗ v 1 ⊕ k (pos 0) ⊗ v 2) (pos (m + n) ∷ C ∷ D ∷ []) tt
    ∙ ap (λ (i : ℕ). pos i *ℤ C +ℤ pos 0 *ℤ D) (omega arith)

-- a flat turn, by how far apart the three stand in x
divided : (M N ax ay bx by cx cy : ℤ) → cx ≡ ax +ℤ M → bx ≡ cx +ℤ N → (bx -ℤ ax) *ℤ (cy -ℤ ay) -ℤ (by -ℤ ay) *ℤ (cx -ℤ ax) ≡ pos 0
    → N *ℤ ay +ℤ M *ℤ by ≡ (M +ℤ N) *ℤ cy
divided M N ax ay bx by cx cy e f t =
    sym (+ℤ_idl (N *ℤ ay +ℤ M *ℤ by)) ∙ ap (λ (z : ℤ). z +ℤ (N *ℤ ay +ℤ M *ℤ by)) (sym t)
    ∙ rw (f, e)
    (ring (turn_e (v 2) (v 3) (v 2 ⊕ v 0 ⊕ v 1) (v 4) (v 2 ⊕ v 0) (v 5) ⊕ (v 1 ⊗ v 3 ⊕ v 0 ⊗ v 4)) ((v 0 ⊕ v 1) ⊗ v 5) (M ∷ N ∷ ax ∷ ay ∷ by ∷ cy ∷ []) tt)

-- c on the line of a and b, and between them in x: it is on the segment, or all three have one x
touch : (a b c d : Point) → turn a b c ≡ pos 0 → Rising c.x a.x b.x → Meets a b c d ⊎ ((a.x ≡ c.x) × (b.x ≡ c.x))
unfolding turn
touch a b c d t w = go (w.m + w.n) refl
  where
    no_more : {x y : ℤ} (n : ℕ) → n ≡ 0 → x ≡ y +ℤ pos n → x ≡ y
    no_more {x} {y} n e h = h ∙ ap (λ (i : ℕ). y +ℤ pos i) e ∙ +ℤ_idr y

    go : (i : ℕ) → w.m + w.n ≡ i → Meets a b c d ⊎ ((a.x ≡ c.x) × (b.x ≡ c.x))
    go zero g = inr (sym (no_more w.m (omega arith) w.from), no_more w.n (omega arith) w.to)
    go (suc i) g =
        inl (record {
          q = w.m + w.n;
          p = w.m;
          r = 0;
          q_pos = omega arith;
          p_in = omega arith;
          r_in = omega arith;
          at_x = placed w.m w.n a.x b.x c.x d.x
              (divided (pos w.m) (pos w.n) a.x a.x b.x b.x c.x c.x w.from w.to (+ℤ_invr ((b.x -ℤ a.x) *ℤ (c.x -ℤ a.x))));
          at_y = placed w.m w.n a.y b.y c.y d.y
              (divided (pos w.m) (pos w.n) a.x a.y b.x b.y c.x c.y w.from w.to t);
        })

touches : (a b c d : Point) → turn a b c ≡ pos 0 → Between c.x a.x b.x → Meets a b c d ⊎ ((a.x ≡ c.x) × (b.x ≡ c.x))
touches a b c d t (inl w) = touch a b c d t w
touches a b c d t (inr w) = back (touch b a c d (flat_back a b c t) w)
  where
    back : Meets b a c d ⊎ ((b.x ≡ c.x) × (a.x ≡ c.x)) → Meets a b c d ⊎ ((a.x ≡ c.x) × (b.x ≡ c.x))
    back (inl m) = inl (swap (flip (swap m)))
    back (inr e) = inr (e.1, e.0)

-- all four at one x
record Level (a b c d : Point) : Type 0 where
  at : ℤ
  of_a : a.x ≡ at
  of_b : b.x ≡ at
  of_c : c.x ≡ at
  of_d : d.x ≡ at

abbrev Joint : Point → Point → Point → Point → Type 0
Joint a b c d = Meets a b c d ⊎ Level a b c d

joint_swap : {a b c d : Point} → Joint a b c d → Joint c d a b
joint_swap (inl m) = inl (swap m)
joint_swap (inr l) = inr (record { at = l.at; of_a = l.of_c; of_b = l.of_d; of_c = l.of_a; of_d = l.of_b })

joint_flip : {a b c d : Point} → Joint a b c d → Joint a b d c
joint_flip (inl m) = inl (flip m)
joint_flip (inr l) = inr (record { at = l.at; of_a = l.of_a; of_b = l.of_b; of_c = l.of_d; of_d = l.of_c })

from_inside : (a b c d : Point) → turn a b c ≡ pos 0 → turn c d a ≡ pos 0 → Between c.x a.x b.x → Joint a b c d
from_inside a b c d s t w = go (touches a b c d s w)
  where
    -- a, b and c at one x: a lies on the segment from c to d, or d is there too
    beside : a.x ≡ c.x → b.x ≡ c.x → Meets c d a b ⊎ ((c.x ≡ a.x) × (d.x ≡ a.x)) → Joint a b c d
    beside e f (inl m) = inl (swap m)
    beside e f (inr g) = inr (record { at = c.x; of_a = e; of_b = f; of_c = refl; of_d = g.1 ∙ e })

    go : Meets a b c d ⊎ ((a.x ≡ c.x) × (b.x ≡ c.x)) → Joint a b c d
    go (inl m) = inl m
    go (inr e) = beside e.0 e.1 (touches c d a b t (own_end a.x c.x d.x e.0))

record Flat (a b c d : Point) : Type 0 where
  abc_flat : turn a b c ≡ pos 0
  abd_flat : turn a b d ≡ pos 0
  cda_flat : turn c d a ≡ pos 0
  cdb_flat : turn c d b ≡ pos 0

flat_swap : {a b c d : Point} → Flat a b c d → Flat c d a b
flat_swap f = record { abc_flat = f.cda_flat; abd_flat = f.cdb_flat; cda_flat = f.abc_flat; cdb_flat = f.abd_flat }

flat_flip : {a b c d : Point} → Flat a b c d → Flat a b d c
flat_flip {a} {b} {c} {d} f = record {
  abc_flat = f.abd_flat;
  abd_flat = f.abc_flat;
  cda_flat = flat_back c d a f.cda_flat;
  cdb_flat = flat_back c d b f.cdb_flat;
}

on_line_x : (a b c d : Point) → Flat a b c d → overlap a.x b.x c.x d.x ≡ true → Joint a b c d
unfolding overlap
on_line_x a b c d f o = go (le_z a.x c.x) refl
  where
    side : (a b c d : Point) → Flat a b c d → Between c.x a.x b.x ⊎ Between a.x c.x d.x ⊎ Between b.x c.x d.x → Joint a b c d
    side a b c d f (inl w) = from_inside a b c d f.abc_flat f.cda_flat w
    side a b c d f (inr (inl w)) = joint_swap (from_inside c d a b f.cda_flat f.abc_flat w)
    side a b c d f (inr (inr w)) = joint_swap (joint_flip (from_inside c d b a f.cdb_flat (flat_back a b c f.abc_flat) w))

    halves : (x y : Bool) → (x && y) ≡ true → (x ≡ true) × (y ≡ true)
    halves true y e = (refl, e)
    halves false y e = absurd (false≢true e)

    parts : overlap a.x b.x c.x d.x ≡ true
        → ((le_z a.x c.x || le_z a.x d.x || le_z b.x c.x || le_z b.x d.x) ≡ true)
        × ((le_z c.x a.x || le_z c.x b.x || le_z d.x a.x || le_z d.x b.x) ≡ true)
    parts o = halves _ _ o

    go : (x : Bool) → le_z a.x c.x ≡ x → Joint a b c d
    go true e = side a b c d f (end_inside a.x b.x c.x d.x e (parts o).1)
    go false e = joint_swap (side c d a b (flat_swap f) (end_inside c.x d.x a.x b.x (le_total a.x c.x e) (parts o).0))

-- x and y exchanged
abbrev mirror : Point → Point
mirror p = record { x = p.y; y = p.x }

turn_mirror : (a b c : Point) → turn a b c ≡ pos 0 → turn (mirror a) (mirror b) (mirror c) ≡ pos 0
unfolding turn
turn_mirror a b c e = ring (turn_e (v 1) (v 0) (v 3) (v 2) (v 5) (v 4)) (⊝ abc) (env a b c c) tt ∙ ap neg_ℤ e

on_line : (a b c d : Point) → Flat a b c d → overlap a.x b.x c.x d.x ≡ true → overlap a.y b.y c.y d.y ≡ true → Meets a b c d
on_line a b c d f ox oy = go (on_line_x a b c d f ox) (on_line_x (mirror a) (mirror b) (mirror c) (mirror d) mirrored oy)
  where
    mirrored : Flat (mirror a) (mirror b) (mirror c) (mirror d)
    mirrored = record {
      abc_flat = turn_mirror a b c f.abc_flat;
      abd_flat = turn_mirror a b d f.abd_flat;
      cda_flat = turn_mirror c d a f.cda_flat;
      cdb_flat = turn_mirror c d b f.cdb_flat;
    }

    go : Joint a b c d → Joint (mirror a) (mirror b) (mirror c) (mirror d) → Meets a b c d
    go (inl m) w = m
    go (inr l) (inl m) = record { q = m.q; p = m.p; r = m.r; q_pos = m.q_pos; p_in = m.p_in; r_in = m.r_in; at_x = m.at_y; at_y = m.at_x }
    -- all four are one point
    go (inr l) (inr w) = record {
      q = 1;
      p = 0;
      r = 0;
      q_pos = omega arith;
      p_in = omega arith;
      r_in = omega arith;
      at_x = ap₂ (λ (u w : ℤ). along 1 0 u w) (l.of_a ∙ sym l.of_c) (l.of_b ∙ sym l.of_d);
      at_y = ap₂ (λ (u w : ℤ). along 1 0 u w) (w.of_a ∙ sym w.of_c) (w.of_b ∙ sym w.of_d);
    }

-- ---- from the test to the definition: segments that cross

-- not both above 0, nor both below
data Opposed (x y : ℤ) : Type 0 where
  falls : (m n : ℕ) → x ≡ pos m → y ≡ neg_ℤ (pos n) → Opposed x y
  rises : (m n : ℕ) → x ≡ neg_ℤ (pos m) → y ≡ pos n → Opposed x y

opposed : (x y : ℤ) → one_side x y ≡ false → Opposed x y
unfolding one_side
opposed (pos zero) (pos n) e = rises 0 n refl refl
opposed (pos zero) (negsuc n) e = falls 0 (suc n) refl refl
opposed (pos (suc m)) (pos zero) e = falls (suc m) 0 refl refl
opposed (pos (suc m)) (pos (suc n)) e = absurd (true≢false (sym (lt-ltb 0 (suc n) (omega arith)) ∙ e))
opposed (pos (suc m)) (negsuc n) e = falls (suc m) (suc n) refl refl
opposed (negsuc m) (pos n) e = rises (suc m) n refl refl
opposed (negsuc m) (negsuc n) e = absurd (true≢false e)

opposed_back : (c d a b : Point) → Opposed (turn c d a) (turn c d b) → Opposed (turn d c a) (turn d c b)
opposed_back c d a b (falls m n e f) = rises m n (turn_back c d a ∙ ap neg_ℤ e) (turn_back c d b ∙ ap neg_ℤ f ∙ neg_ℤ-neg_ℤ (pos n))
opposed_back c d a b (rises m n e f) = falls m n (turn_back c d a ∙ ap neg_ℤ e ∙ neg_ℤ-neg_ℤ (pos m)) (turn_back c d b ∙ ap neg_ℤ f)

-- c and d on two sides of a b, and a and b of c d: they cross at i / (i + j) of the way from c to d
crossing : (a b c d : Point) (i j m n : ℕ) → turn a b c ≡ pos i → turn a b d ≡ neg_ℤ (pos j) → turn c d a ≡ neg_ℤ (pos m) → turn c d b ≡ pos n
    → n + m ≡ j + i → 0 < i + j → Meets a b c d
crossing a b c d i j m n e f g h equal s = record {
  q = i + j;
  p = m;
  r = i;
  q_pos = s;
  p_in = omega arith;
  r_in = omega arith;
  at_x = place a.x b.x c.x d.x (weights_x a b c d);
  at_y = place a.y b.y c.y d.y (weights_y a b c d);
}
  where
    place : (a' b' c' d' : ℤ) → turn c d b *ℤ a' +ℤ neg_ℤ (turn c d a) *ℤ b' ≡ neg_ℤ (turn a b d) *ℤ c' +ℤ turn a b c *ℤ d' → along (i + j) m a' b' ≡ along (i + j) i c' d'
    place a' b' c' d' t =
        ap (λ (w : ℕ). pos w *ℤ a' +ℤ pos m *ℤ b') (omega (arith, equal)) ∙ (rw (e, f, g, h, neg_ℤ-neg_ℤ (pos m), neg_ℤ-neg_ℤ (pos j)) at t)
        ∙ ap (λ (w : ℕ). pos w *ℤ c' +ℤ pos i *ℤ d') (omega arith)

-- minus m is n
none_of_both : (m n : ℕ) → neg_ℤ (pos m) ≡ pos n → m + n ≡ 0
none_of_both zero n e = omega (arith, pos_inj e)
none_of_both (suc m) n e = absurd (pos-ne-negsuc n m (sym e))

up_flat : {z : ℤ} (n : ℕ) → n ≡ 0 → z ≡ pos n → z ≡ pos 0
up_flat n e h = h ∙ ap pos e

down_flat : {z : ℤ} (n : ℕ) → n ≡ 0 → z ≡ neg_ℤ (pos n) → z ≡ pos 0
down_flat n e h = h ∙ ap (λ (i : ℕ). neg_ℤ (pos i)) e

-- c is not below the line of a and b, and d not above it
falling : (a b c d : Point) (i j : ℕ) → turn a b c ≡ pos i → turn a b d ≡ neg_ℤ (pos j) → Opposed (turn c d a) (turn c d b) → Meets a b c d ⊎ Flat a b c d
falling a b c d i j e f (rises m n g h) = go (i + j) refl
  where
    equal : n + m ≡ j + i
    equal = pos_inj (rw (e, f, g, h, neg_ℤ-neg_ℤ (pos m), neg_ℤ-neg_ℤ (pos j)) at (weights_1 a b c d))

    go : (w : ℕ) → i + j ≡ w → Meets a b c d ⊎ Flat a b c d
    go zero z = inr (record {
      abc_flat = up_flat i (omega arith) e;
      abd_flat = down_flat j (omega arith) f;
      cda_flat = down_flat m (omega (arith, equal)) g;
      cdb_flat = up_flat n (omega (arith, equal)) h;
    })
    go (suc w) z = inl (crossing a b c d i j m n e f g h equal (omega arith))
falling a b c d i j e f (falls m n g h) = inr (record {
  abc_flat = up_flat i (omega (arith, zeros)) e;
  abd_flat = down_flat j (omega (arith, zeros)) f;
  cda_flat = up_flat m (omega (arith, zeros)) g;
  cdb_flat = down_flat n (omega (arith, zeros)) h;
})
  where
    zeros : n + m + (j + i) ≡ 0
    zeros = none_of_both (n + m) (j + i) (neg_ℤ-+ℤ (pos n) (pos m) ∙ (rw (e, f, g, h, neg_ℤ-neg_ℤ (pos j)) at (weights_1 a b c d)))

by_sides : (a b c d : Point) → Opposed (turn a b c) (turn a b d) → Opposed (turn c d a) (turn c d b) → Meets a b c d ⊎ Flat a b c d
by_sides a b c d (falls i j e f) o = falling a b c d i j e f o
by_sides a b c d (rises i j e f) o = back (falling a b d c j i f e (opposed_back c d a b o))
  where
    back : Meets a b d c ⊎ Flat a b d c → Meets a b c d ⊎ Flat a b c d
    back (inl m) = inl (flip m)
    back (inr f) = inr (flat_flip f)

shared : (a b c d : Point) → meets a b c d ≡ true → Meets a b c d
unfolding meets
shared a b c d h = go (tests _ _ _ _ h)
  where
    tests : (p q r s : Bool) → (p && q && not r && not s) ≡ true → (p ≡ true) × (q ≡ true) × (r ≡ false) × (s ≡ false)
    tests true true false false h = (refl, refl, refl, refl)
    tests true true false true h = absurd (false≢true h)
    tests true true true s h = absurd (false≢true h)
    tests true false r s h = absurd (false≢true h)
    tests false q r s h = absurd (false≢true h)

    go : (overlap a.x b.x c.x d.x ≡ true) × (overlap a.y b.y c.y d.y ≡ true)
        × (one_side (turn a b c) (turn a b d) ≡ false) × (one_side (turn c d a) (turn c d b) ≡ false)
        → Meets a b c d
    go t = at_last (by_sides a b c d (opposed (turn a b c) (turn a b d) t.2) (opposed (turn c d a) (turn c d b) t.3))
      where
        at_last : Meets a b c d ⊎ Flat a b c d → Meets a b c d
        at_last (inl m) = m
        at_last (inr f) = on_line a b c d f t.0 t.1

-- ---- the test decides the definition

pub meets_is : (a b c d : Point) → (meets a b c d ≡ true) ↔ Meets a b c d
meets_is a b c d = (shared a b c d, λ m. passes m)
