-- The candidates of a list are its points between their neighbours. Assumes nothing.
use mathlib.Core.Path.{◌≡◌, refl, sym, ap, ◌∙◌, subst}
use mathlib.Core.Bool.{Bool, true, false, ◌||◌}
use mathlib.Core.List.{List, [], ◌∷◌, ◌++◌}
use mathlib.Core.Logic.{◌⊎◌, inl, inr, ⊎_elim}
use Prim.Native.Nat.{ℕ, suc, ◌+◌, ◌≤◌, ◌<◌}
use native.Mathlib.Decide.{dec_lt}
use native.Mathlib.Omega.{arith}
use lib.Dec.{eqb}
use lib.ListN.{length}
use Rattle.rule.specs.Plain.{Candidate, without}
use Rattle.rule.specs.Preserve.{member}
use Rattle.laws.specs.Times.{tick, times}
use Rattle.laws.proofs.Removals.{Mid, mid_length, without_length}
use Rattle.laws.proofs.Kept.{Up}
use Rattle.links.specs.Ring.{In, Then, Triple}
use Rattle.links.proofs.Neighbours.{in_none, in_head, in_tail, in_cons, in_from, then_first, then_further, then_back}

-- ---- from the list

split_triple : (n : ℕ) (pre post : List ℕ) (l c r : ℕ) → Up n (pre ++ (l ∷ c ∷ r ∷ post)) → Triple (pre ++ (l ∷ c ∷ r ∷ post)) l c r
split_triple n [] post l c r u = record { low = then_first n l c (r ∷ post) u; high = then_further n l (c ∷ r ∷ post) c r u (then_first (suc l) c r post u.1) }
split_triple n (x ∷ pre) post l c r u =
    let t = split_triple (suc x) pre post l c r u.1 in
    record { low = then_further n x (pre ++ (l ∷ c ∷ r ∷ post)) l c u t.low; high = then_further n x (pre ++ (l ∷ c ∷ r ∷ post)) c r u t.high }

pub mid_triple : {f : ℕ → ℕ → ℕ → ℕ} (n : ℕ) {ks : List ℕ} {d : Candidate} → Up n ks → Mid f ks d → Triple ks d.left d.current d.right
mid_triple {f} n {ks} {d} u g =
    subst (λ (x : List ℕ). Triple x d.left d.current d.right) (sym g.split)
    (split_triple n g.pre g.post d.left d.current d.right (subst (Up n) g.split u))

-- ---- to the list

record Starts (ks : List ℕ) (b : ℕ) : Type 0 where
  rest : List ℕ
  is : ks ≡ b ∷ rest

after_head : (n x : ℕ) (ks : List ℕ) (b : ℕ) → Up n (x ∷ ks) → Then (x ∷ ks) x b → Starts ks b
after_head n x [] b u t = absurd (⊎_elim (λ e. omega (arith, t.up)) (in_none b) (in_cons x [] b t.to))
after_head n x (y ∷ ks) b u t = record { rest = ks; is = ap (λ (z : ℕ). z ∷ ks) (same (dec_lt y b)) }
  where
    same : Dec (y < b) → y ≡ b
    same (yes h) = absurd (t.none y u.1.0 h (in_tail x (y ∷ ks) y (in_head y ks)))
    same (no h) =
        ⊎_elim (λ e. absurd (omega (arith, t.up))) (λ g. omega (arith, in_from y (y ∷ ks) b (omega arith, u.1.1) g)) (in_cons x (y ∷ ks) b t.to)

module _ (f : ℕ → ℕ → ℕ → ℕ) where
  pub triple_mid : (n : ℕ) (ks : List ℕ) (l c r : ℕ) → Up n ks → Triple ks l c r → Mid f ks (record { left = l; current = c; right = r; score = f l c r })
  triple_mid n [] l c r u t = absurd (in_none l t.low.from)
  triple_mid n (x ∷ ks) l c r u t = go (in_cons x ks l t.low.from) (λ v. triple_mid (suc x) ks l c r u.1 v)
    where
      d : Candidate
      d = record { left = l; current = c; right = r; score = f l c r }

      go : (l ≡ x) ⊎ In ks l → (Triple ks l c r → Mid f ks d) → Mid f (x ∷ ks) d
      go (inl e) rec =
          let a = after_head n x ks c u (subst (λ (z : ℕ). Then (x ∷ ks) z c) e t.low) in
          let u2 : Up (suc x) (c ∷ a.rest) = subst (Up (suc x)) a.is u.1 in
          let t2 : Then (c ∷ a.rest) c r = subst (λ (z : List ℕ). Then z c r) a.is
          (then_back n x ks c r u (subst (λ (z : List ℕ). In z c) (sym a.is) (in_head c a.rest)) t.high) in
          let b = after_head (suc x) c a.rest r u2 t2 in
          record {
            pre = [];
            post = b.rest;
            split = ap (λ (z : List ℕ). x ∷ z) (a.is ∙ ap (λ (z : List ℕ). c ∷ z) b.is) ∙ ap (λ (z : ℕ). z ∷ c ∷ r ∷ b.rest) (sym e);
            scored = refl;
          }
      go (inr h) rec =
          let low = then_back n x ks l c u h t.low in
          let g = rec (record { low = low; high = then_back n x ks c r u low.to t.high }) in
          record { pre = x ∷ g.pre; post = g.post; split = ap (λ (z : List ℕ). x ∷ z) g.split; scored = refl }

-- ---- how many

in_times : (i : ℕ) (ks : List ℕ) → In ks i → 0 < times i ks
unfolding member
in_times i [] h = absurd (in_none i h)
in_times i (k ∷ ks) h = go (eqb i k) h (in_times i ks)
  where
    go : (b : Bool) → (b || member i ks) ≡ true → (In ks i → 0 < times i ks) → 0 < tick b + times i ks
    go true h r = omega arith
    go false h r = omega (arith, r h)

module _ {ks : List ℕ} {l c r : ℕ} (t : Triple ks l c r) where
  pub triple_three : Up 0 ks → 3 ≤ length ks
  triple_three u = mid_length (triple_mid (λ a b d. 0) 0 ks l c r u t)

  pub triple_fewer : suc (length (without c ks)) ≡ length ks
  triple_fewer = without_length c ks (in_times c ks t.low.to)
