-- The first of a run of places below a place: of one place, and of two runs behind each other. Assumes nothing.
use mathlib.Core.Path.{◌≡◌, refl, sym, subst}
use mathlib.Core.Bool.{Bool, true, false, cond}
use mathlib.Core.List.{List}
use mathlib.Core.Logic.{dite}
use Prim.Native.Nat.{ℕ, ◌+◌, ◌≤◌, ◌<◌}
use native.Mathlib.Decide.{dec_lt}
use native.Mathlib.Omega.{arith}
use lib.Ieee.{Float}
use Rattle.layout.specs.declared.Layout.{Layout}
use Rattle.vscore.specs.declared.VScore.{VScore}
use Rattle.vscore.specs.Score.{sooner}
use Rattle.vscore.specs.Scale.{Scale, Faithful}
use Rattle.scores.specs.declared.Child.{Child}
use Rattle.scores.specs.Memory.{Holds, score_at}
use Rattle.scores.specs.Scores.{Proper, Le}
use Rattle.scores.specs.Children.{children, child_at, IsChild, sooner_of, FirstOf, First}
use Rattle.scores.proofs.Scores.{le_self, le_trans, sooner_true, sooner_false}
use Rattle.scores.proofs.Memory.{holds_at}

pub child_is : {fs : List Float} {ws : List ℕ} {m : Layout} {n j : ℕ} {a : Child} → Holds m n fs ws → j ≤ n → a ≡ child_at fs j → IsChild fs ws m a
child_is {fs} {ws} {m} ok l e = subst (IsChild fs ws m) (sym e) (record { held = holds_at ok refl refl l; same = refl })

pub first_one : {fs : List Float} {ws : List ℕ} {m : Layout} {n j e : ℕ} {a : Child} → Holds m n fs ws → j ≤ n → e ≡ j + 1 → a ≡ child_at fs j
    → First fs ws m j e a
first_one {fs} {ws} {m} {n} {j} {e} ok l le ea = record {
  child = child_is ok l ea;
  first = subst (λ (a : Child). FirstOf fs ws m j e a.place) (sym ea) (record {
    low = omega arith;
    high = omega arith;
    within = omega arith;
    first = λ σ φ f k lo hi l. let s : j ≡ k = omega arith in
        subst (λ (i : ℕ). Le σ (score_at fs ws m j) (score_at fs ws m i)) s (le_self σ (score_at fs ws m j));
  });
}

-- r stands in one of two runs, and is not after the first of either
join : (fs : List Float) (ws : List ℕ) (m : Layout) {c d e a b : ℕ} (r : ℕ) → FirstOf fs ws m c d a → FirstOf fs ws m d e b → e ≤ c + children → c ≤ r → r < e
    → ((σ : Scale) → Faithful σ → Proper σ (score_at fs ws m a) → Proper σ (score_at fs ws m b)
    → Le σ (score_at fs ws m r) (score_at fs ws m a) × Le σ (score_at fs ws m r) (score_at fs ws m b))
    → FirstOf fs ws m c e r
join fs ws m {c} {d} {e} {a} {b} r p q s lo hi les = record {
  low = lo;
  high = omega arith;
  within = hi;
  first = λ σ φ f k kl kh ke.
      let le = les σ φ (f a p.low (omega (arith, p.within, q.low, q.within))) (f b (omega (arith, p.low, p.within, q.low)) q.within) in
      dite (dec_lt k d)
      (λ y. le_trans σ (h r) (h a) (h k) le.0 (p.first σ φ (λ i x z. f i x (omega (arith, q.low, q.within))) k kl kh y))
      (λ n. le_trans σ (h r) (h b) (h k) le.1
      (q.first σ φ (λ i x z. f i (omega (arith, p.low, p.within)) z) k (omega (arith, n)) (omega (arith, p.low, p.within)) ke));
}
  where
    h : ℕ → VScore
    h = score_at fs ws m

pub first_join : {fs : List Float} {ws : List ℕ} {m : Layout} {c d e : ℕ} {a b r : Child} → First fs ws m c d a → First fs ws m d e b → e ≤ c + children
    → r ≡ sooner_of fs ws m a b → First fs ws m c e r
unfolding sooner_of
first_join {fs} {ws} {m} {c} {d} {e} {a} {b} u v s re = subst (First fs ws m c e) (sym re) (go (sooner (h b.place) (h a.place)) refl)
  where
    h : ℕ → VScore
    h = score_at fs ws m

    p : FirstOf fs ws m c d a.place
    p = u.first

    q : FirstOf fs ws m d e b.place
    q = v.first

    go : (x : Bool) → sooner (h b.place) (h a.place) ≡ x → First fs ws m c e (cond x b a)
    go true soon = record {
      child = v.child;
      first = join fs ws m b.place p q s (omega (arith, p.low, p.within, q.low)) q.within
          (λ σ φ pa pb. (sooner_true σ φ (h b.place) (h a.place) pb pa soon, le_self σ (h b.place)));
    }
    go false late = record {
      child = u.child;
      first = join fs ws m a.place p q s p.low (omega (arith, p.within, q.low, q.within))
          (λ σ φ pa pb. (le_self σ (h a.place), sooner_false σ φ (h b.place) (h a.place) pb pa late));
    }

-- there is no other below n
pub first_all : {fs : List Float} {ws : List ℕ} {m : Layout} {c d n : ℕ} {a : Child} → First fs ws m c d a → d ≤ n
    → ((k : ℕ) → k < c + children → k < n → k < d) → FirstOf fs ws m c n a.place
first_all u l all = record {
  low = u.first.low;
  high = u.first.high;
  within = omega (arith, u.first.within);
  first = λ σ φ f k kl kh kn. u.first.first σ φ (λ i x z. f i x (omega arith)) k kl kh (all k kh kn);
}
