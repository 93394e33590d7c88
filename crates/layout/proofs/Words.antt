-- Three words written, at three places. Assumes nothing.
use mathlib.Core.Path.{◌≡◌, ◌∙◌}
use mathlib.Core.List.{List}
use Prim.Native.Nat.{ℕ, ◌<◌}
use lib.ListN.{length, get_or, set, length-set}
use lib.Seq.{get_or-set_same, get_or-set_other}

module _ (ws : List ℕ) (a b c : ℕ) (u v w : ℕ) where
  abbrev pub three : List ℕ
  three = set (set (set ws a u) b v) c w

  pub three_other : (j : ℕ) → (j ≡ a → ⊥) → (j ≡ b → ⊥) → (j ≡ c → ⊥) → get_or three j 0 ≡ get_or ws j 0
  three_other j p q r = get_or-set_other (set (set ws a u) b v) c j w 0 r ∙ get_or-set_other (set ws a u) b j v 0 q ∙ get_or-set_other ws a j u 0 p

  pub three_first : a < length ws → (a ≡ b → ⊥) → (a ≡ c → ⊥) → get_or three a 0 ≡ u
  three_first l ab ac = get_or-set_other (set (set ws a u) b v) c a w 0 ac ∙ get_or-set_other (set ws a u) b a v 0 ab ∙ get_or-set_same ws a u 0 l

  pub three_second : b < length ws → (b ≡ c → ⊥) → get_or three b 0 ≡ v
  three_second l bc = get_or-set_other (set (set ws a u) b v) c b w 0 bc ∙ get_or-set_same (set ws a u) b v 0 (simp length-set l)

  pub three_third : c < length ws → get_or three c 0 ≡ w
  three_third l = get_or-set_same (set (set ws a u) b v) c w 0 (simp length-set l)
