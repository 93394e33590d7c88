-- A call on repeated points meets its statement. Assumes nothing.
use mathlib.Core.Path.{◌≡◌, sym, ap, ◌∙◌}
use mathlib.Core.List.{List}
use Prim.Native.Nat.{ℕ}
use lib.ListN.{length}
use lib.Ieee.{Float}
use Rattle.rule.specs.Grid.{Point, points}
use Rattle.rule.specs.Answers.{Answer, kept}
use Rattle.rule.specs.Reasons.{repeat_reason}
use Rattle.rule.specs.Whole.{over, Lists}
use Rattle.rule.proofs.Settled.{call_done}
use Rattle.lent.proofs.Points.{length_points}
use Rattle.lent.proofs.Rows.{repeat_fine}
use Rattle.remove_repeated_points.specs.Back.{news, all_new, Listed}

-- the new points were listed
pub listed_call : {back n : ℕ} {out' : List ℕ} (us vs : List Float) (out : List ℕ) → repeat_reason us vs (length out) ≡ 0
    → Listed back (points us vs) (length us) out n out' → Lists (all_new back) us vs out (kept n) out'
listed_call {back} us vs out z w =
    let e = ap (news back (points us vs)) (sym (length_points (repeat_fine us vs (length out) z))) in
    call_done z (ap kept (w.count ∙ ap length e)) (w.list ∙ ap (λ (ks : List ℕ). over ks out) e)

-- by another rule that keeps the same of these points
pub same_call : {r : Answer} {out' : List ℕ} (rule rule' : List Point → List ℕ) (us vs : List Float) (out : List ℕ)
    → (repeat_reason us vs (length out) ≡ 0 → rule (points us vs) ≡ rule' (points us vs)) → Lists rule us vs out r out' → Lists rule' us vs out r out'
same_call rule rule' us vs out e c = record {
  refuses = c.refuses;
  does = λ z. ((c.does z).0 ∙ ap (λ (ks : List ℕ). kept (length ks)) (e z), (c.does z).1 ∙ ap (λ (ks : List ℕ). over ks out) (e z));
}
