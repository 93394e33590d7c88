-- The loop of `pick`: stale scores go, and the first live one is the rule's candidate. Assumes nothing.
use mathlib.Core.Path.{◌≡◌, sym, ap, ◌∙◌, subst}
use mathlib.Core.Bool.{Bool, true, false, cond, ◌&&◌}
use mathlib.Core.List.{List}
use mathlib.Core.Option.{Option, none, some}
use Rattle.std.specs.Prelude.{Some, None}
use Prim.Native.Nat.{ℕ, suc, ◌-◌, ◌≤◌, ◌<◌}
use native.Mathlib.Omega.{arith}
use lib.ListN.{length}
use lib.Ieee.{Float, lt}
use Rattle.rule.specs.Plain.{Candidate, least}
use Rattle.layout.specs.declared.Layout.{Layout}
use Rattle.layout.specs.Layout.{Room}
use Rattle.vscore.specs.declared.VScore.{VScore}
use Rattle.vscore.specs.Scale.{Scale, Faithful}
use Rattle.scores.specs.Memory.{score_at, Framed}
use Rattle.scores.proofs.Memory.{framed_more, framed_then}
use Rattle.heap.specs.Heap.{Popped}
use Rattle.links.specs.Words.{SameLinks}
use Rattle.links.specs.Ring.{Triple, Live}
use Rattle.links.proofs.Ring.{ring_up, triple_alive}
use Rattle.links.proofs.Tests.{both}
use Rattle.links.proofs.Memory.{same_from, ring_same, live_same}
use Rattle.links.specs.Calls.{LiveIs}
use Rattle.thin.specs.Queue.{View, RingOf, QueueOf, chosen, Choice, candidate_of, PickDone}
use Rattle.thin.proofs.Queue.{Of, queue_less, queue_pop, root_triple, root_least, least_none}

-- ---- what is chosen of the least candidate

chosen_by : (σ : Scale) (t : Float) {o : Option Candidate} {c : Candidate} {above : Bool} → o ≡ some c → lt t (σ.value c.score) ≡ above
    → chosen σ t o ≡ cond above none (some c)
unfolding chosen
chosen_by σ t {o} {c} e h = ap (chosen σ t) e ∙ ap (λ (b : Bool). cond b none (some c)) h

chosen_none : (σ : Scale) (t : Float) {o : Option Candidate} → o ≡ none → chosen σ t o ≡ none
unfolding chosen
chosen_none σ t e = ap (chosen σ t) e

-- ---- the loop

-- k scores are left
pub record Picking (fs : List Float) (ws : List ℕ) (m : Layout) (len : ℕ) (fs' : List Float) (ws' : List ℕ) (k : ℕ) : Type 0 where
  pub room : Room m fs ws
  pub fits : len ≤ m.capacity
  pub floats : length fs' ≡ length fs
  pub words : length ws' ≡ length ws
  pub few : k ≤ len
  pub framed : Framed fs ws m len fs' ws'
  pub queue : (v : View) → Faithful v.scale → RingOf v ws m → QueueOf v fs ws m len (Triple v.kept) → QueueOf v fs' ws' m k (Triple v.kept)

module _ {fs : List Float} {ws : List ℕ} {m : Layout} {len : ℕ} {fs' : List Float} {ws' : List ℕ} {k : ℕ} (p : Picking fs ws m len fs' ws' k) where
  -- the links stay
  same : (i : ℕ) → SameLinks ws m ws' i
  same = same_from (λ j h. p.framed.after j (omega (arith, p.room.scores, p.fits)))

  ring : (v : View) → RingOf v ws m → RingOf v ws' m
  ring v h = ring_same (λ i a b. same i) h

  pub pick_empty : (t : Float) → k ≤ 0 → PickDone fs ws m len t fs' ws' k None
  pick_empty t z = record {
    framed = p.framed;
    picked = (
      p.few,
      λ v φ h q.
          let e : k ≡ 0 = omega arith in
          let q₀ = p.queue v φ h q in
          (chosen_none v.scale t (least_none v.score v.kept (ring_up h) (subst (λ (x : ℕ). QueueOf v fs' ws' m x (Triple v.kept)) e q₀)), q₀),
    );
  }

  -- the root, and whether it is live
  module _ (some_left : 0 < k) {top : VScore} (loads : top ≡ score_at fs' ws' m 0) {alive : Bool} (tells : LiveIs ws' m top alive) where
    one_more : suc (k - 1) ≡ k
    one_more = omega arith

    module _ {s : VScore} {fs'' : List Float} {ws'' : List ℕ} (pops : Popped fs' ws' m (k - 1) s fs'' ws'') where
      popped_framed : Framed fs ws m len fs'' ws''
      popped_framed = framed_then p.framed (framed_more (omega (arith, p.few)) pops.framed)

      popped_queue : (v : View) → Faithful v.scale → RingOf v ws m → QueueOf v fs ws m len (Triple v.kept)
          → QueueOf v fs'' ws'' m (k - 1) (λ l c r. Triple v.kept l c r × (Of l c r s → ⊥))
      popped_queue v φ h q =
          queue_pop φ (λ x g. g.proper) (subst (λ (x : ℕ). QueueOf v fs' ws' m x (Triple v.kept)) (sym one_more) (p.queue v φ h q)) pops

      -- it is stale
      pub pick_turn : alive ≡ false → length fs'' ≡ length fs' → length ws'' ≡ length ws' → Picking fs ws m len fs'' ws'' (k - 1)
      pick_turn e lf lw = record {
        room = p.room;
        fits = p.fits;
        floats = lf ∙ p.floats;
        words = lw ∙ p.words;
        few = omega (arith, p.few);
        framed = popped_framed;
        queue = λ v φ h q. queue_less (λ l c r t. (t, stale v h l c r t)) (popped_queue v φ h q);
      }
        where
          stale : (v : View) → RingOf v ws m → (l c r : ℕ) → Triple v.kept l c r → Of l c r s → ⊥
          stale v h l c r t i =
              let mine : Triple v.kept s.left s.current s.right = rw (i.left, i.current, i.right) t in
              tells.stale e (subst (Live ws' m) (pops.root ∙ sym loads) (triple_alive (ring v h) mine))

    -- it is live
    module _ (e : alive ≡ true) where
      live : Live ws' m (score_at fs' ws' m 0)
      live = subst (Live ws' m) loads (tells.live e)

      module _ (v : View) (φ : Faithful v.scale) (h : RingOf v ws m) (q : QueueOf v fs ws m len (Triple v.kept)) where
        root : Triple v.kept (score_at fs' ws' m 0).left (score_at fs' ws' m 0).current (score_at fs' ws' m 0).right
        root = root_triple v φ ws' m (ring v h) (p.queue v φ h q) some_left live

        stands : Triple v.kept top.left top.current top.right
        stands = subst (λ (s : VScore). Triple v.kept s.left s.current s.right) (sym loads) root

        exact : top.area ≡ v.scale.value (v.score top.left top.current top.right)
        exact = subst (λ (s : VScore). s.area ≡ v.scale.value (v.score s.left s.current s.right)) (sym loads)
            (((p.queue v φ h q).each 0 some_left).exact root)

        -- and above the tolerance or not
        choice : (t : Float) {above : Bool} → above ≡ lt t top.area → Choice v t ≡ cond above none (some (candidate_of v top))
        choice t compares = chosen_by v.scale t
            (subst (λ (s : VScore). least v.score v.kept ≡ some (candidate_of v s)) (sym loads)
            (root_least v φ ws' m (ring v h) (p.queue v φ h q) some_left live))
            (ap (lt t) (sym exact) ∙ sym compares)

    -- both as they are tested
    module _ (t : Float) {above : Bool} (compares : above ≡ lt t top.area) where
      pub pick_above : (alive && above) ≡ true → PickDone fs ws m len t fs' ws' k None
      pick_above z = let b = both alive above z in record {
        framed = p.framed;
        picked = (
          p.few,
          λ v φ h q. (choice b.0 v φ h q t compares ∙ ap (λ (x : Bool). cond x none (some (candidate_of v top))) b.1, p.queue v φ h q),
        );
      }

      pub pick_found : alive ≡ true → (alive && above) ≡ false → {s : VScore} {fs'' : List Float} {ws'' : List ℕ} → Popped fs' ws' m (k - 1) s fs'' ws''
          → PickDone fs ws m len t fs'' ws'' (k - 1) (Some top)
      pick_found e z {s} {fs''} {ws''} pops =
          let links : (i : ℕ) → SameLinks ws' m ws'' i = same_from (λ j h. pops.framed.after j (omega (arith, p.few, p.fits, p.room.scores))) in
          let own : s.current ≡ top.current = ap (λ (x : VScore). x.current) (pops.root ∙ sym loads) in
          let within : above ≡ false = ap (λ (x : Bool). x && above) (sym e) ∙ z in
          record {
            framed = popped_framed pops;
            picked = (
              omega (arith, p.few),
              live_same (links top.current) (tells.live e),
              λ v φ h q. record {
                chose = choice e v φ h q t compares ∙ ap (λ (x : Bool). cond x none (some (candidate_of v top))) within;
                area = exact e v φ h q;
                stands = stands e v φ h q;
                queue = queue_less (λ l c r b. (b.0, λ i. b.1 (sym i.current ∙ own))) (popped_queue pops v φ h q);
              },
            );
          }
