-- All rings linked, and all rings thinned. Assumes nothing.
use mathlib.Core.Path.{◌≡◌, refl, sym, ap, ◌∙◌, subst}
use mathlib.Core.Bool.{true, false}
use mathlib.Core.List.{List, [], ◌∷◌, ◌++◌, append_assoc, append-nil}
use mathlib.Core.Logic.{inl}
use Prim.Native.Nat.{ℕ, ◌+◌, ◌*◌, ◌-◌, ◌≤◌, ◌<◌}
use native.Mathlib.Omega.{arith}
use lib.ListN.{length, drop, get_or, length-drop}
use lib.Ieee.{Float}
use Rattle.rule.specs.Grid.{Point, is_finite, positive}
use Rattle.rule.specs.Plain.{indices, leave}
use Rattle.rule.specs.Preserve.{Minima, ring_removals, rings_removals, leave_each, preserve_removed, preserve}
use Rattle.rule.specs.Rings.{rings_from}
use Rattle.laws.proofs.Rings.{preserve_all}
use Rattle.layout.specs.declared.Layout.{Layout}
use Rattle.layout.specs.Layout.{Room}
use Rattle.layout.specs.Points.{PlacedIn}
use Rattle.links.specs.Ring.{Rings}
use Rattle.links.specs.Calls.{Joined}
use Rattle.links.proofs.Rings.{rings_same, rings_append}
use Rattle.thin.specs.State.{most}
use Rattle.blocks.specs.declared.Blocks.{Blocks}
use Rattle.blocks.specs.Boxes.{boxes_end, behind_end, BehindHeap, HasBoxes, set_up, Boxed}
use Rattle.blocks.proofs.Made.{set_up_only, set_up_boxed}
use Rattle.thin_ring.specs.State.{Setting, left_in, Ended, Outside}
use Rattle.thin_ring.specs.Calls.{RingDone}
use Rattle.thin_ring.proofs.Running.{outside_then}
use Rattle.ring_reasons.proofs.Cut.{Cut, cut_end, next_is, next_rings, next_cut, next_from, next_to}
use Rattle.simplify_vw_preserve.specs.Calls.{LinkedAll, Wrapped}

-- one ring more
ring_more : (ws : List ℕ) (m : Layout) (lo hi : ℕ) (past : List ℕ) (done : List (List ℕ)) (ks : List ℕ)
    → Rings ws m 0 lo past done → Rings ws m lo hi (hi ∷ []) (ks ∷ []) → Rings ws m 0 hi (past ++ (hi ∷ [])) (done ++ (ks ∷ []))
ring_more ws m lo hi past done ks a b = rings_append ws m 0 lo hi past done (hi ∷ []) (ks ∷ []) a b

-- ---- all rings linked

pub record Linking (ws : List ℕ) (m : Layout) (ends : List ℕ) (ws' : List ℕ) (lo k : ℕ) : Type 0 where
  pub past : List ℕ
  pub done : List (List ℕ)
  pub size : length ws' ≡ length ws
  pub table : Cut ends m.points past k lo
  pub rings : Rings ws' m 0 lo past done
  pub whole : done ++ rings_from lo (drop k ends) ≡ rings_from 0 ends
  pub before : (i : ℕ) → i < m.links → get_or ws' i 0 ≡ get_or ws i 0
  pub after : (i : ℕ) → m.links + 3 * m.points ≤ i → get_or ws' i 0 ≡ get_or ws i 0

module _ {ws : List ℕ} {m : Layout} {ends : List ℕ} where
  module _ {ws' : List ℕ} {lo k : ℕ} (s : Linking ws m ends ws' lo k) where
    pub linking_more : (h : k < length ends) {ws'' : List ℕ} → length ws'' ≡ length ws' → Joined ws' m lo (get_or ends k 0) ws''
        → Linking ws m ends ws'' (get_or ends k 0) (k + 1)
    linking_more h {ws''} l j =
        let hi = get_or ends k 0 in
        let ks = indices lo (hi - lo) in
        record {
          past = s.past ++ (hi ∷ []);
          done = s.done ++ (ks ∷ []);
          size = l ∙ s.size;
          table = next_cut s.table h;
          rings = ring_more ws'' m lo hi s.past s.done ks
              (rings_same ws' ws'' m 0 lo s.past s.done
              (λ i p q. j.only.others i (omega (arith, next_from s.table h, next_to s.table h)) (inl q)) s.rings)
              (j.ring, refl);
          whole = append_assoc s.done (ks ∷ []) (rings_from hi (drop (k + 1) ends))
              ∙ ap (λ (l : List (List ℕ)). s.done ++ l) (sym (next_rings s.table h)) ∙ s.whole;
          before = λ i g. j.only.before i g ∙ s.before i g;
          after = λ i g. j.only.after i g ∙ s.after i g;
        }

    pub linking_end : length ends ≤ k → LinkedAll ws m ends ws'
    unfolding rings_from
    linking_end h =
        let e = cut_end s.table h in
        record { rings = all (drop k ends) (omega (arith, length-drop k ends)) s.whole e.0 e.1; before = s.before; after = s.after }
      where
        all : (l : List ℕ) → length l ≤ 0 → s.done ++ rings_from lo l ≡ rings_from 0 ends → s.past ≡ ends → lo ≡ m.points
            → Rings ws' m 0 m.points ends (rings_from 0 ends)
        all [] g w p e =
            subst (λ (n : ℕ). Rings ws' m 0 n ends (rings_from 0 ends)) e
            (subst (λ (kss : List (List ℕ)). Rings ws' m 0 lo ends kss) (sym (append-nil s.done) ∙ w)
            (subst (λ (es : List ℕ). Rings ws' m 0 lo es s.done) p s.rings))
        all (x ∷ l) g w p e = absurd (omega arith)

-- ---- all rings thinned

linked_frame : {fs : List Float} {ws : List ℕ} {m : Layout} {ends : List ℕ} {ws₁ : List ℕ} → Room m fs ws → LinkedAll ws m ends ws₁
    → Outside (behind_end m) fs ws m fs ws₁
linked_frame room l = record { floats = λ i h. refl; before = λ i h. l.before i (omega (arith, room.scores)); after = l.after }

-- a tolerance of zero or less keeps all
pub wrapped_whole : {us vs fs : List Float} {ws : List ℕ} {m : Layout} {ends : List ℕ} {q : Minima} {t : Float} {ws₁ : List ℕ}
    → Room m fs ws → LinkedAll ws m ends ws₁ → positive t ≡ false → Wrapped us vs fs ws m ends q t fs ws₁
wrapped_whole {m = m} {ends = ends} {q = q} {t = t} {ws₁ = ws₁} room l e = record {
  frame = linked_frame room l;
  rings = λ ps p f fits. subst (Rings ws₁ m 0 m.points ends) (sym (preserve_all ps t q (rings_from 0 ends) e)) l.rings;
}

-- what the rule keeps of each ring, where `done` are kept of those before
unfoldable pub keeps : List Point → Float → Minima → List (List ℕ) → List (List ℕ) → List (List ℕ)
unfolding rings_removals leave_each
keeps ps t q done kss = leave_each (rings_removals ps t q done kss) kss

module _ (ps : List Point) (t : Float) (q : Minima) where
  keeps_none : (done : List (List ℕ)) → keeps ps t q done [] ≡ []
  unfolding keeps rings_removals leave_each
  keeps_none done = refl

  keeps_one : (done : List (List ℕ)) (ks : List ℕ) (kss : List (List ℕ)) → let l = leave (ring_removals (length ks) ps t q (done ++ kss) [] ks) ks in
      keeps ps t q done (ks ∷ kss) ≡ l ∷ keeps ps t q (done ++ (l ∷ [])) kss
  unfolding keeps rings_removals leave_each
  keeps_one done ks kss = refl

  keeps_all_lem : positive t ≡ true → (kss : List (List ℕ)) → keeps ps t q [] kss ≡ preserve ps t q kss
  unfolding keeps preserve preserve_removed
  keeps_all_lem e kss = rw (preserve_removed, e)

-- the rings before lo are thinned, and the others are whole
pub record Halfway (b : Blocks) (ps : List Point) (t : Float) (q : Minima) (ends : List ℕ) (fs' : List Float) (ws' : List ℕ) (m : Layout) (past : List ℕ) (lo k : ℕ) : Type 0 where
  pub done : List (List ℕ)
  pub before : Rings ws' m 0 lo past done
  pub after : Rings ws' m lo m.points (drop k ends) (rings_from lo (drop k ends))
  pub boxed : Boxed b m ps fs' ws'
  pub same : done ++ keeps ps t q done (rings_from lo (drop k ends)) ≡ keeps ps t q [] (rings_from 0 ends)

pub record Thinning (b : Blocks) (us vs fs : List Float) (ws : List ℕ) (m : Layout) (ends : List ℕ) (q : Minima) (t : Float) (fs' : List Float) (ws' : List ℕ) (lo k : ℕ) : Type 0 where
  pub past : List ℕ
  pub floats : length fs' ≡ length fs
  pub words : length ws' ≡ length ws
  pub table : Cut ends m.points past k lo
  pub frame : Outside (boxes_end b) fs ws m fs' ws'
  pub under : (ps : List Point) → PlacedIn us vs m ps → is_finite t ≡ true → positive t ≡ true → most m ≤ m.capacity → Rings ws m 0 m.points ends (rings_from 0 ends)
      → Boxed b m ps fs ws → Halfway b ps t q ends fs' ws' m past lo k

module _ {b : Blocks} {us vs fs : List Float} {ws : List ℕ} {m : Layout} {ends : List ℕ} {q : Minima} {t : Float} where
  module _ {fs' : List Float} {ws' : List ℕ} {lo k : ℕ} (s : Thinning b us vs fs ws m ends q t fs' ws' lo k) where
    module _ (h : k < length ends) {fs'' : List Float} {ws'' : List ℕ} (d : RingDone b us vs fs' ws' m lo (get_or ends k 0) q t fs'' ws'') where
      more : (ps : List Point) → PlacedIn us vs m ps → is_finite t ≡ true → positive t ≡ true → most m ≤ m.capacity → Halfway b ps t q ends fs' ws' m s.past lo k
          → Halfway b ps t q ends fs'' ws'' m (s.past ++ (get_or ends k 0 ∷ [])) (get_or ends k 0) (k + 1)
      more ps p f a fits w =
          record {
            done = w.done ++ (left ∷ []);
            before = ring_more ws'' m lo (get_or ends k 0) s.past w.done left e.others.before (e.ring, refl);
            after = e.others.after;
            boxed = e.boxed;
            same = append_assoc w.done (left ∷ []) (keeps ps t q (w.done ++ (left ∷ [])) kss)
                ∙ ap (λ (l : List (List ℕ)). w.done ++ l)
                (sym (keeps_one ps t q w.done (indices lo (get_or ends k 0 - lo)) kss) ∙ ap (keeps ps t q w.done) (sym (next_rings s.table h)))
                ∙ w.same;
          }
        where
          kss : List (List ℕ)
          kss = rings_from (get_or ends k 0) (drop (k + 1) ends)

          g : Setting
          g = record {
            points = ps;
            lo = lo;
            hi = get_or ends k 0;
            ends_before = s.past;
            before = w.done;
            ends_after = drop (k + 1) ends;
            after = rings_from (get_or ends k 0) (drop (k + 1) ends);
          }

          left : List ℕ
          left = left_in g t q [] (indices lo (get_or ends k 0 - lo))

          here : Rings ws' m lo m.points (get_or ends k 0 ∷ drop (k + 1) ends) (indices lo (get_or ends k 0 - lo) ∷ rings_from (get_or ends k 0) (drop (k + 1) ends))
          here =
              subst (λ (x : List (List ℕ)). Rings ws' m lo m.points (get_or ends k 0 ∷ drop (k + 1) ends) x) (next_rings s.table h)
              (subst (λ (x : List ℕ). Rings ws' m lo m.points x (rings_from lo (drop k ends))) (next_is s.table h) w.after)

          e : Ended b g left fs'' ws'' m
          e =
              d.does g (record { placed = p; finite = f; above = a }) refl refl fits
              (record { ring = here.0; others = record { before = w.before; after = here.1 }; boxed = w.boxed })

      pub thinning_more : length fs'' ≡ length fs' → length ws'' ≡ length ws' → Thinning b us vs fs ws m ends q t fs'' ws'' (get_or ends k 0) (k + 1)
      thinning_more lf lw = record {
        past = s.past ++ (get_or ends k 0 ∷ []);
        floats = lf ∙ s.floats;
        words = lw ∙ s.words;
        table = next_cut s.table h;
        frame = outside_then s.frame d.frame;
        under = λ ps p f a fits r x. more ps p f a fits (s.under ps p f a fits r x);
      }

    -- the rings were whole at first, and had their boxes made
    pub thinning_end : length ends ≤ k → positive t ≡ true → {fs₀ : List Float} {ws₀ : List ℕ} → Room m fs₀ ws₀ → LinkedAll ws₀ m ends ws → BehindHeap m b → HasBoxes b fs₀
        → fs ≡ set_up b m us vs ws fs₀ → Wrapped us vs fs₀ ws₀ m ends q t fs' ws'
    unfolding rings_from
    thinning_end h a {fs₀} {ws₀} room l behind has z = record {
      frame = outside_then (linked_frame room l) (outside_then made (record {
        floats = λ i g. s.frame.floats i (omega (arith, behind.start, behind.few));
        before = s.frame.before;
        after = s.frame.after;
      }));
      rings = λ ps p f fits.
          end ps (s.under ps p f a fits l.rings (subst (λ (y : List Float). Boxed b m ps y ws) (sym z) (set_up_boxed b m us vs ws fs₀ has p)));
    }
      where
        made : Outside (behind_end m) fs₀ ws m fs ws
        made = subst (λ (y : List Float). Outside (behind_end m) fs₀ ws m y ws) (sym z) (record {
          floats = λ i g. (set_up_only b m us vs ws fs₀).after i (omega (arith, behind.start, behind.few));
          before = λ i g. refl;
          after = λ i g. refl;
        })

        end : (ps : List Point) → Halfway b ps t q ends fs' ws' m s.past lo k → Rings ws' m 0 m.points ends (preserve ps t q (rings_from 0 ends))
        end ps w = go (drop k ends) (omega (arith, length-drop k ends)) w.same (cut_end s.table h).0 (cut_end s.table h).1
          where
            go : (l : List ℕ) → length l ≤ 0 → w.done ++ keeps ps t q w.done (rings_from lo l) ≡ keeps ps t q [] (rings_from 0 ends) → s.past ≡ ends → lo ≡ m.points
                → Rings ws' m 0 m.points ends (preserve ps t q (rings_from 0 ends))
            go [] g e z n =
                subst (λ (i : ℕ). Rings ws' m 0 i ends (preserve ps t q (rings_from 0 ends))) n
                (subst (λ (kss : List (List ℕ)). Rings ws' m 0 lo ends kss)
                (sym (append-nil w.done) ∙ ap (λ (l : List (List ℕ)). w.done ++ l) (sym (keeps_none ps t q w.done)) ∙ e ∙ keeps_all_lem ps t q a (rings_from 0 ends))
                (subst (λ (es : List ℕ). Rings ws' m 0 lo es w.done) z w.before))
            go (x ∷ l) g e z n = absurd (omega arith)
