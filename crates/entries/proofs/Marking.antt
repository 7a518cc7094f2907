-- The scan of positions: before position e the array has the entries of every set, and the positions below e have their marks. One position more.
-- Assumes nothing.
use Prim.Native.Nat.{ℕ, zero, suc, ◌+◌, ◌-◌, ◌*◌, ◌/◌, ◌≤◌, ◌<◌}
use mathlib.Core.Bool.{Bool, true, false, not, cond, ◌&&◌, and-false, false≢true}
use mathlib.Core.List.{List, [], ◌∷◌, map}
use mathlib.Core.Logic.{⊎_elim}
use mathlib.Core.Path.{◌≡◌, refl, sym, ap, ap₂, subst, ◌∙◌}
use native.Mathlib.Decide.{ℕ_discrete}
use native.Mathlib.Nat.{mul-le-mul_right, suc-mul}
use native.Mathlib.Omega.{arith}
use borrow.Author.Tests.{eq-eqb, ne_eqb}
use lib.Arith.{lt_of_le-ne}
use lib.Dec.{eqb, eqb-suc-zero, eqb-zero-suc}
use lib.ListN.{length, get_or, set, length-set}
use lib.Seq.{get_or-set_same, get_or-set_other}
use Rattle.folds.specs.Folds.{only_if}
use Rattle.folds.proofs.Numbers.{le-or-lt}
use Rattle.lru_cache.specs.Recency.{among, without, recent, held, hits, next_hits}
use Rattle.lru_cache.specs.Positions.{with_load, before, next_loads, load_set, position_hits, position_misses, position_kept}
use Rattle.entries.specs.Entries.{found, shifted}
use Rattle.entries.specs.Marks.{last_of, entry_of, Are, Held, mark_of, Marked, mark_miss, mark_hit, mark_load, position_held, position_marks, position_missed, Earlier, AllEarlier, next_base}
use Rattle.lru_cache.proofs.Lists.{among-front, among_later, among-take, without-self}
use Rattle.lru_cache.proofs.Recent.{recent-own, recent-other, once-recent, recent-there}
use Rattle.lru_cache.proofs.Useful.{hits-is, next-none}
use Rattle.entries.proofs.Lines.{are-same, shifted-outside, shifted-length, shifted-all, found-is, shifted-is}
use Rattle.entries.proofs.Kept.{last-small, last-own, last-other, last-there, next-same, next-passed, next-new}

-- entries that agree on every block of a list
map_same : (f g : ℕ → ℕ) (ms : List ℕ) → ((m : ℕ) → among m ms ≡ true → f m ≡ g m) → map f ms ≡ map g ms
unfolding among
map_same f g [] same = refl
map_same f g (x ∷ ms) same =
    ap₂ (λ (v : ℕ) (vs : List ℕ). v ∷ vs) (same x (among-front x ms)) (map_same f g ms (λ m e. same m (among_later x m ms e)))

-- marks are changed in place
load-length : (marks : List ℕ) (e s last : ℕ) → length (mark_load marks e s last) ≡ length marks
unfolding mark_load
load-length marks e s last = go (eqb last 0)
  where
    go : (t : Bool) → length (cond t (mark_miss marks e s) (mark_hit marks e s last)) ≡ length marks
    go true = length-set marks e (4 * s)
    go false =
        length-set (set marks e (4 * s + 2)) (last - 1) (get_or (set marks e (4 * s + 2)) (last - 1) 0 / 2 * 2 + 1) ∙ length-set marks e (4 * s + 2)

-- the entries of two sets lie apart
pub apart : (s s' w : ℕ) → s < s' → s * w + w ≤ s' * w
apart s s' w h =
    let up : suc s * w ≤ s' * w = mul-le-mul_right w h in
    omega (arith, up, suc-mul s w)

module _ (place : ℕ → ℕ) (ways : ℕ) (l : ℕ → ℕ) (base : ℕ) where
  -- ---- a position that loads nothing

  module _ (e : ℕ) (idle : l e ≡ 0) where
    same-before : before l (suc e) ≡ before l e
    unfolding before
    same-before = ap (λ (x : ℕ). with_load x (before l e)) idle

    not-loaded : (m : ℕ) → l e ≡ suc m → ⊥
    not-loaded m q = let z : 0 ≡ suc m = sym idle ∙ q in omega (arith, z)

    pub held-idle : (array : List ℕ) (sets : ℕ) → Held place ways l base array sets e → Held place ways l base array sets (suc e)
    held-idle array sets all s h =
        subst (λ (vs : List ℕ). Are base array (s * ways) ways vs)
        (map_same (entry_of base l e) (entry_of base l (suc e)) (recent place s (before l e)) (λ m k. ap (λ (x : ℕ). (base + suc m) * 2048 + x) (sym (last-other l m e (not-loaded m))))
        ∙ ap (λ (past : List ℕ). map (entry_of base l (suc e)) (recent place s past)) (sym same-before))
        (all s h)

  -- ---- the marks of earlier positions

  -- what position i knows of its block's next load below e, and below e + 1
  abbrev kept_now : ℕ → ℕ → Bool
  kept_now e i = position_kept place ways l i (e - (i + 1))

  split-mark : (e e' i : ℕ) → kept_now e' i ≡ kept_now e i → mark_of place ways l e' i ≡ mark_of place ways l e i
  unfolding mark_of
  split-mark e e' i q = ap (λ (t : Bool). only_if (not (eqb (l i) 0)) (4 * load_set place (l i)) + 2 * only_if (position_hits place ways l i) 1 + only_if t 1) q

  module _ (e i : ℕ) (h : i < e) where
    abbrev k : ℕ
    k = e - (i + 1)

    there : suc i + k ≡ e
    there = omega arith

    kept_at : (m : ℕ) → l i ≡ suc m → (n : ℕ) → position_kept place ways l i n ≡ next_hits place ways (before l (suc i)) (next_loads l (suc i) n) m
    unfolding position_kept
    kept_at m q n = ap (λ (x : ℕ). not (eqb x 0) && next_hits place ways (before l (suc i)) (next_loads l (suc i) n) (x - 1)) q ∙ (let less : suc m - 1 ≡ m = omega arith in rw (eqb-suc-zero m, less))

    kept-none : l i ≡ 0 → (n : ℕ) → position_kept place ways l i n ≡ false
    unfolding position_kept
    kept-none q n = ap (λ (x : ℕ). not (eqb x 0) && next_hits place ways (before l (suc i)) (next_loads l (suc i) n) (x - 1)) q

    more : suc e - (i + 1) ≡ suc k
    more = omega arith

    -- position e does not load the block of position i, or misses, or another position loaded it since
    kept_same : ((m : ℕ) → l i ≡ suc m → (eqb (l e) (suc m) && hits place ways (before l e) m) ≡ false) → kept_now (suc e) i ≡ kept_now e i
    kept_same quiet = go (l i) refl
      where
        go : (x : ℕ) → l i ≡ x → kept_now (suc e) i ≡ kept_now e i
        go zero q = kept-none q (suc e - (i + 1)) ∙ sym (kept-none q k)
        go (suc m) q =
            ap (position_kept place ways l i) more ∙ kept_at m q (suc k)
            ∙ next-same place ways l m i k q (ap (λ (x : ℕ). eqb (l x) (suc m) && hits place ways (before l x) m) there ∙ quiet m q) ∙ sym (kept_at m q k)

    kept-passed : (m : ℕ) → l i ≡ suc m → (last_of l e m ≡ i → ⊥) → kept_now (suc e) i ≡ kept_now e i
    kept-passed m q n =
        ap (position_kept place ways l i) more ∙ kept_at m q (suc k)
        ∙ next-passed place ways l m i k q (λ r. n (ap (λ (x : ℕ). last_of l x m) (sym there) ∙ r)) ∙ sym (kept_at m q k)

    kept_new : (m : ℕ) → l i ≡ suc m → last_of l e m ≡ i → l e ≡ suc m → hits place ways (before l e) m ≡ true
        → (kept_now e i ≡ false) × (kept_now (suc e) i ≡ true)
    kept_new m q r here hit =
        let so = next-new place ways l m i k q (ap (λ (x : ℕ). last_of l x m) there ∙ r) (ap l there ∙ here) (ap (λ (x : ℕ). hits place ways (before l x) m) there ∙ hit) in
        (kept_at m q k ∙ so.0, ap (position_kept place ways l i) more ∙ kept_at m q (suc k) ∙ so.1)

  -- position e loads block m, and position i is not the last that did
  kept-rest : (e i : ℕ) → i < e → (m : ℕ) → l e ≡ suc m → (i ≡ last_of l e m → ⊥) → (x : ℕ) → l i ≡ x → kept_now (suc e) i ≡ kept_now e i
  kept-rest e i h m load n zero q = kept-none e i h q (suc e - (i + 1)) ∙ sym (kept-none e i h q (e - (i + 1)))
  kept-rest e i h m load n (suc m') q = go (ℕ_discrete m' m)
    where
      go : Dec (m' ≡ m) → kept_now (suc e) i ≡ kept_now e i
      go (yes r) = kept-passed e i h m (q ∙ ap suc r) (λ z. n (sym z))
      go (no o) = kept_same e i h (λ m'' q'. ap (λ (t : Bool). t && hits place ways (before l e) m'') (ne_eqb (l e) (suc m'') (λ z. o (let w : suc m' ≡ suc m = sym q ∙ q' ∙ sym z ∙ load in omega (arith, w)))))

  -- the mark of the position just passed: nothing is known of what follows it
  kept-last : (e : ℕ) → kept_now (suc e) e ≡ false
  unfolding position_kept next_loads
  kept-last e = ap (position_kept place ways l e) (let z : suc e - (e + 1) ≡ 0 = omega arith in z) ∙ go (not (eqb (l e) 0))
    where
      go : (t : Bool) → (t && next_hits place ways (before l (suc e)) [] (l e - 1)) ≡ false
      go true = next-none place ways (before l (suc e)) (l e - 1)
      go false = refl

  -- ---- the marks after one position

  module _ (e : ℕ) (marks : List ℕ) (room : e < length marks) (all : Marked place ways l marks e) where
    -- what is stored at position e, and what the positions below it keep
    stored : (marks' : List ℕ) → ((i : ℕ) → i < e → get_or marks' i 0 ≡ mark_of place ways l (suc e) i) → get_or marks' e 0 ≡ mark_of place ways l (suc e) e
        → Marked place ways l marks' (suc e)
    stored marks' below here i h = go (ℕ_discrete i e)
      where
        go : Dec (i ≡ e) → get_or marks' i 0 ≡ mark_of place ways l (suc e) i
        go (yes q) = ap (λ (j : ℕ). get_or marks' j 0) q ∙ here ∙ ap (mark_of place ways l (suc e)) (sym q)
        go (no n) = below i (lt_of_le-ne (omega arith) n)

    old : (v i : ℕ) → i < e → get_or (set marks e v) i 0 ≡ mark_of place ways l e i
    old v i h = get_or-set_other marks e i v 0 (λ q. omega arith) ∙ all i h

    mark-here : (v : ℕ) → v ≡ only_if (not (eqb (l e) 0)) (4 * load_set place (l e)) + 2 * only_if (position_hits place ways l e) 1
        → get_or (set marks e v) e 0 ≡ mark_of place ways l (suc e) e
    unfolding mark_of
    mark-here v q =
        let known : only_if (position_kept place ways l e (suc e - (e + 1))) 1 ≡ 0 = ap (λ (t : Bool). only_if t 1) (kept-last e) in
        let store : get_or (set marks e v) e 0 ≡ v = get_or-set_same marks e v 0 room in
        omega (arith, q, known, store)

    pub mark-idle : l e ≡ 0 → Marked place ways l (set marks e 0) (suc e)
    unfolding position_hits
    mark-idle idle =
        stored (set marks e 0)
        (λ i h. old 0 i h ∙ sym (split-mark e (suc e) i (kept_same e i h (λ m q. ap (λ (x : ℕ). eqb x (suc m) && hits place ways (before l e) m) idle ∙ ap (λ (t : Bool). t && hits place ways (before l e) m) (eqb-zero-suc m)))))
        (mark-here 0 (sym (ap (λ (x : ℕ). only_if (not (eqb x 0)) (4 * load_set place x) + 2 * only_if (not (eqb x 0) && hits place ways (before l e) (x - 1)) 1) idle)))

    module _ (m s last : ℕ) (load : l e ≡ suc m) (own : s ≡ place m) (known : last ≡ cond (hits place ways (before l e) m) (suc (last_of l e m)) 0) where
      -- the mark of the position itself
      here-is : only_if (not (eqb (l e) 0)) (4 * load_set place (l e)) + 2 * only_if (position_hits place ways l e) 1 ≡ 4 * s + 2 * only_if (hits place ways (before l e) m) 1
      unfolding position_hits
      here-is =
          ap (λ (x : ℕ). only_if (not (eqb x 0)) (4 * load_set place x) + 2 * only_if (not (eqb x 0) && hits place ways (before l e) (x - 1)) 1) load
          ∙ (let less : suc m - 1 ≡ m = omega arith in rw (eqb-suc-zero m, less) (ap (λ (x : ℕ). 4 * x + 2 * only_if (hits place ways (before l e) m) 1) (sym own)))

      missed : hits place ways (before l e) m ≡ false → Marked place ways l (mark_miss marks e s) (suc e)
      missed miss =
          stored (set marks e (4 * s))
          (λ i h. old (4 * s) i h ∙ sym (split-mark e (suc e) i (kept_same e i h (quiet i))))
          (mark-here (4 * s) (let w : only_if (hits place ways (before l e) m) 1 ≡ 0 = ap (λ (t : Bool). only_if t 1) miss in omega (arith, here-is, w)))
        where
          quiet : (i m' : ℕ) → l i ≡ suc m' → (eqb (l e) (suc m') && hits place ways (before l e) m') ≡ false
          quiet i m' q = go (ℕ_discrete m' m)
            where
              go : Dec (m' ≡ m) → (eqb (l e) (suc m') && hits place ways (before l e) m') ≡ false
              go (yes r) = ap (λ (t : Bool). eqb (l e) (suc m') && t) (ap (hits place ways (before l e)) r ∙ miss) ∙ and-false (eqb (l e) (suc m'))
              go (no n) = ap (λ (t : Bool). t && hits place ways (before l e) m') (ne_eqb (l e) (suc m') (λ r. n (let z : suc m' ≡ suc m = sym r ∙ load in omega (arith, z))))

      -- where it hits, the block's last position
      module _ (hit : hits place ways (before l e) m ≡ true) where
        was : (last_of l e m < e) × (l (last_of l e m) ≡ suc m)
        was = last-there l m e (recent-there place (place m) m (before l e) (among-take ways m (recent place (place m) (before l e)) (sym (hits-is place ways (before l e) m) ∙ hit))).1

        even : (x y z : ℕ) → (4 * x + 2 * y + 0) / 2 * 2 + 1 ≡ 4 * x + 2 * y + 1
        even x y z = omega arith

        -- the mark with the position known to be kept
        marked-kept : (v : ℕ) → v ≡ mark_of place ways l e (last_of l e m) → v / 2 * 2 + 1 ≡ mark_of place ways l (suc e) (last_of l e m)
        unfolding mark_of
        marked-kept v q =
            let so = kept_new e (last_of l e m) was.0 m was.1 refl load hit in
            let off : only_if (position_kept place ways l (last_of l e m) (e - (last_of l e m + 1))) 1 ≡ 0 = ap (λ (t : Bool). only_if t 1) so.0 in
            let on : only_if (position_kept place ways l (last_of l e m) (suc e - (last_of l e m + 1))) 1 ≡ 1 = ap (λ (t : Bool). only_if t 1) so.1 in
            let four : only_if (not (eqb (l (last_of l e m)) 0)) (4 * load_set place (l (last_of l e m))) ≡ 4 * only_if (not (eqb (l (last_of l e m)) 0)) (load_set place (l (last_of l e m))) =
            scaled (not (eqb (l (last_of l e m)) 0)) (load_set place (l (last_of l e m))) in
            omega (arith, q, off, on, four)
          where
            scaled : (t : Bool) (x : ℕ) → only_if t (4 * x) ≡ 4 * only_if t x
            scaled true x = refl
            scaled false x = refl

        hit-marks : Marked place ways l (mark_hit marks e s (suc (last_of l e m))) (suc e)
        hit-marks =
            let less : suc (last_of l e m) - 1 ≡ last_of l e m = omega arith in
            subst (λ (j : ℕ). Marked place ways l (set (set marks e (4 * s + 2)) j (get_or (set marks e (4 * s + 2)) j 0 / 2 * 2 + 1)) (suc e)) (sym less)
            (stored (set (set marks e (4 * s + 2)) (last_of l e m) (get_or (set marks e (4 * s + 2)) (last_of l e m) 0 / 2 * 2 + 1)) below here)
          where
            v : ℕ
            v = get_or (set marks e (4 * s + 2)) (last_of l e m) 0 / 2 * 2 + 1

            below : (i : ℕ) → i < e → get_or (set (set marks e (4 * s + 2)) (last_of l e m) v) i 0 ≡ mark_of place ways l (suc e) i
            below i h = go (ℕ_discrete i (last_of l e m))
              where
                go : Dec (i ≡ last_of l e m) → get_or (set (set marks e (4 * s + 2)) (last_of l e m) v) i 0 ≡ mark_of place ways l (suc e) i
                go (yes q) =
                    ap (λ (j : ℕ). get_or (set (set marks e (4 * s + 2)) (last_of l e m) v) j 0) q
                    ∙ get_or-set_same (set marks e (4 * s + 2)) (last_of l e m) v 0 (omega (arith, was.0, room, length-set marks e (4 * s + 2)))
                    ∙ marked-kept (get_or (set marks e (4 * s + 2)) (last_of l e m) 0) (old (4 * s + 2) (last_of l e m) was.0)
                    ∙ ap (mark_of place ways l (suc e)) (sym q)
                go (no n) =
                    get_or-set_other (set marks e (4 * s + 2)) (last_of l e m) i v 0 n ∙ old (4 * s + 2) i h ∙ sym (split-mark e (suc e) i (same (l i) refl))
                  where
                    same : (x : ℕ) → l i ≡ x → kept_now (suc e) i ≡ kept_now e i
                    same x q = kept-rest e i h m load n x q

            here : get_or (set (set marks e (4 * s + 2)) (last_of l e m) v) e 0 ≡ mark_of place ways l (suc e) e
            here =
                get_or-set_other (set marks e (4 * s + 2)) (last_of l e m) e v 0 (λ q. omega (arith, q, was.0))
                ∙ mark-here (4 * s + 2) (let w : only_if (hits place ways (before l e) m) 1 ≡ 1 = ap (λ (t : Bool). only_if t 1) hit in omega (arith, here-is, w))

      pub mark-load : Marked place ways l (mark_load marks e s last) (suc e)
      unfolding mark_load
      mark-load = go (hits place ways (before l e) m) refl
        where
          go : (t : Bool) → hits place ways (before l e) m ≡ t → Marked place ways l (cond (eqb last 0) (mark_miss marks e s) (mark_hit marks e s last)) (suc e)
          go false q =
              let none : last ≡ 0 = known ∙ ap (λ (u : Bool). cond u (suc (last_of l e m)) 0) q in
              subst (λ (u : Bool). Marked place ways l (cond u (mark_miss marks e s) (mark_hit marks e s last)) (suc e)) (sym (eq-eqb last 0 none)) (missed q)
          go true q =
              let some : last ≡ suc (last_of l e m) = known ∙ ap (λ (u : Bool). cond u (suc (last_of l e m)) 0) q in
              subst (λ (x : ℕ). Marked place ways l (cond (eqb x 0) (mark_miss marks e s) (mark_hit marks e s x)) (suc e)) (sym some)
              (subst (λ (u : Bool). Marked place ways l (cond u (mark_miss marks e s) (mark_hit marks e s (suc (last_of l e m)))) (suc e)) (sym (eqb-suc-zero (last_of l e m))) (hit-marks q))

  -- ---- the entries after a load

  module _ (e m s : ℕ) (array : List ℕ) (sets : ℕ) (load : l e ≡ suc m) (own : s ≡ place m) (there : s < sets) (short : e < 2048)
      (room : sets * ways ≤ length array) (all : Held place ways l base array sets e) where
    small : (y : ℕ) → last_of l e y < 2048
    small y = last-small l y e (omega arith)

    pub found-load : found base (base + suc m) array (s * ways) ways ≡ cond (hits place ways (before l e) m) (suc (last_of l e m)) 0
    found-load =
        found-is base (last_of l e) m small array (s * ways) ways (recent place s (before l e)) (all s there)
        ∙ ap (λ (t : Bool). cond t (suc (last_of l e m)) 0)
        (ap (λ (j : ℕ). among m (held place ways j (before l e))) own ∙ sym (hits-is place ways (before l e) m))

    abbrev array' : List ℕ
    array' = shifted base (base + suc m) ((base + suc m) * 2048 + e) array (s * ways) ways

    now-before : before l (suc e) ≡ m ∷ before l e
    unfolding before
    now-before = ap (λ (x : ℕ). with_load x (before l e)) load

    entry_other : (y : ℕ) → (m ≡ y → ⊥) → entry_of base l e y ≡ entry_of base l (suc e) y
    entry_other y n = ap (λ (x : ℕ). (base + suc y) * 2048 + x) (sym (last-other l y e (λ q. n (let z : suc m ≡ suc y = sym load ∙ q in omega (arith, z)))))

    held-load : Held place ways l base array' sets (suc e)
    held-load t h = go (ℕ_discrete (place m) t)
      where
        inside : s * ways + ways ≤ length array
        inside = omega (arith, apart s sets ways there, room)

        go : Dec (place m ≡ t) → Are base array' (t * ways) ways (map (entry_of base l (suc e)) (recent place t (before l (suc e))))
        go (yes q) =
            subst (λ (j : ℕ). Are base array' (j * ways) ways (map (entry_of base l (suc e)) (recent place j (before l (suc e))))) (own ∙ q)
            (subst (λ (vs : List ℕ). Are base array' (s * ways) ways vs) (sym entries)
            (shifted-is base (last_of l e) m small array (s * ways) ways ((base + suc m) * 2048 + e) (recent place s (before l e)) inside (all s there)))
          where
            gone : among m (without m (recent place s (before l e))) ≡ false
            gone = without-self m (recent place s (before l e)) (once-recent place s (before l e))

            entries : map (entry_of base l (suc e)) (recent place s (before l (suc e))) ≡ ((base + suc m) * 2048 + e) ∷ map (entry_of base l e) (without m (recent place s (before l e)))
            entries =
                ap (λ (past : List ℕ). map (entry_of base l (suc e)) (recent place s past)) now-before
                ∙ ap (map (entry_of base l (suc e))) (recent-own place s m (before l e) (sym own))
                ∙ ap₂ (λ (v : ℕ) (vs : List ℕ). v ∷ vs) (ap (λ (x : ℕ). (base + suc m) * 2048 + x) (last-own l m e load))
                (sym (map_same (entry_of base l e) (entry_of base l (suc e)) (without m (recent place s (before l e)))
                (λ y k. entry_other y (λ r. false≢true (sym gone ∙ ap (λ (z : ℕ). among z (without m (recent place s (before l e)))) r ∙ k)))))
        go (no o) =
            subst (λ (vs : List ℕ). Are base array' (t * ways) ways vs) (sym entries)
            (are-same base array array' (t * ways) ways (map (entry_of base l e) (recent place t (before l e))) outside (all t h))
          where
            entries : map (entry_of base l (suc e)) (recent place t (before l (suc e))) ≡ map (entry_of base l e) (recent place t (before l e))
            entries =
                ap (λ (past : List ℕ). map (entry_of base l (suc e)) (recent place t past)) now-before
                ∙ ap (map (entry_of base l (suc e))) (recent-other place t m (before l e) o)
                ∙ sym (map_same (entry_of base l e) (entry_of base l (suc e)) (recent place t (before l e))
                (λ y k. entry_other y (λ r. o (ap place r ∙ (recent-there place t y (before l e) k).0))))

            outside : (j : ℕ) → t * ways ≤ j → j < t * ways + ways → get_or array' j 0 ≡ get_or array j 0
            outside j a b =
                shifted-outside base (base + suc m) ((base + suc m) * 2048 + e) array (s * ways) ways j
                (λ k c d q. ⊎_elim (λ (le : s ≤ t). omega (arith, q, apart s t ways (lt_of_le-ne le (λ r. o (sym own ∙ r))))) (λ (lt : t < s). omega (arith, q, apart t s ways lt))
                (le-or-lt s t))

  -- ---- one position more

  -- before position e the array has the entries of every set, and the positions below it have their marks; no word has a key of the next trace
  abbrev pub Scanned : ℕ → List ℕ → List ℕ → ℕ → Type 0
  Scanned sets array marks e =
      (sets * ways ≤ length array) × (2048 ≤ length marks) × Held place ways l base array sets e × Marked place ways l marks e
      × AllEarlier (next_base base) array

  module _ (sets e s : ℕ) (array marks : List ℕ) (short : e < 2048) (there : s < sets) (all : Scanned sets array marks e) where
    pub scan-position : (x : ℕ) → x ≡ l e → x ≤ 65536 → ((m : ℕ) → x ≡ suc m → s ≡ place m)
        → Scanned sets (position_held base ways s x e array) (position_marks base ways s x e array marks) (suc e)
        × (position_missed base ways s x array ≡ only_if (position_misses place ways l e) 1)
    unfolding position_held position_marks position_missed position_misses
    scan-position zero q few own =
        let idle : l e ≡ 0 = sym q in (
          (all.0, omega (arith, length-set marks e 0, all.1), held-idle e idle array sets all.2, mark-idle e marks (omega (arith, all.1)) all.3 idle, all.4),
          ap (λ (x : ℕ). only_if (not (eqb x 0) && not (hits place ways (before l e) (x - 1))) 1) q,
        )
    scan-position (suc m) q few own =
        let load : l e ≡ suc m = sym q in
        let known = found-load e m s array sets load (own m refl) there short all.0 all.2 in
        let last = found base (base + suc m) array (s * ways) ways in
        rw (eqb-suc-zero m) (
          (
            omega (arith, shifted-length base (base + suc m) ((base + suc m) * 2048 + e) array (s * ways) ways, all.0),
            omega (arith, load-length marks e s last, all.1),
            held-load e m s array sets load (own m refl) there short all.0 all.2,
            mark-load e marks (omega (arith, all.1)) all.3 m s last load (own m refl) known,
            shifted-all (Earlier (next_base base)) base (base + suc m) ((base + suc m) * 2048 + e) array (s * ways) ways (omega (arith, apart s sets ways there, all.0))
                (omega arith) all.4,
          ),
          missed-is known,
        )
      where
        tested : (t : Bool) → only_if (eqb (cond t (suc (last_of l e m)) 0) 0) 1 ≡ only_if (not t) 1
        tested true = ap (λ (t : Bool). only_if t 1) (eqb-suc-zero (last_of l e m))
        tested false = refl

        missed-is : found base (base + suc m) array (s * ways) ways ≡ cond (hits place ways (before l e) m) (suc (last_of l e m)) 0
            → only_if (eqb (found base (base + suc m) array (s * ways) ways) 0) 1 ≡ only_if (not (eqb (l e) 0) && not (hits place ways (before l e) (l e - 1))) 1
        missed-is known =
            let less : suc m - 1 ≡ m = omega arith in
            ap (λ (y : ℕ). only_if (eqb y 0) 1) known ∙ tested (hits place ways (before l e) m)
            ∙ sym (ap₂ (λ (z : Bool) (j : ℕ). only_if (not z && not (hits place ways (before l e) j)) 1) (eqb-suc-zero m) less)
            ∙ ap (λ (x : ℕ). only_if (not (eqb x 0) && not (hits place ways (before l e) (x - 1))) 1) q
