-- The list of the tasks above task i on its core, and a row that is raised along it.
-- Assumes nothing.
use Prim.Native.Nat.{ℕ, ◌+◌, ◌-◌, ◌≤◌, ◌<◌, max}
use mathlib.Core.Bool.{Bool, true, false}
use mathlib.Core.List.{List, [], ◌∷◌, ◌++◌}
use mathlib.Core.Logic.{⊎_elim}
use mathlib.Core.Path.{◌≡◌, refl, sym, ap, ap₂, subst, ◌∙◌}
use native.Mathlib.Nat.{eq-or-lt_of_le}
use native.Mathlib.Numerals.{add-one}
use native.Mathlib.Omega.{arith}
use lib.ListN.{length, get_or, set, length-set, length-append, get_or-append}
use lib.Seq.{get_or-set_same, get_or-set_other, get_or-append_seam}
use Rattle.folds.specs.Folds.{only_if, last_to}
use Rattle.folds.proofs.Numbers.{le-or-lt}
use Rattle.folds.proofs.Lists.{fill_to-is}
use Rattle.folds.proofs.Last.{last_to-none, last_to-here, last_to-other, last_to-low, last_to-passes, last_to-after}
use Rattle.figures.specs.Rows.{same_core, on_core_of, raised}
use Rattle.figures.specs.Higher.{higher_at, Higher}

module _ (b : List ℕ) (i : ℕ) where
  pub higher-first : higher_at b i 0 ≡ last_to (same_core b i) i
  unfolding higher_at
  higher-first = refl

  pub higher-next : (q : ℕ) → higher_at b i (q + 1) ≡ last_to (same_core b i) (higher_at b i q - 1)
  unfolding higher_at
  higher-next q = ap (higher_at b i) (add-one q)

  -- no task above is on the core where the list is empty
  pub higher-none : (list : List ℕ) → Higher b i list → length list ≡ 0 → (j : ℕ) → j < i → same_core b i j ≡ false
  higher-none list is e j h = last_to-after (same_core b i) i j (omega (arith, sym higher-first ∙ ap (higher_at b i) (sym e) ∙ is.last)) h

  -- ---- the list made, from task i upwards: the tasks from j on are in it

  pub record Listing (j : ℕ) (list : List ℕ) : Type 0 where
    pub few : length list + j ≤ i
    pub each : (q : ℕ) → q < length list → get_or list q 0 + 1 ≡ higher_at b i q
    pub next : higher_at b i (length list) ≡ last_to (same_core b i) j

  pub listing_start : Listing i []
  listing_start = record { few = omega arith; each = λ q h. absurd (omega arith); next = higher-first }

  -- the next task above is on the core or not
  module _ (j : ℕ) (list : List ℕ) (so_far : Listing j list) (some : 0 < j) where
    last : j - 1 + 1 ≡ j
    last = omega arith

    pub listing-on : same_core b i (j - 1) ≡ true → Listing (j - 1) (list ++ (j - 1) ∷ [])
    listing-on e =
        let own : j ≡ higher_at b i (length list) = sym (so_far.next ∙ ap (last_to (same_core b i)) (sym last) ∙ last_to-here (same_core b i) (j - 1) e ∙ last) in
        let size : length (list ++ (j - 1) ∷ []) ≡ length list + 1 = length-append list ((j - 1) ∷ []) in
        record {
          few = omega (arith, so_far.few, size);
          each = λ q h.
              ⊎_elim
              (λ (e : q ≡ length list). omega (arith, ap (λ (k : ℕ). get_or (list ++ (j - 1) ∷ []) k 0) e, get_or-append_seam list (j - 1) [] 0, own, ap (higher_at b i) e))
              (λ (less : q < length list). omega (arith, get_or-append list ((j - 1) ∷ []) 0 q less, so_far.each q less))
              (eq-or-lt_of_le (let l : q ≤ length list = omega (arith, h, size) in l));
          next = ap (higher_at b i) size ∙ higher-next (length list) ∙ ap (λ (k : ℕ). last_to (same_core b i) (k - 1)) (sym own);
        }

    pub listing-off : same_core b i (j - 1) ≡ false → Listing (j - 1) list
    listing-off e = record {
      few = omega (arith, so_far.few);
      each = so_far.each;
      next = so_far.next ∙ ap (last_to (same_core b i)) (sym last) ∙ last_to-other (same_core b i) (j - 1) e;
    }

  pub listing-end : (list : List ℕ) → Listing 0 list → Higher b i list
  listing-end list all = record { few = omega (arith, all.few); each = all.each; last = all.next ∙ last_to-none (same_core b i) }

  -- ---- a row raised along it by f: the tasks from k on are done

  module _ (f : ℕ → ℕ) (row₀ : List ℕ) where
    pub record Raised (k : ℕ) (row : List ℕ) : Type 0 where
      pub low : k ≤ i
      pub size : length row ≡ length row₀
      pub done : (j : ℕ) → k ≤ j → j < i → j < length row₀ → get_or row j 0 ≡ max (get_or row₀ j 0) (on_core_of b i f j)
      pub left : (j : ℕ) → j < k → get_or row j 0 ≡ get_or row₀ j 0
      pub past : (j : ℕ) → i ≤ j → get_or row j 0 ≡ get_or row₀ j 0

    pub raised-start : Raised i row₀
    raised-start = record { low = omega arith; size = refl; done = λ j h l w. absurd (omega arith); left = λ j h. refl; past = λ j h. refl }

    -- a task that is not on the core
    other : (j : ℕ) → same_core b i j ≡ false → get_or row₀ j 0 ≡ max (get_or row₀ j 0) (on_core_of b i f j)
    other j e = omega (arith, ap (λ (t : Bool). only_if t (f j)) e)

    -- the next task above
    pub raised-next : (k n : ℕ) (row : List ℕ) → n + 1 ≡ last_to (same_core b i) k → Raised k row → Raised n (set row n (max (get_or row n 0) (f n)))
    raised-next k n row is so_far = record {
      low = omega (arith, so_far.low, below);
      size = length-set row n v ∙ so_far.size;
      done = λ j h l w. ⊎_elim (λ (e : n ≡ j). own j (sym e) w) (λ (more : n < j). later j more l w) (eq-or-lt_of_le h);
      left = λ j h. get_or-set_other row n j v 0 (λ e. omega arith) ∙ so_far.left j (omega (arith, below));
      past = λ j h. get_or-set_other row n j v 0 (λ e. omega (arith, below, so_far.low)) ∙ so_far.past j h;
    }
      where
        v : ℕ
        v = max (get_or row n 0) (f n)

        below : n < k
        below = omega (arith, last_to-low (same_core b i) k)

        passes : same_core b i n ≡ true
        passes = last_to-passes (same_core b i) k n (sym is)

        own : (j : ℕ) → j ≡ n → j < length row₀ → get_or (set row n v) j 0 ≡ max (get_or row₀ j 0) (on_core_of b i f j)
        own j e w =
            ap (λ (m : ℕ). get_or (set row n v) m 0) e ∙ get_or-set_same row n v 0 (omega (arith, so_far.size))
            ∙ ap₂ max (so_far.left n (omega (arith, below))) (sym (ap (λ (t : Bool). only_if t (f n)) passes))
            ∙ ap (λ (m : ℕ). max (get_or row₀ m 0) (on_core_of b i f m)) (sym e)

        later : (j : ℕ) → n < j → j < i → j < length row₀ → get_or (set row n v) j 0 ≡ max (get_or row₀ j 0) (on_core_of b i f j)
        later j more l w =
            get_or-set_other row n j v 0 (λ e. omega arith)
            ∙ ⊎_elim (λ (h : k ≤ j). so_far.done j h l w)
            (λ (h : j < k). so_far.left j h ∙ other j (last_to-after (same_core b i) k j (omega arith) h)) (le-or-lt k j)

    -- no task is left
    pub raised-end : (k : ℕ) (row : List ℕ) → last_to (same_core b i) k ≡ 0 → Raised k row → row ≡ raised (on_core_of b i f) i row₀
    raised-end k row none so_far =
        fill_to-is _ row₀ 0 i row so_far.size
        (λ j l w. ⊎_elim (λ (m : k ≤ j). so_far.done j m l w)
        (λ (m : j < k). so_far.left j m ∙ other j (last_to-after (same_core b i) k j (omega arith) m)) (le-or-lt k j))
        so_far.past

    -- ---- the walk along the list: its first q tasks are done, and no count of a task still to come is above `most`

    pub record Walk (row : List ℕ) (most q : ℕ) : Type 0 where
      pub from : ℕ
      pub next : higher_at b i q ≡ last_to (same_core b i) from
      pub so_far : Raised from row
      pub bound : (j : ℕ) → same_core b i j ≡ true → j < from → f j ≤ most

    pub walk_start : (most : ℕ) → ((j : ℕ) → f j ≤ most) → Walk row₀ most 0
    walk_start most bound = record { from = i; next = higher-first; so_far = raised-start; bound = λ j on h. bound j }

    module _ (higher : List ℕ) (list : Higher b i higher) {row : List ℕ} {most q : ℕ} (w : Walk row most q) where
      module _ (j : ℕ) (is : j ≡ get_or higher q 0) (less : q < length higher) where
        own : j + 1 ≡ last_to (same_core b i) w.from
        own = omega (arith, is, list.each q less, w.next)

        -- the next task is above, and on the core
        pub walk-above : j < i
        walk-above = omega (arith, own, last_to-low (same_core b i) w.from, w.so_far.low)

        pub walk-bound : f j ≤ most
        walk-bound = w.bound j (last_to-passes (same_core b i) w.from j (sym own)) (omega (arith, own, last_to-low (same_core b i) w.from))

        pub walk_turn : {row' : List ℕ} {most' : ℕ} → ((j k : ℕ) → j ≤ k → same_core b i j ≡ true → same_core b i k ≡ true → f j ≤ f k)
            → row' ≡ set row j (max (get_or row j 0) (f j)) → f j ≤ most' → Walk row' most' (q + 1)
        walk_turn rise e high = record {
          from = j;
          next = higher-next q ∙ ap (last_to (same_core b i)) (let same : higher_at b i q - 1 ≡ j = omega (arith, own, w.next) in same);
          so_far = subst (Raised j) (sym e) (raised-next w.from j row own w.so_far);
          bound = λ k on h. omega (arith, high, rise k j (omega arith) on (last_to-passes (same_core b i) w.from j (sym own)));
        }

      -- and ends
      pub walk_end : q ≡ length higher → row ≡ raised (on_core_of b i f) i row₀
      walk_end e = raised-end w.from row (sym w.next ∙ ap (higher_at b i) e ∙ list.last) w.so_far
