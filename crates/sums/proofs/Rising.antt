-- A task's sum never falls when the times that it reads rise, its own and, where the bus is not TDMA, those of the tasks on other cores,
-- when work rises, when periods fall, when releases may be later, and when more refreshes are put off: one proof over the five buses and the three forms of refresh. The two boards may be one.
-- Every part is a sum of terms, each a demand times a rounded quotient of a time, or W. W rises with its window u: as long as u stays in
-- one period, what is left of it grows; when u enters a further period, W gains a whole D', which the part left never exceeds. A shorter
-- period leaves more of u, or enters a further period.
-- Assumes nothing.
use Prim.Native.Nat.{ℕ, zero, suc, ◌+◌, ◌-◌, ◌*◌, ◌/◌, ◌%◌, ◌≤◌, ◌<◌, min, zero-le}
use mathlib.Core.Bool.{Bool, true, ◌&&◌}
use mathlib.Core.List.{List}
use mathlib.Core.Logic.{⊎_elim}
use mathlib.Core.Path.{◌≡◌, refl, sym, ap, ap₂, subst, ◌∙◌}
use native.Mathlib.Nat.{eq-or-lt_of_le, div-add-mod', mul-suc, mul-le-mul, mul-le-mul_left, le_refl, le_of_eq}
use native.Mathlib.Omega.{arith}
use lib.Dec.{eqb, ltb}
use lib.ListN.{get_or}
use borrow.Author.Tests.{ltb-true, eqb-true, eqb-false, not-true}
use Rattle.folds.specs.Folds.{ceil_div}
use Rattle.folds.proofs.Numbers.{Shorter, shorter-same, div-rise, ceil_div-rise, ceil_div-mono}
use Rattle.folds.proofs.Folds.{sum_where-rise}
use Rattle.board.specs.Layout.{word, cores, tasks, bus, slots, access_cycles, refresh, refresh_interval, refresh_rows, refresh_cycles, put_off, core, period, jitter}
use Rattle.folds.proofs.Numbers.{and_both}
use Rattle.figures.specs.Figures.{task_pd}
use Rattle.sums.specs.Sums.{lowest, releases, memory_demand, is_other, is_before, is_after, over_cores, window, own_accesses, carry_in, core_accesses, lower_accesses, interference, bus_accesses, refreshes, higher_work, task_sum}
use Rattle.sums.specs.Inputs.{own_costs}
use Rattle.sums.proofs.Numbers.{product-cong}
use Rattle.sums.proofs.Jitter.{added_jitter-rise}

-- W rises with its window, and when the period falls
pub carry-rise : (m d : ℕ) {S T : ℕ} → Shorter S T → (u v : ℕ) → u ≤ v
    → m * (u / T) + min m (ceil_div (u % T) d) ≤ m * (v / S) + min m (ceil_div (v % S) d)
carry-rise m d {S} {T} short u v h =
    ⊎_elim
    (λ e.
    let left = mul-le-mul {n₁ = v / S} {m₁ = S} {n₂ = u / T} {m₂ = T} (le_of_eq (sym e)) short.le in
    omega (arith, ap (λ (q : ℕ). m * q) e, ceil_div-mono d (u % T) (v % S) (omega (arith, div-add-mod' u T, div-add-mod' v S))))
    (λ l. omega (arith, mul-suc m (u / T), mul-le-mul_left m l))
    (eq-or-lt_of_le (div-rise short u v h))

pub carry-mono : (m T d u v : ℕ) → u ≤ v → m * (u / T) + min m (ceil_div (u % T) d) ≤ m * (v / T) + min m (ceil_div (v % T) d)
carry-mono m T d u v h = carry-rise m d (shorter-same T) u v h

-- a test of cores that the core x fails
abbrev Leaves : ℕ → (ℕ → Bool) → Type 0
Leaves x test = (y : ℕ) → test y ≡ true → y ≡ x → ⊥

module _ (x : ℕ) where
  other-leaves : Leaves x (is_other x)
  other-leaves y e = eqb-false y x (not-true (eqb y x) e)

  before-leaves : Leaves x (is_before x)
  before-leaves y e same = omega (arith, ltb-true)

  after-leaves : Leaves x (is_after x)
  after-leaves y e same = omega (arith, ltb-true)

-- the sums of board b' are those of b with as much work or more, periods as long or shorter, as much jitter or more, and as many refreshes put off
-- or more: of all else that a sum reads they have the same
pub record Heavier (b b' : List ℕ) : Type 0 where
  pub header : (i : ℕ) → i < 12 → word b i ≡ word b' i
  pub put_off : put_off b ≤ put_off b'
  pub cores : (k : ℕ) → k < tasks b → core b k ≡ core b' k
  pub periods : (k : ℕ) → k < tasks b → Shorter (period b' k) (period b k)
  pub jitters : (k : ℕ) → k < tasks b → jitter b k ≤ jitter b' k
  pub work : (k : ℕ) → k < tasks b → task_pd b k ≤ task_pd b' k
  pub demands : (j k : ℕ) → j < tasks b → k < tasks b → memory_demand b j k ≡ memory_demand b' j k

-- one board
pub heavier-same : (b : List ℕ) → Heavier b b
heavier-same b = record {
  header = λ i h. refl;
  put_off = le_refl _;
  cores = λ k h. refl;
  periods = λ k h. shorter-same (period b k);
  jitters = λ k h. le_refl _;
  work = λ k h. le_refl _;
  demands = λ j k h l. refl;
}

-- the times of the tasks on core y rise
abbrev RiseOn : List ℕ → List ℕ → List ℕ → ℕ → Type 0
RiseOn b R R' y = (k : ℕ) → k < tasks b → core b k ≡ y → get_or R k 0 ≤ get_or R' k 0

-- those of the tasks off the core of task i
abbrev OthersRise : List ℕ → List ℕ → List ℕ → ℕ → Type 0
OthersRise b R R' i = (k : ℕ) → k < tasks b → (core b k ≡ core b i → ⊥) → get_or R k 0 ≤ get_or R' k 0

module _ (b b' R R' : List ℕ) (heavier : Heavier b b') where
  same-cores : cores b ≡ cores b'
  same-cores = heavier.header 0 (omega arith)

  same-tasks : tasks b ≡ tasks b'
  same-tasks = heavier.header 1 (omega arith)

  same-slots : (y : ℕ) → slots b y ≡ slots b' y
  same-slots y = heavier.header 6 (omega arith)

  same-access : access_cycles b ≡ access_cycles b'
  same-access = heavier.header 7 (omega arith)

  -- a test that reads the core of task k
  on-core : (k : ℕ) {x y : ℕ} → k < tasks b → x ≡ y → eqb (core b k) x ≡ true → eqb (core b' k) y ≡ true
  on-core k h e on = sym (ap₂ eqb (heavier.cores k h) e) ∙ on

  -- ---- W, A and L, within t cycles

  module _ (t t' : ℕ) (longer : t ≤ t') where
    carry_in-rise : (j k : ℕ) → j < tasks b → k < tasks b → get_or R k 0 ≤ get_or R' k 0 → carry_in b R t j k ≤ carry_in b' R' t' j k
    unfolding carry_in
    carry_in-rise j k l h later =
        let same = heavier.demands j k l h in
        let u = window b R t j k in
        let v = window b' R' t' j k in
        let rise : u ≤ v = omega (arith, product-cong same same-access, heavier.jitters k h) in
        omega (
          arith,
          carry-rise (memory_demand b j k) (access_cycles b) (heavier.periods k h) u v rise,
          ap (λ (m : ℕ). m * (v / period b' k)) same,
          ap (ceil_div (v % period b' k)) same-access,
        )

    core_accesses-rise : (j y : ℕ) → j < tasks b → RiseOn b R R' y → core_accesses b R t j y ≤ core_accesses b' R' t' j y
    unfolding core_accesses
    core_accesses-rise j y h rise =
        sum_where-rise (λ k. eqb (core b k) y) (λ k. eqb (core b' k) y) _ _ _ _ (le_refl _)
        (λ k l e. let here : k < tasks b = omega arith in
        (on-core k here refl e, carry_in-rise j k h here (rise k here (eqb-true (core b k) y e))))

    lower_accesses-rise : (i y : ℕ) → RiseOn b R R' y → lower_accesses b R t i y ≤ lower_accesses b' R' t' i y
    unfolding lower_accesses
    lower_accesses-rise i y rise =
        sum_where-rise (λ k. ltb i k && eqb (core b k) y) (λ k. ltb i k && eqb (core b' k) y) _ _ _ _ (le_of_eq same-tasks)
        (λ k l e.
        let on = and_both (ltb i k) (eqb (core b k) y) e in (
          sym (ap (λ (x : ℕ). ltb i k && eqb x y) (heavier.cores k l)) ∙ e,
          subst (λ (n : ℕ). carry_in b R t (lowest b) k ≤ carry_in b' R' t' (n - 1) k) same-tasks
              (carry_in-rise (lowest b) k (omega arith) l (rise k l (eqb-true (core b k) y on.1))),
        ))

  -- ---- the sum of task i

  module _ (i : ℕ) (task : i < tasks b) (own : get_or R i 0 ≤ get_or R' i 0) where
    -- t and A(n, y), on either board
    abbrev t : ℕ
    t = get_or R i 0

    abbrev t' : ℕ
    t' = get_or R' i 0

    abbrev A : ℕ → ℕ
    A y = core_accesses b R t (lowest b) y

    abbrev A' : ℕ → ℕ
    A' y = core_accesses b' R' t' (lowest b') y

    same-core : core b i ≡ core b' i
    same-core = heavier.cores i task

    releases-rise : (k : ℕ) → k < tasks b → releases b i k t ≤ releases b' i k t'
    releases-rise k h = ceil_div-rise (heavier.periods k h) _ _ (omega (arith, own, added_jitter-rise b b' i k (heavier.jitters k h)))

    -- the releases of the tasks below n on its core, at a cost that rises
    own_costs-rise : (cost cost' : ℕ → ℕ) (n : ℕ) → n ≤ i + 1 → ((k : ℕ) → k < tasks b → cost k ≤ cost' k)
        → own_costs b R i cost n ≤ own_costs b' R' i cost' n
    own_costs-rise cost cost' n few more =
        sum_where-rise (λ k. eqb (core b k) (core b i)) (λ k. eqb (core b' k) (core b' i)) _ _ _ _ (le_refl n)
        (λ k h e. let l : k < tasks b = omega arith in
        (on-core k l same-core e, mul-le-mul (releases-rise k l) (more k l)))

    own_accesses-rise : own_accesses b R i ≤ own_accesses b' R' i
    unfolding own_accesses
    own_accesses-rise = own_costs-rise _ _ _ (omega arith) (λ k h. le_of_eq (heavier.demands i k task h))

    higher_work-rise : higher_work b R i ≤ higher_work b' R' i
    unfolding higher_work
    higher_work-rise = own_costs-rise _ _ _ (omega arith) heavier.work

    -- a core other than that of task i
    others-on : OthersRise b R R' i → (y : ℕ) → (y ≡ core b i → ⊥) → RiseOn b R R' y
    others-on others y off k h on = others k h (λ same. off (sym on ∙ same))

    everyone-rise : OthersRise b R R' i → (y : ℕ) → (y ≡ core b i → ⊥) → A y ≤ A' y
    everyone-rise others y off =
        subst (λ (n : ℕ). A y ≤ core_accesses b' R' t' (n - 1) y) same-tasks
        (core_accesses-rise t t' own (lowest b) y (omega arith) (others-on others y off))

    over_cores-rise : (test : ℕ → ℕ → Bool) → Leaves (core b i) (test (core b i)) → (f g : ℕ → ℕ) → ((y : ℕ) → (y ≡ core b i → ⊥) → f y ≤ g y)
        → over_cores b (test (core b i)) f ≤ over_cores b' (test (core b' i)) g
    over_cores-rise test off f g all =
        sum_where-rise (λ y. test (core b i) (y + 1)) (λ y. test (core b' i) (y + 1)) _ _ _ _ (le_of_eq same-cores)
        (λ y h e. (sym (ap (λ (x : ℕ). test x (y + 1)) same-core) ∙ e, all (y + 1) (off (y + 1) e)))

    interference-rise : (c : ℕ) → (c < 4 → OthersRise b R R' i) → interference b R i c ≤ interference b' R' i c
    unfolding interference
    interference-rise zero others =
        let rise = others-on (others (omega arith)) in
        omega (
          arith,
          own_accesses-rise,
          over_cores-rise is_other (other-leaves (core b i)) (λ y. core_accesses b R t i y) (λ y. core_accesses b' R' t' i y)
              (λ y off. core_accesses-rise t t' own i y task (rise y off)),
          over_cores-rise is_other (other-leaves (core b i)) (λ y. lower_accesses b R t i y) (λ y. lower_accesses b' R' t' i y)
              (λ y off. lower_accesses-rise t t' own i y (rise y off)),
        )
    interference-rise (suc zero) others =
        let every = everyone-rise (others (omega arith)) in
        omega (
          arith,
          own_accesses-rise,
          over_cores-rise is_before (before-leaves (core b i)) A A' every,
          over_cores-rise is_after (after-leaves (core b i)) A A' every,
        )
    interference-rise (suc (suc zero)) others =
        over_cores-rise is_other (other-leaves (core b i)) A A' (everyone-rise (others (omega arith)))
    interference-rise (suc (suc (suc zero))) others =
        over_cores-rise is_other (other-leaves (core b i)) (λ y. min (A y) (slots b y * own_accesses b R i))
        (λ y. min (A' y) (slots b' y * own_accesses b' R' i))
        (λ y off.
        omega (
          arith,
          everyone-rise (others (omega arith)) y off,
          mul-le-mul {n₁ = slots b y} {m₁ = own_accesses b R i} {n₂ = slots b' y} {m₂ = own_accesses b' R' i} (le_of_eq (same-slots y)) own_accesses-rise,
        ))
    interference-rise (suc (suc (suc (suc m)))) others =
        mul-le-mul (mul-le-mul (le_of_eq (ap (λ (n : ℕ). n - 1) same-cores)) (le_of_eq (same-slots 0))) own_accesses-rise

    module _ (others : bus b < 4 → OthersRise b R R' i) where
      -- on the board's own bus
      by_bus-rise : interference b R i (bus b) ≤ interference b' R' i (bus b')
      by_bus-rise =
          subst (λ (c : ℕ). interference b R i (bus b) ≤ interference b' R' i c) (heavier.header 5 (omega arith)) (interference-rise (bus b) others)

      bus_accesses-rise : bus_accesses b R i ≤ bus_accesses b' R' i
      unfolding bus_accesses
      bus_accesses-rise = omega (arith, own_accesses-rise, by_bus-rise)

      refreshes-rise : (c : ℕ) → refreshes b R i c ≤ refreshes b' R' i c
      unfolding refreshes
      refreshes-rise zero = zero-le
      refreshes-rise (suc zero) =
          rw (heavier.header 9 (omega arith), heavier.header 10 (omega arith))
          (mul-le-mul (ceil_div-mono (refresh_interval b') t t' own) (le_refl (refresh_rows b')))
      refreshes-rise (suc (suc m)) =
          rw (heavier.header 9 (omega arith), heavier.header 10 (omega arith))
          (omega (
            arith,
            bus_accesses-rise,
            heavier.put_off,
            ceil_div-mono (refresh_interval b') (t * refresh_rows b') (t' * refresh_rows b') (mul-le-mul own (le_refl (refresh_rows b'))),
          ))

      refresh_part-rise : refreshes b R i (refresh b) * refresh_cycles b ≤ refreshes b' R' i (refresh b') * refresh_cycles b'
      refresh_part-rise =
          mul-le-mul
          (subst (λ (c : ℕ). refreshes b R i (refresh b) ≤ refreshes b' R' i c) (heavier.header 8 (omega arith)) (refreshes-rise (refresh b)))
          (le_of_eq (heavier.header 11 (omega arith)))

      pub task_sum-rise : task_sum b R i ≤ task_sum b' R' i
      unfolding task_sum
      task_sum-rise =
          omega (
            arith,
            heavier.work i task,
            higher_work-rise,
            mul-le-mul {n₁ = bus_accesses b R i} {m₁ = access_cycles b} {n₂ = bus_accesses b' R' i} {m₂ = access_cycles b'} bus_accesses-rise (le_of_eq same-access),
            refresh_part-rise,
          )

-- on one board
pub task_sum-mono : (b R R' : List ℕ) (i : ℕ) → i < tasks b → get_or R i 0 ≤ get_or R' i 0 → (bus b < 4 → OthersRise b R R' i)
    → task_sum b R i ≤ task_sum b R' i
task_sum-mono b R R' = task_sum-rise b b R R' (heavier-same b)
