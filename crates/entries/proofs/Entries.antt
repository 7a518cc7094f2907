-- Laws of entries, one at a time, as the code goes over them.
-- Assumes nothing.
use Prim.Native.Nat.{ℕ, zero, suc, ◌+◌, ◌-◌, ◌/◌, ◌%◌, ◌≤◌, ◌<◌}
use mathlib.Core.Bool.{Bool, cond, ◌||◌}
use mathlib.Core.List.{List}
use mathlib.Core.Path.{◌≡◌, refl, sym, ap, ap₂, ◌∙◌}
use native.Mathlib.Numerals.{add-one}
use native.Mathlib.Omega.{arith}
use borrow.Author.Tests.{eq-eqb, ne_eqb, le-leb, lt-leb}
use lib.ListN.{get_or, set}
use lib.Seq.{get_or-set_other}
use Rattle.std.proofs.Common.{None, Some}
use Rattle.entries.specs.Entries.{is_of, is_earlier, found, position_of, shifted}

-- ---- the position of a load that hits

pub position_of-none : (n : ℕ) → position_of n ≡ None → n ≡ 0
position_of-none zero e = refl
position_of-none (suc p) e = cc

pub position_of-some : (n p : ℕ) → position_of n ≡ Some p → n ≡ suc p
position_of-some zero p e = cc
position_of-some (suc q) p e = cc

module _ (base x : ℕ) where
  -- ---- from entry k on, up to the end

  pub found-end : (held : List ℕ) (k end : ℕ) → end ≤ k → found base x held k (end - k) ≡ 0
  unfolding found
  found-end held k end h = let z : end - k ≡ 0 = omega arith in ap (found base x held k) z

  pub shifted_end : (v : ℕ) (held : List ℕ) (k end : ℕ) → end ≤ k → shifted base x v held k (end - k) ≡ held
  unfolding shifted
  shifted_end v held k end h = let z : end - k ≡ 0 = omega arith in ap (shifted base x v held k) z

  -- what is stored before entry j does not matter
  found-past : (held : List ℕ) (i v j n : ℕ) → i < j → found base x (set held i v) j n ≡ found base x held j n
  unfolding found
  found-past held i v j zero h = refl
  found-past held i v j (suc n) h =
      ap₂ (λ (y z : ℕ). cond (is_of x y) (1 + y % 2048) (cond (is_earlier base y) 0 z)) (get_or-set_other held i j v 0 (λ e. omega arith))
      (found-past held i v (suc j) n (omega arith))

  module _ (v : ℕ) (held : List ℕ) (k end : ℕ) (less : k < end) where
    one_more : end - k ≡ suc (end - (k + 1))
    one_more = omega arith

    abbrev entry : ℕ
    entry = get_or held k 0

    abbrev found_by : Bool → Bool → ℕ
    found_by own old = cond own (1 + entry % 2048) (cond old 0 (found base x held (k + 1) (end - (k + 1))))

    abbrev shifted_by : Bool → Bool → List ℕ
    shifted_by own old = cond (own || old) (set held k v) (shifted base x entry (set held k v) (k + 1) (end - (k + 1)))

    found_here : found base x held k (end - k) ≡ found_by (is_of x entry) (is_earlier base entry)
    unfolding found
    found_here =
        ap (found base x held k) one_more
        ∙ ap (λ (j : ℕ). cond (is_of x entry) (1 + entry % 2048) (cond (is_earlier base entry) 0 (found base x held j (end - (k + 1))))) (sym (add-one k))

    shifted-here : shifted base x v held k (end - k) ≡ shifted_by (is_of x entry) (is_earlier base entry)
    unfolding shifted
    shifted-here =
        ap (shifted base x v held k) one_more
        ∙ ap (λ (j : ℕ). cond (is_of x entry || is_earlier base entry) (set held k v) (shifted base x entry (set held k v) j (end - (k + 1)))) (sym (add-one k))

    -- an entry of x
    pub found_at : entry / 2048 ≡ x → 1 + entry % 2048 ≡ found base x held k (end - k)
    found_at e = sym (found_here ∙ ap (λ (t : Bool). found_by t (is_earlier base entry)) (eq-eqb (entry / 2048) x e))

    pub shifted_at : entry / 2048 ≡ x → set held k v ≡ shifted base x v held k (end - k)
    shifted_at e = sym (shifted-here ∙ ap (λ (t : Bool). shifted_by t (is_earlier base entry)) (eq-eqb (entry / 2048) x e))

    -- any other
    module _ (n : entry / 2048 ≡ x → ⊥) where
      -- of an earlier trace
      pub found-old : entry / 2048 ≤ base → 0 ≡ found base x held k (end - k)
      found-old h = sym (found_here ∙ ap₂ found_by (ne_eqb (entry / 2048) x n) (le-leb (entry / 2048) base h))

      pub shifted-old : entry / 2048 ≤ base → set held k v ≡ shifted base x v held k (end - k)
      shifted-old h = sym (shifted-here ∙ ap₂ shifted_by (ne_eqb (entry / 2048) x n) (le-leb (entry / 2048) base h))

      -- of this one
      pub found-on : base < entry / 2048 → found base x (set held k v) (k + 1) (end - (k + 1)) ≡ found base x held k (end - k)
      found-on h =
          found-past held k v (k + 1) (end - (k + 1)) (omega arith)
          ∙ sym (found_here ∙ ap₂ found_by (ne_eqb (entry / 2048) x n) (lt-leb (entry / 2048) base h))

      pub shifted-on : base < entry / 2048 → shifted base x entry (set held k v) (k + 1) (end - (k + 1)) ≡ shifted base x v held k (end - k)
      shifted-on h = sym (shifted-here ∙ ap₂ shifted_by (ne_eqb (entry / 2048) x n) (lt-leb (entry / 2048) base h))
