-- The places that an access touches, as words to which it adds them.
-- Assumes nothing.
use Prim.Native.Nat.{ℕ}
use mathlib.Core.Bool.{Bool, false, ◌||◌, or_comm, or-false}
use mathlib.Core.List.{List}
use mathlib.Core.Path.{◌≡◌, sym, ap, ◌∙◌}
use mir.Syntax.{w64}
use mir.Val.{Fits}
use borrow.Author.Tests.{ne_eqb}
use lib.Dec.{eqb}
use lib.ListN.{length, get_or}
use Rattle.folds.proofs.Numbers.{eqb-iff}
use Rattle.bitset.specs.Bits.{member, words_of}
use Rattle.bitset.proofs.Sets.{words_of-cong, words-ext}
use Rattle.board.specs.Layout.{kind_of, block_of}
use Rattle.trace.specs.Caches.{place_in}
use Rattle.trace.specs.declared.cache.Cache.{Cache}
use Rattle.marks.specs.Accesses.{data_touches}

-- ---- one place more

pub touch-words : (sets : List ℕ) (s : ℕ) → words_of 8 (λ t. eqb t s || member sets t) ≡ words_of 8 (λ t. member sets t || eqb s t)
touch-words sets s =
    words_of-cong 8 _ _ (λ t h. or_comm (eqb t s) (member sets t) ∙ ap (λ (u : Bool). member sets t || u) (eqb-iff t s s t sym sym))

-- words to which nothing is added
pub join-none : (ws : List ℕ) (f : ℕ → Bool) → length ws ≡ 8 → ((k : ℕ) → Fits w64 (get_or ws k 0)) → ((s : ℕ) → f s ≡ false) → ws ≡ words_of 8 (λ s. member ws s || f s)
join-none ws f eight fit none =
    words-ext 8 ws (λ s. member ws s || f s) eight fit (λ s h. sym (ap (λ (t : Bool). member ws s || t) (none s) ∙ or-false (member ws s)))

-- the block of a work word that reads or writes
pub touch-data : (sets : List ℕ) (cache : Cache) (w : ℕ) {k : ℕ} → k ≡ place_in cache (block_of w) → (kind_of w ≡ 0 → ⊥)
    → words_of 8 (λ s. member sets s || eqb k s) ≡ words_of 8 (λ s. member sets s || data_touches cache w s)
touch-data sets cache w e n = words_of-cong 8 _ _ (λ s h. rw (e, ne_eqb (kind_of w) 0 n))
