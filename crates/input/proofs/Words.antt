-- Laws of the input: its words from its bytes by fours, and row 15.
-- Assumes nothing.
use Prim.Native.Nat.{ℕ, zero, suc, ◌+◌, ◌*◌, ◌/◌, ◌%◌, ◌≤◌, ◌<◌}
use mathlib.Core.Bool.{Bool, cond, ◌&&◌}
use mathlib.Core.List.{List, [], ◌∷◌}
use mathlib.Core.Path.{◌≡◌, ap, ◌∙◌}
use native.Mathlib.Nat.{add_assoc}
use native.Mathlib.Numerals.{add-one}
use native.Mathlib.Omega.{arith}
use lib.Dec.{leb, eqb}
use lib.ListN.{length, get_or, take, drop, set}
use lib.Seq.{take-suc-set}
use mir.Syntax.{w32}
use borrow.Author.Tests.{leb-true}
use Rattle.std.specs.Prelude.{Ok}
use Rattle.std.specs.Int.{from_le_bytes}
use Rattle.std.specs.Simd.{first_chunks}
use Rattle.std.proofs.lemmas.List.{get_or-drop, length-drop}
use Rattle.folds.specs.Folds.{tabulate}
use Rattle.folds.proofs.Numbers.{and_both}
use Rattle.refusals.specs.Refusals.{refused, refuse_unless}
use Rattle.refusals.specs.declared.Row.TheVariants.{InputBytes}
use Rattle.refusals.proofs.Verdicts.{refuse_unless-passed}
use Rattle.input.specs.Input.{word_at_byte, bytes_read, input_refusal}

-- the word that four bytes make
first_word : (bytes : List ℕ) → 4 ≤ length bytes → from_le_bytes w32 (take 4 bytes) ≡ word_at_byte bytes 0
first_word [] h = absurd (omega arith)
first_word (a ∷ []) h = absurd (omega arith)
first_word (a ∷ b ∷ []) h = absurd (omega arith)
first_word (a ∷ b ∷ c ∷ []) h = absurd (omega arith)
first_word (a ∷ b ∷ c ∷ d ∷ rest) h = omega arith

-- chunk k of the bytes makes word k
chunk_word : (n k : ℕ) (bytes none : List ℕ) → k < n → 4 * n ≤ length bytes
    → from_le_bytes w32 (get_or (first_chunks 4 n bytes) k none) ≡ word_at_byte bytes (4 * k)
chunk_word zero k bytes none l h = absurd (omega arith)
chunk_word (suc n) zero bytes none l h = first_word bytes (omega arith)
chunk_word (suc n) (suc k) bytes none l h =
    let next : word_at_byte (drop 4 bytes) (4 * k) ≡ word_at_byte bytes (4 + 4 * k) =
    simp (get_or-drop, add_assoc) in
    let more : 4 + 4 * k ≡ 4 * suc k = omega arith in
    chunk_word n k (drop 4 bytes) none (omega arith) (omega (arith, length-drop 4 bytes)) ∙ next ∙ ap (word_at_byte bytes) more

-- one word more, from a chunk
pub words-next : (bytes words : List ℕ) (chunks : List (List ℕ)) (k : ℕ) {x : ℕ} → chunks ≡ first_chunks 4 (length bytes / 4) bytes
    → k < length bytes / 4 → k < length words → take k words ≡ tabulate (λ j. word_at_byte bytes (4 * j)) k → x ≡ from_le_bytes w32 (get_or chunks k [])
    → take (k + 1) (set words k x) ≡ tabulate (λ j. word_at_byte bytes (4 * j)) (k + 1)
unfolding tabulate
words-next bytes words chunks k {x} e l room h v =
    rw (add-one, take-suc-set words k x room, h, v, e, chunk_word (length bytes / 4) k bytes [] l (omega arith))

-- the test of row 15, on the number of bytes read
abbrev pub whole : ℕ → Bool
whole count = leb count 65536 && eqb (count % 4) 0

pub input_refusal-is : (bytes : List ℕ) (count : ℕ) (test : Bool) → count ≡ bytes_read bytes → whole count ≡ test
    → cond test (Ok tt) (refused InputBytes count) ≡ input_refusal bytes
unfolding input_refusal refuse_unless
input_refusal-is bytes count test e h = rw (← h, e)

-- an input that passes row 15 is no longer than the largest board
pub input_refusal-passed : (bytes : List ℕ) → input_refusal bytes ≡ Ok tt → length bytes ≤ 65536
unfolding input_refusal
input_refusal-passed bytes e =
    let both = and_both (leb (bytes_read bytes) 65536) (eqb (bytes_read bytes % 4) 0) (refuse_unless-passed InputBytes _ (bytes_read bytes) e) in
    omega (arith, leb-true (bytes_read bytes) 65536 both.0)

-- an input that is too long is refused at the byte where the program stops
pub input_refusal-long : (bytes : List ℕ) → 65537 ≤ length bytes → input_refusal bytes ≡ refused InputBytes 65537
unfolding input_refusal refuse_unless
input_refusal-long bytes h =
    let stop : bytes_read bytes ≡ 65537 = omega arith in
    rw stop
