-- `bitset::union` meets its contract.
use Rattle.std.proofs.Common.{ℕ, ◌≡◌, ◌<◌, List, length, get_or, bit_or, sym, ap, ◌∙◌, arith, rules}
use lib.Seq.{ext_get_or}
use Rattle.folds.specs.Folds.{fill_to, tabulate}
use Rattle.folds.proofs.Lists.{fill_to-none, fill_to-from, fill_to-below, length-fill_to, length-tabulate, get_d_tabulate}
use Rattle.folds.proofs.Loops.{fill_to-turn}
use Rattle.bitset.proofs.Sets.{union-words}
use Rattle.bitset.proofs.union.Goals as goal

-- filled as far as it goes, a list is what it was filled with
full : (f : ℕ → ℕ) (n : ℕ) (xs : List ℕ) → length xs ≡ n → fill_to f n xs ≡ tabulate f n
full f n xs size =
    ext_get_or 0 (fill_to f n xs) (tabulate f n) (length-fill_to f xs n ∙ size ∙ sym (length-tabulate f 0 n))
    (λ k h. let low : k < n = omega (arith, length-fill_to f xs n, size) in fill_to-below f xs 0 n k low (omega (arith, size)) ∙ sym (get_d_tabulate f 0 n k low))

pub loop-i-init : goal.loop-i-init
loop-i-init c = sym (fill_to-none _ c.args.a)

pub loop-i-preserved : goal.loop-i-preserved
loop-i-preserved c =
    let word = λ (k : ℕ). bit_or (get_or c.args.a k 0) (get_or c.args.b k 0) in
    let i = c.loop-i.i in
    fill_to-turn word c.args.a i c.loop-i.invariant
    (ap (λ (x : ℕ). bit_or x (get_or c.args.b i 0)) (ap (λ (l : List ℕ). get_or l i 0) c.loop-i.invariant ∙ fill_to-from word c.args.a 0 i i (omega arith)))

pub returns : goal.returns
returns c =
    let word = λ (k : ℕ). bit_or (get_or c.args.a k 0) (get_or c.args.b k 0) in
    let end : c.loop-i.i ≡ 8 = omega arith in
    let size : length c.args.a ≡ 8 = search rules in
    c.loop-i.invariant ∙ ap (λ (n : ℕ). fill_to word n c.args.a) end ∙ full word 8 c.args.a size
    ∙ union-words 8 c.args.a c.args.b (λ k. search rules) (λ k. search rules)
