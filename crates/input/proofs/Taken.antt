-- What one more read adds to the bytes that a reader has given.
-- Assumes nothing.
use Rattle.std.proofs.Common.{◌≡◌, ℕ, ◌+◌, ◌-◌, ◌≤◌, List, ◌++◌, arith, length, take, slice_range, sym, ap, ◌∙◌, subst, le_refl, drop_at, length-take-le}
use Rattle.std.proofs.lemmas.Slice.{take-put_mid_below}
use Rattle.std.specs.Io.KnownBytes.{Consumes}
use Rattle.std.proofs.KnownBytes.{Consumes-trans}
use borrow.Rule.Slice.PartMut.{put_mid, post_of}
use lib.Seq.{take-add, take-append-le}
use Rattle.std.specs.declared.option.Option.{Option}

-- the first `at` bytes stay, and n bytes of what was read come after them
take_more : (at room n : ℕ) (bytes part : List ℕ) → at ≤ length bytes → n ≤ length part
    → take at bytes ++ take n part ≡ take (at + n) (put_mid at room bytes part)
take_more at room n bytes part within fits =
    let all = put_mid at room bytes part in
    let after = post_of at room bytes in
    let rest : slice_range all at (at + n) ≡ take n part =
    let same : (at + n) - at ≡ n = omega arith in
    ap (take ((at + n) - at)) (drop_at (take at bytes) (part ++ after) at (length-take-le at bytes within)) ∙ ap (λ m. take m (part ++ after)) same ∙ take-append-le n part after fits in
    let front : take at all ≡ take at bytes = take-put_mid_below _ _ _ _ _ (le_refl _) within in
    let same : at + ((at + n) - at) ≡ at + n = omega arith in
    ap (λ l. l ++ take n part) (sym front) ∙ ap (λ l. take at all ++ l) (sym rest) ∙ sym (take-add at ((at + n) - at) all) ∙ ap (λ k. take k all) same

pub consumes-more : (a b c : Option (List ℕ)) (at room n : ℕ) (bytes part : List ℕ) → at ≤ length bytes → n ≤ length part
    → Consumes a b (take at bytes) → Consumes b c (take n part) → Consumes a c (take (at + n) (put_mid at room bytes part))
consumes-more a b c at room n bytes part within fits first second =
    subst (Consumes a c) (take_more at room n bytes part within fits) (Consumes-trans a b c _ _ first second)
