-- `Cache::place_of` meets its contract: the product with the reciprocal gives the quotient, and so the remainder.
use Rattle.std.proofs.Common.{ℕ, ◌≡◌, ◌%◌, arith, ap, ◌∙◌}
use Rattle.trace.specs.declared.cache.Cache.{Cache}
use Rattle.trace.proofs.Caches.{place_in-low, divides}
use Rattle.trace.proofs.Reciprocal.{quotient_fits, remainder_is}
use Rattle.trace.proofs.cache.Cache.place_of.Goals as goal

pub overflow_sub-result : goal.overflow_sub-result
overflow_sub-result c = omega (arith, quotient_fits _ _ (divides c.args.self) c.from.result (omega arith))

pub returns : goal.returns
returns c =
    let cache : Cache = c.args.self in
    let w : c.from.result ≡ c.args.block = c.from.ensures in
    let remainder = remainder_is _ _ (divides cache) c.from.result (omega arith) ∙ ap (λ (x : ℕ). x % cache.sets) w in
    (omega (arith, remainder, w), omega (arith, remainder, w, place_in-low cache c.args.block))
