-- The largest of a plan's rows is a fold. Assumes nothing.
use mathlib.Core.Path.{◌≡◌, refl, ap, ◌∙◌}
use Prim.Native.Nat.{ℕ, zero, suc, max}
use Rattle.std.specs.List.{fold, range_with_len}
use Rattle.plan.specs.Layout.{greatest}
use Rattle.plan.proofs.Chains.{fold_more}

pub greatest_lem : (f : ℕ → ℕ) (n : ℕ) → fold (λ m i. max m (f i)) 0 (range_with_len 0 n) ≡ greatest f n
unfolding greatest
greatest_lem f zero = refl
greatest_lem f (suc n) = fold_more (λ m i. max m (f i)) 0 n ∙ ap (λ m. max m (f n)) (greatest_lem f n)
