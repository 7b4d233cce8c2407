-- For the code: the steps of rules 4 and 6 over listed places, as its branches have them.
use mathlib.Core.Path.{◌≡◌, ap, ap₂, ◌∙◌}
use mathlib.Core.Bool.{true, false, not}
use mathlib.Core.List.{List}
use Prim.Native.Nat.{ℕ, ◌+◌, ◌*◌}
use lib.Bits.{bit_or}
use lib.ListN.{get_or}
use Rattle.rules.specs.Tables.{raise_cell}
use Rattle.rules_fill.specs.declared.shapes.Remover.{Remover}
use Rattle.rules_fill.specs.Shapes.{touches, cleared, removed, remove_step}
use Rattle.rules_fill.proofs.StepLaws.{when_true, when_false}
use Rattle.rules_listed.specs.Places.{listed}
use Rattle.rules_listed.specs.Listed.{remove_with, remove_own_step, remove_other_with}

-- ---- from a line of point x, which waits k, and one of the other point, which waits v
pub own_goes : (w : ℕ) (F : List ℕ) (by : Remover) (x u v t k place r : ℕ) (C D : List ℕ) → touches by.mask t ≡ true → k ≡ get_or F (x * w + t) 0 → place ≡ cleared t by.mask → r ≡ removed by.mask by.add k u v
    → D ≡ raise_cell (bit_or place u) r C → D ≡ remove_own_step w F by x u v t C
unfolding remove_own_step
own_goes w F by x u v t k place r C D e at p q g =
    g ∙ ap₂ (λ (c d : ℕ). raise_cell (bit_or c u) d C) p (q ∙ ap (λ (d : ℕ). removed by.mask by.add d u v) at) ∙ when_true (touches by.mask t) _ C e

pub own_pass : (w : ℕ) (F : List ℕ) (by : Remover) (x u v t : ℕ) (C : List ℕ) → touches by.mask t ≡ false → C ≡ remove_own_step w F by x u v t C
unfolding remove_own_step
own_pass w F by x u v t C e = when_false (touches by.mask t) _ C e

-- ---- from a line of point x, which waits k, and all lines of the other point
pub with_goes : (w : ℕ) (F L : List ℕ) (by : Remover) (n x t k place : ℕ) (C D : List ℕ) → touches by.mask t ≡ true → k ≡ get_or F (x * w + t) 0 → place ≡ cleared t by.mask
    → D ≡ listed (remove_step w F by.other by.mask by.add place k) L ((2 * by.other + 1) * w) n C → D ≡ remove_with w F L by n x t C
unfolding remove_with
with_goes w F L by n x t k place C D e at p g =
    g ∙ ap₂ (λ (c d : ℕ). listed (remove_step w F by.other by.mask by.add c d) L ((2 * by.other + 1) * w) n C) p at ∙ when_true (touches by.mask t) _ C e

pub with_pass : (w : ℕ) (F L : List ℕ) (by : Remover) (n x t : ℕ) (C : List ℕ) → touches by.mask t ≡ false → C ≡ remove_with w F L by n x t C
unfolding remove_with
with_pass w F L by n x t C e = when_false (touches by.mask t) _ C e

-- ---- from a line of the other point, which waits k, and all lines of point x
pub other_goes : (w : ℕ) (F L : List ℕ) (by : Remover) (n x u k : ℕ) (C D : List ℕ) → touches by.mask u ≡ false → k ≡ get_or F (by.other * w + u) 0
    → D ≡ listed (remove_own_step w F by x u k) L ((2 * x + 1) * w) n C → D ≡ remove_other_with w F L by n x u C
unfolding remove_other_with
other_goes w F L by n x u k C D e at g =
    g ∙ ap (λ (d : ℕ). listed (remove_own_step w F by x u d) L ((2 * x + 1) * w) n C) at ∙ when_true (not (touches by.mask u)) _ C (ap not e)

pub other_pass : (w : ℕ) (F L : List ℕ) (by : Remover) (n x u : ℕ) (C : List ℕ) → touches by.mask u ≡ true → C ≡ remove_other_with w F L by n x u C
unfolding remove_other_with
other_pass w F L by n x u C e = when_false (not (touches by.mask u)) _ C (ap not e)
