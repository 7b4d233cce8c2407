-- Laws of the columns between the point and the wait.
use mathlib.Core.Path.{◌≡◌, refl}
use mathlib.Core.Bool.{true}
use Prim.Native.Nat.{ℕ, ◌+◌, ◌<◌}
use lib.Count.{ones_in, ones}
use lib.Dec.{T as Is, eqb, eqb→eq}
use Rattle.plan.specs.Counting.{count}
use Rattle.plan.specs.LinkSet.{contains}
use Rattle.plan.specs.Refusal.{every}
use Rattle.plan.proofs.Ranges.{every_at}
use Rattle.page.specs.Columns.{link_column, links_in}

-- ---- the number of links, by one test of all 16 sets
tested : Is (every (λ s. eqb (ones s) (links_in s)) 16)
unfolding every ones ones_in links_in count contains
tested = tt

pub ones_links : (s : ℕ) → s < 16 → ones s ≡ links_in s
ones_links s h = eqb→eq (ones s) (links_in s) (every_at (λ s. eqb (ones s) (links_in s)) 16 s tested h)

-- ---- a link's column
pub link_in_lem : (s i : ℕ) → contains s i ≡ true → 48 + i ≡ link_column s i
unfolding link_column
link_in_lem s i e = rw e refl
