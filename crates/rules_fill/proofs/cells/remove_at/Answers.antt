-- The place joined is raised as the step says.
use mathlib.Core.Path.{ap, ◌∙◌}
use Prim.Native.Nat.{ℕ, ◌+◌, ◌≤◌}
use native.Mathlib.Omega.{arith}
use lib.ListN.{get_or}
use Rattle.rules_fill.proofs.ShapeLaws.{removed_le, remove_step_lem}
use Rattle.rules_fill.proofs.cells.remove_at.Goals as goal

pub raise-requires : goal.raise-requires
raise-requires c = let v : c.removed-w.result ≤ c.args.wait = rw c.removed-w.ensures (removed_le _ _ _ _ _) in
    (omega (arith, c.joined.ensures), omega (arith, v))

pub returns : goal.returns
returns c = let s = c.args in
    record { by_index = λ m e. remove_step_lem m s.first.now s.by.other s.by.mask s.by.add s.place s.wait s.c _ _ _ _ (c.cell_at.ensures.0 ∙ ap (λ (x : ℕ). get_or s.first.now (x + s.c) 0) e) c.removed-w.ensures (rw c.joined.ensures at c.raise.ensures.part_value); same_length = c.raise.ensures.same_length }
