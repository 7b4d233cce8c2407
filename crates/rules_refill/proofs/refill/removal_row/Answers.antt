-- The row of a link, or of a proposition, of which there are at most four.
use mathlib.Core.Path.{◌≡◌, subst}
use Prim.Native.Nat.{ℕ, ◌-◌, ◌≤◌}
use native.Mathlib.Omega.{arith}
use Rattle.plan.specs.Plan.{Plan}
use Rattle.rules_fill.specs.declared.shapes.Remover.{Remover}
use Rattle.rules_fill.specs.Rows.{LiteralRow}
use Rattle.rules_refill.specs.Removals.{RemovalRow}
use Rattle.rules_refill.proofs.refill.removal_row.Goals as goal

literal_removal : (P : Plan) (r k : ℕ) (by : Remover) → k ≡ P.links → k ≤ r → LiteralRow P (r - k) by → RemovalRow P r by
literal_removal P r k by e h row = record { letter = λ l. absurd (omega arith); literal = λ l. subst (λ (n : ℕ). LiteralRow P (r - n) by) e row }

pub letter_row-requires : goal.letter_row-requires
letter_row-requires c = rw c.requires.rows_are (omega (arith, c.links-k.ensures.0))

pub literal_row-requires : goal.literal_row-requires
literal_row-requires c = rw c.requires.rows_are (omega (arith, c.links-k.ensures.0, c.requires.r_bound))

pub returns : goal.returns
returns c = literal_removal _ _ _ _ c.links-k.ensures.0 c.if-r-k.false (rw c.requires.rows_are at c.literal_row.ensures)
