-- The elements passed are those of the source.
use Rattle.std.proofs.Common.{◌≡◌, take}
use Rattle.plan.proofs.copying.copy_elements.Given as goal

abbrev pub invariant-loop-i : goal.invariant-loop-i
invariant-loop-i g l = take l.i l.target ≡ take l.i l.source
