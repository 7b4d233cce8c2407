-- The loop's invariant: the least wait so far.
use Rattle.std.proofs.Common.{◌≡◌, min, fold, take}
use Rattle.rules_halving.proofs.halves.least.Given as goal

abbrev pub invariant-loop-wait : goal.invariant-loop-wait
invariant-loop-wait l = l.least ≡ fold min 4294967295 (take l.wait-index l.cells)
