-- The loop's invariant: the greatest wait so far.
use Rattle.std.proofs.Common.{◌≡◌, max, fold, take}
use Rattle.rules_halving.proofs.halves.greatest.Given as goal

abbrev pub invariant-loop-wait : goal.invariant-loop-wait
invariant-loop-wait l = l.most ≡ fold max 0 (take l.wait-index l.cells)
