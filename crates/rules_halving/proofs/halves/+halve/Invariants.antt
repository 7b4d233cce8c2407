-- The measure is the length of a run.
use Rattle.rules_halving.proofs.halves.+halve.Given as goal

abbrev pub decreases-halve : goal.decreases-halve
decreases-halve l = l.n
