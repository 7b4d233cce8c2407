-- What the check by classes answers, as a code and a count.
use Rattle.interface.proofs.calls.sulgrach_check_classes.Goals as goal

pub returns : goal.returns
returns c = record { outcome = _; check = c.check_classes-answered.ensures; code_is = c.code.ensures; rounds_are = c.put_count.ensures.numbers_value }
