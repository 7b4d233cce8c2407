-- What the listing answers, as a code, a count and a length.
use mathlib.Core.Path.{ap, ◌∙◌}
use Rattle.interface.specs.Codes.{code_of}
use Rattle.interface.proofs.ListLaws.{numbers_told}
use Rattle.interface.proofs.list.sulgrach_list.Goals as goal

pub returns : goal.returns
returns c = let s = c.args in
    record { outcome = _; bytes = _; list = c.list-listed.ensures; code_is = c.code.ensures ∙ ap code_of c.answer-answered.ensures; numbers_are = numbers_told s.numbers.now _ c.answer-answered.ensures c.put_count.ensures.numbers_value c.put_length.ensures.numbers_value }
