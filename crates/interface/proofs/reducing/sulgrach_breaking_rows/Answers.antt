-- What the call answers, as a code and a number.
use mathlib.Core.Path.{◌∙◌}
use Rattle.interface.proofs.CodeLaws.{code_of_rows, numbers_of_rows}
use Rattle.interface.proofs.reducing.sulgrach_breaking_rows.Goals as goal

pub returns : goal.returns
returns c = let r = c.breaking_rows-reduced.result in
    record { outcome = _; rows = c.breaking_rows-reduced.ensures; code_is = c.result_code.ensures ∙ code_of_rows r; numbers_are = c.put_result.ensures.numbers_value ∙ numbers_of_rows r _ }
