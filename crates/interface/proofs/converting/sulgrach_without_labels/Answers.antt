-- What the call answers, as a code and a number.
use mathlib.Core.Path.{◌∙◌}
use Rattle.interface.proofs.CodeLaws.{code_of_conversion, numbers_of_conversion}
use Rattle.interface.proofs.converting.sulgrach_without_labels.Goals as goal

pub returns : goal.returns
returns c = let r = c.without_labels-converted.result in
    record { outcome = _; conversion = c.without_labels-converted.ensures; code_is = c.result_code.ensures ∙ code_of_conversion r; numbers_are = c.put_result.ensures.numbers_value ∙ numbers_of_conversion r _ }
