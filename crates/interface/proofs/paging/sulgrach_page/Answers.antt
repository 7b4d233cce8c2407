-- What the call answers, as a code and a number.
use mathlib.Core.Path.{◌∙◌}
use Rattle.interface.proofs.CodeLaws.{code_of_page, numbers_of_page}
use Rattle.interface.proofs.paging.sulgrach_page.Goals as goal

pub returns : goal.returns
returns c = let r = c.page-paged.result in
    record { outcome = _; page = c.page-paged.ensures; code_is = c.result_code.ensures ∙ code_of_page r; numbers_are = c.put_result.ensures.numbers_value ∙ numbers_of_page r _ }
