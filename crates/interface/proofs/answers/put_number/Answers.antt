-- The number is stored where it has an entry, and storing past the end changes nothing.
use mathlib.Core.Path.{refl, sym}
use lib.Seq.{set_out}
use Rattle.interface.proofs.answers.put_number.Goals as goal

pub returns-else-place-numbers : goal.returns-else-place-numbers
returns-else-place-numbers c = let s = c.args in
    record { numbers_value = sym (set_out s.numbers.now s.place s.value c.if-place-numbers.false); same_length = refl }
