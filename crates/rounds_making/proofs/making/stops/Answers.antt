-- Each test in turn, and the walk where no point changed.
use mathlib.Core.Path.{◌≡◌, refl, sym, ◌∙◌}
use mathlib.Core.Bool.{◌||◌}
use Rattle.plan.specs.LinkSet.{contains}
use Rattle.rounds_making.proofs.OneRound.{stops_code}
use Rattle.rounds_making.proofs.making.stops.Goals.{then-waits, else-waits, Joined-waits}
use Rattle.rounds_making.proofs.making.stops.Goals as goal

-- the first two tests
first_two : (c : Joined-waits) → c.if-waits.value ≡ c.args.waits || contains c.args.changed 0
first_two c = elim c.if-waits.branch [ then-waits w ↦ rw w.if-waits.true (w.value-is ∙ w.if-waits.true) | else-waits w ↦ rw w.if-waits.false (w.value-is ∙ w.contains.ensures) ]

pub returns-then-contains : goal.returns-then-contains
returns-then-contains c = stops_code _ _ _ _ _ (first_two (goal.at.returns-then-contains c).Joined-waits) (rw c.if-contains.true refl)

pub returns-then-is_empty : goal.returns-then-is_empty
returns-then-is_empty c = stops_code _ _ _ _ _ (first_two (goal.at.returns-then-is_empty c).Joined-waits) (rw (c.if-contains.false, sym c.is_empty.ensures ∙ c.if-is_empty.true) c.same_cells.ensures)

pub returns-else-is_empty : goal.returns-else-is_empty
returns-else-is_empty c = stops_code _ _ _ _ _ (first_two (goal.at.returns-else-is_empty c).Joined-waits) (rw (c.if-contains.false, sym c.is_empty.ensures ∙ c.if-is_empty.false) c.if-is_empty.false)
