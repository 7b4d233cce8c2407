-- The first line alone where the check refuses; else the points' lines behind it.
use mathlib.Core.Path.{◌≡◌, refl}
use mathlib.Core.Bool.{false}
use Rattle.plan.specs.Layout.{plan_of}
use Rattle.plan.specs.Numbers.{number_of}
use Rattle.plan.proofs.Ranges.{sizes_few}
use Rattle.rounds_making.specs.declared.Answer.{Answer}
use Rattle.rounds_making.specs.declared.Answer.TheVariants.{Kept, Broken, Spent}
use Rattle.rounds_making.specs.Outcomes.{outcome_of, refused}
use Rattle.text.proofs.Puts.{room_first}
use Rattle.report.specs.Text.{is_refused, text_of}
use Rattle.report.proofs.PrintedLaws.{text_refused, lines_asked, lines_put}
use Rattle.report.proofs.reporting.put_text.Goals as goal

not_refused : (a : Answer) → is_refused (outcome_of a) ≡ false
not_refused (Kept r) = refl
not_refused (Broken r) = refl
not_refused (Spent r) = refl

pub put_answer-requires : goal.put_answer-requires
unfolding text_of
put_answer-requires c = room_first _ _ (rw c.in-Ok.is at c.requires).room

pub width-requires : goal.width-requires
width-requires c = sizes_few c.args.input.now ((rw c.in-Ok.is at c.requires).accepted (not_refused c.in-Ok.answer)).0

pub put_points-requires : goal.put_points-requires
put_points-requires c = lines_asked c.args.input.now (outcome_of c.in-Ok.answer) c.args.table.now (not_refused c.in-Ok.answer) c.width.result c.points.result c.width.ensures.0 c.points.ensures.0 (rw c.in-Ok.is at c.requires) c.put_answer.ensures

pub returns-in-Ok : goal.returns-in-Ok
returns-in-Ok c = rw c.in-Ok.is (lines_put c.args.input.now (outcome_of c.in-Ok.answer) c.args.table.now (not_refused c.in-Ok.answer) c.width.result c.points.result c.width.ensures.0 c.points.ensures.0 c.put_answer.ensures c.put_points.ensures)

pub put_refusal-requires : goal.put_refusal-requires
unfolding text_of
put_refusal-requires c = room_first _ _ (rw c.in-Err.is at c.requires).room

pub returns-in-Err : goal.returns-in-Err
returns-in-Err c = rw (c.in-Err.is, text_refused (refused (number_of c.in-Err.refusal)) (plan_of c.args.input.now) c.args.table.now refl) c.put_refusal.ensures
