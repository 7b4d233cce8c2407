-- At each return the tests before it passed.
use native.Mathlib.Omega.{arith}
use Rattle.classes.specs.Classes.{class_refusal}
use Rattle.classes.proofs.judging.class_refusal.Goals as goal

pub returns-in_err-refusal : goal.returns-in_err-refusal
unfolding class_refusal
returns-in_err-refusal c = grind arith

pub returns-then-not-classes_fit : goal.returns-then-not-classes_fit
unfolding class_refusal
returns-then-not-classes_fit c = grind arith

pub returns-then-not-links_wide_enough : goal.returns-then-not-links_wide_enough
unfolding class_refusal
returns-then-not-links_wide_enough c = grind arith

pub returns : goal.returns
unfolding class_refusal
returns c = grind arith
