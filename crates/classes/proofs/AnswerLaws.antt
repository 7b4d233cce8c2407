-- What the check by classes answers: a refusal leaves the tables as they were, and a plan that passes has the check's answer.
use mathlib.Core.Path.{◌≡◌, refl, ◌∙◌}
use mathlib.Core.Bool.{true, false, not}
use mathlib.Core.List.{List}
use Prim.Native.Nat.{ℕ, ◌≤◌}
use native.Mathlib.Omega.{arith}
use lib.Dec.{eqb}
use borrow.Author.Tests.{eq-eqb, ne_eqb}
use Rattle.plan.specs.Moments.{Moments}
use Rattle.plan.specs.Layout.{plan_of}
use Rattle.plan.specs.Refusal.{every, refusal}
use Rattle.rounds_making.specs.Outcomes.{Outcome, refused}
use Rattle.rounds.specs.AfterCheck.{AfterCheck}
use Rattle.rounds.proofs.Meanings.{refused_means}
use Rattle.plan.proofs.RefusalNumbers.{at_most, refusal_few}
use Rattle.classes.specs.Classes.{Devices, classes_fit, wide_enough, class_refusal, class_check_outcome, class_check_table}
use Rattle.classes.specs.AfterCheckClasses.{AfterCheckClasses}

module _ (D : Devices) (bs cs : List ℕ) where
  pub by_refusal : (F G : List ℕ) (limit k : ℕ) → k ≡ class_refusal D bs cs → (k ≡ 0 → ⊥) → AfterCheckClasses D bs cs limit (record { entry = F; exit = F }) (record { entry = G; exit = G }) (refused k)
  unfolding class_check_outcome class_check_table
  by_refusal F G limit k e n =
      let turned_down : eqb (class_refusal D bs cs) 0 ≡ false = ne_eqb (class_refusal D bs cs) 0 (λ z. n (e ∙ z)) in
      record {
        outcome_is = rw (turned_down, e) refl;
        first_is = rw turned_down refl;
        second_is = rw turned_down refl;
        means = refused_means (plan_of bs) limit k F G;
        serves = λ h s. s;
        as_checked = λ z. absurd (n (e ∙ z));
      }

  pub by_check : (limit : ℕ) (first second : Moments) (o : Outcome) → class_refusal D bs cs ≡ 0 → AfterCheck bs limit first second o → AfterCheckClasses D bs cs limit first second o
  unfolding class_check_outcome class_check_table
  by_check limit first second o z a =
      let passed : eqb (class_refusal D bs cs) 0 ≡ true = eq-eqb (class_refusal D bs cs) 0 z in
      record {
        outcome_is = rw passed a.outcome_is;
        first_is = rw passed a.first_is;
        second_is = rw passed a.second_is;
        means = a.means;
        serves = a.serves;
        as_checked = λ _. a;
      }

  -- ---- the number of a refusal
  pub class_refusal_few : class_refusal D bs cs ≤ 18
  unfolding class_refusal
  class_refusal_few =
      at_most 18 (not (eqb (refusal bs) 0)) (refusal bs) _ (omega (arith, refusal_few bs))
      (at_most 18 (not (classes_fit D (plan_of bs) cs)) 14 _ (omega arith)
      (at_most 18 (not (every (wide_enough D (plan_of bs) cs) (plan_of bs).links)) 15 0 (omega arith) (omega arith)))
