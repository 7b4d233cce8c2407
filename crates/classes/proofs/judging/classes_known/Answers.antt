-- Every class of the list is tested.
use mathlib.Core.Path.{◌≡◌, refl, ap, ◌∙◌}
use mathlib.Core.Bool.{Bool, ◌&&◌}
use mathlib.Core.List.{List}
use Prim.Native.Nat.{ℕ, zero, suc, ◌≤◌}
use native.Mathlib.Numerals.{add-one}
use native.Mathlib.Nat.{le_refl}
use native.Mathlib.Omega.{arith}
use lib.Dec.{leb}
use lib.ListN.{length, get_or, take}
use lib.Seq.{take_all}
use borrow.Author.Rules.{rules}
use borrow.Author.Tests.{tests}
use Rattle.std.specs.List.{list_all}
use Rattle.std.proofs.lemmas.List.Folds.{list_all_more}
use Rattle.std.proofs.lemmas.Iterator.{YieldsList-from_slice}
use Rattle.std.proofs.lemmas.Iterator.Search.{all_from_yields_List}
use Rattle.plan.specs.Bytes.{byte_at}
use Rattle.plan.specs.Refusal.{every}
use Rattle.classes.specs.Classes.{class_known}
use Rattle.classes.proofs.judging.classes_known.Goals as goal

every_of_all : (test : ℕ → Bool) (xs : List ℕ) (n : ℕ) → n ≤ length xs → list_all test (take n xs) ≡ every (λ i. test (get_or xs i 0)) n
unfolding every
every_of_all test xs zero h = refl
every_of_all test xs (suc n) h = rw add-one at (list_all_more test xs n 0 (omega arith)) ∙ ap (λ b. b && test (get_or xs n 0)) (every_of_all test xs n (omega arith))

pub returns : goal.returns
unfolding class_known byte_at
returns c = let cs = c.args.classes.now in
    all_from_yields_List (λ x. leb x 6) _ _ _ c.all.ensures.ran (YieldsList-from_slice cs c.iter.ensures.rest) (λ x b q k. search (rules, tests))
    ∙ rw (take_all (length cs) cs (le_refl _)) at (every_of_all (λ x. leb x 6) cs (length cs) (le_refl _))
