-- The tests in their order: class 0, the least, the most.
use mathlib.Core.Path.{◌≡◌, refl, ap, ap₂, ◌∙◌}
use mathlib.Core.List.{List, [], ◌∷◌}
use Prim.Native.Nat.{ℕ, zero, suc, ◌+◌, ◌-◌, ◌*◌}
use native.Mathlib.Omega.{arith}
use lib.ListN.{get_or}
use borrow.Author.Rules.{rules}
use borrow.Author.Tests.{lt-leb}
use Rattle.std.specs.List.{slice_get}
use Rattle.std.specs.Prelude.{Option, Some, None, unwrap_or}
use Rattle.std.specs.Option.{UnwrapsOrElse}
use Rattle.std.proofs.lemmas.Option.{unwrap_or-slice_get}
use Rattle.plan.specs.Layout.{plan_of}
use Rattle.classes.specs.Classes.{house_seconds, house, wide_enough}
use Rattle.classes.proofs.JudgingLaws.{by_least, by_most}
use Rattle.classes.proofs.judging.wide_enough.Goals as goal
use Rattle.classes.proofs.judging.wide_enough.Goals.{After-unwrap_or_default-least}

abbrev table : List (ℕ × ℕ)
table = (10, 90) ∷ (5, 60) ∷ (2, 25) ∷ (15, 120) ∷ (60, 300) ∷ (8, 45) ∷ []

abbrev none : ℕ × ℕ
none = (0, 0)

-- a table's numbers, one after another
abbrev numbers : List (ℕ × ℕ) → List ℕ
numbers [] = []
numbers (d ∷ ds) = d.0 ∷ d.1 ∷ numbers ds

numbers_at : (ds : List (ℕ × ℕ)) (k : ℕ) → ((get_or ds k none).0 ≡ get_or (numbers ds) (2 * k) 0) × ((get_or ds k none).1 ≡ get_or (numbers ds) (2 * k + 1) 0)
numbers_at [] k = (refl, refl)
numbers_at (d ∷ ds) zero = (refl, refl)
numbers_at (d ∷ ds) (suc k) =
    let n = numbers_at ds k in
    let e : 2 * suc k ≡ suc (suc (2 * k)) = omega arith in
    let f : 2 * suc k + 1 ≡ suc (suc (2 * k + 1)) = omega arith in
    (rw e n.0, rw f n.1)

unwrapped : (o : Option (ℕ × ℕ)) (d : ℕ × ℕ) → UnwrapsOrElse o (λ x. (x.0 ≡ 0) × (x.1 ≡ 0)) d → d ≡ unwrap_or o none
unwrapped None d e = ap₂ (λ (a b : ℕ). (a, b)) e.0 e.1
unwrapped (Some x) d e = e

-- the seconds of the class
got : (c : After-unwrap_or_default-least) → (c.unwrap_or_default-least.result.0 ≡ house.least c.byte_at-class.result) × (c.unwrap_or_default-least.result.1 ≡ house.most c.byte_at-class.result)
got c =
    let k = c.byte_at-class.result - 1 in
    let f : c.copied.result ≡ slice_get table k = search rules in
    let e = unwrapped c.copied.result _ c.unwrap_or_default-least.ensures ∙ ap (λ (o : Option (ℕ × ℕ)). unwrap_or o none) f ∙ unwrap_or-slice_get table k none in
    let n = numbers_at table k in
    (ap (λ (d : ℕ × ℕ). d.0) e ∙ n.0 ∙ ap (λ i. get_or house_seconds i 0) (omega arith), ap (λ (d : ℕ × ℕ). d.1) e ∙ n.1 ∙ ap (λ i. get_or house_seconds i 0) (omega arith))

pub returns-then-class-eq0 : goal.returns-then-class-eq0
unfolding wide_enough
returns-then-class-eq0 c = grind arith

pub returns-then-link_least-least : goal.returns-then-link_least-least
returns-then-link_least-least c = let b = c.byte_at-class in
    let g = got (goal.at.returns-then-link_least-least c).After-unwrap_or_default-least in
    let s = c.args in
    rw (g.1, c.link_most.ensures.0) (by_most house (plan_of s.plan.now) s.classes.now s.i b.result b.ensures.0 c.if-class-eq0.false (omega (arith, g.0)))

pub returns-else-link_least-least : goal.returns-else-link_least-least
returns-else-link_least-least c = let b = c.byte_at-class in
    let g = got (goal.at.returns-else-link_least-least c).After-unwrap_or_default-least in
    let s = c.args in
    lt-leb _ _ c.if-link_least-least.false ∙ by_least house (plan_of s.plan.now) s.classes.now s.i b.result b.ensures.0 c.if-class-eq0.false (omega (arith, g.0))
