-- Lines are equal where their four fields are, and what it says that a rule gives just a line.
use mathlib.Core.Path.{◌≡◌, ap}
use lib.Dec.{T as Is, eqb, eqb→eq}
use lib.Ieee.Fits.{and_l, and_r, and_i, eq→eqb}
use Rattle.plan.specs.Plan.{Plan}
use Rattle.rules.specs.declared.Line.{Line}
use Rattle.rules.specs.declared.Rule.{Rule}
use Rattle.rules.specs.Rules.{fires, result}
use Rattle.rules_apply.specs.Applying.{is_same_line, gives_line_of}

-- ---- equal lines
module _ (k l : Line) where
  pub same_equal : Is (is_same_line k l) → k ≡ l
  unfolding is_same_line
  same_equal t =
      let a : k.point ≡ l.point = eqb→eq _ _ (search (and_l, and_r)) in
      let b : k.set ≡ l.set = eqb→eq _ _ (search (and_l, and_r)) in
      let d : k.label ≡ l.label = eqb→eq _ _ (search (and_l, and_r)) in
      let e : k.wait ≡ l.wait = eqb→eq _ _ (search (and_l, and_r)) in
      λ i. record { point = a i; set = b i; label = d i; wait = e i }

  pub equal_same : k ≡ l → Is (is_same_line k l)
  unfolding is_same_line
  equal_same q =
      let a : Is (eqb k.point l.point) = eq→eqb (ap (λ (z : Line). z.point) q) in
      let b : Is (eqb k.set l.set) = eq→eqb (ap (λ (z : Line). z.set) q) in
      let d : Is (eqb k.label l.label) = eq→eqb (ap (λ (z : Line). z.label) q) in
      let e : Is (eqb k.wait l.wait) = eq→eqb (ap (λ (z : Line). z.wait) q) in
      search and_i

-- the test, and its facts
module _ (P : Plan) (by : Rule) (l m k : Line) where
  pub gives_facts : Is (gives_line_of P by l m k) → Is (fires P by l m) × (result P by l m ≡ k)
  unfolding gives_line_of
  gives_facts t = (and_l (fires P by l m) (is_same_line (result P by l m) k) t, same_equal (result P by l m) k (and_r (fires P by l m) (is_same_line (result P by l m) k) t))

  pub facts_give : Is (fires P by l m) → result P by l m ≡ k → Is (gives_line_of P by l m k)
  unfolding gives_line_of
  facts_give t e = and_i (fires P by l m) (is_same_line (result P by l m) k) t (equal_same (result P by l m) k e)
