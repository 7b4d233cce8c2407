-- A plan whose points carry no label passes the tests of labels.
use mathlib.Core.Path.{◌≡◌, sym, ◌∙◌}
use mathlib.Core.Bool.{true, not}
use Prim.Native.Nat.{ℕ, ◌^◌}
use native.Mathlib.Nat.{one-le-pow}
use native.Mathlib.Omega.{arith}
use lib.Dec.{T as Is, ltb}
use lib.Ieee.Fits.{and_i, eq→eqb}
use borrow.Author.Tests.{lt-ltb}
use Rattle.plan.specs.Plan.{Plan}
use Rattle.plan.specs.Refusal.{every, names, label_fits, point_label_fits, contains_label, contains_observers, comes_after, point_well_defined, edge_well_defined, link_well_defined, well_defined}
use Rattle.plan.proofs.Truth.{or_right}
use Rattle.plan.proofs.LabelLaws.{digit_none, plain_none}
use Rattle.plan.proofs.Ranges.{every_of}

module _ (P : Plan) where
  -- every label contains 0
  pub contains_none : (a b : ℕ) → b ≡ 0 → Is (contains_label P a b)
  unfolding contains_label
  contains_none a b e = every_of _ P.propositions (λ j h. rw (e, digit_none) tt)

  module _ (none : (x : ℕ) → P.point_label x ≡ 0) where
    observers_none : (a : ℕ) → Is (contains_observers P a)
    unfolding contains_observers
    observers_none a = every_of _ P.propositions (λ j h. let x = P.observer j in or_right (not (names a j)) (contains_label P a (P.point_label x)) (contains_none a (P.point_label x) (none x)))

    pub none_fits : (n : ℕ) → Is (every (point_label_fits P) n)
    unfolding point_label_fits label_fits
    none_fits n = every_of _ n (λ x h. rw (none x, lt-ltb 0 (4 ^ P.propositions) (omega (arith, one-le-pow P.propositions 4 (omega arith))), plain_none) (or_right (ltb 0 x) true tt))

    edges_none : (i : ℕ) → Is (edge_well_defined P i)
    unfolding edge_well_defined
    edges_none i = search (and_i, contains_none, observers_none, none)

    after_none : (x : ℕ) → Is (comes_after P x)
    unfolding comes_after
    after_none x = every_of _ P.propositions (λ j h. rw (none x, digit_none) tt)

    points_none : (x : ℕ) → Is (point_well_defined P x)
    unfolding point_well_defined
    points_none x = and_i (contains_observers P (P.point_label x)) (comes_after P x) (observers_none (P.point_label x)) (after_none x)

    links_none : (i : ℕ) → Is (link_well_defined P i)
    unfolding link_well_defined
    links_none i = eq→eqb (none (P.activation i) ∙ sym (none (P.finish i)))

    pub none_well_defined : Is (well_defined P)
    unfolding well_defined
    none_well_defined =
        let a = every_of (edge_well_defined P) P.edges (λ i h. edges_none i) in
        let b = every_of (point_well_defined P) P.points (λ x h. points_none x) in
        let c = every_of (link_well_defined P) P.links (λ i h. links_none i) in
        search and_i
