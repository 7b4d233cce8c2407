-- Plans with the same points, links, propositions and horizon of which one has only edge rows of the other.
use mathlib.Core.Path.{◌≡◌, ◌∙◌}
use mathlib.Core.Bool.{◌&&◌}
use mathlib.Core.List.{List}
use Prim.Native.Nat.{ℕ, ◌≤◌, ◌<◌}
use native.Mathlib.Omega.{arith}
use lib.Dec.{T as Is, eqb, le→leb}
use lib.Ieee.Fits.{and_l, and_r, and_i}
use Rattle.plan.specs.Plan.{Plan}
use Rattle.plan.specs.Layout.{spare_at}
use Rattle.plan.specs.Horizons.{with_horizon}
use Rattle.plan.specs.Refusal.{sizes_fit, length_fits, observer_fits, label_fits, link_ends_fit, duration_fits, is_link_fit, edge_ends_fit, edge_fits}
use Rattle.plan.proofs.Ranges.{every_at, every_of, every_same, differs_same, Judged}
use Rattle.plan.proofs.Unlabelled.{none_fits, none_well_defined}

-- edge i of Q is edge j of P
pub record SameEdge (Q : Plan) (i : ℕ) (P : Plan) (j : ℕ) : Type 0 where
  pub from_is : Q.from i ≡ P.from j
  pub to_is : Q.to i ≡ P.to j
  pub up_is : Q.up i ≡ P.up j
  pub down_is : Q.down i ≡ P.down j
  pub label_is : Q.label i ≡ P.label j

-- the edges of Q are edges of P, and all else that the rules see is P's
pub record FewerRows (Q P : Plan) : Type 0 where
  pub points_are : Q.points ≡ P.points
  pub propositions_are : Q.propositions ≡ P.propositions
  pub links_are : Q.links ≡ P.links
  pub observer_is : (j : ℕ) → j < Q.propositions → Q.observer j ≡ P.observer j
  pub activation_is : (i : ℕ) → i < Q.links → Q.activation i ≡ P.activation i
  pub finish_is : (i : ℕ) → i < Q.links → Q.finish i ≡ P.finish i
  pub least_is : (i : ℕ) → i < Q.links → Q.least i ≡ P.least i
  pub most_is : (i : ℕ) → i < Q.links → Q.most i ≡ P.most i
  pub edge_among : (i : ℕ) → i < Q.edges → (j : ℕ) × (j < P.edges) × SameEdge Q i P j
  pub horizon_is : Q.horizon ≡ P.horizon

pub fewer_trans : {R Q P : Plan} → FewerRows R Q → FewerRows Q P → FewerRows R P
fewer_trans f g = record {
  points_are = f.points_are ∙ g.points_are;
  propositions_are = f.propositions_are ∙ g.propositions_are;
  links_are = f.links_are ∙ g.links_are;
  observer_is = λ j h. f.observer_is j h ∙ g.observer_is j (rw f.propositions_are at h);
  activation_is = λ i h. f.activation_is i h ∙ g.activation_is i (rw f.links_are at h);
  finish_is = λ i h. f.finish_is i h ∙ g.finish_is i (rw f.links_are at h);
  least_is = λ i h. f.least_is i h ∙ g.least_is i (rw f.links_are at h);
  most_is = λ i h. f.most_is i h ∙ g.most_is i (rw f.links_are at h);
  edge_among = λ i h. let (j, k, s) = f.edge_among i h in let (l, m, t) = g.edge_among j k in (l, m, record { from_is = s.from_is ∙ t.from_is; to_is = s.to_is ∙ t.to_is; up_is = s.up_is ∙ t.up_is; down_is = s.down_is ∙ t.down_is; label_is = s.label_is ∙ t.label_is });
  horizon_is = f.horizon_is ∙ g.horizon_is;
}

-- ---- where P passes the tests of 2 to 5, so does Q, whose points carry no label; no test looks at the horizon
module _ (Q : Plan) {P : Plan} (h : ℕ) (f : FewerRows (with_horizon Q h) P) where
  observer_same : (j : ℕ) → j < Q.propositions → observer_fits Q j ≡ observer_fits P j
  unfolding observer_fits
  observer_same j h = rw (f.points_are, f.observer_is j h, differs_same Q.observer P.observer (P.observer j) j (λ i k. f.observer_is i (omega arith)))

  link_same : (i : ℕ) → i < Q.links → is_link_fit Q i ≡ is_link_fit P i
  unfolding is_link_fit link_ends_fit duration_fits
  link_same i h =
      rw (f.points_are, f.activation_is i h, f.finish_is i h, f.least_is i h, f.most_is i h, differs_same Q.observer P.observer (P.finish i) Q.propositions f.observer_is, f.propositions_are, differs_same Q.finish P.finish (P.finish i) i (λ j k. f.finish_is j (omega arith)))

  sizes_same : Is (sizes_fit P) → Q.edges ≤ 128 → Is (sizes_fit Q)
  unfolding sizes_fit
  sizes_same t h = rw (f.points_are, f.propositions_are, f.links_are) (search (and_l, and_r, and_i, le→leb))

  edge_same : (bs : List ℕ) (i j : ℕ) → SameEdge (with_horizon Q h) i P j → Is (edge_fits bs P j) → Is (edge_ends_fit Q i && label_fits Q (Q.label i))
  unfolding edge_fits edge_ends_fit label_fits
  edge_same bs i j s t = rw (f.points_are, f.propositions_are, s.from_is, s.to_is, s.up_is, s.down_is, s.label_is) (and_l (edge_ends_fit P j && label_fits P (P.label j)) (eqb (spare_at bs j) 0) t)

  pub fewer_judged : (cs bs : List ℕ) → Judged bs P → Q.edges ≤ 128 → Is (length_fits cs Q) → ((i : ℕ) → i < Q.edges → spare_at cs i ≡ 0) → ((x : ℕ) → Q.point_label x ≡ 0) → Judged cs Q
  unfolding edge_fits
  fewer_judged cs bs j few long spare none = record {
    sizes = sizes_same j.sizes few;
    long = long;
    observers = rw (every_same (observer_fits Q) (observer_fits P) Q.propositions observer_same, f.propositions_are) j.observers;
    point_labels = none_fits Q none Q.points;
    links_fit = rw (every_same (is_link_fit Q) (is_link_fit P) Q.links link_same, f.links_are) j.links_fit;
    edges_fit = every_of (edge_fits cs Q) Q.edges (λ i h. let (k, l, s) = f.edge_among i h in and_i (edge_ends_fit Q i && label_fits Q (Q.label i)) (eqb (spare_at cs i) 0) (edge_same bs i k s (every_at (edge_fits bs P) P.edges k j.edges_fit l)) (rw (spare i h) tt));
    well_defined = none_well_defined Q none;
  }
