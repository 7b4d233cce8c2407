-- What code and rules need of a plan, and: an accepted plan has it.
use mathlib.Core.Path.{◌≡◌, refl, sym, ap, ap₂}
use mathlib.Core.Bool.{Bool, true, false, cond, not, ◌&&◌}
use mathlib.Core.List.{List}
use mathlib.Core.Logic.{◌⊎◌, inl, inr, ⊎_elim}
use Prim.Native.Nat.{ℕ, zero, suc, ◌*◌, ◌^◌, ◌≤◌, ◌<◌, max}
use native.Mathlib.Nat.{le_refl, le_trans, mul-le-mul, le-max_left, le-max_right}
use native.Mathlib.Decide.{ℕ_discrete, dec_lt}
use native.Mathlib.Omega.{arith}
use lib.Dec.{T as Is, ltb, eqb, T_not, ltb→lt, leb→le, eqb→eq, not_T}
use lib.Ieee.Fits.{and_l, and_r, and_i, eq→eqb}
use lib.ListN.{length}
use borrow.Author.Tests.{le-ltb}
use Rattle.plan.specs.Label.{plain}
use Rattle.plan.specs.Plan.{Plan, cells}
use Rattle.plan.specs.Layout.{plan_of, greatest, most_at, down_at, largest_of, spare_at, length_for, labelled_length_for}
use Rattle.plan.specs.Refusal.{every, differs, sizes_fit, length_fits, observer_fits, label_fits, point_label_fits, link_ends_fit, most_seconds, duration_fits, is_link_fit, edge_ends_fit, edge_fits, well_defined, refusal_of, refusal, Accepted}
use Rattle.plan.proofs.Truth.{is_true, or_of, or_left}

-- of any plan, also of one that no bytes stand for: rows lie among the points, durations are ordered, M bounds what a rule adds to a wait,
-- the horizon is n × M or more, no two propositions have one observing point, no two links one end, and no end observes
pub record WellFormed (P : Plan) : Type 0 where
  pub two : 1 < P.points
  pub observer_in : (j : ℕ) → j < P.propositions → (0 < P.observer j) × (P.observer j < P.points)
  pub activation_in : (i : ℕ) → i < P.links → P.activation i < P.points
  pub finish_in : (i : ℕ) → i < P.links → (0 < P.finish i) × (P.finish i < P.points)
  pub durations : (i : ℕ) → i < P.links → (0 < P.least i) × (P.least i < P.most i)
  pub from_in : (i : ℕ) → i < P.edges → P.from i < P.points
  pub to_in : (i : ℕ) → i < P.edges → P.to i < P.points
  pub label_in : (i : ℕ) → i < P.edges → P.label i < 4 ^ P.propositions
  pub label_plain : (i : ℕ) → i < P.edges → Is (plain P.propositions (P.label i))
  pub most_le : (i : ℕ) → i < P.links → P.most i ≤ P.largest
  pub down_le : (i : ℕ) → i < P.edges → P.down i ≤ P.largest
  pub horizon_far : P.points * P.largest ≤ P.horizon
  pub observer_once : (i j : ℕ) → i < P.propositions → j < P.propositions → P.observer i ≡ P.observer j → i ≡ j
  pub finish_once : (i j : ℕ) → i < P.links → j < P.links → P.finish i ≡ P.finish j → i ≡ j
  pub finish_observes_none : (i j : ℕ) → i < P.links → j < P.propositions → P.finish i ≡ P.observer j → ⊥

-- the bounds (4.2, 4.4, 4.5) that the code's numbers rest on
pub record Bounded (P : Plan) : Type 0 where
  pub points_in : P.points ≤ 32
  pub propositions_in : P.propositions ≤ 4
  pub links_in : P.links ≤ 4
  pub edges_in : P.edges ≤ 128
  pub cells_in : cells P ≤ 16384
  pub up_in : (i : ℕ) → i < P.edges → P.up i ≤ most_seconds
  pub largest_in : P.largest ≤ most_seconds
  pub horizon_in : P.horizon ≤ 32 * most_seconds

-- ---- tests of every row, and of a chain of refusals
pub every_at : (f : ℕ → Bool) (n i : ℕ) → Is (every f n) → i < n → Is (f i)
unfolding every
every_at f zero i t h = absurd (omega arith)
every_at f (suc n) i t h = go (every_at f n i (and_l (every f n) (f n) t)) (ℕ_discrete i n)
  where
    go : (i < n → Is (f i)) → Dec (i ≡ n) → Is (f i)
    go r (yes e) = rw e (and_r (every f n) (f n) t)
    go r (no e) = r (omega arith)

pub every_of : (f : ℕ → Bool) (n : ℕ) → ((i : ℕ) → i < n → Is (f i)) → Is (every f n)
unfolding every
every_of f zero h = tt
every_of f (suc n) h = and_i (every f n) (f n) (every_of f n (λ i k. h i (omega arith))) (h n (omega arith))

-- tests that agree on each row, and numbers that agree
pub every_same : (f g : ℕ → Bool) (n : ℕ) → ((i : ℕ) → i < n → f i ≡ g i) → every f n ≡ every g n
unfolding every
every_same f g zero h = refl
every_same f g (suc n) h = ap₂ ◌&&◌ (every_same f g n (λ i k. h i (omega arith))) (h n (omega arith))

pub differs_same : (f g : ℕ → ℕ) (x n : ℕ) → ((i : ℕ) → i < n → f i ≡ g i) → differs f x n ≡ differs g x n
unfolding differs
differs_same f g x n h = every_same _ _ n (λ i k. ap (λ (y : ℕ). not (eqb y x)) (h i k))

pub differs_at : (f : ℕ → ℕ) (x n i : ℕ) → Is (differs f x n) → i < n → f i ≡ x → ⊥
unfolding differs
differs_at f x n i t h e = T_not (eqb (f i) x) (every_at (λ i. not (eqb (f i) x)) n i t h) (eq→eqb e)

pub differs_of : (f : ℕ → ℕ) (x n : ℕ) → ((i : ℕ) → i < n → f i ≡ x → ⊥) → Is (differs f x n)
unfolding differs
differs_of f x n h = every_of (λ i. not (eqb (f i) x)) n (λ i k. not_T (eqb (f i) x) (λ t. h i k (eqb→eq (f i) x t)))

-- no two of the first n numbers of f are equal, if each differs from those before it
once : (f : ℕ → ℕ) (n : ℕ) → ((i : ℕ) → i < n → Is (differs f (f i) i)) → (i j : ℕ) → i < n → j < n → f i ≡ f j → i ≡ j
once f n d i j h k e = go (dec_lt i j) (dec_lt j i)
  where
    go : Dec (i < j) → Dec (j < i) → i ≡ j
    go (yes a) b = absurd (differs_at f (f j) j i (d j k) a e)
    go (no a) (yes b) = absurd (differs_at f (f i) i j (d i h) b (sym e))
    go (no a) (no b) = omega arith

past : (b : Bool) (k n : ℕ) → cond b (suc k) n ≡ 0 → n ≡ 0
past true k n e = absurd (omega arith)
past false k n e = e

unless : (b : Bool) (k n : ℕ) → cond (not b) (suc k) n ≡ 0 → Is b × (n ≡ 0)
unless true k n e = (tt, e)
unless false k n e = absurd (omega arith)

-- ---- the largest of some numbers
pub greatest_ge : (f : ℕ → ℕ) (n i : ℕ) → i < n → f i ≤ greatest f n
unfolding greatest
greatest_ge f zero i h = absurd (omega arith)
greatest_ge f (suc n) i h = go (greatest_ge f n i) (ℕ_discrete i n)
  where
    go : (i < n → f i ≤ greatest f n) → Dec (i ≡ n) → f i ≤ max (greatest f n) (f n)
    go r (yes e) = rw e (le-max_right (greatest f n) (f n))
    go r (no e) = le_trans (r (omega arith)) (le-max_left (greatest f n) (f n))

greatest_le : (f : ℕ → ℕ) (b n : ℕ) → ((i : ℕ) → i < n → f i ≤ b) → greatest f n ≤ b
unfolding greatest
greatest_le f b zero h = omega arith
greatest_le f b (suc n) h = omega (arith, greatest_le f b n (λ i k. h i (omega arith)), h n (omega arith))

-- ---- what acceptance says, refusal by refusal
pub record Judged (bs : List ℕ) (P : Plan) : Type 0 where
  pub sizes : Is (sizes_fit P)
  pub long : Is (length_fits bs P)
  pub observers : Is (every (observer_fits P) P.propositions)
  pub point_labels : Is (every (point_label_fits P) P.points)
  pub links_fit : Is (every (is_link_fit P) P.links)
  pub edges_fit : Is (every (edge_fits bs P) P.edges)
  pub well_defined : Is (well_defined P)

pub judged : (bs : List ℕ) (P : Plan) → refusal_of bs P ≡ 0 → Judged bs P
unfolding refusal_of
judged bs P e =
    let a = past (ltb (length bs) 4) 0 _ e in
    let b = unless (sizes_fit P) 1 _ a in
    let c = unless (length_fits bs P) 0 _ b.1 in
    let d = unless (every (observer_fits P) P.propositions) 2 _ c.1 in
    let l = unless (every (point_label_fits P) P.points) 16 _ d.1 in
    let f = unless (every (is_link_fit P) P.links) 3 _ l.1 in
    let g = unless (every (edge_fits bs P) P.edges) 4 _ f.1 in
    let w = unless (well_defined P) 17 0 g.1 in
    record { sizes = b.0; long = c.0; observers = d.0; point_labels = l.0; links_fit = f.0; edges_fit = g.0; well_defined = w.0 }

-- the length is one of two
pub one_length : (bs : List ℕ) (P : Plan) → Is (length_fits bs P) → (length bs ≡ length_for P) ⊎ (length bs ≡ labelled_length_for P)
unfolding length_fits
one_length bs P t = ⊎_elim (λ a. inl (eqb→eq _ _ a)) (λ a. inr (eqb→eq _ _ a)) (or_of (eqb (length bs) (length_for P)) (eqb (length bs) (labelled_length_for P)) t)

pub own_length : (bs : List ℕ) (P : Plan) → length bs ≡ length_for P → Is (length_fits bs P)
unfolding length_fits
own_length bs P e = or_left (eqb (length bs) (length_for P)) (eqb (length bs) (labelled_length_for P)) (eq→eqb e)

four_bytes : (bs : List ℕ) (P : Plan) → Is (length_fits bs P) → 4 ≤ length bs
unfolding length_for labelled_length_for
four_bytes bs P t = ⊎_elim (λ e. omega arith) (λ e. omega arith) (one_length bs P t)

-- the converse
pub judged_none : (bs : List ℕ) (P : Plan) → Judged bs P → refusal_of bs P ≡ 0
unfolding refusal_of
judged_none bs P j =
    rw (le-ltb (length bs) 4 (four_bytes bs P j.long), is_true (sizes_fit P) j.sizes, is_true (length_fits bs P) j.long, is_true (every (observer_fits P) P.propositions) j.observers, is_true (every (point_label_fits P) P.points) j.point_labels, is_true (every (is_link_fit P) P.links) j.links_fit, is_true (every (edge_fits bs P) P.edges) j.edges_fit, is_true (well_defined P) j.well_defined)

module _ (bs : List ℕ) (P : Plan) (j : Judged bs P) where
  points_fit : (2 ≤ P.points) × (P.points ≤ 32)
  unfolding sizes_fit
  points_fit = let t = j.sizes in (leb→le 2 P.points (search (and_l, and_r)), leb→le P.points 32 (search (and_l, and_r)))

  propositions_fit : P.propositions ≤ 4
  unfolding sizes_fit
  propositions_fit = let t = j.sizes in leb→le P.propositions 4 (search (and_l, and_r))

  links_few : P.links ≤ 4
  unfolding sizes_fit
  links_few = let t = j.sizes in leb→le P.links 4 (search (and_l, and_r))

  edges_few : P.edges ≤ 128
  unfolding sizes_fit
  edges_few = let t = j.sizes in leb→le P.edges 128 (search (and_l, and_r))

  cells_fit : cells P ≤ 16384
  unfolding sizes_fit
  cells_fit = let t = j.sizes in leb→le (cells P) 16384 (search (and_l, and_r))

  observer_fit : (i : ℕ) → i < P.propositions → (0 < P.observer i) × (P.observer i < P.points)
  unfolding observer_fits
  observer_fit i h =
      let t = every_at (observer_fits P) P.propositions i j.observers h in
      (ltb→lt 0 (P.observer i) (search (and_l, and_r)), ltb→lt (P.observer i) P.points (search (and_l, and_r)))

  observer_differs : (i : ℕ) → i < P.propositions → Is (differs P.observer (P.observer i) i)
  unfolding observer_fits
  observer_differs i h = let t = every_at (observer_fits P) P.propositions i j.observers h in search (and_l, and_r)

  record LinkFit (i : ℕ) : Type 0 where
    activation_fit : P.activation i < P.points
    finish_fit : (0 < P.finish i) × (P.finish i < P.points)
    finish_differs : Is (differs P.finish (P.finish i) i)
    finish_unobserved : Is (differs P.observer (P.finish i) P.propositions)
    durations_fit : (0 < P.least i) × (P.least i < P.most i)
    most_fit : P.most i ≤ most_seconds

  link_fit : (i : ℕ) → i < P.links → LinkFit i
  unfolding is_link_fit link_ends_fit duration_fits
  link_fit i h =
      let t = every_at (is_link_fit P) P.links i j.links_fit h in
      record {
        activation_fit = ltb→lt (P.activation i) P.points (search (and_l, and_r) depth 9);
        finish_fit = (ltb→lt 0 (P.finish i) (search (and_l, and_r) depth 9), ltb→lt (P.finish i) P.points (search (and_l, and_r) depth 9));
        finish_differs = search (and_l, and_r) depth 9;
        finish_unobserved = search (and_l, and_r) depth 9;
        durations_fit = (ltb→lt 0 (P.least i) (search (and_l, and_r) depth 9), ltb→lt (P.least i) (P.most i) (search (and_l, and_r) depth 9));
        most_fit = leb→le (P.most i) most_seconds (search (and_l, and_r) depth 9);
      }

  record EdgeFit (i : ℕ) : Type 0 where
    from_fit : P.from i < P.points
    to_fit : P.to i < P.points
    label_fit : P.label i < 4 ^ P.propositions
    plain_fit : Is (plain P.propositions (P.label i))
    up_fit : P.up i ≤ most_seconds
    down_fit : P.down i ≤ most_seconds

  edge_fit : (i : ℕ) → i < P.edges → EdgeFit i
  unfolding edge_fits edge_ends_fit label_fits
  edge_fit i h =
      let t = every_at (edge_fits bs P) P.edges i j.edges_fit h in
      record {
        from_fit = ltb→lt (P.from i) P.points (search (and_l, and_r) depth 9);
        to_fit = ltb→lt (P.to i) P.points (search (and_l, and_r) depth 9);
        label_fit = ltb→lt (P.label i) (4 ^ P.propositions) (search (and_l, and_r) depth 9);
        plain_fit = search (and_l, and_r) depth 9;
        up_fit = leb→le (P.up i) most_seconds (search (and_l, and_r) depth 9);
        down_fit = leb→le (P.down i) most_seconds (search (and_l, and_r) depth 9);
      }

-- ---- M and the horizon of a plan's bytes
module _ (bs : List ℕ) where
  most_under : (i : ℕ) → i < (plan_of bs).links → (plan_of bs).most i ≤ (plan_of bs).largest
  unfolding plan_of largest_of
  most_under i h = omega (arith, greatest_ge (most_at bs) _ i h)

  down_under : (i : ℕ) → i < (plan_of bs).edges → (plan_of bs).down i ≤ (plan_of bs).largest
  unfolding plan_of largest_of
  down_under i h = omega (arith, greatest_ge (down_at bs) _ i h)

  pub largest_under : (b : ℕ) → ((i : ℕ) → i < (plan_of bs).links → (plan_of bs).most i ≤ b) → ((i : ℕ) → i < (plan_of bs).edges → (plan_of bs).down i ≤ b) → (plan_of bs).largest ≤ b
  unfolding plan_of largest_of
  largest_under b f g = omega (arith, greatest_le (most_at bs) b _ f, greatest_le (down_at bs) b _ g)

  pub horizon_is : (plan_of bs).horizon ≡ (plan_of bs).points * (plan_of bs).largest
  unfolding plan_of
  horizon_is = refl

  module _ (accepted : Accepted bs) where
    fit : Judged bs (plan_of bs)
    unfolding refusal
    fit = judged bs (plan_of bs) accepted

    pub accepted_well_formed : WellFormed (plan_of bs)
    accepted_well_formed = record {
      two = (points_fit bs (plan_of bs) fit).0;
      observer_in = observer_fit bs (plan_of bs) fit;
      activation_in = λ i h. (link_fit bs (plan_of bs) fit i h).activation_fit;
      finish_in = λ i h. (link_fit bs (plan_of bs) fit i h).finish_fit;
      durations = λ i h. (link_fit bs (plan_of bs) fit i h).durations_fit;
      from_in = λ i h. (edge_fit bs (plan_of bs) fit i h).from_fit;
      to_in = λ i h. (edge_fit bs (plan_of bs) fit i h).to_fit;
      label_in = λ i h. (edge_fit bs (plan_of bs) fit i h).label_fit;
      label_plain = λ i h. (edge_fit bs (plan_of bs) fit i h).plain_fit;
      most_le = most_under;
      down_le = down_under;
      horizon_far = rw horizon_is (le_refl _);
      observer_once = once (plan_of bs).observer _ (observer_differs bs (plan_of bs) fit);
      finish_once = once (plan_of bs).finish _ (λ i h. (link_fit bs (plan_of bs) fit i h).finish_differs);
      finish_observes_none = λ i j h k e. differs_at (plan_of bs).observer ((plan_of bs).finish i) _ j (link_fit bs (plan_of bs) fit i h).finish_unobserved k (sym e);
    }

    pub accepted_spare : (i : ℕ) → i < (plan_of bs).edges → spare_at bs i ≡ 0
    unfolding edge_fits
    accepted_spare i h = eqb→eq (spare_at bs i) 0 (and_r (edge_ends_fit (plan_of bs) i && label_fits (plan_of bs) ((plan_of bs).label i)) (eqb (spare_at bs i) 0) (every_at (edge_fits bs (plan_of bs)) _ i fit.edges_fit h))

    largest_fit : (plan_of bs).largest ≤ most_seconds
    largest_fit = largest_under most_seconds (λ i h. (link_fit bs (plan_of bs) fit i h).most_fit) (λ i h. (edge_fit bs (plan_of bs) fit i h).down_fit)

    pub accepted_bounded : Bounded (plan_of bs)
    accepted_bounded = record {
      points_in = (points_fit bs (plan_of bs) fit).1;
      propositions_in = propositions_fit bs (plan_of bs) fit;
      links_in = links_few bs (plan_of bs) fit;
      edges_in = edges_few bs (plan_of bs) fit;
      cells_in = cells_fit bs (plan_of bs) fit;
      up_in = λ i h. (edge_fit bs (plan_of bs) fit i h).up_fit;
      largest_in = largest_fit;
      horizon_in = rw horizon_is (mul-le-mul (points_fit bs (plan_of bs) fit).1 largest_fit);
    }

    -- few links and propositions, as the functions that count cells ask
    pub sizes_few : ((plan_of bs).links ≤ 4) × ((plan_of bs).propositions ≤ 4)
    sizes_few = (accepted_bounded.links_in, accepted_bounded.propositions_in)

    -- the number of a row or of a proposition fits a byte, as its accessors ask
    pub edge_byte : (i : ℕ) → i < (plan_of bs).edges → i < 256
    edge_byte i h = omega (arith, accepted_bounded.edges_in)

    pub link_byte : (i : ℕ) → i < (plan_of bs).links → i < 256
    link_byte i h = omega (arith, accepted_bounded.links_in)

    pub proposition_byte : (j : ℕ) → j < (plan_of bs).propositions → j < 256
    proposition_byte j h = omega (arith, accepted_bounded.propositions_in)
