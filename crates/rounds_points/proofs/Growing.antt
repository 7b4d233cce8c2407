-- Sets of points that grow by the rows of a plan: no set loses a point, and a row's points are in their sets once it has been passed.
use mathlib.Core.Path.{◌≡◌}
use mathlib.Core.List.{List}
use Prim.Native.Nat.{ℕ, ◌+◌, ◌^◌, ◌<◌}
use native.Mathlib.Decide.{ℕ_discrete}
use native.Mathlib.Omega.{arith}
use lib.Bits.{bit_or}
use lib.ListN.{length, get_or, set, length-set}
use lib.Pow.{pow-lt}
use lib.Seq.{get_or-set_same, get_or-set_other}
use borrow.Author.Count.{below_none, below_more}
use Rattle.plan.specs.Plan.{Plan}
use Rattle.plan.proofs.Ranges.{WellFormed}
use Rattle.rounds_points.specs.PointSets.{In, Sets, EdgesIn, LinksIn, Dependents}
use Rattle.rounds_points.proofs.PointSets.{own_bit, in_left, in_right, union_below}

-- no set of a point below n loses a point
pub record Grown (n : ℕ) (old sets : List ℕ) : Type 0 where
  pub are_sets : Sets n sets
  pub no_fewer : (y x : ℕ) → y < n → In (get_or old y 0) x → In (get_or sets y 0) x

grown_none : (n : ℕ) (old : List ℕ) → Sets n old → Grown n old old
grown_none n old h = record { are_sets = h; no_fewer = λ y x l k. k }

grown_on : (n : ℕ) (old mid sets : List ℕ) → Grown n old mid → Grown n mid sets → Grown n old sets
grown_on n old mid sets a b = record { are_sets = b.are_sets; no_fewer = λ y x l k. b.no_fewer y x l (a.no_fewer y x l k) }

-- ---- point x added to the set of point y
abbrev pub added : List ℕ → ℕ → ℕ → List ℕ
added sets y x = set sets y (bit_or (get_or sets y 0) (2 ^ x))

module _ (n : ℕ) (sets : List ℕ) (h : Sets n sets) (y x : ℕ) (hy : y < n) (hx : x < n) where
  added_at : get_or (added sets y x) y 0 ≡ bit_or (get_or sets y 0) (2 ^ x)
  added_at = get_or-set_same sets y _ 0 (omega (arith, h.long))

  added_in : In (get_or (added sets y x) y 0) x
  added_in = rw added_at (in_right (get_or sets y 0) (2 ^ x) x (own_bit x))

  added_below : (z : ℕ) → z < n → Dec (z ≡ y) → get_or (added sets y x) z 0 < 2 ^ n
  added_below z l (yes e) = rw (e, added_at) (union_below n (get_or sets y 0) (2 ^ x) (h.below y hy) (pow-lt hx))
  added_below z l (no e) = rw (get_or-set_other sets y z (bit_or (get_or sets y 0) (2 ^ x)) 0 e) (h.below z l)

  added_keeps : (z w : ℕ) → Dec (z ≡ y) → In (get_or sets z 0) w → In (get_or (added sets y x) z 0) w
  added_keeps z w (yes e) k = rw (e, added_at) (in_left (get_or sets y 0) (2 ^ x) w (rw e at k))
  added_keeps z w (no e) k = rw (get_or-set_other sets y z (bit_or (get_or sets y 0) (2 ^ x)) 0 e) k

  added_grown : Grown n sets (added sets y x)
  added_grown = record {
    are_sets = record { few = h.few; long = rw length-set h.long; below = λ z l. added_below z l (ℕ_discrete z y) };
    no_fewer = λ z w l k. added_keeps z w (ℕ_discrete z y) k;
  }

-- ---- the rows passed: for each, point g i is in the set of point f i
module _ (f g : ℕ → ℕ) where
  pub record Passed (m : ℕ) (sets : List ℕ) : Type 0 where
    pub row_in : (i : ℕ) → i < m → In (get_or sets (f i) 0) (g i)

  passed_none : (sets : List ℕ) → Passed 0 sets
  passed_none sets = record { row_in = below_none (λ i. In (get_or sets (f i) 0) (g i)) }

  passed_on : (n m : ℕ) (sets new : List ℕ) → ((i : ℕ) → i < m → f i < n) → Grown n sets new → Passed m sets → Passed m new
  passed_on n m sets new inside grown p = record { row_in = λ i l. grown.no_fewer (f i) (g i) (inside i l) (p.row_in i l) }

  passed_more : (m : ℕ) (sets : List ℕ) → Passed m sets → In (get_or sets (f m) 0) (g m) → Passed (m + 1) sets
  passed_more m sets p here = record { row_in = below_more (λ i. In (get_or sets (f i) 0) (g i)) m p.row_in here }

pub record EdgesPassed (P : Plan) (m : ℕ) (old sets : List ℕ) : Type 0 where
  pub grown : Grown P.points old sets
  pub by_edge : Passed P.to P.from m sets

pub record LinksPassed (P : Plan) (m : ℕ) (old sets : List ℕ) : Type 0 where
  pub grown : Grown P.points old sets
  pub by_activation : Passed P.activation P.finish m sets
  pub by_finish : Passed P.finish P.activation m sets

module _ (P : Plan) (old : List ℕ) where
  pub edges_none : Sets P.points old → EdgesPassed P 0 old old
  edges_none h = record { grown = grown_none _ _ h; by_edge = passed_none _ _ _ }

  pub links_none : Sets P.points old → LinksPassed P 0 old old
  links_none h = record { grown = grown_none _ _ h; by_activation = passed_none _ _ _; by_finish = passed_none _ _ _ }

  pub edges_all : (m : ℕ) (sets : List ℕ) → m ≡ P.edges → EdgesPassed P m old sets → EdgesIn P old sets
  edges_all m sets e p = record { are_sets = p.grown.are_sets; no_fewer = p.grown.no_fewer; by_edge = λ i l. p.by_edge.row_in i (rw e l) }

  pub links_all : (m : ℕ) (sets : List ℕ) → m ≡ P.links → LinksPassed P m old sets → LinksIn P old sets
  links_all m sets e p = record {
    are_sets = p.grown.are_sets;
    no_fewer = p.grown.no_fewer;
    by_activation = λ i l. p.by_activation.row_in i (rw e l);
    by_finish = λ i l. p.by_finish.row_in i (rw e l);
  }

  -- one row more
  module _ (w : WellFormed P) (m : ℕ) (sets : List ℕ) where
    edge_more : m < P.edges → EdgesPassed P m old sets → EdgesPassed P (m + 1) old (added sets (P.to m) (P.from m))
    edge_more l p =
        let new = added sets (P.to m) (P.from m) in
        let g = added_grown P.points sets p.grown.are_sets (P.to m) (P.from m) (w.to_in m l) (w.from_in m l) in
        let here = added_in P.points sets p.grown.are_sets (P.to m) (P.from m) (w.to_in m l) (w.from_in m l) in
        record { grown = grown_on _ _ _ _ p.grown g; by_edge = passed_more _ _ m new (passed_on _ _ _ m sets new (λ i k. w.to_in i (omega arith)) g p.by_edge) here }

    link_more : m < P.links → LinksPassed P m old sets → LinksPassed P (m + 1) old (added (added sets (P.activation m) (P.finish m)) (P.finish m) (P.activation m))
    link_more l p =
        let n = P.points in
        let a = P.activation m in
        let c = P.finish m in
        let mid = added sets a c in
        let new = added mid c a in
        let ha = w.activation_in m l in
        let hc = (w.finish_in m l).1 in
        let g = added_grown n sets p.grown.are_sets a c ha hc in
        let g2 = added_grown n mid g.are_sets c a hc ha in
        let both = grown_on n sets mid new g g2 in
        record {
          grown = grown_on n old sets new p.grown both;
          by_activation = passed_more _ _ m new (passed_on _ _ n m sets new (λ i k. w.activation_in i (omega arith)) both p.by_activation) (g2.no_fewer a c ha (added_in n sets p.grown.are_sets a c ha hc));
          by_finish = passed_more _ _ m new (passed_on _ _ n m sets new (λ i k. (w.finish_in i (omega arith)).1) both p.by_finish) (added_in n mid g.are_sets c a hc ha);
        }

    -- as the code makes it, which reads the ends from the plan: there is room for them
    pub edge_fits_lem : (y x : ℕ) → y ≡ P.to m → x ≡ P.from m → m < P.edges → EdgesPassed P m old sets → (y < length sets) × (x < 32)
    edge_fits_lem y x ey ex l p = let h = p.grown.are_sets in (omega (arith, w.to_in m l, h.long), omega (arith, w.from_in m l, h.few))

    pub link_fits : (a c : ℕ) → a ≡ P.activation m → c ≡ P.finish m → m < P.links → LinksPassed P m old sets → (a < length sets) × (c < length sets) × (a < 32) × (c < 32)
    link_fits a c ea ec l p =
        let h = p.grown.are_sets in
        let ha = w.activation_in m l in
        let hc = (w.finish_in m l).1 in
        (omega (arith, h.long), omega (arith, h.long), omega (arith, h.few), omega (arith, h.few))

    pub edge_made : (y x : ℕ) (new : List ℕ) → y ≡ P.to m → x ≡ P.from m → new ≡ added sets y x → m < P.edges → EdgesPassed P m old sets → EdgesPassed P (m + 1) old new
    edge_made y x new ey ex e l p = rw (e, ey, ex) (edge_more l p)

    pub link_made : (a c : ℕ) (mid new : List ℕ) → a ≡ P.activation m → c ≡ P.finish m → mid ≡ added sets a c → new ≡ added mid c a → m < P.links → LinksPassed P m old sets → LinksPassed P (m + 1) old new
    link_made a c mid new ea ec e f l p = rw (f, e, ea, ec) (link_more l p)

  -- the edges first, and then the links
  pub both_in : (mid sets : List ℕ) → WellFormed P → EdgesIn P old mid → LinksIn P mid sets → Dependents P sets
  both_in mid sets w e l = record {
    are_sets = l.are_sets;
    by_edge = λ i k. l.no_fewer (P.to i) (P.from i) (w.to_in i k) (e.by_edge i k);
    by_activation = l.by_activation;
    by_finish = l.by_finish;
  }
