-- For inner contracts only: sets of points, each a number with bit y for point y. Nothing here is to be believed.
use Rattle.std.specs.Prelude.{◌≡◌, List, Option, MatchOption, ℕ, ◌^◌, ◌≤◌, ◌<◌, T as Is, length, get_or}
use Rattle.plan.specs.LinkSet.{contains, remove}
use Rattle.plan.specs.Plan.{Plan}

-- the point is in the set
abbrev pub In : ℕ → ℕ → Type 0
In set y = Is (contains set y)

-- a call of `next` takes the lowest point out of a set and leaves the rest; an empty set has none
abbrev pub TakesPoint : ℕ → Option ℕ → ℕ → Type 0
TakesPoint s r t = MatchOption r ((s ≡ 0) × (t ≡ 0)) (λ x. In s x × (x < 64) × (t ≡ remove s x) × (t < s) × ((y : ℕ) → In s y → x ≤ y))

-- for each of n points a set of points below n
pub record Sets (n : ℕ) (sets : List ℕ) : Type 0 where
  pub few : n ≤ 32
  pub long : n ≤ length sets
  pub below : (y : ℕ) → y < n → get_or sets y 0 < 2 ^ n

-- and it has those of which rules 1 to 3 give a line from a line of the point, but for the horizon edges
pub record Dependents (P : Plan) (sets : List ℕ) : Type 0 where
  pub are_sets : Sets P.points sets
  pub by_edge : (i : ℕ) → i < P.edges → In (get_or sets (P.to i) 0) (P.from i)
  pub by_activation : (i : ℕ) → i < P.links → In (get_or sets (P.activation i) 0) (P.finish i)
  pub by_finish : (i : ℕ) → i < P.links → In (get_or sets (P.finish i) 0) (P.activation i)

-- what the edges, and what the links add to the sets
pub record EdgesIn (P : Plan) (old sets : List ℕ) : Type 0 where
  pub are_sets : Sets P.points sets
  pub no_fewer : (y x : ℕ) → y < P.points → In (get_or old y 0) x → In (get_or sets y 0) x
  pub by_edge : (i : ℕ) → i < P.edges → In (get_or sets (P.to i) 0) (P.from i)

pub record LinksIn (P : Plan) (old sets : List ℕ) : Type 0 where
  pub are_sets : Sets P.points sets
  pub no_fewer : (y x : ℕ) → y < P.points → In (get_or old y 0) x → In (get_or sets y 0) x
  pub by_activation : (i : ℕ) → i < P.links → In (get_or sets (P.activation i) 0) (P.finish i)
  pub by_finish : (i : ℕ) → i < P.links → In (get_or sets (P.finish i) 0) (P.activation i)

-- the set has the points of the second parents of rules 4 and 6
pub record Givers (P : Plan) (set : ℕ) : Type 0 where
  pub activation_in : (i : ℕ) → i < P.links → In set (P.activation i)
  pub observer_in : (j : ℕ) → j < P.propositions → In set (P.observer j)

-- points with lines that changed, and all of those where a giver changed
pub record LinedOf (n changed lined givers set : ℕ) : Type 0 where
  pub below : set < 2 ^ n
  pub lined_in : (x : ℕ) → In lined x → In changed x → In set x
  pub given_in : (x y : ℕ) → In lined x → In changed y → In givers y → In set x

-- the set, of points below n, has the dependents of changed points; points with lines that changed, and all of those where a giver changed
pub record Concerned (n : ℕ) (sets : List ℕ) (changed lined givers : ℕ) (set : ℕ) : Type 0 where
  pub below : set < 2 ^ n
  pub dependent_in : (y x : ℕ) → y < n → In changed y → In (get_or sets y 0) x → In set x
  pub lined_in : (x : ℕ) → In lined x → In changed x → In set x
  pub given_in : (x y : ℕ) → In lined x → In changed y → In givers y → In set x
