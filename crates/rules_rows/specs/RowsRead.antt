-- For inner contracts only: the rows of a plan as they are read. Nothing here is to be believed.
use Rattle.std.specs.Prelude.{◌≡◌, cond, Option, Some, None, List, ℕ, zero, suc, ◌+◌, ◌-◌, ◌≤◌, ◌<◌, eqb, ltb, get_or}
use Rattle.plan.specs.Plan.{Plan}
use Rattle.rules_rows.specs.declared.numbers.LinkNumbers.{LinkNumbers}
use Rattle.rules_rows.specs.declared.numbers.EdgeNumbers.{EdgeNumbers}

-- the first of k edges from edge i on that starts at point x; i + k, where none does
unfoldable pub edge_among : Plan → ℕ → ℕ → ℕ → ℕ
edge_among P x i zero = i
edge_among P x i (suc k) = cond (eqb (P.from i) x) i (edge_among P x (suc i) k)

-- the first edge from edge i on that starts at point x, or the number of edges
unfoldable pub next_edge : Plan → ℕ → ℕ → ℕ
next_edge P x i = edge_among P x i (P.edges - i)

-- an edge, or none
abbrev pub edge_or_none : Plan → ℕ → Option ℕ
edge_or_none P i = cond (ltb i P.edges) (Some i) None

-- ---- what is read
abbrev pub no_link : LinkNumbers
no_link = record { activation = 0; finish = 0; least = 0; most = 0 }

abbrev pub link_of : Plan → ℕ → LinkNumbers
link_of P i = record { activation = P.activation i; finish = P.finish i; least = P.least i; most = P.most i }

abbrev pub no_edge : EdgeNumbers
no_edge = record { to = 0; label = 0; up = 0; down = 0; next = None }

abbrev pub edge_with : Plan → ℕ → Option ℕ → EdgeNumbers
edge_with P i next = record { to = P.to i; label = P.label i; up = P.up i; down = P.down i; next = next }

abbrev pub edge_of : Plan → ℕ → EdgeNumbers
edge_of P i = edge_with P i (edge_or_none P (next_edge P (P.from i) (i + 1)))

pub record ObserversRead (P : Plan) (observers : List ℕ) : Type 0 where
  pub observer_is : (j : ℕ) → j < P.propositions → get_or observers j 0 ≡ P.observer j

pub record LinksRead (P : Plan) (links : List LinkNumbers) : Type 0 where
  pub link_is : (i : ℕ) → i < P.links → get_or links i no_link ≡ link_of P i

-- the edges from edge n on, and the first of each point among them
pub record EdgesFrom (P : Plan) (n : ℕ) (first : List (Option ℕ)) (edges : List EdgeNumbers) : Type 0 where
  pub first_is : (x : ℕ) → x < P.points → get_or first x None ≡ edge_or_none P (next_edge P x n)
  pub edge_is : (i : ℕ) → n ≤ i → i < P.edges → get_or edges i no_edge ≡ edge_of P i

-- all of them
abbrev pub EdgesRead : Plan → List (Option ℕ) → List EdgeNumbers → Type 0
EdgesRead P first edges = EdgesFrom P 0 first edges

pub record RowsRead (P : Plan) (observers : List ℕ) (links : List LinkNumbers) (first : List (Option ℕ)) (edges : List EdgeNumbers) : Type 0 where
  pub observers_are : ObserversRead P observers
  pub links_are : LinksRead P links
  pub edges_are : EdgesRead P first edges
