-- A plan with some of its edge rows (21).
use Rattle.std.specs.Prelude.{cond, List, [], ◌∷◌, ℕ, suc, eqb, length, get_or}
use Rattle.plan.specs.Plan.{Plan}

-- 21.1: the plan that has n edges, of which edge i is edge f i of the whole plan. All else, also the horizon and M, is the whole plan's
abbrev pub with_edges : Plan → ℕ → (ℕ → ℕ) → Plan
with_edges P n f =
    record {
      points = P.points;
      propositions = P.propositions;
      links = P.links;
      edges = n;
      observer = P.observer;
      activation = P.activation;
      finish = P.finish;
      least = P.least;
      most = P.most;
      from = λ i. P.from (f i);
      to = λ i. P.to (f i);
      up = λ i. P.up (f i);
      down = λ i. P.down (f i);
      label = λ i. P.label (f i);
      point_label = P.point_label;
      largest = P.largest;
      horizon = P.horizon;
    }

-- 21.1: just the rows of a list, in its order
abbrev pub with_rows : Plan → List ℕ → Plan
with_rows P rows = with_edges P (length rows) (λ i. get_or rows i 0)

-- 21.2: the rows with mark 1, in order, where the first mark is of row i
unfoldable pub marked_from : ℕ → List ℕ → List ℕ
marked_from i [] = []
marked_from i (m ∷ ms) = let later = marked_from (suc i) ms in cond (eqb m 1) (i ∷ later) later

abbrev pub marked : List ℕ → List ℕ
marked ms = marked_from 0 ms
