-- The bytes of a plan (3). Nothing else knows where a field stands.
use Rattle.std.specs.Prelude.{◌≡◌, cond, List, ℕ, zero, suc, ◌+◌, ◌-◌, ◌*◌, ◌<◌, max, ltb, eqb, length}
use Rattle.plan.specs.Bytes.{byte_at, word_at}
use Rattle.plan.specs.Plan.{Plan}

-- 3.6: the length that p propositions and some rows ask for, without labels of points
abbrev pub length_of : ℕ → ℕ → ℕ
length_of p rows = 4 + p + 6 * rows

-- 22.1: where the labels of points stand, and how many bytes they take: n where the length is so much longer, else none
abbrev pub labels_at : List ℕ → ℕ
labels_at bs = 4 + byte_at bs 1

unfoldable pub label_bytes : List ℕ → ℕ
label_bytes bs =
    let n = byte_at bs 0 in
    cond (eqb (length bs) (length_of (byte_at bs 1) (byte_at bs 2 + byte_at bs 3) + n)) n 0

-- Rows are counted over both arrays: k links, then e edges.
-- 3.4: where the two ends of row r stand, in the first array
unfoldable pub ends_at : List ℕ → ℕ → ℕ
ends_at bs r = labels_at bs + label_bytes bs + 2 * r

-- 3.5: where the four bytes of row r stand, in the second array
unfoldable pub data_at : List ℕ → ℕ → ℕ
data_at bs r = ends_at bs (byte_at bs 2 + byte_at bs 3) + 4 * r

-- 3.4: the row of edge i
unfoldable pub row_of_edge : List ℕ → ℕ → ℕ
row_of_edge bs i = byte_at bs 2 + i

-- where the ends and the four bytes of edge 0 stand, for loops over edges, which find it once
abbrev pub EdgesAt : List ℕ → ℕ → ℕ → Type 0
EdgesAt bs ends bytes =
    (ends ≡ ends_at bs (row_of_edge bs 0)) × (ends < 2048) × (bytes ≡ data_at bs (row_of_edge bs 0)) × (bytes < 4096)

-- 1.4, 3.5: a 16-bit weight u in two's complement: u where u ≥ 0, and -u where u < 0
unfoldable pub up_of : ℕ → ℕ
up_of w = cond (ltb w 32768) w 0

unfoldable pub down_of : ℕ → ℕ
down_of w = cond (ltb w 32768) 0 (65536 - w)

-- the largest of f 0 .. f (n - 1), or 0 if there are none
unfoldable pub greatest : (ℕ → ℕ) → ℕ → ℕ
greatest f zero = 0
greatest f (suc n) = max (greatest f n) (f n)

-- 3.5: y of link i, and -u of edge i where u < 0
unfoldable pub most_at : List ℕ → ℕ → ℕ
most_at bs i = word_at bs (data_at bs i + 2)

unfoldable pub down_at : List ℕ → ℕ → ℕ
down_at bs i = down_of (word_at bs (data_at bs (row_of_edge bs i)))

-- 1.5: M
unfoldable pub largest_of : List ℕ → ℕ
largest_of bs = max (greatest (most_at bs) (byte_at bs 2)) (greatest (down_at bs) (byte_at bs 3))

-- 3.2 to 3.5, 22.1: the plan that the bytes are
unfoldable pub plan_of : List ℕ → Plan
plan_of bs =
    record {
      points = byte_at bs 0;
      propositions = byte_at bs 1;
      links = byte_at bs 2;
      edges = byte_at bs 3;
      observer = λ j. byte_at bs (4 + j);
      activation = λ i. byte_at bs (ends_at bs i);
      finish = λ i. byte_at bs (ends_at bs i + 1);
      least = λ i. word_at bs (data_at bs i);
      most = most_at bs;
      from = λ i. byte_at bs (ends_at bs (row_of_edge bs i));
      to = λ i. byte_at bs (ends_at bs (row_of_edge bs i) + 1);
      up = λ i. up_of (word_at bs (data_at bs (row_of_edge bs i)));
      down = down_at bs;
      label = λ i. byte_at bs (data_at bs (row_of_edge bs i) + 2);
      point_label = λ x. cond (ltb x (label_bytes bs)) (byte_at bs (labels_at bs + x)) 0;
      largest = largest_of bs;
      horizon = byte_at bs 0 * largest_of bs;
    }

-- 3.5: the spare byte of edge i, which no rule sees
unfoldable pub spare_at : List ℕ → ℕ → ℕ
spare_at bs i = byte_at bs (data_at bs (row_of_edge bs i) + 3)

-- 3.6, 22.1: the lengths that the sizes ask for: without labels of points, and with them
unfoldable pub length_for : Plan → ℕ
length_for P = length_of P.propositions (P.links + P.edges)

unfoldable pub labelled_length_for : Plan → ℕ
labelled_length_for P = length_for P + P.points

-- 22.1: no accepted plan is longer, in bytes
abbrev pub most_bytes : ℕ
most_bytes = 832
