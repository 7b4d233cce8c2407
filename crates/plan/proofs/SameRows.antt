-- Bytes with the same sizes, observing points and rows, wherever these stand: all that the rules see of the two plans is the same.
use mathlib.Core.Path.{◌≡◌, sym, ap, ap₂}
use mathlib.Core.List.{List}
use Prim.Native.Nat.{ℕ, ◌+◌, ◌*◌, ◌<◌, max}
use native.Mathlib.Nat.{add-zero, add_assoc}
use native.Mathlib.Omega.{arith}
use Rattle.plan.specs.Bytes.{byte_at, word_at}
use Rattle.plan.specs.Layout.{labels_at, label_bytes, ends_at, data_at, row_of_edge, up_of, down_of, greatest, most_at, down_at, largest_of, plan_of, spare_at, length_for, labelled_length_for}
use Rattle.plan.proofs.Fewer.{FewerRows}

pub record SameRows (cs bs : List ℕ) : Type 0 where
  pub first_is : (i : ℕ) → i < labels_at bs → byte_at cs i ≡ byte_at bs i
  pub past_is : (j : ℕ) → byte_at cs (labels_at cs + label_bytes cs + j) ≡ byte_at bs (labels_at bs + label_bytes bs + j)

module _ {cs bs : List ℕ} (s : SameRows cs bs) where
  pub size_is : (i : ℕ) → i < 4 → byte_at cs i ≡ byte_at bs i
  size_is i h = s.first_is i (omega arith)

  -- the lengths that the sizes ask for, of both forms
  pub length_for_is : length_for (plan_of cs) ≡ length_for (plan_of bs)
  unfolding plan_of length_for
  length_for_is = rw (size_is 1 (omega arith), size_is 2 (omega arith), size_is 3 (omega arith))

  pub labelled_length_for_is : labelled_length_for (plan_of cs) ≡ labelled_length_for (plan_of bs)
  unfolding plan_of labelled_length_for
  labelled_length_for_is = ap₂ ◌+◌ length_for_is (size_is 0 (omega arith))

  pub same_turned : SameRows bs cs
  same_turned = record { first_is = λ i h. sym (s.first_is i (rw (← size_is 1 (omega arith)) h)); past_is = λ j. sym (s.past_is j) }

  -- ---- a row's bytes
  end_is : (r t : ℕ) → byte_at cs (ends_at cs r + t) ≡ byte_at bs (ends_at bs r + t)
  unfolding ends_at
  end_is r t = simp (← add_assoc) at (s.past_is (2 * r + t))

  datum_is : (r t : ℕ) → byte_at cs (data_at cs r + t) ≡ byte_at bs (data_at bs r + t)
  unfolding ends_at data_at
  datum_is r t = rw (size_is 2 (omega arith), size_is 3 (omega arith)) (simp (← add_assoc) at (s.past_is (2 * (byte_at bs 2 + byte_at bs 3) + 4 * r + t)))

  word_is : (r t : ℕ) → word_at cs (data_at cs r + t) ≡ word_at bs (data_at bs r + t)
  unfolding word_at
  word_is r t = ap₂ (λ (a b : ℕ). a * 256 + b) (datum_is r t) (simp add_assoc (datum_is r (t + 1)))

  row_is : (i : ℕ) → row_of_edge cs i ≡ row_of_edge bs i
  unfolding row_of_edge
  row_is i = cc (size_is 2 (omega arith))

  -- ---- what the rules see
  most_is : (i : ℕ) → most_at cs i ≡ most_at bs i
  unfolding most_at
  most_is i = word_is i 2

  weight_is : (i : ℕ) → word_at cs (data_at cs (row_of_edge cs i)) ≡ word_at bs (data_at bs (row_of_edge bs i))
  weight_is i = rw (row_is i) (simp add-zero at (word_is (row_of_edge bs i) 0))

  down_is : (i : ℕ) → down_at cs i ≡ down_at bs i
  unfolding down_at
  down_is i = ap down_of (weight_is i)

  largest_is : largest_of cs ≡ largest_of bs
  unfolding largest_of
  largest_is = ap₂ max (ap₂ greatest (λ t i. most_is i t) (size_is 2 (omega arith))) (ap₂ greatest (λ t i. down_is i t) (size_is 3 (omega arith)))

  pub spare_is : (i : ℕ) → spare_at cs i ≡ spare_at bs i
  unfolding spare_at
  spare_is i = rw (row_is i) (datum_is (row_of_edge bs i) 3)

  pub edges_are : (plan_of cs).edges ≡ (plan_of bs).edges
  unfolding plan_of
  edges_are = size_is 3 (omega arith)

  pub same_fewer : FewerRows (plan_of cs) (plan_of bs)
  unfolding plan_of
  same_fewer = record {
    points_are = size_is 0 (omega arith);
    propositions_are = size_is 1 (omega arith);
    links_are = size_is 2 (omega arith);
    observer_is = λ j h. s.first_is (4 + j) (omega (arith, size_is 1 (omega arith)));
    activation_is = λ i h. simp add-zero at (end_is i 0);
    finish_is = λ i h. end_is i 1;
    least_is = λ i h. simp add-zero at (word_is i 0);
    most_is = λ i h. most_is i;
    edge_among = λ i h. (i, rw (size_is 3 (omega arith)) at h, record { from_is = rw (row_is i) (simp add-zero at (end_is (row_of_edge bs i) 0)); to_is = rw (row_is i) (end_is (row_of_edge bs i) 1); up_is = ap up_of (weight_is i); down_is = down_is i; label_is = rw (row_is i) (datum_is (row_of_edge bs i) 2) });
    horizon_is = ap₂ ◌*◌ (size_is 0 (omega arith)) largest_is;
  }
