-- The two forms of a plan's bytes: with a label for each point, and without.
use mathlib.Core.Path.{◌≡◌, refl, sym, ap, ap₂, ◌∙◌}
use mathlib.Core.Bool.{◌||◌}
use mathlib.Core.List.{List, [], ◌++◌}
use mathlib.Core.Logic.{◌⊎◌, inl, inr, ⊎_elim}
use Prim.Native.Nat.{ℕ, ◌+◌, ◌≤◌, ◌<◌}
use native.Mathlib.Nat.{add-zero, add_assoc}
use native.Mathlib.Decide.{ℕ_discrete, dec_lt}
use native.Mathlib.Omega.{arith}
use lib.Dec.{T as Is, eqb}
use lib.Ieee.Fits.{eq→eqb}
use lib.ListN.{length, get_or, take, drop, replicate, length-append, length-replicate, get_or-replicate, length-drop, take-append-drop, get_or-append}
use lib.Seq.{length-take-le, get_or-take, get_or-drop, get_or-append-add, ext_get_or, take_at, drop_at, drop-append-add, drop-drop}
use borrow.Author.Tests.{eq-eqb, ne_eqb, lt-ltb, le-ltb}
use Rattle.plan.specs.Bytes.{byte_at}
use Rattle.plan.specs.Layout.{labels_at, label_bytes, plan_of, length_for, labelled_length_for, most_bytes}
use Rattle.plan.specs.Forms.{relabelled, with_labels, without_labels}
use Rattle.plan.specs.Refusal.{length_fits, refusal, Accepted}
use Rattle.plan.proofs.Truth.{or_left, or_right}
use Rattle.plan.proofs.Ranges.{Judged, judged, judged_none, one_length, accepted_bounded, accepted_spare}
use Rattle.plan.proofs.Fewer.{fewer_judged}
use Rattle.plan.proofs.SameRows.{SameRows, size_is, edges_are, spare_is, same_fewer}

module _ (bs : List ℕ) where
  pub labels_there : length bs ≡ labelled_length_for (plan_of bs) → label_bytes bs ≡ (plan_of bs).points
  unfolding plan_of labelled_length_for length_for label_bytes
  labels_there e = rw (eq-eqb _ _ e)

  pub labels_none : (length bs ≡ labelled_length_for (plan_of bs) → ⊥) → label_bytes bs ≡ 0
  unfolding plan_of labelled_length_for length_for label_bytes
  labels_none n = rw (ne_eqb _ _ n)

  pub labels_absent : length bs ≡ length_for (plan_of bs) → label_bytes bs ≡ 0
  unfolding labelled_length_for
  labels_absent e = go (ℕ_discrete (length bs) (labelled_length_for (plan_of bs)))
    where
      go : Dec (length bs ≡ labelled_length_for (plan_of bs)) → label_bytes bs ≡ 0
      go (yes l) = labels_there l ∙ omega arith
      go (no n) = labels_none n

  -- the label of a point
  pub label_there : (x : ℕ) → x < label_bytes bs → (plan_of bs).point_label x ≡ byte_at bs (labels_at bs + x)
  unfolding plan_of
  label_there x h = rw (lt-ltb x (label_bytes bs) h)

  pub label_none : (x : ℕ) → label_bytes bs ≤ x → (plan_of bs).point_label x ≡ 0
  unfolding plan_of
  label_none x h = rw (le-ltb x (label_bytes bs) h)

-- ---- bytes with other labels in place of those that they have
module _ (bs : List ℕ) (labels : List ℕ) (long : labels_at bs + label_bytes bs ≤ length bs) where
  abbrev new : List ℕ
  new = relabelled bs labels

  first_length : length (take (labels_at bs) bs) ≡ labels_at bs
  first_length = length-take-le (labels_at bs) bs (omega arith)

  pub new_length : length (relabelled bs labels) + label_bytes bs ≡ length bs + length labels
  new_length = rw (length-append, first_length, length-append, length-drop) (omega arith)

  pub first_byte : (i : ℕ) → i < labels_at bs → byte_at (relabelled bs labels) i ≡ byte_at bs i
  unfolding byte_at
  first_byte i h = get_or-append (take (labels_at bs) bs) _ 0 i (rw first_length h) ∙ get_or-take (labels_at bs) bs i 0 h

  past_byte : (j : ℕ) → byte_at (relabelled bs labels) (labels_at bs + j) ≡ get_or (labels ++ drop (labels_at bs + label_bytes bs) bs) j 0
  unfolding byte_at
  past_byte j = rw first_length at (get_or-append-add (take (labels_at bs) bs) (labels ++ drop (labels_at bs + label_bytes bs) bs) j 0)

  pub label_byte : (x : ℕ) → x < length labels → byte_at (relabelled bs labels) (labels_at bs + x) ≡ get_or labels x 0
  label_byte x h = past_byte x ∙ get_or-append labels _ 0 x h

  pub rest_byte : (j : ℕ) → byte_at (relabelled bs labels) (labels_at bs + (length labels + j)) ≡ byte_at bs (labels_at bs + label_bytes bs + j)
  unfolding byte_at
  rest_byte j = past_byte (length labels + j) ∙ get_or-append-add labels (drop (labels_at bs + label_bytes bs) bs) j 0 ∙ get_or-drop (labels_at bs + label_bytes bs) bs j 0

  -- the sizes stay, and so does where labels stand
  new_size : (i : ℕ) → i < 4 → byte_at (relabelled bs labels) i ≡ byte_at bs i
  new_size i h = first_byte i (omega arith)

  new_at : labels_at (relabelled bs labels) ≡ labels_at bs
  new_at = ap (λ (p : ℕ). 4 + p) (new_size 1 (omega arith))

  new_lengths : (length_for (plan_of (relabelled bs labels)) ≡ length_for (plan_of bs)) × ((plan_of (relabelled bs labels)).points ≡ (plan_of bs).points)
  unfolding plan_of length_for
  new_lengths = (rw (new_size 1 (omega arith), new_size 2 (omega arith), new_size 3 (omega arith)), new_size 0 (omega arith))

  -- where the new bytes have as many labels as were put there, they have the same rows
  module _ (put : label_bytes (relabelled bs labels) ≡ length labels) where
    pub new_same : SameRows (relabelled bs labels) bs
    new_same = record { first_is = first_byte; past_is = λ j. rw (new_at, put) (ap (byte_at new) (add_assoc (labels_at bs) (length labels) j) ∙ rest_byte j) }

    -- and labels put in place of these come in place of the first ones
    pub relabelled_twice : (more : List ℕ) → relabelled (relabelled bs labels) more ≡ relabelled bs more
    relabelled_twice more =
        rw (new_at, put) (ap₂ (λ (a b : List ℕ). a ++ (more ++ b)) (take_at (take (labels_at bs) bs) _ (labels_at bs) first_length) gone)
      where
        gone : drop (labels_at bs + length labels) (relabelled bs labels) ≡ drop (labels_at bs + label_bytes bs) bs
        gone = rw first_length at (drop-append-add (take (labels_at bs) bs) (labels ++ drop (labels_at bs + label_bytes bs) bs) (length labels)) ∙ drop_at labels _ (length labels) refl

-- the labels that bytes have, put in their place
relabelled_own : (bs : List ℕ) → relabelled bs (take (label_bytes bs) (drop (labels_at bs) bs)) ≡ bs
relabelled_own bs =
    ap (λ (l : List ℕ). take (labels_at bs) bs ++ (take (label_bytes bs) (drop (labels_at bs) bs) ++ l)) (sym (drop-drop (label_bytes bs) (labels_at bs) bs))
    ∙ ap (λ (l : List ℕ). take (labels_at bs) bs ++ l) (take-append-drop (label_bytes bs) (drop (labels_at bs) bs)) ∙ take-append-drop (labels_at bs) bs

-- ---- an accepted plan in the other form
module _ (bs : List ℕ) (accepted : Accepted bs) where
  judged_is : Judged bs (plan_of bs)
  unfolding refusal
  judged_is = judged bs (plan_of bs) accepted

  pub accepted_length : length bs ≡ length_for (plan_of bs) + label_bytes bs
  unfolding labelled_length_for
  accepted_length = go (ℕ_discrete (length bs) (labelled_length_for (plan_of bs)))
    where
      go : Dec (length bs ≡ labelled_length_for (plan_of bs)) → length bs ≡ length_for (plan_of bs) + label_bytes bs
      go (yes e) = rw (labels_there bs e) e
      go (no n) = ⊎_elim (λ e. rw (labels_none bs n) (e ∙ sym (add-zero _))) (λ e. absurd (n e)) (one_length bs (plan_of bs) judged_is.long)

  pub accepted_short : length bs ≤ most_bytes
  unfolding length_for labelled_length_for
  accepted_short = let b = accepted_bounded bs accepted in ⊎_elim (λ e. omega arith) (λ e. omega arith) (one_length bs (plan_of bs) judged_is.long)

  pub reaches : labels_at bs + label_bytes bs ≤ length bs
  unfolding plan_of length_for
  reaches = omega (arith, accepted_length)

  -- as many labels as there are points, or none
  module _ (labels : List ℕ) (few : (length labels ≡ (plan_of bs).points) ⊎ (length labels ≡ 0)) where
    abbrev cs : List ℕ
    cs = relabelled bs labels

    cs_length : length (relabelled bs labels) ≡ length_for (plan_of (relabelled bs labels)) + length labels
    cs_length = rw (new_lengths bs labels reaches).0 (omega (arith, new_length bs labels reaches, accepted_length))

    cs_fits : Is (length_fits (relabelled bs labels) (plan_of (relabelled bs labels)))
    unfolding length_fits labelled_length_for
    cs_fits = go few
      where
        go : (length labels ≡ (plan_of bs).points) ⊎ (length labels ≡ 0) → Is (eqb (length cs) (length_for (plan_of cs)) || eqb (length cs) (length_for (plan_of cs) + (plan_of cs).points))
        go (inl e) = or_right (eqb (length cs) (length_for (plan_of cs))) (eqb (length cs) (length_for (plan_of cs) + (plan_of cs).points)) (let q : length cs ≡ length_for (plan_of cs) + (plan_of cs).points = omega (arith, cs_length, (new_lengths bs labels reaches).1) in eq→eqb q)
        go (inr e) = or_left (eqb (length cs) (length_for (plan_of cs))) (eqb (length cs) (length_for (plan_of cs) + (plan_of cs).points)) (let q : length cs ≡ length_for (plan_of cs) = omega (arith, cs_length) in eq→eqb q)

    cs_labels : label_bytes (relabelled bs labels) ≡ length labels
    unfolding labelled_length_for
    cs_labels =
        let n = (new_lengths bs labels reaches).1 in
        ⊎_elim (λ e. labels_there cs (omega (arith, cs_length)) ∙ n ∙ sym e) (λ e. labels_absent cs (omega (arith, cs_length)) ∙ sym e) few

    pub other_same : SameRows (relabelled bs labels) bs
    other_same = new_same bs labels reaches cs_labels

    pub other_length : length (relabelled bs labels) ≡ length_for (plan_of bs) + length labels
    other_length = cs_length ∙ ap (λ (n : ℕ). n + length labels) (new_lengths bs labels reaches).0

    pub other_twice : (more : List ℕ) → relabelled (relabelled bs labels) more ≡ relabelled bs more
    other_twice = relabelled_twice bs labels reaches cs_labels

    module _ (none : (x : ℕ) → x < length labels → get_or labels x 0 ≡ 0) where
      other_none : (x : ℕ) → (plan_of (relabelled bs labels)).point_label x ≡ 0
      other_none x = go (dec_lt x (length labels))
        where
          go : Dec (x < length labels) → (plan_of cs).point_label x ≡ 0
          go (yes h) = label_there cs x (rw cs_labels h) ∙ ap (λ (p : ℕ). byte_at cs (p + x)) (new_at bs labels reaches) ∙ label_byte bs labels reaches x h ∙ none x h
          go (no h) = label_none cs x (rw cs_labels (omega arith))

      pub other_accepted : Accepted (relabelled bs labels)
      unfolding refusal
      other_accepted =
          let s = other_same in
          let f = same_fewer s in
          let e : (plan_of cs).edges ≡ (plan_of bs).edges = edges_are s in
          judged_none cs (plan_of cs) (fewer_judged (plan_of cs) (plan_of cs).horizon f cs bs judged_is (rw e (accepted_bounded bs accepted).edges_in) cs_fits (λ i h. spare_is s i ∙ accepted_spare bs accepted i (rw e at h)) other_none)

  -- ---- without labels
  no_labels : (length {A = ℕ} [] ≡ (plan_of bs).points) ⊎ (length {A = ℕ} [] ≡ 0)
  no_labels = inr refl

  pub without_same : SameRows (without_labels bs) bs
  unfolding without_labels
  without_same = other_same [] no_labels

  pub without_length : length (without_labels bs) ≡ length_for (plan_of bs)
  unfolding without_labels
  without_length = other_length [] no_labels ∙ add-zero _

  pub without_accepted : Accepted (without_labels bs)
  unfolding without_labels
  without_accepted = other_accepted [] no_labels (λ x h. absurd (omega arith))

  -- ---- with a label 0 for each point
  abbrev zeros : List ℕ
  zeros = replicate (byte_at bs 0) 0

  zero_labels : (length zeros ≡ (plan_of bs).points) ⊎ (length zeros ≡ 0)
  unfolding plan_of
  zero_labels = inl (length-replicate (byte_at bs 0) 0)

  zeros_are : (x : ℕ) → x < length zeros → get_or zeros x 0 ≡ 0
  zeros_are x h = get_or-replicate (byte_at bs 0) x 0 0 (rw length-replicate at h)

  pub with_same : SameRows (with_labels bs) bs
  unfolding with_labels
  with_same = other_same zeros zero_labels

  pub with_none : (x : ℕ) → (plan_of (with_labels bs)).point_label x ≡ 0
  unfolding with_labels
  with_none = other_none zeros zero_labels zeros_are

  pub with_length : length (with_labels bs) ≡ labelled_length_for (plan_of bs)
  unfolding plan_of with_labels labelled_length_for
  with_length = other_length zeros zero_labels ∙ ap (λ (n : ℕ). length_for (plan_of bs) + n) (length-replicate (byte_at bs 0) 0)

  pub with_accepted : Accepted (with_labels bs)
  unfolding with_labels
  with_accepted = other_accepted zeros zero_labels zeros_are

  -- ---- there and back
  pub without_with : label_bytes bs ≡ 0 → without_labels (with_labels bs) ≡ bs
  unfolding without_labels with_labels
  without_with e = other_twice zeros zero_labels [] ∙ ap (relabelled bs) nothing ∙ relabelled_own bs
    where
      nothing : [] ≡ take (label_bytes bs) (drop (labels_at bs) bs)
      nothing = rw e

  module _ (e : label_bytes bs ≡ (plan_of bs).points) (none : (x : ℕ) → x < (plan_of bs).points → (plan_of bs).point_label x ≡ 0) where
    own_length : length (take (label_bytes bs) (drop (labels_at bs) bs)) ≡ label_bytes bs
    own_length = length-take-le (label_bytes bs) (drop (labels_at bs) bs) (rw length-drop (omega (arith, reaches)))

    own_label : (i : ℕ) → i < label_bytes bs → get_or (take (label_bytes bs) (drop (labels_at bs) bs)) i 0 ≡ 0
    unfolding byte_at
    own_label i h = get_or-take (label_bytes bs) (drop (labels_at bs) bs) i 0 h ∙ get_or-drop (labels_at bs) bs i 0 ∙ sym (label_there bs i h) ∙ none i (rw e at h)

    own_zeros : take (label_bytes bs) (drop (labels_at bs) bs) ≡ zeros
    unfolding plan_of
    own_zeros = ext_get_or 0 _ _ (own_length ∙ e ∙ sym (length-replicate (byte_at bs 0) 0)) (λ i h. let k = rw own_length at h in own_label i k ∙ sym (get_or-replicate (byte_at bs 0) i 0 0 (rw e at k)))

    pub with_without : with_labels (without_labels bs) ≡ bs
    unfolding without_labels with_labels
    with_without =
        let same : replicate (byte_at (relabelled bs []) 0) 0 ≡ zeros = ap (λ (n : ℕ). replicate n 0) (size_is without_same 0 (omega arith)) in
        other_twice [] no_labels (replicate (byte_at (relabelled bs []) 0) 0) ∙ ap (relabelled bs) (same ∙ sym own_zeros) ∙ relabelled_own bs
