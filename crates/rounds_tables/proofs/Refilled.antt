-- A round from raised cells, point by point in any order: what is filled, what waits, and what is noted of each point.
use mathlib.Core.Path.{◌≡◌, refl, sym, ap, ap₂, subst, ◌∙◌}
use mathlib.Core.Bool.{Bool, false, not}
use mathlib.Core.List.{List, ◌++◌}
use Prim.Native.Nat.{ℕ, zero, suc, ◌+◌, ◌-◌, ◌*◌, ◌/◌, ◌%◌, ◌^◌, ◌≤◌, ◌<◌}
use native.Mathlib.Nat.{mod-lt, div-add-mod', div-lt_iff_lt-mul, mul-le-mul_right, suc-mul}
use native.Mathlib.Decide.{ℕ_discrete, dec_le}
use native.Mathlib.Omega.{arith}
use lib.Dec.{T as Is, eqb}
use lib.ListN.{length, get_or, set, take, drop, length-set, length-take, length-drop, length-append, get_or-append}
use lib.Seq.{get_or-set_same, get_or-set_other, get_or-take, get_or-drop, ext_get_or, length-take-le, get_or-append-add}
use borrow.Author.Tests.{eq-eqb}
use borrow.Rule.Slice.PartMut.{put_mid, same_len_mid}
use Rattle.plan.specs.LinkSet.{remove}
use Rattle.plan.specs.Plan.{Plan, width, cells}
use Rattle.rules.specs.Tables.{next}
use Rattle.rules_fill.specs.Parts.{part, point_cells, next_cells, laid_over, next_part}
use Rattle.rules_fill.proofs.PartLaws.{part_at}
use Rattle.rules_listed.specs.Places.{count_below}
use Rattle.rules_listed.specs.Notes.{raised_at, Noted}
use Rattle.rules_listed.proofs.Counting.{count_le, count_alike}
use Rattle.rounds_points.specs.PointSets.{In}
use Rattle.rounds_tables.specs.Ready.{Unaffected, NoNotes}
use Rattle.rounds_tables.specs.Known.{RoundNoted}

-- ---- a part that was lent from entry a on, k entries, and is back
module _ (a k : ℕ) (S Y : List ℕ) (inside : a + k ≤ length S) (sized : length Y ≡ k) where
  whole : length (take a S) ≡ a
  whole = length-take-le a S (omega arith)

  pub back_before : (c : ℕ) → c < a → get_or (put_mid a k S Y) c 0 ≡ get_or S c 0
  back_before c h = get_or-append (take a S) (Y ++ drop k (drop a S)) 0 c (rw whole h) ∙ get_or-take a S c 0 h

  pub back_at : (t : ℕ) → t < k → get_or (put_mid a k S Y) (a + t) 0 ≡ get_or Y t 0
  back_at t h = ap (λ (b : ℕ). get_or (put_mid a k S Y) (b + t) 0) (sym whole) ∙ get_or-append-add (take a S) (Y ++ drop k (drop a S)) t 0 ∙ get_or-append Y (drop k (drop a S)) 0 t (rw sized h)

  pub back_past : (c : ℕ) → a + k ≤ c → get_or (put_mid a k S Y) c 0 ≡ get_or S c 0
  back_past c h =
      let t = c - (a + k) in
      let e : c ≡ a + (k + t) = omega arith in
      ap (λ (d : ℕ). get_or (put_mid a k S Y) d 0) (e ∙ ap₂ (λ (b d : ℕ). b + (d + t)) (sym whole) (sym sized)) ∙ get_or-append-add (take a S) (Y ++ drop k (drop a S)) (length Y + t) 0 ∙ get_or-append-add Y (drop k (drop a S)) t 0
      ∙ get_or-drop k (drop a S) t 0 ∙ get_or-drop a S (k + t) 0 ∙ ap (λ (d : ℕ). get_or S d 0) (sym e)

-- ---- notes rest on the first w entries alone
none_noted : (f : ℕ → Bool) (n : ℕ) → ((c : ℕ) → c < n → f c ≡ false) → 0 ≡ count_below f n
unfolding count_below
none_noted f zero h = refl
none_noted f (suc n) h = rw (h n (omega arith)) (none_noted f n (λ c k. h c (omega arith)))

same_raised : (F F' : List ℕ) (own : ℕ) (B B' : List ℕ) (c : ℕ) → get_or F' (own + c) 0 ≡ get_or F (own + c) 0 → get_or B' c 0 ≡ get_or B c 0 → raised_at F' own B' c ≡ raised_at F own B c
unfolding raised_at
same_raised F F' own B B' c e f = ap₂ (λ (a b : ℕ). not (eqb a b)) f e

not_raised : (F : List ℕ) (own : ℕ) (B : List ℕ) (c : ℕ) → get_or B c 0 ≡ get_or F (own + c) 0 → raised_at F own B c ≡ false
unfolding raised_at
not_raised F own B c e = ap not (eq-eqb (get_or B c 0) (get_or F (own + c) 0) e)

module _ (w : ℕ) (F F' : List ℕ) (own : ℕ) (B B' N N' : List ℕ) (count : ℕ) where
  pub noted_same : Noted w F own B N count → own + w ≤ length F' → w ≤ length B' → w ≤ length N' → ((c : ℕ) → c < w → get_or F' (own + c) 0 ≡ get_or F (own + c) 0)
      → ((c : ℕ) → c < w → get_or B' c 0 ≡ get_or B c 0) → ((c : ℕ) → c < w → get_or N' c 0 ≡ get_or N c 0) → Noted w F' own B' N' count
  noted_same n lf lb ln ef eb en = record {
    table_long = lf;
    part_long = lb;
    notes_long = ln;
    no_lower = λ c h. rw (ef c h, eb c h) (n.no_lower c h);
    count_is = n.count_is ∙ sym (count_alike (raised_at F' own B') (raised_at F own B) w (λ c h. same_raised F F' own B B' c (ef c h) (eb c h)));
    within = λ i h. rw (en i (few i h)) (n.within i h);
    all_noted = λ c h r. let l = n.all_noted c h (subst Is (same_raised F F' own B B' c (ef c h) (eb c h)) r) in record { at = l.at; below = l.below; is = en (0 + l.at) (omega (arith, few l.at l.below)) ∙ l.is };
  }
    where
      few : (i : ℕ) → i < count → i < w
      few i h = omega (arith, n.count_is, count_le (raised_at F own B) w)

pub noted_nothing : (w : ℕ) (F : List ℕ) (own : ℕ) (B N : List ℕ) → own + w ≤ length F → w ≤ length B → w ≤ length N → ((c : ℕ) → c < w → get_or B c 0 ≡ get_or F (own + c) 0) → Noted w F own B N 0
noted_nothing w F own B N lf lb ln same = record {
  table_long = lf;
  part_long = lb;
  notes_long = ln;
  no_lower = λ c h. omega (arith, same c h);
  count_is = none_noted (raised_at F own B) w (λ c h. not_raised F own B c (same c h));
  within = λ i h. absurd (omega arith);
  all_noted = λ c h r. absurd (subst Is (not_raised F own B c (same c h)) r);
}

-- ---- the points one by one
module _ (P : Plan) (F G : List ℕ) (w set₀ : ℕ) where
  -- the points of `left` wait, with the cells of F, and the others have those of the next table; the table was G
  pub record Refilled (left : ℕ) (S N D : List ℕ) : Type 0 where
    pub left_in : (y : ℕ) → In left y → In set₀ y
    pub left_below : left < 2 ^ P.points
    pub waiting : (y t : ℕ) → y < P.points → t < w → In left y → get_or S (y * w + t) 0 ≡ get_or F (y * w + t) 0
    pub done : (y t : ℕ) → y < P.points → t < w → (In left y → ⊥) → get_or S (y * w + t) 0 ≡ get_or (next_cells P F) (y * w + t) 0
    pub noted_at : (y : ℕ) → y < P.points → Noted w F (y * w) (drop (y * w) S) (drop (y * w) N) (get_or D y 0)
    pub outside : (y : ℕ) → y < P.points → (In set₀ y → ⊥) → get_or D y 0 ≡ 0
    pub rest : (c : ℕ) → P.points * w ≤ c → get_or S c 0 ≡ get_or G c 0
    pub as_long : length S ≡ length G
    pub notes_long : P.points * w ≤ length N
    pub noted_long : P.points ≤ length D

  row : (y : ℕ) → y < P.points → y * w + w ≤ P.points * w
  row y h = rw suc-mul at (mul-le-mul_right w h)

  -- before the first
  module _ (ew : w ≡ width P) (long : P.points * w ≤ length F) (long_second : P.points * w ≤ length G) (same : take (cells P) G ≡ take (cells P) F) where
    all_cells : P.points * w ≡ cells P
    all_cells = ap (λ (v : ℕ). P.points * v) ew

    same_at : (c : ℕ) → c < P.points * w → get_or G c 0 ≡ get_or F c 0
    same_at c h = let k : c < cells P = omega (arith, all_cells) in sym (get_or-take (cells P) G c 0 k) ∙ ap (λ (l : List ℕ). get_or l c 0) same ∙ get_or-take (cells P) F c 0 k

    pub refilled_none : (N D : List ℕ) → set₀ < 2 ^ P.points → Unaffected P (take (cells P) F) set₀ → P.points * w ≤ length N → NoNotes P.points D → Refilled set₀ G N D
    refilled_none N D below keeps ln none = record {
      left_in = λ y h. h;
      left_below = below;
      waiting = λ y t h k i. same_at (y * w + t) (omega (arith, row y h));
      done = λ y t h k out. same_at (y * w + t) (omega (arith, row y h)) ∙ sym (kept y t h k out);
      noted_at = λ y h. subst (Noted w F (y * w) (drop (y * w) G) (drop (y * w) N)) (sym (none.none y h)) (noted_nothing w F (y * w) (drop (y * w) G) (drop (y * w) N) (omega (arith, row y h)) (simp length-drop (omega (arith, row y h))) (simp length-drop (omega (arith, row y h))) (λ c k. get_or-drop (y * w) G c 0 ∙ same_at (y * w + c) (omega (arith, row y h))));
      outside = λ y h o. none.none y h;
      rest = λ c h. refl;
      as_long = refl;
      notes_long = ln;
      noted_long = none.long;
    }
      where
        kept : (y t : ℕ) → y < P.points → t < w → (In set₀ y → ⊥) → get_or (next_cells P F) (y * w + t) 0 ≡ get_or F (y * w + t) 0
        kept y t h k out =
            let j : t < width P = rw ew at k in
            let at : (T : List ℕ) → get_or T (y * w + t) 0 ≡ get_or (part P y T) t 0 = λ T. ap (λ (v : ℕ). get_or T (y * v + t) 0) ew ∙ sym (part_at P y T t j) in
            at (next_cells P F) ∙ ap (λ (l : List ℕ). get_or l t 0) (keeps.keeps y h out) ∙ sym (at (take (cells P) F)) ∙ get_or-take (cells P) F (y * w + t) 0 (omega (arith, row y h, all_cells))

    -- one more
    module _ (left : ℕ) (S N D : List ℕ) (r : Refilled left S N D) (x : ℕ) (x_in : In left x) (inside : x < P.points) where
      pub part_cells : take w (drop (x * w) S) ≡ point_cells w x (take (cells P) F)
      part_cells = ext_get_or 0 (take w (drop (x * w) S)) (point_cells w x (take (cells P) F)) lengths at
        where
          lengths : length (take w (drop (x * w) S)) ≡ length (point_cells w x (take (cells P) F))
          lengths = simp (length-take, length-drop) (omega (arith, row x inside, r.as_long, all_cells))

          at : (t : ℕ) → t < length (take w (drop (x * w) S)) → get_or (take w (drop (x * w) S)) t 0 ≡ get_or (point_cells w x (take (cells P) F)) t 0
          at t h =
              let k : t < w = omega (arith, length-take w (drop (x * w) S)) in
              get_or-take w (drop (x * w) S) t 0 k ∙ get_or-drop (x * w) S t 0 ∙ r.waiting x t inside k x_in ∙ sym (get_or-take (cells P) F (x * w + t) 0 (omega (arith, row x inside, all_cells)))
              ∙ sym (get_or-drop (x * w) (take (cells P) F) t 0) ∙ sym (get_or-take w (drop (x * w) (take (cells P) F)) t 0 k)

      -- the part of the table, and of the notes, that come back
      module _ (Y Z : List ℕ) (count : ℕ) (ly : length Y ≡ length S - x * w) (lz : length Z ≡ w) (filled : Y ≡ next_part P x (take (cells P) F) (drop (x * w) S))
          (noted : Noted w (take (cells P) F) (x * w) Y Z count) (next_long : length (next_cells P F) ≡ cells P) (left' : ℕ) (left_is : left' ≡ remove left x)
          (in_less : (y : ℕ) → In (remove left x) y → In left y) (in_rest : (y : ℕ) → In left y → (y ≡ x → ⊥) → In (remove left x) y) (not_in : In (remove left x) x → ⊥) (less : left' < left) where
        S' : List ℕ
        S' = put_mid (x * w) (length S - x * w) S Y

        N' : List ℕ
        N' = put_mid (x * w) w N Z

        S-long : x * w + w ≤ length S
        S-long = omega (arith, row x inside, r.as_long)

        S-before : (c : ℕ) → c < x * w → get_or S' c 0 ≡ get_or S c 0
        unfolding S'
        S-before c h = back_before (x * w) (length S - x * w) S Y (omega (arith, S-long)) ly c h

        S-at : (t : ℕ) → x * w + t < length S → get_or S' (x * w + t) 0 ≡ get_or Y t 0
        unfolding S'
        S-at t h = back_at (x * w) (length S - x * w) S Y (omega (arith, S-long)) ly t (omega arith)

        -- the filled part: the point's next cells, and past them what was there
        cut_twice : take (cells P) (take (cells P) F) ≡ take (cells P) F
        cut_twice = ext_get_or 0 (take (cells P) (take (cells P) F)) (take (cells P) F) (simp length-take (omega arith)) (λ c h. get_or-take (cells P) (take (cells P) F) c 0 (omega (arith, length-take (cells P) (take (cells P) F))))

        row_cells : x * width P + width P ≤ cells P
        row_cells = rw suc-mul at (mul-le-mul_right (width P) inside)

        Y-is : Y ≡ part P x (next_cells P F) ++ drop (width P) (drop (x * w) S)
        Y-is = filled ∙ ap (λ (l : List ℕ). part P x (next P l) ++ drop (width P) (drop (x * w) S)) cut_twice

        head_long : length (part P x (next_cells P F)) ≡ w
        head_long = length-take-le (width P) (drop (x * width P) (next_cells P F)) (simp length-drop (omega (arith, row_cells, next_long))) ∙ sym ew

        S-point : (t : ℕ) → t < w → get_or S' (x * w + t) 0 ≡ get_or (next_cells P F) (x * w + t) 0
        S-point t h =
            S-at t (omega (arith, S-long)) ∙ ap (λ (l : List ℕ). get_or l t 0) Y-is ∙ get_or-append (part P x (next_cells P F)) (drop (width P) (drop (x * w) S)) 0 t (rw head_long h)
            ∙ part_at P x (next_cells P F) t (rw ew at h) ∙ ap (λ (v : ℕ). get_or (next_cells P F) (x * v + t) 0) (sym ew)

        S-past : (c : ℕ) → x * w + w ≤ c → get_or S' c 0 ≡ get_or S c 0
        unfolding S'
        S-past c h = go (dec_le (length S) c)
          where
            go : Dec (length S ≤ c) → get_or S' c 0 ≡ get_or S c 0
            go (yes k) = back_past (x * w) (length S - x * w) S Y (omega (arith, S-long)) ly c (omega (arith, S-long))
            go (no k) =
                let s = c - (x * w + w) in
                let e : c ≡ x * w + (w + s) = omega arith in
                ap (λ (d : ℕ). get_or S' d 0) e ∙ S-at (w + s) (omega arith) ∙ ap (λ (l : List ℕ). get_or l (w + s) 0) Y-is ∙ ap (λ (v : ℕ). get_or (part P x (next_cells P F) ++ drop (width P) (drop (x * w) S)) (v + s) 0) (sym head_long)
                ∙ get_or-append-add (part P x (next_cells P F)) (drop (width P) (drop (x * w) S)) s 0 ∙ get_or-drop (width P) (drop (x * w) S) s 0 ∙ get_or-drop (x * w) S (width P + s) 0 ∙ ap (λ (d : ℕ). get_or S d 0) (omega (arith, ew))

        N-long : x * w + w ≤ length N
        N-long = omega (arith, row x inside, r.notes_long)

        N-before : (c : ℕ) → c < x * w → get_or N' c 0 ≡ get_or N c 0
        unfolding N'
        N-before c h = back_before (x * w) w N Z N-long lz c h

        N-at : (t : ℕ) → t < w → get_or N' (x * w + t) 0 ≡ get_or Z t 0
        unfolding N'
        N-at t h = back_at (x * w) w N Z N-long lz t h

        N-past : (c : ℕ) → x * w + w ≤ c → get_or N' c 0 ≡ get_or N c 0
        unfolding N'
        N-past c h = back_past (x * w) w N Z N-long lz c h

        S'-length : length S' ≡ length S
        unfolding S'
        S'-length = same_len_mid (x * w) (length S - x * w) S Y (ly ∙ simp (length-take, length-drop) (omega arith))

        N'-length : length N' ≡ length N
        unfolding N'
        N'-length = same_len_mid (x * w) w N Z (lz ∙ simp (length-take, length-drop) (omega (arith, N-long)))

        -- another point's cells and notes stay
        other : (A B : List ℕ) → ((c : ℕ) → c < x * w → get_or A c 0 ≡ get_or B c 0) → ((c : ℕ) → x * w + w ≤ c → get_or A c 0 ≡ get_or B c 0) → (y t : ℕ) → (y ≡ x → ⊥) → t < w → get_or A (y * w + t) 0 ≡ get_or B (y * w + t) 0
        other A B lo hi y t ne h = go (dec_le (suc y) x)
          where
            go : Dec (suc y ≤ x) → get_or A (y * w + t) 0 ≡ get_or B (y * w + t) 0
            go (yes k) = lo (y * w + t) (omega (arith, rw suc-mul at (mul-le-mul_right w k)))
            go (no k) = hi (y * w + t) (omega (arith, past))
              where
                later : suc x ≤ y
                later = omega arith

                past : x * w + w ≤ y * w
                past = rw suc-mul at (mul-le-mul_right w later)

        noted_for : (y : ℕ) → y < P.points → Dec (y ≡ x) → Noted w F (y * w) (drop (y * w) S') (drop (y * w) N') (get_or (set D x count) y 0)
        noted_for y h (yes e) =
            let k : x < length D = omega (arith, r.noted_long) in
            subst (λ (z : ℕ). Noted w F (z * w) (drop (z * w) S') (drop (z * w) N') (get_or (set D x count) z 0)) (sym e)
            (subst (Noted w F (x * w) (drop (x * w) S') (drop (x * w) N')) (sym (get_or-set_same D x count 0 k))
            (noted_same w (take (cells P) F) F (x * w) Y (drop (x * w) S') Z (drop (x * w) N') count noted (omega (arith, row x inside)) (simp length-drop (omega (arith, S'-length, S-long))) (simp length-drop (omega (arith, N'-length, N-long)))
            (λ c j. sym (get_or-take (cells P) F (x * w + c) 0 (omega (arith, row x inside, all_cells)))) (λ c j. get_or-drop (x * w) S' c 0 ∙ S-at c (omega (arith, S-long))) (λ c j. get_or-drop (x * w) N' c 0 ∙ N-at c j)))
        noted_for y h (no e) =
            subst (Noted w F (y * w) (drop (y * w) S') (drop (y * w) N')) (sym (get_or-set_other D x y count 0 e))
            (noted_same w F F (y * w) (drop (y * w) S) (drop (y * w) S') (drop (y * w) N) (drop (y * w) N') (get_or D y 0) (r.noted_at y h) (omega (arith, row y h)) (simp length-drop (omega (arith, S'-length, row y h, r.as_long))) (simp length-drop (omega (arith, N'-length, row y h, r.notes_long)))
            (λ c j. refl) (λ c j. get_or-drop (y * w) S' c 0 ∙ other S' S S-before S-past y c e j ∙ sym (get_or-drop (y * w) S c 0)) (λ c j. get_or-drop (y * w) N' c 0 ∙ other N' N N-before N-past y c e j ∙ sym (get_or-drop (y * w) N c 0)))

        done_for : (y t : ℕ) → y < P.points → t < w → (In left' y → ⊥) → Dec (y ≡ x) → get_or S' (y * w + t) 0 ≡ get_or (next_cells P F) (y * w + t) 0
        done_for y t h k out (yes e) = subst (λ (z : ℕ). get_or S' (z * w + t) 0 ≡ get_or (next_cells P F) (z * w + t) 0) (sym e) (S-point t k)
        done_for y t h k out (no e) = other S' S S-before S-past y t e k ∙ r.done y t h k (λ i. out (rw left_is (in_rest y i e)))

        outside_for : (y : ℕ) → y < P.points → (In set₀ y → ⊥) → Dec (y ≡ x) → get_or (set D x count) y 0 ≡ 0
        outside_for y h out (yes e) = absurd (out (subst (In set₀) (sym e) (r.left_in x x_in)))
        outside_for y h out (no e) = get_or-set_other D x y count 0 e ∙ r.outside y h out

        pub refilled_more : Refilled left' (put_mid (x * w) (length S - x * w) S Y) (put_mid (x * w) w N Z) (set D x count)
        unfolding S' N'
        refilled_more = record {
          left_in = λ y h. r.left_in y (in_less y (rw left_is at h));
          left_below = omega (arith, r.left_below);
          waiting = λ y t h k i. other S' S S-before S-past y t (λ e. not_in (subst (In (remove left x)) e (rw left_is at i))) k ∙ r.waiting y t h k (in_less y (rw left_is at i));
          done = λ y t h k out. done_for y t h k out (ℕ_discrete y x);
          noted_at = λ y h. noted_for y h (ℕ_discrete y x);
          outside = λ y h out. outside_for y h out (ℕ_discrete y x);
          rest = λ c h. S-past c (omega (arith, row x inside)) ∙ r.rest c h;
          as_long = S'-length ∙ r.as_long;
          notes_long = omega (arith, N'-length, r.notes_long);
          noted_long = simp length-set r.noted_long;
        }

    -- after the last
    module _ (S N D : List ℕ) (r : Refilled 0 S N D) (none_in : (y : ℕ) → In 0 y → ⊥) (next_long : length (next_cells P F) ≡ cells P) where
      positive : 0 < w → (c : ℕ) → c < P.points * w → (c / w < P.points) × (c % w < w) × (c / w * w + c % w ≡ c)
      positive h c k = ((div-lt_iff_lt-mul h).1 k, mod-lt c h, div-add-mod' c w)

      at_cell : 0 < w → (c : ℕ) → c < P.points * w → get_or S c 0 ≡ get_or (next_cells P F) c 0
      at_cell h c k =
          let d = positive h c k in
          ap (λ (z : ℕ). get_or S z 0) (sym d.2) ∙ r.done (c / w) (c % w) d.0 d.1 (none_in (c / w)) ∙ ap (λ (z : ℕ). get_or (next_cells P F) z 0) d.2

      pub refilled_all : 0 < w → S ≡ laid_over (cells P) (next_cells P F) G
      unfolding laid_over
      refilled_all h = ext_get_or 0 S (laid_over (cells P) (next_cells P F) G) lengths (λ c k. at c (dec_le (suc c) (cells P)))
        where
          all_taken : length (take (cells P) (next_cells P F)) ≡ cells P
          all_taken = length-take-le (cells P) (next_cells P F) (omega (arith, next_long))

          lengths : length S ≡ length (take (cells P) (next_cells P F) ++ drop (cells P) G)
          lengths = r.as_long ∙ simp (length-append, length-take, length-drop) (omega (arith, all_cells, next_long))

          at : (c : ℕ) → Dec (suc c ≤ cells P) → get_or S c 0 ≡ get_or (take (cells P) (next_cells P F) ++ drop (cells P) G) c 0
          at c (yes k) = at_cell h c (omega (arith, all_cells)) ∙ sym (get_or-append (take (cells P) (next_cells P F)) (drop (cells P) G) 0 c (rw all_taken k) ∙ get_or-take (cells P) (next_cells P F) c 0 k)
          at c (no k) =
              let s = c - cells P in
              let e : c ≡ cells P + s = omega arith in
              r.rest c (omega (arith, all_cells)) ∙ ap (λ (d : ℕ). get_or G d 0) e ∙ sym (get_or-drop (cells P) G s 0) ∙ sym (get_or-append-add (take (cells P) (next_cells P F)) (drop (cells P) G) s 0) ∙ ap (λ (d : ℕ). get_or (take (cells P) (next_cells P F) ++ drop (cells P) G) d 0) (ap (λ (d : ℕ). d + s) all_taken ∙ sym e)

      pub refilled_noted : RoundNoted P.points w F S N D set₀
      refilled_noted = record { long = r.noted_long; at = r.noted_at; outside = r.outside }
