-- After any number of listed rounds the 16-bit table has for every cell that holds a line the number of just that line.
use mathlib.Core.Path.{◌≡◌, refl, sym, ap, ◌∙◌}
use mathlib.Core.Bool.{Bool, true, false, cond}
use mathlib.Core.List.{List, [], ◌∷◌, ◌++◌, append-nil, append_assoc}
use Prim.Native.Nat.{ℕ, zero, suc, ◌+◌, ◌*◌, ◌-◌, ◌/◌, ◌%◌, ◌^◌, ◌≤◌, ◌<◌}
use native.Mathlib.Nat.{div-add-mod', div-lt_iff_lt-mul, one-le-mul, mul_assoc}
use native.Mathlib.Decide.{dec_lt}
use native.Mathlib.Omega.{arith}
use lib.Dec.{T as Is, ltb, eqb→eq}
use lib.ListN.{length, get_or, length-append, get_or-append, get_or-replicate}
use lib.Pow.{pow_pos}
use lib.Seq.{get_or-append_seam}
use borrow.Author.Tests.{lt-ltb, le-ltb, ltb-false, eq-eqb}
use Rattle.plan.specs.Plan.{Plan, width, cells}
use Rattle.plan.proofs.LabelLaws.{four_pos}
use Rattle.plan.proofs.Ranges.{WellFormed}
use Rattle.rules.specs.declared.Line.{Line}
use Rattle.rules.specs.Lines.{cell_of, line_at, starting_line}
use Rattle.rules.proofs.Cells.{cell_at, line_at_lem}
use Rattle.rules.proofs.Monotone.{waiting}
use Rattle.rules.proofs.Next.{next_is}
use Rattle.rules_ground.specs.Grounds.{holds_line}
use Rattle.rounds_making.specs.Rounds.{zeros}
use Rattle.rounds_making.proofs.TableLengths.{table_length}
use Rattle.listing_lines.specs.Listed.{table, cell_lines, raised_lines, lines_to, index_at}
use Rattle.listing_lines.proofs.IndexLaws.{index_new, index_old}

module _ (P : Plan) where
  -- the line that a number names among starting lines and some listed lines
  abbrev pub line_numbered : List Line → ℕ → Line
  line_numbered ls q = cond (ltb q P.points) (starting_line q) (get_or ls (q - P.points) (starting_line 0))

  -- cell c's number names the line that T holds there, if it holds one
  pub record KnownAt (ls : List Line) (T : List ℕ) (c : ℕ) : Type 0 where
    pub stands : Is (holds_line P T c) → index_at P ls c < P.points + length ls
    pub is_line : Is (holds_line P T c) → line_numbered ls (index_at P ls c) ≡ line_at P T c

  -- ---- one line more
  numbered_on : (ls : List Line) (l : Line) (q : ℕ) → q < P.points + length ls → line_numbered (ls ++ (l ∷ [])) q ≡ line_numbered ls q
  numbered_on ls l q h = go (ltb q P.points) refl
    where
      go : (b : Bool) → ltb q P.points ≡ b → cond b (starting_line q) (get_or (ls ++ (l ∷ [])) (q - P.points) (starting_line 0)) ≡ cond b (starting_line q) (get_or ls (q - P.points) (starting_line 0))
      go true e = refl
      go false e = get_or-append ls (l ∷ []) (starting_line 0) (q - P.points) (omega (arith, ltb-false q P.points e))

  numbered_last : (ls : List Line) (l : Line) → line_numbered (ls ++ (l ∷ [])) (P.points + length ls) ≡ l
  numbered_last ls l =
      let a : P.points ≤ P.points + length ls = omega arith in
      let b : P.points + length ls - P.points ≡ length ls = omega arith in
      rw (le-ltb (P.points + length ls) P.points a, b) (get_or-append_seam ls l [] (starting_line 0))

  longer : (ls : List Line) (l : Line) → length (ls ++ (l ∷ [])) ≡ suc (length ls)
  longer ls l = length-append ls (l ∷ []) ∙ omega arith

  known_other : (ls : List Line) (l : Line) (T : List ℕ) (c : ℕ) → (cell_of P l ≡ c → ⊥) → KnownAt ls T c → KnownAt (ls ++ (l ∷ [])) T c
  known_other ls l T c d k = record {
    stands = λ h. let z = k.stands h in omega (arith, index_old P ls l c d, longer ls l);
    is_line = λ h. ap (line_numbered (ls ++ (l ∷ []))) (index_old P ls l c d) ∙ numbered_on ls l (index_at P ls c) (k.stands h) ∙ k.is_line h;
  }

  known_new : (ls : List Line) (U : List ℕ) (c : ℕ) → KnownAt (ls ++ (line_at P U c ∷ [])) U c
  known_new ls U c =
      let e = index_new P ls (line_at P U c) c (cell_at P U c) in
      record { stands = λ h. omega (arith, e, longer ls (line_at P U c)); is_line = λ h. ap (line_numbered (ls ++ (line_at P U c ∷ []))) e ∙ numbered_last ls (line_at P U c) }

  -- ---- the lines of a round from T to U, one cell after the other
  module _ (T U : List ℕ) where
    pub raised_more : (ls : List Line) (n : ℕ) → get_or T n 0 < get_or U n 0 → ls ++ raised_lines P T U (suc n) ≡ (ls ++ raised_lines P T U n) ++ (line_at P U n ∷ [])
    unfolding raised_lines cell_lines
    raised_more ls n h = rw (lt-ltb (get_or T n 0) (get_or U n 0) h) (sym (append_assoc ls (raised_lines P T U n) (line_at P U n ∷ [])))

    pub raised_none : (ls : List Line) (n : ℕ) → get_or U n 0 ≤ get_or T n 0 → ls ++ raised_lines P T U (suc n) ≡ ls ++ raised_lines P T U n
    unfolding raised_lines cell_lines
    raised_none ls n h = rw (le-ltb (get_or T n 0) (get_or U n 0) h) (ap (λ (x : List Line). ls ++ x) (append-nil (raised_lines P T U n)))

    -- cells other than c leave c's number
    known_past : (ls : List Line) (A : List ℕ) (c n : ℕ) → (n ≡ c → ⊥) → KnownAt (ls ++ raised_lines P T U n) A c → KnownAt (ls ++ raised_lines P T U (suc n)) A c
    known_past ls A c n d k = go (dec_lt (get_or T n 0) (get_or U n 0))
      where
        go : Dec (get_or T n 0 < get_or U n 0) → KnownAt (ls ++ raised_lines P T U (suc n)) A c
        go (yes h) = rw (raised_more ls n h) (known_other (ls ++ raised_lines P T U n) (line_at P U n) A c (λ e. d (sym (cell_at P U n) ∙ e)) k)
        go (no h) = rw (raised_none ls n (omega arith)) k

    known_pasts : (ls : List Line) (A : List ℕ) (c i n : ℕ) → ((k : ℕ) → i ≤ k → k < i + n → k ≡ c → ⊥) → KnownAt (ls ++ raised_lines P T U i) A c → KnownAt (ls ++ raised_lines P T U (i + n)) A c
    known_pasts ls A c i zero d k = let e : i + 0 ≡ i = omega arith in rw e k
    known_pasts ls A c i (suc n) d k =
        let e : i + suc n ≡ suc (i + n) = omega arith in
        rw e (known_past ls A c (i + n) (d (i + n) (omega arith) (omega arith)) (known_pasts ls A c i n (λ j a b. d j a (omega arith)) k))

    -- a cell that is not raised holds what it held
    module _ (c : ℕ) (same : get_or U c 0 ≡ get_or T c 0) where
      held_same : holds_line P U c ≡ holds_line P T c
      unfolding holds_line
      held_same = rw same refl

      line_same : line_at P U c ≡ line_at P T c
      line_same = rw same refl

      known_same : (ls : List Line) → KnownAt ls T c → KnownAt ls U c
      known_same ls k = record { stands = λ h. k.stands (rw held_same at h); is_line = λ h. k.is_line (rw held_same at h) ∙ sym line_same }

    -- the cell's own turn
    known_here : (ls : List Line) (c : ℕ) → get_or T c 0 ≤ get_or U c 0 → KnownAt (ls ++ raised_lines P T U c) T c → KnownAt (ls ++ raised_lines P T U (suc c)) U c
    known_here ls c m k = go (dec_lt (get_or T c 0) (get_or U c 0))
      where
        go : Dec (get_or T c 0 < get_or U c 0) → KnownAt (ls ++ raised_lines P T U (suc c)) U c
        go (yes h) = rw (raised_more ls c h) (known_new (ls ++ raised_lines P T U c) U c)
        go (no h) = rw (raised_none ls c (omega arith)) (known_same c (omega arith) (ls ++ raised_lines P T U c) k)

    known_round : (ls : List Line) (c n : ℕ) → c < n → get_or T c 0 ≤ get_or U c 0 → KnownAt ls T c → KnownAt (ls ++ raised_lines P T U n) U c
    unfolding raised_lines
    known_round ls c n h m k =
        let a : KnownAt (ls ++ raised_lines P T U 0) T c = rw (append-nil ls) k in
        let b : KnownAt (ls ++ raised_lines P T U (0 + c)) T c = known_pasts ls T c 0 c (λ j x y. λ z. omega arith) a in
        let e : 0 + c ≡ c = omega arith in
        let d : KnownAt (ls ++ raised_lines P T U (suc c)) U c = known_here ls c m (rw e at b) in
        let f : suc c + (n - suc c) ≡ n = omega arith in
        rw f at (known_pasts ls U c (suc c) (n - suc c) (λ j x y. λ z. omega arith) d)

  -- ---- all rounds
  module _ (wf : WellFormed P) where
    width_pos : 0 < width P
    width_pos = one-le-mul (pow_pos _) (four_pos _)

    -- before the first round only starting cells hold lines, and their numbers are their points'
    module _ (c : ℕ) (inside : c < cells P) where
      point_in : c / width P < P.points
      point_in = (div-lt_iff_lt-mul width_pos).1 inside

      none_yet : get_or (zeros P) c 0 ≡ 0
      none_yet = get_or-replicate (cells P) c 0 0 inside

      is_starting : Is (holds_line P (zeros P) c) → c % width P ≡ 0
      unfolding holds_line
      is_starting h = eqb→eq (c % width P) 0 (rw none_yet at h)

      module _ (e : c % width P ≡ 0) where
        cell_is : cell_of P (starting_line (c / width P)) ≡ c
        cell_is =
            let m = mul_assoc (c / width P) (2 ^ P.links) (4 ^ P.propositions) in
            let z : c / width P * 2 ^ P.links + 0 ≡ c / width P * 2 ^ P.links = omega arith in
            rw z (omega (arith, m, div-add-mod' c (width P), e))

        starting_cell : line_at P (zeros P) c ≡ starting_line (c / width P)
        starting_cell =
            ap (line_at P (zeros P)) (sym cell_is) ∙ line_at_lem P (zeros P) (starting_line (c / width P)) (record { point_in = point_in; set_in = pow_pos _; label_in = four_pos _ })
            ∙ ap (λ (x : ℕ). waiting (starting_line (c / width P)) (get_or (zeros P) x 0)) cell_is ∙ ap (waiting (starting_line (c / width P))) none_yet

        starting_number : index_at P [] c ≡ c / width P
        unfolding index_at
        starting_number = rw (eq-eqb (c % width P) 0 e) refl

      known_start : KnownAt [] (zeros P) c
      known_start = record {
        stands = λ h. omega (arith, starting_number (is_starting h), point_in);
        is_line = λ h. ap (line_numbered []) (starting_number (is_starting h)) ∙ rw (lt-ltb (c / width P) P.points point_in) (sym (starting_cell (is_starting h)));
      }

    pub known_table : (r c : ℕ) → c < cells P → KnownAt (lines_to P r) (table P r) c
    unfolding lines_to
    known_table zero c h = known_start c h
    known_table (suc r) c h = known_round (table P r) (table P (suc r)) (lines_to P r) c (cells P) h ((next_is P wf (table P r) (table_length P wf r)).no_lower c h) (known_table r c h)
