-- Lines written into a listing stay and derive while further lines are written after them.
use mathlib.Core.Path.{◌≡◌, refl, sym, ap, subst, ◌∙◌}
use mathlib.Core.Bool.{Bool, true, false, cond}
use mathlib.Core.List.{List, [], ◌∷◌, ◌++◌}
use Prim.Native.Nat.{ℕ, ◌+◌, ◌-◌, ◌<◌}
use native.Mathlib.Decide.{dec_lt}
use native.Mathlib.Omega.{arith}
use lib.Dec.{T as Is, ltb}
use lib.ListN.{length, get_or, length-append, get_or-append}
use lib.Seq.{get_or-append-add}
use borrow.Author.Tests.{ltb-false}
use Rattle.plan.specs.Plan.{Plan, cells}
use Rattle.rules.specs.declared.Ground.{Ground}
use Rattle.rules.specs.declared.Line.{Line}
use Rattle.rules.specs.declared.Rule.{Rule}
use Rattle.rules.specs.declared.Rule.TheVariants.{Propagation, LowerCase, UpperCase, LetterRemoval, OwnLiteral, LiteralRemoval}
use Rattle.rules.specs.Lines.{line_at, starting_line}
use Rattle.rules.specs.Rules.{fires, result, uses_second}
use Rattle.rules.proofs.InRange.{InRange}
use Rattle.rules_ground.specs.Grounds.{holds_line, Grounds}
use Rattle.replay.specs.Listings.{head_line, first_parent, second_parent, parent_line}
use Rattle.replay.specs.Derives.{LineDerives}
use Rattle.listing_write.specs.Entry.{SameFields, LinePut}
use Rattle.listing_lines.specs.Listed.{index_at, index_table}
use Rattle.listing_write.specs.Progress.{CellsNumbered, Appended}
use Rattle.listing_write.specs.Entries.{numbered_by}
use Rattle.listing_lines.proofs.IndexLaws.{index_length, index_at_lem}
use Rattle.listing_lines.proofs.IndexNumbers.{line_numbered, KnownAt}

-- a number that is 0 where it is not used is below n either way
below_either : (u : Bool) (x n : ℕ) → 0 < n → (Is u → x < n) → ((Is u → ⊥) → x ≡ 0) → x < n
below_either true x n h f g = f tt
below_either false x n h f g = omega (arith, g (λ t. t))

-- a rule of one parent ignores the second
pub record Ignores (P : Plan) (r : Rule) : Type 0 where
  pub fires_same : (l m n : Line) → fires P r l m ≡ fires P r l n
  pub result_same : (l m n : Line) → result P r l m ≡ result P r l n

module _ (P : Plan) where
  pub second_ignored : (r : Rule) → (Is (uses_second r) → ⊥) → Ignores P r
  second_ignored (Propagation e) h = record { fires_same = λ l m n. refl; result_same = λ l m n. refl }
  second_ignored (LowerCase i) h = record { fires_same = λ l m n. refl; result_same = λ l m n. refl }
  second_ignored (UpperCase i) h = record { fires_same = λ l m n. refl; result_same = λ l m n. refl }
  second_ignored (LetterRemoval i) h = absurd (h tt)
  second_ignored (OwnLiteral j) h = record { fires_same = λ l m n. refl; result_same = λ l m n. refl }
  second_ignored (LiteralRemoval j) h = absurd (h tt)

  -- ---- a line derives in any bytes that agree on it and on the lines before it
  module _ (some_point : 0 < P.points) (bs cs : List ℕ) (i : ℕ) (same : (j : ℕ) → j < i → SameFields bs cs j) where
    pub parent_kept : (q : ℕ) → q < P.points + i → parent_line P cs q ≡ parent_line P bs q
    parent_kept q h = go (ltb q P.points) refl
      where
        go : (b : Bool) → ltb q P.points ≡ b → cond b (starting_line q) (head_line cs (q - P.points)) ≡ cond b (starting_line q) (head_line bs (q - P.points))
        go true e = refl
        go false e = (same (q - P.points) (omega (arith, ltb-false q P.points e))).same_line

    derive_kept : SameFields bs cs i → LineDerives P bs i → LineDerives P cs i
    derive_kept s d =
        let below_second = below_either (uses_second d.rule) (second_parent bs i) (P.points + i) (omega arith) d.second_known d.second_unused in
        let first_line_lem : parent_line P cs (first_parent cs i) ≡ parent_line P bs (first_parent bs i) = ap (parent_line P cs) s.same_first ∙ parent_kept (first_parent bs i) d.first_known in
        let second_line : parent_line P cs (second_parent cs i) ≡ parent_line P bs (second_parent bs i) = ap (parent_line P cs) s.same_second ∙ parent_kept (second_parent bs i) below_second in
        record {
          point_in = rw s.same_line d.point_in;
          set_in = rw s.same_line d.set_in;
          label_in = rw s.same_line d.label_in;
          rule = d.rule;
          named = rw (s.same_rule, s.same_row) d.named;
          first_known = rw s.same_first d.first_known;
          second_known = λ u. rw s.same_second (d.second_known u);
          second_unused = λ u. s.same_second ∙ d.second_unused u;
          fire = rw (first_line_lem, second_line) d.fire;
          gave = rw (first_line_lem, second_line) d.gave ∙ sym s.same_line;
        }

  -- ---- lines after lines
  pub append_none : (at : ℕ) (bs : List ℕ) → Appended P at [] bs bs
  append_none at bs = record {
    as_long = refl;
    counted = refl;
    kept = λ j h. record { same_line = refl; same_rule = refl; same_row = refl; same_first = refl; same_second = refl };
    heads = λ j h. absurd (omega arith);
    derive = λ j h. absurd (omega arith);
  }

  same_then : (bs cs ds : List ℕ) (j : ℕ) → SameFields bs cs j → SameFields cs ds j → SameFields bs ds j
  same_then bs cs ds j s t = record { same_line = t.same_line ∙ s.same_line; same_rule = t.same_rule ∙ s.same_rule; same_row = t.same_row ∙ s.same_row; same_first = t.same_first ∙ s.same_first; same_second = t.same_second ∙ s.same_second }

  pub append_then : 0 < P.points → (at : ℕ) (ks js : List Line) (bs cs ds : List ℕ) (to : ℕ) → to ≡ at + length ks → Appended P at ks bs cs → Appended P to js cs ds → Appended P at (ks ++ js) bs ds
  append_then z at ks js bs cs ds to e s t = record {
    as_long = t.as_long ∙ s.as_long;
    counted = t.counted ∙ s.counted;
    kept = λ j h. same_then bs cs ds j (s.kept j h) (t.kept j (omega arith));
    heads = λ j h. head j h (dec_lt j (length ks));
    derive = λ j h. line j h (dec_lt j (length ks));
  }
    where
      both : length (ks ++ js) ≡ length ks + length js
      both = length-append ks js

      -- the second part's line that is line j of both
      over : (j : ℕ) → (j < length ks → ⊥) → length ks + (j - length ks) ≡ j
      over j h = omega arith

      there : (j : ℕ) → (j < length ks → ⊥) → to + (j - length ks) ≡ at + j
      there j h = omega arith

      head : (j : ℕ) → j < length (ks ++ js) → Dec (j < length ks) → head_line ds (at + j) ≡ get_or (ks ++ js) j (starting_line 0)
      head j h (yes q) = (t.kept (at + j) (omega arith)).same_line ∙ s.heads j q ∙ sym (get_or-append ks js (starting_line 0) j q)
      head j h (no q) =
          ap (head_line ds) (sym (there j q)) ∙ t.heads (j - length ks) (omega (arith, both)) ∙ sym (get_or-append-add ks js (j - length ks) (starting_line 0)) ∙ ap (λ (k : ℕ). get_or (ks ++ js) k (starting_line 0)) (over j q)

      line : (j : ℕ) → j < length (ks ++ js) → Dec (j < length ks) → LineDerives P ds (at + j)
      line j h (yes q) = derive_kept z cs ds (at + j) (λ k m. t.kept k (omega arith)) (t.kept (at + j) (omega arith)) (s.derive j q)
      line j h (no q) = subst (LineDerives P ds) (there j q) (t.derive (j - length ks) (omega (arith, both)))

  -- ---- the 16-bit table of lines that are written
  pub cells_numbered : (ls : List Line) (T bs cs : List ℕ) → ((c : ℕ) → c < cells P → KnownAt P ls T c) → Appended P 0 ls bs cs → CellsNumbered P T (index_table P ls) cs (length ls)
  cells_numbered ls T bs cs k s = record {
    sized = index_length P ls;
    in_lines = λ c h t. rw (index_at_lem P ls c h) ((k c h).stands t);
    is_line = λ c h t. ap (parent_line P cs) (index_at_lem P ls c h) ∙ named (index_at P ls c) ((k c h).stands t) ∙ (k c h).is_line t;
  }
    where
      named : (q : ℕ) → q < P.points + length ls → parent_line P cs q ≡ line_numbered P ls q
      named q h = go (ltb q P.points) refl
        where
          go : (b : Bool) → ltb q P.points ≡ b → cond b (starting_line q) (head_line cs (q - P.points)) ≡ cond b (starting_line q) (get_or ls (q - P.points) (starting_line 0))
          go true e = refl
          go false e = let z : 0 + (q - P.points) ≡ q - P.points = omega arith in ap (head_line cs) (sym z) ∙ s.heads (q - P.points) (omega (arith, ltb-false q P.points e))

  -- lines written after them leave it right
  pub numbered_on : 0 < P.points → (T I bs cs : List ℕ) (at to : ℕ) (ks : List Line) → to ≡ at + length ks → CellsNumbered P T I bs at → Appended P at ks bs cs → CellsNumbered P T I cs to
  numbered_on z T I bs cs at to ks e k s = record {
    sized = k.sized;
    in_lines = λ c h t. omega (arith, k.in_lines c h t);
    is_line = λ c h t. parent_kept z bs cs at s.kept (get_or I c 0) (k.in_lines c h t) ∙ k.is_line c h t;
  }

  -- ---- one line, by a ground in the table before it
  module _ (some_point : 0 < P.points) (T I bs cs : List ℕ) (m i : ℕ) (l : Line) (g : Ground) (numbers : CellsNumbered P T I bs i) (ground : Grounds P T l g) (room : i < m) (put : LinePut P m i l (numbered_by I g) bs cs) where
    same_before : (j : ℕ) → j < i → SameFields bs cs j
    same_before j h = put.others j (omega arith) (λ e. absurd (omega arith))

    -- the number of a cell names the line that the cell holds
    cell_line : (e x : ℕ) → x < cells P → Is (holds_line P T x) → e ≡ get_or I x 0 → parent_line P cs e ≡ line_at P T x
    cell_line e x h t w = ap (parent_line P cs) w ∙ parent_kept some_point bs cs i same_before (get_or I x 0) (numbers.in_lines x h t) ∙ numbers.is_line x h t

    first_line_lem : parent_line P cs (first_parent cs i) ≡ line_at P T g.first
    first_line_lem = cell_line (first_parent cs i) g.first ground.first_in ground.first_line put.first_is

    -- what the rule gives from the parents named
    gives : (u : Bool) → uses_second g.by ≡ u → second_parent cs i ≡ cond u (get_or I g.second 0) 0 → Is (fires P g.by (parent_line P cs (first_parent cs i)) (parent_line P cs (second_parent cs i))) × (result P g.by (parent_line P cs (first_parent cs i)) (parent_line P cs (second_parent cs i)) ≡ l)
    gives true e s =
        let second_line : parent_line P cs (second_parent cs i) ≡ line_at P T g.second = cell_line (second_parent cs i) g.second ground.second_in ground.second_line s in
        (rw (first_line_lem, second_line) ground.fire, rw (first_line_lem, second_line) ground.gave)
    gives false e s =
        let h = second_ignored g.by (λ t. subst Is e t) in
        (rw (first_line_lem, h.fires_same (line_at P T g.first) (parent_line P cs (second_parent cs i)) (line_at P T g.second)) ground.fire, rw (first_line_lem, h.result_same (line_at P T g.first) (parent_line P cs (second_parent cs i)) (line_at P T g.second)) ground.gave)

    second_number_lem : (u : Bool) → second_parent cs i ≡ cond u (get_or I g.second 0) 0 → (Is u → second_parent cs i < P.points + i) × ((Is u → ⊥) → second_parent cs i ≡ 0)
    second_number_lem true e = (λ t. omega (arith, e, numbers.in_lines g.second ground.second_in ground.second_line), λ t. absurd (t tt))
    second_number_lem false e = (λ t. absurd t, λ t. e)

    pub append_one : InRange P l → Appended P i (l ∷ []) bs cs
    append_one h = record {
      as_long = put.as_long;
      counted = put.counted;
      kept = same_before;
      heads = λ j k. let z : j ≡ 0 = omega arith in rw z (ap (head_line cs) at ∙ put.line_is);
      derive = λ j k. let z : j ≡ 0 = omega arith in rw z (subst (LineDerives P cs) (sym at) derives);
    }
      where
        at : i + 0 ≡ i
        at = omega arith

        derives : LineDerives P cs i
        derives =
            let f = gives (uses_second g.by) refl put.second_is in
            let s = second_number_lem (uses_second g.by) put.second_is in
            record {
              point_in = rw put.line_is h.point_in;
              set_in = rw put.line_is h.set_in;
              label_in = rw put.line_is h.label_in;
              rule = g.by;
              named = put.rule_is;
              first_known = rw put.first_is (numbers.in_lines g.first ground.first_in ground.first_line);
              second_known = s.0;
              second_unused = s.1;
              fire = f.0;
              gave = f.1 ∙ sym put.line_is;
            }
