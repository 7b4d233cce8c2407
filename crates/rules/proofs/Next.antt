-- The next table holds, cell by cell, the largest of the table and all that the rules give from it, and is the only table that does.
use mathlib.Core.Path.{◌≡◌, refl, sym, ap, subst, ◌∙◌}
use mathlib.Core.Bool.{Bool, true, false, cond}
use mathlib.Core.Logic.{◌⊎◌, inl, inr}
use mathlib.Core.List.Memᴰ
use mathlib.Core.List.{List, [], ◌∷◌, ◌++◌, map, Memᴰ}
use Prim.Native.Nat.{ℕ, zero, suc, ◌+◌, ◌-◌, ◌≤◌, ◌<◌}
use native.Mathlib.Nat.{le_refl, le_antisymm}
use native.Mathlib.Decide.{ℕ_discrete}
use native.Mathlib.Omega.{arith}
use lib.Dec.{T as Is, ltb, ltb→lt, lt→ltb}
use lib.ListN.{length, get_or}
use lib.Seq.{ext_get_or}
use Rattle.plan.specs.Plan.{Plan, cells}
use Rattle.plan.proofs.Ranges.{WellFormed}
use Rattle.rules.specs.declared.Line.{Line}
use Rattle.rules.specs.declared.Edge.{Edge}
use Rattle.rules.specs.declared.Edge.TheVariants.{PlanEdge, HorizonEdge, UpperBound, LowerBound}
use Rattle.rules.specs.declared.Rule.{Rule}
use Rattle.rules.specs.declared.Rule.TheVariants.{Propagation, LowerCase, UpperCase, LetterRemoval, OwnLiteral, LiteralRemoval}
use Rattle.rules.specs.Lines.{from_to, below, cell_of, line_at, starting_line, starting}
use Rattle.rules.specs.Rules.{fires, result}
use Rattle.rules.specs.Tables.{raise_cell, each, lines_of, edges_of, rules_of, seconds_of, all_given, raised, next}
use Rattle.rules.specs.Derivations.{Starting, InPlan, Parent, Given}
use Rattle.rules.proofs.Raising.{Raises, raises_cell, raises_then, raises_iff}
use Rattle.rules.proofs.InRange.{InRange, range}
use Rattle.rules.proofs.Monotone.{waiting}
use Rattle.rules.proofs.Cells.{cell_lt, line_at_lem, cell_at, at_range}

-- a derived line that a table holds
pub record Cell (P : Plan) (T : List ℕ) (l : Line) : Type 0 where
  pub inside : InRange P l
  pub above : 0 < l.wait
  pub holds : get_or T (cell_of P l) 0 ≡ l.wait

-- a line that the rules give from the table T, of cell c, waits w
pub record FromTable (P : Plan) (T : List ℕ) (c w : ℕ) : Type 0 where
  pub line : Line
  pub given_from : Given P (Cell P T) line
  pub cell_is : cell_of P line ≡ c
  pub wait_is : line.wait ≡ w

-- U is the table after T: cell by cell the largest of T and all that the rules give from T alone
pub record IsNext (P : Plan) (T U : List ℕ) : Type 0 where
  pub as_long : length U ≡ length T
  pub no_lower : (c : ℕ) → c < cells P → get_or T c 0 ≤ get_or U c 0
  pub covers : (k : Line) → Given P (Cell P T) k → k.wait ≤ get_or U (cell_of P k) 0
  pub reason : (c : ℕ) → c < cells P → (get_or U c 0 ≡ get_or T c 0) ⊎ FromTable P T c (get_or U c 0)

-- ---- membership
module _ {A B : Type 0} (f : A → List B) where
  in_each : {x : A} {y : B} {xs : List A} → Memᴰ x xs → Memᴰ y (f x) → Memᴰ y (each xs f)
  in_each {y = y} {xs = z ∷ zs} (Memᴰ.head e) m = Memᴰ.append_left (each zs f) (subst (λ (w : A). Memᴰ y (f w)) e m)
  in_each {xs = z ∷ zs} (Memᴰ.tail h) m = Memᴰ.append_right (f z) (in_each h m)
  in_each {xs = []} x m = elim x [ ]

  of_each : {y : B} (xs : List A) → Memᴰ y (each xs f) → (x : A) × Memᴰ x xs × Memᴰ y (f x)
  of_each [] m = absurd (Memᴰ.not-nil m)
  of_each {y} (x ∷ xs) m = go (of_each xs) (Memᴰ.append_cases (f x) m)
    where
      go : (Memᴰ y (each xs f) → (z : A) × Memᴰ z xs × Memᴰ y (f z)) → Memᴰ y (f x) ⊎ Memᴰ y (each xs f) → (z : A) × Memᴰ z (x ∷ xs) × Memᴰ y (f z)
      go r (inl h) = (x, Memᴰ.head refl, h)
      go r (inr h) = let t = r h in (t.0, Memᴰ.tail t.1, t.2)

in_from_to : (i n x : ℕ) → i ≤ x → x < i + n → Memᴰ x (from_to i n)
in_from_to i zero x h k = absurd (omega arith)
in_from_to i (suc n) x h k = go (in_from_to (suc i) n x) (ℕ_discrete x i)
  where
    go : (suc i ≤ x → x < suc i + n → Memᴰ x (from_to (suc i) n)) → Dec (x ≡ i) → Memᴰ x (i ∷ from_to (suc i) n)
    go r (yes e) = Memᴰ.head e
    go r (no ne) = Memᴰ.tail (r (omega arith) (omega arith))

of_from_to : (i n x : ℕ) → Memᴰ x (from_to i n) → (i ≤ x) × (x < i + n)
of_from_to i zero x m = absurd (Memᴰ.not-nil m)
of_from_to i (suc n) x m = go (of_from_to (suc i) n x) (Memᴰ.cases_cons m)
  where
    go : (Memᴰ x (from_to (suc i) n) → (suc i ≤ x) × (x < suc i + n)) → (x ≡ i) ⊎ Memᴰ x (from_to (suc i) n) → (i ≤ x) × (x < i + suc n)
    go r (inl e) = omega arith
    go r (inr h) = let t = r h in omega arith

in_map : {A : Type 0} (f : ℕ → A) (i n x : ℕ) → i ≤ x → x < i + n → Memᴰ (f x) (map f (from_to i n))
in_map f i n x h k = Memᴰ.map f (in_from_to i n x h k)

module _ {A : Type 0} (Q : A → Type 0) where
  of_map : (f : ℕ → A) (i n : ℕ) → ((x : ℕ) → i ≤ x → x < i + n → Q (f x)) → (a : A) → Memᴰ a (map f (from_to i n)) → Q a
  of_map f i n h a m = let t = Memᴰ.of_map f (from_to i n) m in subst Q t.2 (h t.0 (of_from_to i n t.0 t.1).0 (of_from_to i n t.0 t.1).1)

  of_append : (xs ys : List A) → ((x : A) → Memᴰ x xs → Q x) → ((x : A) → Memᴰ x ys → Q x) → (x : A) → Memᴰ x (xs ++ ys) → Q x
  of_append xs ys f g x m = go (Memᴰ.append_cases xs m)
    where
      go : Memᴰ x xs ⊎ Memᴰ x ys → Q x
      go (inl h) = f x h
      go (inr h) = g x h

-- a list of one line where a test holds
of_cond : (b : Bool) (x k : Line) → Memᴰ k (cond b (x ∷ []) []) → Is b × (x ≡ k)
of_cond true x k m = (tt, sym (Memᴰ.eq_of_singleton m))
of_cond false x k m = absurd (Memᴰ.not-nil m)

in_cond : (b : Bool) (x k : Line) → Is b → x ≡ k → Memᴰ k (cond b (x ∷ []) [])
in_cond true x k t e = Memᴰ.head (sym e)
in_cond false x k t e = absurd t

-- ---- the edges and the rules of a plan
in_edges : (P : Plan) (e : Edge) → InPlan P (Propagation e) → Memᴰ e (edges_of P)
in_edges P (PlanEdge i) h = let m = in_map PlanEdge 0 P.edges i (omega arith) (omega arith) in search Memᴰ.append_left
in_edges P (HorizonEdge x) h = let m = in_map HorizonEdge 1 (P.points - 1) x (omega arith) (omega arith) in search (Memᴰ.append_left, Memᴰ.append_right)
in_edges P (UpperBound i) h = let m = in_map UpperBound 0 P.links i (omega arith) (omega arith) in search (Memᴰ.append_left, Memᴰ.append_right)
in_edges P (LowerBound i) h = let m = in_map LowerBound 0 P.links i (omega arith) (omega arith) in search Memᴰ.append_right

of_edges : (P : Plan) (e : Edge) → Memᴰ e (edges_of P) → InPlan P (Propagation e)
of_edges P =
    of_append Q _ _ (of_map Q PlanEdge 0 P.edges (λ x a b. omega arith))
    (of_append Q _ _ (of_map Q HorizonEdge 1 (P.points - 1) (λ x a b. omega arith))
    (of_append Q _ _ (of_map Q UpperBound 0 P.links (λ x a b. omega arith)) (of_map Q LowerBound 0 P.links (λ x a b. omega arith))))
  where
    Q : Edge → Type 0
    Q e = InPlan P (Propagation e)

of_rules : (P : Plan) (r : Rule) → Memᴰ r (rules_of P) → InPlan P r
of_rules P =
    of_append Q _ _ (λ r m. let t = Memᴰ.of_map Propagation (edges_of P) m in subst Q t.2 (of_edges P t.0 t.1))
    (of_append Q _ _ (of_map Q LowerCase 0 P.links (λ x a b. omega arith))
    (of_append Q _ _ (of_map Q UpperCase 0 P.links (λ x a b. omega arith))
    (of_append Q _ _ (of_map Q LetterRemoval 0 P.links (λ x a b. omega arith))
    (of_append Q _ _ (of_map Q OwnLiteral 0 P.propositions (λ x a b. omega arith)) (of_map Q LiteralRemoval 0 P.propositions (λ x a b. omega arith))))))
  where
    Q : Rule → Type 0
    Q = InPlan P

in_rules : (P : Plan) (r : Rule) → InPlan P r → Memᴰ r (rules_of P)
in_rules P (Propagation e) h = let m = Memᴰ.map Propagation (in_edges P e h) in search Memᴰ.append_left
in_rules P (LowerCase i) h = let m = in_map LowerCase 0 P.links i (omega arith) (omega arith) in search (Memᴰ.append_left, Memᴰ.append_right)
in_rules P (UpperCase i) h = let m = in_map UpperCase 0 P.links i (omega arith) (omega arith) in search (Memᴰ.append_left, Memᴰ.append_right)
in_rules P (LetterRemoval i) h = let m = in_map LetterRemoval 0 P.links i (omega arith) (omega arith) in search (Memᴰ.append_left, Memᴰ.append_right)
in_rules P (OwnLiteral j) h = let m = in_map OwnLiteral 0 P.propositions j (omega arith) (omega arith) in search (Memᴰ.append_left, Memᴰ.append_right) depth 7
in_rules P (LiteralRemoval j) h = let m = in_map LiteralRemoval 0 P.propositions j (omega arith) (omega arith) in search Memᴰ.append_right depth 7

-- ---- the lines of a table
pub first_starts : (P : Plan) → 0 < P.points → Starting P (starting_line 0)
first_starts P z = record { inside = z; is_starting = refl }

module _ (P : Plan) (T : List ℕ) where
  starting_in : (l : Line) → Starting P l → Memᴰ l (starting P)
  starting_in l s = Memᴰ.cast s.is_starting (in_map starting_line 0 P.points l.point (omega arith) (omega (arith, s.inside)))

  starting_of : (l : Line) → Memᴰ l (starting P) → Starting P l
  starting_of = of_map (Starting P) starting_line 0 P.points (λ x a b. record { inside = omega arith; is_starting = refl })

  -- the line of cell c, if the cell is above 0
  abbrev line_in : ℕ → List Line
  line_in c = cond (ltb 0 (get_or T c 0)) (line_at P T c ∷ []) []

  cell_in : (l : Line) → Cell P T l → Memᴰ l (each (below (cells P)) line_in)
  cell_in l h =
      in_each line_in (in_from_to 0 (cells P) (cell_of P l) (omega arith) (omega (arith, cell_lt P l h.inside)))
      (in_cond (ltb 0 (get_or T (cell_of P l) 0)) (line_at P T (cell_of P l)) l (lt→ltb 0 (get_or T (cell_of P l) 0) (omega (arith, h.holds, h.above))) (line_at_lem P T l h.inside ∙ ap (waiting l) h.holds))

  cell_of_lem : (l : Line) → Memᴰ l (each (below (cells P)) line_in) → Cell P T l
  cell_of_lem l m =
      let t = of_each line_in (below (cells P)) m in
      let d = of_cond (ltb 0 (get_or T t.0 0)) (line_at P T t.0) l t.2 in
      subst (Cell P T) d.1 (record { inside = at_range P T t.0 (omega (arith, of_from_to 0 (cells P) t.0 t.1)); above = ltb→lt 0 (get_or T t.0 0) d.0; holds = ap (λ (x : ℕ). get_or T x 0) (cell_at P T t.0) })

  lines_in_lem : (l : Line) → Parent P (Cell P T) l → Memᴰ l (lines_of P T)
  lines_in_lem l (inl s) = Memᴰ.append_left (each (below (cells P)) line_in) (starting_in l s)
  lines_in_lem l (inr h) = Memᴰ.append_right (starting P) (cell_in l h)

  lines_of_lem : (l : Line) → Memᴰ l (lines_of P T) → Parent P (Cell P T) l
  lines_of_lem = of_append (Parent P (Cell P T)) (starting P) (each (below (cells P)) line_in) (λ l m. inl (starting_of l m)) (λ l m. inr (cell_of_lem l m))

  -- ---- what the rules give from them
  first_only : 0 < P.points → (m : Line) → Memᴰ m (starting_line 0 ∷ []) → Parent P (Cell P T) m
  first_only z m h = inl (subst (Starting P) (sym (Memᴰ.eq_of_singleton h)) (first_starts P z))

  seconds_of_lem : 0 < P.points → (r : Rule) (m : Line) → Memᴰ m (seconds_of (lines_of P T) r) → Parent P (Cell P T) m
  seconds_of_lem z (Propagation e) m h = first_only z m h
  seconds_of_lem z (LowerCase i) m h = first_only z m h
  seconds_of_lem z (UpperCase i) m h = first_only z m h
  seconds_of_lem z (LetterRemoval i) m h = lines_of_lem m h
  seconds_of_lem z (OwnLiteral j) m h = first_only z m h
  seconds_of_lem z (LiteralRemoval j) m h = lines_of_lem m h

  -- what a rule gives from one pair of parents, from one first parent, and from all
  abbrev by_pair : Rule → Line → Line → List Line
  by_pair r l m = cond (fires P r l m) (result P r l m ∷ []) []

  abbrev by_first : Rule → Line → List Line
  by_first r l = each (seconds_of (lines_of P T) r) (by_pair r l)

  abbrev by_rule : Rule → List Line
  by_rule r = each (lines_of P T) (by_first r)

  given_of : 0 < P.points → (k : Line) → Memᴰ k (all_given P (lines_of P T)) → Given P (Cell P T) k
  given_of z k h =
      let a = of_each by_rule (rules_of P) h in
      let b = of_each (by_first a.0) (lines_of P T) a.2 in
      let c = of_each (by_pair a.0 b.0) (seconds_of (lines_of P T) a.0) b.2 in
      let d = of_cond (fires P a.0 b.0 c.0) (result P a.0 b.0 c.0) k c.2 in
      record { rule = a.0; row = of_rules P a.0 a.1; first = b.0; second = c.0; first_is = lines_of_lem b.0 b.1; second_is = seconds_of_lem z a.0 c.0 c.1; fire = d.0; gave = d.1 }

  given_by_pair : (r : Rule) (l m k : Line) → Memᴰ m (seconds_of (lines_of P T) r) → Is (fires P r l m) → result P r l m ≡ k → Memᴰ k (by_first r l)
  given_by_pair r l m k h f q = in_each (by_pair r l) {xs = seconds_of (lines_of P T) r} h (in_cond (fires P r l m) (result P r l m) k f q)

  given_by_first : (r : Rule) (l m k : Line) → Parent P (Cell P T) m → Is (fires P r l m) → result P r l m ≡ k → Memᴰ k (by_first r l)
  given_by_first (Propagation e) l m k h f q = given_by_pair (Propagation e) l (starting_line 0) k (Memᴰ.head refl) f q
  given_by_first (LowerCase i) l m k h f q = given_by_pair (LowerCase i) l (starting_line 0) k (Memᴰ.head refl) f q
  given_by_first (UpperCase i) l m k h f q = given_by_pair (UpperCase i) l (starting_line 0) k (Memᴰ.head refl) f q
  given_by_first (LetterRemoval i) l m k h f q = given_by_pair (LetterRemoval i) l m k (lines_in_lem m h) f q
  given_by_first (OwnLiteral j) l m k h f q = given_by_pair (OwnLiteral j) l (starting_line 0) k (Memᴰ.head refl) f q
  given_by_first (LiteralRemoval j) l m k h f q = given_by_pair (LiteralRemoval j) l m k (lines_in_lem m h) f q

  given_in : (k : Line) → Given P (Cell P T) k → Memᴰ k (all_given P (lines_of P T))
  given_in k g =
      in_each by_rule (in_rules P g.rule g.row)
      (in_each (by_first g.rule) (lines_in_lem g.first g.first_is) (given_by_first g.rule g.first g.second k g.second_is g.fire g.gave))

-- ---- raising a table by lines
-- one of the lines is of cell c and waits w
record Among (P : Plan) (ls : List Line) (c w : ℕ) : Type 0 where
  line : Line
  among : Memᴰ line ls
  cell_is : cell_of P line ≡ c
  wait_is : line.wait ≡ w

raised_raises : (P : Plan) (n : ℕ) (ls : List Line) → ((l : Line) → Memᴰ l ls → cell_of P l < n) → Raises n (Among P ls) (λ A. raised P A ls)
raised_raises P n [] fit = record { as_long = λ A l. l; no_lower = λ A l c. le_refl _; reason = λ A l c. inl refl; covers = λ A l c w x. absurd (Memᴰ.not-nil x.among) }
raised_raises P n (l ∷ ls) fit =
    raises_iff n (λ c w. ((c ≡ cell_of P l) × (w ≡ l.wait)) ⊎ Among P ls c w) (Among P (l ∷ ls)) (λ A. raised P A (l ∷ ls)) to back
    (raises_then n (λ c w. (c ≡ cell_of P l) × (w ≡ l.wait)) (Among P ls) (raise_cell (cell_of P l) l.wait) (λ A. raised P A ls)
    (raises_cell n (cell_of P l) l.wait (fit l (Memᴰ.head refl))) (raised_raises P n ls (λ k m. fit k (Memᴰ.tail m))))
  where
    to : (c w : ℕ) → ((c ≡ cell_of P l) × (w ≡ l.wait)) ⊎ Among P ls c w → Among P (l ∷ ls) c w
    to c w (inl x) = record { line = l; among = Memᴰ.head refl; cell_is = sym x.0; wait_is = sym x.1 }
    to c w (inr x) = record { line = x.line; among = Memᴰ.tail x.among; cell_is = x.cell_is; wait_is = x.wait_is }

    back : (c w : ℕ) → Among P (l ∷ ls) c w → ((c ≡ cell_of P l) × (w ≡ l.wait)) ⊎ Among P ls c w
    back c w x = go (Memᴰ.cases_cons x.among)
      where
        go : (x.line ≡ l) ⊎ Memᴰ x.line ls → ((c ≡ cell_of P l) × (w ≡ l.wait)) ⊎ Among P ls c w
        go (inl e) = inl (sym x.cell_is ∙ ap (cell_of P) e, sym x.wait_is ∙ ap (λ (k : Line). k.wait) e)
        go (inr m) = inr (record { line = x.line; among = m; cell_is = x.cell_is; wait_is = x.wait_is })

-- ---- one round
-- what the rules give from T, raised in any table: the step that makes the next table of T's own
pub next_raises : (P : Plan) → WellFormed P → (T : List ℕ) → Raises (cells P) (FromTable P T) (λ A. raised P A (all_given P (lines_of P T)))
next_raises P wf T = raises_iff (cells P) (Among P ls) (FromTable P T) (λ A. raised P A ls) to back (raised_raises P (cells P) ls fit)
  where
    ls : List Line
    ls = all_given P (lines_of P T)

    of : (k : Line) → Memᴰ k ls → Given P (Cell P T) k
    of = given_of P T (omega (arith, wf.two))

    fit : (l : Line) → Memᴰ l ls → cell_of P l < cells P
    fit l m = cell_lt P l (range P wf (λ l c. c.inside) (of l m))

    to : (c w : ℕ) → Among P ls c w → FromTable P T c w
    to c w x = record { line = x.line; given_from = of x.line x.among; cell_is = x.cell_is; wait_is = x.wait_is }

    back : (c w : ℕ) → FromTable P T c w → Among P ls c w
    back c w x = record { line = x.line; among = given_in P T x.line x.given_from; cell_is = x.cell_is; wait_is = x.wait_is }

pub next_is : (P : Plan) → WellFormed P → (T : List ℕ) → length T ≡ cells P → IsNext P T (next P T)
unfolding next
next_is P wf T len =
    let n = next_raises P wf T in
    record { as_long = n.as_long T len ∙ sym len; no_lower = λ c h. n.no_lower T len c; covers = λ k g. n.covers T len (cell_of P k) k.wait (record { line = k; given_from = g; cell_is = refl; wait_is = refl }); reason = λ c h. n.reason T len c }

-- whatever is cell by cell the largest of A and what the rules give from A is the next table
pub next_only : (P : Plan) → WellFormed P → (A B : List ℕ) → length A ≡ cells P → IsNext P A B → B ≡ next P A
next_only P wf A B len n = ext_get_or 0 B (next P A) (n.as_long ∙ sym m.as_long) (λ c h. le_antisymm (le B (next P A) n m c (rw (n.as_long ∙ len) at h)) (le (next P A) B m n c (rw (n.as_long ∙ len) at h)))
  where
    m : IsNext P A (next P A)
    m = next_is P wf A len

    le : (B C : List ℕ) → IsNext P A B → IsNext P A C → (c : ℕ) → c < cells P → get_or B c 0 ≤ get_or C c 0
    le B C b k c h = go (b.reason c h)
      where
        go : (get_or B c 0 ≡ get_or A c 0) ⊎ FromTable P A c (get_or B c 0) → get_or B c 0 ≤ get_or C c 0
        go (inl e) = rw e (k.no_lower c h)
        go (inr r) = rw (← r.wait_is, ← r.cell_is) (k.covers r.line r.given_from)
