-- The lines of a closed table, by their point, a wait that they reach, the links of their set and the digits of their label: each rule
-- gives a further line of the table from them.
use mathlib.Core.Path.{◌≡◌, refl, sym, ap, subst, ◌∙◌}
use mathlib.Core.Bool.{Bool, true, false, not}
use mathlib.Core.Logic.{◌⊎◌, inl, inr}
use mathlib.Core.List.{List}
use Prim.Native.Nat.{ℕ, zero, suc, ◌+◌, ◌-◌, ◌≤◌, ◌<◌, min}
use native.Mathlib.Nat.{le_trans}
use native.Mathlib.Decide.{ℕ_discrete}
use native.Mathlib.Omega.{arith}
use lib.Dec.{T as Is, eqb, not_T, eqb→eq}
use lib.Ieee.Fits.{eq→eqb}
use lib.ListN.{get_or}
use Rattle.plan.specs.Label.{digit, join_digit, join, plain, clear_digit}
use Rattle.plan.specs.LinkSet.{contains, union, insert, remove}
use Rattle.plan.specs.Plan.{Plan}
use Rattle.plan.proofs.Digits.{digit_join, join_one, clear_other, clear_same, plain_of, of_union, of_insert, of_remove}
use Rattle.plan.proofs.LabelLaws.{digit_none}
use Rattle.plan.proofs.Ranges.{WellFormed}
use Rattle.rules.specs.declared.Line.{Line}
use Rattle.rules.specs.declared.Edge.TheVariants.{PlanEdge}
use Rattle.rules.specs.declared.Rule.{Rule}
use Rattle.rules.specs.declared.Rule.TheVariants.{Propagation, LowerCase, UpperCase, LetterRemoval, OwnLiteral, LiteralRemoval}
use Rattle.rules.specs.Lines.{cell_of, starting_line}
use Rattle.rules.specs.Rules.{result}
use Rattle.rules.specs.Derivations.{InPlan, Parent, Given}
use Rattle.rules.proofs.Deriving.{Fires, facts_fire}
use Rattle.rules.proofs.InRange.{InRange, range, given_above, none_in}
use Rattle.rules.proofs.Monotone.{waiting}
use Rattle.rules.proofs.Next.{Cell}

-- ---- lines
-- a line of T: a starting line, or a cell above 0
abbrev pub Held : Plan → List ℕ → Line → Type 0
Held P T = Parent P (Cell P T)

-- the rules give nothing longer than what the table has
abbrev pub Closed : Plan → List ℕ → Type 0
Closed P T = (k : Line) → Given P (Cell P T) k → k.wait ≤ get_or T (cell_of P k) 0

-- a line of T of point x that waits w or longer, Q holding of each link of its set and D of each digit of its label
pub record HasLine (P : Plan) (T : List ℕ) (x w : ℕ) (Q : ℕ → Type 0) (D : ℕ → ℕ → Type 0) : Type 0 where
  pub line : Line
  pub held : Held P T line
  pub at : line.point ≡ x
  pub waits : w ≤ line.wait
  pub links : (i : ℕ) → i < P.links → Is (contains line.set i) → Q i
  pub digits : (j : ℕ) → j < P.propositions → D j (digit line.label j)

-- a starting line
pub start : {P : Plan} {T : List ℕ} (x : ℕ) {w : ℕ} {Q : ℕ → Type 0} {D : ℕ → ℕ → Type 0} → x < P.points → ((j : ℕ) → j < P.propositions → D j 0) → w ≤ 0 → HasLine P T x w Q D
start x {D} h d z = record {
  line = starting_line x;
  held = inl (record { inside = h; is_starting = refl });
  at = refl;
  waits = z;
  links = λ i k t. absurd (none_in i t);
  digits = λ j k. subst (D j) (sym (digit_none j)) (d j k);
}

-- less is asked of its wait, its links and its digits
pub weaker : {P : Plan} {T : List ℕ} {x v w : ℕ} {Q R : ℕ → Type 0} {D E : ℕ → ℕ → Type 0} → HasLine P T x w Q D → v ≤ w
    → ((i : ℕ) → i < P.links → Q i → R i) → ((j d : ℕ) → j < P.propositions → D j d → E j d) → HasLine P T x v R E
weaker a h f g = record {
  line = a.line;
  held = a.held;
  at = a.at;
  waits = omega (arith, a.waits, h);
  links = λ i k t. f i k (a.links i k t);
  digits = λ j k. g j _ k (a.digits j k);
}

pub shorter : {P : Plan} {T : List ℕ} {x v w : ℕ} {Q : ℕ → Type 0} {D : ℕ → ℕ → Type 0} → HasLine P T x w Q D → v ≤ w → HasLine P T x v Q D
shorter a h = weaker a h (λ i k q. q) (λ j d k q. q)

module _ (P : Plan) (wf : WellFormed P) (T : List ℕ) (closed : Closed P T) where
  -- what a rule gives, T has, with that wait or a longer one
  by_rule_lem : {x w : ℕ} {Q : ℕ → Type 0} {D : ℕ → ℕ → Type 0} (r : Rule) → InPlan P r → (l m : Line) → Held P T l → Held P T m → Fires P r l m
      → (result P r l m).point ≡ x → w ≤ (result P r l m).wait → ((i : ℕ) → i < P.links → Is (contains (result P r l m).set i) → Q i)
      → ((j : ℕ) → j < P.propositions → D j (digit (result P r l m).label j)) → HasLine P T x w Q D
  by_rule_lem r h l m a b f e le links digits = record {
    line = waiting k (get_or T (cell_of P k) 0);
    held = inr (record { inside = record { point_in = in_range_lem.point_in; set_in = in_range_lem.set_in; label_in = in_range_lem.label_in }; above = omega (arith, c, given_above P wf (Cell P T) (λ l h. h.above) g); holds = refl });
    at = e;
    waits = le_trans le c;
    links = links;
    digits = digits;
  }
    where
      k : Line
      k = result P r l m

      g : Given P (Cell P T) k
      g = record { rule = r; row = h; first = l; second = m; first_is = a; second_is = b; fire = facts_fire P r l m f; gave = refl }

      in_range_lem : InRange P k
      in_range_lem = range P wf (λ l h. h.inside) g

      c : k.wait ≤ get_or T (cell_of P k) 0
      c = closed k g

  -- the digits of a label where digit j is absent, and once it is cleared
  module _ {D E : ℕ → ℕ → Type 0} (j : ℕ) (absent : E j 0) (other : (k d : ℕ) → (k ≡ j → ⊥) → D k d → E k d) (a : ℕ) (digits : (k : ℕ) → k < P.propositions → D k (digit a k)) where
    but_one : (b : ℕ) → digit b j ≡ 0 → ((k : ℕ) → (k ≡ j → ⊥) → digit b k ≡ digit a k) → (k : ℕ) → k < P.propositions → E k (digit b k)
    but_one b e same k h = pick (ℕ_discrete k j)
      where
        pick : Dec (k ≡ j) → E k (digit b k)
        pick (yes q) = rw (q, e) absent
        pick (no q) = rw (same k q) (other k _ q (digits k h))

    where_absent : digit a j ≡ 0 → (k : ℕ) → k < P.propositions → E k (digit a k)
    where_absent e = but_one a e (λ k q. refl)

    cleared : (k : ℕ) → k < P.propositions → E k (digit (clear_digit a j) k)
    cleared = but_one (clear_digit a j) (clear_same a j) (clear_other a j)

  set_digit : (a j : ℕ) → (digit a j ≡ 0 → ⊥) → Is (not (eqb (digit a j) 0))
  set_digit a j n = not_T (eqb (digit a j) 0) (λ t. n (eqb→eq _ _ t))

  -- rule 5: the observing point's own digit goes
  pub clear_own : {w : ℕ} {Q : ℕ → Type 0} {D E : ℕ → ℕ → Type 0} (j : ℕ) → j < P.propositions → 0 < w → HasLine P T (P.observer j) w Q D
      → E j 0 → ((k d : ℕ) → (k ≡ j → ⊥) → D k d → E k d) → HasLine P T (P.observer j) w Q E
  clear_own {w} {Q} {D} {E} j h z a absent other = go (ℕ_discrete (digit a.line.label j) 0)
    where
      go : Dec (digit a.line.label j ≡ 0) → HasLine P T (P.observer j) w Q E
      go (yes e) = record { line = a.line; held = a.held; at = a.at; waits = a.waits; links = a.links; digits = where_absent j absent other a.line.label a.digits e }
      go (no n) =
          let f : Fires P (OwnLiteral j) a.line a.line = (a.at, set_digit a.line.label j n, omega (arith, a.waits)) in
          by_rule_lem (OwnLiteral j) h a.line a.line a.held a.held f a.at a.waits a.links (cleared j absent other a.line.label a.digits)

  -- rule 6: a proposition goes, by a line of its observing point that has not its digit
  pub remove_literal : {x w : ℕ} {Q : ℕ → Type 0} {D E : ℕ → ℕ → Type 0} (j : ℕ) → j < P.propositions → 0 < w → HasLine P T x w Q D → HasLine P T (P.observer j) w Q E
      → ((d : ℕ) → E j d → d ≡ 0) → E j 0 → ((k d : ℕ) → (k ≡ j → ⊥) → D k d → E k d) → ((k d e : ℕ) → E k d → E k e → E k (join_digit d e)) → HasLine P T x w Q E
  remove_literal {x} {w} {Q} {D} {E} j h z a b none absent other joins = go (ℕ_discrete (digit a.line.label j) 0)
    where
      links' : (i : ℕ) → i < P.links → Is (contains (union a.line.set b.line.set) i) → Q i
      links' i hi t = pick (of_union a.line.set b.line.set i t)
        where
          pick : Is (contains a.line.set i) ⊎ Is (contains b.line.set i) → Q i
          pick (inl q) = a.links i hi q
          pick (inr q) = b.links i hi q

      digits' : (k : ℕ) → k < P.propositions → E k (digit (join P.propositions (clear_digit a.line.label j) b.line.label) k)
      digits' k hk = rw (digit_join P.propositions (clear_digit a.line.label j) b.line.label k hk) (joins k _ _ (cleared j absent other a.line.label a.digits k hk) (b.digits k hk))

      go : Dec (digit a.line.label j ≡ 0) → HasLine P T x w Q E
      go (yes e) = record { line = a.line; held = a.held; at = a.at; waits = a.waits; links = a.links; digits = where_absent j absent other a.line.label a.digits e }
      go (no n) =
          let f : Fires P (LiteralRemoval j) a.line b.line = (set_digit a.line.label j n, b.at, eq→eqb (none _ (b.digits j h)), omega (arith, b.waits)) in
          by_rule_lem (LiteralRemoval j) h a.line b.line a.held b.held f a.at (omega (arith, a.waits, b.waits)) links' digits'

  -- rule 4: a link goes, by a line of its activation that has it not
  pub remove_link : {x w v : ℕ} {Q R : ℕ → Type 0} {D E F : ℕ → ℕ → Type 0} (i : ℕ) → i < P.links → HasLine P T x w Q D → HasLine P T (P.activation i) v R E → w ≤ v + P.least i
      → (R i → ⊥) → ((k : ℕ) → k < P.links → (k ≡ i → ⊥) → Q k → R k) → ((j d : ℕ) → D j d → F j d) → ((j d e : ℕ) → D j d → E j e → F j (join_digit d e)) → HasLine P T x w R F
  remove_link {x} {w} {v} {Q} {R} {D} {E} {F} i h a b le none other keeps joins = go (contains a.line.set i) refl
    where
      links' : (k : ℕ) → k < P.links → Is (contains (union (remove a.line.set i) b.line.set) k) → R k
      links' k hk t = pick (of_union (remove a.line.set i) b.line.set k t)
        where
          pick : Is (contains (remove a.line.set i) k) ⊎ Is (contains b.line.set k) → R k
          pick (inl q) = let c = of_remove a.line.set i k q in other k hk c.1 (a.links k hk c.0)
          pick (inr q) = b.links k hk q

      digits' : (j : ℕ) → j < P.propositions → F j (digit (join P.propositions a.line.label b.line.label) j)
      digits' j hj = rw (digit_join P.propositions a.line.label b.line.label j hj) (joins j _ _ (a.digits j hj) (b.digits j hj))

      without_it : contains a.line.set i ≡ false → (k : ℕ) → k < P.links → Is (contains a.line.set k) → R k
      without_it e k hk t = other k hk (λ q. subst (λ (y : Bool). Is y) (ap (contains a.line.set) q ∙ e) t) (a.links k hk t)

      go : (t : Bool) → contains a.line.set i ≡ t → HasLine P T x w R F
      go false e = record { line = a.line; held = a.held; at = a.at; waits = a.waits; links = without_it e; digits = λ j hj. keeps j _ (a.digits j hj) }
      go true e =
          let f : Fires P (LetterRemoval i) a.line b.line = (rw e tt, b.at, not_T (contains b.line.set i) (λ t. none (b.links i h t))) in
          by_rule_lem (LetterRemoval i) h a.line b.line a.held b.held f a.at (omega (arith, a.waits, b.waits)) links' digits'

  -- the label of a line none of whose digits is unknown
  plain_line : {x w : ℕ} {Q : ℕ → Type 0} {D : ℕ → ℕ → Type 0} (a : HasLine P T x w Q D) → ((j d : ℕ) → D j d → d ≡ 3 → ⊥) → Is (plain P.propositions a.line.label)
  plain_line a known = plain_of P.propositions a.line.label (λ j hj. known j _ (a.digits j hj))

  -- rule 3: an end waits y after its activation
  pub upper_case : {w : ℕ} {Q R : ℕ → Type 0} {D : ℕ → ℕ → Type 0} (i : ℕ) → i < P.links → HasLine P T (P.activation i) w Q D → ((j d : ℕ) → D j d → d ≡ 3 → ⊥) → R i → ((k : ℕ) → Q k → R k) → HasLine P T (P.finish i) (w + P.most i) R D
  upper_case {Q} {R} i h a known own other =
      let f : Fires P (UpperCase i) a.line a.line = (a.at, plain_line a known) in
      by_rule_lem (UpperCase i) h a.line a.line a.held a.held f refl (omega (arith, a.waits)) links' a.digits
    where
      links' : (k : ℕ) → k < P.links → Is (contains (insert a.line.set i) k) → R k
      links' k hk t = pick (of_insert a.line.set i k t)
        where
          pick : Is (contains a.line.set k) ⊎ (k ≡ i) → R k
          pick (inl q) = other k (a.links k hk q)
          pick (inr q) = rw q own

  -- rule 5's like for links: an activation's own link goes at no loss. Rule 4 with the line got before as its second parent, again and again
  pub remove_own : {w : ℕ} {Q R : ℕ → Type 0} {D : ℕ → ℕ → Type 0} (i : ℕ) → i < P.links → HasLine P T (P.activation i) w Q D
      → ((j : ℕ) → j < P.propositions → D j 0) → ((k : ℕ) → (k ≡ i → ⊥) → Q k → R k) → HasLine P T (P.activation i) w R D
  remove_own {w} {Q} {R} {D} i h a none other = weaker (again w) (omega arith) (λ k hk q. other k q.0 q.1) digits'
    where
      l : Line
      l = a.line

      Same : ℕ → ℕ → Type 0
      Same j d = (d ≡ 0) ⊎ (d ≡ digit l.label j)

      exact : HasLine P T (P.activation i) w Q (λ j d. d ≡ digit l.label j)
      exact = record { line = l; held = a.held; at = a.at; waits = a.waits; links = a.links; digits = λ j hj. refl }

      digits' : (j d : ℕ) → j < P.propositions → Same j d → D j d
      digits' j d hj (inl e) = rw e (none j hj)
      digits' j d hj (inr e) = rw e (a.digits j hj)

      joins : (j d e : ℕ) → d ≡ digit l.label j → Same j e → Same j (join_digit d e)
      joins j d e p q = join_one (Same j) (digit l.label j) d e (inr p) q (inr p) q

      again : (n : ℕ) → HasLine P T (P.activation i) (min w n) (λ k. (k ≡ i → ⊥) × Q k) Same
      again zero = start (P.activation i) (wf.activation_in i h) (λ j hj. inl refl) (omega arith)
      again (suc n) = remove_link i h (shorter exact (omega arith)) (again n) (omega (arith, wf.durations i h)) (λ q. q.0 refl) (λ k hk n q. (n, q)) (λ j d q. inr q) joins

  -- rule 1: the start of an edge waits u less than its end
  pub propagation : {w : ℕ} {Q : ℕ → Type 0} {D E : ℕ → ℕ → Type 0} (e : ℕ) → e < P.edges → HasLine P T (P.to e) w Q D → ((j d : ℕ) → D j d → d ≡ 3 → ⊥) → ((j d : ℕ) → E j d → d ≡ 3 → ⊥)
      → ((j d : ℕ) → j < P.propositions → D j d → E j (join_digit (digit (P.label e) j) d)) → P.up e < w + P.down e → HasLine P T (P.from e) (w + P.down e - P.up e) Q E
  propagation {E} e h a known known' joins more =
      let f : Fires P (Propagation (PlanEdge e)) a.line a.line = (a.at, plain_line a known, plain_of P.propositions (join P.propositions (P.label e) a.line.label) (λ j hj. known' j _ (digits' j hj)), omega (arith, a.waits)) in
      by_rule_lem (Propagation (PlanEdge e)) h a.line a.line a.held a.held f refl (omega (arith, a.waits)) a.links digits'
    where
      digits' : (j : ℕ) → j < P.propositions → E j (digit (join P.propositions (P.label e) a.line.label) j)
      digits' j hj = rw (digit_join P.propositions (P.label e) a.line.label j hj) (joins j _ hj (a.digits j hj))

  -- rule 2: an activation waits s less than its end, by a line that has not the link
  pub lower_case : {w : ℕ} {Q : ℕ → Type 0} {D : ℕ → ℕ → Type 0} (i : ℕ) → i < P.links → HasLine P T (P.finish i) w Q D → ((j d : ℕ) → D j d → d ≡ 3 → ⊥) → (Q i → ⊥) → P.least i < w → HasLine P T (P.activation i) (w - P.least i) Q D
  lower_case i h a known none more =
      let f : Fires P (LowerCase i) a.line a.line = (a.at, not_T (contains a.line.set i) (λ t. none (a.links i h t)), plain_line a known, omega (arith, a.waits)) in
      by_rule_lem (LowerCase i) h a.line a.line a.held a.held f refl (omega (arith, a.waits)) a.links a.digits
