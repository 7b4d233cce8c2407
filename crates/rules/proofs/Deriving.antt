-- Derivations: a rule's test as facts, what starting lines are, and that two derivations are one, so what the rules give from reached lines is reached.
use mathlib.Core.Path.{◌≡◌, refl, sym, ap, subst}
use mathlib.Core.Bool.{not}
use mathlib.Core.Logic.{◌⊎◌, inl, inr}
use mathlib.Core.List.Memᴰ
use mathlib.Core.List.{List, [], ◌∷◌, ◌++◌, reverse_aux, Memᴰ}
use Prim.Native.Nat.{◌-◌, ◌<◌}
use lib.Dec.{T as Is, eqb, ltb→lt, lt→ltb, eqb→eq}
use lib.Ieee.Fits.{and_l, and_r, and_i, eq→eqb}
use Rattle.plan.specs.Label.{digit, join, plain}
use Rattle.plan.specs.LinkSet.{contains}
use Rattle.plan.specs.Plan.{Plan}
use Rattle.rules.specs.declared.Line.{Line}
use Rattle.rules.specs.declared.Rule.{Rule}
use Rattle.rules.specs.declared.Rule.TheVariants.{Propagation, LowerCase, UpperCase, LetterRemoval, OwnLiteral, LiteralRemoval}
use Rattle.rules.specs.Rules.{constraint_of, less_weight, fires}
use Rattle.rules.specs.Derivations.{Starting, Parent, Given, Follows, Derivation}

-- ---- starting lines
module _ {P : Plan} {l : Line} (s : Starting P l) where
  pub no_set : l.set ≡ 0
  no_set = ap (λ (k : Line). k.set) s.is_starting

  pub no_label : l.label ≡ 0
  no_label = ap (λ (k : Line). k.label) s.is_starting

  pub no_wait : l.wait ≡ 0
  no_wait = ap (λ (k : Line). k.wait) s.is_starting

pub starts : {P : Plan} {l : Line} → l.point < P.points → l.set ≡ 0 → l.label ≡ 0 → l.wait ≡ 0 → Starting P l
starts {l} h s b w = record { inside = h; is_starting = λ i. record { point = l.point; set = s i; label = b i; wait = w i } }

-- ---- the test of a rule
-- `fires` of Rules as facts: the rule takes these two lines as its parents
abbrev pub Fires : Plan → Rule → Line → Line → Type 0
Fires P (Propagation e) l m = (l.point ≡ (constraint_of P e).to) × Is (plain P.propositions l.label) × Is (plain P.propositions (join P.propositions (constraint_of P e).label l.label)) × (0 < less_weight (constraint_of P e) l.wait)
Fires P (LowerCase i) l m = (l.point ≡ P.finish i) × Is (not (contains l.set i)) × Is (plain P.propositions l.label) × (0 < l.wait - P.least i)
Fires P (UpperCase i) l m = (l.point ≡ P.activation i) × Is (plain P.propositions l.label)
Fires P (LetterRemoval i) l m = Is (contains l.set i) × (m.point ≡ P.activation i) × Is (not (contains m.set i))
Fires P (OwnLiteral j) l m = (l.point ≡ P.observer j) × Is (not (eqb (digit l.label j) 0)) × (0 < l.wait)
Fires P (LiteralRemoval j) l m = Is (not (eqb (digit l.label j) 0)) × (m.point ≡ P.observer j) × Is (eqb (digit m.label j) 0) × (0 < m.wait)

pub fires_facts : (P : Plan) (r : Rule) (l m : Line) → Is (fires P r l m) → Fires P r l m
fires_facts P (Propagation e) l m t = (eqb→eq _ _ (search (and_l, and_r)), search (and_l, and_r), search (and_l, and_r), ltb→lt _ _ (search (and_l, and_r)))
fires_facts P (LowerCase i) l m t = (eqb→eq _ _ (search (and_l, and_r)), search (and_l, and_r), search (and_l, and_r), ltb→lt _ _ (search (and_l, and_r)))
fires_facts P (UpperCase i) l m t = (eqb→eq _ _ (search and_l), search and_r)
fires_facts P (LetterRemoval i) l m t = (search (and_l, and_r), eqb→eq _ _ (search (and_l, and_r)), search (and_l, and_r))
fires_facts P (OwnLiteral j) l m t = (eqb→eq _ _ (search (and_l, and_r)), search (and_l, and_r), ltb→lt _ _ (search (and_l, and_r)))
fires_facts P (LiteralRemoval j) l m t = (search (and_l, and_r), eqb→eq _ _ (search (and_l, and_r)), search (and_l, and_r), ltb→lt _ _ (search (and_l, and_r)))

pub facts_fire : (P : Plan) (r : Rule) (l m : Line) → Fires P r l m → Is (fires P r l m)
facts_fire P (Propagation e) l m (a, b, c, d) = search (and_i, lt→ltb, eq→eqb)
facts_fire P (LowerCase i) l m (a, b, c, d) = search (and_i, lt→ltb, eq→eqb)
facts_fire P (UpperCase i) l m (a, b) = search (and_i, eq→eqb)
facts_fire P (LetterRemoval i) l m (a, b, c) = search (and_i, eq→eqb)
facts_fire P (OwnLiteral j) l m (a, b, c) = search (and_i, lt→ltb, eq→eqb)
facts_fire P (LiteralRemoval j) l m (a, b, c, d) = search (and_i, lt→ltb, eq→eqb)

pub given_fires : {P : Plan} {H : Line → Type 0} {k : Line} (g : Given P H k) → Fires P g.rule g.first g.second
given_fires {P} g = fires_facts P g.rule g.first g.second g.fire

-- ---- derivations
pub parent_map : {P : Plan} {H G : Line → Type 0} → ((l : Line) → H l → G l) → {l : Line} → Parent P H l → Parent P G l
parent_map f (inl s) = inl s
parent_map f {l} (inr h) = inr (f l h)

pub given_map : {P : Plan} {H G : Line → Type 0} → ((l : Line) → H l → G l) → {k : Line} → Given P H k → Given P G k
given_map f g = record { rule = g.rule; row = g.row; first = g.first; second = g.second; first_is = parent_map f g.first_is; second_is = parent_map f g.second_is; fire = g.fire; gave = g.gave }

-- a line that some derivation has
pub record Reached (P : Plan) (k : Line) : Type 0 where
  pub lines : List Line
  pub derives : Derivation P lines
  pub among : Memᴰ k lines

module _ (P : Plan) where
  -- with more earlier lines
  pub follows_more : (xs ys : List Line) → ((l : Line) → Memᴰ l xs → Memᴰ l ys) → (ks : List Line) → Follows P xs ks → Follows P ys ks
  follows_more xs ys f [] d = tt
  follows_more xs ys f (k ∷ ks) d = (given_map f d.0, follows_more (k ∷ xs) (k ∷ ys) step ks d.1)
    where
      step : (l : Line) → Memᴰ l (k ∷ xs) → Memᴰ l (k ∷ ys)
      step l (Memᴰ.head e) = Memᴰ.head e
      step l (Memᴰ.tail m) = Memᴰ.tail (f l m)

  pub follows_append : (xs ks js : List Line) → Follows P xs ks → Follows P (reverse_aux ks xs) js → Follows P xs (ks ++ js)
  follows_append xs [] js d e = e
  follows_append xs (k ∷ ks) js d e = (d.0, follows_append (k ∷ xs) ks js d.1 e)

  in_reverse : {l : Line} (ks xs : List Line) → Memᴰ l ks ⊎ Memᴰ l xs → Memᴰ l (reverse_aux ks xs)
  in_reverse [] xs (inl m) = absurd (Memᴰ.not-nil m)
  in_reverse [] xs (inr m) = m
  in_reverse (k ∷ ks) xs (inl (Memᴰ.head e)) = in_reverse ks (k ∷ xs) (inr (Memᴰ.head e))
  in_reverse (k ∷ ks) xs (inl (Memᴰ.tail m)) = in_reverse ks (k ∷ xs) (inl m)
  in_reverse (k ∷ ks) xs (inr m) = in_reverse ks (k ∷ xs) (inr (Memᴰ.tail m))

  -- two derivations, one after the other, are one
  pub both : (ks js : List Line) → Derivation P ks → Derivation P js → Derivation P (ks ++ js)
  both ks js d e = follows_append [] ks js d (follows_more [] (reverse_aux ks []) (λ l m. absurd (Memᴰ.not-nil m)) js e)

  -- induction over derivations
  pub all_lines : (Q : Line → Type 0) → ((k : Line) → Given P Q k → Q k) → (xs ks : List Line) → ((l : Line) → Memᴰ l xs → Q l) → Follows P xs ks → (l : Line) → Memᴰ l ks → Q l
  all_lines Q step xs [] old d l m = absurd (Memᴰ.not-nil m)
  all_lines Q step xs (k ∷ ks) old d l m = here (all_lines Q step (k ∷ xs) ks older d.1 l) m
    where
      this : Q k
      this = step k (given_map old d.0)

      older : (l : Line) → Memᴰ l (k ∷ xs) → Q l
      older l (Memᴰ.head e) = subst Q (sym e) this
      older l (Memᴰ.tail m) = old l m

      here : (Memᴰ l ks → Q l) → Memᴰ l (k ∷ ks) → Q l
      here f (Memᴰ.head e) = subst Q (sym e) this
      here f (Memᴰ.tail m) = f m

  pub reached_all : (Q : Line → Type 0) → ((k : Line) → Given P Q k → Q k) → (k : Line) → Reached P k → Q k
  reached_all Q step k r = all_lines Q step [] r.lines (λ l m. absurd (Memᴰ.not-nil m)) r.derives k r.among

  -- the lines of a derivation that reaches a parent; none for a starting line
  from : {l : Line} → Parent P (Reached P) l → List Line
  from (inl s) = []
  from (inr r) = r.lines

  from_derives : {l : Line} (p : Parent P (Reached P) l) → Derivation P (from p)
  unfolding from
  from_derives (inl s) = tt
  from_derives (inr r) = r.derives

  from_has : {l : Line} (p : Parent P (Reached P) l) → Parent P (λ k. Memᴰ k (from p)) l
  unfolding from
  from_has (inl s) = inl s
  from_has (inr r) = inr r.among

  -- what the rules give from reached lines is reached
  pub reach : (k : Line) → Given P (Reached P) k → Reached P k
  reach k g = record { lines = (us ++ vs) ++ k ∷ []; derives = follows_append [] (us ++ vs) (k ∷ []) (both us vs (from_derives g.first_is) (from_derives g.second_is)) (last, tt); among = Memᴰ.append_right (us ++ vs) (Memᴰ.head refl) }
    where
      us : List Line
      us = from g.first_is

      vs : List Line
      vs = from g.second_is

      last : Given P (λ l. Memᴰ l (reverse_aux (us ++ vs) [])) k
      last = record {
        rule = g.rule;
        row = g.row;
        first = g.first;
        second = g.second;
        first_is = parent_map {H = λ k. Memᴰ k us} (λ l m. in_reverse {l = l} (us ++ vs) [] (inl (Memᴰ.append_left vs m))) (from_has g.first_is);
        second_is = parent_map {H = λ k. Memᴰ k vs} (λ l m. in_reverse {l = l} (us ++ vs) [] (inl (Memᴰ.append_right us m))) (from_has g.second_is);
        fire = g.fire;
        gave = g.gave;
      }
