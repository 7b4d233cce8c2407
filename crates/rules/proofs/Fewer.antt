-- A plan with fewer rows and the same horizon has fewer derivations, and one with the same rows the same rounds.
use mathlib.Core.Path.{◌≡◌, refl, sym, ◌∙◌}
use mathlib.Core.Logic.{◌⊎◌, inl, inr}
use mathlib.Core.List.{List, [], ◌∷◌}
use Prim.Native.Nat.{ℕ}
use lib.ListN.{length, get_or}
use Rattle.plan.specs.Plan.{Plan, width, cells}
use Rattle.plan.proofs.Ranges.{WellFormed}
use Rattle.plan.proofs.Fewer.{FewerRows}
use Rattle.rules.specs.declared.Line.{Line}
use Rattle.rules.specs.declared.Edge.{Edge}
use Rattle.rules.specs.declared.Edge.TheVariants.{PlanEdge, HorizonEdge, UpperBound, LowerBound}
use Rattle.rules.specs.declared.Rule.{Rule}
use Rattle.rules.specs.declared.Rule.TheVariants.{Propagation, LowerCase, UpperCase, LetterRemoval, OwnLiteral, LiteralRemoval}
use Rattle.rules.specs.Lines.{cell_of}
use Rattle.rules.specs.Rules.{constraint_of, fires, result}
use Rattle.rules.specs.Tables.{next}
use Rattle.rules.specs.Derivations.{InPlan, Parent, Given, Follows, Derivation, Reaches, SelfWait}
use Rattle.rules.proofs.Deriving.{given_map}
use Rattle.rules.proofs.Next.{Cell, FromTable, IsNext, next_is, next_only}

-- a rule of P that does on any two lines what the rule r of Q does
record AsRule (Q P : Plan) (r : Rule) : Type 0 where
  rule : Rule
  row : InPlan P rule
  fires_as : (l m : Line) → fires Q r l m ≡ fires P rule l m
  gives_as : (l m : Line) → result Q r l m ≡ result P rule l m

module _ {Q P : Plan} (f : FewerRows Q P) where
  -- ---- cells
  pub fewer_cell : (l : Line) → cell_of Q l ≡ cell_of P l
  fewer_cell l = rw (f.links_are, f.propositions_are)

  pub fewer_width : width Q ≡ width P
  fewer_width = rw (f.links_are, f.propositions_are)

  pub fewer_cells : cells Q ≡ cells P
  fewer_cells = rw (f.points_are, f.links_are, f.propositions_are)

  -- ---- rules
  -- rule 1 looks only at what its edge says
  edge_as : {e : Edge} (d : Edge) → InPlan P (Propagation d) → constraint_of Q e ≡ constraint_of P d → AsRule Q P (Propagation e)
  edge_as d h s = record { rule = Propagation d; row = h; fires_as = λ l m. rw (s, f.propositions_are); gives_as = λ l m. rw (s, f.propositions_are) }

  rule_as : (r : Rule) → InPlan Q r → AsRule Q P r
  rule_as (Propagation (PlanEdge i)) h =
      let (j, k, s) = f.edge_among i h in
      edge_as (PlanEdge j) k (λ t. record { from = s.from_is t; to = s.to_is t; label = s.label_is t; up = s.up_is t; down = s.down_is t })
  rule_as (Propagation (HorizonEdge x)) h = edge_as (HorizonEdge x) (h.0, rw f.points_are at h.1) (rw f.horizon_is)
  rule_as (Propagation (UpperBound i)) h = edge_as (UpperBound i) (rw f.links_are at h) (rw (f.activation_is i h, f.finish_is i h, f.most_is i h))
  rule_as (Propagation (LowerBound i)) h = edge_as (LowerBound i) (rw f.links_are at h) (cc (f.activation_is i h, f.finish_is i h, f.least_is i h, f.most_is i h))
  rule_as (LowerCase i) h = record { rule = LowerCase i; row = rw f.links_are at h; fires_as = λ l m. rw (f.finish_is i h, f.least_is i h, f.propositions_are); gives_as = λ l m. rw (f.activation_is i h, f.least_is i h) }
  rule_as (UpperCase i) h = record { rule = UpperCase i; row = rw f.links_are at h; fires_as = λ l m. rw (f.activation_is i h, f.propositions_are); gives_as = λ l m. rw (f.finish_is i h, f.most_is i h) }
  rule_as (LetterRemoval i) h = record { rule = LetterRemoval i; row = rw f.links_are at h; fires_as = λ l m. rw (f.activation_is i h); gives_as = λ l m. rw (f.least_is i h, f.propositions_are) }
  rule_as (OwnLiteral j) h = record { rule = OwnLiteral j; row = rw f.propositions_are at h; fires_as = λ l m. rw (f.observer_is j h); gives_as = λ l m. refl }
  rule_as (LiteralRemoval j) h = record { rule = LiteralRemoval j; row = rw f.propositions_are at h; fires_as = λ l m. rw (f.observer_is j h); gives_as = λ l m. rw f.propositions_are }

  -- ---- what the rules give
  fewer_parent : (H : Line → Type 0) {l : Line} → Parent Q H l → Parent P H l
  fewer_parent H (inl s) = inl (record { inside = rw f.points_are at s.inside; is_starting = s.is_starting })
  fewer_parent H (inr h) = inr h

  -- what the rules of Q give, those of P give
  pub fewer_given : {H : Line → Type 0} {k : Line} → Given Q H k → Given P H k
  fewer_given {H} g =
      let a = rule_as g.rule g.row in
      record { rule = a.rule; row = a.row; first = g.first; second = g.second; first_is = fewer_parent H g.first_is; second_is = fewer_parent H g.second_is; fire = rw (a.fires_as g.first g.second) at g.fire; gave = sym (a.gives_as g.first g.second) ∙ g.gave }

  -- ---- derivations
  fewer_follows : (xs ks : List Line) → Follows Q xs ks → Follows P xs ks
  fewer_follows xs [] d = tt
  fewer_follows xs (k ∷ ks) d = (fewer_given d.0, fewer_follows (k ∷ xs) ks d.1)

  pub fewer_derivation : (ks : List Line) → Derivation Q ks → Derivation P ks
  fewer_derivation = fewer_follows []

  pub fewer_reaches : (c w : ℕ) → Reaches Q c w → Reaches P c w
  fewer_reaches c w r = record { lines = r.lines; derives = fewer_derivation r.lines r.derives; by = record { line = r.by.line; among = r.by.among; belongs = sym (fewer_cell r.by.line) ∙ r.by.belongs; waits = r.by.waits } }

  pub fewer_self_wait : SelfWait Q → SelfWait P
  fewer_self_wait s = record { lines = s.lines; derives = fewer_derivation s.lines s.derives; by = record { line = s.by.line; among = s.by.among; first_alarm = s.by.first_alarm; is_plain = rw f.propositions_are at s.by.is_plain } }

  -- ---- one round
  -- which lines a table holds depends on the sizes alone
  still_held : (A : List ℕ) (l : Line) → Cell Q A l → Cell P A l
  still_held A l c = record { inside = record { point_in = rw f.points_are at c.inside.point_in; set_in = rw f.links_are at c.inside.set_in; label_in = rw f.propositions_are at c.inside.label_in }; above = c.above; holds = rw (← fewer_cell l) c.holds }

  from_table : (A : List ℕ) (c w : ℕ) → FromTable Q A c w → FromTable P A c w
  from_table A c w t = record { line = t.line; given_from = fewer_given (given_map (still_held A) t.given_from); cell_is = sym (fewer_cell t.line) ∙ t.cell_is; wait_is = t.wait_is }

-- two plans that have each other's rows have the same next table
pub same_next : {Q P : Plan} → FewerRows Q P → FewerRows P Q → WellFormed Q → WellFormed P → (A : List ℕ) → length A ≡ cells P → next Q A ≡ next P A
same_next {Q} {P} f g wq wp A len = next_only P wp A (next Q A) len (record { as_long = n.as_long; no_lower = λ c h. n.no_lower c (rw (← fewer_cells f) at h); covers = λ k h. rw (fewer_cell g k) (n.covers k (fewer_given g (given_map (still_held g A) h))); reason = λ c h. reason c (n.reason c (rw (← fewer_cells f) at h)) })
  where
    n : IsNext Q A (next Q A)
    n = next_is Q wq A (len ∙ sym (fewer_cells f))

    reason : (c : ℕ) → (get_or (next Q A) c 0 ≡ get_or A c 0) ⊎ FromTable Q A c (get_or (next Q A) c 0) → (get_or (next Q A) c 0 ≡ get_or A c 0) ⊎ FromTable P A c (get_or (next Q A) c 0)
    reason c (inl e) = inl e
    reason c (inr t) = inr (from_table f A c _ t)
