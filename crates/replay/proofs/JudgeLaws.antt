-- Laws of replay's functions: what an accepted plan bounds, the parents of a line, the lines one by one, and what the number that replay answers says.
use mathlib.Core.Path.{◌≡◌, refl, sym, ap, subst, ◌∙◌}
use mathlib.Core.Bool.{Bool, true, false, cond, not, ◌||◌}
use mathlib.Core.List.{List}
use Prim.Native.Nat.{ℕ, zero, suc, ◌+◌, ◌-◌, ◌^◌, ◌≤◌, ◌<◌}
use mathlib.Core.Logic.{⊎_elim}
use native.Mathlib.Nat.{lt_of_lt_of_le, eq-or-lt_of_le, le_of_suc-le-suc}
use native.Mathlib.Numerals.{add-one}
use native.Mathlib.Omega.{arith}
use borrow.Author.Tests.{ne_eqb, ltb-false}
use lib.Dec.{T as Is, ltb, eqb, ltb→lt, eqb→eq}
use lib.Ieee.Fits.{and_l, and_r}
use Rattle.std.specs.Prelude.{Option, Some, Result, IsErrAnd}
use Rattle.std.proofs.lemmas.Result.{err_from_is_err_and}
use Rattle.plan.specs.declared.refusal.Refusal.{Refusal}
use Rattle.plan.specs.Numbers.{number_of, refusal_number}
use Rattle.plan.specs.Plan.{Plan}
use Rattle.plan.specs.Layout.{plan_of}
use Rattle.plan.specs.Refusal.{Accepted, refusal}
use Rattle.plan.proofs.LabelLaws.{four_pos}
use Rattle.plan.proofs.Ranges.{accepted_well_formed, accepted_bounded}
use Rattle.plan.proofs.Widths.{labels_small}
use Rattle.rules.specs.declared.Line.{Line}
use Rattle.rules.specs.declared.Rule.{Rule}
use Rattle.rules.specs.Lines.{starting_line}
use Rattle.rules.specs.Derivations.{InPlan}
use Rattle.rules.specs.Rules.{uses_second}
use Rattle.rules_apply.specs.Applicable.{InLabels, Applicable}
use Rattle.rules_apply.proofs.ApplyLaws.{told_not}
use Rattle.replay.specs.Listings.{head_line, head_rule, row_of, rule_of, first_parent, second_parent, parent_line}
use Rattle.replay.specs.Replaying.{in_range, parents_known, judge_rule, judge_line, judge_lines, replay}
use Rattle.replay.specs.Derives.{ListingDerives}
use Rattle.replay.specs.AfterReplay.{AfterReplay}
use Rattle.replay.specs.Judging.{Judging}
use Rattle.replay.proofs.ListingLaws.{line_derives, lines_judged, replay_derives, derives_replay, listing_derivation, listing_self_wait, listing_no_panel}

-- ---- refusals
pub number_passed : {A : Type 0} (r : Result A Refusal) (e : Refusal) → IsErrAnd r (λ f. f ≡ e) → refusal_number r ≡ number_of e
number_passed r e h = let p = err_from_is_err_and r h in rw (p.1, p.2) refl

pub number_some : (e : Refusal) → number_of e ≡ 0 → ⊥
number_some e z = grind arith

-- ---- an accepted plan
pub links_few : (bs : List ℕ) → Accepted bs → (plan_of bs).links ≤ 4
links_few bs a = (accepted_bounded bs a).links_in

pub propositions_few : (bs : List ℕ) → Accepted bs → (plan_of bs).propositions ≤ 4
propositions_few bs a = (accepted_bounded bs a).propositions_in

pub label_byte : (bs : List ℕ) (a : ℕ) → Accepted bs → a < 4 ^ (plan_of bs).propositions → a < 256
label_byte bs a h k = lt_of_lt_of_le k (labels_small (plan_of bs).propositions (propositions_few bs h))

-- ---- the parents of line i
unused_zero : (u e : Bool) (s n i : ℕ) → 0 < n → (Is e → s ≡ 0) → Is (u || e) → Is (not u || ltb s (n + i)) → s < n + i
unused_zero true e s n i h f a b = ltb→lt s (n + i) b
unused_zero false e s n i h f a b = omega (arith, f a)

module _ (plan bs marks : List ℕ) (horizon i : ℕ) (by : Rule) (j : Judging plan marks horizon) (labels_in : (k : ℕ) → k < i → (head_line bs k).label < 4 ^ (plan_of plan).propositions) (known : Is (parents_known (plan_of plan) bs i by)) where
  first_number : first_parent bs i < (plan_of plan).points + i
  unfolding parents_known
  first_number = ltb→lt (first_parent bs i) ((plan_of plan).points + i) (search and_l)

  second_number_lem : Is (uses_second by || eqb (second_parent bs i) 0) → second_parent bs i < (plan_of plan).points + i
  unfolding parents_known
  second_number_lem t = unused_zero (uses_second by) (eqb (second_parent bs i) 0) (second_parent bs i) (plan_of plan).points i (omega (arith, (accepted_well_formed plan j.accepted).two)) (eqb→eq (second_parent bs i) 0) t (and_r (ltb (first_parent bs i) ((plan_of plan).points + i)) (not (uses_second by) || ltb (second_parent bs i) ((plan_of plan).points + i)) known)

  -- a parent that a line may name has a label of p digits
  parent_label : (q : ℕ) → q < (plan_of plan).points + i → (parent_line (plan_of plan) bs q).label < 4 ^ (plan_of plan).propositions
  parent_label q h = go (ltb q (plan_of plan).points) refl
    where
      go : (b : Bool) → ltb q (plan_of plan).points ≡ b → (cond b (starting_line q) (head_line bs (q - (plan_of plan).points))).label < 4 ^ (plan_of plan).propositions
      go true e = four_pos (plan_of plan).propositions
      go false e = labels_in (q - (plan_of plan).points) (omega (arith, ltb-false q (plan_of plan).points e))

  parent_in : (q : ℕ) (l : Line) → q < (plan_of plan).points + i → l ≡ parent_line (plan_of plan) bs q → l.wait < 4294967296 → InLabels (plan_of plan) l
  parent_in q l h e w = record { label_in = rw e (parent_label q h); wait_in = omega arith }

  -- what applying the rule to the two parents asks for
  pub parents_lent : InPlan (plan_of plan) by → (r : Bool) (q s : ℕ) (l m : Line) → r ≡ (uses_second by || eqb (second_parent bs i) 0) → not r ≡ false → q ≡ first_parent bs i → l ≡ parent_line (plan_of plan) bs q → l.wait < 4294967296 → s ≡ second_parent bs i → m ≡ parent_line (plan_of plan) bs s → m.wait < 4294967296 → Applicable plan marks horizon by l m
  parents_lent row r q s l m g t k e w k' e' w' =
      let fits : Is (uses_second by || eqb (second_parent bs i) 0) = subst Is (sym (told_not r _ true g t)) tt in
      record { accepted = j.accepted; marked = j.marked; horizon_is = j.horizon_is; row = row; first_in = parent_in q l (rw k first_number) e w; second_in = parent_in s m (rw k' (second_number_lem fits)) e' w' }

-- ---- line by line
pub first_refused : (P : Plan) (bs : List ℕ) (i v m : ℕ) → judge_lines P bs i ≡ 0 → v ≡ judge_line P bs i → (v ≡ 0 → ⊥) → i < m → v ≡ judge_lines P bs m
unfolding judge_lines
first_refused P bs i v zero e f h l = absurd (omega arith)
first_refused P bs i v (suc m) e f h l =
    ⊎_elim (λ (q : i ≡ m). rw (← q, e) f)
    (λ (k : i < m). let r : judge_lines P bs m ≡ v = sym (first_refused P bs i v m e f h k) in rw (r, ne_eqb v 0 h))
    (eq-or-lt_of_le (le_of_suc-le-suc l))

pub one_follows : (P : Plan) (bs : List ℕ) (i : ℕ) → judge_lines P bs i ≡ 0 → 0 ≡ judge_line P bs i → judge_lines P bs (i + 1) ≡ 0
unfolding judge_lines
one_follows P bs i a e = rw (add-one, a) (sym e)

pub judged_label : (P : Plan) (bs : List ℕ) (m i : ℕ) → judge_lines P bs m ≡ 0 → i < m → (head_line bs i).label < 4 ^ P.propositions
judged_label P bs m i e h = (line_derives P bs i (lines_judged P bs m i e h)).label_in

pub judged_in : (P : Plan) (bs : List ℕ) (m i : ℕ) (l : Line) → l ≡ head_line bs i → judge_lines P bs m ≡ 0 → i < m → l.label < 4 ^ P.propositions
judged_in P bs m i l q e h = rw q (judged_label P bs m i e h)

-- ---- all that replay promises, from its number
pub replayed : (plan bs : List ℕ) (r : ℕ) → r ≡ replay plan bs → AfterReplay plan bs r
replayed plan bs r e = record { number_is = e; accepted_derives = derives; derives_accepted = λ d. e ∙ derives_replay plan bs d; derivation = λ z. listing_derivation plan bs (derives z); self_wait = λ z. listing_self_wait plan bs (derives z); no_panel = λ z. listing_no_panel plan bs (derives z) }
  where
    derives : r ≡ 0 → ListingDerives plan bs
    derives z = replay_derives plan bs (sym e ∙ z)

pub plan_refused : (plan bs : List ℕ) (r : ℕ) → r ≡ refusal plan → (r ≡ 0 → ⊥) → r ≡ replay plan bs
unfolding replay
plan_refused plan bs r e n = rw (← e, ne_eqb r 0 n)

-- ---- a line in range, by the rule that it names
module _ (P : Plan) (bs : List ℕ) (i : ℕ) (x : Option Rule) (rule row : ℕ) (is : x ≡ rule_of P rule row) (l : Line) (r : Bool) (line_is : l ≡ head_line bs i) (range_is : r ≡ in_range P l) (in_range_lem : not r ≡ false) (rule_is : rule ≡ head_rule bs i) (row_is : row ≡ row_of bs i) where
  judged_by : judge_line P bs i ≡ judge_rule P bs i x
  unfolding judge_line
  judged_by = rw (← line_is, ← range_is, in_range_lem, ← rule_is, ← row_is, ← is)

  pub by_rule_lem : (by : Rule) (v : ℕ) → x ≡ Some by → v ≡ judge_rule P bs i (Some by) → v ≡ judge_line P bs i
  by_rule_lem by v e f = f ∙ sym (judged_by ∙ ap (judge_rule P bs i) e)
