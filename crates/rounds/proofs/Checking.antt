-- Laws of the check: its cases (CheckCases) are all that it promises, and what rounds from zeros are lent and make of the tables.
use mathlib.Core.Path.{◌≡◌, refl, sym, ap, ap₂, subst, ◌∙◌}
use mathlib.Core.Bool.{true}
use mathlib.Core.Logic.{◌⊎◌, inl, inr}
use mathlib.Core.List.{List, ◌++◌}
use mathlib.Core.Option.{none}
use Prim.Native.Nat.{ℕ, ◌+◌, ◌≤◌}
use native.Mathlib.Decide.{ℕ_discrete, dec_le}
use native.Mathlib.Omega.{arith}
use lib.ListN.{length, get_or, take, drop, replicate, length-replicate, get_or-eq_default}
use Rattle.plan.specs.Moments.{Moments}
use Rattle.plan.specs.Label.{Marks}
use Rattle.plan.specs.Plan.{Plan, cells}
use Rattle.plan.specs.Layout.{plan_of}
use Rattle.plan.specs.Horizons.{plan_with}
use Rattle.plan.specs.Refusal.{Accepted, refusal}
use Rattle.plan.proofs.Ranges.{WellFormed, accepted_bounded}
use Rattle.plan.proofs.Horizons.{own_horizon, with_well_formed}
use Rattle.plan.proofs.RefusalNumbers.{refusal_few}
use Rattle.rules_fill.specs.Parts.{laid_over}
use Rattle.rounds_making.specs.Rounds.{table_from, zeros, rounds_to}
use Rattle.rounds_making.specs.Outcomes.{Outcome, refused, run_outcome, run_table}
use Rattle.rounds_making.specs.Runs.{RoomFrom, RunLent, Ran}
use Rattle.rounds_making.proofs.Stopping.{none_runs}
use Rattle.rounds_making.proofs.TableLengths.{table_length}
use Rattle.rounds_making.proofs.RoundsMade.{front_is, back_is}
use Rattle.rounds.specs.CheckOutcomes.{check_outcome, check_table}
use Rattle.rounds.specs.Meaning.{Meaning}
use Rattle.rounds.specs.AfterCheck.{AfterCheck}
use Rattle.rounds.specs.FromZeros.{ZerosLent, RanFromZeros}
pub use Rattle.rounds.proofs.CheckCases.{check_runs, check_leaves, refused_outcome, refused_table, short_outcome, short_table, short_first, short_second, number_some}
use Rattle.rounds.proofs.Small.{table_high}
use Rattle.rounds.proofs.Meanings.{refused_means, run_means_bytes, decided}
use Rattle.rounds.proofs.Unlabelled.{unlabelled_check}

-- all that the check promises, where it refused
pub after_refusal : (bs : List ℕ) (limit k : ℕ) (first second : Moments) → refused k ≡ check_outcome bs first.entry second.entry limit → first.exit ≡ check_table bs first.entry second.entry limit first.entry → second.exit ≡ check_table bs first.entry second.entry limit second.entry → AfterCheck bs limit first second (refused k)
after_refusal bs limit k first second e f g = record { outcome_is = e; first_is = f; second_is = g; means = refused_means (plan_of bs) limit k first.exit second.exit; serves = λ h s. s; as_unlabelled = λ a. unlabelled_check bs a limit first second (refused k) e f g }

-- ---- the check refuses, or its rounds run
module _ (bs F G : List ℕ) (limit : ℕ) where
  abbrev Refuses : Type 0
  Refuses = (k : ℕ) × (check_outcome bs F G limit ≡ refused k) × (k ≤ 18)

  abbrev Runs : Type 0
  Runs = Accepted bs × (cells (plan_of bs) ≤ length F) × (cells (plan_of bs) ≤ length G)

  pub refuses_or_runs : Refuses ⊎ Runs
  refuses_or_runs = judged (ℕ_discrete (refusal bs) 0)
    where
      lent : Accepted bs → Dec (cells (plan_of bs) ≤ length F) → Dec (cells (plan_of bs) ≤ length G) → Refuses ⊎ Runs
      lent a (yes f) (yes g) = inr (a, f, g)
      lent a (yes f) (no g) = inl (6, sym (short_outcome bs F G limit a (short_second (plan_of bs) F G f (omega arith))), omega arith)
      lent a (no f) g = inl (6, sym (short_outcome bs F G limit a (short_first (plan_of bs) F G (omega arith))), omega arith)

      judged : Dec (refusal bs ≡ 0) → Refuses ⊎ Runs
      judged (yes a) = lent a (dec_le (cells (plan_of bs)) (length F)) (dec_le (cells (plan_of bs)) (length G))
      judged (no n) = inl (refusal bs, sym (refused_outcome bs F G limit (refusal bs) refl n), omega (arith, refusal_few bs))

-- ---- rounds from zeros
module _ (P : Plan) (wf : WellFormed P) (room : P.horizon + P.largest ≤ 4000000000) where
  small : (r : ℕ) → rounds_to P (zeros P) r ≡ none → (c : ℕ) → Dec (cells P ≤ c) → get_or (table_from P (zeros P) r) c 0 ≤ 4000000000
  small r e c (yes h) = rw (get_or-eq_default (table_from P (zeros P) r) 0 {n = c} (omega (arith, table_length P wf r))) (omega arith)
  small r e c (no h) = omega (arith, table_high P wf r (none_runs P (zeros P) r e) c (omega arith))

  zeros_room : RoomFrom P (zeros P)
  zeros_room = record { room = λ r e. record { cell = λ c. small r e c (dec_le (cells P) c) } }

-- a table's cells were cleared; the code's number e is the cells
module _ (P : Plan) (F F₀ : List ℕ) (e : ℕ) (ee : e ≡ cells P) (cleared : F ≡ laid_over e (replicate e 0) F₀) where
  over : F ≡ laid_over (cells P) (zeros P) F₀
  over = cleared ∙ ap (λ (x : ℕ). laid_over x (replicate x 0) F₀) ee

  front : take (cells P) F ≡ zeros P
  front = ap (take (cells P)) over ∙ front_is (cells P) (zeros P) F₀ (length-replicate (cells P) 0)

  back : drop (cells P) F ≡ drop (cells P) F₀
  back = ap (drop (cells P)) over ∙ back_is (cells P) (zeros P) F₀ (length-replicate (cells P) 0)

-- the horizon and M of what rounds from zeros are lent leave room for a duration in 32 bits
lent_room : (bs : List ℕ) (h : ℕ) (F G : List ℕ) → ZerosLent bs h F G → h + (plan_of bs).largest ≤ 4000000000
lent_room bs h F G lent = omega (arith, lent.horizon_near, (accepted_bounded bs lent.accepted).largest_in)

-- both tables' cells were cleared
module _ (bs : List ℕ) (h : ℕ) (F F₀ G G₀ : List ℕ) (e : ℕ) (lent : ZerosLent bs h F₀ G₀) (ee : e ≡ cells (plan_of bs)) (f : F ≡ laid_over e (replicate e 0) F₀) (g : G ≡ laid_over e (replicate e 0) G₀) (lf : length F ≡ length F₀) (lg : length G ≡ length G₀) where
  first_none : take (cells (plan_of bs)) F ≡ zeros (plan_of bs)
  first_none = front (plan_of bs) F F₀ e ee f

  pub cleared_lent : (M : List ℕ) → Marks M → RunLent bs M h F G true
  cleared_lent M marked = record {
    ready = record { accepted = lent.accepted; marked = marked; horizon_far = lent.horizon_far; long_first = rw lf lent.long_first; long_second = rw lg lent.long_second };
    room_from = rw first_none (zeros_room (plan_with bs h) (with_well_formed bs lent.accepted h lent.horizon_far) (lent_room bs h F₀ G₀ lent));
    same_cells = front (plan_of bs) G G₀ e ee g ∙ sym first_none;
    zeros_are = λ z. first_none;
  }

  pub cleared_ran : (limit : ℕ) (o : Outcome) (first second : Moments) → first.entry ≡ F₀ → second.entry ≡ G₀ → Ran (plan_with bs h) F G limit o first.exit second.exit → RanFromZeros (plan_with bs h) limit first second o
  cleared_ran limit o first second ef eg r = record {
    outcome_is = r.outcome_is ∙ ap (λ (l : List ℕ). run_outcome (plan_with bs h) l limit) first_none;
    first_is = r.first_is ∙ ap₂ (λ (l m : List ℕ). run_table (plan_with bs h) l limit ++ m) first_none (back (plan_of bs) F F₀ e ee f ∙ ap (drop (cells (plan_of bs))) (sym ef));
    second_is = r.second_is ∙ ap₂ (λ (l m : List ℕ). run_table (plan_with bs h) l limit ++ m) first_none (back (plan_of bs) G G₀ e ee g ∙ ap (drop (cells (plan_of bs))) (sym eg));
    first_length = r.first_length ∙ lf ∙ ap length (sym ef);
    second_length = r.second_length ∙ lg ∙ ap length (sym eg);
  }

-- what they are lent with the plan's own horizon
pub own_lent : (bs : List ℕ) (h : ℕ) (F G : List ℕ) → Accepted bs → h ≡ (plan_of bs).horizon → cells (plan_of bs) ≤ length F → cells (plan_of bs) ≤ length G → ZerosLent bs h F G
own_lent bs h F G accepted own f g = record { accepted = accepted; horizon_far = omega arith; horizon_near = omega (arith, (accepted_bounded bs accepted).horizon_in); long_first = f; long_second = g }

-- and then they are all that the check promises
module _ (bs : List ℕ) (accepted : Accepted bs) (limit : ℕ) (o : Outcome) (first second : Moments) (f : cells (plan_of bs) ≤ length first.entry) (g : cells (plan_of bs) ≤ length second.entry) where
  zeros_checked : RanFromZeros (plan_of bs) limit first second o → AfterCheck bs limit first second o
  zeros_checked r = record {
    outcome_is = outcome;
    first_is = first_table;
    second_is = second_table;
    means = means;
    serves = decided bs accepted limit o first.exit second.exit means;
    as_unlabelled = λ a. unlabelled_check bs a limit first second o outcome first_table second_table;
  }
    where
      outcome : o ≡ check_outcome bs first.entry second.entry limit
      outcome = r.outcome_is ∙ sym (check_runs bs first.entry second.entry limit accepted f g)

      first_table : first.exit ≡ check_table bs first.entry second.entry limit first.entry
      first_table = r.first_is ∙ sym (check_leaves bs first.entry second.entry limit accepted f g first.entry)

      second_table : second.exit ≡ check_table bs first.entry second.entry limit second.entry
      second_table = r.second_is ∙ sym (check_leaves bs first.entry second.entry limit accepted f g second.entry)

      means : Meaning (plan_of bs) limit o first.exit second.exit
      means = rw (r.outcome_is, r.first_is, r.second_is) (run_means_bytes bs accepted limit (drop (cells (plan_of bs)) first.entry) (drop (cells (plan_of bs)) second.entry))

  pub checked : (h : ℕ) → h ≡ (plan_of bs).horizon → RanFromZeros (plan_with bs h) limit first second o → AfterCheck bs limit first second o
  checked h own r = zeros_checked (subst (λ (P : Plan). RanFromZeros P limit first second o) (own_horizon bs h own) r)
