-- For inner contracts only: one round after another, with what is known of the table between them. Nothing here is to be believed.
use Rattle.std.specs.Prelude.{◌≡◌, Bool, true, ◌&&◌, ◌||◌, List, ℕ, ◌*◌, ◌≤◌, ◌<◌, eqb, length, get_or, take}
use Rattle.plan.specs.LinkSet.{contains}
use Rattle.plan.specs.Moments.{Moments}
use Rattle.plan.specs.Plan.{Plan, width, cells}
use Rattle.plan.specs.Layout.{plan_of}
use Rattle.plan.specs.Horizons.{plan_with}
use Rattle.rules_fill.specs.Parts.{next_cells, AtMost, laid_over}
use Rattle.rules_refill.specs.Lists.{Lists}
use Rattle.rules_refill.specs.Lent.{NoneOver}
use Rattle.rounds_tables.specs.Cells.{same}
use Rattle.rounds_tables.specs.Ready.{Ready, NoNotes}
use Rattle.rounds_tables.specs.Known.{Known, LinedIn, AllListed}
use Rattle.rounds_making.specs.declared.making.Round.{Round}
use Rattle.rounds_making.specs.Rounds.{first_alarm_waits}

-- a round that changed these points stops the rounds: the first alarm waited before or changed, or no point changed and the tables agree
unfoldable pub stops_by : Bool → ℕ → Bool → Bool
stops_by waits changed agree = waits || (contains changed 0 || (eqb changed 0 && agree))

-- two tables with the same cells, what is known of the table, room for what the round notes, and whether the first alarm waits already
pub record RoundReady (plan marks : List ℕ) (horizon : ℕ) (first second lists counts notes noted : List ℕ) (last : Round) : Type 0 where
  pub ready : Ready plan marks horizon first second
  pub bound : AtMost 4000000000 (take (cells (plan_of plan)) first)
  pub same_cells : take (cells (plan_of plan)) second ≡ take (cells (plan_of plan)) first
  pub known : Known (plan_with plan horizon) (take (cells (plan_of plan)) first) lists counts last.changed last.lined last.over
  pub lists_long : (2 * (plan_of plan).points) * width (plan_of plan) ≤ length lists
  pub notes_long : cells (plan_of plan) ≤ length notes
  pub no_notes : NoNotes (plan_of plan).points noted
  pub waits_is : last.stops ≡ first_alarm_waits (plan_with plan horizon) (take (cells (plan_of plan)) first)

-- one round from the cells of the first table left its table in the cells of both; whether it stops, and what is known of its table
pub record RoundMade (P : Plan) (first second : Moments) (lists counts noted : List ℕ) (made : Round) : Type 0 where
  pub stops_is : made.stops ≡ first_alarm_waits P (next_cells P first.entry) || same (take (cells P) first.entry) (next_cells P first.entry)
  pub first_is : first.exit ≡ laid_over (cells P) (next_cells P first.entry) first.entry
  pub second_is : second.exit ≡ laid_over (cells P) (next_cells P first.entry) second.entry
  pub first_length : length first.exit ≡ length first.entry
  pub second_length : length second.exit ≡ length second.entry
  pub known : Known P (next_cells P first.entry) lists counts made.changed made.lined made.over
  pub no_notes : NoNotes P.points noted

-- what is known of the table before the first round, where every point counts as changed, and room for notes
pub record ListsLent (plan : List ℕ) (horizon : ℕ) (first lists counts notes : List ℕ) (lined : ℕ) (over : Bool) : Type 0 where
  pub lists_long : (2 * (plan_of plan).points) * width (plan_of plan) ≤ length lists
  pub notes_long : cells (plan_of plan) ≤ length notes
  pub lists_are : Lists (plan_with plan horizon) (take (cells (plan_of plan)) first) lists counts
  pub lined_in : LinedIn (plan_of plan).points counts lined
  pub none_over : NoneOver (plan_with plan horizon) (take (cells (plan_of plan)) first) lists counts over

-- room for the lists of a table; of a table of zeros they are there
pub record FirstLent (plan first lists counts : List ℕ) (none : Bool) : Type 0 where
  pub long_first : cells (plan_of plan) ≤ length first
  pub lists_long : (2 * (plan_of plan).points) * width (plan_of plan) ≤ length lists
  pub counts_long : 2 * (plan_of plan).points ≤ length counts
  pub cells_none : none ≡ true → (c : ℕ) → c < cells (plan_of plan) → get_or first c 0 ≡ 0
  pub places_none : (c : ℕ) → get_or lists c 0 ≡ 0
  pub counts_one : (c : ℕ) → c < 2 * (plan_of plan).points → get_or counts c 0 ≡ 1

pub record FirstLists (P : Plan) (first lists counts : List ℕ) (lined : ℕ) : Type 0 where
  pub all_listed : AllListed P.points (width P) first lists counts
  pub lined_in : LinedIn P.points counts lined
