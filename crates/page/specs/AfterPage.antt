-- All that a page promises (18).
use Rattle.std.specs.Prelude.{◌≡◌, List, ℕ, ◌*◌, ◌<◌, length}
use Rattle.plan.specs.Counting.{count}
use Rattle.plan.specs.Moments.{Moments}
use Rattle.plan.specs.Plan.{Plan, cells}
use Rattle.plan.specs.Layout.{plan_of}
use Rattle.rules.specs.Lines.{line_at}
use Rattle.page.specs.Columns.{columns}
use Rattle.page.specs.Page.{above, page_of, PageOutcome, printed, page_outcome, page_output}

-- 18.9: every line has 22 bytes, and the page 22 for each cell above 0
pub record FixedColumns (P : Plan) (T : List ℕ) : Type 0 where
  pub line_length : (c : ℕ) → c < cells P → length (columns (line_at P T c)) ≡ 22
  pub page_length : length (page_of P T) ≡ 22 * count (above T) (cells P)

-- the page of a plan and a table, with a lent output, answered o
pub record AfterPage (plan table : List ℕ) (out : Moments) (o : PageOutcome) : Type 0 where
  pub outcome_is : o ≡ page_outcome plan table out.entry
  pub output_is : out.exit ≡ page_output plan table out.entry
  pub fixed : (n : ℕ) → o ≡ printed n → FixedColumns (plan_of plan) table
