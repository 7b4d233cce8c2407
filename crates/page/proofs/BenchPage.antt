-- Worked examples: a line with every sign, and the page of the ramp, README's first example, with the waits that the check leaves.
use mathlib.Core.Path.{◌≡◌, refl}
use mathlib.Core.List.{List, [], ◌∷◌}
use Prim.Native.Nat.{ℕ}
use Rattle.plan.specs.Bytes.{byte_at}
use Rattle.plan.specs.Counting.{count}
use Rattle.plan.specs.Label.{digit}
use Rattle.plan.specs.LinkSet.{contains}
use Rattle.plan.specs.Layout.{plan_of}
use Rattle.text.specs.Decimal.{digits, decimal}
use Rattle.text.specs.Joined.{joined}
use Rattle.page.specs.Columns.{right_aligned, link_column, sign, proposition_column, links_in, middle_columns, columns}
use Rattle.page.specs.Page.{above, cell_text, page_of}

-- point 31 under links 0 and 2, with proposition 0 yes, 1 no and 2 unknown: `31 0.2. +-?. 2 999999`
pub every_sign : columns (record { point = 31; set = 5; label = 57; wait = 999999 }) ≡ 51 ∷ 49 ∷ 32 ∷ 48 ∷ 46 ∷ 50 ∷ 46 ∷ 32 ∷ 43 ∷ 45 ∷ 63 ∷ 46 ∷ 32 ∷ 50 ∷ 32 ∷ 57 ∷ 57 ∷ 57 ∷ 57 ∷ 57 ∷ 57 ∷ 10 ∷ []
unfolding digit contains digits decimal count right_aligned link_column sign proposition_column links_in middle_columns columns
every_sign = refl

abbrev ramp : List ℕ
ramp = 4 ∷ 1 ∷ 1 ∷ 3 ∷ 2 ∷ 0 ∷ 1 ∷ 2 ∷ 1 ∷ 3 ∷ 0 ∷ 0 ∷ 3 ∷ 0 ∷ 15 ∷ 0 ∷ 120 ∷ 0 ∷ 0 ∷ 0 ∷ 0 ∷ 255 ∷ 76 ∷ 1 ∷ 0 ∷ 0 ∷ 60 ∷ 2 ∷ 0 ∷ []

abbrev waits : List ℕ
waits =
    0 ∷ 0 ∷ 0 ∷ 0 ∷ 0 ∷ 0 ∷ 60 ∷ 0
    ∷ 15 ∷ 0 ∷ 0 ∷ 0 ∷ 120 ∷ 0 ∷ 0 ∷ 0
    ∷ 15 ∷ 0 ∷ 0 ∷ 0 ∷ 120 ∷ 0 ∷ 0 ∷ 0
    ∷ 15 ∷ 180 ∷ 0 ∷ 0 ∷ 120 ∷ 0 ∷ 0 ∷ 0
    ∷ []

pub ramp_page :
    page_of (plan_of ramp) waits ≡
    32 ∷ 48 ∷ 32 ∷ 48 ∷ 46 ∷ 46 ∷ 46 ∷ 32 ∷ 45 ∷ 46 ∷ 46 ∷ 46 ∷ 32 ∷ 49 ∷ 32 ∷ 32 ∷ 32 ∷ 32 ∷ 32 ∷ 54 ∷ 48 ∷ 10
    ∷ 32 ∷ 49 ∷ 32 ∷ 46 ∷ 46 ∷ 46 ∷ 46 ∷ 32 ∷ 46 ∷ 46 ∷ 46 ∷ 46 ∷ 32 ∷ 48 ∷ 32 ∷ 32 ∷ 32 ∷ 32 ∷ 32 ∷ 49 ∷ 53 ∷ 10
    ∷ 32 ∷ 49 ∷ 32 ∷ 48 ∷ 46 ∷ 46 ∷ 46 ∷ 32 ∷ 46 ∷ 46 ∷ 46 ∷ 46 ∷ 32 ∷ 49 ∷ 32 ∷ 32 ∷ 32 ∷ 32 ∷ 49 ∷ 50 ∷ 48 ∷ 10
    ∷ 32 ∷ 50 ∷ 32 ∷ 46 ∷ 46 ∷ 46 ∷ 46 ∷ 32 ∷ 46 ∷ 46 ∷ 46 ∷ 46 ∷ 32 ∷ 48 ∷ 32 ∷ 32 ∷ 32 ∷ 32 ∷ 32 ∷ 49 ∷ 53 ∷ 10
    ∷ 32 ∷ 50 ∷ 32 ∷ 48 ∷ 46 ∷ 46 ∷ 46 ∷ 32 ∷ 46 ∷ 46 ∷ 46 ∷ 46 ∷ 32 ∷ 49 ∷ 32 ∷ 32 ∷ 32 ∷ 32 ∷ 49 ∷ 50 ∷ 48 ∷ 10
    ∷ 32 ∷ 51 ∷ 32 ∷ 46 ∷ 46 ∷ 46 ∷ 46 ∷ 32 ∷ 46 ∷ 46 ∷ 46 ∷ 46 ∷ 32 ∷ 48 ∷ 32 ∷ 32 ∷ 32 ∷ 32 ∷ 32 ∷ 49 ∷ 53 ∷ 10
    ∷ 32 ∷ 51 ∷ 32 ∷ 46 ∷ 46 ∷ 46 ∷ 46 ∷ 32 ∷ 43 ∷ 46 ∷ 46 ∷ 46 ∷ 32 ∷ 48 ∷ 32 ∷ 32 ∷ 32 ∷ 32 ∷ 49 ∷ 56 ∷ 48 ∷ 10
    ∷ 32 ∷ 51 ∷ 32 ∷ 48 ∷ 46 ∷ 46 ∷ 46 ∷ 32 ∷ 46 ∷ 46 ∷ 46 ∷ 46 ∷ 32 ∷ 49 ∷ 32 ∷ 32 ∷ 32 ∷ 32 ∷ 49 ∷ 50 ∷ 48 ∷ 10
    ∷ []
unfolding byte_at digit contains plan_of digits decimal joined count right_aligned link_column sign proposition_column links_in middle_columns columns above cell_text page_of
ramp_page = refl
