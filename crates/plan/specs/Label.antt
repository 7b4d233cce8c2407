-- Labels (2.1 to 2.5): one base-4 digit for each proposition, 0 absent, 1 yes, 2 no, 3 unknown.
use Rattle.std.specs.Prelude.{Bool, true, cond, not, ◌&&◌, List, ◌≡◌, ℕ, zero, suc, ◌+◌, ◌-◌, ◌*◌, ◌/◌, ◌%◌, ◌^◌, ◌<◌, eqb, get_or}

-- 2.1: digit j of a label
unfoldable pub digit : ℕ → ℕ → ℕ
digit a j = a / 4 ^ j % 4

-- 2.2: one digit of a join: the other where one is 0, the digit itself where both are equal, else unknown
unfoldable pub join_digit : ℕ → ℕ → ℕ
join_digit x y = cond (eqb x 0) y (cond (eqb y 0) x (cond (eqb x y) x 3))

-- 2.2: the join of two labels of p digits
unfoldable pub join : ℕ → ℕ → ℕ → ℕ
join zero a b = 0
join (suc p) a b = join_digit (a % 4) (b % 4) + 4 * join p (a / 4) (b / 4)

-- 2.3: plain, none of the p digits is unknown
unfoldable pub plain : ℕ → ℕ → Bool
plain zero a = true
plain (suc p) a = not (eqb (a % 4) 3) && plain p (a / 4)

-- 2.4: the label with digit j cleared
unfoldable pub clear_digit : ℕ → ℕ → ℕ
clear_digit a j = a - digit a j * 4 ^ j

-- 2.5: a table of marks has 1 for each byte of four digits that is plain, and else 0
pub record Marks (table : List ℕ) : Type 0 where
  pub mark : (b : ℕ) → b < 256 → get_or table b 0 ≡ cond (plain 4 b) 1 0
