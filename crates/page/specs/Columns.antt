-- The columns of a page's line (18.2 to 18.6).
use Rattle.std.specs.Prelude.{cond, List, [], ◌∷◌, ◌++◌, ℕ, ◌+◌, ◌-◌, eqb, length, replicate}
use Rattle.plan.specs.Counting.{count}
use Rattle.plan.specs.Label.{digit}
use Rattle.plan.specs.LinkSet.{contains}
use Rattle.rules.specs.declared.Line.{Line}
use Rattle.text.specs.Decimal.{decimal}

-- 18.3: a number right-aligned in w columns: blanks, and its decimal
unfoldable pub right_aligned : ℕ → ℕ → List ℕ
right_aligned w n = replicate (w - length (decimal n)) 32 ++ decimal n

-- 18.4: column 4 + i: the digit i where link i is in the set, else a full stop
unfoldable pub link_column : ℕ → ℕ → ℕ
link_column s i = cond (contains s i) (48 + i) 46

-- 18.5: `+` for yes, `-` for no, `?` for unknown, else a full stop
unfoldable pub sign : ℕ → ℕ
sign d = cond (eqb d 1) 43 (cond (eqb d 2) 45 (cond (eqb d 3) 63 46))

-- 18.5: column 9 + j: the sign of proposition j
unfoldable pub proposition_column : ℕ → ℕ → ℕ
proposition_column a j = sign (digit a j)

-- 18.6: the number of links in the set; a plan has at most four
unfoldable pub links_in : ℕ → ℕ
links_in s = count (contains s) 4

-- 18.2: columns 3 to 15
unfoldable pub middle_columns : ℕ → ℕ → List ℕ
middle_columns s a =
    32
    ∷ link_column s 0 ∷ link_column s 1 ∷ link_column s 2 ∷ link_column s 3
    ∷ 32
    ∷ proposition_column a 0 ∷ proposition_column a 1 ∷ proposition_column a 2 ∷ proposition_column a 3
    ∷ 32
    ∷ (48 + links_in s)
    ∷ 32
    ∷ []

-- 18.2: the 21 columns of a line, and a newline
unfoldable pub columns : Line → List ℕ
columns l = right_aligned 2 l.point ++ (middle_columns l.set l.label ++ (right_aligned 6 l.wait ++ (10 ∷ [])))
