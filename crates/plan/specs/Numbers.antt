-- The numbers of the refusals (12).
use Rattle.std.specs.Prelude.{ℕ, Result, Ok, Err}
use Rattle.plan.specs.declared.refusal.Refusal.{Refusal}
use Rattle.plan.specs.declared.refusal.Refusal.TheVariants.{Length, Sizes, Observer, Link, Edge, ShortTable, ShortOutput, Layout, OutOfRange, NotByRule, LastLine, LongWait, ShortPage, ClassList, NarrowLink, Kept, PointLabel, IllDefined, Labelled}

abbrev pub number_of : Refusal → ℕ
number_of Length = 1
number_of Sizes = 2
number_of Observer = 3
number_of Link = 4
number_of Edge = 5
number_of ShortTable = 6
number_of ShortOutput = 7
number_of Layout = 8
number_of OutOfRange = 9
number_of NotByRule = 10
number_of LastLine = 11
number_of LongWait = 12
number_of ShortPage = 13
number_of ClassList = 14
number_of NarrowLink = 15
number_of Kept = 16
number_of PointLabel = 17
number_of IllDefined = 18
number_of Labelled = 19

-- the number of what a call answers: 0 where it is not refused
abbrev pub refusal_number : {A : Type 0} → Result A Refusal → ℕ
refusal_number (Ok _) = 0
refusal_number (Err refusal) = number_of refusal
