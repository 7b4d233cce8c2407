-- Device classes, when a plan is turned down for them, and what the check by classes answers and leaves in the lent tables (19).
use Rattle.std.specs.Prelude.{Bool, cond, not, ◌&&◌, ◌||◌, List, [], ◌∷◌, ℕ, ◌-◌, ◌*◌, leb, eqb, length, get_or}
use Rattle.plan.specs.Bytes.{byte_at}
use Rattle.plan.specs.Plan.{Plan}
use Rattle.plan.specs.Layout.{plan_of}
use Rattle.plan.specs.Refusal.{every, refusal}
use Rattle.rounds_making.specs.Outcomes.{Outcome, refused, pick}
use Rattle.rounds.specs.CheckOutcomes.{check_outcome, pick_table, check_table}

-- 19.1: a table of classes, numbered from 1 to the count: the least and the most seconds of each
pub record Devices : Type 0 where
  pub count : ℕ
  pub least : ℕ → ℕ
  pub most : ℕ → ℕ

-- 19.2: least and most of lift homing, of smoke damper, door closer, shutter, staff search and extract fan
abbrev pub house_seconds : List ℕ
house_seconds = 10 ∷ 90 ∷ 5 ∷ 60 ∷ 2 ∷ 25 ∷ 15 ∷ 120 ∷ 60 ∷ 300 ∷ 8 ∷ 45 ∷ []

-- 19.2: the house table
abbrev pub house : Devices
house = record { count = 6; least = λ c. get_or house_seconds (2 * c - 2) 0; most = λ c. get_or house_seconds (2 * c - 1) 0 }

-- 19.4: class i of the list is not above the table's count
unfoldable pub class_known : Devices → List ℕ → ℕ → Bool
class_known D cs i = leb (byte_at cs i) D.count

-- 19.4: as many classes as links, and none above the table's count
unfoldable pub classes_fit : Devices → Plan → List ℕ → Bool
classes_fit D P cs = eqb (length cs) P.links && every (class_known D cs) (length cs)

-- 19.5: link i has no class, or s is no larger than the least of its class and y no smaller than its most; else it is narrower than its class
unfoldable pub wide_enough : Devices → Plan → List ℕ → ℕ → Bool
wide_enough D P cs i =
    let c = byte_at cs i in
    eqb c 0 || (leb (P.least i) (D.least c) && leb (D.most c) (P.most i))

-- 19.6: the number of the first refusal that applies, 0 where none does: of the plan, then 14, then 15
unfoldable pub class_refusal : Devices → List ℕ → List ℕ → ℕ
class_refusal D bs cs =
    let P = plan_of bs in
    cond (not (eqb (refusal bs) 0)) (refusal bs)
    (cond (not (classes_fit D P cs)) 14
    (cond (not (every (wide_enough D P cs) P.links)) 15 0))

-- 19.7: refused, or the check's own outcome
unfoldable pub class_check_outcome : Devices → List ℕ → List ℕ → List ℕ → List ℕ → ℕ → Outcome
class_check_outcome D bs cs F G limit =
    pick (not (eqb (class_refusal D bs cs) 0)) (refused (class_refusal D bs cs)) (check_outcome bs F G limit)

-- 19.7: what a lent table L then holds: untouched, or what the check itself leaves there
unfoldable pub class_check_table : Devices → List ℕ → List ℕ → List ℕ → List ℕ → ℕ → List ℕ → List ℕ
class_check_table D bs cs F G limit L = pick_table (not (eqb (class_refusal D bs cs) 0)) L (check_table bs F G limit L)
