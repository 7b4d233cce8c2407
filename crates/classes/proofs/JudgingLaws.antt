-- The tests of a link by its class, for any table of classes.
use mathlib.Core.Path.{◌≡◌, refl}
use mathlib.Core.Bool.{false}
use mathlib.Core.List.{List}
use Prim.Native.Nat.{ℕ, ◌≤◌, ◌<◌}
use lib.Dec.{leb}
use borrow.Author.Tests.{le-leb, lt-leb, ne_eqb}
use Rattle.plan.specs.Bytes.{byte_at}
use Rattle.plan.specs.Plan.{Plan}
use Rattle.classes.specs.Classes.{Devices, wide_enough}

-- ---- a link: c is its class
module _ (D : Devices) (P : Plan) (cs : List ℕ) (i c : ℕ) (e : c ≡ byte_at cs i) where
  module _ (n : c ≡ 0 → ⊥) where
    pub by_least : D.least c < P.least i → false ≡ wide_enough D P cs i
    unfolding wide_enough
    by_least h = rw (← e, ne_eqb c 0 n, lt-leb (P.least i) (D.least c) h) refl

    pub by_most : P.least i ≤ D.least c → leb (D.most c) (P.most i) ≡ wide_enough D P cs i
    unfolding wide_enough
    by_most h = rw (← e, ne_eqb c 0 n, le-leb (P.least i) (D.least c) h) refl
