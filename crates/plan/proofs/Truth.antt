-- Truth values and what they say.
use mathlib.Core.Path.{◌≡◌, refl, subst}
use mathlib.Core.Bool.{Bool, true, false, not, ◌||◌}
use mathlib.Core.Logic.{◌⊎◌, inl, inr}
use lib.Dec.{T as Is}

pub is? : (b : Bool) → Is b ⊎ (b ≡ false)
is? true = inl tt
is? false = inr refl

pub is_true : (b : Bool) → Is b → b ≡ true
is_true true t = refl
is_true false t = absurd t

pub is_not : {b : Bool} → b ≡ false → Is b → ⊥
is_not e t = subst Is e t

pub not_none : (b : Bool) → not b ≡ false → Is b
not_none true e = tt
not_none false e = absurd (is_not e tt)

pub or_of : (a b : Bool) → Is (a || b) → Is a ⊎ Is b
or_of true b t = inl tt
or_of false b t = inr t

pub or_left : (a b : Bool) → Is a → Is (a || b)
or_left true b t = tt
or_left false b t = absurd t

pub or_right : (a b : Bool) → Is b → Is (a || b)
or_right true b t = tt
or_right false b t = t

-- a test that is asked for only where another holds
pub if_asked : (a b : Bool) → Is (not a || b) → Is a → Is b
if_asked true b t h = t
if_asked false b t h = absurd h

pub asked : (a b : Bool) → (Is a → Is b) → Is (not a || b)
asked true b f = f tt
asked false b f = tt

-- two tests that imply each other are one
pub same_test : (a b : Bool) → (Is a → Is b) → (Is b → Is a) → a ≡ b
same_test true true f g = refl
same_test true false f g = absurd (f tt)
same_test false true f g = absurd (g tt)
same_test false false f g = refl
