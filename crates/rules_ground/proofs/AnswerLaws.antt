-- Answers put together: what the first call that finds a ground gives, and a loop that finds nothing has passed over all there is.
use mathlib.Core.Path.{◌≡◌, refl, sym, subst}
use mathlib.Core.Bool.{true, false}
use mathlib.Core.Logic.{◌⊎◌, inl, inr}
use mathlib.Core.List.{List}
use Prim.Native.Nat.{ℕ, suc, ◌+◌, ◌-◌, ◌≤◌, ◌<◌}
use native.Mathlib.Decide.{ℕ_discrete, dec_le}
use native.Mathlib.Omega.{arith}
use lib.Bits.{and_le_r}
use denote.Param.Members.{Mut, Called}
use Rattle.std.specs.Prelude.{Option, Some, None, MatchOption, IsTrue, IsSomeAnd, IfSome, option_map}
use Rattle.std.proofs.lemmas.Option.{none-some, same_Some}
use borrow.Author.Rules.{rules}
use Rattle.std.specs.declared.ops.Range.{Range}
use Rattle.std.specs.Iterator.Runs.{Run, AllItemsGive, IsFirstToGive, CallKeepsClosure, ItemsCountUp}
use Rattle.std.proofs.iter.Yields.{nat_range_steps}
use Rattle.std.proofs.iter.runs.Sources.{range_runs}
use Rattle.plan.specs.Plan.{Plan}
use Rattle.rules.specs.declared.Line.{Line}
use Rattle.rules.specs.declared.Ground.{Ground}
use Rattle.rules_ground.specs.Grounds.{Grounds}
use Rattle.rules_ground.specs.Places.{Within, SomeWithin, Next}
use Rattle.rules_ground.specs.Searching.{Answers, Among}

pub false_true : false ≡ true → ⊥
false_true e = let z : ◌≡◌ {A = ℕ} 0 1 = cc in omega arith

module _ {P : Plan} {T : List ℕ} {k : Line} where
  pub answer : {Q : Type 0} {g : Ground} → Grounds P T k g → Answers P T k Q (Some g)
  answer h = record { tells = h }

  pub no_answer : {Q : Type 0} → (Q → ⊥) → Answers P T k Q None
  no_answer h = record { tells = h }

  -- an answer to one claim answers another that brings it about
  pub answers_more : {Q R : Type 0} (f : Option Ground) → (R → Q) → Answers P T k Q f → Answers P T k R f
  answers_more (Some g) h a = answer a.tells
  answers_more None h a = no_answer (λ x. a.tells (h x))

  -- the first claim fails, so an answer to the second answers both
  pub or_answers : {Q R : Type 0} (f : Option Ground) → (Q → ⊥) → Answers P T k R f → Answers P T k (Q ⊎ R) f
  or_answers {Q} {R} f h a = answers_more f second a
    where
      second : Q ⊎ R → R
      second (inl q) = absurd (h q)
      second (inr r) = r

  -- `find_map` over a range: what the first call that finds a ground gives, or nothing where no call finds one
  pub among_answers : {F : Type 0} {g : Mut F (ℕ × Unit {0}) (Option Ground)} {f : F} {Q : ℕ → Type 0} {lo hi m : ℕ} (r : Option Ground) → hi ≡ m
      → ((x : ℕ) (o : Option Ground) (q : F) → Called g f (x, tt) o q → (q ≡ f) × Answers P T k (Q x) o)
      → (p : Run nat_range_steps) × (p.from ≡ record { start = lo; end = hi })
      × MatchOption r (IsTrue p.whole × AllItemsGive p g f None) (λ y. (i : ℕ) × (i < p.len) × (p.len ≡ i + 1) × IsFirstToGive p g f (Some y) None i)
      → Answers P T k (Among Q lo m) r
  among_answers {F} {g} {f} {Q} {lo} {hi} {m} r e each run = go r run.2
    where
      p : Run nat_range_steps
      p = run.0

      keeps : CallKeepsClosure g f
      keeps a o q h = (each a.0 o q h).0

      up : ItemsCountUp p lo hi
      up = subst (λ (z : Range ℕ). ItemsCountUp p z.start z.end) run.1 (range_runs p p.seen)

      passed : (n : ℕ) (o : Option ℕ) → option_map (λ (y : ℕ). y) o ≡ Some n → IfSome o (λ x. Called g f (x, tt) None f) → Q n → ⊥
      passed n None t h q = none-some n t
      passed n (Some x) t h q = (each x None f h).1.tells (subst Q (sym (same_Some x n t)) q)

      first : (y : Ground) (o : Option ℕ) → IsSomeAnd o (λ x. Called g f (x, tt) (Some y) f) → Answers P T k (Among Q lo m) (Some y)
      first y None h = absurd h
      first y (Some x) h = answer (each x (Some y) f h).1.tells

      go : (o : Option Ground) → MatchOption o (IsTrue p.whole × AllItemsGive p g f None) (λ y. (i : ℕ) × (i < p.len) × (p.len ≡ i + 1) × IsFirstToGive p g f (Some y) None i) → Answers P T k (Among Q lo m) o
      go (Some y) h = first y (p.at h.0) (h.3 keeps).0
      go None h = no_answer none
        where
          none : Among Q lo m → ⊥
          none x =
              let n : ℕ = x.index - lo in
              let at : lo + n ≡ x.index = omega (arith, x.from) in
              passed (lo + n) (p.at n) (up.3 n (omega (arith, x.from, x.below, up.1 (search rules)))) (h.1 keeps n) (subst Q (sym at) x.holds)

-- no number below t within the mask has F, where the places within the mask are walked through up to t
pub record Passed (F : ℕ → Type 0) (mask end t : ℕ) : Type 0 where
  pub to : t ≤ end
  pub within : t < end → Within mask t
  pub none : (j : ℕ) → j < t → Within mask j → F j → ⊥

module _ {F : ℕ → Type 0} {mask end : ℕ} where
  pub passed_none : Passed F mask end 0
  passed_none = record { to = omega arith; within = λ h. refl; none = λ j h w x. omega arith }

  pub passed_more : {t r : ℕ} → Passed F mask end t → Next t mask end r → (F t → ⊥) → Passed F mask end r
  passed_more {t} {r} p n no_one = record { to = n.to; within = n.within; none = λ j h w x. go j h w x (ℕ_discrete j t) (dec_le (suc j) t) }
    where
      go : (j : ℕ) → j < r → Within mask j → F j → Dec (j ≡ t) → Dec (j < t) → ⊥
      go j h w x (yes e) d = no_one (subst F e x)
      go j h w x (no e) (yes d) = p.none j d w x
      go j h w x (no e) (no d) = n.skips j (omega arith) h w

  pub passed_all : {t : ℕ} → Passed F mask end t → end ≤ t → mask < end → SomeWithin F mask → ⊥
  passed_all p h m x = p.none x.index (omega (arith, x.within, and_le_r x.index mask)) x.within x.holds
