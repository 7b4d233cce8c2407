-- Laws of `all`, `any` and `fold` over the numbers below n. Assumes nothing.
use mathlib.Core.Path.{◌≡◌, refl, sym, ap, ◌∙◌}
use mathlib.Core.Bool.{Bool, true, false, not}
use mathlib.Core.List.{List, [], ◌∷◌, ◌++◌}
use Prim.Native.Nat.{ℕ, zero, suc, ◌+◌, ◌-◌, ◌≤◌, ◌<◌}
use native.Mathlib.Omega.{arith}
use Rattle.std.specs.Prelude.{◌&&◌, ◌||◌}
use denote.Param.Members.{Mut}
use Rattle.std.specs.declared.ops.Range.{Range}
use Rattle.std.specs.Fn.{Called}
use Rattle.std.specs.Iterator.{ChecksAll, ChecksAny, FoldsItems}
use Rattle.std.specs.List.{list_all, list_any, range_with_len, fold}
use Rattle.std.proofs.iter.Yields.{nat_range_steps, Range-gives}
use Rattle.std.proofs.lemmas.Fn.{fold_over}
use Rattle.std.proofs.lemmas.List.Sums.{fold-append}
use Rattle.std.proofs.lemmas.Iterator.{YieldsList-from_range}
use Rattle.std.proofs.lemmas.Iterator.Search.{all_from_yields_List, any_from_yields_List}
use Rattle.plan.specs.Refusal.{every, some}

and_assoc : (a b c : Bool) → ((a && b) && c) ≡ (a && (b && c))
and_assoc true b c = refl
and_assoc false b c = refl

true_and : (b : Bool) → (true && b) ≡ (b && true)
true_and true = refl
true_and false = refl

or_not : (a b : Bool) → (a || not b) ≡ not (not a && b)
or_not true b = refl
or_not false b = refl

every_same : (f g : ℕ → Bool) (n : ℕ) → ((i : ℕ) → f i ≡ g i) → every f n ≡ every g n
unfolding every
every_same f g zero e = refl
every_same f g (suc n) e = rw (every_same f g n e, e n) refl

every_first : (f : ℕ → Bool) (n : ℕ) → every f (suc n) ≡ (f 0 && every (λ i. f (suc i)) n)
unfolding every
every_first f zero = true_and (f 0)
every_first f (suc n) = ap (λ b. b && f (suc n)) (every_first f n) ∙ and_assoc (f 0) (every (λ i. f (suc i)) n) (f (suc n))

all_of_range : (f : ℕ → Bool) (a n : ℕ) → list_all f (range_with_len a n) ≡ every (λ i. f (a + i)) n
unfolding every
all_of_range f a zero = refl
all_of_range f a (suc n) =
    ap (λ b. f a && b) (all_of_range f (a + 1) n ∙ every_same (λ i. f (a + 1 + i)) (λ i. f (a + suc i)) n (λ i. ap f (omega arith)))
    ∙ ap (λ x. f x && every (λ i. f (a + suc i)) n) (omega arith) ∙ sym (every_first (λ i. f (a + i)) n)

all_below : (f : ℕ → Bool) (n : ℕ) → list_all f (range_with_len 0 n) ≡ every f n
all_below f n = all_of_range f 0 n ∙ every_same (λ i. f (0 + i)) f n (λ i. ap f (omega arith))

any_of_all : (f : ℕ → Bool) (xs : List ℕ) → list_any f xs ≡ not (list_all (λ x. not (f x)) xs)
any_of_all f [] = refl
any_of_all f (x ∷ xs) = ap (λ b. f x || b) (any_of_all f xs) ∙ or_not (f x) (list_all (λ x. not (f x)) xs)

-- the range ends at a number that was read, e, and each call of the closure gives the test of its number, h
module _ {F : Type 0} {g : Mut F (ℕ × Unit {0}) Bool} {u : Range ℕ} {f : F} {r : Bool} {m n : ℕ} (test : ℕ → Bool) (e : m ≡ n) (h : (x : ℕ) (b : Bool) (q : F) → Called g f (x, tt) b q → (q ≡ f) × (b ≡ test x)) where
  pub every_from_all : ChecksAll nat_range_steps g (record { start = 0; end = m }) f r u → r ≡ every test n
  every_from_all ran =
      all_from_yields_List test _ _ _ ran (YieldsList-from_range 0 m m refl (omega arith)) h ∙ all_below test m ∙ ap (every test) e

  pub some_from_any : ChecksAny nat_range_steps g (record { start = 0; end = m }) f r u → r ≡ some test n
  unfolding some
  some_from_any ran =
      any_from_yields_List test _ _ _ ran (YieldsList-from_range 0 m m refl (omega arith)) h ∙ any_of_all test (range_with_len 0 m)
      ∙ ap not (all_below (λ x. not (test x)) m ∙ ap (every (λ x. not (test x))) e)

-- ---- a fold over the numbers below n
range_more : (a n : ℕ) → range_with_len a (suc n) ≡ range_with_len a n ++ (a + n) ∷ []
range_more a zero = ap (λ x. x ∷ []) (omega arith)
range_more a (suc n) =
    ap (λ xs. a ∷ xs) (range_more (a + 1) n) ∙ ap (λ x. a ∷ (range_with_len (a + 1) n ++ x ∷ [])) (omega arith)

less_none : (m : ℕ) → m - 0 ≡ m
less_none m = omega arith

-- its range ends at m, and each call of the closure gives h of the last result and its number
pub fold_from_range : {F C : Type 0} {g : Mut F (C × (ℕ × Unit {0})) C} {f : F} {a r : C} {m : ℕ} (h : C → ℕ → C) → ((b : C) (x : ℕ) (d : C) (q : F) → Called g f (b, (x, tt)) d q → (q ≡ f) × (d ≡ h b x)) → FoldsItems nat_range_steps g (record { start = 0; end = m }) f a r → r ≡ fold h a (range_with_len 0 m)
fold_from_range {g = g} {f = f} {a = a} {r = r} {m = m} h calls ran =
    fold_over nat_range_steps (λ x. x) g (λ ys b. b ≡ fold h a ys) f
    (λ ys b x d q j k. ((calls b x d q k).1 ∙ ap (λ z. h z x) j ∙ sym (fold-append h a ys (x ∷ [])), (calls b x d q k).0))
    (record { start = 0; end = m }) (range_with_len 0 (m - 0)) a r (Range-gives (record { start = 0; end = m })) refl ran
    ∙ ap (λ n. fold h a (range_with_len 0 n)) (less_none m)

pub fold_more : {C : Type 0} (h : C → ℕ → C) (a : C) (n : ℕ) → fold h a (range_with_len 0 (suc n)) ≡ h (fold h a (range_with_len 0 n)) n
fold_more h a n = ap (fold h a) (range_more 0 n) ∙ fold-append h a (range_with_len 0 n) ((0 + n) ∷ []) ∙ ap (h (fold h a (range_with_len 0 n))) (omega arith)

-- what holds of the first value and is kept by each call holds of the last
pub kept_by_fold : {F C : Type 0} {g : Mut F (C × (ℕ × Unit {0})) C} {f : F} {a r : C} {m : ℕ} (P : C → Type 0) → P a → ((b : C) (x : ℕ) (d : C) (q : F) → P b → Called g f (b, (x, tt)) d q → (q ≡ f) × P d) → FoldsItems nat_range_steps g (record { start = 0; end = m }) f a r → P r
kept_by_fold {g = g} {f = f} {a = a} {r = r} {m = m} P first calls ran =
    fold_over nat_range_steps (λ x. x) g (λ ys b. P b) f (λ ys b x d q j k. ((calls b x d q j k).1, (calls b x d q j k).0))
    (record { start = 0; end = m }) (range_with_len 0 (m - 0)) a r (Range-gives (record { start = 0; end = m })) first ran
