-- For inner contracts only: how loops raise the cells of a table. Nothing here is to be believed: the laws of proofs/ say what such loops make.
use Rattle.std.specs.Prelude.{Bool, cond, List, ℕ, zero, suc}

-- step 0, step 1, .., step n - 1
unfoldable pub steps : (ℕ → List ℕ → List ℕ) → ℕ → List ℕ → List ℕ
steps f zero A = A
steps f (suc n) A = f n (steps f n A)

-- a step where a test holds
unfoldable pub when : Bool → (List ℕ → List ℕ) → List ℕ → List ℕ
when b f A = cond b (f A) A
