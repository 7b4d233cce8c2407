-- Texts one after the other (13.3, 18.1).
use Rattle.std.specs.Prelude.{List, [], ◌++◌, ℕ, zero, suc}

-- the texts f 0 .. f (n - 1), one after the other
unfoldable pub joined : (ℕ → List ℕ) → ℕ → List ℕ
joined f zero = []
joined f (suc n) = joined f n ++ f n
