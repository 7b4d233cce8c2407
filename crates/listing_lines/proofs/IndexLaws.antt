-- The 16-bit table takes one more line's number by one store.
use mathlib.Core.Path.{◌≡◌, refl, sym, ap, ◌∙◌}
use mathlib.Core.Bool.{cond}
use mathlib.Core.List.{List, [], ◌∷◌, ◌++◌}
use Prim.Native.Nat.{ℕ, suc, ◌+◌, ◌<◌}
use native.Mathlib.Decide.{ℕ_discrete}
use native.Mathlib.Omega.{arith}
use lib.Dec.{eqb}
use lib.ListN.{length, get_or, set, length-set}
use lib.Seq.{ext_get_or, get_or-set_same, get_or-set_other}
use borrow.Author.Tests.{eq-eqb, ne_eqb}
use Rattle.plan.specs.Plan.{Plan, cells}
use Rattle.rules.specs.declared.Line.{Line}
use Rattle.rules.specs.Lines.{cell_of}
use Rattle.rules_fill.proofs.Laying.{values_length, value_at}
use Rattle.listing_lines.specs.Listed.{last_number, start_number, index_at, index_table}

module _ (P : Plan) where
  last_more : (c : ℕ) (ls : List Line) (l : Line) (i v : ℕ) → last_number P c (ls ++ (l ∷ [])) i v ≡ cond (eqb (cell_of P l) c) (i + length ls) (last_number P c ls i v)
  last_more c [] l i v = ap (λ (k : ℕ). cond (eqb (cell_of P l) c) k v) (omega arith)
  last_more c (m ∷ ls) l i v =
      last_more c ls l (suc i) (cond (eqb (cell_of P m) c) i v)
      ∙ ap (λ (k : ℕ). cond (eqb (cell_of P l) c) k (last_number P c ls (suc i) (cond (eqb (cell_of P m) c) i v))) (omega arith)

  pub index_new : (ls : List Line) (l : Line) (c : ℕ) → cell_of P l ≡ c → index_at P (ls ++ (l ∷ [])) c ≡ P.points + length ls
  unfolding index_at
  index_new ls l c e = last_more c ls l P.points (start_number P c) ∙ rw (eq-eqb (cell_of P l) c e) refl

  pub index_old : (ls : List Line) (l : Line) (c : ℕ) → (cell_of P l ≡ c → ⊥) → index_at P (ls ++ (l ∷ [])) c ≡ index_at P ls c
  unfolding index_at
  index_old ls l c e = last_more c ls l P.points (start_number P c) ∙ rw (ne_eqb (cell_of P l) c e) refl

  pub index_length : (ls : List Line) → length (index_table P ls) ≡ cells P
  unfolding index_table
  index_length ls = values_length (index_at P ls) (cells P) 0

  pub index_at_lem : (ls : List Line) (c : ℕ) → c < cells P → get_or (index_table P ls) c 0 ≡ index_at P ls c
  unfolding index_table
  index_at_lem ls c h = value_at (index_at P ls) (cells P) 0 c h ∙ ap (index_at P ls) (omega arith)

  -- a table with the right entries is the one
  pub index_by : (ls : List Line) (A : List ℕ) → length A ≡ cells P → ((c : ℕ) → c < cells P → get_or A c 0 ≡ index_at P ls c) → A ≡ index_table P ls
  index_by ls A e f = ext_get_or 0 A (index_table P ls) (e ∙ sym (index_length ls)) (λ c h. f c (omega arith) ∙ sym (index_at_lem ls c (omega arith)))

  pub index_more : (ls : List Line) (l : Line) (A : List ℕ) (c v : ℕ) → cell_of P l ≡ c → c < cells P → v ≡ P.points + length ls → A ≡ index_table P ls → set A c v ≡ index_table P (ls ++ (l ∷ []))
  index_more ls l A c v e h ev ea = index_by (ls ++ (l ∷ [])) (set A c v) (length-set A c v ∙ long) (λ d k. go d k (ℕ_discrete d c))
    where
      long : length A ≡ cells P
      long = ap length ea ∙ index_length ls

      go : (d : ℕ) → d < cells P → Dec (d ≡ c) → get_or (set A c v) d 0 ≡ index_at P (ls ++ (l ∷ [])) d
      go d k (yes q) = ap (λ (x : ℕ). get_or (set A c v) x 0) q ∙ get_or-set_same A c v 0 (omega (arith, long)) ∙ ev ∙ sym (index_new ls l d (e ∙ sym q))
      go d k (no q) = get_or-set_other A c d v 0 q ∙ ap (λ (x : List ℕ). get_or x d 0) ea ∙ index_at_lem ls d k ∙ sym (index_old ls l d (λ z. q (sym z ∙ e)))
