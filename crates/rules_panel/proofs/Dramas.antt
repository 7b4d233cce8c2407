-- Other dramas: a link that takes another duration, and a scenario with the plain digits of a label put in.
use mathlib.Core.Path.{◌≡◌, refl, ◌∙◌}
use mathlib.Core.Bool.{Bool, true, false, cond}
use mathlib.Core.Logic.{inl, inr}
use Prim.Native.Nat.{ℕ, ◌≤◌, ◌<◌}
use native.Mathlib.Decide.{ℕ_discrete}
use native.Mathlib.Omega.{arith}
use lib.Dec.{T as Is, eqb}
use borrow.Author.Tests.{eq-eqb, ne_eqb}
use Rattle.plan.specs.Label.{digit, plain}
use Rattle.plan.specs.Plan.{Plan}
use Rattle.plan.proofs.LabelLaws.{below4}
use Rattle.plan.proofs.Digits.{Carries, plain_known}
use Rattle.rules_panel.specs.Dramas.{Durations, Drama, True}

-- ---- a link takes n
abbrev pub changed : ℕ → ℕ → (ℕ → ℕ) → ℕ → ℕ
changed i n f k = cond (eqb k i) n (f k)

pub changed_at : (i n : ℕ) (f : ℕ → ℕ) (k : ℕ) → k ≡ i → changed i n f k ≡ n
changed_at i n f k e = rw (eq-eqb k i e)

pub changed_off : (i n : ℕ) (f : ℕ → ℕ) (k : ℕ) → (k ≡ i → ⊥) → changed i n f k ≡ f k
changed_off i n f k e = rw (ne_eqb k i e)

pub changed_in : (i n : ℕ) (f : ℕ → ℕ) (k : ℕ) (Q : ℕ → ℕ → Type 0) → Q i n → ((k ≡ i → ⊥) → Q k (f k)) → Q k (changed i n f k)
changed_in i n f k Q a b = go (ℕ_discrete k i)
  where
    go : Dec (k ≡ i) → Q k (changed i n f k)
    go (yes e) = rw (changed_at i n f k e, e) a
    go (no e) = rw (changed_off i n f k e) (b e)

abbrev pub with_link : {P : Plan} {E : Durations} → Drama P E → (i n : ℕ) → P.least i ≤ n → n ≤ P.most i → E i n → Drama P E
with_link {P} {E} r i n lo hi looked = record {
  scenario = r.scenario;
  situation = changed i n r.situation;
  no_shorter = λ k h. changed_in i n r.situation k (λ x y. P.least x ≤ y) lo (λ _. r.no_shorter k h);
  no_longer = λ k h. changed_in i n r.situation k (λ x y. y ≤ P.most x) hi (λ _. r.no_longer k h);
  looked_at = λ k h. changed_in i n r.situation k E looked (λ _. r.looked_at k h);
}

-- ---- the plain digits of a label put into a scenario
abbrev pub valued : ℕ → Bool → Bool
valued d b = cond (eqb d 1) true (cond (eqb d 2) false b)

abbrev pub put_in : ℕ → (ℕ → Bool) → ℕ → Bool
put_in label s j = valued (digit label j) (s j)

pub put_true : (P : Plan) (label : ℕ) (s : ℕ → Bool) → True P (put_in label s) label
put_true P label s = record { is_yes = λ j h e. rw e; is_no = λ j h e. rw e }

-- nothing changes where the digit is true already
pub valued_same : (d : ℕ) → d < 4 → (b : Bool) → (d ≡ 1 → b ≡ true) → (d ≡ 2 → b ≡ false) → b ≡ valued d b
valued_same d h b = below4 (λ (d : ℕ). (d ≡ 1 → b ≡ true) → (d ≡ 2 → b ≡ false) → b ≡ valued d b) (λ f g. refl) (λ f g. f refl) (λ f g. g refl) (λ f g. refl) d h

-- a scenario in which a plain label is true makes true what it carries
pub true_of : (P : Plan) (s : ℕ → Bool) (a b : ℕ) → True P s b → Is (plain P.propositions b) → ((j : ℕ) → j < P.propositions → Carries (digit a j) (digit b j)) → True P s a
true_of P s a b t p c = record { is_yes = λ j h e. t.is_yes j h (go j h 1 e (omega arith) (c j h)); is_no = λ j h e. t.is_no j h (go j h 2 e (omega arith) (c j h)) }
  where
    go : (j : ℕ) → j < P.propositions → (d : ℕ) → digit a j ≡ d → 0 < d → Carries (digit a j) (digit b j) → digit b j ≡ d
    go j h d e l (inl z) = absurd (omega arith)
    go j h d e l (inr (inl z)) = z ∙ e
    go j h d e l (inr (inr z)) = absurd (plain_known P.propositions b j p h z)
