-- Laws of what the loops gather: entries filled one by one, and each greatest wait of point x's places with one of the row's bits.
use mathlib.Core.Path.{◌≡◌, refl, sym, ap, ap₂, ◌∙◌}
use mathlib.Core.Bool.{Bool, true, false, cond, ◌||◌}
use mathlib.Core.Logic.{◌⊎◌, inl, inr}
use mathlib.Core.List.{List, ◌++◌}
use Prim.Native.Nat.{ℕ, zero, suc, ◌+◌, ◌-◌, ◌*◌, ◌≤◌, ◌<◌, max}
use native.Mathlib.Nat.{add_assoc}
use native.Mathlib.Decide.{ℕ_discrete}
use native.Mathlib.Omega.{arith}
use lib.Dec.{ltb, eqb}
use lib.ListN.{length, get_or, set, take, drop, length-set, take-append-drop, get_or-append}
use lib.Seq.{get_or-set_same, get_or-set_other, length-take-le, set-append_left}
use borrow.Author.Tests.{lt-ltb, le-ltb, eq-eqb, ne_eqb}
use Rattle.rules.specs.Tables.{raise_cell}
use Rattle.rules.proofs.Raising.{Raises, raises_cell}
use Rattle.rules_fill.specs.Steps.{steps}
use Rattle.rules_fill.specs.Shapes.{is_line}
use Rattle.rules_fill.proofs.ShapeLaws.{step_made}
use Rattle.rules_fill.proofs.StepLaws.{Some, raises_steps}
use Rattle.rules_dense.specs.Gathered.{free_place, FreeRun, own_step, own_value, Filled, NoWaits, added, other_wait, part_wait, spread_step}
use Rattle.rules_dense.proofs.FreePlaces.{free_none}

-- ---- entries filled one by one
pub filled_none : (f : ℕ → ℕ) (A : List ℕ) → Filled f 0 A
filled_none f A = record { at = λ z h. absurd (omega (arith, h)) }

filled_on : (f : ℕ → ℕ) (i : ℕ) (A : List ℕ) (v : ℕ) → Filled f i A → i < length A → v ≡ f i → Filled f (i + 1) (set A i v)
filled_on f i A v d long e = record { at = λ z h. go z h (ℕ_discrete z i) }
  where
    go : (z : ℕ) → z < i + 1 → Dec (z ≡ i) → get_or (set A i v) z 0 ≡ f z
    go z h (yes q) = ap (λ (c : ℕ). get_or (set A i v) c 0) q ∙ get_or-set_same A i v 0 long ∙ e ∙ ap f (sym q)
    go z h (no q) = get_or-set_other A i z v 0 q ∙ d.at z (omega (arith, h))

pub filled_by : {f : ℕ → ℕ} {i n : ℕ} {A : List ℕ} → Filled f i A → i ≡ n → Filled f n A
filled_by d e = rw (sym e) d

-- ---- the first entries of a run, and the run
pub front_filled : {f : ℕ → ℕ} {n : ℕ} {A : List ℕ} (D : List ℕ) → Filled f n A → n ≤ length A → Filled f n (A ++ D)
front_filled {A = A} D d h = record { at = λ z k. get_or-append A D 0 z (omega (arith, h, k)) ∙ d.at z k }

module _ (F : List ℕ) (base low times m n : ℕ) (A : List ℕ) (long : n ≤ length A) where
  front_own : (i : ℕ) → i ≤ n → (length (steps (own_step F base low times m) i (take n A)) ≡ n) × (steps (own_step F base low times m) i (take n A) ++ drop n A ≡ steps (own_step F base low times m) i A)
  unfolding steps own_step raise_cell
  front_own zero h = (length-take-le n A long, take-append-drop n A)
  front_own (suc i) h =
      let r = front_own i (omega arith) in
      let B : List ℕ = steps (own_step F base low times m) i (take n A) in
      let v : ℕ = get_or F (base + m * low + free_place low times i) 0 in
      let k : i < length B = omega (arith, r.0) in
      (simp length-set r.0, sym (set-append_left B (drop n A) i (max (get_or B i 0) v) k) ∙ ap (λ (w : ℕ). set (B ++ drop n A) i (max w v)) (sym (get_or-append B (drop n A) 0 i k)) ∙ ap (λ (T : List ℕ). set T i (max (get_or T i 0) v)) r.1)

  pub own_whole : (i : ℕ) (B : List ℕ) → B ≡ steps (own_step F base low times m) i (take n A) → i ≡ n → B ++ drop n A ≡ steps (own_step F base low times m) n A
  own_whole i B e h = ap (λ (T : List ℕ). T ++ drop n A) (e ∙ ap (λ (k : ℕ). steps (own_step F base low times m) k (take n A)) h) ∙ (front_own n (omega arith)).1

-- ---- the steps of the loops
pub own_on : (F : List ℕ) (base low times m z : ℕ) (A B : List ℕ) (p v : ℕ) → B ≡ steps (own_step F base low times m) z A → p ≡ free_place low times z → v ≡ max (get_or B z 0) (get_or F (base + m * low + p) 0) → set B z v ≡ steps (own_step F base low times m) (z + 1) A
unfolding own_step raise_cell
own_on F base low times m z A B p v e h g = step_made (own_step F base low times m) z A B (set B z v) e (ap (set B z) (g ∙ ap (λ (q : ℕ). max (get_or B z 0) (get_or F (base + m * low + q) 0)) h))

pub value_on : (F : List ℕ) (base low times n : ℕ) (A B C : List ℕ) (m : ℕ) → 1 ≤ m → B ≡ steps (own_value F base low times n) (m - 1) A → C ≡ steps (own_step F base low times m) n B → C ≡ steps (own_value F base low times n) (m + 1 - 1) A
unfolding own_value
value_on F base low times n A B C m h e g =
    let q : m ≡ 1 + (m - 1) = omega arith in
    let l : m - 1 + 1 ≡ m + 1 - 1 = omega arith in
    step_made (own_value F base low times n) (m - 1) A B C e (g ∙ ap (λ (k : ℕ). steps (own_step F base low times k) n B) q) ∙ ap (λ (k : ℕ). steps (own_value F base low times n) k A) l

pub part_on : (P : List ℕ) (low times z : ℕ) (A : List ℕ) (p : ℕ) → Filled (part_wait P low times) z A → z < length A → p ≡ free_place low times z → Filled (part_wait P low times) (z + 1) (set A z (get_or P p 0))
unfolding part_wait
part_on P low times z A p d h e = filled_on (part_wait P low times) z A (get_or P p 0) d h (ap (λ (q : ℕ). get_or P q 0) e)

pub spread_on : (G : List ℕ) (low times z : ℕ) (A B C : List ℕ) (p v : ℕ) → B ≡ steps (spread_step G low times) z A → p ≡ free_place low times z → v ≡ get_or G z 0 → C ≡ raise_cell p v B → C ≡ steps (spread_step G low times) (z + 1) A
unfolding spread_step
spread_on G low times z A B C p v e h k g = step_made (spread_step G low times) z A B C e (g ∙ ap₂ (λ (q w : ℕ). raise_cell q w B) h k)

-- ---- the other point's waits
-- as the loop lays them down, before place 0 is set apart
unfoldable pub added_wait : List ℕ → ℕ → ℕ → ℕ → ℕ → ℕ → ℕ
added_wait F base low times add z = added add (get_or F (base + free_place low times z) 0)

pub added_line : (add wait : ℕ) → 0 < wait → wait + add ≡ added add wait
unfolding added
added_line add wait h = ap (λ (b : Bool). cond b (wait + add) 0) (sym (lt-ltb 0 wait h))

pub added_none : (add wait : ℕ) → (0 < wait → ⊥) → 0 ≡ added add wait
unfolding added
added_none add wait h = ap (λ (b : Bool). cond b (wait + add) 0) (sym (le-ltb 0 wait (omega (arith, h))))

pub added_on : (F : List ℕ) (base low times add z : ℕ) (A : List ℕ) (p v : ℕ) → Filled (added_wait F base low times add) z A → z < length A → p ≡ free_place low times z → v ≡ added add (get_or F (base + p) 0) → Filled (added_wait F base low times add) (z + 1) (set A z v)
unfolding added_wait
added_on F base low times add z A p v d h e g = filled_on (added_wait F base low times add) z A v d h (g ∙ ap (λ (q : ℕ). added add (get_or F (base + q) 0)) e)

-- place 0 is a line's, and of the others those with a wait
pub others_filled : {low times n : ℕ} (f : FreeRun low times n) (F : List ℕ) (base add : ℕ) (A : List ℕ) → Filled (added_wait F base low times add) n A → n ≤ length A → Filled (other_wait F base low times add) n (set A 0 (get_or F base 0 + add))
unfolding added_wait other_wait added is_line
others_filled {low} {times} {n} f F base add A d h = record { at = λ z k. go z k (ℕ_discrete z 0) }
  where
    line : (b : Bool) (v : ℕ) → b ≡ true → v ≡ cond b v 0
    line b v e = rw e

    or_false : (b c : Bool) → c ≡ false → b ≡ (b || c)
    or_false true c e = refl
    or_false false c e = sym e

    or_true : (b c : Bool) → c ≡ true → (b || c) ≡ true
    or_true true c e = refl
    or_true false c e = e

    go : (z : ℕ) → z < n → Dec (z ≡ 0) → get_or (set A 0 (get_or F base 0 + add)) z 0 ≡ other_wait F base low times add z
    go z k (yes e) =
        let q : base ≡ base + free_place low times z = omega (arith, ap (free_place low times) e, free_none f) in
        ap (λ (c : ℕ). get_or (set A 0 (get_or F base 0 + add)) c 0) e ∙ get_or-set_same A 0 (get_or F base 0 + add) 0 (omega arith) ∙ ap (λ (c : ℕ). get_or F c 0 + add) q
        ∙ line (is_line z (get_or F (base + free_place low times z) 0)) (get_or F (base + free_place low times z) 0 + add) (or_true (ltb 0 (get_or F (base + free_place low times z) 0)) (eqb z 0) (eq-eqb z 0 e))
    go z k (no e) =
        get_or-set_other A 0 z (get_or F base 0 + add) 0 e ∙ d.at z k
        ∙ ap (λ (b : Bool). cond b (get_or F (base + free_place low times z) 0 + add) 0) (or_false (ltb 0 (get_or F (base + free_place low times z) 0)) (eqb z 0) (ne_eqb z 0 e))

-- ---- point x's places
-- own has for place z the wait of one with the row's bits at a value m above 0
pub record Owned (F : List ℕ) (base low times : ℕ) (own : List ℕ) (z : ℕ) : Type 0 where
  pub m : ℕ
  pub above_none : 0 < m
  pub below : m < times
  pub wait : get_or own z 0 ≡ get_or F (base + (m * low + free_place low times z)) 0

-- own has for each of n places the greatest wait of these, or 0
pub record Greatest (F : List ℕ) (base low times n : ℕ) (own : List ℕ) : Type 0 where
  pub covers : (z m : ℕ) → z < n → 0 < m → m < times → get_or F (base + (m * low + free_place low times z)) 0 ≤ get_or own z 0
  pub reason : (z : ℕ) → z < n → (get_or own z 0 ≡ 0) ⊎ Owned F base low times own z

module _ (F : List ℕ) (base low times n : ℕ) where
  abbrev OwnGives : ℕ → ℕ → Type 0
  OwnGives = Some (λ i. Some (λ z c k. (c ≡ z) × (k ≡ get_or F (base + (1 + i) * low + free_place low times z) 0)) n) (times - 1)

  raises_own : (l : ℕ) → n ≤ l → Raises l OwnGives (steps (own_value F base low times n) (times - 1))
  unfolding own_value own_step
  raises_own l h = raises_steps l _ _ (times - 1) (λ i k. raises_steps l _ _ n (λ z j. raises_cell l z _ (omega (arith, h, j))))

  pub greatest : (own own' : List ℕ) → n ≤ length own → NoWaits n own → own' ≡ steps (own_value F base low times n) (times - 1) own → Greatest F base low times n own'
  greatest own own' long none e = rw e (record { covers = covers; reason = λ z h. reason z h (r.reason own refl z) })
    where
      made : List ℕ
      made = steps (own_value F base low times n) (times - 1) own

      r : Raises (length own) OwnGives (steps (own_value F base low times n) (times - 1))
      r = raises_own (length own) long

      covers : (z m : ℕ) → z < n → 0 < m → m < times → get_or F (base + (m * low + free_place low times z)) 0 ≤ get_or made z 0
      covers z m h k l =
          let e : 1 + (m - 1) ≡ m = omega arith in
          r.covers own refl z _ (record { index = m - 1; below = omega arith; holds = record { index = z; below = h; holds = (refl, ap (λ (c : ℕ). get_or F c 0) (sym (add_assoc base (m * low) (free_place low times z)) ∙ ap (λ (x : ℕ). base + x * low + free_place low times z) (sym e))) } })

      reason : (z : ℕ) → z < n → (get_or made z 0 ≡ get_or own z 0) ⊎ OwnGives z (get_or made z 0) → (get_or made z 0 ≡ 0) ⊎ Owned F base low times made z
      reason z h (inl q) = inl (q ∙ none z h)
      reason z h (inr q) =
          let p = q.holds.holds in
          inr (record { m = 1 + q.index; above_none = omega arith; below = omega (arith, q.below); wait = p.1 ∙ ap (λ (c : ℕ). get_or F (base + (1 + q.index) * low + free_place low times c) 0) (sym p.0) ∙ ap (λ (c : ℕ). get_or F c 0) (add_assoc base ((1 + q.index) * low) (free_place low times z)) })
