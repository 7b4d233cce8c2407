-- Each rule is its shape: what a rule gives from the lines at two places is what its shape gives there.
use mathlib.Core.Path.{◌≡◌, refl, sym, ap, ap₂, ◌∙◌}
use mathlib.Core.Bool.{Bool, true, false, cond, not, ◌&&◌, ◌||◌}
use mathlib.Core.List.{List}
use Prim.Native.Nat.{ℕ, ◌+◌, ◌-◌, ◌/◌, ◌%◌, ◌^◌, ◌≤◌, ◌<◌, min}
use native.Mathlib.Nat.{mod-lt, div-add-mod', lt_of_le_of_lt}
use native.Mathlib.Decide.{dec_le}
use native.Mathlib.Omega.{arith}
use lib.Dec.{T as Is, ltb, eqb, lt→ltb, eqb_refl}
use lib.Ieee.Fits.{and_l, and_r, and_i, eq→eqb}
use lib.Bits.{bit_or, and_zero_r, or_zero_r}
use Rattle.plan.specs.Label.{digit, join, plain, clear_digit}
use Rattle.plan.specs.LinkSet.{contains, insert, remove}
use Rattle.plan.specs.Plan.{Plan}
use Rattle.plan.proofs.LabelLaws.{four_pos, join_lt, clear_le}
use Rattle.plan.proofs.Places.{link_test, digit_test, plain_test, or_label, or_link, or_places, clear_link, clear_place}
use Rattle.plan.proofs.Truth.{or_right}
use Rattle.rules.specs.declared.Edge.{Edge}
use Rattle.rules.specs.declared.Rule.{Rule}
use Rattle.rules.specs.declared.Rule.TheVariants.{Propagation, LowerCase, UpperCase, LetterRemoval, OwnLiteral, LiteralRemoval}
use Rattle.rules.specs.Rules.{constraint_of, less_weight}
use Rattle.rules.specs.Tables.{raise_cell}
use Rattle.rules_fill.specs.Steps.{when}
use Rattle.rules_fill.specs.Shapes.{link_bit, digit_mask, label_mask, touches, cleared, weighed, is_line, is_plain, propagates, propagated, removed, removes}
use Rattle.rules.proofs.Cells.{digit_mod}
use Rattle.rules.proofs.Raising.{raise_none}
use Rattle.rules_fill.proofs.PointLaws.{place, wait_at, gives, given_line, step_of_pair, is_line as is_line_there}

-- ---- tests of places
or_swap : (a b : Bool) → a || b ≡ b || a
or_swap true true = refl
or_swap true false = refl
or_swap false true = refl
or_swap false false = refl

not_not : (b : Bool) → not (not b) ≡ b
not_not true = refl
not_not false = refl

pub line_same : (t w : ℕ) → is_line t w ≡ eqb t 0 || ltb 0 w
unfolding is_line
line_same t w = or_swap (ltb 0 w) (eqb t 0)

pub touches_none : (t : ℕ) → touches 0 t ≡ false
unfolding touches
touches_none t = rw (and_zero_r t)

pub touches_link : (p i t : ℕ) → touches (link_bit p i) t ≡ contains (t / 4 ^ p) i
unfolding touches link_bit
touches_link p i t = ap not (link_test p i t) ∙ not_not (contains (t / 4 ^ p) i)

pub touches_digit : (p j t : ℕ) → j < p → touches (digit_mask j) t ≡ not (eqb (digit (t % 4 ^ p) j) 0)
unfolding touches digit_mask
touches_digit p j t h = ap not (digit_test p j t h)

pub plain_place : (p t : ℕ) → p ≤ 4 → is_plain (label_mask p) t ≡ plain p (t % 4 ^ p)
unfolding is_plain label_mask
plain_place p t h = plain_test p t h

-- the label of a place joined with a label, and with a link
pub plain_label : (p t a : ℕ) → p ≤ 4 → a < 4 ^ p → is_plain (label_mask p) (bit_or t a) ≡ plain p (join p a (t % 4 ^ p))
plain_label p t a h k = plain_place p (bit_or t a) h ∙ ap (λ (c : ℕ). plain p (c % 4 ^ p)) (or_label p t a k) ∙ ap (plain p) (digit_mod (t / 4 ^ p) (4 ^ p) (join p a (t % 4 ^ p)) (join_lt p a (t % 4 ^ p)))

pub plain_link : (p t i : ℕ) → p ≤ 4 → is_plain (label_mask p) (bit_or t (link_bit p i)) ≡ plain p (t % 4 ^ p)
unfolding link_bit
plain_link p t i h = plain_place p (bit_or t (link_bit p i)) h ∙ ap (λ (c : ℕ). plain p (c % 4 ^ p)) (or_link p t i) ∙ ap (plain p) (digit_mod (insert (t / 4 ^ p) i) (4 ^ p) (t % 4 ^ p) (mod-lt _ (four_pos p)))

propagates_is : (p avoid add t w : ℕ) (av pl : Bool) → p ≤ 4 → touches avoid t ≡ av → is_plain (label_mask p) (bit_or t add) ≡ pl → propagates (label_mask p) avoid add t w ≡ (eqb t 0 || ltb 0 w) && not av && plain p (t % 4 ^ p) && pl
unfolding propagates
propagates_is p avoid add t w av pl h e f = rw (line_same t w, e, plain_place p t h, f)

-- both tests of rules 4 and 6 at once
both : (a b : Bool) (n : ℕ) → cond a (cond b n 0) 0 ≡ cond (a && b) n 0
both true b n = refl
both false b n = refl

removes_is : (mask add t w u v : ℕ) (on off : Bool) → touches mask t ≡ on → not (touches mask u) ≡ off → removes mask add t w u v ≡ cond (on && ((eqb u 0 || ltb 0 v) && off)) (min w (v + add)) 0
unfolding removes removed
removes_is mask add t w u v on off e f = rw (line_same u v, e, f) (both on ((eqb u 0 || ltb 0 v) && off) (min w (v + add)))

-- ---- a pair of places gives place d the wait a (and nothing where that is 0)
pub record Gives (P : Plan) (A : List ℕ) (x : ℕ) (r : Rule) (t u d a : ℕ) : Type 0 where
  pub gives_line : Is (gives P A x r t u) → (place P (given_line P A x r t u) ≡ d) × ((given_line P A x r t u).wait ≡ a)
  pub above_gives : 0 < a → Is (gives P A x r t u)

module _ (P : Plan) (A : List ℕ) (x : ℕ) where
  -- so its step raises that place to that wait
  pub gives_step : {r : Rule} {t u d a : ℕ} → Gives P A x r t u d a → (B : List ℕ) → step_of_pair P A x r t u B ≡ raise_cell d a B
  unfolding step_of_pair when
  gives_step {r} {t} {u} {d} {a} g B = go (gives P A x r t u) g.gives_line g.above_gives
    where
      none : Dec (1 ≤ a) → (0 < a → ⊥) → B ≡ raise_cell d a B
      none (yes h) f = absurd (f h)
      none (no h) f = raise_none B d a (omega arith)

      go : (b : Bool) → (Is b → (place P (given_line P A x r t u) ≡ d) × ((given_line P A x r t u).wait ≡ a)) → (0 < a → Is b) → cond b (raise_cell (place P (given_line P A x r t u)) (given_line P A x r t u).wait B) B ≡ raise_cell d a B
      go true f h = ap₂ (λ (c w : ℕ). raise_cell c w B) (f tt).0 (f tt).1
      go false f h = none (dec_le 1 a) h

  by_test : {r : Rule} {t u d a : ℕ} (b : Bool) → (Is (gives P A x r t u) → Is b × (place P (given_line P A x r t u) ≡ d) × ((given_line P A x r t u).wait ≡ a)) → (Is b → 0 < a → Is (gives P A x r t u)) → Gives P A x r t u d (cond b a 0)
  by_test true to back = record { gives_line = λ g. ((to g).1, (to g).2); above_gives = λ h. back tt h }
  by_test false to back = record { gives_line = λ g. absurd (to g).0; above_gives = λ h. absurd (omega arith) }

  -- the table of marks knows four digits
  module _ (few : P.propositions ≤ 4) where
    -- rule 1
    pub propagation_gives : (e : Edge) → (constraint_of P e).from ≡ x → (constraint_of P e).label < 4 ^ P.propositions → (t : ℕ)
        → Gives P A x (Propagation e) t 0 (bit_or t (constraint_of P e).label) (propagated (label_mask P.propositions) 0 (constraint_of P e).label (constraint_of P e).up (constraint_of P e).down t (wait_at P A (constraint_of P e).to t))
    unfolding propagated weighed
    propagation_gives e mine low t = rw (propagates_is P.propositions 0 (constraint_of P e).label t w false (plain P.propositions (join P.propositions (constraint_of P e).label (t % 4 ^ P.propositions))) few (touches_none t) (plain_label P.propositions t (constraint_of P e).label few low)) (by_test test to back)
      where
        w : ℕ
        w = wait_at P A (constraint_of P e).to t

        test : Bool
        test = (eqb t 0 || ltb 0 w) && not false && plain P.propositions (t % 4 ^ P.propositions) && plain P.propositions (join P.propositions (constraint_of P e).label (t % 4 ^ P.propositions))

        to : Is (gives P A x (Propagation e) t 0) → Is test × (place P (given_line P A x (Propagation e) t 0) ≡ bit_or t (constraint_of P e).label) × (less_weight (constraint_of P e) w ≡ less_weight (constraint_of P e) w)
        to h =
            let a : Is (eqb t 0 || ltb 0 w) = search (and_l, and_r) in
            let b : Is (plain P.propositions (t % 4 ^ P.propositions)) = search (and_l, and_r) in
            let c : Is (plain P.propositions (join P.propositions (constraint_of P e).label (t % 4 ^ P.propositions))) = search (and_l, and_r) in
            let d : Is (not false) = tt in
            (search and_i, sym (or_label P.propositions t (constraint_of P e).label low), refl)

        back : Is test → 0 < less_weight (constraint_of P e) w → Is (gives P A x (Propagation e) t 0)
        back h k =
            let a : Is (is_line_there P A (constraint_of P e).to t) = search (and_l, and_r) in
            let b : Is (plain P.propositions (t % 4 ^ P.propositions)) = search (and_l, and_r) in
            let c : Is (plain P.propositions (join P.propositions (constraint_of P e).label (t % 4 ^ P.propositions))) = search (and_l, and_r) in
            let z : Is (is_line_there P A 0 0) = tt in
            let f : Is (eqb (constraint_of P e).to (constraint_of P e).to) = eqb_refl (constraint_of P e).to in
            let g : Is (eqb (constraint_of P e).from x) = eq→eqb mine in
            let l : Is (ltb 0 (less_weight (constraint_of P e) w)) = lt→ltb 0 (less_weight (constraint_of P e) w) k in
            search and_i

    -- rule 2
    pub lower_gives : (i : ℕ) → P.activation i ≡ x → (t : ℕ)
        → Gives P A x (LowerCase i) t 0 (bit_or t 0) (propagated (label_mask P.propositions) (link_bit P.propositions i) 0 (P.least i) 0 t (wait_at P A (P.finish i) t))
    unfolding propagated weighed
    lower_gives i mine t = rw (propagates_is P.propositions (link_bit P.propositions i) 0 t w (contains (t / 4 ^ P.propositions) i) (plain P.propositions (t % 4 ^ P.propositions)) few (touches_link P.propositions i t) (ap (is_plain (label_mask P.propositions)) (or_zero_r t) ∙ plain_place P.propositions t few)) (by_test test to back)
      where
        w : ℕ
        w = wait_at P A (P.finish i) t

        test : Bool
        test = (eqb t 0 || ltb 0 w) && not (contains (t / 4 ^ P.propositions) i) && plain P.propositions (t % 4 ^ P.propositions) && plain P.propositions (t % 4 ^ P.propositions)

        to : Is (gives P A x (LowerCase i) t 0) → Is test × (place P (given_line P A x (LowerCase i) t 0) ≡ bit_or t 0) × (w - P.least i ≡ w + 0 - P.least i)
        to h =
            let a : Is (eqb t 0 || ltb 0 w) = search (and_l, and_r) in
            let b : Is (not (contains (t / 4 ^ P.propositions) i)) = search (and_l, and_r) in
            let c : Is (plain P.propositions (t % 4 ^ P.propositions)) = search (and_l, and_r) in
            (search and_i, div-add-mod' t (4 ^ P.propositions) ∙ sym (or_zero_r t), omega arith)

        back : Is test → 0 < w + 0 - P.least i → Is (gives P A x (LowerCase i) t 0)
        back h k =
            let a : Is (is_line_there P A (P.finish i) t) = search (and_l, and_r) in
            let b : Is (not (contains (t / 4 ^ P.propositions) i)) = search (and_l, and_r) in
            let c : Is (plain P.propositions (t % 4 ^ P.propositions)) = search (and_l, and_r) in
            let z : Is (is_line_there P A 0 0) = tt in
            let f : Is (eqb (P.finish i) (P.finish i)) = eqb_refl (P.finish i) in
            let g : Is (eqb (P.activation i) x) = eq→eqb mine in
            let l : Is (ltb 0 (w - P.least i)) = lt→ltb 0 (w - P.least i) (omega arith) in
            search and_i

    -- rule 3
    pub upper_gives : (i : ℕ) → P.finish i ≡ x → (t : ℕ)
        → Gives P A x (UpperCase i) t 0 (bit_or t (link_bit P.propositions i)) (propagated (label_mask P.propositions) 0 (link_bit P.propositions i) 0 (P.most i) t (wait_at P A (P.activation i) t))
    unfolding propagated weighed link_bit
    upper_gives i mine t = rw (propagates_is P.propositions 0 (link_bit P.propositions i) t w false (plain P.propositions (t % 4 ^ P.propositions)) few (touches_none t) (plain_link P.propositions t i few)) (by_test test to back)
      where
        w : ℕ
        w = wait_at P A (P.activation i) t

        test : Bool
        test = (eqb t 0 || ltb 0 w) && not false && plain P.propositions (t % 4 ^ P.propositions) && plain P.propositions (t % 4 ^ P.propositions)

        to : Is (gives P A x (UpperCase i) t 0) → Is test × (place P (given_line P A x (UpperCase i) t 0) ≡ bit_or t (link_bit P.propositions i)) × (w + P.most i ≡ w + P.most i - 0)
        to h =
            let a : Is (eqb t 0 || ltb 0 w) = search (and_l, and_r) in
            let b : Is (not false) = tt in
            let c : Is (plain P.propositions (t % 4 ^ P.propositions)) = search (and_l, and_r) in
            (search and_i, sym (or_link P.propositions t i), omega arith)

        back : Is test → 0 < w + P.most i - 0 → Is (gives P A x (UpperCase i) t 0)
        back h k =
            let a : Is (is_line_there P A (P.activation i) t) = search (and_l, and_r) in
            let c : Is (plain P.propositions (t % 4 ^ P.propositions)) = search (and_l, and_r) in
            let z : Is (is_line_there P A 0 0) = tt in
            let f : Is (eqb (P.activation i) (P.activation i)) = eqb_refl (P.activation i) in
            let g : Is (eqb (P.finish i) x) = eq→eqb mine in
            search and_i

  -- rule 4
  pub letter_gives : (i t u : ℕ)
      → Gives P A x (LetterRemoval i) t u (bit_or (cleared t (link_bit P.propositions i)) u) (removes (link_bit P.propositions i) (P.least i) t (wait_at P A x t) u (wait_at P A (P.activation i) u))
  unfolding cleared link_bit
  letter_gives i t u = rw (removes_is (link_bit P.propositions i) (P.least i) t w u v on off (touches_link P.propositions i t) (ap not (touches_link P.propositions i u))) (by_test test to back)
    where
      w : ℕ
      w = wait_at P A x t

      v : ℕ
      v = wait_at P A (P.activation i) u

      on : Bool
      on = contains (t / 4 ^ P.propositions) i

      off : Bool
      off = not (contains (u / 4 ^ P.propositions) i)

      test : Bool
      test = on && ((eqb u 0 || ltb 0 v) && off)

      placed : place P (given_line P A x (LetterRemoval i) t u) ≡ bit_or (cleared t (link_bit P.propositions i)) u
      placed = sym (ap₂ bit_or (clear_link P.propositions t i) (sym (div-add-mod' u (4 ^ P.propositions))) ∙ or_places P.propositions (remove (t / 4 ^ P.propositions) i) (u / 4 ^ P.propositions) (t % 4 ^ P.propositions) (u % 4 ^ P.propositions) (mod-lt _ (four_pos _)) (mod-lt _ (four_pos _)))

      to : Is (gives P A x (LetterRemoval i) t u) → Is test × (place P (given_line P A x (LetterRemoval i) t u) ≡ bit_or (cleared t (link_bit P.propositions i)) u) × (min w (v + P.least i) ≡ min w (v + P.least i))
      to h =
          let a : Is (eqb u 0 || ltb 0 v) = search (and_l, and_r) in
          let b : Is on = search (and_l, and_r) in
          let c : Is off = search (and_l, and_r) in
          (search and_i, placed, refl)

      back : Is test → 0 < min w (v + P.least i) → Is (gives P A x (LetterRemoval i) t u)
      back h k =
          let a : Is (is_line_there P A (P.activation i) u) = search (and_l, and_r) in
          let b : Is on = search and_l in
          let c : Is off = search (and_l, and_r) in
          let z : Is (is_line_there P A x t) = or_right (eqb t 0) (ltb 0 w) (lt→ltb 0 w (omega arith)) in
          let f : Is (eqb (P.activation i) (P.activation i)) = eqb_refl (P.activation i) in
          let g : Is (eqb x x) = eqb_refl x in
          search and_i

  -- rule 5
  pub own_gives : (j : ℕ) → j < P.propositions → P.observer j ≡ x → (t : ℕ)
      → Gives P A x (OwnLiteral j) t 0 (cleared t (digit_mask j)) (cond (touches (digit_mask j) t) (wait_at P A x t) 0)
  unfolding cleared digit_mask
  own_gives j inside mine t = rw (touches_digit P.propositions j t inside) (by_test test to back)
    where
      w : ℕ
      w = wait_at P A x t

      test : Bool
      test = not (eqb (digit (t % 4 ^ P.propositions) j) 0)

      placed : place P (given_line P A x (OwnLiteral j) t 0) ≡ cleared t (digit_mask j)
      placed = sym (clear_place P.propositions t j inside)

      to : Is (gives P A x (OwnLiteral j) t 0) → Is test × (place P (given_line P A x (OwnLiteral j) t 0) ≡ cleared t (digit_mask j)) × (w ≡ w)
      to h = (search (and_l, and_r), placed, refl)

      back : Is test → 0 < w → Is (gives P A x (OwnLiteral j) t 0)
      back h k =
          let a : Is (is_line_there P A x t) = or_right (eqb t 0) (ltb 0 w) (lt→ltb 0 w k) in
          let z : Is (is_line_there P A 0 0) = tt in
          let f : Is (eqb x (P.observer j)) = eq→eqb (sym mine) in
          let g : Is (eqb x x) = eqb_refl x in
          let l : Is (ltb 0 w) = lt→ltb 0 w k in
          search and_i

  -- rule 6
  pub literal_gives : (j : ℕ) → j < P.propositions → (t u : ℕ)
      → Gives P A x (LiteralRemoval j) t u (bit_or (cleared t (digit_mask j)) u) (removes (digit_mask j) 0 t (wait_at P A x t) u (wait_at P A (P.observer j) u))
  unfolding cleared digit_mask
  literal_gives j inside t u = rw (removes_is (digit_mask j) 0 t w u v on off (touches_digit P.propositions j t inside) (ap not (touches_digit P.propositions j u inside) ∙ not_not off)) (by_test test to back)
    where
      w : ℕ
      w = wait_at P A x t

      v : ℕ
      v = wait_at P A (P.observer j) u

      on : Bool
      on = not (eqb (digit (t % 4 ^ P.propositions) j) 0)

      off : Bool
      off = eqb (digit (u % 4 ^ P.propositions) j) 0

      test : Bool
      test = on && ((eqb u 0 || ltb 0 v) && off)

      placed : place P (given_line P A x (LiteralRemoval j) t u) ≡ bit_or (cleared t (digit_mask j)) u
      placed = sym (ap₂ bit_or (clear_place P.propositions t j inside) (sym (div-add-mod' u (4 ^ P.propositions))) ∙ or_places P.propositions (t / 4 ^ P.propositions) (u / 4 ^ P.propositions) (clear_digit (t % 4 ^ P.propositions) j) (u % 4 ^ P.propositions) (lt_of_le_of_lt (clear_le (t % 4 ^ P.propositions) j) (mod-lt t (four_pos P.propositions))) (mod-lt _ (four_pos _)))

      to : Is (gives P A x (LiteralRemoval j) t u) → Is test × (place P (given_line P A x (LiteralRemoval j) t u) ≡ bit_or (cleared t (digit_mask j)) u) × (min w v ≡ min w (v + 0))
      to h =
          let a : Is (eqb u 0 || ltb 0 v) = search (and_l, and_r) in
          let b : Is on = search (and_l, and_r) in
          let c : Is off = search (and_l, and_r) in
          (search and_i, placed, omega arith)

      back : Is test → 0 < min w (v + 0) → Is (gives P A x (LiteralRemoval j) t u)
      back h k =
          let a : Is (is_line_there P A (P.observer j) u) = search (and_l, and_r) in
          let b : Is on = search and_l in
          let c : Is off = search (and_l, and_r) in
          let z : Is (is_line_there P A x t) = or_right (eqb t 0) (ltb 0 w) (lt→ltb 0 w (omega arith)) in
          let f : Is (eqb (P.observer j) (P.observer j)) = eqb_refl (P.observer j) in
          let g : Is (eqb x x) = eqb_refl x in
          let l : Is (ltb 0 v) = lt→ltb 0 v (omega arith) in
          search and_i
