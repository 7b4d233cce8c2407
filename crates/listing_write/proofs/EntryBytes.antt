-- A run of bytes put into a listing: what it holds there, and that all else stays; then one line's head and ground.
use mathlib.Core.Path.{◌≡◌, refl, sym, ap, ap₂, subst, ◌∙◌}
use mathlib.Core.List.{List, [], ◌∷◌, ◌++◌}
use Rattle.std.specs.Prelude.{Some}
use Prim.Native.Nat.{ℕ, zero, suc, ◌+◌, ◌*◌, ◌/◌, ◌%◌, ◌-◌, ◌≤◌, ◌<◌}
use native.Mathlib.Nat.{div-add-mod'}
use native.Mathlib.Decide.{dec_lt}
use native.Mathlib.Omega.{arith}
use lib.ListN.{length, get_or, set, length-set}
use lib.Seq.{sets, length-sets, get_or-set_same, get_or-set_other}
use Rattle.plan.specs.Bytes.{byte_at, word_at}
use Rattle.plan.specs.Plan.{Plan}
use Rattle.rules.specs.declared.Line.{Line}
use Rattle.rules.specs.declared.Edge.TheVariants.{PlanEdge, HorizonEdge, UpperBound, LowerBound}
use Rattle.rules.specs.declared.Ground.{Ground}
use Rattle.rules.specs.declared.Rule.{Rule}
use Rattle.rules.specs.declared.Rule.TheVariants.{Propagation, LowerCase, UpperCase, LetterRemoval, OwnLiteral, LiteralRemoval}
use Rattle.rules.specs.Derivations.{InPlan}
use Rattle.replay.specs.Listings.{long_at, line_count, head_in, head_line, head_rule, ground_at, row_of, first_parent, second_parent, bound_rule, rule_of}
use borrow.Author.Tests.{lt-ltb, le-ltb, ne_eqb}
use Rattle.listing_write.specs.Entry.{word_bytes, head_bytes, ground_bytes, rule_number, row_number, second_number, SameFields, LinePut}

-- ---- runs of bytes
-- two runs, one after the other
pub sets_then : (vs ws bs : List ℕ) (at : ℕ) → sets (sets bs at vs) (at + length vs) ws ≡ sets bs at (vs ++ ws)
sets_then [] ws bs at = ap (λ (k : ℕ). sets bs k ws) (omega arith)
sets_then (v ∷ vs) ws bs at = let e : at + suc (length vs) ≡ suc at + length vs = omega arith in ap (λ (k : ℕ). sets (sets (set bs at v) (suc at) vs) k ws) e ∙ sets_then vs ws (set bs at v) (suc at)

pub sets_on : (vs ws bs cs ds : List ℕ) (at to : ℕ) → to ≡ at + length vs → cs ≡ sets bs at vs → ds ≡ sets cs to ws → ds ≡ sets bs at (vs ++ ws)
sets_on vs ws bs cs ds at to e p q = q ∙ ap₂ (λ (l : List ℕ) (k : ℕ). sets l k ws) p e ∙ sets_then vs ws bs at

-- outside a run nothing changes
pub sets_before : (vs bs : List ℕ) (at p : ℕ) → p < at → get_or (sets bs at vs) p 0 ≡ get_or bs p 0
sets_before [] bs at p h = refl
sets_before (v ∷ vs) bs at p h = sets_before vs (set bs at v) (suc at) p (omega arith) ∙ get_or-set_other bs at p v 0 (λ (e : p ≡ at). absurd (omega arith))

pub sets_after : (vs bs : List ℕ) (at p : ℕ) → at + length vs ≤ p → get_or (sets bs at vs) p 0 ≡ get_or bs p 0
sets_after [] bs at p h = refl
sets_after (v ∷ vs) bs at p h = sets_after vs (set bs at v) (suc at) p (omega arith) ∙ get_or-set_other bs at p v 0 (λ (e : p ≡ at). absurd (omega arith))

-- inside it are its bytes
pub sets_inside : (vs bs : List ℕ) (at k : ℕ) → k < length vs → at + length vs ≤ length bs → get_or (sets bs at vs) (at + k) 0 ≡ get_or vs k 0
sets_inside [] bs at k h j = absurd (omega arith)
sets_inside (v ∷ vs) bs at zero h j =
    let e : at + 0 ≡ at = omega arith in
    ap (λ (p : ℕ). get_or (sets (set bs at v) (suc at) vs) p 0) e ∙ sets_before vs (set bs at v) (suc at) at (omega arith) ∙ get_or-set_same bs at v 0 (omega arith)
sets_inside (v ∷ vs) bs at (suc k) h j =
    let e : at + suc k ≡ suc at + k = omega arith in
    ap (λ (p : ℕ). get_or (sets (set bs at v) (suc at) vs) p 0) e ∙ sets_inside vs (set bs at v) (suc at) k (omega arith) (simp length-set (omega arith))

-- ---- a line's fields depend on its bytes alone
module _ (bs cs : List ℕ) where
  word_same : (p : ℕ) → byte_at cs p ≡ byte_at bs p → byte_at cs (p + 1) ≡ byte_at bs (p + 1) → word_at cs p ≡ word_at bs p
  unfolding word_at
  word_same p e f = rw (e, f) refl

-- ---- words
word_is : (v : ℕ) → v / 256 * 256 + v % 256 ≡ v
word_is v = div-add-mod' v 256

long_is : (v : ℕ) → (v / 65536 / 256 * 256 + v / 65536 % 256) * 65536 + (v % 65536 / 256 * 256 + v % 65536 % 256) ≡ v
long_is v = rw (word_is (v / 65536), word_is (v % 65536)) (div-add-mod' v 65536)

-- the number of lines, put at the start
pub count_put : (bs cs : List ℕ) (m : ℕ) → 2 ≤ length bs → cs ≡ sets bs 0 (word_bytes m) → line_count cs ≡ m
unfolding line_count word_at byte_at
count_put bs cs m h e = rw (e, sets_inside (word_bytes m) bs 0 0 (omega arith) h, sets_inside (word_bytes m) bs 0 1 (omega arith) h) (word_is m)

-- ---- a rule and its row are named by their numbers
module _ (P : Plan) (some_point : 0 < P.points) where
  -- from row e + n on
  bound_named : (b : ℕ) (r : Rule) → bound_rule P b ≡ Some r → rule_of P 1 (P.edges + P.points + b) ≡ Some r
  bound_named b r h =
      let d : P.edges + P.points + b - (P.edges + P.points) ≡ b = omega arith in
      rw (le-ltb (P.edges + P.points + b) P.edges (omega arith), ne_eqb (P.edges + P.points + b) P.edges (omega arith), le-ltb (P.edges + P.points + b) (P.edges + P.points) (omega arith), d) h

  pub rule_named : (r : Rule) → InPlan P r → rule_of P (rule_number r) (row_number P r) ≡ Some r
  rule_named (Propagation (PlanEdge i)) h = rw (lt-ltb i P.edges h) refl
  rule_named (Propagation (HorizonEdge x)) h =
      let d : P.edges + x - P.edges ≡ x = omega arith in
      rw (le-ltb (P.edges + x) P.edges (omega arith), ne_eqb (P.edges + x) P.edges (omega (arith, h.0)), lt-ltb (P.edges + x) (P.edges + P.points) (omega (arith, h.1)), d) refl
  rule_named (Propagation (UpperBound i)) h =
      let d : 2 * i / 2 ≡ i = omega arith in
      let m : 2 * i % 2 ≡ 0 = omega arith in
      bound_named (2 * i) (Propagation (UpperBound i)) (rw (d, m, lt-ltb i P.links h) refl)
  rule_named (Propagation (LowerBound i)) h =
      let d : (2 * i + 1) / 2 ≡ i = omega arith in
      let m : (2 * i + 1) % 2 ≡ 1 = omega arith in
      let s : P.edges + P.points + 2 * i + 1 ≡ P.edges + P.points + (2 * i + 1) = omega arith in
      ap (rule_of P 1) s ∙ bound_named (2 * i + 1) (Propagation (LowerBound i)) (rw (d, m, lt-ltb i P.links h) refl)
  rule_named (LowerCase i) h = rw (lt-ltb i P.links h) refl
  rule_named (UpperCase i) h = rw (lt-ltb i P.links h) refl
  rule_named (LetterRemoval i) h = rw (lt-ltb i P.links h) refl
  rule_named (OwnLiteral j) h = rw (lt-ltb j P.propositions h) refl
  rule_named (LiteralRemoval j) h = rw (lt-ltb j P.propositions h) refl

-- ---- line i of m lines, its head and its ground
module _ (bs : List ℕ) (m i : ℕ) (l : Line) (rule row a b : ℕ) (count : line_count bs ≡ m) (long : length bs ≡ 2 + 14 * m) (here : i < m) where
  headed : List ℕ
  headed = sets bs (2 + 8 * i) (head_bytes l rule)

  written : List ℕ
  written = sets headed (2 + 8 * m + 6 * i) (ground_bytes row a b)

  headed_length : length headed ≡ 2 + 14 * m
  unfolding headed
  headed_length = length-sets bs (2 + 8 * i) (head_bytes l rule) ∙ long

  in_head : (p k : ℕ) → p ≡ 2 + 8 * i + k → k < 8 → byte_at written p ≡ get_or (head_bytes l rule) k 0
  unfolding byte_at headed written
  in_head p k e h =
      ap (λ (q : ℕ). get_or written q 0) e ∙ sets_before (ground_bytes row a b) headed (2 + 8 * m + 6 * i) (2 + 8 * i + k) (omega arith)
      ∙ sets_inside (head_bytes l rule) bs (2 + 8 * i) k h (omega arith)

  in_ground : (p k : ℕ) → p ≡ 2 + 8 * m + 6 * i + k → k < 6 → byte_at written p ≡ get_or (ground_bytes row a b) k 0
  unfolding byte_at headed written
  in_ground p k e h = ap (λ (q : ℕ). get_or written q 0) e ∙ sets_inside (ground_bytes row a b) headed (2 + 8 * m + 6 * i) k h (omega (arith, headed_length))

  before_head : (p : ℕ) → p < 2 + 8 * i → byte_at written p ≡ byte_at bs p
  unfolding byte_at headed written
  before_head p h = sets_before (ground_bytes row a b) headed (2 + 8 * m + 6 * i) p (omega arith) ∙ sets_before (head_bytes l rule) bs (2 + 8 * i) p h

  before_ground : (p : ℕ) → 2 + 8 * i + 8 ≤ p → p < 2 + 8 * m + 6 * i → byte_at written p ≡ byte_at bs p
  unfolding byte_at headed written
  before_ground p h k = sets_before (ground_bytes row a b) headed (2 + 8 * m + 6 * i) p k ∙ sets_after (head_bytes l rule) bs (2 + 8 * i) p h

  after_ground : (p : ℕ) → 2 + 8 * m + 6 * i + 6 ≤ p → byte_at written p ≡ byte_at bs p
  unfolding byte_at headed written
  after_ground p h = sets_after (ground_bytes row a b) headed (2 + 8 * m + 6 * i) p h ∙ sets_after (head_bytes l rule) bs (2 + 8 * i) p (omega arith)

  count_kept : line_count written ≡ line_count bs
  unfolding line_count
  count_kept = word_same bs written 0 (before_head 0 (omega arith)) (before_head 1 (omega arith))

  as_long : length written ≡ length bs
  unfolding written
  as_long = length-sets headed (2 + 8 * m + 6 * i) (ground_bytes row a b) ∙ headed_length ∙ sym long

  count_is : line_count written ≡ m
  count_is = count_kept ∙ count

  head_line_lem : head_line written i ≡ l
  unfolding head_line head_in long_at word_at
  head_line_lem =
      let b0 : byte_at written (2 + 8 * i) ≡ l.point = in_head (2 + 8 * i) 0 (omega arith) (omega arith) in
      let b1 : byte_at written (2 + 8 * i + 1) ≡ l.set = in_head (2 + 8 * i + 1) 1 refl (omega arith) in
      let b2 : byte_at written (2 + 8 * i + 2) ≡ l.label = in_head (2 + 8 * i + 2) 2 refl (omega arith) in
      let b4 : byte_at written (2 + 8 * i + 4) ≡ l.wait / 65536 / 256 = in_head (2 + 8 * i + 4) 4 refl (omega arith) in
      let b5 : byte_at written (2 + 8 * i + 4 + 1) ≡ l.wait / 65536 % 256 = in_head (2 + 8 * i + 4 + 1) 5 (omega arith) (omega arith) in
      let b6 : byte_at written (2 + 8 * i + 4 + 2) ≡ l.wait % 65536 / 256 = in_head (2 + 8 * i + 4 + 2) 6 (omega arith) (omega arith) in
      let b7 : byte_at written (2 + 8 * i + 4 + 2 + 1) ≡ l.wait % 65536 % 256 = in_head (2 + 8 * i + 4 + 2 + 1) 7 (omega arith) (omega arith) in
      let w : (byte_at written (2 + 8 * i + 4) * 256 + byte_at written (2 + 8 * i + 4 + 1)) * 65536 + (byte_at written (2 + 8 * i + 4 + 2) * 256 + byte_at written (2 + 8 * i + 4 + 2 + 1)) ≡ l.wait = rw (b4, b5, b6, b7) (long_is l.wait) in
      λ k. record { point = b0 k; set = b1 k; label = b2 k; wait = w k }

  head_rule_lem : head_rule written i ≡ rule
  unfolding head_rule head_in
  head_rule_lem = in_head (2 + 8 * i + 3) 3 refl (omega arith)

  ground_word : (at k v : ℕ) → at ≡ 2 + 8 * m + 6 * i + k → k + 1 < 6 → get_or (ground_bytes row a b) k 0 ≡ v / 256 → get_or (ground_bytes row a b) (k + 1) 0 ≡ v % 256 → word_at written at ≡ v
  unfolding word_at
  ground_word at k v e h x y = rw (in_ground at k e (omega arith) ∙ x, in_ground (at + 1) (k + 1) (omega arith) h ∙ y) (word_is v)

  ground_row : row_of written i ≡ row
  unfolding row_of ground_at
  ground_row = ground_word (2 + 8 * line_count written + 6 * i) 0 row (omega (arith, count_is)) (omega arith) refl refl

  ground_first : first_parent written i ≡ a
  unfolding first_parent ground_at
  ground_first = ground_word (2 + 8 * line_count written + 6 * i + 2) 2 a (omega (arith, count_is)) (omega arith) refl refl

  ground_second : second_parent written i ≡ b
  unfolding second_parent ground_at
  ground_second = ground_word (2 + 8 * line_count written + 6 * i + 4) 4 b (omega (arith, count_is)) (omega arith) refl refl

  -- ---- the other lines
  module _ (j : ℕ) (inside : j < m) (other : j ≡ i → ⊥) where
    head_kept : (p : ℕ) → 2 + 8 * j ≤ p → p < 2 + 8 * j + 8 → byte_at written p ≡ byte_at bs p
    head_kept p h k = go (dec_lt j i)
      where
        go : Dec (j < i) → byte_at written p ≡ byte_at bs p
        go (yes q) = before_head p (omega arith)
        go (no q) = let d : i < j = omega (arith, other) in before_ground p (omega arith) (omega arith)

    ground_kept : (p : ℕ) → 2 + 8 * m + 6 * j ≤ p → p < 2 + 8 * m + 6 * j + 6 → byte_at written p ≡ byte_at bs p
    ground_kept p h k = go (dec_lt j i)
      where
        go : Dec (j < i) → byte_at written p ≡ byte_at bs p
        go (yes q) = before_ground p (omega arith) (omega arith)
        go (no q) = let d : i < j = omega (arith, other) in after_ground p (omega arith)

    line_kept : head_line written j ≡ head_line bs j
    unfolding head_line head_in long_at
    line_kept = λ k. record {
      point = head_kept (2 + 8 * j) (omega arith) (omega arith) k;
      set = head_kept (2 + 8 * j + 1) (omega arith) (omega arith) k;
      label = head_kept (2 + 8 * j + 2) (omega arith) (omega arith) k;
      wait = ap₂ (λ (x y : ℕ). x * 65536 + y) (word_kept (2 + 8 * j + 4) (omega arith) (omega arith)) (word_kept (2 + 8 * j + 4 + 2) (omega arith) (omega arith)) k;
    }
      where
        word_kept : (p : ℕ) → 2 + 8 * j ≤ p → p + 1 < 2 + 8 * j + 8 → word_at written p ≡ word_at bs p
        word_kept p h q = word_same bs written p (head_kept p h (omega arith)) (head_kept (p + 1) (omega arith) q)

    -- a 16-bit number of the ground, at the place that each count says
    word_kept : (x y p : ℕ) → x ≡ p → y ≡ p → 2 + 8 * m + 6 * j ≤ p → p + 1 < 2 + 8 * m + 6 * j + 6 → word_at written x ≡ word_at bs y
    word_kept x y p e f h k = ap (word_at written) e ∙ word_same bs written p (ground_kept p h (omega arith)) (ground_kept (p + 1) (omega arith) k) ∙ ap (word_at bs) (sym f)

    fields_kept : SameFields bs written j
    unfolding head_rule head_in row_of first_parent second_parent ground_at
    fields_kept = record {
      same_line = line_kept;
      same_rule = head_kept (2 + 8 * j + 3) (omega arith) (omega arith);
      same_row = word_kept _ _ (2 + 8 * m + 6 * j) (omega (arith, count_is)) (omega (arith, count)) (omega arith) (omega arith);
      same_first = word_kept _ _ (2 + 8 * m + 6 * j + 2) (omega (arith, count_is)) (omega (arith, count)) (omega arith) (omega arith);
      same_second = word_kept _ _ (2 + 8 * m + 6 * j + 4) (omega (arith, count_is)) (omega (arith, count)) (omega arith) (omega arith);
    }

-- ---- all that putting a line changes; the code's numbers n, w and s are those of the rule, its row and the second parent
pub line_put : (P : Plan) (m i : ℕ) (l : Line) (g : Ground) (n w s : ℕ) (bs cs ds : List ℕ) → 0 < P.points → InPlan P g.by → line_count bs ≡ m → length bs ≡ 2 + 14 * m → i < m
    → n ≡ rule_number g.by → w ≡ row_number P g.by → s ≡ second_number g.by g.second → cs ≡ sets bs (2 + 8 * i) (head_bytes l n) → ds ≡ sets cs (2 + 8 * m + 6 * i) (ground_bytes w g.first s) → LinePut P m i l g bs ds
unfolding headed written
line_put P m i l g n w s bs cs ds z h c e k en ew es ec ed = let a = g.first in subst (LinePut P m i l g bs) (sym (ed ∙ ap (λ (x : List ℕ). sets x (2 + 8 * m + 6 * i) (ground_bytes w a s)) ec)) (record {
  as_long = as_long bs m i l n w a s c e k;
  counted = count_kept bs m i l n w a s c e k;
  line_is = head_line_lem bs m i l n w a s c e k;
  rule_is = rw (head_rule_lem bs m i l n w a s c e k, ground_row bs m i l n w a s c e k, en, ew) (rule_named P z g.by h);
  first_is = ground_first bs m i l n w a s c e k;
  second_is = ground_second bs m i l n w a s c e k ∙ es;
  others = fields_kept bs m i l n w a s c e k;
})
