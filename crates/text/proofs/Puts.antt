-- Laws of text put into a lent buffer: nothing, one text behind another, and the whole from the start.
use mathlib.Core.Path.{◌≡◌, refl, sym, ap, ◌∙◌}
use mathlib.Core.List.{List, [], ◌∷◌, ◌++◌}
use Prim.Native.Nat.{ℕ, zero, suc, ◌+◌, ◌≤◌, ◌<◌}
use native.Mathlib.Nat.{add-zero, add-suc, suc-add, le_refl}
use native.Mathlib.Decide.{ℕ_discrete}
use native.Mathlib.Numerals.{add-one}
use native.Mathlib.Omega.{arith}
use lib.ListN.{length, get_or, take, drop, set, length-append}
use lib.Seq.{sets, take-suc, length-take-le}
use Rattle.std.specs.Borrow.{MutBor}
use Rattle.text.specs.Joined.{joined}
use Rattle.text.specs.declared.buffer.TextBuffer.{TextBuffer}
use Rattle.text.specs.Buffer.{HasRoom, IsEmptyIn, Puts}

-- ---- what is put
sets_append : (out : List ℕ) (at : ℕ) (s t : List ℕ) → sets out at (s ++ t) ≡ sets (sets out at s) (at + length s) t
sets_append out at [] t = ap (λ (k : ℕ). sets out k t) (sym (add-zero at))
sets_append out at (b ∷ s) t = sets_append (set out at b) (suc at) s t ∙ ap (λ (k : ℕ). sets (sets (set out at b) (suc at) s) k t) (suc-add at (length s) ∙ sym (add-suc at (length s)))

pub puts_none : {a : TextBuffer} → Puts [] a a
puts_none {a} = record { same_reference = refl; length_is = sym (add-zero a.length); out_is = refl }

-- one text behind another
pub puts_append : {s t : List ℕ} {a b c : TextBuffer} → Puts s a b → Puts t b c → Puts (s ++ t) a c
puts_append {s} {t} {a} {b} {c} p q = record {
  same_reference = q.same_reference ∙ p.same_reference;
  length_is = omega (arith, p.length_is, q.length_is, length-append s t);
  out_is = rw (q.out_is, p.out_is, p.length_is, sets_append a.out.now a.length s t) refl;
}

-- one byte more of some bytes
pub puts_taken : (bytes : List ℕ) (i : ℕ) {a b c : TextBuffer} → i < length bytes → Puts (take i bytes) a b → Puts (get_or bytes i 0 ∷ []) b c → Puts (take (i + 1) bytes) a c
puts_taken bytes i h p q = rw (add-one, take-suc bytes i 0) (puts_append p q)

-- one text more of some texts
pub puts_joined : (f : ℕ → List ℕ) (i : ℕ) {a b c : TextBuffer} → Puts (joined f i) a b → Puts (f i) b c → Puts (joined f (i + 1)) a c
unfolding joined
puts_joined f i p q = rw add-one (puts_append p q)

-- ---- the whole from the start
sets_none : (at : ℕ) (text : List ℕ) → sets {A = ℕ} [] at text ≡ []
sets_none at [] = refl
sets_none at (b ∷ text) = sets_none (suc at) text

sets_behind : (text : List ℕ) (at x : ℕ) (out : List ℕ) → sets (x ∷ out) (suc at) text ≡ x ∷ sets out at text
sets_behind [] at x out = refl
sets_behind (b ∷ text) at x out = sets_behind text (suc at) x (set out at b)

pub sets_start : (text out : List ℕ) → sets out 0 text ≡ take (length out) text ++ drop (length text) out
sets_start [] [] = refl
sets_start [] (x ∷ out) = refl
sets_start (b ∷ text) [] = sets_none 1 text
sets_start (b ∷ text) (x ∷ out) = sets_behind text 0 b out ∙ ap (λ (l : List ℕ). b ∷ l) (sets_start text out)

-- r is the text's length, and after what a lent output ends as that holds as much of the text as fits from its start
pub record Written (text out : List ℕ) (r : ℕ) (after : List ℕ) : Type 0 where
  pub length_is : r ≡ length text
  pub out_is : after ≡ sets out 0 text

pub written : {text after : List ℕ} {r : ℕ} {out : MutBor (List ℕ)} {a b : TextBuffer} → IsEmptyIn out a → Puts text a b → r ≡ b.length → after ≡ b.out.now → Written text out.now r after
written e p f g = record { length_is = omega (arith, e.length_is, p.length_is, f); out_is = rw (g, p.out_is, e.out_is, e.length_is) refl }

-- ---- room
pub room_first : {a : TextBuffer} (s t : List ℕ) → HasRoom (s ++ t) a → HasRoom s a
room_first s t r = record { room = omega (arith, r.room, length-append s t) }

pub room_second : {a b : TextBuffer} (s t : List ℕ) → HasRoom (s ++ t) a → Puts s a b → HasRoom t b
room_second s t r p = record { room = omega (arith, r.room, p.length_is, length-append s t) }

joined_longer : (f : ℕ → List ℕ) (n i : ℕ) → i < n → length (joined f i) + length (f i) ≤ length (joined f n)
unfolding joined
joined_longer f zero i h = absurd (omega arith)
joined_longer f (suc n) i h = go (joined_longer f n i) (ℕ_discrete i n)
  where
    go : (i < n → length (joined f i) + length (f i) ≤ length (joined f n)) → Dec (i ≡ n) → length (joined f i) + length (f i) ≤ length (joined f n ++ f n)
    go r (yes e) = rw (e, length-append) (le_refl _)
    go r (no e) = rw length-append (omega (arith, r (omega arith)))

pub room_joined : {a b : TextBuffer} (f : ℕ → List ℕ) (n i : ℕ) → i < n → HasRoom (joined f n) a → Puts (joined f i) a b → HasRoom (f i) b
room_joined f n i h r p = record { room = omega (arith, r.room, p.length_is, joined_longer f n i h) }

pub room_taken : {a b : TextBuffer} (bytes : List ℕ) (i : ℕ) → i < length bytes → HasRoom bytes a → Puts (take i bytes) a b → HasRoom (get_or bytes i 0 ∷ []) b
room_taken bytes i h r p = record { room = omega (arith, r.room, p.length_is, length-take-le i bytes (omega arith)) }
