-- Laws of the log of rounds: one entry more, the entries of cells that a round left alone, and entries of tables that agree.
use mathlib.Core.Path.{◌≡◌, refl, sym, ◌∙◌}
use mathlib.Core.List.{List, [], ◌∷◌, ◌++◌, append-nil, append_assoc}
use Prim.Native.Nat.{ℕ, zero, suc, ◌+◌, ◌*◌, ◌≤◌, ◌<◌}
use native.Mathlib.Nat.{add-zero, add_assoc, zero-mul, zero-min, min-zero}
use native.Mathlib.Decide.{ℕ_discrete}
use native.Mathlib.Numerals.{add-one}
use native.Mathlib.Omega.{arith}
use lib.ListN.{length, get_or, set, length-append, length-set}
use lib.Seq.{take_all, take-suc-set, take-append-le}
use borrow.Author.Tests.{lt-ltb, le-ltb}
use Rattle.rounds_tables.specs.Known.{RoundNoted}
use Rattle.rounds_tables.specs.Log.{entry_of, cell_entries, raised_entries, round_entries, Logged, LogGrew}
use Rattle.rounds_tables.proofs.RoundLaws.{row_end}
use Rattle.rounds_tables.proofs.NotedLaws.{noted_at}

-- ---- one entry more
pub logged_none : (log : List ℕ) → Logged [] log 0
logged_none log = record { at_is = sym (zero-min (length log)); entries_are = refl }

pub logged_empty : (es log : List ℕ) (at : ℕ) → length log ≡ 0 → at ≤ length log → Logged es log at
logged_empty es log at e h =
    let z : at ≡ 0 = omega arith in
    record { at_is = rw (z, e, min-zero); entries_are = rw z }

module _ (es log : List ℕ) (at entry : ℕ) (l : Logged es log at) where
  pub logged_more : at < length log → Logged (es ++ (entry ∷ [])) (set log at entry) (at + 1)
  logged_more h = record { at_is = simp (length-append, length-set) (omega (arith, l.at_is)); entries_are = rw (add-one, take-suc-set log at entry h, l.entries_are) (rw (take_all at es (omega (arith, l.at_is))) (sym (take_all (suc at) (es ++ (entry ∷ [])) (simp length-append (omega (arith, l.at_is)))))) }

  pub logged_full : length log ≤ at → Logged (es ++ (entry ∷ [])) log at
  logged_full h = record { at_is = simp length-append (omega (arith, l.at_is)); entries_are = l.entries_are ∙ sym (take-append-le at es (entry ∷ []) (omega (arith, l.at_is))) }

-- ---- the entries of one cell more
raised_next : (A B : List ℕ) (c : ℕ) → raised_entries A B (c + 1) ≡ raised_entries A B c ++ cell_entries A B c
unfolding raised_entries
raised_next A B c = rw add-one

pub entries_raised : (A B : List ℕ) (c : ℕ) → get_or A c 0 < get_or B c 0 → raised_entries A B (c + 1) ≡ raised_entries A B c ++ (entry_of c (get_or B c 0) ∷ [])
unfolding cell_entries
entries_raised A B c h = raised_next A B c ∙ rw (lt-ltb (get_or A c 0) (get_or B c 0) h)

pub entries_stay : (A B : List ℕ) (c : ℕ) → get_or B c 0 ≤ get_or A c 0 → raised_entries A B (c + 1) ≡ raised_entries A B c
unfolding cell_entries
entries_stay A B c h = raised_next A B c ∙ rw (le-ltb (get_or A c 0) (get_or B c 0) h) (append-nil (raised_entries A B c))

-- n cells from a on that agree have no entries
pub entries_agree : (A B : List ℕ) (a n : ℕ) → ((t : ℕ) → t < n → get_or A (a + t) 0 ≡ get_or B (a + t) 0) → raised_entries A B (a + n) ≡ raised_entries A B a
entries_agree A B a zero h = rw add-zero
entries_agree A B a (suc n) h =
    let e : a + suc n ≡ (a + n) + 1 = omega arith in
    rw e (entries_stay A B (a + n) (omega (arith, h n (omega arith))) ∙ entries_agree A B a n (λ t k. h t (omega arith)))

-- ---- the entries of two other tables with the same cells
module _ (A B A' B' : List ℕ) where
  pub raised_alike : (n : ℕ) → ((c : ℕ) → c < n → get_or A c 0 ≡ get_or A' c 0) → ((c : ℕ) → c < n → get_or B c 0 ≡ get_or B' c 0) → raised_entries A B n ≡ raised_entries A' B' n
  unfolding raised_entries cell_entries
  raised_alike zero f g = refl
  raised_alike (suc n) f g = rw (raised_alike n (λ c h. f c (omega arith)) (λ c h. g c (omega arith)), f n (omega arith), g n (omega arith))

  pub round_alike : (n : ℕ) → ((c : ℕ) → c < n → get_or A c 0 ≡ get_or A' c 0) → ((c : ℕ) → c < n → get_or B c 0 ≡ get_or B' c 0) → round_entries A B n ≡ round_entries A' B' n
  unfolding round_entries
  round_alike n f g = rw (raised_alike n f g)

-- ---- a point without notes has the same cells in both tables
pub unnoted_agree : (n w : ℕ) (A B notes noted : List ℕ) (set : ℕ) → RoundNoted n w A B notes noted set → (y t : ℕ) → y < n → t < w → get_or noted y 0 ≡ 0 → get_or A (y * w + t) 0 ≡ get_or B (y * w + t) 0
unnoted_agree n w A B notes noted set r y t h k e = go (ℕ_discrete (get_or B (y * w + t) 0) (get_or A (y * w + t) 0))
  where
    go : Dec (get_or B (y * w + t) 0 ≡ get_or A (y * w + t) 0) → get_or A (y * w + t) 0 ≡ get_or B (y * w + t) 0
    go (yes q) = sym q
    go (no q) = absurd (omega (arith, ((noted_at w B A notes (y * w) (get_or noted y 0) (r.at y h)).all t k q).below))

-- ---- a log that grows, by one cell: a raised one, with its entry pushed, and any other
module _ (A B log : List ℕ) (at c : ℕ) where
  pub grew_raised : (log' : List ℕ) (r e : ℕ) → get_or A c 0 < get_or B c 0 → e ≡ get_or B c 0 * 65536 + c → ((es : List ℕ) → Logged es log at → Logged (es ++ (e ∷ [])) log' r) → r ≤ length log' → LogGrew (raised_entries A B c) (raised_entries A B (c + 1)) log at log' r
  unfolding entry_of
  grew_raised log' r e h q pushed k = record { logged = λ es l. rw (entries_raised A B c h, ← q, ← (append_assoc es (raised_entries A B c) (e ∷ []))) (pushed (es ++ raised_entries A B c) l); at_in = k }

  pub grew_stay : get_or B c 0 ≤ get_or A c 0 → at ≤ length log → LogGrew (raised_entries A B c) (raised_entries A B (c + 1)) log at log at
  grew_stay h k = rw (entries_stay A B c h) (record { logged = λ es l. l; at_in = k })

-- by the cells from base on
module _ (A B log : List ℕ) (at base : ℕ) where
  pub grew_none : at ≤ length log → LogGrew (raised_entries A B base) (raised_entries A B (base + 0)) log at log at
  grew_none k = rw add-zero (record { logged = λ es l. l; at_in = k })

  pub grew_cell : (t : ℕ) (log' : List ℕ) (at' : ℕ) (log'' : List ℕ) (at'' : ℕ) → LogGrew (raised_entries A B base) (raised_entries A B (base + t)) log at log' at' → LogGrew (raised_entries A B (base + t)) (raised_entries A B (base + t + 1)) log' at' log'' at'' → LogGrew (raised_entries A B base) (raised_entries A B (base + (t + 1))) log at log'' at''
  grew_cell t log' at' log'' at'' f g = rw (← (add_assoc base t 1)) (record { logged = λ es l. g.logged es (f.logged es l); at_in = g.at_in })

-- by the points of w cells, of which those without notes have no entries
module _ (w : ℕ) (A B log : List ℕ) (at : ℕ) where
  pub grew_start : at ≤ length log → LogGrew (raised_entries A B 0) (raised_entries A B (0 * w)) log at log at
  grew_start k = rw zero-mul (record { logged = λ es l. l; at_in = k })

  pub grew_point : (x : ℕ) (log' : List ℕ) (at' : ℕ) (log'' : List ℕ) (at'' : ℕ) → LogGrew (raised_entries A B 0) (raised_entries A B (x * w)) log at log' at' → LogGrew (raised_entries A B (x * w)) (raised_entries A B (x * w + w)) log' at' log'' at'' → LogGrew (raised_entries A B 0) (raised_entries A B ((x + 1) * w)) log at log'' at''
  grew_point x log' at' log'' at'' f g = rw (← (row_end x w)) (record { logged = λ es l. g.logged es (f.logged es l); at_in = g.at_in })

  pub grew_unnoted : (x : ℕ) (log' : List ℕ) (at' : ℕ) → ((t : ℕ) → t < w → get_or A (x * w + t) 0 ≡ get_or B (x * w + t) 0) → LogGrew (raised_entries A B 0) (raised_entries A B (x * w)) log at log' at' → LogGrew (raised_entries A B 0) (raised_entries A B ((x + 1) * w)) log at log' at'
  grew_unnoted x log' at' agree f = rw (← (row_end x w), entries_agree A B (x * w) w agree) f

-- the same log and number by other names
pub grew_as : (a b log : List ℕ) (at : ℕ) (log' : List ℕ) (at' : ℕ) (log'' : List ℕ) (at'' : ℕ) → log'' ≡ log' → at'' ≡ at' → length log' ≡ length log → LogGrew a b log at log' at' → (length log'' ≡ length log) × LogGrew a b log at log'' at''
grew_as a b log at log' at' log'' at'' e f k g = (rw e k, rw (e, f) g)

-- ---- a round's entries: all that were raised, and the 0
pub round_logged : (A B log : List ℕ) (at n : ℕ) (log' : List ℕ) (end : ℕ) (log'' : List ℕ) (r : ℕ) → LogGrew (raised_entries A B 0) (raised_entries A B n) log at log' end → ((es : List ℕ) → Logged es log' end → Logged (es ++ (0 ∷ [])) log'' r) → (es : List ℕ) → Logged es log at → Logged (es ++ round_entries A B n) log'' r
unfolding raised_entries round_entries
round_logged A B log at n log' end log'' r grew pushed es l = rw (← (append_assoc es (raised_entries A B n) (0 ∷ []))) (pushed (es ++ raised_entries A B n) (grew.logged es (rw append-nil l)))
