-- Lines that are written and derive, the last of them the lowest Z cell of the breaking round, are a listing handed over.
use mathlib.Core.Path.{◌≡◌, refl, sym, ap, ap₂, subst, ◌∙◌}
use mathlib.Core.List.{List, [], ◌∷◌, map}
use Prim.Native.Nat.{ℕ, suc, ◌+◌, ◌-◌, ◌*◌, ◌≤◌, ◌<◌}
use native.Mathlib.Omega.{arith}
use lib.Dec.{T as Is}
use lib.ListN.{length, get_or}
use lib.Seq.{get_or-append_seam}
use Rattle.plan.specs.Label.{plain}
use Rattle.plan.specs.Layout.{plan_of}
use Rattle.plan.specs.Refusal.{Accepted}
use Rattle.plan.proofs.Ranges.{accepted_well_formed}
use Rattle.rules.specs.declared.Line.{Line}
use Rattle.rules.specs.Lines.{from_to, line_at, starting_line}
use Rattle.replay.specs.Listings.{line_count, head_line}
use Rattle.replay.specs.Derives.{LineDerives, ListingDerives}
use Rattle.replay.proofs.ListingLaws.{derives_replay, listing_derivation, listing_self_wait, listing_no_panel}
use Rattle.listing_lines.specs.Listed.{table, lines_to, last_cell, listing_lines, BreaksIn}
use Rattle.listing_lines.specs.Handed.{Listing}
use Rattle.listing_write.specs.Progress.{Appended}
use Rattle.listing_lines.proofs.Ending.{Breaks, breaks_facts, last_first_alarm, last_plain}
use Rattle.listing_lines.proofs.LineCounts.{listing_count}

-- a list is what it holds at each place
list_by : (f : ℕ → Line) (ls : List Line) (i : ℕ) → ((j : ℕ) → j < length ls → f (i + j) ≡ get_or ls j (starting_line 0)) → map f (from_to i (length ls)) ≡ ls
list_by f [] i h = refl
list_by f (l ∷ ls) i h =
    let e : i + 0 ≡ i = omega arith in
    let a : f i ≡ l = ap f (sym e) ∙ h 0 (omega arith) in
    let b : map f (from_to (suc i) (length ls)) ≡ ls = list_by f ls (suc i) (λ j k. let z : suc i + j ≡ i + suc j = omega arith in ap f z ∙ h (suc j) (omega arith)) in
    ap₂ (λ (x : Line) (xs : List Line). x ∷ xs) a b

module _ (plan : List ℕ) (accepted : Accepted plan) (r : ℕ) (breaks : BreaksIn (plan_of plan) r) (cs : List ℕ) (count : line_count cs ≡ length (listing_lines (plan_of plan) r)) where
  b : Breaks (plan_of plan) r
  b = breaks_facts (plan_of plan) r r breaks.breaks

  -- the last line, by its place
  last_at : get_or (listing_lines (plan_of plan) r) (line_count cs - 1) (starting_line 0) ≡ line_at (plan_of plan) (table (plan_of plan) (suc b.before)) (last_cell (plan_of plan) b.before)
  unfolding listing_lines
  last_at =
      let P = plan_of plan in
      let e : line_count cs - 1 ≡ length (lines_to P b.before) = omega (arith, count ∙ ap (λ (x : ℕ). length (listing_lines P x)) b.is_after ∙ listing_count P b.before) in
      ap₂ (λ (x : List Line) (k : ℕ). get_or x k (starting_line 0)) (ap (listing_lines P) b.is_after) e ∙ get_or-append_seam (lines_to P b.before) _ [] (starting_line 0)

  some_lines : 1 ≤ line_count cs
  some_lines = omega (arith, count ∙ ap (λ (x : ℕ). length (listing_lines (plan_of plan) x)) b.is_after ∙ listing_count (plan_of plan) b.before)

  module _ (bs : List ℕ) (written : Appended (plan_of plan) 0 (listing_lines (plan_of plan) r) bs cs) where
    head_at : (j : ℕ) → j < length (listing_lines (plan_of plan) r) → head_line cs j ≡ get_or (listing_lines (plan_of plan) r) j (starting_line 0)
    head_at j h = let z : 0 + j ≡ j = omega arith in ap (head_line cs) (sym z) ∙ written.heads j h

    last_line : head_line cs (line_count cs - 1) ≡ line_at (plan_of plan) (table (plan_of plan) (suc b.before)) (last_cell (plan_of plan) b.before)
    last_line = head_at (line_count cs - 1) (omega (arith, some_lines, count)) ∙ last_at

    listing_derives : length cs ≡ 2 + 14 * length (listing_lines (plan_of plan) r) → length (listing_lines (plan_of plan) r) ≤ 4096 → ListingDerives plan cs
    listing_derives long few =
        let P = plan_of plan in
        let wf = accepted_well_formed plan accepted in
        record {
          accepted = accepted;
          some_lines = (some_lines, rw count few);
          long = rw count long;
          lines_derive = λ i h. let z : 0 + i ≡ i = omega arith in subst (LineDerives P cs) z (written.derive i (rw count at h));
          last_first_alarm = ap (λ (l : Line). l.point) last_line ∙ last_first_alarm P wf b.before b.runs b.waits;
          last_plain = subst (λ (l : Line). Is (plain P.propositions l.label)) (sym last_line) (last_plain P wf b.before b.runs b.waits);
        }

    pub listing_handed : length cs ≡ 2 + 14 * length (listing_lines (plan_of plan) r) → length (listing_lines (plan_of plan) r) ≤ 4096 → Listing plan cs r
    listing_handed long few =
        let d = listing_derives long few in
        record {
          lines_are = ap (λ (n : ℕ). map (head_line cs) (from_to 0 n)) count ∙ list_by (head_line cs) (listing_lines (plan_of plan) r) 0 written.heads;
          replayed = derives_replay plan cs d;
          derives = d;
          derivation = listing_derivation plan cs d;
          self_wait = listing_self_wait plan cs d;
          no_panel = listing_no_panel plan cs d;
        }
