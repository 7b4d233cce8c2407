-- What replay accepts is just what derives (demand 2), and a listing that derives is a derivation that makes the first alarm wait for itself (demand 3); its plan has no panel.
use mathlib.Core.Path.{◌≡◌, refl, sym, ap, subst}
use mathlib.Core.Bool.{Bool, true, false, cond, not, ◌&&◌, ◌||◌}
use mathlib.Core.Logic.{inl, inr, ⊎_elim}
use mathlib.Core.List.{List, [], ◌∷◌, map, Memᴰ}
use Rattle.std.specs.Prelude.{Option, None, Some}
use Prim.Native.Nat.{ℕ, zero, suc, ◌+◌, ◌-◌, ◌*◌, ◌/◌, ◌%◌, ◌^◌, ◌≤◌, ◌<◌}
use native.Mathlib.Decide.{ℕ_discrete}
use native.Mathlib.Nat.{eq-or-lt_of_le, le_of_suc-le-suc}
use native.Mathlib.Omega.{arith}
use borrow.Author.Tests.{ltb-true, ltb-false, eqb-true, eqb-false}
use lib.Dec.{T as Is, ltb, leb, eqb, ltb→lt, lt→ltb, leb→le, le→leb, eqb→eq, eqb_refl}
use lib.Ieee.Fits.{and_l, and_r, and_i}
use lib.ListN.{length}
use Rattle.std.specs.Bool.{then_some}
use Rattle.plan.specs.Label.{plain}
use Rattle.plan.specs.Plan.{Plan}
use Rattle.plan.specs.Layout.{plan_of}
use Rattle.plan.specs.Refusal.{refusal}
use Rattle.plan.proofs.Ranges.{accepted_well_formed}
use Rattle.plan.proofs.Truth.{is_true, if_asked, asked}
use Rattle.rules.specs.declared.Line.{Line}
use Rattle.rules.specs.declared.Edge.TheVariants.{PlanEdge, HorizonEdge, UpperBound, LowerBound}
use Rattle.rules.specs.declared.Rule.{Rule}
use Rattle.rules.specs.declared.Rule.TheVariants.{Propagation, LowerCase, UpperCase, LetterRemoval, OwnLiteral, LiteralRemoval}
use Rattle.rules.specs.Lines.{from_to, starting_line}
use Rattle.rules_panel.specs.Strategies.{NoPanel}
use Rattle.rules_panel.proofs.Broken.{no_panel}
use Rattle.rules_apply.specs.Applying.{gives_line_of}
use Rattle.rules_apply.proofs.SameLines.{gives_facts, facts_give}
use Rattle.rules.specs.Derivations.{InPlan, Parent, Given, Follows, Derivation, SelfWaitBy}
use Rattle.rules.specs.Rules.{uses_second}
use Rattle.replay.specs.Listings.{line_count, head_line, head_rule, row_of, first_parent, second_parent, lines_in, bound_of, bound_rule, edge_rule, rule_of, parent_line}
use Rattle.replay.specs.Replaying.{laid_out, in_range, parents_known, follows, judge_rule, judge_line, or_else, judge_lines, judge_last, judge_listing, replay}
use Rattle.replay.specs.Derives.{LineDerives, ListingDerives}

-- ---- tests and the first refusal
equal : (m n : ℕ) → m ≡ n → Is (eqb m n)
equal m n e = rw e (eqb_refl n)

unused : (u b : Bool) → Is (u || b) → (Is u → ⊥) → Is b
unused true b t h = absurd (h tt)
unused false b t h = t

if_unused : (u b : Bool) → ((Is u → ⊥) → Is b) → Is (u || b)
if_unused true b f = tt
if_unused false b f = f (λ t. t)

passes : (b : Bool) (k n : ℕ) → cond (not b) (suc k) n ≡ 0 → Is b × (n ≡ 0)
passes true k n e = (tt, e)
passes false k n e = absurd (omega arith)

holds : (b : Bool) (k : ℕ) → cond b 0 (suc k) ≡ 0 → Is b
holds true k e = tt
holds false k e = absurd (omega arith)

or_else_lem : (v w : ℕ) → or_else v w ≡ 0 → (v ≡ 0) × (w ≡ 0)
or_else_lem v w e = go (eqb v 0) refl e
  where
    go : (b : Bool) → eqb v 0 ≡ b → ◌≡◌ {A = ℕ} (cond b w v) 0 → (v ≡ 0) × (w ≡ 0)
    go true q e = (eqb-true v 0 q, e)
    go false q e = absurd (eqb-false v 0 q e)

-- ---- a rule that a line names is one of the plan's
never : {r : Rule} {Q : Type 0} → ◌≡◌ {A = Option Rule} None (Some r) → Q
never e = absurd (let z : ◌≡◌ {A = ℕ} 0 1 = cc in omega arith)

module _ (P : Plan) where
  named : (b : Bool) (q r : Rule) → (Is b → InPlan P q) → then_some b q ≡ Some r → InPlan P r
  named true q r f e = subst (InPlan P) (let z : q ≡ r = cc in z) (f tt)
  named false q r f e = never e

  bound_in : (b : ℕ) (even : Bool) → b / 2 < P.links → InPlan P (Propagation (cond even (UpperBound (b / 2)) (LowerBound (b / 2))))
  bound_in b true h = h
  bound_in b false h = h

  bound_named : (b : ℕ) (r : Rule) → bound_rule P b ≡ Some r → InPlan P r
  bound_named b r = named (ltb (b / 2) P.links) (Propagation (bound_of b)) r (λ t. bound_in b (eqb (b % 2) 0) (ltb→lt (b / 2) P.links t))

  horizon_in : (i : ℕ) → ltb i P.edges ≡ false → eqb i P.edges ≡ false → ltb i (P.edges + P.points) ≡ true → InPlan P (Propagation (HorizonEdge (i - P.edges)))
  horizon_in i f g t = let h = ltb-false i P.edges f in (omega (arith, eqb-false i P.edges g), omega (arith, ltb-true i (P.edges + P.points) t))

  -- of two, by a test
  either_named : (b : Bool) (o p : Option Rule) (r : Rule) → cond b o p ≡ Some r → (b ≡ true → o ≡ Some r → InPlan P r) → (b ≡ false → p ≡ Some r → InPlan P r) → InPlan P r
  either_named true o p r e f g = f refl e
  either_named false o p r e f g = g refl e

  edge_named : (i : ℕ) (r : Rule) → edge_rule P i ≡ Some r → InPlan P r
  edge_named i r e =
      either_named (ltb i P.edges) _ _ r e (λ t. named true (Propagation (PlanEdge i)) r (λ u. ltb-true i P.edges t))
      (λ f d. either_named (eqb i P.edges) _ _ r d (λ t. never)
      (λ g c. either_named (ltb i (P.edges + P.points)) _ _ r c (λ t. named true (Propagation (HorizonEdge (i - P.edges))) r (λ u. horizon_in i f g t))
      (λ h. bound_named _ r)))

  pub in_plan : (rule i : ℕ) (r : Rule) → rule_of P rule i ≡ Some r → InPlan P r
  in_plan zero i r e = never e
  in_plan (suc zero) i r e = edge_named i r e
  in_plan (suc (suc zero)) i r e = named (ltb i P.links) (LowerCase i) r (ltb→lt i P.links) e
  in_plan (suc (suc (suc zero))) i r e = named (ltb i P.links) (UpperCase i) r (ltb→lt i P.links) e
  in_plan (suc (suc (suc (suc zero)))) i r e = named (ltb i P.links) (LetterRemoval i) r (ltb→lt i P.links) e
  in_plan (suc (suc (suc (suc (suc zero))))) i r e = named (ltb i P.propositions) (OwnLiteral i) r (ltb→lt i P.propositions) e
  in_plan (suc (suc (suc (suc (suc (suc zero)))))) i r e = named (ltb i P.propositions) (LiteralRemoval i) r (ltb→lt i P.propositions) e
  in_plan (suc (suc (suc (suc (suc (suc (suc n))))))) i r e = never e

-- ---- a line
in_range_by : (P : Plan) (l : Line) → l.point < P.points → l.set < 2 ^ P.links → l.label < 4 ^ P.propositions → Is (in_range P l)
unfolding in_range
in_range_by P l a b c =
    let x : Is (ltb l.point P.points) = lt→ltb _ _ a in
    let y : Is (ltb l.set (2 ^ P.links)) = lt→ltb _ _ b in
    let z : Is (ltb l.label (4 ^ P.propositions)) = lt→ltb _ _ c in
    search and_i

module _ (P : Plan) (bs : List ℕ) (i : ℕ) where
  known_by : (d : LineDerives P bs i) → Is (parents_known P bs i d.rule)
  unfolding parents_known
  known_by d =
      let x : Is (ltb (first_parent bs i) (P.points + i)) = lt→ltb _ _ d.first_known in
      let y : Is (not (uses_second d.rule) || ltb (second_parent bs i) (P.points + i)) = asked (uses_second d.rule) (ltb (second_parent bs i) (P.points + i)) (λ u. lt→ltb _ _ (d.second_known u)) in
      search and_i

  follow_by : (d : LineDerives P bs i) → Is (follows P bs i d.rule)
  unfolding follows
  follow_by d =
      let l : Line = parent_line P bs (first_parent bs i) in
      let m : Line = parent_line P bs (second_parent bs i) in
      let x : Is (uses_second d.rule || eqb (second_parent bs i) 0) = if_unused (uses_second d.rule) (eqb (second_parent bs i) 0) (λ u. equal _ _ (d.second_unused u)) in
      and_i (uses_second d.rule || eqb (second_parent bs i) 0) (gives_line_of P d.rule l m (head_line bs i)) x (facts_give P d.rule l m (head_line bs i) d.fire d.gave)

  rule_derives : (o : Option Rule) → rule_of P (head_rule bs i) (row_of bs i) ≡ o → Is (in_range P (head_line bs i)) → judge_rule P bs i o ≡ 0 → LineDerives P bs i
  unfolding in_range parents_known follows
  rule_derives None q t e = absurd (omega arith)
  rule_derives (Some r) q t e =
      let x : Is (parents_known P bs i r) × (◌≡◌ {A = ℕ} (cond (not (follows P bs i r)) 10 0) 0) = passes (parents_known P bs i r) 8 _ e in
      let y : Is (follows P bs i r) × (◌≡◌ {A = ℕ} 0 0) = passes (follows P bs i r) 9 0 x.1 in
      let k : Is (parents_known P bs i r) = x.0 in
      let f : Is (follows P bs i r) = y.0 in
      let g = gives_facts P r (parent_line P bs (first_parent bs i)) (parent_line P bs (second_parent bs i)) (head_line bs i) (search and_r) in
      record {
        point_in = ltb→lt (head_line bs i).point P.points (search (and_l, and_r));
        set_in = ltb→lt (head_line bs i).set (2 ^ P.links) (search (and_l, and_r));
        label_in = ltb→lt (head_line bs i).label (4 ^ P.propositions) (search (and_l, and_r));
        rule = r;
        named = q;
        first_known = ltb→lt (first_parent bs i) (P.points + i) (search and_l);
        second_known = λ u. ltb→lt (second_parent bs i) (P.points + i) (if_asked (uses_second r) (ltb (second_parent bs i) (P.points + i)) (search (and_l, and_r)) u);
        second_unused = λ u. eqb→eq (second_parent bs i) 0 (unused (uses_second r) (eqb (second_parent bs i) 0) (search (and_l, and_r)) u);
        fire = g.0;
        gave = g.1;
      }

  pub line_derives : judge_line P bs i ≡ 0 → LineDerives P bs i
  unfolding judge_line
  line_derives e =
      let t = passes (in_range P (head_line bs i)) 8 _ e in
      rule_derives (rule_of P (head_rule bs i) (row_of bs i)) refl t.0 t.1

  pub derives_line : LineDerives P bs i → judge_line P bs i ≡ 0
  unfolding judge_line
  derives_line d =
      rw (
        is_true (in_range P (head_line bs i)) (in_range_by P (head_line bs i) d.point_in d.set_in d.label_in),
        d.named,
        is_true (parents_known P bs i d.rule) (known_by d),
        is_true (follows P bs i d.rule) (follow_by d),
      )

-- ---- all lines
module _ (P : Plan) (bs : List ℕ) where
  pub lines_judged : (m i : ℕ) → judge_lines P bs m ≡ 0 → i < m → judge_line P bs i ≡ 0
  unfolding judge_lines
  lines_judged zero i e h = absurd (omega arith)
  lines_judged (suc m) i e h =
      let t = or_else_lem (judge_lines P bs m) (judge_line P bs m) e in
      ⊎_elim (λ (q : i ≡ m). rw q t.1) (λ (k : i < m). lines_judged m i t.0 k) (eq-or-lt_of_le (le_of_suc-le-suc h))

  pub judged_lines : (m : ℕ) → ((i : ℕ) → i < m → judge_line P bs i ≡ 0) → judge_lines P bs m ≡ 0
  unfolding judge_lines
  judged_lines zero f = refl
  judged_lines (suc m) f = rw (judged_lines m (λ i h. f i (omega arith))) (f m (omega arith))

-- ---- demand 2
module _ (plan bs : List ℕ) where
  pub replay_derives : replay plan bs ≡ 0 → ListingDerives plan bs
  unfolding replay judge_listing judge_last laid_out
  replay_derives e =
      let P : Plan = plan_of plan in
      let l : Line = head_line bs (line_count bs - 1) in
      let a = or_else_lem (refusal plan) (or_else (cond (laid_out bs) 0 8) (judge_listing P bs)) e in
      let b = or_else_lem (cond (laid_out bs) 0 8) (judge_listing P bs) a.1 in
      let c = or_else_lem (judge_lines P bs (line_count bs)) (judge_last P l) b.1 in
      let t : Is (laid_out bs) = holds (laid_out bs) 7 b.0 in
      let u : Is (eqb l.point 0 && plain P.propositions l.label) = holds (eqb l.point 0 && plain P.propositions l.label) 10 c.1 in
      record {
        accepted = a.0;
        some_lines = (leb→le 1 (line_count bs) (search (and_l, and_r)), leb→le (line_count bs) 4096 (search (and_l, and_r)));
        long = eqb→eq (length bs) (2 + 14 * line_count bs) (search (and_l, and_r));
        lines_derive = λ i h. line_derives P bs i (lines_judged P bs (line_count bs) i c.0 h);
        last_first_alarm = eqb→eq l.point 0 (search and_l);
        last_plain = search (and_l, and_r);
      }

  laid_by : ListingDerives plan bs → Is (laid_out bs)
  unfolding laid_out
  laid_by d =
      let two : 2 ≤ length bs = omega (arith, d.long) in
      let x : Is (leb 2 (length bs)) = le→leb _ _ two in
      let y : Is (leb 1 (line_count bs)) = le→leb _ _ d.some_lines.0 in
      let z : Is (leb (line_count bs) 4096) = le→leb _ _ d.some_lines.1 in
      let w : Is (eqb (length bs) (2 + 14 * line_count bs)) = equal _ _ d.long in
      search and_i

  last_by : ListingDerives plan bs → judge_last (plan_of plan) (head_line bs (line_count bs - 1)) ≡ 0
  unfolding judge_last
  last_by d = rw (d.last_first_alarm, is_true (plain (plan_of plan).propositions (head_line bs (line_count bs - 1)).label) d.last_plain)

  pub derives_replay : ListingDerives plan bs → replay plan bs ≡ 0
  unfolding replay judge_listing
  derives_replay d = rw (d.accepted, is_true (laid_out bs) (laid_by d), judged_lines (plan_of plan) bs (line_count bs) (λ i h. derives_line (plan_of plan) bs i (d.lines_derive i h)), last_by d)

-- ---- demand 3
module _ (P : Plan) (bs : List ℕ) (some_point : 0 < P.points) where
  -- a parent's number below n + i names a starting line or an earlier line
  parent : (earlier : List Line) (i q : ℕ) → ((j : ℕ) → j < i → Memᴰ (head_line bs j) earlier) → q < P.points + i → Parent P (λ l. Memᴰ l earlier) (parent_line P bs q)
  parent earlier i q old h = go (ltb q P.points) refl
    where
      go : (b : Bool) → ltb q P.points ≡ b → Parent P (λ l. Memᴰ l earlier) (cond b (starting_line q) (head_line bs (q - P.points)))
      go true e = inl (record { inside = ltb-true q P.points e; is_starting = refl })
      go false e = inr (old (q - P.points) (omega (arith, ltb-false q P.points e)))

  second_number_lem : (i : ℕ) (u : Bool) → (Is u → second_parent bs i < P.points + i) → ((Is u → ⊥) → second_parent bs i ≡ 0) → second_parent bs i < P.points + i
  second_number_lem i true f g = f tt
  second_number_lem i false f g = omega (arith, g (λ t. t))

  line_given : (earlier : List Line) (i : ℕ) → ((j : ℕ) → j < i → Memᴰ (head_line bs j) earlier) → LineDerives P bs i → Given P (λ l. Memᴰ l earlier) (head_line bs i)
  line_given earlier i old d = record {
    rule = d.rule;
    row = in_plan P (head_rule bs i) (row_of bs i) d.rule d.named;
    first = parent_line P bs (first_parent bs i);
    second = parent_line P bs (second_parent bs i);
    first_is = parent earlier i (first_parent bs i) old d.first_known;
    second_is = parent earlier i (second_parent bs i) old (second_number_lem i (uses_second d.rule) d.second_known d.second_unused);
    fire = d.fire;
    gave = d.gave;
  }

  one_more : (i : ℕ) (earlier : List Line) → ((j : ℕ) → j < i → Memᴰ (head_line bs j) earlier) → (j : ℕ) → j < suc i → Memᴰ (head_line bs j) (head_line bs i ∷ earlier)
  one_more i earlier old j h = pick (ℕ_discrete j i)
    where
      pick : Dec (j ≡ i) → Memᴰ (head_line bs j) (head_line bs i ∷ earlier)
      pick (yes q) = Memᴰ.head (ap (head_line bs) q)
      pick (no q) = Memᴰ.tail (old j (omega arith))

  -- m lines from line i on
  lines_follow : (m i : ℕ) (earlier : List Line) → ((j : ℕ) → j < i → Memᴰ (head_line bs j) earlier) → ((j : ℕ) → j < i + m → LineDerives P bs j) → Follows P earlier (map (head_line bs) (from_to i m))
  lines_follow zero i earlier old f = tt
  lines_follow (suc m) i earlier old f = (line_given earlier i old (f i (omega arith)), lines_follow m (suc i) (head_line bs i ∷ earlier) (one_more i earlier old) (λ j h. f j (omega arith)))

  -- line j is among them
  among : (m i j : ℕ) → i ≤ j → j < i + m → Memᴰ (head_line bs j) (map (head_line bs) (from_to i m))
  among zero i j h k = absurd (omega arith)
  among (suc m) i j h k = ⊎_elim (λ (q : i ≡ j). Memᴰ.head (ap (head_line bs) (sym q))) (λ (l : i < j). Memᴰ.tail (among m (suc i) j l (omega arith))) (eq-or-lt_of_le h)

module _ (plan bs : List ℕ) (d : ListingDerives plan bs) where
  some_point : 0 < (plan_of plan).points
  some_point = omega (arith, (accepted_well_formed plan d.accepted).two)

  pub listing_derivation : Derivation (plan_of plan) (lines_in bs)
  listing_derivation = lines_follow (plan_of plan) bs some_point (line_count bs) 0 [] (λ j h. absurd (omega arith)) (λ j h. d.lines_derive j (omega arith))

  pub listing_self_wait : SelfWaitBy (plan_of plan) (lines_in bs)
  listing_self_wait = record {
    line = head_line bs (line_count bs - 1);
    among = among (plan_of plan) bs some_point (line_count bs) 0 (line_count bs - 1) (omega arith) (omega (arith, d.some_lines.0));
    first_alarm = d.last_first_alarm;
    is_plain = d.last_plain;
  }

  pub listing_no_panel : NoPanel (plan_of plan)
  listing_no_panel = no_panel (plan_of plan) (accepted_well_formed plan d.accepted) (record { lines = lines_in bs; derives = listing_derivation; by = listing_self_wait })
