-- The reading is just what the definitions say: it refuses a text exactly where they do, and accepts exactly the prints of sheets within depth and
-- count. A reading is taken apart into what it comes to; the refusal that decides is the only one, and so the other way follows.
-- Assumes nothing.
use Prim.Native.Nat.{ℕ, suc, ◌≤◌, ◌<◌}
use mathlib.Core.Path.{◌≡◌, refl, sym, ap, subst, ◌∙◌}
use mathlib.Core.List.{List, [], ◌∷◌, ◌++◌, append_assoc}
use mathlib.Core.Logic.{◌⊎◌, inl, inr, ◌↔◌}
use mathlib.Core.Option.{some}
use native.Mathlib.Omega.{arith}
use lib.ListN.{length, take, drop, take-append-drop}
use lib.Seq.{take_all, take-length, take-take}
use lib.Dec.{ltb}
use borrow.Author.Tests.{ltb-true, ltb-false}
use Rattle.circuit.proofs.Tests.{by_cases}
use Rattle.circuit.specs.Accept.{most_gates}
use Rattle.forms.specs.Form.{Form, print_rows, depth_of_all, gates_in_all, Sheet}
use Rattle.forms.specs.Refusals.{deepest, up_to, Lives, IsSheet, Breaks, Falls, breaks, opens_deep, closes_many, Decides}
use Rattle.forms.specs.Machine.{start, State, at, origin, is_nil, closed_frames, closed_here, closed_in, steps, reading, ended, Reading, Rows, No}
use Rattle.forms.proofs.Choices.{some_is}
use Rattle.forms.proofs.Stepping.{steps_split}
use Rattle.forms.proofs.Living.{sheet_steps, steps_sheet, steps_lives}
use Rattle.forms.proofs.Moves.{step_move}
use Rattle.forms.proofs.Counting.{move_closes}
use Rattle.forms.proofs.Depths.{depth_here, FramesWithin, Within, within_open, move_within, move_was_within}
use Rattle.forms.proofs.Reaching.{
  origin_calm,
  Runs,
  done,
  onward,
  runs_steps,
  runs_calm,
  runs_read,
  Outcome,
  whole,
  unended,
  dies,
  deepens,
  exceeds,
  outcome,
}
use Rattle.forms.proofs.Falling.{
  reached_breaks_not,
  reached_deep,
  runs_none,
  stop_inside,
  stop_runs,
  stop_reaches,
  stop_dies,
  stop_deep,
  stop_many,
}

module _ (top : ℕ) where
  -- a sheet within the bounds -------------------------------------------------------------------------------------------

  -- the text is the print of a sheet of these rows, which is within depth and count
  record Accepts (text : List ℕ) (rows : List Form) : Type 0 where
    pub sheet : Sheet top rows
    pub printed : text ≡ print_rows rows
    pub shallow : depth_of_all rows ≤ deepest
    pub few : gates_in_all rows ≤ most_gates

  runs_within : {s t : State} {text : List ℕ} → Runs top s text t → Within deepest s → Within deepest t
  runs_within done w = w
  runs_within (onward {s = s} {u = u} {b = b} e c r) w = runs_within r (move_within deepest (step_move top s b u e) c.shallow w)

  -- what ends within the bounds was within them
  record Ran (s : State) (text : List ℕ) (t : State) : Type 0 where
    pub runs : Runs top s text t
    pub within : Within deepest s
    pub few : closed_in s ≤ most_gates

  steps_ran : (s : State) (text : List ℕ) (t : State) → steps top s text ≡ some t → Within deepest t → closed_in t ≤ most_gates → Ran s text t
  unfolding steps
  steps_ran s [] t e w c =
      record {
        runs = subst (Runs top s []) (some_is e) done;
        within = subst (Within deepest) (sym (some_is e)) w;
        few = subst (λ (x : State). closed_in x ≤ most_gates) (sym (some_is e)) c;
      }
  steps_ran s (b ∷ bs) t e w c =
      let o = steps_split top s b bs t e in
      let r = steps_ran o.next bs t o.others w c in
      let m = step_move top s b o.next o.one in
      record {
        runs = onward o.one (record { shallow = within_open deepest o.next r.within; few = r.few }) r.runs;
        within = move_was_within deepest m r.within;
        few = omega (arith, (move_closes m).0, r.few);
      }

  ran_accepts : (text : List ℕ) (rows : List Form) → Runs top origin text (at rows [] start) → Accepts text rows
  unfolding closed_in closed_here closed_frames depth_here FramesWithin depth_of_all
  ran_accepts text rows r =
      let S = steps_sheet top text rows (runs_steps top r) in
      record {
        sheet = S.0;
        printed = S.1;
        shallow = (runs_within r (record { rows_within = omega arith; frames_within = tt; hole_within = omega arith })).rows_within;
        few = omega (arith, (runs_calm top r origin_calm).few);
      }

  accepts_runs : (text : List ℕ) (rows : List Form) → Accepts text rows → Runs top origin text (at rows [] start)
  unfolding closed_in closed_here closed_frames depth_here FramesWithin
  accepts_runs text rows A =
      (steps_ran origin text (at rows [] start) (sheet_steps top text rows A.sheet A.printed)
      (record { rows_within = A.shallow; frames_within = tt; hole_within = omega arith })
      (omega (arith, A.few))).runs

  accepts_none : (text : List ℕ) (rows : List Form) → Accepts text rows → (m i : ℕ) → Falls top text m i → ⊥
  unfolding IsSheet
  accepts_none text rows A m i F = go F
    where
      before_end : i < length text → ⊥
      before_end h =
          let all = subst (λ (u : List ℕ). Runs top origin u (at rows [] start)) (sym (take-length text)) (accepts_runs text rows A) in
          runs_none top text (length text) all (omega arith) m i h F

      go : {m : ℕ} → Falls top text m i → ⊥
      go (breaks B) = B.broken (rows, A.sheet, A.printed)
      go (opens_deep D) = before_end D.inside
      go (closes_many D) = before_end D.inside

  -- what a reading comes to, by the definitions -------------------------------------------------------------------------

  abbrev Told : List ℕ → Reading → Type 0
  Told text (Rows rows) = Accepts text rows
  Told text (No m i) = Decides top text m i

  sheet_lives : (text : List ℕ) (n : ℕ) → IsSheet top text → Lives top (take n text)
  unfolding IsSheet Lives
  sheet_lives text n S = (S.0, S.1, (drop n text, take-append-drop n text ∙ S.2))

  least : {text : List ℕ} {m i : ℕ} → Falls top text m i → 22 ≤ m
  least (breaks B) = omega arith
  least (opens_deep D) = omega arith
  least (closes_many D) = omega arith

  -- what falls at the end of what is within the bounds is the earliest
  decides : (text : List ℕ) (m j : ℕ) {t : State} → j ≤ length text → Runs top origin (take j text) t → Falls top text m j →
      ((k : ℕ) → Falls top text k j → m ≤ k) → Decides top text m j
  decides text m j h r F f =
      record {
        falls = F;
        earliest = λ k i G. by_cases (ltb i j) (λ e. absurd (runs_none top text j r h k i (ltb-true i j e) G)) (λ e. ltb-false i j e);
        first = f;
      }

  told : (text : List ℕ) {r : Reading} → Outcome top origin text 0 r → Told text r
  unfolding IsSheet
  told text (whole {rows = rows} r) = ran_accepts text rows r
  told text (unended {t = t} j e r n) =
      let all : take j text ≡ text = take_all j text (omega (arith, e)) in
      let r' : Runs top origin (take j text) t = subst (λ (u : List ℕ). Runs top origin u t) (sym all) r in
      decides text 22 j (omega (arith, e)) r'
      (breaks (record {
        lives = steps_lives top (take j text) t (runs_steps top r');
        ends = inl (omega (arith, e));
        broken = λ S. n S.0 (some_is (sym (runs_steps top r) ∙ sheet_steps top text S.0 S.1 S.2));
      }))
      (λ k F. least F)
  told text (dies {j = j} p e) =
      decides text 22 j (omega (arith, stop_inside top text j p)) (stop_runs top text j p)
      (breaks (record {
        lives = steps_lives top (take j text) p.state (runs_steps top (stop_runs top text j p));
        ends = inr (stop_dies top text j p e);
        broken = λ S. stop_dies top text j p e (sheet_lives text (suc j) S);
      }))
      (λ k F. least F)
  told text (deepens {j = j} {v = v} p e h) =
      decides text 23 j (omega (arith, stop_inside top text j p)) (stop_runs top text j p) (opens_deep (stop_deep top text j p v e h)) (λ k F. go F)
    where
      go : {k : ℕ} → Falls top text k j → 23 ≤ k
      go (breaks B) = absurd (reached_breaks_not top text j v (stop_reaches top text j p v e) (stop_inside top text j p) B)
      go (opens_deep D) = omega arith
      go (closes_many D) = omega arith
  told text (exceeds {j = j} {v = v} p e o h) =
      decides text 24 j (omega (arith, stop_inside top text j p)) (stop_runs top text j p) (closes_many (stop_many top text j p v e h)) (λ k F. go F)
    where
      go : {k : ℕ} → Falls top text k j → 24 ≤ k
      go (breaks B) = absurd (reached_breaks_not top text j v (stop_reaches top text j p v e) (stop_inside top text j p) B)
      go (opens_deep D) = absurd (omega (arith, o, reached_deep top text j v (stop_reaches top text j p v e) D))
      go (closes_many D) = omega arith

  reading_told : (text : List ℕ) → Told text (reading top text)
  unfolding reading
  reading_told text = told text (outcome top origin text 0)

  -- the theorems --------------------------------------------------------------------------------------------------------

  -- "The earliest byte decides and is the index, 22 first where two fall on one byte"
  pub refused_exactly : (text : List ℕ) (m i : ℕ) → (reading top text ≡ No m i) ↔ Decides top text m i
  refused_exactly text m i = (λ e. subst (Told text) e (reading_told text), λ D. go (reading top text) (reading_told text) D)
    where
      go : (r : Reading) → Told text r → Decides top text m i → r ≡ No m i
      go (Rows rows) A D = absurd (accepts_none text rows A m i D.falls)
      go (No k j) E D =
          let same : j ≡ i = omega (arith, E.earliest m i D.falls, D.earliest k j E.falls) in
          let number : k ≡ m =
          omega (arith, E.first m (subst (Falls top text m) (sym same) D.falls), D.first k (subst (Falls top text k) same E.falls)) in
          rw (same, number)

  -- "Each sheet line is one bracketed form ended by a line feed .. at most 16 deep .. the bracket closing the 257th circuit line is 24": the rows are
  -- read exactly of the text that they print to, if they are a sheet within depth and count. So such a sheet is refused by none of 22 to 24
  pub accepted_exactly : (text : List ℕ) (rows : List Form) → (reading top text ≡ Rows rows)
      ↔ (Sheet top rows × (text ≡ print_rows rows) × (depth_of_all rows ≤ deepest) × (gates_in_all rows ≤ most_gates))
  accepted_exactly text rows = (to, from)
    where
      to : reading top text ≡ Rows rows → Sheet top rows × (text ≡ print_rows rows) × (depth_of_all rows ≤ deepest) × (gates_in_all rows ≤ most_gates)
      to e = let A = subst (Told text) e (reading_told text) in (A.sheet, A.printed, A.shallow, A.few)

      reads : Runs top origin text (at rows [] start) → reading top text ≡ Rows rows
      reads r = unfold reading ended is_nil in runs_read top 0 r

      from : Sheet top rows × (text ≡ print_rows rows) × (depth_of_all rows ≤ deepest) × (gates_in_all rows ≤ most_gates) → reading top text ≡ Rows rows
      from A = reads (accepts_runs text rows (record { sheet = A.0; printed = A.1; shallow = A.2; few = A.3 }))

  -- "Text that breaks the shape .. is 22 ..; a bracket opening depth 17 is 23; the bracket closing the 257th circuit line is 24"
  pub never_other : (text : List ℕ) (m i : ℕ) → reading top text ≡ No m i → (m ≡ 22) ⊎ ((m ≡ 23) ⊎ (m ≡ 24))
  never_other text m i e = go ((refused_exactly text m i).0 e).falls
    where
      go : {m : ℕ} → Falls top text m i → (m ≡ 22) ⊎ ((m ≡ 23) ⊎ (m ≡ 24))
      go (breaks B) = inl refl
      go (opens_deep D) = inr (inl refl)
      go (closes_many D) = inr (inr refl)

  falls_22 : {text : List ℕ} {m i : ℕ} → Falls top text m i → m ≡ 22 → Breaks top text i
  falls_22 (breaks B) e = B
  falls_22 (opens_deep D) e = absurd (omega arith)
  falls_22 (closes_many D) e = absurd (omega arith)

  lives_shorter : (text : List ℕ) (n k : ℕ) → n ≤ k → Lives top (take k text) → Lives top (take n text)
  unfolding Lives
  lives_shorter text n k h L =
      let seam : take n text ++ drop n (take k text) ≡ take k text =
      ap (λ (u : List ℕ). u ++ drop n (take k text)) (sym (take-take n k text h)) ∙ take-append-drop n (take k text) in
      let more = append_assoc (take n text) (drop n (take k text)) L.2.0 in
      (L.0, L.1, (drop n (take k text) ++ L.2.0, sym more ∙ (ap (λ (u : List ℕ). u ++ L.2.0) seam ∙ L.2.1)))

  -- "judged at the first byte after which no text could mend it": 22's index is the length of the longest beginning of the text that lives
  pub record Longest (text : List ℕ) (i : ℕ) : Type 0 where
    pub lives : Lives top (take i text)
    pub longest : (k : ℕ) → k ≤ length text → Lives top (take k text) → k ≤ i

  pub refused_22 : (text : List ℕ) (i : ℕ) → reading top text ≡ No 22 i → Longest text i
  refused_22 text i e = go (falls_22 ((refused_exactly text 22 i).0 e).falls refl)
    where
      go : Breaks top text i → Longest text i
      go B = record { lives = B.lives; longest = most B.ends }
        where
          most : (i ≡ length text) ⊎ (Lives top (up_to i text) → ⊥) → (k : ℕ) → k ≤ length text → Lives top (take k text) → k ≤ i
          most (inl q) k h L = omega arith
          most (inr d) k h L =
              by_cases (ltb i k) (λ l. absurd (d (lives_shorter text (suc i) k (ltb-true i k l) L))) (λ l. ltb-false i k l)
