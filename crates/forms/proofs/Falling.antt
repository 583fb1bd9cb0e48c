-- Which refusals fall on a byte, by the state that is reached there: none where it is within depth and count; 23 where one form too many is open;
-- 24 where one gate too many is closed.
-- Assumes nothing.
use Prim.Native.Nat.{ℕ, suc, ◌≤◌, ◌<◌}
use mathlib.Core.Path.{◌≡◌, sym, ap, subst, ◌∙◌}
use mathlib.Core.List.{List, [], ◌∷◌, ◌++◌}
use mathlib.Core.Logic.{◌⊎◌, inl, inr}
use mathlib.Core.Option.{some, none}
use native.Mathlib.Omega.{arith}
use lib.ListN.{length, get_or, take, drop, take-append-drop, length-append}
use lib.Seq.{take-suc, take_at, take-take, get_or-append_seam}
use Rattle.circuit.specs.Accept.{most_gates}
use Rattle.forms.specs.Form.{opening, closing}
use Rattle.forms.specs.Refusals.{deepest, up_to, OpensDeep, ClosesMany, Lives, Breaks, Falls, breaks, opens_deep, closes_many}
use Rattle.forms.specs.Machine.{State, origin, open_in, closed_in, step, steps}
use Rattle.forms.proofs.Choices.{some_is, none_no}
use Rattle.forms.proofs.Stepping.{steps_one, steps_split, steps_prefix, steps_then}
use Rattle.forms.proofs.Living.{lives_steps, steps_lives}
use Rattle.forms.proofs.Moves.{step_move}
use Rattle.forms.proofs.Counting.{hit_elim, move_opens, move_closes, opened_are, closed_are}
use Rattle.forms.proofs.Reaching.{Calm, origin_calm, Runs, runs_steps, runs_calm, runs_prefix, Stop}

module _ (top : ℕ) where
  -- a byte that lives ---------------------------------------------------------------------------------------------------

  -- the step over the last byte
  last_step : (u : List ℕ) (b : ℕ) (v : State) → steps top origin (u ++ (b ∷ [])) ≡ some v →
      (s : State) × (steps top origin u ≡ some s) × (step top s b ≡ some v)
  unfolding steps
  last_step u b v e =
      let m = steps_prefix top u (b ∷ []) origin v e in
      let o = steps_split top m.middle b [] v m.beyond in
      (m.middle, m.before, o.one ∙ o.others)

  module _ (text : List ℕ) (i : ℕ) (v : State) (reached : steps top origin (up_to i text) ≡ some v) where
    pub reached_breaks_not : i < length text → Breaks top text i → ⊥
    reached_breaks_not h B = go B.ends
      where
        go : (i ≡ length text) ⊎ (Lives top (up_to i text) → ⊥) → ⊥
        go (inl e) = omega arith
        go (inr d) = d (steps_lives top (up_to i text) v reached)

    pub reached_deep : OpensDeep text i → open_in v ≡ suc deepest
    reached_deep D = omega (arith, D.deep, opened_are top (up_to i text) v reached)

    pub reached_many : ClosesMany text i → closed_in v ≡ suc most_gates
    reached_many D =
        let seam : up_to i text ≡ take i text ++ (closing ∷ []) =
        take-suc text i 0 D.inside ∙ ap (λ (b : ℕ). take i text ++ (b ∷ [])) D.closes in
        let l = last_step (take i text) closing v (ap (steps top origin) (sym seam) ∙ reached) in
        omega (arith, rw seam at D.many, closed_are top (take i text) l.0 v l.1 l.2)

    pub calm_none : Calm v → i < length text → (m : ℕ) → Falls top text m i → ⊥
    calm_none c h m (breaks B) = reached_breaks_not h B
    calm_none c h m (opens_deep D) = omega (arith, c.shallow, reached_deep D)
    calm_none c h m (closes_many D) = omega (arith, c.few, reached_many D)

  -- none falls before the end of what is within the bounds
  pub runs_none : (text : List ℕ) (n : ℕ) {t : State} → Runs top origin (take n text) t → n ≤ length text →
      (m i : ℕ) → i < n → Falls top text m i → ⊥
  runs_none text n {t} r h m i l =
      let shorter : up_to i text ++ drop (suc i) (take n text) ≡ take n text =
      ap (λ (u : List ℕ). u ++ drop (suc i) (take n text)) (sym (take-take (suc i) n text l)) ∙ take-append-drop (suc i) (take n text) in
      let p = runs_prefix top (up_to i text) (drop (suc i) (take n text)) (subst (λ (u : List ℕ). Runs top origin u t) (sym shorter) r) in
      calm_none text i p.0 (runs_steps top p.1) (runs_calm top p.1 origin_calm) (omega arith) m

  -- a byte that stops the reading ---------------------------------------------------------------------------------------

  module _ (text : List ℕ) (i : ℕ) (p : Stop top origin text 0 i) where
    at_stop : length p.earlier ≡ i
    at_stop = omega (arith, p.index)

    pub stop_taken : take i text ≡ p.earlier
    stop_taken = ap (take i) p.cut ∙ take_at p.earlier (p.byte ∷ p.later) i at_stop

    pub stop_inside : i < length text
    stop_inside = omega (arith, at_stop, ap length p.cut, length-append p.earlier (p.byte ∷ p.later))

    stop_byte : get_or text i 0 ≡ p.byte
    stop_byte =
        ap (λ (l : List ℕ). get_or l i 0) p.cut
        ∙ (ap (λ (k : ℕ). get_or (p.earlier ++ (p.byte ∷ p.later)) k 0) (sym at_stop) ∙ get_or-append_seam p.earlier p.byte p.later 0)

    pub stop_seam : up_to i text ≡ p.earlier ++ (p.byte ∷ [])
    stop_seam =
        take-suc text i 0 stop_inside
        ∙ (ap (λ (u : List ℕ). u ++ (get_or text i 0 ∷ [])) stop_taken ∙ ap (λ (b : ℕ). p.earlier ++ (b ∷ [])) stop_byte)

    pub stop_runs : Runs top origin (take i text) p.state
    stop_runs = subst (λ (u : List ℕ). Runs top origin u p.state) (sym stop_taken) p.runs

    pub stop_calm : Calm p.state
    stop_calm = runs_calm top p.runs origin_calm

    pub stop_reaches : (v : State) → step top p.state p.byte ≡ some v → steps top origin (up_to i text) ≡ some v
    stop_reaches v e =
        ap (steps top origin) stop_seam
        ∙ steps_then top p.earlier (p.byte ∷ []) origin (runs_steps top p.runs) (steps_one top p.state p.byte e)

    pub stop_dies : step top p.state p.byte ≡ none → Lives top (up_to i text) → ⊥
    stop_dies e L =
        let r = lives_steps top (up_to i text) L in
        let l = last_step p.earlier p.byte r.0 (ap (steps top origin) (sym stop_seam) ∙ r.1) in
        none_no (sym e ∙ (ap (λ (s : State). step top s p.byte) (some_is (sym (runs_steps top p.runs) ∙ l.1)) ∙ l.2))

    -- one form is opened at a time, by its bracket
    pub stop_deep : (v : State) → step top p.state p.byte ≡ some v → deepest < open_in v → OpensDeep text i
    stop_deep v e h =
        let m = move_opens (step_move top p.state p.byte v e) in
        let o = opened_are top (up_to i text) v (stop_reaches v e) in
        let c = stop_calm.shallow in
        hit_elim opening p.byte
        (λ b one. record { inside = stop_inside; opens = stop_byte ∙ b; deep = omega arith })
        (λ none. absurd (omega arith))

    -- one gate is closed at a time, by a bracket
    pub stop_many : (v : State) → step top p.state p.byte ≡ some v → most_gates < closed_in v → ClosesMany text i
    stop_many v e h =
        let m = (move_closes (step_move top p.state p.byte v e)).1 in
        let c = stop_calm.few in
        hit_elim closing p.byte
        (λ b one.
        let seam : up_to i text ≡ p.earlier ++ (closing ∷ []) = stop_seam ∙ ap (λ (x : ℕ). p.earlier ++ (x ∷ [])) b in
        let n = closed_are top p.earlier p.state v (runs_steps top p.runs) (ap (step top p.state) (sym b) ∙ e) in
        record { inside = stop_inside; closes = stop_byte ∙ b; many = rw seam (omega arith) })
        (λ none. absurd (omega arith))
