-- The rounds of a block, turn by turn, with its schedule sixteen words ahead of them: what their loop keeps.
-- Assumes nothing.
use Rattle.std.proofs.Common.{◌≡◌, ℕ, ◌+◌, ◌-◌, ◌%◌, ◌<◌, ◌≤◌, List, ◌++◌, length, take, drop, sym, refl, ap, ◌∙◌, arith, length-append, length-drop, drop_of_length-le, length-take-le, take_all, take-take, drop-drop, take_at}
use Rattle.std.proofs.lemmas.List.{drop-take}
use Rattle.sha256.specs.Sha256.{K, extend, schedule, rounds}
use Rattle.sha256.proofs.Filling.{no_word, length_extend, extend_extend, take_schedule, length_schedule}
use Rattle.sha256.proofs.Turns.{rounds_split}

length_K : length K ≡ 64
unfolding K
length_K = refl

-- w has the first n words of the schedule of the block that w₀ begins with
pub record Ahead (w₀ w : List ℕ) (n : ℕ) : Type 0 where
  pub long : length w ≡ 64
  pub same : take n w ≡ take n (schedule (take 16 w₀))

-- the words of a turn are the schedule's
part_same : {w₀ w : List ℕ} {n : ℕ} (t : ℕ) → t + 8 ≤ n → Ahead w₀ w n → take 8 (drop t w) ≡ take 8 (drop t (schedule (take 16 w₀)))
part_same {w₀} {w} {n} t h a =
    let s : List ℕ = schedule (take 16 w₀) in
    sym (drop-take t 8 w) ∙ ap (drop t) (sym (take-take (t + 8) n w h) ∙ ap (take (t + 8)) a.same ∙ take-take (t + 8) n s h) ∙ drop-take t 8 s

-- the rounds from t on, from v, give what all rounds give from h
pub record Turning (w₀ h w v : List ℕ) (t : ℕ) : Type 0 where
  pub long : length w₀ ≡ 64
  pub within : t ≤ 64
  pub whole : t % 8 ≡ 0
  pub ahead : Ahead w₀ w (t + 16)
  pub rest : rounds K (schedule (take 16 w₀)) h ≡ rounds (drop t K) (drop t (schedule (take 16 w₀))) v

block_long : (w : List ℕ) → length w ≡ 64 → length (take 16 w) ≡ 16
block_long w l = length-take-le 16 w (omega arith)

pub turning_start : (w h : List ℕ) → length w ≡ 64 → Turning w h w h 0
turning_start w h l =
    record {
      long = l;
      within = omega arith;
      whole = refl;
      ahead = record { long = l; same = sym (take_schedule 0 (take 16 w) (block_long w l) (omega arith) ∙ no_word (take 16 w)) };
      rest = refl;
    }

-- after the last round w is the whole schedule, and before it from word 48 on
filled : {w₀ w : List ℕ} {n : ℕ} → length w₀ ≡ 64 → 64 ≤ n → Ahead w₀ w n → w ≡ schedule (take 16 w₀)
filled {w₀} {w} {n} l h a =
    let s : List ℕ = schedule (take 16 w₀) in
    sym (take_all n w (omega (arith, a.long))) ∙ a.same ∙ take_all n s (omega (arith, length_schedule (take 16 w₀) (block_long w₀ l)))

-- where the schedule is not yet whole, eight words more
pub ahead_extended : {w₀ h w v w' : List ℕ} {t : ℕ} → Turning w₀ h w v t → t < 48 → w' ≡ extend 8 (take (t + 16) w) ++ drop (t + 24) w
    → Ahead w₀ w' (t + 24)
ahead_extended {w₀} {h} {w} {v} {w'} {t} r lt e =
    let b : List ℕ = take 16 w₀ in
    let lb : length b ≡ 16 = block_long w₀ r.long in
    let small : t + 24 ≤ 64 = omega (arith, r.whole) in
    let more : extend 8 (take (t + 16) w) ≡ extend (t + 8) b =
    ap (extend 8) (r.ahead.same ∙ take_schedule t b lb (omega arith)) ∙ extend_extend t 8 b in
    let lm : length (extend 8 (take (t + 16) w)) ≡ t + 24 = ap length more ∙ omega (arith, length_extend (t + 8) b, lb) in
    let k : t + 8 + 16 ≡ t + 24 = omega arith in
    record {
      long = ap length e ∙ simp (length-append, lm, length-drop) (omega (arith, r.ahead.long));
      same =
          ap (take (t + 24)) e ∙ take_at _ _ (t + 24) lm ∙ more ∙ sym (take_schedule (t + 8) b lb (omega arith))
          ∙ ap (λ (j : ℕ). take j (schedule b)) k;
    }

-- where it is whole, it stays
pub ahead_still : {w₀ h w v w' : List ℕ} {t : ℕ} → Turning w₀ h w v t → 48 ≤ t → w' ≡ w → Ahead w₀ w' (t + 24)
ahead_still {w₀} {h} {w} {v} {w'} {t} r le e =
    record { long = ap length e ∙ r.ahead.long; same = ap (take (t + 24)) (e ∙ filled r.long (omega arith) r.ahead) }

pub turning_again : {w₀ h w w' k v v' : List ℕ} {t t' : ℕ} → Turning w₀ h w v t → t < 64 → t' ≡ t + 8 → k ≡ K → Ahead w₀ w' (t + 24)
    → v' ≡ rounds (take (t + 8 - t) (drop t k)) (take (t + 8 - t) (drop t w')) v → Turning w₀ h w' v' t'
turning_again {w₀} {h} {w} {w'} {k} {v} {v'} {t} r lt et ek a e =
    let s : List ℕ = schedule (take 16 w₀) in
    let ls : length s ≡ 64 = length_schedule (take 16 w₀) (block_long w₀ r.long) in
    let n : t + 24 ≡ t + 8 + 16 = omega arith in
    let m : t + 8 - t ≡ 8 = omega arith in
    let fits : t + 8 ≤ 64 = omega (arith, r.whole) in
    let u : rounds (take 8 (drop t K)) (take 8 (drop t s)) v ≡ v' =
    sym
    (e ∙ (λ i. rounds (take (m i) (drop t (ek i))) (take (m i) (drop t w')) v)
    ∙ ap (λ (l : List ℕ). rounds (take 8 (drop t K)) l v) (part_same t (omega arith) a)) in
    rw et
    (record {
      long = r.long;
      within = fits;
      whole = omega (arith, r.whole);
      ahead = record { long = a.long; same = ap (λ (j : ℕ). take j w') (sym n) ∙ a.same ∙ ap (λ (j : ℕ). take j s) n };
      rest =
          r.rest
          ∙ rounds_split 8 (drop t K) (drop t s) v (omega (arith, length-drop t K, length_K)) (omega (arith, length-drop t s))
          ∙ (λ i. rounds (drop-drop 8 t K i) (drop-drop 8 t s i) (u i));
    })

pub turning_done : {w₀ h w v : List ℕ} {t : ℕ} → 64 ≤ t → Turning w₀ h w v t
    → (v ≡ rounds K (schedule (take 16 w₀)) h) × (w ≡ schedule (take 16 w₀))
unfolding rounds
turning_done {w₀} {h} {w} {v} {t} le r =
    let s : List ℕ = schedule (take 16 w₀) in (
      sym (r.rest ∙ ap (λ (l : List ℕ). rounds l (drop t s) v) (drop_of_length-le K {i = t} (omega (arith, length_K)))),
      filled r.long (omega arith) r.ahead,
    )
