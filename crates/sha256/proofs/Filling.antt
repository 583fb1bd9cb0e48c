-- The message schedule: how far it reaches, and what the loop keeps that writes its next eight words.
-- Assumes nothing.
use Rattle.std.proofs.Common.{◌≡◌, ℕ, zero, suc, ◌+◌, ◌-◌, ◌<◌, ◌≤◌, List, [], ◌∷◌, ◌++◌, length, get_or, take, drop, set, sym, refl, ap, ◌∙◌, ap₂, suc-add, zero-add, arith, length-append, length-set, take-append-drop, length-take-le, get_or-take, take-take, take-suc-set, drop-set-lt}
use lib.Seq.{take-append_seam, take-length}
use Rattle.sha256.specs.Sha256.{next, next_at, extend, schedule}

-- ---- the schedule

-- one word more, and none
one_word : (n : ℕ) (w : List ℕ) → extend (suc n) w ≡ extend n (w ++ next_at w (length w) ∷ [])
unfolding extend
one_word n w = refl

pub no_word : (w : List ℕ) → extend 0 w ≡ w
unfolding extend
no_word w = refl

pub length_extend : (n : ℕ) (w : List ℕ) → length (extend n w) ≡ length w + n
unfolding extend
length_extend zero w = omega arith
length_extend (suc n) w = length_extend n _ ∙ simp length-append (omega arith)

-- m words more, and then n
pub extend_extend : (m n : ℕ) (w : List ℕ) → extend n (extend m w) ≡ extend (m + n) w
unfolding extend
extend_extend zero n w = rw zero-add
extend_extend (suc m) n w = rw suc-add (extend_extend m n _)

-- what is there stays
extend_front : (n : ℕ) (w : List ℕ) → take (length w) (extend n w) ≡ w
unfolding extend
extend_front zero w = take-length w
extend_front (suc n) w =
    let longer : List ℕ = w ++ next_at w (length w) ∷ [] in
    let h : length w ≤ length longer = simp length-append (omega arith) in
    sym (take-take (length w) (length longer) (extend n longer) h) ∙ ap (take (length w)) (extend_front n longer) ∙ take-append_seam w _

-- the first words of the schedule of a block b of sixteen words
pub take_schedule : (n : ℕ) (b : List ℕ) → length b ≡ 16 → n ≤ 48 → take (n + 16) (schedule b) ≡ extend n b
unfolding schedule
take_schedule n b l h =
    let k : 48 ≡ n + (48 - n) = omega arith in
    let e : n + 16 ≡ length (extend n b) = omega (arith, length_extend n b) in
    (λ i. take (e i) (extend (k i) b)) ∙ ap (take (length (extend n b))) (sym (extend_extend n (48 - n) b)) ∙ extend_front (48 - n) (extend n b)

pub length_schedule : (b : List ℕ) → length b ≡ 16 → length (schedule b) ≡ 64
unfolding schedule
length_schedule b l = omega (arith, length_extend 48 b)

-- ---- the loop

-- the words of w before t + i + 16 extend to those that the first t + 16 words of w₀ extend to, and behind these nothing has changed
pub record Filled (w₀ : List ℕ) (t : ℕ) (w : List ℕ) (i : ℕ) : Type 0 where
  pub within : i ≤ 8
  pub room : t + 24 ≤ 64
  pub long : length w ≡ 64
  pub rest : extend 8 (take (t + 16) w₀) ≡ extend (8 - i) (take (t + i + 16) w)
  pub behind : drop (t + 24) w ≡ drop (t + 24) w₀

pub filled_start : (w : List ℕ) (t : ℕ) → length w ≡ 64 → t + 24 ≤ 64 → Filled w t w 0
filled_start w t l h =
    let k : t + 16 ≡ t + 0 + 16 = omega arith in
    record { within = omega arith; room = h; long = l; rest = ap (λ (j : ℕ). extend 8 (take j w)) k; behind = refl }

-- a word before k is read off the words before k
before : (w : List ℕ) (k j m : ℕ) → m ≡ k - j → 0 < j → j ≤ k → get_or w m 0 ≡ get_or (take k w) (k - j) 0
before w k j m e h h' = ap (λ (n : ℕ). get_or w n 0) e ∙ sym (get_or-take k w (k - j) 0 (omega arith))

put : (n : ℕ) (w : List ℕ) (k v : ℕ) → k < length w → v ≡ next_at (take k w) k → extend (suc n) (take k w) ≡ extend n (take (suc k) (set w k v))
put n w k v h e =
    let l : length (take k w) ≡ k = length-take-le k w (omega arith) in
    one_word n (take k w)
    ∙ ap
    (extend n)
    (ap (λ (j : ℕ). take k w ++ next_at (take k w) j ∷ []) l ∙ ap (λ (x : ℕ). take k w ++ x ∷ []) (sym e) ∙ sym (take-suc-set w k v h))

pub filled_again : {w₀ w : List ℕ} {t i v : ℕ} → i < 8
    → v ≡ next (get_or w (t + i + 14) 0) (get_or w (t + i + 9) 0) (get_or w (t + i + 1) 0) (get_or w (t + i) 0)
    → Filled w₀ t w i → Filled w₀ t (set w (t + i + 16) v) (i + 1)
filled_again {w₀} {w} {t} {i} {v} h e r =
    let k : ℕ = t + i + 16 in
    let u : v ≡ next_at (take k w) k =
    e
    ∙ (λ j. next
    (before w k 2 (t + i + 14) (omega arith) (omega arith) (omega arith) j)
    (before w k 7 (t + i + 9) (omega arith) (omega arith) (omega arith) j)
    (before w k 15 (t + i + 1) (omega arith) (omega arith) (omega arith) j)
    (before w k 16 (t + i) (omega arith) (omega arith) (omega arith) j)) in
    let n : 8 - i ≡ suc (8 - (i + 1)) = omega arith in
    let m : suc k ≡ t + (i + 1) + 16 = omega arith in
    record {
      within = omega arith;
      room = r.room;
      long = length-set w k v ∙ r.long;
      rest =
          r.rest ∙ ap (λ (j : ℕ). extend j (take k w)) n ∙ put (8 - (i + 1)) w k v (omega (arith, r.long, r.room)) u
          ∙ ap (λ (j : ℕ). extend (8 - (i + 1)) (take j (set w k v))) m;
      behind = drop-set-lt (t + 24) w k v (omega arith) ∙ r.behind;
    }

pub filled_done : {w₀ w : List ℕ} {t i : ℕ} → 8 ≤ i → Filled w₀ t w i → w ≡ extend 8 (take (t + 16) w₀) ++ drop (t + 24) w₀
filled_done {w₀} {w} {t} {i} h r =
    let n : 8 - i ≡ 0 = omega arith in
    let k : t + i + 16 ≡ t + 24 = omega arith in
    let front : extend 8 (take (t + 16) w₀) ≡ take (t + 24) w = r.rest ∙ (λ j. extend (n j) (take (k j) w)) ∙ no_word (take (t + 24) w) in
    sym (take-append-drop (t + 24) w) ∙ ap₂ ◌++◌ (sym front) r.behind
