-- Where a run stands after a round: at the same gate, or where the linear gates after it lead. These count nothing.
-- Assumes nothing.
use Prim.Native.Nat.{ℕ, suc, ◌+◌, ◌-◌, ◌<◌}
use mathlib.Core.Path.{◌≡◌, sym, ap, subst, ◌∙◌}
use mathlib.Core.Bool.{cond}
use mathlib.Core.List.{List}
use native.Mathlib.Numerals.{add-one}
use native.Mathlib.Omega.{arith}
use Rattle.circuit.specs.Gate.{Gate, gate, gates}
use Rattle.circuit.specs.Kind.{owned_by, shape}
use Rattle.circuit.specs.Count.{total, count, prep_at, input_at, unchecked}
use Rattle.circuit.specs.Round.{Round}
use Rattle.circuit.proofs.KindLaws.{Idle, idle}
use Rattle.protocol.specs.Position.{Point, Send, Finished, finished, reach, resume}
use Rattle.protocol.proofs.Following.{unchecked_reach}
use Rattle.protocol.proofs.Points.{Reached, reached, Entered, ended, begun, entered}
use Rattle.joint.specs.Code.{Placed}

-- A stop is found by how many gates there are.
pub same_stop : (c : List ℕ) (j : ℕ) {m m' stop : ℕ} → m ≡ m' → stop ≡ reach c (m - j) j → stop ≡ reach c (m' - j) j
same_stop c j {stop = stop} e = subst (λ (k : ℕ). stop ≡ reach c (k - j) j) e

module _ (c : List ℕ) where
  -- So a sum to which such gates add nothing passes over them.
  total_over : (f : Gate → ℕ) → ((g : Gate) → Idle g → f g ≡ 0) → (left j : ℕ) → j + left ≡ gates c → total f c (reach c left j) ≡ total f c j
  unfolding total
  total_over f none left j e = (reached c left j e).passes (total f c) (λ x l. rw (none (gate c x) (idle (gate c x) l)) (omega arith))

  module _ (j : ℕ) (h : j < gates c) where
    rest : (j + 1) + (gates c - (j + 1)) ≡ gates c
    rest = omega arith

    -- what is counted up to the next gate is counted up to the stop
    prep_stop : prep_at c (reach c (gates c - (j + 1)) (j + 1)) ≡ prep_at c (j + 1)
    unfolding prep_at
    prep_stop = ap (λ (k : ℕ). 1 + k) (total_over (λ g. (shape g).prep) (λ g q. q.prep) (gates c - (j + 1)) (j + 1) rest)

    pub waits_stop : unchecked c (reach c (gates c - (j + 1)) (j + 1)) ≡ unchecked c (j + 1)
    waits_stop = unchecked_reach c (gates c - (j + 1)) (j + 1)

    pub placed_stop : {n : ℕ} {places : List ℕ} → Placed n c (j + 1) places → Placed n c (reach c (gates c - (j + 1)) (j + 1)) places
    unfolding input_at count
    placed_stop was =
        record {
          eight = was.eight;
          each = λ i l. omega (arith, was.each i l, total_over (λ g. cond (owned_by i g) 1 0) (λ g q. rw (q.nobody i)) (gates c - (j + 1)) (j + 1) rest);
        }

  -- Where a run goes on after gate j with a round, the records before that gate are those up to gate j.
  pub resumed_prep : (j : ℕ) → j < gates c → (r : Round) → (resume c (suc j)).stage ≡ Send r → prep_at c (resume c (suc j)).gate ≡ prep_at c (suc j)
  unfolding resume finished
  resumed_prep j h r =
      let k : Reached c (suc j) (reach c (gates c - suc j) (suc j)) = reached c (gates c - suc j) (suc j) (omega arith) in
      go _ (entered c (reach c (gates c - suc j) (suc j)) k.within k.stands)
    where
      go : (x : Point) → Entered c (reach c (gates c - suc j) (suc j)) x → x.stage ≡ Send r → prep_at c x.gate ≡ prep_at c (suc j)
      go x (ended e q) w = let z : Finished ≡ Send r = sym (ap (λ (x : Point). x.stage) q) ∙ w in let o : ◌≡◌ {A = ℕ} 0 1 = cc in absurd (omega arith)
      go x (begun r rs m e b q) w = rw q (rw (add-one j) at (prep_stop j h))
