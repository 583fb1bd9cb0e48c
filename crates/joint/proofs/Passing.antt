-- A run from gate to gate: what stands at a gate that it comes to, and that the rounds of the gate lead to the next one.
-- Assumes nothing.
use Prim.Native.Nat.{ℕ, suc, ◌+◌, ◌-◌, ◌<◌, ◌≤◌}
use mathlib.Core.Path.{◌≡◌, refl, sym, subst, ◌∙◌}
use mathlib.Core.Bool.{false}
use mathlib.Core.List.{List, []}
use mathlib.Core.Logic.{◌⊎◌, inl, ⊎_elim}
use native.Mathlib.Omega.{arith}
use Rattle.field.specs.Words.{ops}
use Rattle.circuit.specs.Gate.{gate, gates}
use Rattle.circuit.specs.Kind.{Class, Owned, Output, shape, is_class, is_linear}
use Rattle.circuit.specs.Count.{unchecked}
use Rattle.circuit.specs.Round.{Round, Own}
use Rattle.circuit.proofs.KindLaws.{class_is}
use Rattle.circuit.proofs.Tests.{false_no}
use Rattle.protocol.specs.Scratch.{written_at}
use Rattle.protocol.specs.Position.{Point, reach, resume}
use Rattle.protocol.specs.Entry.{releases}
use Rattle.protocol.specs.Joint.{Joint}
use Rattle.protocol.specs.Run.{released}
use Rattle.joint.specs.declared.Frame.{Frame}
use Rattle.joint.specs.declared.Stop.{Stop}
use Rattle.joint.specs.Code.{Course, course_of, due_at, due_in, came_to, Placed, state_of, none_held, Moving, Moved, Turned, Kept, Passed, SettlesAll, settled_all, Runnable, Common}
use Rattle.joint.proofs.Arrays.{counted_other, placed_small, placed_on}
use Rattle.joint.proofs.Measures.{gates_are}
use Rattle.joint.proofs.Later.{same_stop, waits_stop, placed_stop}
use Rattle.joint.proofs.Stops.{came_own, stop_within, stop_stands, resume_came}
use Rattle.joint.proofs.Running.{Running, running_moving, running_again}

-- a round in which nothing is released leaves the outputs
module _ (J : Joint) (f : Frame) (s : Course) (held l : List ℕ) (r : Round) where
  pub turned_none : released ops J (state_of f s held l) r ≡ [] → {t o : List ℕ} {s' : Course} {held' l' t' : List ℕ} → Moved J f s r held l t s' held' l' t'
      → s'.released ≡ s.released
      → Turned J f s r held l t o s' held' l' t' o
  turned_none e {o = o} d k =
      record {
        moved = d;
        outputs = rw e (unfold written_at in refl);
        given = rw e (omega (arith, k));
      }

  none_released : releases r ≡ false → released ops J (state_of f s held l) r ≡ []
  unfolding released
  none_released e = rw e

  pub turned_quietly : releases r ≡ false → {t o : List ℕ} {s' : Course} {held' l' t' : List ℕ} → Moved J f s r held l t s' held' l' t' → s'.released ≡ s.released
      → Turned J f s r held l t o s' held' l' t' o
  turned_quietly e = turned_none (none_released e)

module _ (J : Joint) (f : Frame) (l₀ t₀ o₀ : List ℕ) where
  abbrev c : List ℕ
  c = J.circuit

  -- the run has come to a gate that has rounds, or to the end
  pub record Standing (s : Stop) (places l t o : List ℕ) : Type 0 where
    pub within : s.gate ≤ gates J.circuit
    pub stands : s.gate < gates J.circuit → is_linear (gate J.circuit s.gate) ≡ false
    pub waits : (s.waiting ≡ unchecked J.circuit s.gate) ⊎ (((shape (gate J.circuit s.gate)).class ≡ Output) × (s.waiting ≡ 0))
    pub placed : Placed J.parties J.circuit s.gate places
    pub common : Common f l s.waiting
    pub running : Running J f l₀ t₀ o₀ (course_of (came_to J.circuit s.gate s.waiting) s) none_held l t o

  -- where the linear gates from the gate of s on lead
  abbrev pub stop_of : Stop → Stop
  stop_of s =
      record {
        gate = reach J.circuit (f.layout.gates - s.gate) s.gate;
        prep = s.prep;
        waiting = s.waiting;
        used = s.used;
        checks = s.checks;
        written = s.written;
        released = s.released;
        rounds = s.rounds;
      }

  -- the run is before linear gates, or none: once these are done, it has come to a gate that has rounds, or to the end
  pub record Before (s : Stop) (places l t o : List ℕ) : Type 0 where
    pub settles : SettlesAll f J.circuit J.preps l s.gate
    pub standing : Standing (stop_of s) places (settled_all f J.circuit J.preps l s.gate) t o

  -- they are done
  pub stood : {s : Stop} {places l t o : List ℕ} → Before s places l t o
      → {stop : ℕ} → stop ≡ reach J.circuit (f.layout.gates - s.gate) s.gate
      → {l' : List ℕ} → l' ≡ settled_all f J.circuit J.preps l s.gate
      → Standing (record { gate = stop; prep = s.prep; waiting = s.waiting; used = s.used; checks = s.checks; written = s.written; released = s.released; rounds = s.rounds }) places l' t o
  stood inv e d = rw (e, d) inv.standing

  module _ (able : Runnable J f l₀ t₀ o₀) where
    -- the gates of the frame are those of the circuit
    count_is : f.layout.gates ≡ gates J.circuit
    count_is = gates_are able.lent.valid able.lent.framed

    -- where the linear gates after gate j lead
    pub next_stop : (j : ℕ) → reach J.circuit (f.layout.gates - (j + 1)) (j + 1) ≡ reach J.circuit (gates J.circuit - (j + 1)) (j + 1)
    next_stop j = same_stop J.circuit (j + 1) count_is refl

  module _ (able : Runnable J f l₀ t₀ o₀) {s : Stop} {places l t o : List ℕ} (inv : Standing s places l t o) (h : s.gate < gates J.circuit) where
    -- gates that take no input leave the places of inputs
    pub places_stay : is_class Owned (shape (gate J.circuit s.gate)).class ≡ false → Placed J.parties J.circuit (s.gate + 1) places
    places_stay e = placed_on inv.placed (counted_other (placed_small inv.placed able.lent.valid inv.within) e)

    -- gates whose own round is due
    module _ {k : Class} (cl : (shape (gate J.circuit s.gate)).class ≡ k) (own : due_in k s.waiting ≡ Own) (quiet : is_class Output k ≡ false) where
      own_running : Running J f l₀ t₀ o₀ (course_of (due_at s.gate Own) s) none_held l t o
      own_running =
          subst (λ (x : Point). Running J f l₀ t₀ o₀ (course_of x s) none_held l t o) (came_own J.circuit s.gate s.waiting h cl own) inv.running

      pub own_waits : s.waiting ≡ unchecked J.circuit s.gate
      own_waits = ⊎_elim (λ w. w) (λ w. false_no (sym quiet ∙ class_is (sym cl ∙ w.0))) inv.waits

      pub own_moving : Moving J f (course_of (due_at s.gate Own) s) Own none_held l t
      own_moving = running_moving J f l₀ t₀ o₀ able own_running Own refl

      -- they lead to the linear gates after the gate
      pub own_passed : {s' : Stop} {places' l₁ t' : List ℕ}
          → Moved J f (course_of (due_at s.gate Own) s) Own none_held l t (course_of (resume J.circuit (suc s.gate)) s') none_held (settled_all f J.circuit J.preps l₁ (s.gate + 1)) t'
          → Kept s s'
          → Passed J.circuit s s'
          → SettlesAll f J.circuit J.preps l₁ (s.gate + 1)
          → Placed J.parties J.circuit (s.gate + 1) places'
          → Common f (settled_all f J.circuit J.preps l₁ (s.gate + 1)) s'.waiting
          → Before s' places' l₁ t' o
      own_passed {s'} {places'} {l₁} {t'} d k p a q e =
          record {
            settles = rw p.gate a;
            standing =
                rw p.gate
                (record {
                  within = stop_within J.circuit s.gate h stop_is;
                  stands = stop_stands J.circuit s.gate h stop_is;
                  waits = inl waits_there;
                  placed = rw stop_is (placed_stop J.circuit s.gate h q);
                  common = e;
                  running =
                      subst (λ (x : Point). Running J f l₀ t₀ o₀ (course_of x s') none_held (settled_all f J.circuit J.preps l₁ (s.gate + 1)) t' o)
                      (resume_came J.circuit s.gate h stop_is waits_there)
                      (running_again J f l₀ t₀ o₀ able own_running Own refl
                      (turned_quietly J f (course_of (due_at s.gate Own) s) none_held l Own refl d k.released));
                });
          }
        where
          stop_is : reach J.circuit (f.layout.gates - (s.gate + 1)) (s.gate + 1) ≡ reach J.circuit (gates J.circuit - (s.gate + 1)) (s.gate + 1)
          stop_is = next_stop able s.gate

          waits_there : s'.waiting ≡ unchecked J.circuit (reach J.circuit (f.layout.gates - (s.gate + 1)) (s.gate + 1))
          waits_there = rw stop_is (p.waiting ∙ sym (waits_stop J.circuit s.gate h))
