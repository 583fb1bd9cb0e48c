-- Who is named is one of the parties, so that there is a number for it.
-- Assumes nothing.
use Prim.Native.Nat.{ℕ, zero, suc, ◌<◌}
use mathlib.Core.Bool.{Bool, true, false, cond, ◌&&◌}
use mathlib.Core.List.{List}
use native.Mathlib.Omega.{arith}
use lib.Dec.{eqb}
use Rattle.algebra.specs.Ops.{Ops}
use Rattle.circuit.specs.Verdict.{Verdict, Accepted, Refused}
use Rattle.circuit.specs.Round.{Round, is_reveal, reveal_words}
use Rattle.circuit.specs.Gate.{gate}
use Rattle.circuit.specs.Kind.{seen_by, alone}
use Rattle.protocol.specs.Scratch.{layout, marks_of}
use Rattle.protocol.specs.Position.{Position, Stage, Send, Receive, Finished, Aborted, when_sending, when_receiving}
use Rattle.protocol.specs.Party.{Party}
use Rattle.protocol.specs.Receive.{Blame, Nobody, Blames, Ruling, Passed, Stopped, first_blame, fits, misfit, weighs, heard_sum, ruling, scored, finds}
use Rattle.protocol.specs.Entry as E
use Rattle.protocol.specs.Entry.{open_answer, send_answer, receive_answer}
use Rattle.protocol.specs.Joint.{Joint, party}
use Rattle.protocol.specs.Run.{State, first_ruling, lowest, blamed, begun, said, notes, ends, step, still, ahead, run, whole}
use Rattle.protocol.specs.JointEntry as J
use Rattle.capi.specs.Numbers.{number_size, blame_number, Tellable, JointTellable}

-- one of n parties, or nobody
abbrev Among : ℕ → Blame → Type 0
Among n Nobody = Unit {0}
Among n (Blames i) = i < n

abbrev AmongOf : ℕ → Ruling → Type 0
AmongOf n Passed = Unit {0}
AmongOf n (Stopped b) = Among n b

among_number : (n : ℕ) (b : Blame) → n < number_size → Among n b → blame_number b < number_size
unfolding blame_number
among_number n Nobody h k = omega arith
among_number n (Blames i) h k = omega arith

module _ (marks heard : List ℕ) where
  misfit_among : (n : ℕ) → Among n (misfit n marks heard)
  unfolding misfit
  misfit_among zero = tt
  misfit_among (suc n) = go (misfit n marks heard) (misfit_among n) (fits marks heard n)
    where
      go : (b : Blame) → Among n b → (t : Bool) → Among (suc n) (first_blame b (cond t Nobody (Blames n)))
      go (Blames i) h t = omega arith
      go Nobody h true = tt
      go Nobody h false = omega arith

weighs_among : (n : ℕ) (b : Blame) (z : Bool) → Among n b → AmongOf n (weighs b z)
weighs_among n (Blames i) z h = h
weighs_among n Nobody true h = tt
weighs_among n Nobody false h = tt

module _ (O : Ops) where
  finds_among : (P : Party) (l : List ℕ) (r : Round) (heard : List ℕ) → AmongOf P.parties (finds O P l r heard)
  unfolding finds ruling
  finds_among P l r heard = go (is_reveal r)
    where
      marks : List ℕ
      marks = marks_of P.parties (layout P.circuit) l

      go : (t : Bool) → AmongOf P.parties (cond t (weighs (misfit P.parties marks heard) (eqb (heard_sum O P.parties reveal_words 0 heard) 0)) Passed)
      go true =
          weighs_among P.parties (misfit P.parties marks heard) (eqb (heard_sum O P.parties reveal_words 0 heard) 0) (misfit_among marks heard P.parties)
      go false = tt

  -- what the entries answer
  module _ (P : Party) (l : List ℕ) (small : P.parties < number_size) where
    answered_tells : (v : Verdict) (a : E.Answer) → Tellable a → Tellable (E.answer v a)
    unfolding E.answer
    answered_tells Accepted a h = h
    answered_tells (Refused number index) a h = tt

    pub open_tells : Tellable (open_answer O P l)
    unfolding open_answer
    open_tells = answered_tells _ _ tt

    pub send_tells : (at : Position) (coefficients nonce : List ℕ) (room : ℕ) → Tellable (send_answer O P l at coefficients nonce room)
    unfolding send_answer
    send_tells at coefficients nonce room = answered_tells _ _ tt

    pub receive_tells : (at : Position) (heard : List ℕ) → Tellable (receive_answer O P l at heard)
    unfolding receive_answer E.outcome E.concludes when_receiving
    receive_tells at heard = answered_tells _ _ (stage at.stage)
      where
        released : (output : ℕ) (next : Position) (t : Bool) → Tellable (cond t (E.Output output next) (E.Next next))
        released output next true = tt
        released output next false = tt

        concluded : (output : ℕ) (r : Round) (v : Ruling) → AmongOf P.parties v → Tellable (E.concludes O P output at.gate at.held r v)
        concluded output r Passed h = released output (E.next_position O P at.gate at.held r Passed) (E.releases r && seen_by (alone P.me) (gate P.circuit at.gate))
        concluded output r (Stopped b) h = among_number P.parties b small h

        stage : (s : Stage) → Tellable (when_receiving s (E.Next at) (E.outcome O P l at.gate at.held heard))
        stage (Send r) = tt
        stage (Receive r) = concluded (scored O P l at.gate) r (finds O P l r heard) (finds_among P l r heard)
        stage Finished = tt
        stage Aborted = tt

  -- and the joint run
  module _ (W : Joint) (small : W.parties < number_size) where
    lowest_among : (n : ℕ) (f : ℕ → Ruling) → ((i : ℕ) → AmongOf W.parties (f i)) → AmongOf W.parties (lowest n f)
    unfolding lowest
    lowest_among zero f h = tt
    lowest_among (suc n) f h = go (lowest n f) (lowest_among n f h)
      where
        go : (v : Ruling) → AmongOf W.parties v → AmongOf W.parties (first_ruling v (f n))
        go Passed k = h n
        go (Stopped b) k = k

    blamed_among : (v : Ruling) → AmongOf W.parties v → Among W.parties (blamed v)
    blamed_among Passed h = tt
    blamed_among (Stopped b) h = h

    ends_among : (s : State) (r : Round) → Among W.parties (blamed (ends O W s r))
    unfolding ends party
    ends_among s r =
        blamed_among (ends O W s r)
        (lowest_among W.parties (λ i. finds O (party W i) (notes O W s r i) r (said O W s r)) (λ i. finds_among (party W i) (notes O W s r i) r (said O W s r)))

    run_among : (k : ℕ) (s : State) → Among W.parties s.blame → Among W.parties (run O W k s).last.blame
    unfolding run still ahead step when_sending
    run_among zero s h = h
    run_among (suc k) s h = go (λ r. run_among k (step O W s r) (ends_among s r)) s.point.stage
      where
        go : ((r : Round) → Among W.parties (run O W k (step O W s r)).last.blame)
            → (t : Stage) → Among W.parties (when_sending t (still O W s) (λ r. ahead O W s r (run O W k (step O W s r)))).last.blame
        go later (Send r) = later r
        go later (Receive r) = h
        go later Finished = h
        go later Aborted = h

    whole_among : (l : List ℕ) → Among W.parties (whole O W l).last.blame
    unfolding whole begun
    whole_among l = run_among _ (begun O W l) tt

    pub joint_tells : (l transcript outputs : List ℕ) → JointTellable (J.joint_answer O W l transcript outputs)
    unfolding J.joint_answer J.jointly J.ended
    joint_tells l transcript outputs = given (J.verdict O W l transcript outputs)
      where
        ended : (t : Stage) (gate rounds : ℕ) (b : Blame) → Among W.parties b → JointTellable (J.ended t gate b rounds)
        ended (Send r) gate rounds b h = tt
        ended (Receive r) gate rounds b h = tt
        ended Finished gate rounds b h = tt
        ended Aborted gate rounds b h = among_number W.parties b small h

        given : (v : Verdict) → JointTellable (J.jointly v (J.ended (whole O W l).last.point.stage (whole O W l).last.point.gate (whole O W l).last.blame (whole O W l).rounds))
        given Accepted =
            ended (whole O W l).last.point.stage (whole O W l).last.point.gate (whole O W l).rounds (whole O W l).last.blame (whole_among l)
        given (Refused number index) = tt
