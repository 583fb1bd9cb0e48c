-- The numbers that the code counts along a circuit are those of the definitions, and are small.
-- Assumes nothing.
use Prim.Native.Nat.{ℕ, ◌+◌, ◌*◌, ◌/◌, ◌≤◌}
use mathlib.Core.Path.{◌≡◌, refl, ap, ◌∙◌}
use mathlib.Core.List.{List}
use native.Mathlib.Nat.{mul-le-mul}
use native.Mathlib.Omega.{arith}
use lib.ListN.{length}
use Rattle.field.specs.Words.{size}
use Rattle.circuit.specs.Gate.{gate_size, gates}
use Rattle.circuit.specs.Kind.{shape, is_in, is_out}
use Rattle.circuit.specs.Count.{total, count, prep_at, prep_size, capacity, in_count, out_count}
use Rattle.circuit.specs.Round.{commit_words, over_run, word_count, coefficient_count, check_count}
use Rattle.circuit.specs.Accept.{most_gates}
use Rattle.circuit.specs.Valid.{Valid}
use Rattle.circuit.specs.Code.{Totalled}
use Rattle.circuit.specs.declared.Totals.{Totals}
use Rattle.circuit.proofs.Counts.{prep_size_le, capacity_le}
use Rattle.circuit.proofs.RoundLaws.{words_run_le, checks_run_le}
use Rattle.protocol.specs.Scratch.{Layout, layout, slots_size, nonce_at, marks_at, scratch_size}
use Rattle.protocol.specs.Code.{layout_of}
use Rattle.protocol.specs.Ask.{most_parties}
use Rattle.joint.specs.declared.Frame.{Frame}
use Rattle.joint.specs.Code.{Framed}

-- a number for each party
product_few : {n x : ℕ} (k : ℕ) → n ≤ most_parties → x ≤ k → n * x ≤ most_parties * k
product_few k h g = mul-le-mul h g

module _ {n : ℕ} {c : List ℕ} (v : Valid n size c) where
  -- the code's number of gates
  pub count_is : length c / gate_size ≡ gates c
  unfolding gates
  count_is = refl

  pub count_fits : gate_size * (length c / gate_size) ≤ length c
  count_fits = omega arith

  pub count_few : length c / gate_size ≤ most_gates
  count_few = omega (arith, count_is, v.few)

  -- the totals of all gates
  module _ {m : ℕ} (all : m ≡ gates c) {t : Totals} (k : Totalled c m t) where
    pub prep_is : t.prep ≡ prep_size c
    unfolding prep_size
    prep_is = k.prep ∙ ap (prep_at c) all

    capacity_is : t.openings + 1 ≡ capacity c
    unfolding capacity
    capacity_is = ap (λ (x : ℕ). x + 1) (k.openings ∙ ap (total (λ g. (shape g).openings) c) all)

    pub capacity_few : t.openings + 1 ≤ 513
    capacity_few = omega (arith, capacity_is, capacity_le c, v.few)

    pub laid_is : layout_of (record { gates = m; capacity = t.openings + 1 }) ≡ layout c
    unfolding layout_of layout
    laid_is = rw (all, capacity_is)

    pub size_is : {size : ℕ} → size ≡ marks_at (layout_of (record { gates = m; capacity = t.openings + 1 })) + n * commit_words → size ≡ scratch_size n c
    unfolding scratch_size
    size_is e = e ∙ ap (λ (y : Layout). marks_at y + n * commit_words) laid_is

  -- the numbers of the frame
  module _ {f : Frame} (h : Framed n c f) where
    pub gates_are : f.layout.gates ≡ gates c
    unfolding layout_of layout
    gates_are = ap (λ (y : Layout). y.gates) h.lay

    gates_few : f.layout.gates ≤ most_gates
    gates_few = omega (arith, gates_are, v.few)

    pub preps_few : n ≤ most_parties → n * f.prep ≤ most_parties * 1537
    preps_few few = product_few 1537 few (omega (arith, h.prep, prep_size_le c, v.few))

    pub sizes_few : n ≤ most_parties → n * f.scratch ≤ most_parties * 1610
    unfolding scratch_size marks_at nonce_at slots_size layout
    sizes_few few = product_few 1610 few (omega (arith, few, h.scratch, capacity_le c, v.few))

    module _ {t : Totals} (k : Totalled c f.layout.gates t) where
      pub ins_are : t.ins ≡ in_count c
      unfolding in_count
      ins_are = k.ins ∙ ap (count is_in c) gates_are

      pub outs_are : t.outs ≡ out_count c
      unfolding out_count
      outs_are = k.outs ∙ ap (count is_out c) gates_are

      pub words_are : t.words ≡ word_count c
      unfolding word_count
      words_are = k.words ∙ ap (over_run _ c) gates_are

      pub coefficients_are : t.coefficients ≡ coefficient_count c
      unfolding coefficient_count
      coefficients_are = k.coefficients ∙ ap (over_run _ c) gates_are

      pub checks_are : t.checks ≡ check_count c
      unfolding check_count
      checks_are = k.checks ∙ ap (over_run _ c) gates_are

      pub words_few : n ≤ most_parties → n * t.words ≤ most_parties * 9216
      words_few few = product_few 9216 few (omega (arith, k.words, words_run_le c f.layout.gates, gates_few))

      -- and a nonce of each
      pub checks_few : n ≤ most_parties → n * t.checks ≤ most_parties * 512
      checks_few few = product_few 512 few (omega (arith, k.checks, checks_run_le c f.layout.gates, gates_few))
