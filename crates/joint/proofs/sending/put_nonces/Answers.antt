use Prim.Native.Nat.{◌+◌, ◌*◌, ◌≤◌}
use native.Mathlib.Omega.{arith}
use borrow.Author.Rules.{rules}
use lib.ListN.{length}
use Rattle.circuit.specs.Round.{nonce_size}
use Rattle.protocol.specs.Scratch.{band, marks_at}
use Rattle.protocol.specs.Code.{layout_of}
use Rattle.protocol.proofs.Bands.{band_end}
use Rattle.joint.proofs.Cutting.{band_tail}
use Rattle.joint.proofs.ReceiveTurns.{nonce_left}
use Rattle.joint.proofs.Parting.{parts_joined}
use Rattle.joint.proofs.sending.put_nonces.Goals as goal

pub each_part-requires-clause-each : goal.each_part-requires-clause-each
each_part-requires-clause-each c = λ i h p e.
    let room : marks_at (layout_of c.args.f.layout) ≤ length p.now = rw e (omega (arith, band_tail c.requires.0 i h)) in
    let fits : i * nonce_size + nonce_size ≤ length c.args.nonces.now = omega (arith, band_end c.args.f.parties nonce_size i h, c.requires.1) in
    search rules

pub returns : goal.returns
unfolding band
returns c =
    parts_joined c.each_part.ensures c.requires.0.room (nonce_left c.args.f c.args.scratch.now c.args.nonces.now) (λ i h p q e w. search rules)
