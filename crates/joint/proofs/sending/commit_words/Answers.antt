-- `joint::sending::commit_words` meets its contract: each party is lent its part.
-- Assumes nothing.
use Prim.Native.Nat.{ℕ, ◌<◌, ◌≤◌}
use mathlib.Core.Path.{◌≡◌}
use mathlib.Core.List.{List}
use native.Mathlib.Omega.{arith}
use borrow.Author.Rules.{rules}
use lib.ListN.{length}
use Rattle.protocol.specs.Scratch.{band, marks_at}
use Rattle.circuit.specs.Round.{commit_words}
use Rattle.protocol.specs.Code.{layout_of}
use Rattle.protocol.specs.Send.{mark}
use Rattle.joint.specs.Code.{revealed_by}
use Rattle.joint.proofs.Cutting.{band_tail}
use Rattle.protocol.specs.Send.{overwrite}
use Rattle.protocol.proofs.Words.{length_band}
use Rattle.joint.proofs.SendTurns.{mark_long}
use Rattle.joint.proofs.Parting.{parts_all, fills}
use Rattle.joint.proofs.sending.commit_words.Goals as goal

pub each_part-requires-clause-each : goal.each_part-requires-clause-each
each_part-requires-clause-each c = λ i h p e.
    let there : i < length c.args.held.now = omega (arith, h, c.requires.1) in
    let asks : (l : List ℕ) → l ≡ band c.args.f.scratch c.args.scratch.now i → (marks_at (layout_of c.args.f.layout) ≤ length l) × (commit_words ≤ length p.now) = λ l a. (rw a (omega (arith, band_tail c.requires.2 i h)), rw e (omega (arith, length_band commit_words c.args.f.parties c.args.out.now (omega (arith, c.requires.3)) i h))) in
    search (rules, asks)

pub returns : goal.returns
returns c =
    parts_all c.each_part.ensures c.requires.3 (λ i. mark (revealed_by c.args.f c.args.held.now c.args.scratch.now i)) (λ i h p q e w.
    let d : q.now ≡ overwrite (mark (revealed_by c.args.f c.args.held.now c.args.scratch.now i)) p.now = search rules in
    fills c.args.f.parties commit_words c.args.out.now c.requires.3 i h e (mark_long _) d)
