-- `sha256::hash` meets its contract: what is written behind the message is its padding, and a padded message of one block is hashed at once.
-- Assumes nothing.
use Rattle.std.proofs.Common.{◌++◌, ap, ◌∙◌, length, drop, replicate}
use Rattle.sha256.specs.Sha256.{H₀}
use Rattle.sha256.proofs.OneBlock.{one_block}
use Rattle.sha256.proofs.hash.Goals as goal

pub returns : goal.returns
unfolding H₀
returns c =
    let behind = drop (length c.args.message.now) (replicate 64 0) in
    c.compress.ensures.value ∙ one_block _ _ c.requires (λ i. (c.type_inv.message i).fits) (ap (λ l. l ++ behind) c.copy_from_slice.ensures.after)
