-- `tokens::numbers::read_behind` meets its contract: the bytes stand, and what is behind them is what the reader of digits tells.
-- Assumes nothing.
use mathlib.Core.Path.{sym}
use Rattle.std.proofs.lemmas.Option.{IfSome_then}
use Rattle.tokens.proofs.numbers.read_behind.Goals as goal

pub returns : goal.returns
returns c =
    IfSome_then c.read_digits.result c.read_digits.ensures (λ n d. record { standing = sym c.if-not-bytes_stand.ensures; digits = d })
