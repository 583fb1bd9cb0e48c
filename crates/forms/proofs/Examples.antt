-- The two entries do what the table of examples tells, by computation.
-- Assumes nothing.
use mathlib.Core.Path.{◌≡◌, refl}
use mathlib.Core.List.{map}
use Rattle.forms.specs.Example.{Case, table, LongCase, long_table, Examples}
use Rattle.forms.proofs.Computing.{computing}

entries : map (λ (x : Case). x.does) table ≡ map (λ (x : Case). x.told) table
unfolding computing
entries = refl

long : map (λ (x : LongCase). x.does) long_table ≡ map (λ (x : LongCase). x.told) long_table
unfolding computing
long = refl

pub all_told : Examples
all_told = record { entries = entries; long = long }
