-- `scaling::spdz_scale` meets its contract: what its two questions accept is scaled.
-- Assumes nothing.
use Rattle.circuit.proofs.Verdicts.{asked_last}
use Rattle.scaling.proofs.Scaling.{factor_small, values_small}
use Rattle.scaling.proofs.spdz_scale.Goals as goal

pub scale-requires : goal.scale-requires
scale-requires c =
    let e = asked_last c.ask_all.ensures c.in-Ok.is in
    (factor_small _ _ e, values_small _ _ e)
