-- `gates::asking::scan` meets its contract: at each gate before j no question is refused, of the numbers of gate j so far no name is, and then no
-- rest; a refusal left from inside is the first of its gate and so of all gates.
-- Assumes nothing.
use mathlib.Core.Path.{refl, sym}
use borrow.Author.Rules.{rules}
use Rattle.circuit.proofs.Verdicts.{each_below, each_none, each_more, each_done}
use Rattle.circuit.proofs.Valid.{is_kind_lem}
use Rattle.gates.proofs.Scan.{refused_within, kind_asked, name_asked, rest_asked, gate_kind, gate_name, gate_rest, gate_ok}
use Rattle.gates.proofs.asking.scan.Goals as goal

pub loop-j-init : goal.loop-j-init
loop-j-init c =
    each_none _

pub returns-in_err-ask : goal.returns-in_err-ask
returns-in_err-ask c =
    refused_within _ _ _ c.loop-j-test.true c.loop-j.invariant (gate_kind _ _ _ _ (kind_asked _ _ c.index.ensures c.is_kind.ensures c.in_err-ask.ensures)) (search rules)

pub loop-k-init : goal.loop-k-init
loop-k-init c =
    each_none _

pub name_ok-named-requires : goal.name_ok-named-requires
name_ok-named-requires c =
    (search rules, λ i l. is_kind_lem _ _ _ i (each_below _ _ c.loop-j.invariant i l))

pub returns-in_err-ask-2 : goal.returns-in_err-ask-2
returns-in_err-ask-2 c =
    refused_within _ _ _ c.loop-j-test.true c.loop-j.invariant (gate_name _ _ _ _ (kind_asked _ _ c.index.ensures c.is_kind.ensures c.in_ok-ask.ensures) (refused_within _ _ _ c.loop-k-test.true c.loop-k.invariant (name_asked _ _ _ _ _ c.shape_at-s.ensures c.role_of-role.ensures c.index-in-loop-k.ensures c.name_ok-named.ensures c.in_err-ask-2.ensures) refl)) (search rules)

pub loop-k-preserved : goal.loop-k-preserved
loop-k-preserved c =
    each_more _ _ c.loop-k.invariant (sym (name_asked _ _ _ _ _ c.shape_at-s.ensures c.role_of-role.ensures c.index-in-loop-k.ensures c.name_ok-named.ensures c.in_ok-ask-2.ensures))

pub loop-t-init : goal.loop-t-init
loop-t-init c =
    each_none _

pub returns-in_err-ask-3 : goal.returns-in_err-ask-3
returns-in_err-ask-3 c =
    refused_within _ _ _ c.loop-j-test.true c.loop-j.invariant (gate_rest _ _ _ _ (kind_asked _ _ c.index.ensures c.is_kind.ensures c.in_ok-ask.ensures) (each_done _ _ _ c.loop-k.auto.k-end c.loop-k-test.false c.loop-k.invariant) (refused_within _ _ _ c.loop-t-test.true c.loop-t.invariant (rest_asked _ _ _ _ _ c.shape_at-s.ensures c.role_of-role-in-loop-t.ensures c.index-in-loop-t.ensures c.rest_ok-fits.ensures c.in_err-ask-3.ensures) refl)) (search rules)

pub loop-t-preserved : goal.loop-t-preserved
loop-t-preserved c =
    each_more _ _ c.loop-t.invariant (sym (rest_asked _ _ _ _ _ c.shape_at-s.ensures c.role_of-role-in-loop-t.ensures c.index-in-loop-t.ensures c.rest_ok-fits.ensures c.in_ok-ask-3.ensures))

pub loop-j-preserved : goal.loop-j-preserved
loop-j-preserved c =
    each_more _ _ c.loop-j.invariant (gate_ok _ _ _ _ (kind_asked _ _ c.index.ensures c.is_kind.ensures c.in_ok-ask.ensures) (each_done _ _ _ c.loop-k.auto.k-end c.loop-k-test.false c.loop-k.invariant) (each_done _ _ _ c.loop-t.auto.t-end c.loop-t-test.false c.loop-t.invariant))

pub returns : goal.returns
returns c =
    sym (each_done _ _ _ c.loop-j.auto.j-end c.loop-j-test.false c.loop-j.invariant)
