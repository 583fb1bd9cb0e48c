-- `circuit::shapes::shape_of` meets its contract: each kind has its row in the definition.
-- Assumes nothing.
use Rattle.circuit.specs.Kind.{kind_shape}
use Rattle.circuit.specs.Code.{shape_of}
use Rattle.circuit.proofs.shapes.shape_of.Goals as goal

pub returns-in-In : goal.returns-in-In
unfolding kind_shape shape_of
returns-in-In c =
    rw c.in-In.is

pub returns-in-Add : goal.returns-in-Add
unfolding kind_shape shape_of
returns-in-Add c =
    rw c.in-Add.is c.local.ensures

pub returns-in-Sub : goal.returns-in-Sub
unfolding kind_shape shape_of
returns-in-Sub c =
    rw c.in-Sub.is c.local-in-Sub.ensures

pub returns-in-Plus : goal.returns-in-Plus
unfolding kind_shape shape_of
returns-in-Plus c =
    rw c.in-Plus.is c.local-in-Plus.ensures

pub returns-in-Times : goal.returns-in-Times
unfolding kind_shape shape_of
returns-in-Times c =
    rw c.in-Times.is c.local-in-Times.ensures

pub returns-in-Mul : goal.returns-in-Mul
unfolding kind_shape shape_of
returns-in-Mul c =
    rw c.in-Mul.is

pub returns-in-Out : goal.returns-in-Out
unfolding kind_shape shape_of
returns-in-Out c =
    rw c.in-Out.is

pub returns-in-Sq : goal.returns-in-Sq
unfolding kind_shape shape_of
returns-in-Sq c =
    rw c.in-Sq.is

pub returns-in-Give : goal.returns-in-Give
unfolding kind_shape shape_of
returns-in-Give c =
    rw c.in-Give.is

pub returns-in-Over : goal.returns-in-Over
unfolding kind_shape shape_of
returns-in-Over c =
    rw c.in-Over.is c.local-in-Over.ensures
