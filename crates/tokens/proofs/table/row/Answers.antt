-- `tokens::table::row` meets its contract: what each row says is what the table of words computes to.
-- Assumes nothing.
use mathlib.Core.Path.{refl}
use Rattle.circuit.specs.Gate.{decode}
use Rattle.circuit.specs.Kind.{kind_shape, is_class}
use Rattle.forms.specs.Words.{valued}
use Rattle.tokens.proofs.Tables.{row_as}
use Rattle.tokens.proofs.table.row.Goals as goal

pub returns-in-In : goal.returns-in-In
unfolding valued is_class kind_shape decode
returns-in-In c =
    row_as c.in-In.is c.valued.ensures refl refl refl refl refl refl refl refl

pub returns-in-Add : goal.returns-in-Add
unfolding valued is_class kind_shape decode
returns-in-Add c =
    row_as c.in-Add.is c.valued-in-Add.ensures refl refl refl refl refl refl refl refl

pub returns-in-Sub : goal.returns-in-Sub
unfolding valued is_class kind_shape decode
returns-in-Sub c =
    row_as c.in-Sub.is c.valued-in-Sub.ensures refl refl refl refl refl refl refl refl

pub returns-in-Plus : goal.returns-in-Plus
unfolding valued is_class kind_shape decode
returns-in-Plus c =
    row_as c.in-Plus.is c.valued-in-Plus.ensures refl refl refl refl refl refl refl refl

pub returns-in-Times : goal.returns-in-Times
unfolding valued is_class kind_shape decode
returns-in-Times c =
    row_as c.in-Times.is c.valued-in-Times.ensures refl refl refl refl refl refl refl refl

pub returns-in-Mul : goal.returns-in-Mul
unfolding valued is_class kind_shape decode
returns-in-Mul c =
    row_as c.in-Mul.is c.valued-in-Mul.ensures refl refl refl refl refl refl refl refl

pub returns-in-Out : goal.returns-in-Out
unfolding valued is_class kind_shape decode
returns-in-Out c =
    row_as c.in-Out.is refl refl refl refl refl refl refl refl refl

pub returns-in-Line : goal.returns-in-Line
unfolding valued is_class kind_shape decode
returns-in-Line c =
    row_as c.in-Line.is refl refl refl refl refl refl refl refl refl

pub returns-in-Sq : goal.returns-in-Sq
unfolding valued is_class kind_shape decode
returns-in-Sq c =
    row_as c.in-Sq.is c.valued-in-Sq.ensures refl refl refl refl refl refl refl refl

pub returns-in-Give : goal.returns-in-Give
unfolding valued is_class kind_shape decode
returns-in-Give c =
    row_as c.in-Give.is refl refl refl refl refl refl refl refl refl

pub returns-in-Over : goal.returns-in-Over
unfolding valued is_class kind_shape decode
returns-in-Over c =
    row_as c.in-Over.is c.valued-in-Over.ensures refl refl refl refl refl refl refl refl
