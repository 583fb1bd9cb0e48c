-- What every definition and theorem takes as the arithmetic: a record of operations, with no laws, so that it can be computed with.
-- Assumes nothing.
use Rattle.std.specs.Prelude.{ℕ}

-- The operations of a field whose elements are the numbers below size. Every operation takes any natural numbers and gives an element;
-- norm gives the element that a number stands for, inv the inverse of an element other than 0.
pub record Ops : Type 0 where
  pub size : ℕ
  pub norm : ℕ → ℕ
  pub add : ℕ → ℕ → ℕ
  pub neg : ℕ → ℕ
  pub sub : ℕ → ℕ → ℕ
  pub mul : ℕ → ℕ → ℕ
  pub inv : ℕ → ℕ
