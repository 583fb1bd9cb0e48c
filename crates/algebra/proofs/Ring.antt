-- What follows from the laws of a field. A law on the left factor or term has its mirror image under a name that ends in -r.
-- Assumes nothing.
use Prim.Native.Nat.{ℕ, ◌<◌}
use mathlib.Core.Path.{◌≡◌, ap, sym, subst, ◌∙◌}
use native.Mathlib.Omega.{arith}
use Rattle.algebra.specs.Ops.{Ops}
use Rattle.algebra.specs.Field.{Field}

module _ {O : Ops} (F : Field O) where
  open O use {size, norm, add, neg, sub, mul, inv}
  open F use {
    one_lt,
    norm_lt,
    norm_of_lt,
    norm_add,
    norm_neg,
    norm_mul,
    norm_inv,
    add_norm,
    neg_norm,
    mul_norm,
    add_comm,
    add_assoc,
    add-zero,
    add_neg,
    mul_comm,
    mul_assoc,
    mul_one,
    mul-add,
    sub_neg,
  }

  -- An element is its own element.
  pub norm_norm : (x : ℕ) → norm (norm x) ≡ norm x
  norm_norm x = norm_of_lt (norm_lt x)

  -- Zero is an element.
  pub norm_zero : norm 0 ≡ 0
  norm_zero = let h : 1 < size = one_lt in norm_of_lt (omega arith)

  -- One is an element.
  pub norm_one : norm 1 ≡ 1
  norm_one = norm_of_lt one_lt

  -- A sum depends on the right term's element alone.
  pub add_norm_r : (x y : ℕ) → add x (norm y) ≡ add x y
  add_norm_r x y = add_comm x (norm y) ∙ add_norm y x ∙ add_comm y x

  -- A product depends on the right factor's element alone.
  pub mul_norm_r : (x y : ℕ) → mul x (norm y) ≡ mul x y
  mul_norm_r x y = mul_comm x (norm y) ∙ mul_norm y x ∙ mul_comm y x

  -- Zero adds nothing on the left.
  pub zero-add : (x : ℕ) → add 0 x ≡ norm x
  zero-add x = add_comm 0 x ∙ add-zero x

  -- A factor of one on the left makes no difference.
  pub one_mul : (x : ℕ) → mul 1 x ≡ norm x
  one_mul x = mul_comm 1 x ∙ mul_one x

  -- The terms of a sum of three change places.
  pub add_left_comm : (x y z : ℕ) → add x (add y z) ≡ add y (add x z)
  add_left_comm x y z = sym (add_assoc x y z) ∙ ap (λ (w : ℕ). add w z) (add_comm x y) ∙ add_assoc y x z

  -- The factors of a product of three change places.
  pub mul_left_comm : (x y z : ℕ) → mul x (mul y z) ≡ mul y (mul x z)
  mul_left_comm x y z = sym (mul_assoc x y z) ∙ ap (λ (w : ℕ). mul w z) (mul_comm x y) ∙ mul_assoc y x z

  -- Products distribute over a sum on the left.
  pub add_mul : (x y z : ℕ) → mul (add x y) z ≡ add (mul x z) (mul y z)
  add_mul x y z = mul_comm _ _ ∙ mul-add z x y ∙ cc (mul_comm z x, mul_comm z y)

  -- An opposite and its number cancel.
  pub neg_add : (x : ℕ) → add (neg x) x ≡ 0
  neg_add x = add_comm _ _ ∙ add_neg x

  -- A number and its opposite cancel within a sum.
  pub cancel : (x y : ℕ) → add x (add (neg x) y) ≡ norm y
  cancel x y = sym (add_assoc x (neg x) y) ∙ ap (λ (w : ℕ). add w y) (add_neg x) ∙ zero-add y

  -- An opposite and its number cancel within a sum.
  pub cancel' : (x y : ℕ) → add (neg x) (add x y) ≡ norm y
  cancel' x y = sym (add_assoc (neg x) x y) ∙ ap (λ (w : ℕ). add w y) (neg_add x) ∙ zero-add y

  -- What makes equal sums with one number on the left is equal.
  pub add_injective : (x y z : ℕ) → add x y ≡ add x z → norm y ≡ norm z
  add_injective x y z h = sym (cancel' x y) ∙ ap (add (neg x)) h ∙ cancel' x z

  -- What makes equal sums with one number on the right is equal.
  pub add_injective_r : (x y z : ℕ) → add x z ≡ add y z → norm x ≡ norm y
  add_injective_r x y z h = add_injective z x y (add_comm z x ∙ h ∙ add_comm y z)

  -- What makes zero with a number is its opposite.
  pub neg_unique : (x y : ℕ) → add x y ≡ 0 → norm y ≡ neg x
  neg_unique x y h = add_injective x y (neg x) (h ∙ sym (add_neg x)) ∙ norm_neg x

  -- A product with zero is zero.
  pub mul_zero : (x : ℕ) → mul x 0 ≡ 0
  mul_zero x =
      sym (norm_mul x 0)
      ∙ add_injective (mul x 0) (mul x 0) 0
      (sym (mul-add x 0 0) ∙ ap (mul x) (add-zero 0 ∙ norm_zero) ∙ sym (norm_mul x 0) ∙ sym (add-zero (mul x 0)))
      ∙ norm_zero

  -- A product with zero on the left is zero.
  pub zero_mul : (x : ℕ) → mul 0 x ≡ 0
  zero_mul x = mul_comm 0 x ∙ mul_zero x

  -- A product with an opposite is the product's opposite.
  pub mul_neg : (x y : ℕ) → mul x (neg y) ≡ neg (mul x y)
  mul_neg x y =
      sym (norm_mul x (neg y))
      ∙ neg_unique (mul x y) (mul x (neg y)) (sym (mul-add x y (neg y)) ∙ ap (mul x) (add_neg y) ∙ mul_zero x)

  -- A product with an opposite on the left is the product's opposite.
  pub neg_mul : (x y : ℕ) → mul (neg x) y ≡ neg (mul x y)
  neg_mul x y = mul_comm _ _ ∙ mul_neg y x ∙ ap neg (mul_comm y x)

  -- The opposite of a sum is the sum of the opposites.
  pub neg_sum : (x y : ℕ) → neg (add x y) ≡ add (neg x) (neg y)
  neg_sum x y =
      sym
      (neg_unique (add x y) (add (neg x) (neg y))
      (add_assoc x y _ ∙ ap (add x) (add_left_comm y (neg x) (neg y)) ∙ cancel x _ ∙ ap norm (add_neg y) ∙ norm_zero))
      ∙ norm_add _ _

  -- The opposite of the opposite is the number's element.
  pub neg_neg : (x : ℕ) → neg (neg x) ≡ norm x
  neg_neg x = sym (neg_unique (neg x) x (neg_add x))

  -- Zero is its own opposite.
  pub neg_zero : neg 0 ≡ 0
  neg_zero = sym (neg_unique 0 0 (add-zero 0 ∙ norm_zero)) ∙ norm_zero

  -- A difference is an element.
  pub norm_sub : (x y : ℕ) → norm (sub x y) ≡ sub x y
  norm_sub x y = ap norm (sub_neg x y) ∙ norm_add _ _ ∙ sym (sub_neg x y)

  -- A difference and what was taken away make up the whole.
  pub sub_add : (x y : ℕ) → add (sub x y) y ≡ norm x
  sub_add x y =
      ap (λ (w : ℕ). add w y) (sub_neg x y)
      ∙ add_assoc x (neg y) y
      ∙ ap (add x) (neg_add y)
      ∙ add-zero x

  -- What makes up the whole is the difference.
  pub sub_is : (x y d : ℕ) → add d y ≡ norm x → norm d ≡ sub x y
  sub_is x y d h = add_injective_r d (sub x y) y (h ∙ sym (sub_add x y)) ∙ norm_sub x y

  -- Two numbers whose difference is zero have one element.
  pub sub_zero_eq : (x y : ℕ) → sub x y ≡ 0 → norm x ≡ norm y
  sub_zero_eq x y h = sym (sub_add x y) ∙ ap (λ (w : ℕ). add w y) h ∙ zero-add y

  -- A number less itself is zero.
  pub sub_self : (x : ℕ) → sub x x ≡ 0
  sub_self x = sub_neg x x ∙ add_neg x

  -- A number less zero is its element.
  pub sub_zero : (x : ℕ) → sub x 0 ≡ norm x
  sub_zero x = sub_neg x 0 ∙ ap (add x) neg_zero ∙ add-zero x

  -- Zero less a number is its opposite.
  pub zero_sub : (x : ℕ) → sub 0 x ≡ neg x
  zero_sub x = sub_neg 0 x ∙ zero-add (neg x) ∙ norm_neg x

  -- A difference depends on the left number's element alone.
  pub sub_norm : (x y : ℕ) → sub (norm x) y ≡ sub x y
  sub_norm x y = sub_neg (norm x) y ∙ add_norm x (neg y) ∙ sym (sub_neg x y)

  -- A difference depends on the right number's element alone.
  pub sub_norm_r : (x y : ℕ) → sub x (norm y) ≡ sub x y
  sub_norm_r x y = sub_neg x (norm y) ∙ ap (add x) (neg_norm y) ∙ sym (sub_neg x y)

  -- A sum of differences is the difference of the sums.
  pub add_sub_add : (x y u v : ℕ) → add (sub x u) (sub y v) ≡ sub (add x y) (add u v)
  add_sub_add x y u v = simp (sub_neg, neg_sum, add_assoc, add_left_comm)

  -- A product with a difference is the difference of the products.
  pub mul_sub : (k x y : ℕ) → mul k (sub x y) ≡ sub (mul k x) (mul k y)
  mul_sub k x y = simp (sub_neg, mul-add, mul_neg)

  -- A difference times a number is the difference of the products.
  pub sub_mul : (x y k : ℕ) → mul (sub x y) k ≡ sub (mul x k) (mul y k)
  sub_mul x y k = simp (sub_neg, add_mul, neg_mul)

  -- A difference and the one the other way round cancel.
  pub sub_flip : (x y : ℕ) → add (sub x y) (sub y x) ≡ 0
  sub_flip x y = add_sub_add x y y x ∙ ap (sub (add x y)) (add_comm y x) ∙ sub_self (add x y)

  -- A mask that moves with the number it hides leaves their difference as it was.
  pub sub_moved : (x y a : ℕ) → sub y (add a (sub y x)) ≡ sub x a
  sub_moved x y a = sym (sub_is y (add a (sub y x)) (sub x a) made_up) ∙ norm_sub x a
    where
      made_up : add (sub x a) (add a (sub y x)) ≡ norm y
      made_up =
          sym (add_assoc _ _ _)
          ∙ ap (λ (w : ℕ). add w (sub y x)) (sub_add x a)
          ∙ add_norm x (sub y x)
          ∙ add_comm x (sub y x)
          ∙ sub_add y x

  -- What is its own element is below size.
  lt_of_norm : {x : ℕ} → norm x ≡ x → x < size
  lt_of_norm {x} h = subst (λ (w : ℕ). w < size) h (norm_lt x)

  -- A sum is below size.
  pub add_lt : (x y : ℕ) → add x y < size
  add_lt x y = lt_of_norm (norm_add x y)

  -- An opposite is below size.
  pub neg_lt : (x : ℕ) → neg x < size
  neg_lt x = lt_of_norm (norm_neg x)

  -- A difference is below size.
  pub sub_lt : (x y : ℕ) → sub x y < size
  sub_lt x y = lt_of_norm (norm_sub x y)

  -- A product is below size.
  pub mul_lt : (x y : ℕ) → mul x y < size
  mul_lt x y = lt_of_norm (norm_mul x y)

  -- An inverse is below size.
  pub inv_lt : (x : ℕ) → inv x < size
  inv_lt x = lt_of_norm (norm_inv x)
