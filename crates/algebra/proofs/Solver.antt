-- A decision procedure for the identities of commutative rings, over every field. Both sides are written as expressions in variables,
-- and the check is a computation: each side is multiplied out to a polynomial, and their difference must vanish.
-- Assumes nothing.
use Prim.Native.Nat.{ℕ, zero, suc}
use mathlib.Core.Path.{◌≡◌, refl, ap, sym, ◌∙◌}
use mathlib.Core.Bool.{Bool, true, false, cond, not, ◌&&◌}
use mathlib.Core.List.{List, [], ◌∷◌}
use lib.Dec.{T, eqb, leb, eqb→eq}
use lib.ListN.{get_or}
use Rattle.algebra.specs.Ops.{Ops}
use Rattle.algebra.specs.Field.{Field}
use Rattle.algebra.proofs.Ring as ring-laws

infixl 6 ◌⊕◌
infixl 6 ◌⊝◌
infixl 7 ◌⊗◌
infixl 8 ⊖◌
-- An expression of the ring: variables by number, zero, one, sums, differences, products and opposites.
pub data Expr : Type 0 where
  var : ℕ → Expr
  zer : Expr
  one : Expr
  ◌⊕◌ : Expr → Expr → Expr
  ◌⊝◌ : Expr → Expr → Expr
  ◌⊗◌ : Expr → Expr → Expr
  ⊖◌ : Expr → Expr

-- A term of a polynomial: its sign, true for plus, and the variables of its monomial in ascending order.
pub data Term : Type 0 where
  signed : Bool → List ℕ → Term

-- A monomial times a variable.
abbrev mul_var : ℕ → List ℕ → List ℕ
mul_var v [] = v ∷ []
mul_var v (w ∷ m) = cond (leb v w) (v ∷ w ∷ m) (w ∷ mul_var v m)

-- The product of two monomials.
abbrev mul_mono : List ℕ → List ℕ → List ℕ
mul_mono [] m = m
mul_mono (v ∷ l) m = mul_var v (mul_mono l m)

-- Whether two monomials are the same.
abbrev same_mono : List ℕ → List ℕ → Bool
same_mono [] [] = true
same_mono [] (w ∷ m) = false
same_mono (v ∷ l) [] = false
same_mono (v ∷ l) (w ∷ m) = eqb v w && same_mono l m

-- The sign of a product of two terms, which is plus where their signs are the same.
abbrev mul_sign : Bool → Bool → Bool
mul_sign true s = s
mul_sign false s = not s

-- Whether two terms cancel.
abbrev opposite : Term → Term → Bool
opposite (signed s l) (signed t m) = not (mul_sign s t) && same_mono l m

-- A polynomial with one more term, or without the term that it cancels.
abbrev add_term : Term → List Term → List Term
add_term t [] = t ∷ []
add_term t (u ∷ p) = cond (opposite t u) p (u ∷ add_term t p)

-- The sum of two polynomials.
abbrev add_poly : List Term → List Term → List Term
add_poly [] q = q
add_poly (t ∷ p) q = add_term t (add_poly p q)

-- The product of two terms.
abbrev mul_term : Term → Term → Term
mul_term (signed s l) (signed t m) = signed (mul_sign s t) (mul_mono l m)

-- A polynomial times a term.
abbrev scale : Term → List Term → List Term
scale t [] = []
scale t (u ∷ p) = add_term (mul_term t u) (scale t p)

-- The product of two polynomials.
abbrev mul_poly : List Term → List Term → List Term
mul_poly [] q = []
mul_poly (t ∷ p) q = add_poly (scale t q) (mul_poly p q)

-- The opposite of a term.
abbrev neg_term : Term → Term
neg_term (signed s m) = signed (not s) m

-- The opposite of a polynomial.
abbrev neg_poly : List Term → List Term
neg_poly [] = []
neg_poly (t ∷ p) = neg_term t ∷ neg_poly p

-- An expression multiplied out.
abbrev poly : Expr → List Term
poly (var v) = signed true (v ∷ []) ∷ []
poly zer = []
poly one = signed true [] ∷ []
poly (a ⊕ b) = add_poly (poly a) (poly b)
poly (a ⊝ b) = add_poly (poly a) (neg_poly (poly b))
poly (a ⊗ b) = mul_poly (poly a) (poly b)
poly (⊖ a) = neg_poly (poly a)

-- Whether a polynomial has no term left.
abbrev is_nil : List Term → Bool
is_nil [] = true
is_nil (t ∷ p) = false

-- Whether two expressions are the same polynomial.
abbrev pub equal : Expr → Expr → Bool
equal a b = is_nil (poly (a ⊝ b))

-- What an expression says, where ρ lists the values of the variables.
abbrev pub value : Ops → List ℕ → Expr → ℕ
value O ρ (var v) = get_or ρ v 0
value O ρ zer = 0
value O ρ one = 1
value O ρ (a ⊕ b) = O.add (value O ρ a) (value O ρ b)
value O ρ (a ⊝ b) = O.sub (value O ρ a) (value O ρ b)
value O ρ (a ⊗ b) = O.mul (value O ρ a) (value O ρ b)
value O ρ (⊖ a) = O.neg (value O ρ a)

-- The element that an expression says: of a variable alone, its value's element.
abbrev pub element : Ops → List ℕ → Expr → ℕ
element O ρ (var v) = O.norm (get_or ρ v 0)
element O ρ zer = 0
element O ρ one = 1
element O ρ (a ⊕ b) = O.add (value O ρ a) (value O ρ b)
element O ρ (a ⊝ b) = O.sub (value O ρ a) (value O ρ b)
element O ρ (a ⊗ b) = O.mul (value O ρ a) (value O ρ b)
element O ρ (⊖ a) = O.neg (value O ρ a)

-- Where both tests pass, each does.
both : (a b : Bool) → T (a && b) → T a × T b
both true b h = (tt, h)
both false b h = absurd h

-- Monomials that are found to be the same are equal.
same_mono_eq : (l m : List ℕ) → T (same_mono l m) → l ≡ m
same_mono_eq [] [] h = refl
same_mono_eq [] (w ∷ m) h = absurd h
same_mono_eq (v ∷ l) [] h = absurd h
same_mono_eq (v ∷ l) (w ∷ m) h =
    let hs = both (eqb v w) (same_mono l m) h in
    cc (eqb→eq v w hs.0, same_mono_eq l m hs.1)

module _ {O : Ops} (F : Field O) (ρ : List ℕ) where
  open O use {norm, add, neg, sub, mul}
  open F use {
    norm_add,
    norm_neg,
    norm_mul,
    add_norm,
    neg_norm,
    mul_norm,
    add_assoc,
    add-zero,
    mul_assoc,
    mul_one,
    mul-add,
    sub_neg,
  }

  -- The product of a monomial's variables.
  abbrev mono_value : List ℕ → ℕ
  mono_value [] = 1
  mono_value (v ∷ m) = mul (get_or ρ v 0) (mono_value m)

  -- A number with a sign.
  abbrev with_sign : Bool → ℕ → ℕ
  with_sign true x = x
  with_sign false x = neg x

  -- What a term says.
  abbrev term_value : Term → ℕ
  term_value (signed s m) = with_sign s (mono_value m)

  -- The sum of a polynomial's terms.
  abbrev poly_value : List Term → ℕ
  poly_value [] = 0
  poly_value (t ∷ p) = add (term_value t) (poly_value p)

  -- A monomial says an element.
  norm_mono_value : (m : List ℕ) → norm (mono_value m) ≡ mono_value m
  norm_mono_value [] = ring-laws.norm_one F
  norm_mono_value (v ∷ m) = norm_mul _ _

  -- A polynomial says an element.
  norm_poly_value : (p : List Term) → norm (poly_value p) ≡ poly_value p
  norm_poly_value [] = ring-laws.norm_zero F
  norm_poly_value (t ∷ p) = norm_add _ _

  -- A monomial times a variable says the product with its value.
  mul_var_value : (v : ℕ) (m : List ℕ) → mono_value (mul_var v m) ≡ mul (get_or ρ v 0) (mono_value m)
  mul_var_value v [] = refl
  mul_var_value v (w ∷ m) = go (leb v w) (mul_var_value v m)
    where
      go : (first : Bool) → mono_value (mul_var v m) ≡ mul (get_or ρ v 0) (mono_value m)
          → mono_value (cond first (v ∷ w ∷ m) (w ∷ mul_var v m)) ≡ mul (get_or ρ v 0) (mul (get_or ρ w 0) (mono_value m))
      go true h = refl
      go false h = ap (mul (get_or ρ w 0)) h ∙ ring-laws.mul_left_comm F _ _ _

  -- The product of two monomials says the product of what they say.
  mul_mono_value : (l m : List ℕ) → mono_value (mul_mono l m) ≡ mul (mono_value l) (mono_value m)
  mul_mono_value [] m = sym (ring-laws.one_mul F _ ∙ norm_mono_value m)
  mul_mono_value (v ∷ l) m =
      mul_var_value v (mul_mono l m) ∙ ap (mul (get_or ρ v 0)) (mul_mono_value l m) ∙ sym (mul_assoc _ _ _)

  -- A monomial under the other sign says the opposite.
  opposite_signs : (s t : Bool) (m : List ℕ) → T (not (mul_sign s t)) → with_sign t (mono_value m) ≡ neg (with_sign s (mono_value m))
  opposite_signs true true m h = absurd h
  opposite_signs true false m h = refl
  opposite_signs false true m h = sym (ring-laws.neg_neg F (mono_value m) ∙ norm_mono_value m)
  opposite_signs false false m h = absurd h

  -- Terms that cancel say opposites.
  opposite_value : (t u : Term) → T (opposite t u) → term_value u ≡ neg (term_value t)
  opposite_value (signed s l) (signed t m) h =
      let hs = both (not (mul_sign s t)) (same_mono l m) h in
      ap (λ (k : List ℕ). with_sign t (mono_value k)) (sym (same_mono_eq l m hs.1)) ∙ opposite_signs s t l hs.0

  -- A polynomial with one more term says the sum with it.
  add_term_value : (t : Term) (p : List Term) → poly_value (add_term t p) ≡ add (term_value t) (poly_value p)
  add_term_value t [] = refl
  add_term_value t (u ∷ p) = go (opposite t u) (opposite_value t u) (add_term_value t p)
    where
      go : (gone : Bool) → (T gone → term_value u ≡ neg (term_value t)) → poly_value (add_term t p) ≡ add (term_value t) (poly_value p)
          → poly_value (cond gone p (u ∷ add_term t p)) ≡ add (term_value t) (add (term_value u) (poly_value p))
      go true e h =
          sym
          (ap (λ (x : ℕ). add (term_value t) (add x (poly_value p))) (e tt)
          ∙ ring-laws.cancel F (term_value t) (poly_value p)
          ∙ norm_poly_value p)
      go false e h = ap (add (term_value u)) h ∙ ring-laws.add_left_comm F _ _ _

  -- The sum of two polynomials says the sum of what they say.
  add_poly_value : (p q : List Term) → poly_value (add_poly p q) ≡ add (poly_value p) (poly_value q)
  add_poly_value [] q = sym (ring-laws.zero-add F _ ∙ norm_poly_value q)
  add_poly_value (t ∷ p) q =
      add_term_value t (add_poly p q) ∙ ap (add (term_value t)) (add_poly_value p q) ∙ sym (add_assoc _ _ _)

  -- The sign of a product is the product of the signs.
  mul_sign_value : (s t : Bool) (x y : ℕ) → with_sign (mul_sign s t) (mul x y) ≡ mul (with_sign s x) (with_sign t y)
  mul_sign_value true true x y = refl
  mul_sign_value true false x y = sym (ring-laws.mul_neg F x y)
  mul_sign_value false true x y = sym (ring-laws.neg_mul F x y)
  mul_sign_value false false x y =
      sym
      (ring-laws.neg_mul F x (neg y)
      ∙ ap neg (ring-laws.mul_neg F x y)
      ∙ ring-laws.neg_neg F _
      ∙ norm_mul x y)

  -- The product of two terms says the product of what they say.
  mul_term_value : (t u : Term) → term_value (mul_term t u) ≡ mul (term_value t) (term_value u)
  mul_term_value (signed s l) (signed t m) =
      ap (with_sign (mul_sign s t)) (mul_mono_value l m) ∙ mul_sign_value s t (mono_value l) (mono_value m)

  -- A polynomial times a term says the product with it.
  scale_value : (t : Term) (p : List Term) → poly_value (scale t p) ≡ mul (term_value t) (poly_value p)
  scale_value t [] = sym (ring-laws.mul_zero F _)
  scale_value t (u ∷ p) =
      add_term_value (mul_term t u) (scale t p)
      ∙ cc (mul_term_value t u, scale_value t p)
      ∙ sym (mul-add (term_value t) (term_value u) (poly_value p))

  -- The product of two polynomials says the product of what they say.
  mul_poly_value : (p q : List Term) → poly_value (mul_poly p q) ≡ mul (poly_value p) (poly_value q)
  mul_poly_value [] q = sym (ring-laws.zero_mul F _)
  mul_poly_value (t ∷ p) q =
      add_poly_value (scale t q) (mul_poly p q)
      ∙ cc (scale_value t q, mul_poly_value p q)
      ∙ sym (ring-laws.add_mul F (term_value t) (poly_value p) (poly_value q))

  -- The opposite of a term says the opposite.
  neg_term_value : (t : Term) → term_value (neg_term t) ≡ neg (term_value t)
  neg_term_value (signed true m) = refl
  neg_term_value (signed false m) = sym (ring-laws.neg_neg F (mono_value m) ∙ norm_mono_value m)

  -- The opposite of a polynomial says the opposite.
  neg_poly_value : (p : List Term) → poly_value (neg_poly p) ≡ neg (poly_value p)
  neg_poly_value [] = sym (ring-laws.neg_zero F)
  neg_poly_value (t ∷ p) = cc (neg_term_value t, neg_poly_value p, ring-laws.neg_sum F (term_value t) (poly_value p))

  -- An expression multiplied out says the element of what it says.
  poly_value_lem : (e : Expr) → poly_value (poly e) ≡ norm (value O ρ e)
  poly_value_lem (var v) = add-zero _ ∙ norm_mul _ _ ∙ mul_one _
  poly_value_lem zer = sym (ring-laws.norm_zero F)
  poly_value_lem one = add-zero 1
  poly_value_lem (a ⊕ b) =
      add_poly_value (poly a) (poly b)
      ∙ cc (poly_value_lem a, poly_value_lem b)
      ∙ add_norm _ _
      ∙ ring-laws.add_norm_r F _ _
      ∙ sym (norm_add _ _)
  poly_value_lem (a ⊝ b) =
      add_poly_value (poly a) (neg_poly (poly b))
      ∙ cc (poly_value_lem a, neg_poly_value (poly b), poly_value_lem b)
      ∙ add_norm _ _
      ∙ ap (add (value O ρ a)) (neg_norm (value O ρ b))
      ∙ sym (sub_neg _ _)
      ∙ sym (ring-laws.norm_sub F _ _)
  poly_value_lem (a ⊗ b) =
      mul_poly_value (poly a) (poly b)
      ∙ cc (poly_value_lem a, poly_value_lem b)
      ∙ mul_norm _ _
      ∙ ring-laws.mul_norm_r F _ _
      ∙ sym (norm_mul _ _)
  poly_value_lem (⊖ a) = neg_poly_value (poly a) ∙ ap neg (poly_value_lem a) ∙ neg_norm _ ∙ sym (norm_neg _)

  -- The element of what an expression says is the element that it says.
  norm_value : (e : Expr) → norm (value O ρ e) ≡ element O ρ e
  norm_value (var v) = refl
  norm_value zer = ring-laws.norm_zero F
  norm_value one = ring-laws.norm_one F
  norm_value (a ⊕ b) = norm_add _ _
  norm_value (a ⊝ b) = ring-laws.norm_sub F _ _
  norm_value (a ⊗ b) = norm_mul _ _
  norm_value (⊖ a) = norm_neg _

  -- A polynomial with no term left says zero.
  is_nil_value : (p : List Term) → T (is_nil p) → poly_value p ≡ 0
  is_nil_value [] h = refl
  is_nil_value (t ∷ p) h = absurd h

  -- Expressions that are the same polynomial say the same element.
  pub ring : (a b : Expr) → T (equal a b) → element O ρ a ≡ element O ρ b
  ring a b h =
      sym (norm_value a)
      ∙ ring-laws.sub_zero_eq F (value O ρ a) (value O ρ b)
      (sym (ring-laws.norm_sub F _ _) ∙ sym (poly_value_lem (a ⊝ b)) ∙ is_nil_value (poly (a ⊝ b)) h)
      ∙ norm_value b

-- An expression in n variables, as a function of them.
abbrev pub ExprOf : ℕ → Type 0
ExprOf zero = Expr
ExprOf (suc n) = Expr → ExprOf n

-- The expression itself, with its variables numbered from k.
abbrev pub at : (n k : ℕ) → ExprOf n → Expr
at zero k e = e
at (suc n) k e = at n (suc k) (e (var k))

-- The statement P of every list of n values.
abbrev pub Every : ℕ → (List ℕ → Type 0) → Type 0
Every zero P = P []
Every (suc n) P = (x : ℕ) → Every n (λ ρ. P (x ∷ ρ))

-- What holds of every list holds of every list of n values.
every : (n : ℕ) {P : List ℕ → Type 0} → ((ρ : List ℕ) → P ρ) → Every n P
every zero h = h []
every (suc n) h = λ x. every n (λ ρ. h (x ∷ ρ))

-- An identity between two expressions in n variables, of every n numbers: `identity F 2 (λ x y. x ⊕ y) (λ x y. y ⊕ x) tt` says that
-- sums commute. The last argument is `tt` wherever the identity holds.
pub identity : {O : Ops} (F : Field O) (n : ℕ) (a b : ExprOf n) → T (equal (at n 0 a) (at n 0 b))
    → Every n (λ ρ. element O ρ (at n 0 a) ≡ element O ρ (at n 0 b))
identity F n a b h = every n (λ ρ. ring F ρ (at n 0 a) (at n 0 b) h)

module _ {O : Ops} (F : Field O) where
  open O use {norm, add, sub, mul}

  -- Beaver's identity, with the masked differences e = x - a and d = y - b.
  pub beaver : (x y a b : ℕ)
      → mul x y
      ≡ add (add (add (mul a b) (mul (sub x a) b)) (mul (sub y b) a)) (mul (sub x a) (sub y b))
  beaver =
      identity F 4 (λ x y a b. x ⊗ y)
      (λ x y a b. a ⊗ b ⊕ (x ⊝ a) ⊗ b ⊕ (y ⊝ b) ⊗ a ⊕ (x ⊝ a) ⊗ (y ⊝ b)) tt

  -- The difference of two squares.
  squares : (x y : ℕ) → mul (sub x y) (add x y) ≡ sub (mul x x) (mul y y)
  squares = identity F 2 (λ x y. (x ⊝ y) ⊗ (x ⊕ y)) (λ x y. x ⊗ x ⊝ y ⊗ y) tt

  -- The square of a sum.
  square : (x y : ℕ) → mul (add x y) (add x y) ≡ add (add (mul x x) (add (mul x y) (mul x y))) (mul y y)
  square = identity F 2 (λ x y. (x ⊕ y) ⊗ (x ⊕ y)) (λ x y. x ⊗ x ⊕ (x ⊗ y ⊕ x ⊗ y) ⊕ y ⊗ y) tt

  -- A difference and what was taken away make up the whole.
  made_up : (x y : ℕ) → add (sub x y) y ≡ norm x
  made_up = identity F 2 (λ x y. x ⊝ y ⊕ y) (λ x y. x) tt
