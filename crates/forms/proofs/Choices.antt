-- Tests and choices taken apart: which side of an or holds, which arm of a choice was taken, which state a test let through.
-- Assumes nothing.
use mathlib.Core.Path.{◌≡◌, refl, subst}
use mathlib.Core.Bool.{Bool, true, false, cond, ◌||◌}
use mathlib.Core.Option.{Option, some, none, none-ne-some, some-injective}
use Rattle.forms.specs.Machine.{State, when}

pub or_elim : (a b : Bool) {G : Type 0} → (a || b) ≡ true → (a ≡ true → G) → (b ≡ true → G) → G
or_elim true b e f g = f refl
or_elim false b e f g = g e

pub or_left : (a b : Bool) → a ≡ true → (a || b) ≡ true
or_left a b e = rw e

pub or_right : (a b : Bool) → b ≡ true → (a || b) ≡ true
or_right true b e = refl
or_right false b e = e

pub cond_elim : {A : Type 0} (c : Bool) {x y z : A} {G : Type 0} → cond c x y ≡ z → (c ≡ true → x ≡ z → G) → (c ≡ false → y ≡ z → G) → G
cond_elim true e f g = f refl e
cond_elim false e f g = g refl e

pub some_is : {A : Type 0} {x y : A} → ◌≡◌ {A = Option A} (some x) (some y) → x ≡ y
some_is {x = x} {y = y} e = some-injective x y e

pub none_no : {A G : Type 0} {x : A} → ◌≡◌ {A = Option A} none (some x) → G
none_no {x = x} e = absurd (none-ne-some x e)

-- what holds of the state that a test lets through holds of the state reached
pub when_elim : (c : Bool) {s t : State} → when c s ≡ some t → (P : State → Type 0) → (c ≡ true → P s) → P t
unfolding when
when_elim true e P f = subst P (some_is e) (f refl)
when_elim false e P f = none_no e
