-- A step keeps a state good: every finished form fits where it stands, a word begun is the beginning of one that may stand there, and digits are
-- the beginning of a number or a name that may.
-- Assumes nothing.
use Prim.Native.Nat.{ℕ, ◌+◌, ◌*◌, ◌-◌}
use mathlib.Core.Path.{◌≡◌, refl, subst}
use mathlib.Core.Bool.{Bool, true, false, not, ◌&&◌}
use mathlib.Core.List.{List, [], ◌∷◌, ◌++◌, append-nil, append_assoc}
use mathlib.Core.Option.{Option, some, none}
use lib.Dec.{eqb}
use Rattle.circuit.specs.Gate.{decode}
use Rattle.circuit.specs.Kind.{kind_shape, is_class}
use Rattle.circuit.proofs.Tests.{both_right}
use Rattle.forms.specs.Words.{Head, Sort, Leaf, One, Two, Scaled, heads, sort, valued, outer, inner, stands}
use Rattle.forms.specs.Form.{
  Form,
  marks,
  number_fits,
  Fits,
  leaf_fits,
  one_fits,
  two_fits,
  scaled_fits,
  Follow,
  Sheet,
  opening,
  closing,
  space,
  feed,
  naught,
  ten,
}
use Rattle.forms.specs.Machine.{
  Frame,
  first,
  second,
  Numbered,
  plain,
  after,
  Focus,
  start,
  spelling,
  number,
  digit,
  made,
  State,
  at,
  origin,
  is_nil,
  starts,
  any_named,
  may,
  word_lives,
  word_is,
  is_digit,
  whose,
  number_lives,
  closed,
  begun,
  begun_as,
  operand,
  handed,
  step,
  steps,
}
use Rattle.forms.proofs.Choices.{cond_elim, when_elim, some_is, none_no}
use Rattle.forms.proofs.Table.{holds}
use Rattle.forms.proofs.Stepping.{steps_split}
use Rattle.forms.proofs.Spelt.{word_found}
use Rattle.forms.proofs.Spelling.{may_stands}

-- the empty word begins every word, and an (in S) may stand anywhere
empty_lives : (any o : Bool) → word_lives heads any o [] ≡ true
unfolding word_lives starts may stands outer inner valued is_class kind_shape decode
empty_lives any true = refl
empty_lives any false = refl

module _ (top : ℕ) where
  -- a row more
  pub follow_snoc : (rows fs : List Form) (f : Form) → Follow top rows fs → Fits top (rows ++ fs) true f → Follow top rows (fs ++ (f ∷ []))
  unfolding Follow
  follow_snoc rows [] f F G = ((rw append-nil at G), tt)
  follow_snoc rows (g ∷ fs) f F G = (F.0, follow_snoc (rows ++ (g ∷ [])) fs f F.1 (rw (append_assoc rows (g ∷ []) fs) G))

  unfoldable pub GoodFrame : List Form → Bool → Frame → Type 0
  GoodFrame rows o (first h) = (stands o h ≡ true) × (holds (sort h) ≡ true)
  GoodFrame rows o (second h f) = (stands o h ≡ true) × (sort h ≡ Two) × Fits top rows false f

  unfoldable pub GoodStack : List Form → List Frame → Type 0
  GoodStack rows [] = Unit {0}
  GoodStack rows (x ∷ xs) = GoodFrame rows (is_nil xs) x × GoodStack rows xs

  unfoldable pub GoodNumbered : List Form → Bool → Numbered → Type 0
  GoodNumbered rows o (plain h) = (may (any_named (marks rows)) o h ≡ true) × (sort h ≡ Leaf)
  GoodNumbered rows o (after h f) = (stands o h ≡ true) × (sort h ≡ Scaled) × Fits top rows false f

  unfoldable pub GoodFocus : List Form → Bool → Focus → Type 0
  GoodFocus rows o start = Unit {0}
  GoodFocus rows o (spelling w) = word_lives heads (any_named (marks rows)) o w ≡ true
  GoodFocus rows o (number p) = GoodNumbered rows o p
  GoodFocus rows o (digit p v) = GoodNumbered rows o p × (number_lives top rows (whose p) v ≡ true)
  GoodFocus rows o (made f) = Fits top rows o f

  pub record Good (s : State) : Type 0 where
    pub sheet : Sheet top s.rows
    pub stacked : GoodStack s.rows s.stack
    pub focused : GoodFocus s.rows (is_nil s.stack) s.focus

  pub origin_good : Good origin
  unfolding GoodStack GoodFocus Sheet Follow
  origin_good = record { sheet = tt; stacked = tt; focused = tt }

  -- a number and its bracket make a form that fits
  pub closed_fits : (rows : List Form) (o : Bool) (p : Numbered) (n : ℕ) → GoodNumbered rows o p → number_fits top rows (whose p) n ≡ true →
      Fits top rows o (closed p n)
  unfolding GoodNumbered closed whose
  closed_fits rows o (plain h) n N e = leaf_fits (may_stands (any_named (marks rows)) o h N.0) N.1 e
  closed_fits rows o (after h f) n N e = scaled_fits N.0 N.1 N.2 e

  -- one step ------------------------------------------------------------------------------------------------------------

  module _ (rows : List Form) (S : Sheet top rows) where
    good : (stack : List Frame) (x : Focus) → GoodStack rows stack → GoodFocus rows (is_nil stack) x → Good (at rows stack x)
    good stack x G N = record { sheet = S; stacked = G; focused = N }

    begun_good : (stack : List Frame) (h : Head) (k : Sort) → GoodStack rows stack → sort h ≡ k → may (any_named (marks rows)) (is_nil stack) h ≡ true →
        Good (begun rows stack h k)
    unfolding begun GoodStack GoodFrame GoodFocus GoodNumbered is_nil
    begun_good stack h Leaf G s m = good stack (number (plain h)) G (m, s)
    begun_good stack h One G s m = good (first h ∷ stack) start ((may_stands (any_named (marks rows)) (is_nil stack) h m, rw s), G) tt
    begun_good stack h Two G s m = good (first h ∷ stack) start ((may_stands (any_named (marks rows)) (is_nil stack) h m, rw s), G) tt
    begun_good stack h Scaled G s m = good (first h ∷ stack) start ((may_stands (any_named (marks rows)) (is_nil stack) h m, rw s), G) tt

    space_good : (stack : List Frame) (w : List ℕ) (r : Option Head) (t : State) → GoodStack rows stack →
        word_is heads (any_named (marks rows)) (is_nil stack) w ≡ r → begun_as rows stack r ≡ some t → Good t
    unfolding begun_as
    space_good stack w none t G p e = none_no e
    space_good stack w (some h) t G p e =
        subst Good (some_is e) (begun_good stack h (sort h) G refl (word_found heads (any_named (marks rows)) (is_nil stack) w h p).stands)

    operand_good : (stack : List Frame) (h : Head) (f : Form) (k : Sort) (b : ℕ) (t : State) → GoodStack rows stack → stands (is_nil stack) h ≡ true →
        sort h ≡ k → Fits top rows false f → operand rows stack h f k b ≡ some t → Good t
    unfolding operand GoodStack GoodFrame GoodFocus GoodNumbered is_nil
    operand_good stack h f Leaf b t G e s F q = none_no q
    operand_good stack h f One b t G e s F q = when_elim (eqb b closing) q Good (λ ok. record { sheet = S; stacked = G; focused = one_fits e s F })
    operand_good stack h f Two b t G e s F q = when_elim (eqb b space) q Good (λ ok. good (second h f ∷ stack) start ((e, s, F), G) tt)
    operand_good stack h f Scaled b t G e s F q = when_elim (eqb b space) q Good (λ ok. good stack (number (after h f)) G (e, s, F))

    handed_good : (stack : List Frame) (f : Form) (b : ℕ) (t : State) → GoodStack rows stack → Fits top rows (is_nil stack) f →
        handed rows stack f b ≡ some t → Good t
    unfolding handed GoodStack GoodFrame GoodFocus is_nil
    handed_good [] f b t G F e =
        when_elim (eqb b feed) e Good (λ ok. record { sheet = unfold Sheet in follow_snoc [] rows f S F; stacked = tt; focused = tt })
    handed_good (first h ∷ stack) f b t G F e = operand_good stack h f (sort h) b t G.1 G.0.0 refl F e
    handed_good (second h f ∷ stack) g b t G F e =
        when_elim (eqb b closing) e Good (λ ok. record { sheet = S; stacked = G.1; focused = two_fits G.0.0 G.0.1 G.0.2 F })

    focus_good : (stack : List Frame) (x : Focus) (b : ℕ) (t : State) → GoodStack rows stack → GoodFocus rows (is_nil stack) x →
        step top (at rows stack x) b ≡ some t → Good t
    unfolding step GoodFocus
    focus_good stack start b t G N e =
        when_elim (eqb b opening) e Good (λ ok. good stack (spelling []) G (empty_lives (any_named (marks rows)) (is_nil stack)))
    focus_good stack (spelling w) b t G N e =
        cond_elim (eqb b space) e
        (λ p q. space_good stack w (word_is heads (any_named (marks rows)) (is_nil stack) w) t G refl q)
        (λ p q.
        when_elim (word_lives heads (any_named (marks rows)) (is_nil stack) (w ++ (b ∷ []))) q Good (λ ok. good stack (spelling (w ++ (b ∷ []))) G ok))
    focus_good stack (number p) b t G N e =
        when_elim (is_digit b && number_lives top rows (whose p) (b - naught)) e Good
        (λ ok. good stack (digit p (b - naught)) G (N, both_right (is_digit b) (number_lives top rows (whose p) (b - naught)) ok))
    focus_good stack (digit p v) b t G N e =
        cond_elim (eqb b closing) e
        (λ c q.
        when_elim (number_fits top rows (whose p) v) q Good (λ ok. good stack (made (closed p v)) G (closed_fits rows (is_nil stack) p v N.0 ok)))
        (λ c q.
        when_elim (is_digit b && not (eqb v 0) && number_lives top rows (whose p) (v * ten + (b - naught))) q Good
        (λ ok.
        good stack (digit p (v * ten + (b - naught))) G
        (N.0, both_right (is_digit b && not (eqb v 0)) (number_lives top rows (whose p) (v * ten + (b - naught))) ok)))
    focus_good stack (made f) b t G N e = handed_good stack f b t G N e

  pub step_good : (s : State) (b : ℕ) (t : State) → Good s → step top s b ≡ some t → Good t
  step_good s b t g e = focus_good s.rows g.sheet s.stack s.focus b t g.stacked g.focused e

  pub steps_good : (s : State) (bs : List ℕ) (t : State) → Good s → steps top s bs ≡ some t → Good t
  unfolding steps
  steps_good s [] t g e = subst Good (some_is e) g
  steps_good s (b ∷ bs) t g e =
      let o = steps_split top s b bs t e in
      steps_good o.next bs t (step_good s b o.next g o.one) o.others
