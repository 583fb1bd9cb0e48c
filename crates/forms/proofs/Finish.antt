-- From every good state some text leads to the end of a row: the rest of a word, (in 0) for an operand, 0 for a number, the rest of a name that the
-- digits begin, brackets, and a line feed.
-- Assumes nothing.
use Prim.Native.Nat.{ℕ, zero, suc, ◌+◌, ◌/◌, ◌%◌, ◌≤◌}
use mathlib.Core.Path.{◌≡◌, refl, sym, ap, ◌∙◌}
use mathlib.Core.Bool.{Bool, true, false, cond, not, ◌&&◌, ◌||◌, false≢true}
use mathlib.Core.List.{List, [], ◌∷◌, ◌++◌}
use mathlib.Core.Option.{some}
use native.Mathlib.Omega.{arith}
use lib.Dec.{eqb, ltb, leb}
use borrow.Author.Tests.{eqb-true, le-leb, ltb-false, not-true}
use Rattle.circuit.specs.Gate.{decode}
use Rattle.circuit.specs.Kind.{kind_shape, is_class}
use Rattle.circuit.proofs.Tests.{both_left, both_right}
use Rattle.forms.specs.Words.{Head, In, Sort, Leaf, One, Two, Scaled, heads, letters, sort, names, valued, outer, inner, stands}
use Rattle.forms.specs.Form.{
  Form,
  leaf,
  one,
  two,
  scaled,
  marks,
  named,
  number_fits,
  print,
  decimal,
  Fits,
  leaf_fits,
  one_fits,
  two_fits,
  scaled_fits,
  closing,
  space,
  feed,
  naught,
  ten,
}
use Rattle.forms.specs.Machine.{
  Frame,
  first,
  second,
  Numbered,
  plain,
  after,
  Focus,
  start,
  spelling,
  number,
  digit,
  made,
  State,
  at,
  is_nil,
  when,
  starts,
  any_named,
  may,
  word_lives,
  begins,
  name_lives,
  whose,
  number_lives,
  closed,
  begun,
  operand,
  handed,
  steps,
}
use Rattle.forms.proofs.Choices.{or_elim}
use Rattle.forms.proofs.Table.{spaceless, letters_spaceless, holds, holder_names_none}
use Rattle.forms.proofs.Stepping.{steps_one, steps_then}
use Rattle.forms.proofs.Spelling.{may_stands, may_any, steps_letters, step_space}
use Rattle.forms.proofs.Numerals.{fits_lives, lives_tens, digit_last, step_closing, steps_number}
use Rattle.forms.proofs.Print.{steps_handed, steps_operand, step_print}
use Rattle.forms.proofs.Good.{Good, GoodFrame, GoodStack, GoodNumbered, GoodFocus, closed_fits}

-- what a test found, taken out ------------------------------------------------------------------------------------------

any_named_lem : (ms : List Bool) → any_named ms ≡ true → (n : ℕ) × (named ms n ≡ true)
unfolding any_named named
any_named_lem [] e = absurd (false≢true e)
any_named_lem (m ∷ ms) e = or_elim m (any_named ms) e (λ q. (0, q)) (λ q. let r = any_named_lem ms q in (suc r.0, r.1))

-- digits that live as a name begin that of a row with a value
pub record Begun (ms : List Bool) (j v : ℕ) : Type 0 where
  pub row : ℕ
  pub there : named ms row ≡ true
  pub begin : begins (j + row) v (j + row) ≡ true

name_begun_lem : (ms : List Bool) (j v : ℕ) → name_lives ms j v ≡ true → Begun ms j v
unfolding name_lives named
name_begun_lem [] j v e = absurd (false≢true e)
name_begun_lem (m ∷ ms) j v e =
    or_elim (m && begins j v j) (name_lives ms (suc j) v) e
    (λ q.
    let z : j + 0 ≡ j = omega arith in
    record { row = 0; there = both_left m (begins j v j) q; begin = rw z (both_right m (begins j v j) q) })
    (λ q.
    let r = name_begun_lem ms (suc j) v q in
    let z : j + suc r.row ≡ suc j + r.row = omega arith in
    record { row = suc r.row; there = r.there; begin = rw z r.begin })

starts_rest : (w x : List ℕ) → starts w x ≡ true → (r : List ℕ) × (w ++ r ≡ x)
unfolding starts
starts_rest [] x e = (x, refl)
starts_rest (a ∷ w) [] e = absurd (false≢true e)
starts_rest (a ∷ w) (b ∷ x) e =
    let r = starts_rest w x (both_right (eqb a b) (starts w x) e) in
    let h : a ≡ b = eqb-true a b (both_left (eqb a b) (starts w x) e) in
    let q : w ++ r.0 ≡ x = r.1 in
    (r.0, cc)

-- letters that live begin a word that may stand
pub record Beginning (any o : Bool) (w : List ℕ) : Type 0 where
  pub head : Head
  pub stands : may any o head ≡ true
  pub rest : List ℕ
  pub whole : w ++ rest ≡ letters head

word_begun : (hs : List Head) (any o : Bool) (w : List ℕ) → word_lives hs any o w ≡ true → Beginning any o w
unfolding word_lives
word_begun [] any o w e = absurd (false≢true e)
word_begun (h ∷ hs) any o w e =
    or_elim (starts w (letters h) && may any o h) (word_lives hs any o w) e
    (λ q.
    let r = starts_rest w (letters h) (both_left (starts w (letters h)) (may any o h) q) in
    record { head = h; stands = both_right (starts w (letters h)) (may any o h) q; rest = r.0; whole = r.1 })
    (λ q. word_begun hs any o w q)

spaceless_rest : (w r : List ℕ) → spaceless (w ++ r) ≡ true → spaceless r ≡ true
unfolding spaceless
spaceless_rest [] r e = e
spaceless_rest (x ∷ w) r e = spaceless_rest w r (both_right (not (eqb x space)) (spaceless (w ++ r)) e)

-- completions -----------------------------------------------------------------------------------------------------------

module _ (top : ℕ) where
  -- some text leads from a state to the end of a row
  pub record Ends (s : State) : Type 0 where
    pub rest : List ℕ
    pub rows : List Form
    pub leads : steps top s rest ≡ some (at rows [] start)

  leads_to_lem : (s : State) (w : List ℕ) {t : State} → steps top s w ≡ some t → Ends t → Ends s
  leads_to_lem s w e E = record { rest = w ++ E.rest; rows = E.rows; leads = steps_then top w E.rest s e E.leads }

  -- 0 fits where no name is wanted
  naught_fits : (rows : List Form) (h : Head) → names h ≡ false → number_fits top rows h 0 ≡ true
  unfolding number_fits
  naught_fits rows h n = rw n (le-leb 0 top (omega arith))

  -- (in 0) fits everywhere
  least_fits : (rows : List Form) (o : Bool) → Fits top rows o (leaf In 0)
  unfolding stands outer inner valued is_class kind_shape decode
  least_fits rows true = leaf_fits refl refl (naught_fits rows In refl)
  least_fits rows false = leaf_fits refl refl (naught_fits rows In refl)

  module _ (rows : List Form) where
    made_ends : (stack : List Frame) (f : Form) → GoodStack top rows stack → Fits top rows (is_nil stack) f → Ends (at rows stack (made f))
    unfolding GoodStack GoodFrame is_nil handed operand when
    made_ends [] f G F =
        record {
          rest = feed ∷ [];
          rows = rows ++ (f ∷ []);
          leads = steps_handed top rows [] f feed (at (rows ++ (f ∷ [])) [] start) refl;
        }
    made_ends (second h f ∷ stack) g G F =
        leads_to_lem (at rows (second h f ∷ stack) (made g)) (closing ∷ [])
        (steps_handed top rows (second h f ∷ stack) g closing (at rows stack (made (two h f g))) refl)
        (made_ends stack (two h f g) G.1 (two_fits G.0.0 G.0.1 G.0.2 F))
    made_ends (first h ∷ stack) f G F = go (sort h) refl (λ T t. made_ends stack T G.1 t)
      where
        s₀ : State
        s₀ = at rows (first h ∷ stack) (made f)

        go : (k : Sort) → sort h ≡ k → ((T : Form) → Fits top rows (is_nil stack) T → Ends (at rows stack (made T))) → Ends s₀
        go Leaf s r = absurd (false≢true (ap holds (sym s) ∙ G.0.1))
        go One s r =
            leads_to_lem s₀ (closing ∷ []) (steps_operand top rows stack h f One closing (at rows stack (made (one h f))) s refl)
            (r (one h f) (one_fits G.0.0 s F))
        go Two s r =
            leads_to_lem s₀ (space ∷ []) (steps_operand top rows stack h f Two space (at rows (second h f ∷ stack) start) s refl)
            (leads_to_lem (at rows (second h f ∷ stack) start) (print (leaf In 0)) (step_print top rows (least_fits rows false) (second h f ∷ stack) refl)
            (leads_to_lem (at rows (second h f ∷ stack) (made (leaf In 0))) (closing ∷ [])
            (steps_handed top rows (second h f ∷ stack) (leaf In 0) closing (at rows stack (made (two h f (leaf In 0)))) refl)
            (r (two h f (leaf In 0)) (two_fits G.0.0 s F (least_fits rows false)))))
        go Scaled s r =
            let z = naught_fits rows h (holder_names_none h G.0.1) in
            leads_to_lem s₀ (space ∷ []) (steps_operand top rows stack h f Scaled space (at rows stack (number (after h f))) s refl)
            (leads_to_lem (at rows stack (number (after h f))) (decimal 0 ++ (closing ∷ []))
            (steps_number top rows stack (after h f) 0 (unfold whose in z))
            (unfold closed in r (scaled h f 0) (scaled_fits {n = 0} G.0.0 s F z)))

    start_ends : (stack : List Frame) → GoodStack top rows stack → Ends (at rows stack start)
    start_ends stack G =
        let z = least_fits rows (is_nil stack) in
        leads_to_lem (at rows stack start) (print (leaf In 0)) (step_print top rows z stack refl) (made_ends stack (leaf In 0) G z)

    -- some number may stand: 0, or a row that can be named
    some_number : (o : Bool) (p : Numbered) → GoodNumbered top rows o p → (n : ℕ) × (number_fits top rows (whose p) n ≡ true)
    unfolding GoodNumbered whose number_fits
    some_number o (after h f) G = (0, naught_fits rows h (holder_names_none h (rw G.1)))
    some_number o (plain h) G = go (names h) (may_any (any_named (marks rows)) o h G.0)
      where
        go : (c : Bool) → (not c || any_named (marks rows)) ≡ true → (n : ℕ) × (cond c (named (marks rows) n) (leb n top) ≡ true)
        go true e = any_named_lem (marks rows) e
        go false e = (0, le-leb 0 top (omega arith))

    module _ (stack : List Frame) (G : GoodStack top rows stack) where
      module _ (p : Numbered) (N : GoodNumbered top rows (is_nil stack) p) where
        number_ends : Ends (at rows stack (number p))
        number_ends =
            let n = some_number (is_nil stack) p N in
            leads_to_lem (at rows stack (number p)) (decimal n.0 ++ (closing ∷ [])) (steps_number top rows stack p n.0 n.1)
            (made_ends stack (closed p n.0) G (closed_fits top rows (is_nil stack) p n.0 N n.1))

        fits_ends : (n : ℕ) → number_fits top rows (whose p) n ≡ true → Ends (at rows stack (digit p n))
        fits_ends n e =
            leads_to_lem (at rows stack (digit p n)) (closing ∷ [])
            (steps_one top (at rows stack (digit p n)) closing (step_closing top rows stack p n e))
            (made_ends stack (closed p n) G (closed_fits top rows (is_nil stack) p n N e))

        -- digits that begin a number lead to it
        reach : (k v j : ℕ) → begins k v j ≡ true → number_lives top rows (whose p) j ≡ true →
            (w : List ℕ) × (steps top (at rows stack (digit p v)) w ≡ some (at rows stack (digit p j)))
        unfolding begins
        reach zero v j e l = ([], unfold steps in rw (eqb-true v j e))
        reach (suc k) v j e l =
            or_elim (eqb v j) (not (ltb j ten) && begins k v (j / ten)) e
            (λ q. ([], unfold steps in rw (eqb-true v j q)))
            (λ q.
            let h : ten ≤ j = ltb-false j ten (not-true (ltb j ten) (both_left (not (ltb j ten)) (begins k v (j / ten)) q)) in
            let r = reach k v (j / ten) (both_right (not (ltb j ten)) (begins k v (j / ten)) q) (lives_tens top rows stack p j h l) in (
              r.0 ++ ((naught + j % ten) ∷ []),
              steps_then top r.0 ((naught + j % ten) ∷ []) (at rows stack (digit p v)) r.1 (digit_last top rows stack p j h l),
            ))

        digit_ends : (v : ℕ) → number_lives top rows (whose p) v ≡ true → Ends (at rows stack (digit p v))
        digit_ends v e = go (names (whose p)) refl
          where
            go : (c : Bool) → names (whose p) ≡ c → Ends (at rows stack (digit p v))
            go true q =
                let n = name_begun_lem (marks rows) 0 v (unfold number_lives in rw q at e) in
                let z : 0 + n.row ≡ n.row = omega arith in
                let f : number_fits top rows (whose p) n.row ≡ true = unfold number_fits in rw q n.there in
                let r = reach n.row v n.row (rw z at n.begin) (fits_lives top rows stack p n.row f) in
                leads_to_lem (at rows stack (digit p v)) r.0 r.1 (fits_ends n.row f)
            go false q = fits_ends v (unfold number_lives in rw q at e)

      begun_ends : (h : Head) (k : Sort) → sort h ≡ k → may (any_named (marks rows)) (is_nil stack) h ≡ true → Ends (begun rows stack h k)
      unfolding begun GoodStack GoodFrame GoodNumbered
      begun_ends h Leaf s m = number_ends (plain h) (m, s)
      begun_ends h One s m = start_ends (first h ∷ stack) ((may_stands (any_named (marks rows)) (is_nil stack) h m, rw s), G)
      begun_ends h Two s m = start_ends (first h ∷ stack) ((may_stands (any_named (marks rows)) (is_nil stack) h m, rw s), G)
      begun_ends h Scaled s m = start_ends (first h ∷ stack) ((may_stands (any_named (marks rows)) (is_nil stack) h m, rw s), G)

      letters_ends : (w : List ℕ) → word_lives heads (any_named (marks rows)) (is_nil stack) w ≡ true → Ends (at rows stack (spelling w))
      letters_ends w e =
          let b = word_begun heads (any_named (marks rows)) (is_nil stack) w e in
          let q : spaceless b.rest ≡ true = spaceless_rest w b.rest (rw b.whole (letters_spaceless b.head)) in
          leads_to_lem (at rows stack (spelling w)) b.rest (steps_letters top rows stack b.head b.stands w b.rest b.whole q)
          (leads_to_lem (at rows stack (spelling (w ++ b.rest))) (space ∷ [])
          (steps_one top (at rows stack (spelling (w ++ b.rest))) space
          (step_space top rows stack b.head b.stands (w ++ b.rest) b.whole))
          (begun_ends b.head (sort b.head) refl b.stands))

  pub finish : (s : State) → Good top s → Ends s
  unfolding GoodFocus
  finish s g = go s.focus g.focused
    where
      go : (x : Focus) → GoodFocus top s.rows (is_nil s.stack) x → Ends (at s.rows s.stack x)
      go start N = start_ends s.rows s.stack g.stacked
      go (spelling w) N = letters_ends s.rows s.stack g.stacked w N
      go (number p) N = number_ends s.rows s.stack g.stacked p N
      go (digit p v) N = digit_ends s.rows s.stack g.stacked p N.0 v N.1
      go (made f) N = made_ends s.rows s.stack f g.stacked N
