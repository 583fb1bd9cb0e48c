-- A form that fits is read, from where an operand or a row begins, to the form in its place. So a sheet is read to its rows.
-- Assumes nothing.
use Prim.Native.Nat.{ℕ}
use mathlib.Core.Path.{◌≡◌, refl, sym, ap, ◌∙◌}
use mathlib.Core.Bool.{Bool, true}
use mathlib.Core.List.{List, [], ◌∷◌, ◌++◌, append-nil, append_assoc}
use mathlib.Core.Option.{some}
use Rattle.circuit.proofs.Tests.{false_no}
use Rattle.forms.specs.Words.{Head, Sort, Leaf, One, Two, Scaled, sort, stands}
use Rattle.forms.specs.Form.{
  Form,
  one,
  two,
  marks,
  number_fits,
  begin,
  print,
  print_rows,
  decimal,
  Fits,
  leaf_fits,
  one_fits,
  two_fits,
  scaled_fits,
  Follow,
  Sheet,
  closing,
  space,
  feed,
}
use Rattle.forms.specs.Machine.{
  Frame,
  first,
  second,
  plain,
  after,
  start,
  number,
  made,
  State,
  at,
  origin,
  is_nil,
  when,
  any_named,
  may,
  whose,
  closed,
  begun,
  operand,
  handed,
  step,
  steps,
}
use Rattle.forms.proofs.Table.{holds, holder_names_none}
use Rattle.forms.proofs.Stepping.{steps_cons, steps_one, steps_then}
use Rattle.forms.proofs.Spelling.{may_stand, steps_word}
use Rattle.forms.proofs.Numerals.{named_any, steps_number}

-- where words may stand -------------------------------------------------------------------------------------------------

module _ (rows : List Form) (o : Bool) (h : Head) (e : stands o h ≡ true) where
  -- a word that begins with an operand
  pub may_hold_lem : holds (sort h) ≡ true → may (any_named (marks rows)) o h ≡ true
  may_hold_lem k = may_stand (any_named (marks rows)) o h e (λ q. false_no (sym (holder_names_none h k) ∙ q))

  -- a word whose number fits
  pub may_count : (top n : ℕ) → number_fits top rows h n ≡ true → may (any_named (marks rows)) o h ≡ true
  unfolding number_fits
  may_count top n f = may_stand (any_named (marks rows)) o h e (λ q. named_any (marks rows) n (rw q at f))

-- forms -----------------------------------------------------------------------------------------------------------------

module _ (top : ℕ) (rows : List Form) where
  -- a whole word and its space, by the sort of the word
  pub steps_begin : (stack : List Frame) (h : Head) (k : Sort) → sort h ≡ k → may (any_named (marks rows)) (is_nil stack) h ≡ true →
      steps top (at rows stack start) (begin h) ≡ some (begun rows stack h k)
  steps_begin stack h k s m = steps_word top rows stack h m ∙ ap (λ (x : Sort). some (begun rows stack h x)) s

  -- the byte after a form
  pub steps_handed : (stack : List Frame) (f : Form) (b : ℕ) (t : State) → handed rows stack f b ≡ some t →
      steps top (at rows stack (made f)) (b ∷ []) ≡ some t
  steps_handed stack f b t e = steps_one top (at rows stack (made f)) b (unfold step in e)

  -- the byte after a first operand
  pub steps_operand : (stack : List Frame) (h : Head) (f : Form) (k : Sort) (b : ℕ) (t : State) → sort h ≡ k → operand rows stack h f k b ≡ some t →
      steps top (at rows (first h ∷ stack) (made f)) (b ∷ []) ≡ some t
  steps_operand stack h f k b t s e = steps_handed (first h ∷ stack) f b t (unfold handed in rw s e)

  pub step_print : {o : Bool} {f : Form} → Fits top rows o f → (stack : List Frame) → is_nil stack ≡ o →
      steps top (at rows stack start) (print f) ≡ some (at rows stack (made f))
  unfolding print begun whose closed operand when is_nil handed
  step_print {o} (leaf_fits {h = h} {n = n} e s q) stack z =
      let m : may (any_named (marks rows)) (is_nil stack) h ≡ true = rw z (may_count rows o h e top n q) in
      let s₀ = at rows stack start in
      rw append_assoc
      (steps_then top (begin h) (decimal n ++ (closing ∷ [])) s₀ (steps_begin stack h Leaf s m) (steps_number top rows stack (plain h) n q))
  step_print {o} (one_fits {h = h} {f = f} e s F) stack z =
      let m : may (any_named (marks rows)) (is_nil stack) h ≡ true = rw z (may_hold_lem rows o h e (rw s)) in
      let s₀ = at rows stack start in
      steps_then top (begin h ++ print f) (closing ∷ []) s₀
      (steps_then top (begin h) (print f) s₀ (steps_begin stack h One s m) (step_print F (first h ∷ stack) refl))
      (steps_operand stack h f One closing (at rows stack (made (one h f))) s refl)
  step_print {o} (two_fits {h = h} {f = f} {g = g} e s F G) stack z =
      let m : may (any_named (marks rows)) (is_nil stack) h ≡ true = rw z (may_hold_lem rows o h e (rw s)) in
      let s₀ = at rows stack start in
      steps_then top (begin h ++ print f ++ (space ∷ []) ++ print g) (closing ∷ []) s₀
      (steps_then top (begin h ++ print f ++ (space ∷ [])) (print g) s₀
      (steps_then top (begin h ++ print f) (space ∷ []) s₀
      (steps_then top (begin h) (print f) s₀ (steps_begin stack h Two s m) (step_print F (first h ∷ stack) refl))
      (steps_operand stack h f Two space (at rows (second h f ∷ stack) start) s refl))
      (step_print G (second h f ∷ stack) refl))
      (steps_handed (second h f ∷ stack) g closing (at rows stack (made (two h f g))) refl)
  step_print {o} (scaled_fits {h = h} {f = f} {n = n} e s F q) stack z =
      let m : may (any_named (marks rows)) (is_nil stack) h ≡ true = rw z (may_hold_lem rows o h e (rw s)) in
      let s₀ = at rows stack start in
      rw (append_assoc (begin h ++ print f ++ (space ∷ [])) (decimal n) (closing ∷ []))
      (steps_then top (begin h ++ print f ++ (space ∷ [])) (decimal n ++ (closing ∷ [])) s₀
      (steps_then top (begin h ++ print f) (space ∷ []) s₀
      (steps_then top (begin h) (print f) s₀ (steps_begin stack h Scaled s m) (step_print F (first h ∷ stack) refl))
      (steps_operand stack h f Scaled space (at rows stack (number (after h f))) s refl))
      (steps_number top rows stack (after h f) n q))

-- sheets ----------------------------------------------------------------------------------------------------------------

module _ (top : ℕ) where
  -- rows that may follow are read to where they follow
  pub steps_follow : (rows fs : List Form) → Follow top rows fs → steps top (at rows [] start) (print_rows fs) ≡ some (at (rows ++ fs) [] start)
  unfolding Follow print_rows
  steps_follow rows [] F = unfold steps in rw append-nil
  steps_follow rows (f ∷ fs) F =
      rw append_assoc
      (steps_then top (print f) ((feed ∷ []) ++ print_rows fs) (at rows [] start) (step_print top rows F.0 [] (unfold is_nil in refl))
      (steps_cons top (at rows [] (made f)) feed (print_rows fs) {t = at (rows ++ (f ∷ [])) [] start} (unfold step handed when in refl)
      ∙ (steps_follow (rows ++ (f ∷ [])) fs F.1 ∙ ap (λ (l : List Form). some (at l [] start)) (append_assoc rows (f ∷ []) fs))))

  pub steps_rows : (rows : List Form) → Sheet top rows → steps top origin (print_rows rows) ≡ some (at rows [] start)
  unfolding Sheet
  steps_rows rows S = steps_follow [] rows S
