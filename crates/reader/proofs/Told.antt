-- What a callee promised, at the answer that it gave, and what `?` hands on of it.
-- Assumes nothing.
use Prim.Native.Nat.{ℕ, ◌≤◌}
use mathlib.Core.Path.{◌≡◌, refl, sym}
use mathlib.Core.Bool.{Bool, true, false, not}
use mathlib.Core.List.{List}
use native.Mathlib.Omega.{arith}
use lib.Dec.{eqb}
use borrow.Author.Tests.{eqb-true, eqb-false, not-true, not-false}
use Rattle.std.specs.Prelude.{Result, Ok, Err, MatchResult}
use Rattle.std.specs.Result.{IsErrAnd}
use Rattle.circuit.specs.Verdict.{Accepted, Refused, ask}
use Rattle.circuit.specs.Question.{number_of}
use Rattle.circuit.specs.declared.questions.Refusal.{Refusal}
use Rattle.circuit.specs.declared.questions.Question.TheVariants.{Form}
use Rattle.circuit.proofs.Verdicts.{ask_true, refused_no}
use Rattle.field.specs.Words.{largest}
use Rattle.forms.specs.declared.Head.{Head}
use Rattle.forms.specs.Machine.{reading, No}
use Rattle.reader.specs.declared.Operand.{Operand}
use Rattle.reader.specs.Code.{Place, Stopped, Told, Full, Closes, Placed, RowsTold}

-- a question that was answered with yes
pub said_yes : (number index : ℕ) {b : Bool} → Accepted ≡ ask number index b → b ≡ true
said_yes number index {b} h = ask_true number index b (sym h)

-- with no: what is so of its number and index is so of the refusal
pub said_no : (S : ℕ → ℕ → Type 0) (number index : ℕ) {b : Bool} (e : Refusal) → Refused (number_of e.question) e.index ≡ ask number index b
    → (b ≡ false → S number index) → S (number_of e.question) e.index
unfolding ask
said_no S number index {b = true} e h f = refused_no h
said_no S number index {b = false} e h f =
    let n : number_of e.question ≡ number = cc in
    let i : e.index ≡ index = cc in
    rw (n, i) (f refl)

-- words and numbers
pub placed_ok : {T : Type 0} (r : Result T ℕ) (P : T → Type 0) (Q : ℕ → Type 0) {x : T} → Placed r (Ok x) → MatchResult r P Q → P x
placed_ok (Ok y) P Q {x} h q = let e : x ≡ y = cc in rw e q
placed_ok (Err index) P Q h q = absurd (cc)

pub placed_err : {T : Type 0} (S : ℕ → ℕ → Type 0) (r : Result T ℕ) (P : T → Type 0) (Q : ℕ → Type 0) (e : Refusal)
    → Placed r (Err e) → MatchResult r P Q → ((index : ℕ) → Q index → S 22 index) → S (number_of e.question) e.index
placed_err S (Ok y) P Q e h q f = absurd (cc)
placed_err S (Err index) P Q e h q f = let d : e ≡ record { question = Form; index = index } = cc in rw d (f index q)

-- a refusal that is handed on
pub told_on : {place : Place} {text table : List ℕ} (before later : List ℕ) {from left count : ℕ} (r : Result Operand Refusal) (e : Refusal)
    → IsErrAnd r (λ y. y ≡ e) → Stopped place text table from left count (number_of e.question) e.index
    → Told place text table before later from left count r
told_on before later (Ok o) e h s = absurd h
told_on before later (Err y) e h s = rw h s

pub closes_on : (h : Head) (numbers before later : List ℕ) {at count : ℕ} (r : Result Operand Refusal) (e : Refusal)
    → IsErrAnd r (λ y. y ≡ e) → Full at count (number_of e.question) e.index → Closes h numbers before later at count r
closes_on h numbers before later (Ok o) e d s = absurd d
closes_on h numbers before later (Err y) e d s = rw d s

pub rows_on : (text later : List ℕ) (r : Result ℕ Refusal) (e : Refusal) → IsErrAnd r (λ y. y ≡ e)
    → reading largest text ≡ No (number_of e.question) e.index → RowsTold text later r
rows_on text later (Ok count) e h s = absurd h
rows_on text later (Err y) e h s = rw h s

-- how many forms may still be open, as the code asks
pub above : (number index left : ℕ) → Accepted ≡ ask number index (not (eqb left 0)) → 1 ≤ left
above number index left h =
    let d = eqb-false left 0 (not-true (eqb left 0) (said_yes number index h)) in omega arith

pub not_above : (left : ℕ) → not (eqb left 0) ≡ false → left ≡ 0
not_above left h = eqb-true left 0 (not-false (eqb left 0) h)
