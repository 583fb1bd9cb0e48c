-- `steps::sending::send_own` meets its contract: the class tells an input's word from the words of an opening, and the record is the gate's.
-- Assumes nothing.
use mathlib.Core.Path.{sym, ◌∙◌}
use native.Mathlib.Omega.{arith}
use mathlib.Core.List.{[]}
use Rattle.field.specs.Words.{ops}
use Rattle.protocol.specs.Send.{sent}
use Rattle.protocol.proofs.Sent.{overwrite_one, own_sends, sends_input, sends_opening, sent_input, sent_opening}
use Rattle.protocol.proofs.Readiness.{tail_part, part_below, part_longer, gate_there, own_owned, own_opens}
use Rattle.circuit.proofs.KindLaws.{shape_class, shape_openings}
use Rattle.steps.proofs.sending.send_own.Goals as goal

pub offset_bounds-prep-start : goal.offset_bounds-prep-start
offset_bounds-prep-start c =
    omega (arith, (sends_input _ _ _ _ 0 [] [] _ (own_sends _ _ _ _ c.requires.0 c.requires.1) (own_owned c.requires.0 (shape_class _ _ c.shape_at-s.ensures) (sym c.is_in.ensures ∙ c.if-is_in.true))).1, c.well_formed)

pub slice_bounds-input_word-count : goal.slice_bounds-input_word-count
slice_bounds-input_word-count c =
    omega (arith, (sends_input _ _ _ _ 0 [] [] _ (own_sends _ _ _ _ c.requires.0 c.requires.1) (own_owned c.requires.0 (shape_class _ _ c.shape_at-s.ensures) (sym c.is_in.ensures ∙ c.if-is_in.true))).1)

pub slice_bounds-input_word-start : goal.slice_bounds-input_word-start
slice_bounds-input_word-start c =
    omega (arith, (sends_input _ _ _ _ 0 [] [] _ (own_sends _ _ _ _ c.requires.0 c.requires.1) (own_owned c.requires.0 (shape_class _ _ c.shape_at-s.ensures) (sym c.is_in.ensures ∙ c.if-is_in.true))).1)

pub input_word-w-requires : goal.input_word-w-requires
input_word-w-requires c =
    let s = sends_input _ _ _ _ 0 [] [] _ (own_sends _ _ _ _ c.requires.0 c.requires.1) (own_owned c.requires.0 (shape_class _ _ c.shape_at-s.ensures) (sym c.is_in.ensures ∙ c.if-is_in.true)) in let e = tail_part c.args.at.prep c.args.prep.now in (part_longer c.args.at.prep 3 c.args.prep.now e (omega (arith, s.1)), part_below c.args.at.prep c.args.prep.now e s.2, s.3)

pub bounds-out-0 : goal.bounds-out-0
bounds-out-0 c =
    (sends_input _ _ _ _ 0 [] [] _ (own_sends _ _ _ _ c.requires.0 c.requires.1) (own_owned c.requires.0 (shape_class _ _ c.shape_at-s.ensures) (sym c.is_in.ensures ∙ c.if-is_in.true))).4

pub returns-then-is_in : goal.returns-then-is_in
unfolding sent
returns-then-is_in c =
    sent_input ops _ _ _ _ 0 [] [] _ c.requires.0 (own_owned c.requires.0 (shape_class _ _ c.shape_at-s.ensures) (sym c.is_in.ensures ∙ c.if-is_in.true)) (rw (c.input_word-w.ensures.is, tail_part c.args.at.prep c.args.prep.now, c.first_at-x.ensures) (overwrite_one _ _ (sends_input _ _ _ _ 0 [] [] _ (own_sends _ _ _ _ c.requires.0 c.requires.1) (own_owned c.requires.0 (shape_class _ _ c.shape_at-s.ensures) (sym c.is_in.ensures ∙ c.if-is_in.true))).4))

pub factor_at-z-requires : goal.factor_at-z-requires
factor_at-z-requires c =
    (gate_there _ _ _ _ _ c.requires.0, shape_openings _ _ c.shape_at-s.ensures)

pub offset_bounds-prep-start-2 : goal.offset_bounds-prep-start-2
offset_bounds-prep-start-2 c =
    omega (arith, (sends_opening _ _ _ _ 0 [] [] _ (own_sends _ _ _ _ c.requires.0 c.requires.1) (own_opens c.requires.0 (shape_class _ _ c.shape_at-s.ensures) (sym c.is_in.ensures ∙ c.if-is_in.false)) (record { first = c.first_at-x.ensures; second = c.factor_at-z.ensures; openings = shape_openings _ _ c.shape_at-s.ensures })).3, c.well_formed)

pub slice_bounds-opening_words-count : goal.slice_bounds-opening_words-count
slice_bounds-opening_words-count c =
    omega (arith, (sends_opening _ _ _ _ 0 [] [] _ (own_sends _ _ _ _ c.requires.0 c.requires.1) (own_opens c.requires.0 (shape_class _ _ c.shape_at-s.ensures) (sym c.is_in.ensures ∙ c.if-is_in.false)) (record { first = c.first_at-x.ensures; second = c.factor_at-z.ensures; openings = shape_openings _ _ c.shape_at-s.ensures })).3)

pub slice_bounds-opening_words-start : goal.slice_bounds-opening_words-start
slice_bounds-opening_words-start c =
    omega (arith, (sends_opening _ _ _ _ 0 [] [] _ (own_sends _ _ _ _ c.requires.0 c.requires.1) (own_opens c.requires.0 (shape_class _ _ c.shape_at-s.ensures) (sym c.is_in.ensures ∙ c.if-is_in.false)) (record { first = c.first_at-x.ensures; second = c.factor_at-z.ensures; openings = shape_openings _ _ c.shape_at-s.ensures })).3)

pub opening_words-requires : goal.opening_words-requires
opening_words-requires c =
    let s = sends_opening _ _ _ _ 0 [] [] _ (own_sends _ _ _ _ c.requires.0 c.requires.1) (own_opens c.requires.0 (shape_class _ _ c.shape_at-s.ensures) (sym c.is_in.ensures ∙ c.if-is_in.false)) (record { first = c.first_at-x.ensures; second = c.factor_at-z.ensures; openings = shape_openings _ _ c.shape_at-s.ensures }) in let e = tail_part c.args.at.prep c.args.prep.now in (s.5, s.6, s.7, s.1, s.2, part_longer c.args.at.prep _ c.args.prep.now e (omega (arith, s.3)), part_below c.args.at.prep c.args.prep.now e s.4, s.8)

pub returns : goal.returns
unfolding sent
returns c =
    sent_opening ops _ _ _ _ 0 [] [] _ c.requires.0 (own_opens c.requires.0 (shape_class _ _ c.shape_at-s.ensures) (sym c.is_in.ensures ∙ c.if-is_in.false)) (record { first = c.first_at-x.ensures; second = c.factor_at-z.ensures; openings = shape_openings _ _ c.shape_at-s.ensures }) (c.opening_words.ensures.out ∙ rw (tail_part c.args.at.prep c.args.prep.now))
