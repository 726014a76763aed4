use Rattle.std.proofs.Common.{ℕ, List, ◌∷◌, sym, ap, ◌∙◌}
use Rattle.of_script.specs.Text.{text_words}
use Rattle.of_script.proofs.Words.{ends_behind}
use Rattle.of_plan.specs.Reading.{reading_value}
use Rattle.of_plan.proofs.LineLaws.{named_is}
use Rattle.of_plan.proofs.UnknownLines.{differs, unknown_fed}
use Rattle.of_plan.proofs.parser.state.Reading.feed.Goals as goal

pub feed_script-requires-then-eq-clause-rest : goal.feed_script-requires-then-eq-clause-rest
feed_script-requires-then-eq-clause-rest c = ends_behind _ _ _ c.in-Some-word.ensures.parts

pub feed_title-requires-clause-rest : goal.feed_title-requires-clause-rest
feed_title-requires-clause-rest c = ends_behind _ _ _ c.in-Some-word.ensures.parts

pub feed_numbers-requires-clause-rest : goal.feed_numbers-requires-clause-rest
feed_numbers-requires-clause-rest c = ends_behind _ _ _ c.in-Some-word.ensures.parts

pub feed_numbers-requires-clause-words : goal.feed_numbers-requires-clause-words
feed_numbers-requires-clause-words c =
    c.in-Some-word.ensures.words ∙ ap (λ (w : List ℕ). w ∷ text_words c.in-Some-word.rest.now) (named_is c.in-Some-word.first.now c.in-Some-form_named.form (sym c.in-Some-form_named.ensures))

pub returns-in-None : goal.returns-in-None
returns-in-None c =
    unknown_fed (reading_value c.args.self.now) c.args.line.now c.in-Some-word.first.now (text_words c.in-Some-word.rest.now) _ _ c.in-Some-word.ensures.words c.if-first-eq35.false (sym c.in-None.ensures)
    (differs c.eq.result c.in-Some-word.first.now c.as_slice.result.now _ c.as_slice.ensures c.eq.ensures c.if-eq.false)
    (differs c.eq-2.result c.in-Some-word.first.now c.as_slice-2.result.now _ c.as_slice-2.ensures c.eq-2.ensures c.if-eq-2.false)
    c.bad_word.ensures.piece (c.bad_word.ensures.reason ∙ c.place_reason-reason.ensures)
