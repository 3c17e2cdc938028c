-- `seamwillow::sw_load` meets its contract: an image that is accepted is loaded and written back, any other is refused.
-- By the law of each of the two cases, from what the calls ensure.
use mathlib.Core.Path.{◌∙◌, refl, ap}
use Rattle.answers.specs.AnswerNumbers.{load_number}
use Rattle.record.specs.declared.Record.{Record}
use Rattle.record_image.specs.Image.{encoded}
use Rattle.seamwillow.specs.Laws.RefusedCalls.{compared, loaded_refused, loaded_done}
use Rattle.seamwillow.proofs.sw_load.Goals as goal

pub returns-then-not-matches : goal.returns-then-not-matches
returns-then-not-matches c =
    let a = c.args in
    let judged = compared _ _ _ c.decode-record.ensures c.matches.ensures in
    rw (loaded_refused a.state.now a.memory.now a.stream.now (judged ∙ c.if-not-matches.true))
    (record { value = c.refusal_number.ensures; state_after = refl; memory_after = refl; taken_after = refl })

pub returns : goal.returns
returns c =
    let a = c.args in
    let device = c.decode-record.ensures in
    let done = c.load-loaded.ensures in
    let judged = compared _ _ _ device c.matches.ensures in
    rw (loaded_done a.state.now a.memory.now a.stream.now (judged ∙ c.if-not-matches.false), ← device)
    (record {
      value = c.load_number.ensures ∙ ap load_number done.answer_value;
      state_after = c.encode.ensures ∙ ap (λ (d : Record). encoded d a.state.now) done.record_value;
      memory_after = done.memory_after;
      taken_after = done.taken_value;
    })
