-- `seamwillow::sw_reconfigure` meets its contract: an image that is accepted is reconfigured and written back, any other is refused.
-- By the law of each of the two cases, from what the calls ensure.
use mathlib.Core.Path.{◌∙◌, refl, ap}
use Rattle.answers.specs.AnswerNumbers.{answer_number, answer_value}
use Rattle.record.specs.declared.Record.{Record}
use Rattle.layout.specs.Ownership.{range}
use Rattle.record_image.specs.Image.{encoded}
use Rattle.seamwillow.specs.Laws.RefusedCalls.{compared, reconfigured_refused, reconfigured_done}
use Rattle.seamwillow.proofs.sw_reconfigure.Goals as goal

pub returns-then-not-matches : goal.returns-then-not-matches
returns-then-not-matches c =
    let a = c.args in
    let judged = compared _ _ _ c.decode-record.ensures c.matches.ensures in
    rw (reconfigured_refused a.state.now a.memory.now (range a.first a.count) a.layout.now a.out.now (judged ∙ c.if-not-matches.true))
    (record { value = c.refusal_number.ensures; state_after = refl; memory_after = refl; out_after = refl; value_after = refl })

pub returns : goal.returns
returns c =
    let a = c.args in
    let device = c.decode-record.ensures in
    let done = c.reconfigure-done.ensures in
    let judged = compared _ _ _ device c.matches.ensures in
    rw (reconfigured_done a.state.now a.memory.now (range a.first a.count) a.layout.now a.out.now (judged ∙ c.if-not-matches.false), ← device)
    (record {
      value = c.answer_number.ensures ∙ ap answer_number done.answer_value;
      state_after = c.encode.ensures ∙ ap (λ (d : Record). encoded d a.state.now) done.record_value;
      memory_after = done.memory_after;
      out_after = done.output_after;
      value_after = c.answer_value.ensures ∙ ap answer_value done.answer_value;
    })
