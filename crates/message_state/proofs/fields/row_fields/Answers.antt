use Rattle.std.proofs.Common.{List, ◌∙◌, subst}
use Rattle.mail_headers.specs.Header.{Entry}
use Rattle.message_state.proofs.FoundLemmas.{AreFound, are_found_first, are_found_step, are_found_last}
use Rattle.message_state.proofs.fields.row_fields.Goals as goal

pub returns-clause-fields : goal.returns-clause-fields
returns-clause-fields c =
    let left = λ (es : List Entry). AreFound c.args.text.now es c.loop-entry.fields in
    are_found_last c.args.text.now c.loop-entry.fields (subst left c.in-None.ensures.steps.0 c.loop-entry.invariant.2)

pub loop-entry-init : goal.loop-entry-init
loop-entry-init c = (
  tt,
  tt,
  are_found_first c.args.text.now _ (c.into_iter-entry-iterator.ensures.into_iter_gives ∙ c.cut_from_line-entries.ensures.entries),
)

pub loop-entry-preserved : goal.loop-entry-preserved
loop-entry-preserved c =
    let left = λ (es : List Entry). AreFound c.args.text.now es c.loop-entry.fields in
    let before = subst left c.in-Some.ensures.steps c.loop-entry.invariant.2 in
    (tt, tt, are_found_step c.args.text.now c.loop-entry.fields c.take_entry.new.fields c.in-Some.entry c.next.new.self c.take_entry.ensures before)
