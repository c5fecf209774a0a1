use Rattle.std.proofs.Common.{◌≡◌, true, List, ap, sym, subst, ◌∙◌}
use Rattle.commit_record.specs.Format.{is_valid}
use Rattle.commit_record.specs.declared.record.Phase.TheVariants.{Go}
use Rattle.commit_record.specs.declared.record.Entry.{Entry}
use Rattle.commit_driver.specs.Places.{decided_entries}
use Rattle.commit_driver.proofs.WayLemmas.{decided-valid}
use Rattle.commit_driver.proofs.decision.decided_text.Goals as goal

pub write-requires : goal.write-requires
write-requires c =
    let token = c.args.value.now.token in
    let moment = c.args.value.now.moment in
    subst (λ (es : List Entry). is_valid (record { phase = Go; token = token; moment = moment; entries = es }) ≡ true)
    (sym (c.in_ok-decided_entries.ensures ∙ ap (λ (es : List Entry). decided_entries es c.args.ways.now) c.items.ensures))
    (decided-valid c.args.value.now c.args.ways.now c.requires.ways c.requires.valid)
