use Rattle.std.proofs.Common.{sym, ap, ◌∙◌, List, map}
use Rattle.std.specs.Prelude.{slice_set}
use Rattle.message_state.specs.declared.row.Row.{Row}
use Rattle.message_state.specs.declared.mark.Mark.{Mark}
use Rattle.command_desk.proofs.EffectLemmas.{marked-marks}
use Rattle.command_desk.proofs.effects.mark_row.Goals as goal

pub returns-then-marking-items-clause-marks : goal.returns-then-marking-items-clause-marks
returns-then-marking-items-clause-marks c =
    ap (λ (l : List Mark). slice_set l c.args.marking.row c.after-mark.result) c.requires
    ∙ marked-marks c.args.rows.now c.args.marking.row c.after-mark.result
    ∙ ap (map (λ (row : Row). row.mark)) (sym c.set_mark.ensures)
