use Rattle.std.proofs.Common.{arith, ◌≡◌, ◌≤◌, length, List, map, refl, ap, ◌∙◌, sym, subst}
use Rattle.message_state.specs.declared.mark.Mark.{Mark}
use Rattle.message_state.specs.declared.row.Row.{Row}
use Rattle.message_state.specs.declared.shown.Shown.{Shown}
use Rattle.command_desk.specs.Desks.{IsDesk}
use Rattle.session_asks.specs.Openings.{with_folder, plain, first_current, is_system}
use Rattle.session_asks.proofs.OpeningLemmas.{opened-desk}
use Rattle.session_asks.proofs.opening.opening_of.Goals as goal

pub returns : goal.returns
returns c =
    let rows = c.in_ok-rows.rows in
    let desk = c.args.state.now.desk in
    let marks : c.in_ok-marks.marks ≡ map (λ (row : Row). row.mark) rows = c.in_ok-marks.ensures ∙ ap (map (λ (row : Row). row.mark)) c.items.ensures in
    let system : c.in_ok-system.system ≡ is_system c.args.state.now c.args.name = rw c.bytes.ensures at c.in_ok-system.ensures in
    let within : first_current rows ≤ length rows = subst (λ (s : Shown). s.current ≤ length rows) c.in_ok-shown.ensures.shown c.in_ok-shown.ensures.current in
    let few = c.in_ok-rows.ensures.few in
    let plainly = opened-desk desk c.args.name c.args.folder c.in_ok-system.system rows c.requires.width c.in_ok-rows.ensures.rows c.in_ok-rows.ensures.years (omega (arith, few)) within in
    record {
      rows = rows;
      are = c.in_ok-rows.ensures.rows;
      size = c.in_ok-size.ensures.size;
      some = c.in_ok-size.ensures.some;
      folder = rw (marks, system) refl;
      shown = c.in_ok-shown.ensures.shown;
      valid = subst (λ (s : Shown). IsDesk (with_folder desk
          (record { name = c.args.name; system = c.in_ok-system.system; folder = c.args.folder; marks = c.in_ok-marks.marks }) s)) (sym c.in_ok-shown.ensures.shown)
          (subst (λ (ms : List Mark). IsDesk (with_folder desk (record { name = c.args.name; system = c.in_ok-system.system; folder = c.args.folder; marks = ms }) (plain rows))) (sym marks) plainly);
    }
