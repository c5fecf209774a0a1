-- What a command changes, and the desk that it leaves.
use Rattle.std.specs.Prelude.{ℕ, Bool, ◌-◌, ◌==◌, true, false, List, [], map, slice_get, slice_set, Option, None, Some, unwrap_or, if◌then◌else◌}
use Rattle.std.specs.List.{fold}
use Rattle.std.specs.Option.{option_map_or}
use Rattle.mailx_vars.specs.Changes.{changed}
use Rattle.mailx_vars.specs.declared.settings.Setting.{Setting}
use Rattle.message_state.specs.declared.mark.Act.{Act}
use Rattle.message_state.specs.declared.row.Row.{Row}
use Rattle.message_state.specs.States.{after}
use Rattle.quit_rules.specs.declared.gathered.BatchItem.{BatchItem}
use Rattle.command_desk.specs.declared.desk.Desk.{Desk}
use Rattle.command_desk.specs.declared.effects.Marking.{Marking}
use Rattle.command_desk.specs.declared.effects.Effects.{Effects}
use Rattle.command_desk.specs.declared.naming.Naming.{Naming}
use Rattle.command_desk.specs.declared.naming.Naming.TheVariants as naming
use Rattle.command_desk.specs.Naming.{renamed}
use Rattle.command_desk.specs.Selecting.{last_message}

-- a row once an act was done on its message
abbrev pub row_after : Act → Row → Row
row_after act row = record row { mark = after row.mark act }

-- the rows once an act was done on the message of one of them
abbrev pub acted : List Row → Marking → List Row
acted rows m = option_map_or (λ row. slice_set rows m.row (row_after m.act row)) (slice_get rows m.row) rows

-- the rows once each act was done, in order
abbrev pub rows_after : List Row → List Marking → List Row
rows_after rows marks = fold acted rows marks

-- the desk with other rows, and their marks
abbrev pub with_rows : Desk → List Row → Desk
with_rows desk rows = record desk {
  folder = record desk.folder { marks = map (λ row. row.mark) rows };
  shown = record desk.shown { rows = rows };
}

-- the desk with this current message
abbrev pub with_current : Desk → ℕ → Bool → Desk
with_current desk current unprinted = record desk { shown = record desk.shown { current = current }; unprinted = unprinted }

-- the desk after changes but those of names and of what was gathered: what isn't named stays
abbrev pub carried : Desk → List Marking → Option ℕ → Option Bool → Option ℕ → List Setting → Desk
carried desk marks current unprinted page settings =
    let with_marks = with_rows desk (rows_after desk.shown.rows marks) in
    record (with_current with_marks (unwrap_or current desk.shown.current) (unwrap_or unprinted desk.unprinted)) {
      vars = fold changed desk.vars settings;
      page = unwrap_or page desk.page;
    }

-- the desk after a command: what its effects don't name stays
abbrev pub effect : Desk → Effects → Desk
effect desk effects = record (carried (renamed desk effects.naming) effects.marks effects.current effects.unprinted effects.page effects.settings) {
  conditions = unwrap_or effects.conditions desk.conditions;
}

-- no change
abbrev pub unchanged : Effects
unchanged = record { marks = []; current = None; unprinted = None; page = None; settings = []; naming = None; conditions = None }

-- a change of names, and no other change
abbrev pub renames : Naming → Effects
renames change = record unchanged { naming = Some change }

-- these changes, and this is gathered
abbrev pub gathers : Effects → BatchItem → Effects
gathers effects gathered = record effects { naming = Some (naming.Gather gathered) }

-- message n becomes current; it is unwritten, if another was current before
abbrev pub moved : Desk → ℕ → Effects
moved desk n = record unchanged { current = Some n; unprinted = if n == desk.shown.current then None else Some true }

-- message n becomes current and is written
abbrev pub written : ℕ → Effects
written n = record unchanged { current = Some n; unprinted = Some false }

-- an act on message n, numbered from 1
abbrev pub marking : Act → ℕ → Marking
marking act n = record { row = n - 1; act = act }

-- an act on each of these
abbrev pub markings : Act → List ℕ → List Marking
markings act numbers = map (marking act) numbers

-- an act is done on these, and the last of them is current; it is unwritten, if another was current before
abbrev pub marked : Desk → Act → List ℕ → Effects
marked desk act ns = record (moved desk (last_message ns)) { marks = markings act ns }

-- an act is done on these, and the last of them is current and written
abbrev pub marked_and_written : Act → List ℕ → Effects
marked_and_written act ns = record (written (last_message ns)) { marks = markings act ns }
