-- The status at a cut, and the line that is printed before it, or before an end.
use Rattle.std.specs.Prelude.{ℕ, List, ◌++◌, codes}
use Rattle.std.specs.declared.option.Option.{Option}
use Rattle.std.specs.declared.option.Option.TheVariants.{Some, None}
use Rattle.commit_machine.specs.Names.{record_name}
use Rattle.session_play.specs.declared.stop.Stop.{Stop}
use Rattle.session_play.specs.declared.stop.Stop.TheVariants as stop
use Rattle.mail_text.specs.Lines.{with_feed}
use Rattle.session_state.specs.declared.status.Status.{Status}
use Rattle.session_state.specs.declared.status.Status.TheVariants as status

-- the status at a cut
abbrev pub status_at_stop : Stop → Status
status_at_stop stop.Input = status.InputFault
status_at_stop stop.Output = status.OutputFault
status_at_stop stop.Disk = status.DiskFault
status_at_stop stop.TooMuch = status.InputLimit
status_at_stop stop.Memory = status.Memory

-- the line that is printed at a cut
abbrev pub line_at_stop : Stop → List ℕ
line_at_stop stop.Input = with_feed (codes "mailx: input fault")
line_at_stop stop.Output = with_feed (codes "mailx: output fault")
line_at_stop stop.Disk = with_feed (codes "mailx: disk fault")
line_at_stop stop.TooMuch = with_feed (codes "mailx: too much input")
line_at_stop stop.Memory = with_feed (codes "mailx: out of memory")

-- the line of an actor's record that can't be read
abbrev pub not_a_record : List ℕ → List ℕ
not_a_record actor = with_feed (record_name actor ++ codes ": not a commit record")

-- the line that is printed at an end, if there is one
abbrev pub line_at_end : List ℕ → Status → Option (List ℕ)
line_at_end actor status.BadRecord = Some (not_a_record actor)
line_at_end actor e = None
