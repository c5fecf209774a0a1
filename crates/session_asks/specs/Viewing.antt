-- The view that a command sets.
use Rattle.std.specs.Prelude.{◌≡◌}
use Rattle.thread_view.specs.declared.view.View.{View}
use Rattle.thread_view.specs.declared.view.ViewKind.{ViewKind}
use Rattle.thread_view.specs.Views.{IsViewOf}
use Rattle.session_play.specs.Knowing.{Viewed}
use Rattle.session_play.specs.Play.{Play, Ret, Ask, Know}
use Rattle.session_play.specs.Steps.{After, Over}
use Rattle.command_desk.specs.declared.desk.Desk.{Desk}
use Rattle.session_state.specs.declared.state.SessionState.{SessionState}
use Rattle.session_state.specs.declared.status.Status.{Status}
use Rattle.session_state.specs.States.{with_desk}

-- the desk with its messages in this view, and by its kind from then on
abbrev pub in_view : Desk → View → Desk
in_view desk view = record desk { shown = record desk.shown { order = view.order; depth = view.depth }; view = view.kind }

-- the messages are shown in a view of this kind, and the command is over
abbrev pub views : SessionState → ViewKind → Play (After SessionState Status)
views s kind = Ask (Know (Viewed kind s.desk.shown.rows)) (λ view. Ret (Over (with_desk s (in_view s.desk view))))

-- they are shown so
abbrev pub IsViewed : ViewKind → SessionState → SessionState → Type 0
IsViewed kind old new = (view : View) × IsViewOf kind old.desk.shown.rows view × (new ≡ with_desk old (in_view old.desk view))
