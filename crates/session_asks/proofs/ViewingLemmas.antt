-- A view is put on the desk.
use Rattle.std.proofs.Common.{sym, subst}
use Rattle.thread_view.specs.declared.view.View.{View}
use Rattle.thread_view.specs.declared.view.ViewKind.{ViewKind}
use Rattle.thread_view.specs.Views.{IsViewOf}
use Rattle.thread_view.proofs.ViewsLemmas.{view-once, view-depths}
use Rattle.command_desk.specs.declared.desk.Desk.{Desk}
use Rattle.command_desk.specs.Desks.{IsDesk}
use Rattle.session_state.specs.declared.state.SessionState.{SessionState}
use Rattle.session_state.specs.States.{IsState}
use Rattle.session_asks.specs.Viewing.{in_view, IsViewed}

desk-in-view : (desk : Desk) (kind : ViewKind) (view : View) → IsDesk desk → IsViewOf kind desk.shown.rows view → IsDesk (in_view desk view)
desk-in-view desk kind view d is = record {
  shown = record {
    few = d.shown.few;
    order = view-once kind desk.shown.rows view is;
    depths = view-depths kind desk.shown.rows view is;
    current = d.shown.current;
    years = d.shown.years;
  };
  rows = d.rows;
  marks = d.marks;
  width = d.width;
}

-- the state stays valid
pub viewed-valid : (s t : SessionState) (kind : ViewKind) → IsState s → IsViewed kind s t → IsState t
viewed-valid s t kind h is = subst IsState (sym is.2) (record { desk = desk-in-view s.desk kind is.0 h.desk is.1; actor = h.actor })
