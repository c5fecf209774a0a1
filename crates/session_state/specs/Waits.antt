-- Lines that wait to be run.
use Rattle.std.specs.Prelude.{ℕ, List}
use Rattle.read_commands.specs.declared.origin.Origin.{Origin}
use Rattle.session_state.specs.declared.kinds.FrameKind.{FrameKind}

-- lines from one place that are still to run, where they come from, what brought them, and how many of the conditions that were open before
-- are still open
pub record Pending : Type 0 where
  pub origin : Origin
  pub kind : FrameKind
  pub nested : ℕ
  pub lines : List (List ℕ)
