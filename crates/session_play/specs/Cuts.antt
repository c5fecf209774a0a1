-- Which causes cut off a load, whatever the host tells.
use Rattle.session_play.specs.declared.stop.Stop.{Stop}
use Rattle.session_play.specs.declared.stop.Stop.TheVariants as stop

-- a load is cut off by a fault of the disk, or since memory ran out
abbrev pub IsLoadCut : Stop → Type 0
IsLoadCut stop.Disk = Unit {0}
IsLoadCut stop.Memory = Unit {0}
IsLoadCut cause = ⊥
