-- What an entry of a decided record asks of a disk that is sound.
use Rattle.std.specs.Prelude.{ℕ, Bool, true, not, ◌&&◌, ◌||◌, List, is_some}
use Rattle.std.specs.declared.option.Option.{Option}
use Rattle.host_port.specs.Disk.{reaches}
use Rattle.commit_record.specs.Ways.{way_of}
use Rattle.commit_record.specs.declared.record.Entry.{Entry}
use Rattle.commit_record.specs.declared.way.Way.{Way}
use Rattle.commit_record.specs.declared.way.Way.TheVariants.{Replace, Remove, Extend}
use Rattle.commit_machine.specs.Names.{staged_name, is_record_name}
use Rattle.commit_machine.specs.Settled.{Files, Locks, owned_by}

-- a file that is extended has as many bytes as stay
abbrev pub is_long : Way → Option (List ℕ) → Bool
is_long Replace file = true
is_long Remove file = true
is_long (Extend at) file = reaches at file

-- its name is no record name, and if its staged file stands the file has its lock and is long enough
abbrev pub is_sound_entry : List ℕ → Files → Locks → ℕ → Entry → Bool
is_sound_entry actor files locks token e =
    not (is_record_name actor e.name) && (not (is_some (files (staged_name token e.name))) || (owned_by token (locks e.name) && is_long (way_of e) (files e.name)))
