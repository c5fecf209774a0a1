-- How a file comes to be as an entry has it.
use Rattle.std.specs.Prelude.{ℕ, List}
use Rattle.commit_record.specs.declared.record.EntryKind.{EntryKind}
use Rattle.commit_record.specs.declared.record.EntryKind.TheVariants as kind
use Rattle.commit_record.specs.declared.record.Entry.{Entry}
use Rattle.commit_record.specs.declared.way.Way.{Way}
use Rattle.commit_record.specs.declared.way.Way.TheVariants.{Replace, Remove, Extend}

abbrev pub way_by : EntryKind → ℕ → Way
way_by kind.Replace at = Replace
way_by kind.Remove at = Remove
way_by kind.Extend at = Extend at

-- the way of an entry
abbrev pub way_of : Entry → Way
way_of e = way_by e.kind e.at

-- the entry of a file that comes to be so
abbrev pub entry_for : Way → List ℕ → Entry
entry_for Replace name = record { kind = kind.Replace; at = 0; name = name }
entry_for Remove name = record { kind = kind.Remove; at = 0; name = name }
entry_for (Extend at) name = record { kind = kind.Extend; at = at; name = name }
