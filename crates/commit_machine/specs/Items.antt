-- What is put in place: the entries of a record with what is known of their staged files.
use Rattle.std.specs.Prelude.{ℕ, List, map, Option, Some, None}
use Rattle.commit_record.specs.Ways.{way_of}
use Rattle.commit_record.specs.declared.record.Entry.{Entry}
use Rattle.commit_record.specs.declared.record.Record.{Record}
use Rattle.commit_record.specs.declared.way.Way.{Way}
use Rattle.commit_machine.specs.Jobs.{Job, Made, all_of, made_at, way_made}

-- a file that comes to be so, and what is known to stand as its staged file
pub record Item : Type 0 where
  pub name : List ℕ
  pub way : Way
  pub staged : Option (List ℕ)

abbrev pub item_names : List Item → List (List ℕ)
item_names xs = map (λ x. x.name) xs

-- the file of an entry that was found; of its staged file nothing is known
abbrev pub found_item : Entry → Item
found_item e = record { name = e.name; way = way_of e; staged = None }

abbrev pub found_items : Record → List Item
found_items r = map found_item r.entries

abbrev pub content_made : Option Made → Option (List ℕ)
content_made None = None
content_made (Some x) = Some x.content

-- a file of the job, with what was made for it
abbrev pub made_item : List Made → List ℕ → Item
made_item made n = record { name = n; way = way_made (made_at made n); staged = content_made (made_at made n) }

abbrev pub made_items : Job → List Made → List Item
made_items j made = map (made_item made) (all_of j)
