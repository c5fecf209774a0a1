-- Own ids as the code keeps them, and the parents that it finds with them.
use Rattle.std.specs.Prelude.{◌≡◌, ℕ, ◌+◌, List, length, slice_index, unwrap_or}
use Rattle.std.specs.BTreeMap.{BTreeMap, get_by}
use Rattle.std.specs.Borrow.{Bor}
use Rattle.std.specs.Cmp.Lexicographic.{slice_cmp}
use Rattle.std.specs.Ordering.{nat_cmp}
use Rattle.message_state.specs.declared.row.Row.{Row}
use Rattle.thread_view.specs.Parents.{named, parent_of}

-- the message that an id has in a map, or 0
abbrev pub id_in : BTreeMap (Bor (List ℕ)) ℕ → List ℕ → ℕ
id_in ids id = unwrap_or (get_by (λ key. slice_cmp nat_cmp id key.now) ids) 0

-- the map has the least message with each own id
abbrev pub AreNames : List Row → BTreeMap (Bor (List ℕ)) ℕ → Type 0
AreNames rows ids = (id : List ℕ) → id_in ids id ≡ named rows id

-- the parents of messages
pub record AreParents (rows : List Row) (parents : List ℕ) : Type 0 where
  pub size : length parents ≡ length rows + 1
  pub each : (k : ℕ) → slice_index parents k ≡ parent_of rows k
