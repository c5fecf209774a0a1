-- A walk on a stack: what it has still to do, and that it comes to what the walk by recursion does.
use Rattle.std.specs.Prelude.{◌≡◌, ◌≤◌, ◌<◌, ◌+◌, ◌||◌, ℕ, zero, suc, Bool, List, [], ◌∷◌, ◌++◌, length, sum_by, if◌then◌else◌}
use Rattle.std.specs.Map.{keys_of}
use Rattle.alias_groups.specs.Groups.{Group}
use Rattle.alias_groups.specs.Walk.{Walked, closed, is_among, named, walk, with_alias}

-- a walk under way: the aliases whose walk is open, innermost last, each with what is left of the list in which it was met; those
-- whose walk is over; the names that were added
pub record Walking : Type 0 where
  pub inside : List (List ℕ × List (List ℕ))
  pub over : List (List ℕ)
  pub added : List (List ℕ)

-- a walk that begins
abbrev pub start : Walking
start = record { inside = []; over = []; added = [] }

-- how far it has come
abbrev pub walked : Walking → Walked
walked w = record { over = w.over; added = w.added }

-- the depth inside of an alias
abbrev pub below : ℕ → ℕ
below zero = zero
below (suc depth) = depth

-- what the innermost list that is left comes to, and then those around it, outermost first
abbrev pub unwound : ℕ → List Group → List (List ℕ) → List (List ℕ) → List (List ℕ × List (List ℕ)) → List (List ℕ) → Walked → Walked
unwound depth groups dropped opened [] left w = walk depth groups dropped opened left w
unwound depth groups dropped opened (level ∷ levels) left w =
    walk depth groups dropped opened level.1 (closed level.0 (unwound (below depth) groups dropped (opened ++ level.0 ∷ []) levels left w))

-- what a walk under way comes to, with what is left of its innermost list
abbrev pub finished : List Group → List (List ℕ) → Walking → List (List ℕ) → Walked
finished groups dropped w left = unwound (suc (length groups)) groups dropped [] w.inside left (walked w)

-- once a name is met as a name
abbrev pub named_in : List (List ℕ) → Walking → List ℕ → Walking
named_in dropped w name = record w { added = (named dropped (keys_of w.inside) name (walked w)).added }

-- once the walk of an alias is opened
abbrev pub opened_in : Walking → List ℕ → List (List ℕ) → Walking
opened_in w name left = record w { inside = w.inside ++ (name, left) ∷ [] }

-- the walk of the alias has begun
abbrev pub has_begun : List (List ℕ × List (List ℕ)) → List (List ℕ) → List ℕ → Bool
has_begun inside over name = is_among (keys_of inside) name || is_among over name

-- a sum over the aliases whose walk hasn't begun
abbrev pub fresh : (List ℕ → Bool) → (List (List ℕ) → ℕ) → List Group → ℕ
fresh begun weight [] = 0
fresh begun weight (g ∷ gs) = (if begun g.0 then 0 else weight g.1) + fresh begun weight gs

-- one for each alias
abbrev pub one_each : List (List ℕ) → ℕ
one_each members = 1

-- the steps that an alias or a list takes: one for each name, and one for its end
abbrev pub steps_of : List (List ℕ) → ℕ
steps_of members = length members + 1

-- the steps that are left at most
abbrev pub left_work : List Group → Walking → List (List ℕ) → ℕ
left_work groups w left =
    (length left + sum_by (λ level. steps_of level.1) w.inside) + fresh (has_begun w.inside w.over) steps_of groups

-- the walks that are open and those that can be opened are no more than the aliases; there are at most 10,000 names
pub record Fits (groups : List Group) (w : Walking) : Type 0 where
  pub depth : length w.inside + fresh (has_begun w.inside w.over) one_each groups ≤ length groups
  pub few : length w.added ≤ 10000

-- a step from a walk, with what is left of a list, to another one that comes to the same
pub record IsNext (groups : List Group) (dropped : List (List ℕ)) (old : Walking) (left : List (List ℕ)) (new : Walking) (next : List (List ℕ)) : Type 0 where
  pub fits : Fits groups new
  pub same : finished groups dropped old left ≡ finished groups dropped new next
  pub less : left_work groups new next < left_work groups old left

-- the walk is done
pub record IsDone (groups : List Group) (dropped : List (List ℕ)) (old : Walking) (left : List (List ℕ)) (new : Walking) : Type 0 where
  pub few : length new.added ≤ 10000
  pub same : finished groups dropped old left ≡ walked new

-- the walk comes to more than 10,000 names
abbrev pub IsTooLong : List Group → List (List ℕ) → Walking → List (List ℕ) → Type 0
IsTooLong groups dropped w left = 10000 < length (finished groups dropped w left).added

-- the innermost walk is over, and this is left of the list in which its alias was met
pub record IsClosed (old : Walking) (left : List (List ℕ)) (new : Walking) : Type 0 where
  pub name : List ℕ
  pub inside : old.inside ≡ new.inside ++ (name, left) ∷ []
  pub over : new.over ≡ with_alias old.over name
  pub added : new.added ≡ old.added

-- a name was met as a name, and the list is what was left of it
pub record IsNamed (dropped : List (List ℕ)) (old : Walking) (name : List ℕ) (left : List (List ℕ)) (new : Walking) (next : List (List ℕ)) : Type 0 where
  pub same : new ≡ named_in dropped old name
  pub few : length new.added ≤ 10000
  pub list : next ≡ left
