-- Aliases that are changed if nothing is in the way, and those that are removed together.
use Rattle.std.specs.Prelude.{ℕ, not, List, filter, is_none, if◌then◌else◌}
use Rattle.alias_groups.specs.Groups.{Group, define_refusal, with_members}
use Rattle.alias_groups.specs.Walk.{is_among}

-- once an alias has more members; if they are refused all stays
abbrev pub given : List Group → List ℕ → List (List ℕ) → List Group
given groups name to = if is_none (define_refusal groups to) then with_members groups name to else groups

-- the aliases but those of these names
abbrev pub without_these : List Group → List (List ℕ) → List Group
without_these groups names = filter (λ g. not (is_among names g.0)) groups
