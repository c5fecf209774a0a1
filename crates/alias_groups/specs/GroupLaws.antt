-- What holds of aliases that are defined and removed, and of expansions.
use Rattle.std.specs.Prelude.{◌≡◌, ◌<◌, ℕ, suc, Bool, List, [], ◌++◌, Some, None, unwrap_or, length, if◌then◌else◌}
use Rattle.std.specs.List.{IsDistinct}
use Rattle.std.specs.Str.{bytes_eq}
use Rattle.mail_text.specs.Ascii.{same_ascii}
use Rattle.alias_groups.specs.declared.own.Own.{Own}
use Rattle.alias_groups.specs.Expansion.{expansion}
use Rattle.alias_groups.specs.Groups.{AreGroups, Group, members_of, with_members, without}
use Rattle.alias_groups.specs.Walk.{nothing, walk}

-- an alias that is defined has the members that it had and then the new ones, and every other alias stays
abbrev pub DefineAppends : Type 0
DefineAppends = (groups : List Group) (name other : List ℕ) (to : List (List ℕ))
    → members_of (with_members groups name to) other
    ≡ (if bytes_eq other name then Some (unwrap_or (members_of groups name) [] ++ to) else members_of groups other)

-- an alias that is removed has none, and every other alias stays
abbrev pub RemoveTakes : Type 0
RemoveTakes = (groups : List Group) (name other : List ℕ) → AreGroups groups
    → members_of (without groups name) other ≡ (if bytes_eq other name then None else members_of groups other)

-- no two names of an expansion are the same
abbrev pub EachOnce : Type 0
EachOnce = (groups : List Group) (own : Own) (metoo : Bool) (names : List (List ℕ))
    → IsDistinct same_ascii (expansion groups own metoo names)

-- no walk is cut short: one that may open more walks at once than there are aliases comes to the same with one more
abbrev pub DepthSuffices : Type 0
DepthSuffices = (groups : List Group) (dropped names : List (List ℕ)) (depth : ℕ) → length groups < depth
    → walk depth groups dropped [] names nothing ≡ walk (suc depth) groups dropped [] names nothing
