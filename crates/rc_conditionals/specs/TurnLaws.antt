-- What holds of conditions that nest.
use Rattle.std.specs.Prelude.{◌≡◌, ℕ, Bool, false, ◌&&◌, ◌||◌, List, Ok}
use Rattle.rc_conditionals.specs.declared.conditions.Mode.{Mode}
use Rattle.rc_conditionals.specs.declared.conditions.Condition.{Condition}
use Rattle.rc_conditionals.specs.Turns.{is_live, opened, turned_else, closed}

-- a condition that is opened and closed leaves the others as they were, also with an else between
abbrev pub ClosedAsBefore : Type 0
ClosedAsBefore = (test : List ℕ) (mode : Mode) (terminal : Bool) (list inside : List Condition)
    → opened test mode terminal list ≡ Ok inside
    → (closed inside ≡ Ok list) × ((other : List Condition) → turned_else inside ≡ Ok other → closed other ≡ Ok list)

-- the line before an `if` is carried out exactly if one of its two parts is, and never both are
abbrev pub ElseIsTheOther : Type 0
ElseIsTheOther = (test : List ℕ) (mode : Mode) (terminal : Bool) (list inside other : List Condition)
    → opened test mode terminal list ≡ Ok inside → turned_else inside ≡ Ok other
    → (is_live list ≡ (is_live inside || is_live other)) × ((is_live inside && is_live other) ≡ false)

-- inside of what isn't carried out nothing is
abbrev pub DeadInside : Type 0
DeadInside = (test : List ℕ) (mode : Mode) (terminal : Bool) (list inside : List Condition)
    → is_live list ≡ false → opened test mode terminal list ≡ Ok inside → is_live inside ≡ false
