-- What holds of macros that are defined and removed.
use Rattle.std.specs.Prelude.{◌≡◌, ℕ, List, Some, None, fold, if◌then◌else◌}
use Rattle.std.specs.Str.{bytes_eq}
use Rattle.mailx_macros.specs.Macros.{AreDefinitions, Definitions, begin_refusal, begun, body_of, ended, with_line, without}

-- a definition that is begun, given its lines and ended is found with these lines, and every other macro stays
abbrev pub BodyIsFound : Type 0
BodyIsFound = (d : Definitions) (name other : List ℕ) (lines : List (List ℕ)) → begin_refusal d name ≡ None
    → body_of (ended (fold with_line (begun d name) lines)).done other ≡ (if bytes_eq other name then Some lines else body_of d.done other)

-- a macro that is removed isn't found, and every other stays
abbrev pub UndefTakes : Type 0
UndefTakes = (d : Definitions) (name other : List ℕ) → AreDefinitions d.done d.unfinished
    → body_of (without d.done name) other ≡ (if bytes_eq other name then None else body_of d.done other)
