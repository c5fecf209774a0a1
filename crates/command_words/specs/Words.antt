-- The command line as a simple command.
use Rattle.std.specs.Prelude.{ℕ, Bool, true, false, not, ◌==◌, ◌&&◌, ◌||◌, List, [], ◌∷◌, Some, codes, if◌then◌else◌, unwrap_or, length}
use Rattle.std.specs.List.{list_any}
use Rattle.std.specs.Str.{bytes_eq}
use Rattle.clap.specs.Faults.{fault_of}
use Rattle.clap.specs.Walk.{Row, all_of}
use Rattle.clap.specs.Simple.{matches_of}
use Rattle.clap.specs.Walk.{Rule, Text}
use Rattle.clap.specs.Simple.{App, new_app, new_rule, on_top}
use Rattle.clap.specs.declared.builder.action.ArgAction.TheVariants.{Set, SetTrue, Append}

abbrev pub flag_rule : Text → ℕ → Rule
flag_rule id short = record (new_rule id) { short = Some short; action = Some SetTrue }

abbrev pub valued_rule : Text → ℕ → Rule
valued_rule id short = record (new_rule id) { short = Some short; action = Some Set }

abbrev pub try_rule : Rule
try_rule = record (new_rule (codes "try")) { long = Some (codes "try"); action = Some Set }

abbrev pub operand_rule : Rule
operand_rule = record (new_rule (codes "operand")) { action = Some Append }

abbrev pub rules : List Rule
rules = flag_rule (codes "e") 101 ∷ flag_rule (codes "H") 72 ∷ flag_rule (codes "i") 105 ∷ flag_rule (codes "N") 78 ∷ flag_rule (codes "n") 110 ∷ flag_rule (codes "F") 70 ∷ flag_rule (codes "f") 102
    ∷ valued_rule (codes "u") 117 ∷ valued_rule (codes "s") 115 ∷ valued_rule (codes "b") 98 ∷ valued_rule (codes "c") 99 ∷ try_rule ∷ operand_rule ∷ []

abbrev pub bare : App
bare = on_top (λ s. record s { no_binary_name = true; disable_help_flag = true; disable_version_flag = true }) (new_app (codes "mailx"))

unfoldable pub mailx : App
mailx = on_top (λ s. record s { rules = rules }) bare

-- what a short option's value begins with `=` (61) in
abbrev pub is_valued : ℕ → Bool
is_valued c = c == 117 || c == 115 || c == 98 || c == 99

abbrev pub begins_with_equals : List ℕ → Bool
begins_with_equals [] = false
begins_with_equals (c ∷ cs) = c == 61

unfoldable pub equals_in : List ℕ → Bool
equals_in [] = false
equals_in (c ∷ cs) = if is_valued c then begins_with_equals cs else equals_in cs

-- the word is a bundle of short options, one of them with a value that begins with `=`
abbrev pub is_equals_word : List ℕ → Bool
is_equals_word [] = false
is_equals_word (c ∷ cs) = c == 45 && equals_in cs

-- `-` alone
abbrev pub is_dash : List ℕ → Bool
is_dash w = bytes_eq w (45 ∷ [])

-- a word before `--` with such a value
unfoldable pub has_equals : List Text → Bool
has_equals [] = false
has_equals (w ∷ ws) = if bytes_eq w (45 ∷ 45 ∷ []) then false else is_equals_word w || has_equals ws

abbrev pub is_refused : List Text → Bool
is_refused ws = list_any is_dash ws || has_equals ws

abbrev pub is_nothing : {X : Type 0} → List X → Bool
is_nothing [] = true
is_nothing (x ∷ xs) = false

abbrev pub operands_of : List Row → List Text
operands_of rows = unwrap_or (all_of (codes "operand") rows) []

-- the words are a command line
abbrev pub reads : List Text → Bool
reads ws = not (is_refused ws) && (is_nothing (fault_of mailx ws) && not (list_any (λ w. length w == 0) (operands_of (matches_of mailx ws))))
