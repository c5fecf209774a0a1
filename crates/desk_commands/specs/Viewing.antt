-- `sort`, `thread`, `unsort` and `unthread`.
use Rattle.std.specs.Prelude.{ℕ, List, [], ◌∷◌, codes, if◌then◌else◌}
use Rattle.std.specs.Str.{bytes_eq}
use Rattle.std.specs.declared.option.Option.{Option}
use Rattle.std.specs.declared.option.Option.TheVariants.{Some, None}
use Rattle.std.specs.declared.result.Result.TheVariants.{Ok, Err}
use Rattle.thread_view.specs.declared.view.Key.TheVariants as key
use Rattle.thread_view.specs.declared.view.ViewKind.{ViewKind}
use Rattle.thread_view.specs.declared.view.ViewKind.TheVariants.{Plain, Threads, By}
use Rattle.command_desk.specs.declared.steps.Ask.TheVariants as asks
use Rattle.command_desk.specs.declared.steps.Steps.{Steps}
use Rattle.command_desk.specs.Answers.{OrFault}
use Rattle.command_desk.specs.Effects.{unchanged}
use Rattle.command_desk.specs.Faults.{bad_arguments}

-- the kind of view that a word names
abbrev pub kind_named : List ℕ → Option ViewKind
kind_named word =
    if bytes_eq word (codes "date") then Some (By key.Date)
    else if bytes_eq word (codes "from") then Some (By key.From)
    else if bytes_eq word (codes "size") then Some (By key.Size)
    else if bytes_eq word (codes "status") then Some (By key.Status)
    else if bytes_eq word (codes "subject") then Some (By key.Subject)
    else if bytes_eq word (codes "thread") then Some Threads
    else if bytes_eq word (codes "to") then Some (By key.To)
    else None

-- the messages are shown so
abbrev pub viewing : ViewKind → Steps
viewing kind = record { asks = asks.View kind ∷ []; effects = unchanged }

abbrev pub viewing_or_fault : Option ViewKind → OrFault Steps
viewing_or_fault (Some kind) = Ok (viewing kind)
viewing_or_fault None = Err (bad_arguments (codes "sort"))

-- `sort`: by the key that its one word names, or in threads
abbrev pub sort : List (List ℕ) → OrFault Steps
sort (word ∷ []) = viewing_or_fault (kind_named word)
sort words = Err (bad_arguments (codes "sort"))

-- `thread`: in threads; `unsort`, `unthread`: by number
abbrev pub thread : List ℕ → OrFault Steps
thread name = Ok (viewing (if bytes_eq name (codes "thread") then Threads else Plain))
