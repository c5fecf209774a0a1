-- Commands that print messages, or of messages.
use Rattle.std.specs.Prelude.{ℕ, ◌+◌, ◌&&◌, List, [], ◌∷◌, ◌++◌, Option, if◌then◌else◌, codes}
use Rattle.std.specs.List.{flat_map, find}
use Rattle.std.specs.declared.option.Option.TheVariants.{Some, None}
use Rattle.std.specs.declared.result.Result.TheVariants.{Ok, Err}
use Rattle.mailx_vars.specs.Settings.{Settings, number_in}
use Rattle.message_state.specs.declared.mark.Act.TheVariants.{Look}
use Rattle.message_list.specs.declared.list.Purpose.TheVariants.{Live}
use Rattle.message_list.specs.Places.{in_base, after_message, next_of}
use Rattle.message_show.specs.declared.text.How.{How}
use Rattle.message_show.specs.declared.text.How.TheVariants.{Kept}
use Rattle.message_show.specs.ShownText.{top_text}
use Rattle.command_desk.specs.declared.desk.Desk.{Desk}
use Rattle.command_desk.specs.declared.steps.Steps.{Steps}
use Rattle.command_desk.specs.Answers.{OrFault, next, says}
use Rattle.command_desk.specs.Desks.{message_text}
use Rattle.command_desk.specs.Effects.{marked_and_written}
use Rattle.command_desk.specs.Messages.{heading, printed}
use Rattle.command_desk.specs.Faults.{at_end, not_a_number}
use Rattle.command_desk.specs.Selecting.{chosen, is_among}

-- `print`, `type`, `Print`, `Type`
abbrev pub print : How → Desk → List (List ℕ) → OrFault Steps
print how desk words = next (chosen Live desk words) (λ ns. says (flat_map (printed desk how) ns) (marked_and_written Look ns))

-- the number that a variable's value writes
abbrev pub number_or : List ℕ → Option ℕ → OrFault ℕ
number_or name (Some n) = Ok n
number_or name None = Err (not_a_number name)

abbrev pub number_of_variable : Settings → List ℕ → OrFault ℕ
number_of_variable vars name = number_or name (number_in vars name)

-- the first lines of a message
abbrev pub topped : Desk → ℕ → ℕ → List ℕ
topped desk count n = heading n ++ top_text (message_text desk n) desk.sets count

-- `top`: the first `toplines` lines of each
abbrev pub top : Desk → List (List ℕ) → OrFault Steps
top desk words =
    next (chosen Live desk words) (λ ns.
    next (number_of_variable desk.vars (codes "toplines")) (λ count.
    says (flat_map (topped desk count) ns) (marked_and_written Look ns)))

-- the message is printed, if there is one
abbrev pub print_next : Desk → Option ℕ → OrFault Steps
print_next desk (Some n) = says (printed desk Kept n) (marked_and_written Look (n ∷ []))
print_next desk None = Err at_end

-- what `next` prints: the current message if it is live and unwritten, else the next live one in the view
abbrev pub following : Desk → Option ℕ
following desk =
    let current = desk.shown.current in
    if in_base desk.shown Live current && desk.unprinted then Some current
    else next_of desk.shown Live current

-- the first of some messages that stands after the current one in the view
abbrev pub following_of : Desk → List ℕ → Option ℕ
following_of desk ns = find (λ n. is_among ns n) (after_message desk.shown desk.shown.current)

-- `next`
abbrev pub print_following : Desk → List (List ℕ) → OrFault Steps
print_following desk [] = print_next desk (following desk)
print_following desk (w ∷ ws) = next (chosen Live desk (w ∷ ws)) (λ ns. print_next desk (following_of desk ns))
