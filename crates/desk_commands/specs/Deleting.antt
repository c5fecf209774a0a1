-- Commands that delete messages and give them back.
use Rattle.std.specs.Prelude.{ℕ, Bool, not, ◌&&◌, List, [], ◌∷◌, ◌++◌, Option, codes, unwrap_or, if◌then◌else◌}
use Rattle.std.specs.List.{find}
use Rattle.std.specs.Option.{option_or}
use Rattle.std.specs.declared.option.Option.TheVariants.{Some, None}
use Rattle.mailx_vars.specs.Settings.{is_set}
use Rattle.message_state.specs.declared.mark.Act.TheVariants.{Look, Delete, Undelete}
use Rattle.message_state.specs.declared.shown.Shown.{Shown}
use Rattle.message_list.specs.declared.list.Purpose.TheVariants.{Live, Dead}
use Rattle.message_list.specs.Places.{in_base, before_message, next_of}
use Rattle.message_show.specs.declared.text.How.TheVariants.{Kept}
use Rattle.command_desk.specs.declared.desk.Desk.{Desk}
use Rattle.command_desk.specs.declared.effects.Effects.{Effects}
use Rattle.command_desk.specs.declared.steps.Steps.{Steps}
use Rattle.command_desk.specs.Answers.{OrFault, next, says, effects_alone}
use Rattle.command_desk.specs.Effects.{unchanged, moved, written, markings, marked, marked_and_written}
use Rattle.command_desk.specs.Faults.{at_end}
use Rattle.command_desk.specs.Selecting.{chosen, last_message, is_among}
use Rattle.command_desk.specs.Messages.{printed}

-- message n is live and isn't among those that are deleted now
abbrev pub is_left : Shown → List ℕ → ℕ → Bool
is_left shown ns n = in_base shown Live n && not (is_among ns n)

-- the message that is current once these were deleted: the first live one after the last of them in the view, else the
-- last live one before it; none if no message is live
abbrev pub after_deleting : Shown → List ℕ → Option ℕ
after_deleting shown ns =
    let last = last_message ns in
    option_or (next_of shown Live last) (find (is_left shown ns) (before_message shown last))

-- these are deleted; if no message is live then, the current one stays
abbrev pub deleted : Desk → List ℕ → Effects
deleted desk ns =
    let current = unwrap_or (after_deleting desk.shown ns) desk.shown.current in
    record (moved desk current) { marks = markings Delete ns }

-- these are deleted and the new current message, if there is one, is printed
abbrev pub print_after : Desk → List ℕ → Option ℕ → OrFault Steps
print_after desk ns (Some n) =
    says (printed desk Kept n) (record (written n) { marks = markings Delete ns ++ markings Look (n ∷ []) })
print_after desk ns None = says at_end (record unchanged { marks = markings Delete ns })

-- `dp`, `dt`
abbrev pub delete_and_print : Desk → List (List ℕ) → OrFault Steps
delete_and_print desk words = next (chosen Live desk words) (λ ns. print_after desk ns (after_deleting desk.shown ns))

-- `delete` without `autoprint`
abbrev pub delete_quietly : Desk → List (List ℕ) → OrFault Steps
delete_quietly desk words = next (chosen Live desk words) (λ ns. effects_alone (deleted desk ns))

-- `delete`; with `autoprint` as `dp`
abbrev pub delete : Desk → List (List ℕ) → OrFault Steps
delete desk words =
    if is_set desk.vars (codes "autoprint") then delete_and_print desk words
    else delete_quietly desk words

-- these are given back and the last of them is current; with `autoprint` it is printed
abbrev pub give_back : Desk → List ℕ → OrFault Steps
give_back desk ns =
    if is_set desk.vars (codes "autoprint")
    then says (printed desk Kept (last_message ns)) (marked_and_written Undelete ns)
    else effects_alone (marked desk Undelete ns)

-- `undelete`
abbrev pub undelete : Desk → List (List ℕ) → OrFault Steps
undelete desk words = next (chosen Dead desk words) (give_back desk)
