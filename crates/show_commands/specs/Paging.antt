-- The view by pages of `screen` messages, counted from its front.
use Rattle.std.specs.Prelude.{ℕ, ◌+◌, ◌-◌, ◌*◌, ◌/◌, max, nat_lt, Bool, true, false, ◌==◌, List, [], ◌∷◌, length, slice_index, codes, unwrap_or, if◌then◌else◌}
use Rattle.std.specs.declared.option.Option.TheVariants.{Some}
use Rattle.std.specs.declared.result.Result.TheVariants.{Ok, Err}
use Rattle.message_list.specs.declared.list.Purpose.TheVariants.{Live}
use Rattle.message_list.specs.Places.{place_of}
use Rattle.message_show.specs.Summary.{page_text}
use Rattle.command_desk.specs.declared.desk.Desk.{Desk}
use Rattle.command_desk.specs.declared.effects.Effects.{Effects}
use Rattle.command_desk.specs.declared.steps.Steps.{Steps}
use Rattle.command_desk.specs.Answers.{OrFault, next, says}
use Rattle.command_desk.specs.Effects.{unchanged, moved}
use Rattle.command_desk.specs.Faults.{at_end}
use Rattle.show_commands.specs.Printing.{number_of_variable}
use Rattle.command_desk.specs.Selecting.{chosen, single}

-- how many messages a page has: the number in `screen`, one at least
abbrev pub page_size : Desk → OrFault ℕ
page_size desk = next (number_of_variable desk.vars (codes "screen")) (λ n. Ok (max n 1))

-- the page that has message n, from 0
abbrev pub page_of : Desk → ℕ → ℕ → ℕ
page_of desk n size = unwrap_or (place_of desk.shown n) 0 / size

-- the summary lines of a page are printed, with the current message that is left
abbrev pub says_page : Desk → ℕ → ℕ → Effects → OrFault Steps
says_page desk page size effects =
    let shown = record desk.shown { current = unwrap_or effects.current desk.shown.current } in
    says (page_text shown (page * size) size desk.places.width) (record effects { page = Some page })

-- the summary lines of the page that has the current message
abbrev pub current_page : Desk → OrFault (List ℕ)
current_page desk =
    next (page_size desk) (λ size.
    Ok (page_text desk.shown (page_of desk desk.shown.current size * size) size desk.places.width))

-- the message at the top of a page
abbrev pub top_of : Desk → ℕ → ℕ → ℕ
top_of desk page size = slice_index desk.shown.order (page * size)

-- the page of message n, whose first message becomes current
abbrev pub page_of_message : Desk → ℕ → ℕ → OrFault Steps
page_of_message desk n size =
    let page = page_of desk n size in
    says_page desk page size (moved desk (top_of desk page size))

-- `headers`: the page of the current message; or the page of another one, whose first message becomes current
abbrev pub headers : Desk → List (List ℕ) → OrFault Steps
headers desk [] = next (page_size desk) (λ size. says_page desk (page_of desk desk.shown.current size) size unchanged)
headers desk (w ∷ ws) =
    next (chosen Live desk (w ∷ ws)) (λ ns.
    next (single (codes "headers") ns) (λ n.
    next (page_size desk) (λ size.
    page_of_message desk n size)))

-- a page, if its first place is in the view
abbrev pub turned : Desk → ℕ → ℕ → OrFault Steps
turned desk page size =
    if nat_lt (page * size) (length desk.shown.order) then says_page desk page size unchanged
    else Err at_end

-- the page after the last one printed, or the one before it
abbrev pub scrolled : Desk → Bool → ℕ → OrFault Steps
scrolled desk true size = if desk.page == 0 then Err at_end else turned desk (desk.page - 1) size
scrolled desk false size = turned desk (desk.page + 1) size

-- `z`, `z+`, and `z-`, which goes back
abbrev pub scroll : Desk → Bool → OrFault Steps
scroll desk back = next (page_size desk) (scrolled desk back)
