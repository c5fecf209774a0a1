use Rattle.std.proofs.Common.{◌≡◌, ◌≤◌, length, get_or, ℕ, List, ap, subst, sym, ◌∙◌}
use Rattle.std.specs.Prelude.{IfSome}
use Rattle.std.specs.declared.option.Option.{Option}
use Rattle.std.specs.declared.option.Option.TheVariants.{Some}
use Rattle.command_desk.specs.declared.steps.Steps.{Steps}
use Rattle.message_show.proofs.SummaryLemmas.{number-within}
use Rattle.command_desk.proofs.DeskLemmas.{if-ok}
use Rattle.show_commands.proofs.paging.page_of_message.Goals as goal

pub returns-clause-within : goal.returns-clause-within
returns-clause-within c =
    let shown = c.args.desk.now.shown in
    let start = c.start_of_page-start.result in
    let top : get_or shown.order start 0 ≤ length shown.rows = (number-within shown c.requires.desk.shown start (c.start_of_page-start.ensures.within c.requires.message)).1 in
    let is : c.moved.result.current ≡ Some (get_or shown.order start 0) = ap (λ e. e.current) c.moved.ensures ∙ ap (λ (l : List ℕ). Some (get_or l start 0)) c.items.ensures in
    if-ok c.says_page.result (λ (steps : Steps) same. subst (λ (o : Option ℕ). IfSome o (λ n. n ≤ length shown.rows)) (sym (same ∙ is)) top) c.says_page.ensures.current
