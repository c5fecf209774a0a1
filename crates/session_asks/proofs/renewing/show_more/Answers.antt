use Rattle.std.proofs.Common.{◌≡◌, ◌≤◌, ◌++◌, List, length, map, sym, ap, ◌∙◌, subst, arith}
use Rattle.std.specs.Prelude.{IfSome}
use Rattle.std.proofs.lemmas.List.{length-append, map-append}
use Rattle.std.proofs.lemmas.List.Elements.{All-append}
use Rattle.mail_dates.specs.Clock.{IsInYears}
use Rattle.mbox_scan.specs.Mailbox.{message_limit}
use Rattle.message_state.specs.declared.mark.Mark.{Mark}
use Rattle.message_state.specs.declared.row.Row.{Row}
use Rattle.message_state.specs.ShownRows.{IsShown}
use Rattle.thread_view.specs.Views.{IsViewOf}
use Rattle.command_desk.specs.declared.desk.Desk.{Desk}
use Rattle.session_asks.specs.Renewing.{current_among}
use Rattle.session_asks.proofs.RenewingLemmas.{more-is, shows-more}
use Rattle.session_asks.proofs.renewing.show_more.Goals as goal

pub returns-clause-shows : goal.returns-clause-shows
returns-clause-shows c =
    let desk = c.args.desk.now in
    let more = c.in_ok-more.more in
    let view = c.in_ok-order.field-0 in
    let mark = λ (row : Row). row.mark in
    let whole : c.add.new.self ≡ desk.shown.rows ++ more = c.in_ok-add.ensures in
    let marks : c.push_marks.new.marks ≡ map mark (desk.shown.rows ++ more) =
    c.in_ok-push_marks.ensures ∙ ap (λ (l : List Row). desk.folder.marks ++ map mark l) c.items.ensures
    ∙ ap (λ (m : List Mark). m ++ map mark more) c.requires.marks ∙ sym (map-append mark desk.shown.rows more) in
    record {
      more = more;
      view = view;
      are = rw c.items-shown.ensures at c.in_ok-more.ensures.rows;
      viewed = subst (λ (l : List Row). IsViewOf desk.view l view) (c.items-2.ensures ∙ whole) c.in_ok-order.ensures;
      is = more-is desk more c.add.new.self c.push_marks.new.marks view c.current_among-desk.result marks whole
          (c.current_among-desk.ensures ∙ ap (current_among desk.shown.current) (c.items-3.ensures ∙ whole));
    }

pub returns-clause-longer : goal.returns-clause-longer
returns-clause-longer c =
    let desk = c.args.desk.now in
    let more = c.in_ok-more.more in
    let whole : c.add.new.self ≡ desk.shown.rows ++ more = c.in_ok-add.ensures in
    let long = ap (λ (l : List Row). length l) whole in
    let all = length-append desk.shown.rows more in
    omega (arith, long, all)

pub returns-clause-shown : goal.returns-clause-shown
returns-clause-shown c =
    let desk = c.args.desk.now in
    let more = c.in_ok-more.more in
    let view = c.in_ok-order.field-0 in
    let whole : c.add.new.self ≡ desk.shown.rows ++ more = c.in_ok-add.ensures in
    let current = c.current_among-desk.ensures ∙ ap (current_among desk.shown.current) (c.items-3.ensures ∙ whole) in
    let viewed = subst (λ (l : List Row). IsViewOf desk.view l view) (c.items-2.ensures ∙ whole) c.in_ok-order.ensures in
    let all = length-append desk.shown.rows more in
    let shown = ap (λ (l : List Row). length l) c.items-shown.ensures in
    let few = c.in_ok-more.ensures.few in
    let within : length (desk.shown.rows ++ more) ≤ message_limit = omega (arith, all, shown, few) in
    let longer : length desk.shown.rows ≤ length (desk.shown.rows ++ more) = omega (arith, all) in
    let years = All-append (λ (row : Row). IfSome row.moment IsInYears) desk.shown.rows more c.requires.shown.years c.in_ok-more.ensures.years in
    subst (λ (d : Desk). IsShown d.shown)
    (sym (more-is desk more c.add.new.self (map (λ (row : Row). row.mark) (desk.shown.rows ++ more)) view c.current_among-desk.result
    (λ i. map (λ (row : Row). row.mark) (desk.shown.rows ++ more)) whole current))
    (shows-more desk more view c.requires.shown within years longer viewed)
