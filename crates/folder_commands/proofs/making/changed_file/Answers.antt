use Rattle.std.proofs.Common.{◌++◌, ◌∙◌, ap, sym, Ok, Some, List, ℕ}
use Rattle.mbox_scan.specs.Mailbox.{join, texts_of}
use Rattle.folder_change.specs.Outcomes.{bytes_of, missing_feeds}
use Rattle.folder_change.proofs.OutcomeLemmas.{outcome-add, outcome-add_raw}
use Rattle.folder_commands.proofs.making.changed_file.Goals as goal

pub returns-in_ok-add-in-Add-Some : goal.returns-in_ok-add-in-Add-Some
returns-in_ok-add-in-Add-Some c =
    let b = c.in-Add-Some.text in
    outcome-add c.args.file c.args.change.now (texts_of c.args.base.now) c.in-Add-Some.name-0 c.in-Add-Some.texts b c.in-Add-Some.is-0 (sym (ap bytes_of c.in-Add-Some.is-1))
    ∙ ap (λ (t : List (List ℕ)). Ok (Some (b ++ missing_feeds b ++ join t))) (sym c.items.ensures)
    ∙ ap (λ (l : List ℕ). Ok (Some l)) (sym c.in_ok-add-in-Add-Some.ensures)

pub returns-in_ok-add_raw-in-AddRaw-Some : goal.returns-in_ok-add_raw-in-AddRaw-Some
returns-in_ok-add_raw-in-AddRaw-Some c =
    let b = c.in-AddRaw-Some.text in
    outcome-add_raw c.args.file c.args.change.now (texts_of c.args.base.now) c.in-AddRaw-Some.name-0 c.in-AddRaw-Some.bytes b c.in-AddRaw-Some.is-0 (sym (ap bytes_of c.in-AddRaw-Some.is-1))
    ∙ ap (λ (t : List ℕ). Ok (Some (b ++ t))) (sym c.bytes.ensures)
    ∙ ap (λ (l : List ℕ). Ok (Some l)) (sym c.in_ok-add_raw-in-AddRaw-Some.ensures)
