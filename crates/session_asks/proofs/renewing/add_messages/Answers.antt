use Rattle.std.proofs.Common.{◌≡◌, ◌≤◌, ◌++◌, ℕ, List, length, drop, ap, subst, arith}
use Rattle.std.proofs.lemmas.List.{length-append}
use Rattle.mbox_scan.specs.Mailbox.{texts_of}
use Rattle.command_desk.specs.declared.desk.Desk.{Desk}
use Rattle.session_asks.specs.Renewing.{ShowsMore}
use Rattle.session_asks.proofs.RenewingLemmas.{as-many, renewed-desk}
use Rattle.session_asks.proofs.renewing.add_messages.Goals as goal

pub show_more-requires-clause-listed : goal.show_more-requires-clause-listed
show_more-requires-clause-listed c =
    let old = c.args.desk.now in
    let new = c.grow_bytes.new.desk in
    let same : length new.shown.rows ≡ length old.shown.rows = ap (λ (d : Desk). length d.shown.rows) c.in_ok-grow_bytes.ensures.ok.2 in
    let many = as-many old c.requires in
    let more = ap (λ (ts : List (List ℕ)). length ts) c.in_ok-grow_bytes.ensures.more in
    let long = length-append (texts_of old.folder.folder) (drop (length (texts_of old.folder.folder)) (texts_of new.folder.folder)) in
    omega (arith, same, many, more, long)

pub returns-in-Ok-clause-ok : goal.returns-in-Ok-clause-ok
returns-in-Ok-clause-ok c =
    let ok = c.in_ok-grow_bytes.ensures.ok in
    record { bytes = ok.0; grown = ok.1; shows = subst (λ (d : Desk). ShowsMore d c.show_more.new.desk) ok.2 c.in-Ok.ensures.shows }

pub returns-in-Ok-clause-longer : goal.returns-in-Ok-clause-longer
returns-in-Ok-clause-longer c =
    subst (λ (d : Desk). length d.shown.rows ≤ length c.show_more.new.desk.shown.rows) c.in_ok-grow_bytes.ensures.ok.2 c.in-Ok.ensures.longer

pub returns-in-Ok-clause-valid : goal.returns-in-Ok-clause-valid
returns-in-Ok-clause-valid c =
    let old = c.args.desk.now in
    let ok = c.in_ok-grow_bytes.ensures.ok in
    let begins = subst (λ (d : Desk). texts_of d.folder.folder
    ≡ texts_of old.folder.folder ++ drop (length (texts_of old.folder.folder)) (texts_of d.folder.folder)) ok.2 c.in_ok-grow_bytes.ensures.more in
    renewed-desk old c.show_more.new.desk c.args.found
    (record { bytes = ok.0; grown = ok.1; shows = subst (λ (d : Desk). ShowsMore d c.show_more.new.desk) ok.2 c.in-Ok.ensures.shows })
    c.requires begins c.in-Ok.ensures.shown
