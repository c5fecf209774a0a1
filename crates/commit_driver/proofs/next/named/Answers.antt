use Rattle.std.proofs.Common.{subst, sym}
use Rattle.host_port.specs.Names.{IsFileName}
use Rattle.commit_record.specs.declared.record.Entry.{Entry}
use Rattle.commit_driver.proofs.FileLemmas.{entry-file}
use Rattle.commit_driver.proofs.next.named.Goals as goal

pub returns-in-File-clause-file : goal.returns-in-File-clause-file
returns-in-File-clause-file c =
    let e = c.index-items-at.result in
    subst IsFileName (sym c.bytes-in-File.ensures)
    (subst (λ (x : Entry). IsFileName x.name) c.index-items-at.is
    (entry-file c.args.plan.now.value.entries c.in-File.at e c.requires.safe.names (rw c.in-File.is at c.requires.fits) (rw c.items.ensures at c.index-items-at.is)))

pub returns-in-Found-clause-file : goal.returns-in-Found-clause-file
returns-in-Found-clause-file c =
    let e = c.index-items-at-in-Found.result in
    subst IsFileName (sym c.bytes-in-Found.ensures)
    (subst (λ (x : Entry). IsFileName x.name) c.index-items-at-in-Found.is
    (entry-file c.args.place.now.found.entries c.in-Found.at e c.requires.place.names (rw c.in-Found.is at c.requires.fits) (rw c.items-in-Found.ensures at c.index-items-at-in-Found.is)))
