use Rattle.host_memory.specs.MemHosts.{host_told}
use Rattle.mailx_top.proofs.TryingLemmas.{if-ok, summed, told-or-lost}
use Rattle.mailx_top.proofs.trying.summary_left.Goals as goal

pub returns-in-Done : goal.returns-in-Done
returns-in-Done c =
    let told = told-or-lost (host_told c.args.host.now) c.lost.result c.lost.ensures c.if-lost.false in
    if-ok c.summary_of.result
    (λ text is. summed c.args.count c.args.status c.args.host.now text _ _ told.0 c.requires c.in-Done.is told.1 (c.file.ensures told.0 told.1) (c.file-in-Done.ensures told.0 told.1) is)
    c.summary_of.ensures
