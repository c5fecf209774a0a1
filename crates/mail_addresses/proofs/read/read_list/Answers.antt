use Rattle.std.proofs.Common.{ℕ, ap, inl}
use Rattle.mail_addresses.specs.declared.address.AddressError.TheVariants.{Syntax}
use Rattle.mail_addresses.specs.Listing.{Reads, IsFault}
use Rattle.mail_addresses.proofs.UniqueLemmas.{reads_no_fault, fault_unique, reads_in_spec}
use Rattle.mail_addresses.proofs.PieceReading.{read_all}
use Rattle.mail_addresses.proofs.MailboxLemmas.{at_none, at_some}
use Rattle.mail_addresses.proofs.read.read_list.Goals as goal

pub returns-in-None-clause-refused : goal.returns-in-None-clause-refused
returns-in-None-clause-refused c = λ at fault.
    let items = c.read_pieces.new.list.items in
    let reads : Reads c.args.value.now items = read_all c.args.value.now c.new-list.result.items items c.new-list.ensures.items (at_none c.in_ok-bad.bad _ _ c.in-None.is c.in_ok-bad.ensures) in
    reads_no_fault c.args.value.now items at reads fault

pub returns-in-None-clause-local : goal.returns-in-None-clause-local
returns-in-None-clause-local c =
    let items = c.read_pieces.new.list.items in
    let reads : Reads c.args.value.now items = read_all c.args.value.now c.new-list.result.items items c.new-list.ensures.items (at_none c.in_ok-bad.bad _ _ c.in-None.is c.in_ok-bad.ensures) in
    reads_in_spec c.args.value.now items reads

pub returns-in-Some-clause-accepted : goal.returns-in-Some-clause-accepted
returns-in-Some-clause-accepted c = λ list reads.
    let fault : IsFault c.args.value.now c.in-Some.at = at_some c.in_ok-bad.bad c.in-Some.at _ _ c.in-Some.is c.in_ok-bad.ensures in
    absurd (reads_no_fault c.args.value.now list c.in-Some.at reads fault)

pub returns-in-Some-clause-refused : goal.returns-in-Some-clause-refused
returns-in-Some-clause-refused c = λ at other.
    let fault : IsFault c.args.value.now c.in-Some.at = at_some c.in_ok-bad.bad c.in-Some.at _ _ c.in-Some.is c.in_ok-bad.ensures in
    inl (ap (λ (n : ℕ). Syntax n) (fault_unique c.args.value.now c.in-Some.at at fault other))
