use Rattle.std.proofs.Common.{subst}
use Rattle.commit_record.specs.Format.{IsWritten}
use Rattle.commit_record.specs.declared.record.Record.{Record}
use Rattle.commit_record.proofs.ReadingLemmas.{checked-back, found-is, found-some}
use Rattle.commit_record.proofs.reader.read.Goals as goal

pub returns-in-Some-clause-not_a_record : goal.returns-in-Some-clause-not_a_record
returns-in-Some-clause-not_a_record c = λ refused r w.
    c.checked.ensures.not_a_record refused (subst (λ (x : Record). IsWritten c.args.bytes.now x)
    (found-is c.args.bytes.now c.in_ok-found.found c.in-Some.value r c.in-Some.is c.in_ok-found.ensures w) w)

pub returns-in-Some-clause-read_back : goal.returns-in-Some-clause-read_back
returns-in-Some-clause-read_back c = λ r w.
    let bytes = c.args.bytes.now in
    let same = found-is bytes c.in_ok-found.found c.in-Some.value r c.in-Some.is c.in_ok-found.ensures w in
    let is : IsWritten bytes c.in-Some.value = subst (λ (x : Record). IsWritten bytes x) same w in
    rw same (checked-back bytes c.in-Some.value c.checked.result c.checked.ensures.ok c.checked.ensures.not_a_record is)

pub returns-in-None-clause-not_a_record : goal.returns-in-None-clause-not_a_record
returns-in-None-clause-not_a_record c = λ refused r w. found-some c.args.bytes.now c.in_ok-found.found r c.in-None.is c.in_ok-found.ensures w

pub returns-in-None-clause-read_back : goal.returns-in-None-clause-read_back
returns-in-None-clause-read_back c = λ r w. absurd (found-some c.args.bytes.now c.in_ok-found.found r c.in-None.is c.in_ok-found.ensures w)
