use Rattle.session_asks.proofs.beginning.file_fault.Goals as goal

pub returns-in-Some : goal.returns-in-Some
returns-in-Some c = rw c.in-Some.is (rw c.bytes.ensures at c.name_fault.ensures)
