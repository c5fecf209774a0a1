use Rattle.mailx_top.proofs.top.say_end.Goals as goal

pub returns-in-Some : goal.returns-in-Some
returns-in-Some g c = rw c.in-Some.is (rw c.bytes.ensures at c.say_last.ensures)
