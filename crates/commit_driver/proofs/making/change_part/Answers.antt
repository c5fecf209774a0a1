use Rattle.std.proofs.lemmas.Result.{on_ok_weaker}
use Rattle.commit_driver.proofs.MakingLemmas.{part-made}
use Rattle.commit_driver.proofs.making.change_part.Goals as goal

pub returns-in-Some-clause-made : goal.returns-in-Some-clause-made
returns-in-Some-clause-made c = λ stay whole texts is.
    on_ok_weaker c.add.result
    (λ made. part-made stay c.args.end.now c.add.new.held c.in-Some.held whole c.args.file.now c.args.change.now texts is c.in-Some.is made)
    (c.add.ensures.made is.0 texts is.4)
