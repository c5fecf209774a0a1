use Rattle.commit_driver.proofs.MakingLemmas.{texts-added, bytes-added, can-be-added}
use Rattle.commit_driver.proofs.making.add.Goals as goal

pub returns-in_err-add_behind-in-Add-clause-can : goal.returns-in_err-add_behind-in-Add-clause-can
returns-in_err-add_behind-in-Add-clause-can c = can-be-added c.args.change.now c.requires

pub returns-in_err-push-in-AddRaw-clause-can : goal.returns-in_err-push-in-AddRaw-clause-can
returns-in_err-push-in-AddRaw-clause-can c = can-be-added c.args.change.now c.requires

pub returns-in_ok-add_behind-in-Add-clause-made : goal.returns-in_ok-add_behind-in-Add-clause-made
returns-in_ok-add_behind-in-Add-clause-made c = λ front texts ends.
    texts-added front c.args.held.now c.add_behind.new.held c.in-Add.name c.in-Add.texts c.items.result.now c.args.change.now c.in-Add.is c.items.ensures
    (c.in_ok-add_behind-in-Add.ensures front ends) texts

pub returns-in_ok-add_behind-in-Add-clause-can : goal.returns-in_ok-add_behind-in-Add-clause-can
returns-in_ok-add_behind-in-Add-clause-can c = can-be-added c.args.change.now c.requires

pub returns-in_ok-push-in-AddRaw-clause-made : goal.returns-in_ok-push-in-AddRaw-clause-made
returns-in_ok-push-in-AddRaw-clause-made c = λ front texts ends.
    bytes-added front c.args.held.now c.push.new.self c.in-AddRaw.name c.in-AddRaw.bytes c.bytes.result.now c.args.change.now c.in-AddRaw.is c.bytes.ensures
    c.in_ok-push-in-AddRaw.ensures.ok texts

pub returns-in_ok-push-in-AddRaw-clause-can : goal.returns-in_ok-push-in-AddRaw-clause-can
returns-in_ok-push-in-AddRaw-clause-can c = can-be-added c.args.change.now c.requires
