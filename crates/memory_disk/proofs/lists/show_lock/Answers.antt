use Rattle.std.proofs.Common.{sym, refl}
use Rattle.memory_disk.proofs.NamedLemmas.{show-value, value-name, on-ok}
use Rattle.memory_disk.proofs.lists.show_lock.Goals as goal

pub returns-clause-shows : goal.returns-clause-shows
returns-clause-shows c = on-ok c.push.result
    (λ put q. show-value c.args.shown.now c.push.new.self c.args.locks.now _ c.in-Some.name.now _ q c.in-Some-get.token.now _ (sym c.in-Some.ensures)
    (sym c.in-Some-get.ensures) c.in_ok-copy.ensures refl put)
    c.push.ensures.ok

pub returns-clause-names : goal.returns-clause-names
returns-clause-names c = on-ok c.push.result
    (value-name c.args.shown.now c.push.new.self c.args.locks.now _ c.in-Some.name.now _ c.in-Some-get.token.now _ (sym c.in-Some.ensures) (sym c.in-Some-get.ensures) c.in_ok-copy.ensures)
    c.push.ensures.ok
