use Rattle.host_port.proofs.RanLemmas.{called, loaded-counted}
use Rattle.std.specs.declared.result.Result.TheVariants.{Ok, Err}
use Rattle.host_port.specs.declared.host.LoadError.TheVariants as error
use Rattle.session_play.proofs.ActLemmas.{tried-ok, tried-large, tried-failed, tried-memory}
use Rattle.session_play.proofs.act.try_load.Goals as goal

pub returns-in-Ok-clause-ran : goal.returns-in-Ok-clause-ran
returns-in-Ok-clause-ran g c = rw c.found_of.ensures
    (called (tried-ok c.args.name.now _) (loaded-counted c.args.name.now (Ok _) _ _ c.in-Ok.ensures.cause) c.load.ensures.start c.load.ensures.counts c.in-Ok.ensures.call)

pub returns-in-Err-TooLarge-clause-ran : goal.returns-in-Err-TooLarge-clause-ran
returns-in-Err-TooLarge-clause-ran g c =
    called (tried-large c.args.name.now _) (loaded-counted c.args.name.now (Err (error.TooLarge _)) _ _
    (rw c.in-Err-TooLarge.field-0-is at c.in-Err-TooLarge.ensures.cause)) c.load.ensures.start c.load.ensures.counts (rw c.in-Err-TooLarge.field-0-is at c.in-Err-TooLarge.ensures.call)

pub returns-in-Err-Failed-clause-ran : goal.returns-in-Err-Failed-clause-ran
returns-in-Err-Failed-clause-ran g c = called (tried-failed c.args.name.now)
    (loaded-counted c.args.name.now (Err error.Failed) _ _
    (rw c.in-Err-Failed.field-0-is at c.in-Err-Failed.ensures.cause)) c.load.ensures.start c.load.ensures.counts (rw c.in-Err-Failed.field-0-is at c.in-Err-Failed.ensures.call)

pub returns-in-Err-Memory-clause-ran : goal.returns-in-Err-Memory-clause-ran
returns-in-Err-Memory-clause-ran g c = called (tried-memory c.args.name.now)
    (loaded-counted c.args.name.now (Err error.Memory) _ _ tt) c.load.ensures.start c.load.ensures.counts (rw c.in-Err-Memory.field-0-is at c.in-Err-Memory.ensures.call)
