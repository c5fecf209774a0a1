use Rattle.std.proofs.Common.{ap, arith, rules}
use Rattle.host_port.proofs.RanLemmas.{called, filled-counted}
use Rattle.std.specs.declared.result.Result.TheVariants.{Ok, Err}
use Rattle.session_play.specs.Input.{Input}
use Rattle.session_play.proofs.InputLemmas.{filled, filled-err, still_open, in-cause, in-ok, in-more, in-left}
use Rattle.session_play.proofs.reader.Reader.fill.Goals as goal

pub take_in-requires : goal.take_in-requires
take_in-requires g c = still_open c.args.self.now c.requires

pub returns-in-Ok-clause-ran : goal.returns-in-Ok-clause-ran
returns-in-Ok-clause-ran g c =
    called (filled _ c.args.self.now c.take_in.new.self c.in-Ok.n c.fill.new.buf _ c.requires (search rules) (search rules)
    (search rules) c.take_in.ensures) (filled-counted (Ok c.in-Ok.n) c.fill.new.buf _ _ tt) c.fill.ensures.start c.fill.ensures.counts c.in-Ok.ensures.call

pub returns-in-Ok-clause-cause : goal.returns-in-Ok-clause-cause
returns-in-Ok-clause-cause g c = in-cause (g.H.Host.world.counts c.args.host.now) (g.H.Host.world.counts c.fill.new.self) _ c.args.self.now c.take_in.new.self _ c.take_in.ensures

pub returns-in-Ok-clause-more : goal.returns-in-Ok-clause-more
returns-in-Ok-clause-more g c = in-ok _ c.args.self.now c.take_in.new.self _ c.take_in.ensures (λ within is. in-more c.args.self.now c.take_in.new.self _ is)

pub returns-in-Ok-clause-not_less : goal.returns-in-Ok-clause-not_less
returns-in-Ok-clause-not_less g c = in-ok _ c.args.self.now c.take_in.new.self _ c.take_in.ensures (λ within is. let t = ap (λ (k : Input). k.taken) is in omega arith)

pub returns-in-Ok-clause-within : goal.returns-in-Ok-clause-within
returns-in-Ok-clause-within g c = in-ok _ c.args.self.now c.take_in.new.self _ c.take_in.ensures (λ within is. let t = ap (λ (k : Input). k.taken) is in omega arith)

pub returns-in-Ok-clause-open : goal.returns-in-Ok-clause-open
returns-in-Ok-clause-open g c = in-ok _ c.args.self.now c.take_in.new.self _ c.take_in.ensures (λ within is. still_open c.args.self.now c.requires)

pub returns-in-Ok-clause-kept : goal.returns-in-Ok-clause-kept
returns-in-Ok-clause-kept g c = in-ok _ c.args.self.now c.take_in.new.self _ c.take_in.ensures (λ within is. in-left c.args.self.now c.take_in.new.self _ within is)

pub returns-in-Err-clause-ran : goal.returns-in-Err-clause-ran
returns-in-Err-clause-ran g c = called (filled-err c.args.self.now c.requires)
    (filled-counted (Err _) c.fill.new.buf _ _ c.in-Err.ensures.cause) c.fill.ensures.start c.fill.ensures.counts c.in-Err.ensures.call
