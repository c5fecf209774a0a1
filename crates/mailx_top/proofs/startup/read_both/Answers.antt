use Rattle.std.proofs.Common.{[], ◌∷◌, false}
use Rattle.std.specs.declared.option.Option.TheVariants.{None}
use Rattle.host_port.proofs.RanLemmas.{Ran-then, Ran-map}
use Rattle.command_words.specs.declared.options.Options.{Options}
use Rattle.mailx_top.specs.Words.{Start, Opens}
use Rattle.mailx_top.specs.Meaning.{Preparing, system_file}
use Rattle.mailx_top.proofs.EndLemmas.{any-env, caused-since}
use Rattle.mailx_top.proofs.WaitingLemmas.{leads-then, last-leads}
use Rattle.mailx_top.proofs.startup.read_both.Goals as goal

any-options : Options
any-options = record {
  exists = false;
  headers = false;
  ignores = false;
  quiet = false;
  no_system_file = false;
  named = false;
  folder = false;
  user = None;
  subject = None;
  blind = None;
  copies = None;
  tries = None;
  operands = [];
}

any-start : Start
any-start = Opens any-options

pub returns-in-Ok-clause-ran : goal.returns-in-Ok-clause-ran
returns-in-Ok-clause-ran g c = λ env start.
    let own = c.args.own.now in
    Ran-then (leads-then env (Preparing start c.args.session.now (system_file ∷ own ∷ [])) (Preparing start c.read_file.new.session (own ∷ [])) _)
    (c.in-Ok.ensures.ran env start (own ∷ []))
    (Ran-map (last-leads env (Preparing start c.read_file.new.session (own ∷ [])) start c.read_file-in-Ok.new.session c.read_file-in-Ok.result c.read_file-in-Ok.ensures.rests)
    (c.read_file-in-Ok.ensures.ran env start []))

pub returns-in-Err-clause-ran : goal.returns-in-Err-clause-ran
returns-in-Err-clause-ran g c = λ env start. c.in-Err.ensures.ran env start (c.args.own.now ∷ [])

pub returns-in-Ok-clause-cause : goal.returns-in-Ok-clause-cause
returns-in-Ok-clause-cause g c =
    caused-since (g.H.Host.world.counts c.args.host.now) (g.H.Host.world.counts c.read_file.new.host) (g.H.Host.world.counts c.read_file-in-Ok.new.host) c.read_file-in-Ok.result
    (c.in-Ok.ensures.ran any-env any-start []).never_fall c.read_file-in-Ok.ensures.cause
