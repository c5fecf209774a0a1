use Rattle.std.proofs.Common.{[], ◌∷◌}
use Rattle.host_port.proofs.RanLemmas.{Ran-map}
use Rattle.mailx_top.specs.Meaning.{Preparing}
use Rattle.mailx_top.proofs.FileLemmas.{own-leads, both-lead}
use Rattle.mailx_top.proofs.WaitingLemmas.{last-leads}
use Rattle.mailx_top.proofs.startup.read_named.Goals as goal

pub returns-then-no_system_file-clause-ran : goal.returns-then-no_system_file-clause-ran
returns-then-no_system_file-clause-ran g c = λ env start.
    Ran-map (own-leads env start c.args.session.now c.args.own.now _ c.args.no_system_file c.if-no_system_file.true)
    (Ran-map (last-leads env (Preparing start c.args.session.now (c.args.own.now ∷ [])) start c.read_file.new.session c.read_file.result c.read_file.ensures.rests)
    (c.read_file.ensures.ran env start []))

pub returns-else-no_system_file-clause-ran : goal.returns-else-no_system_file-clause-ran
returns-else-no_system_file-clause-ran g c = λ env start.
    Ran-map (both-lead env start c.args.session.now c.args.own.now _ c.args.no_system_file c.if-no_system_file.false) (c.read_both.ensures.ran env start)
