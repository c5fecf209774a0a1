use Rattle.host_port.proofs.RanLemmas.{Ran-none}
use Rattle.session_play.specs.Play.{cut}
use Rattle.session_play.proofs.PlayLemmas.{at-memory}
use Rattle.std.proofs.Common.{Some}
use Rattle.mailx_top.specs.Meaning.{recovering}
use Rattle.mailx_top.specs.Wants.{start_from}
use Rattle.mailx_top.proofs.top.start_session.Goals as goal

pub returns-in-Err-clause-ran : goal.returns-in-Err-clause-ran
returns-in-Err-clause-ran g c = Ran-none (cut (at-memory (recovering c.args.env.now (Some (start_from c.args.start)))))
