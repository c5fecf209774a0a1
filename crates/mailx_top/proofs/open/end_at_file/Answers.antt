use Rattle.std.proofs.Common.{◌++◌}
use Rattle.host_port.proofs.RanLemmas.{Ran-none}
use Rattle.session_play.proofs.PlayLemmas.{at-memory}
use Rattle.mail_text.specs.Lines.{with_feed}
use Rattle.mailx_top.specs.Meaning.{ends_with}
use Rattle.mailx_top.proofs.open.end_at_file.Goals as goal

pub returns-in-Ok-clause-ran : goal.returns-in-Ok-clause-ran
returns-in-Ok-clause-ran g c = λ desk. rw (c.bytes.ensures, c.in-Ok.ensures) at c.end_with.ensures.ran desk

pub returns-in-Err-clause-ran : goal.returns-in-Err-clause-ran
returns-in-Err-clause-ran g c = λ desk. Ran-none (at-memory (ends_with c.args.options.now (with_feed (c.args.name.now ++ c.args.fault.now)) c.args.end))
