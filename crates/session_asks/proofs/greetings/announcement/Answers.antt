use Rattle.std.proofs.Common.{rules, append_assoc}
use Rattle.session_asks.specs.Switching.{announcement}
use Rattle.session_asks.proofs.greetings.announcement.Goals as goal

pub returns : goal.returns
unfolding announcement
returns c = search (rules, append_assoc)
