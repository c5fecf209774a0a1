use Rattle.std.proofs.Common.{rules}
use Rattle.draft_sending.proofs.SendingLemmas.{lost-left}
use Rattle.draft_sending.proofs.sending.Ending.save_dead_letter.Goals as goal

pub returns-in-Some : goal.returns-in-Some
returns-in-Some c = (
  lost-left c.args.state.now c.args.self.now.letter c.in-Some.change _ _
      (cc (c.in_ok-change.ensures, c.in-Some.is, c.in_ok-text.ensures, c.bytes.ensures)) c.in_ok-changes-in-Some.ensures (cc (c.in_ok-name-in-Some.ensures, c.change_name.ensures)),
  tt,
  search rules,
  search rules,
)
