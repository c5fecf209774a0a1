use Rattle.std.proofs.Common.{inl, inr}
use Rattle.draft_sending.specs.Sending.{refused_by}
use Rattle.draft_sending.proofs.sending.Ending.after_dead_letter.Goals as goal

pub returns-in_ok-line-in-On-clause-leads : goal.returns-in_ok-line-in-On-clause-leads
returns-in_ok-line-in-On-clause-leads c =
    elim c.in-On.is [
      | inl on ↦ rw on (rw (c.in_ok-line-in-On.ensures, c.bytes.ensures) at (c.say_and_end.ensures c.args.state.now))
      | inr over ↦ rw over (rw (c.in_ok-line-in-On.ensures, c.bytes.ensures) at (c.say_and_end.ensures c.args.state.now))
    ]

pub returns-in-Refused-clause-leads : goal.returns-in-Refused-clause-leads
returns-in-Refused-clause-leads c = rw c.in-Refused.is (c.say_and_end-in-Refused.ensures (refused_by c.args.state.now))
