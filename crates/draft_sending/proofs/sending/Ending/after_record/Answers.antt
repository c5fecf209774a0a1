use Rattle.std.proofs.Common.{inl, inr}
use Rattle.draft_sending.proofs.sending.Ending.after_record.Goals as goal

pub returns-in-On-clause-leads : goal.returns-in-On-clause-leads
returns-in-On-clause-leads c = elim c.in-On.is [
  | inl on ↦ rw on c.send.ensures
  | inr over ↦ rw over c.send.ensures
]
