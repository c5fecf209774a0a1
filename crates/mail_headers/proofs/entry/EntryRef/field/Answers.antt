use Rattle.mail_headers.proofs.entry.EntryRef.field.Goals as goal

pub invariant_of-result : goal.invariant_of-result
invariant_of-result c = let at = c.self.invariant.0 c.in-Some.colon c.in-Some.is in (at.0, at.1, c.self.invariant.1)
