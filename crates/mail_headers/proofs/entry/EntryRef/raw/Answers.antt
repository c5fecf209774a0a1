use Rattle.std.proofs.Common.{sym, ap, ◌∙◌}
use Rattle.mail_headers.specs.Header.{entry_bytes}
use Rattle.mail_headers.proofs.EntryLemmas.{entry_bytes-at}
use Rattle.mail_headers.proofs.entry.EntryRef.raw.Goals as goal

pub returns : goal.returns
returns c = sym (entry_bytes-at c.self.inside.bytes.now c.self.inside.colon c.self.invariant.0) ∙ ap entry_bytes c.self.view_is
