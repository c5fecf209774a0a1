use Rattle.std.proofs.Common.{◌+◌, subst}
use Rattle.mail_headers.specs.Cutting.{IsFlat}
use Rattle.mail_headers.specs.Field.{Field}
use Rattle.mail_headers.proofs.UnfoldLemmas.{IsFlat-drop}
use Rattle.mail_headers.proofs.entry.FieldRef.is_flat.Goals as goal

pub returns : goal.returns
returns c = λ flat.
    subst (λ (f : Field). IsFlat f.value) c.self.view_is (IsFlat-drop c.self.inside.bytes.now (c.self.inside.colon + 1) (c.self.invariant.2 flat))
