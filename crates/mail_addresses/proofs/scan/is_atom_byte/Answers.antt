use Rattle.std.proofs.Common.{sym}
use Rattle.mail_addresses.proofs.AtomLemmas.{atom_above, atom_letter, atom_digit}
use Rattle.mail_addresses.proofs.scan.is_atom_byte.Goals as goal

pub returns-then-b-gt93 : goal.returns-then-b-gt93
returns-then-b-gt93 c = sym (atom_above c.args.b c.if-b-gt93.true)

pub returns-then-b-le90 : goal.returns-then-b-le90
returns-then-b-le90 c = sym (atom_letter c.args.b c.if-b-ge65.true c.if-b-le90.true)

pub returns-then-b-le57 : goal.returns-then-b-le57
returns-then-b-le57 c = sym (atom_digit c.args.b c.if-b-ge48.true c.if-b-le57.true)
