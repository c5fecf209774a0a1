use Rattle.std.proofs.Common.{◌≡◌, take, map}
use Rattle.mail_addresses.specs.declared.address.Address.{Address}
use Rattle.draft_text.proofs.reply.specs_of.Given as goal

abbrev pub invariant-loop-address : goal.invariant-loop-address
invariant-loop-address l = l.specs ≡ map (λ (a : Address). a.spec) (take l.address-index l.addresses)
