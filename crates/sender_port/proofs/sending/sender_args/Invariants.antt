use Rattle.std.proofs.Common.{◌≡◌, ◌∷◌, codes, take}
use Rattle.sender_port.proofs.sending.sender_args.Given as goal

abbrev pub invariant-loop-name : goal.invariant-loop-name
invariant-loop-name l = l.args ≡ codes "-i" ∷ take l.name-index l.names
