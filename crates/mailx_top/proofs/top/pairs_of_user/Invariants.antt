use Rattle.std.proofs.Common.{◌≡◌, ◌++◌, ◌∷◌, take, codes}
use Rattle.mailx_top.proofs.top.pairs_of_user.Given as goal

abbrev pub invariant-loop-name : goal.invariant-loop-name
invariant-loop-name l = l.all ≡ (codes "MAIL", codes "/var/mail/" ++ l.user) ∷ take l.name-index l.pairs
