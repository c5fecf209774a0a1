use Rattle.std.proofs.Common.{List, ℕ, ◌++◌, sym, ap}
use Rattle.mail_addresses.proofs.NameLemmas.{taken-last, taken-pair}
use Rattle.mail_addresses.proofs.scan.push_taken.Goals as goal

pub returns-in_default-clause-text : goal.returns-in_default-clause-text
returns-in_default-clause-text c = ap (λ (l : List ℕ). c.args.out.now ++ l) (sym (taken-last c.args.pair.now c.requires.0 c.requires.1 c.in_default.len_below))

pub returns-in_ok-push-in-len2-up-clause-text : goal.returns-in_ok-push-in-len2-up-clause-text
returns-in_ok-push-in-len2-up-clause-text c =
    taken-pair c.args.out.now c.push.new.self c.args.pair.now c.requires.0 c.requires.1 c.in-len2-up.len_at_least c.in_ok-push-in-len2-up.ensures.ok
