use Rattle.std.proofs.Common.{◌≡◌, ℕ, List, take, arith, subst}
use Rattle.std.proofs.lemmas.List.{take_all}
use Rattle.show_commands.proofs.NumberLemmas.{IsLeastAbove, follows, follows-none}
use Rattle.show_commands.proofs.printing.least_above.Goals as goal

pub returns-then-current-eq0 : goal.returns-then-current-eq0
returns-then-current-eq0 c = follows-none c.args.desk.now.shown c.requires.desk.shown c.args.numbers.now c.args.desk.now.shown.current c.if-current-eq0.true

pub returns : goal.returns
returns c =
    let desk = c.args.desk.now in
    let ns = c.args.numbers.now in
    let past = c.loop-n-test.false in
    let all : take c.loop-n.n-index ns ≡ ns = take_all c.loop-n.n-index ns (omega arith) in
    follows desk.shown c.requires.desk.shown c.requires.by_number ns c.requires.messages desk.shown.current (let low = c.if-current-eq0.false in omega arith) c.requires.desk.shown.current
    c.loop-n.least (subst (λ (l : List ℕ). IsLeastAbove desk.shown.current l c.loop-n.least) all c.loop-n.invariant)
