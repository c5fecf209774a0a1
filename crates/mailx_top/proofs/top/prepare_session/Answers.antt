use Rattle.host_port.proofs.RanLemmas.{Ran-map}
use Rattle.mailx_top.specs.Wants.{start_from}
use Rattle.mailx_top.proofs.WaitingLemmas.{silent-loop, aloud-loop}
use Rattle.mailx_top.proofs.top.prepare_session.Goals as goal

pub returns-then-options-clause-ran : goal.returns-then-options-clause-ran
returns-then-options-clause-ran g c =
    let env = c.args.env.now in
    let start = start_from c.args.start in
    Ran-map (λ es loop. silent-loop env start (rw c.options.ensures at c.if-options.true) es _ loop) (rw c.requires at (c.open_session.ensures.ran env))

pub returns-else-options-clause-ran : goal.returns-else-options-clause-ran
returns-else-options-clause-ran g c =
    let env = c.args.env.now in
    let start = start_from c.args.start in
    Ran-map (λ es loop. aloud-loop env start (rw c.options.ensures at c.if-options.false) es _ loop) (rw c.requires at (c.read_session.ensures.ran env))

pub returns-then-options-clause-bad_name : goal.returns-then-options-clause-bad_name
returns-then-options-clause-bad_name g c = λ bad. (rw c.requires at c.open_session.ensures.bad_name) bad.1

pub returns-else-options-clause-bad_name : goal.returns-else-options-clause-bad_name
returns-else-options-clause-bad_name g c = λ bad.
    absurd (let silent = bad.0 in let is = rw c.options.ensures at c.if-options.false in cc (silent, is))
