use Rattle.std.proofs.Common.{refl}
use Rattle.host_port.proofs.RanLemmas.{Ran-then, Ran-map}
use Rattle.session_play.specs.Play.{again, last, cut}
use Rattle.mailx_top.proofs.top.open_session.Goals as goal

pub returns-in-Ok-None-clause-ran : goal.returns-in-Ok-None-clause-ran
returns-in-Ok-None-clause-ran g c = λ env. Ran-then (λ front rest x y. again front rest refl x y) (rw c.in-Ok-None.field-0-is at c.in-Ok-None.ensures.ran) (c.lines.ensures.ran env)

pub returns-in-Ok-Some-clause-ran : goal.returns-in-Ok-Some-clause-ran
returns-in-Ok-Some-clause-ran g c = λ env. Ran-map (λ es x. last x) (rw c.in-Ok-Some.field-0-is at c.in-Ok-Some.ensures.ran)

pub returns-in-Err-clause-ran : goal.returns-in-Err-clause-ran
returns-in-Err-clause-ran g c = λ env. Ran-map (λ es x. cut x) c.in-Err.ensures.ran

pub returns-in-Ok-None-clause-bad_name : goal.returns-in-Ok-None-clause-bad_name
returns-in-Ok-None-clause-bad_name g c = λ bad. absurd ((rw c.in-Ok-None.field-0-is at c.in-Ok-None.ensures.bad_name) bad)

pub returns-in-Ok-Some-clause-bad_name : goal.returns-in-Ok-Some-clause-bad_name
returns-in-Ok-Some-clause-bad_name g c = λ bad. (rw c.in-Ok-Some.field-0-is at c.in-Ok-Some.ensures.bad_name) bad

pub returns-in-Err-clause-bad_name : goal.returns-in-Err-clause-bad_name
returns-in-Err-clause-bad_name g c = λ bad. c.in-Err.ensures.bad_name bad
