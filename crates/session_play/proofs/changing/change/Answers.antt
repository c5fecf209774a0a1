use Rattle.std.proofs.Common.{◌≡◌, Some, None}
use Rattle.std.specs.Prelude.{option_copied}
use Rattle.folder_change.specs.Outcomes.{base_list}
use Rattle.host_port.proofs.RanLemmas.{Ran-map, Ran-none}
use Rattle.session_play.specs.Committing.{Commit, first_target_fault, wanted_of}
use Rattle.session_play.specs.Play.{Ask, Ret, Changes}
use Rattle.session_play.proofs.CommitLemmas.{commit-goes, target_fault-goes, commit-caused, commit-cut}
use Rattle.session_play.proofs.NamingLemmas.{named-files}
use Rattle.session_play.proofs.PlayLemmas.{at-memory}
use Rattle.session_play.proofs.changing.change.Goals as goal

pub commit-requires-clause-files : goal.commit-requires-clause-files
commit-requires-clause-files g c = named-files c.args.actor.now c.args.changes.now (cc (c.in-Ok-None.ensures, c.in-Ok-None.field-0-is))

pub returns-in-Ok-Some-clause-ran : goal.returns-in-Ok-Some-clause-ran
returns-in-Ok-Some-clause-ran g c =
    let wanted : Commit = wanted_of c.args.actor.now c.args.token c.args.changes.now (base_list (option_copied c.args.base)) in
    let is : first_target_fault c.args.actor.now c.args.changes.now ≡ Some (c.in-Ok-Some.name, c.in-Ok-Some.fault) = cc (c.in-Ok-Some.ensures, c.in-Ok-Some.field-0-is) in
    Ran-none (target_fault-goes wanted c.in-Ok-Some.name c.in-Ok-Some.fault is)

pub returns-in-Ok-None-clause-ran : goal.returns-in-Ok-None-clause-ran
returns-in-Ok-None-clause-ran g c =
    let wanted : Commit = wanted_of c.args.actor.now c.args.token c.args.changes.now (base_list (option_copied c.args.base)) in
    let well : first_target_fault c.args.actor.now c.args.changes.now ≡ None = cc (c.in-Ok-None.ensures, c.in-Ok-None.field-0-is) in
    rw c.taken.ensures (Ran-map (λ es h. commit-goes wanted well c.commit.result es h) c.commit.ensures.ran)

pub returns-in-Ok-None-clause-cause : goal.returns-in-Ok-None-clause-cause
returns-in-Ok-None-clause-cause g c = rw c.taken.ensures (commit-caused (g.H.Host.world.counts c.args.host.now) (g.H.Host.world.counts c.commit.new.host) c.commit.result c.commit.ensures.cause)

pub returns-in-Ok-None-clause-only_disk : goal.returns-in-Ok-None-clause-only_disk
returns-in-Ok-None-clause-only_disk g c = rw c.taken.ensures (commit-cut c.commit.result)

pub returns-in-Err-clause-ran : goal.returns-in-Err-clause-ran
returns-in-Err-clause-ran g c = Ran-none (at-memory (Ask (Changes (wanted_of c.args.actor.now c.args.token c.args.changes.now (base_list (option_copied c.args.base)))) Ret))
