use Rattle.std.proofs.Common.{◌≡◌, false, true, List, sym, subst}
use Rattle.std.specs.Prelude.{IsTrue}
use Rattle.std.specs.List.{All}
use Rattle.folder_change.specs.declared.change.Change.{Change}
use Rattle.folder_change.specs.Changes.{is_rewrite}
use Rattle.host_port.proofs.RanLemmas.{Ran-map}
use Rattle.mail_delivery.proofs.StepLemmas.{no-rewrite, answered, unanswered}
use Rattle.mail_delivery.proofs.delivery.commit_changes.Goals as goal

pub returns-in-Ok-clause-ran : goal.returns-in-Ok-clause-ran
returns-in-Ok-clause-ran g c = Ran-map (λ es goes. answered c.args.token c.args.changes.now c.in-Ok.attempt c.status_of.result es c.status_of.ensures.status goes) c.in-Ok.ensures.ran

pub returns-in-Err-clause-ran : goal.returns-in-Err-clause-ran
returns-in-Err-clause-ran g c = Ran-map (λ es goes. unanswered c.args.token c.args.changes.now c.in-Err.cause es goes) c.in-Err.ensures.ran

pub change-requires-clause-based : goal.change-requires-clause-based
change-requires-clause-based g c =
    let of = c.requires in
    subst (λ (cs : List Change). All (λ (c : Change). IsTrue (is_rewrite c) → false ≡ true) cs) (sym of.2) (no-rewrite of.0 of.1 (false ≡ true))
