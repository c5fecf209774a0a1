-- What a delivery makes of the disk, whoever acts beside it.
use Rattle.mail_delivery.specs.Words.{actor}
use Rattle.mail_delivery.specs.Meaning.{round}
use Rattle.mail_delivery.proofs.RoundLemmas.{Any, commits-round, ends-round}
use Rattle.run_laws.specs.Programs.{asked_in}
use Rattle.run_laws.specs.Deliveries.{DeliveriesShowSteps, DeliveriesArePrograms}
use Rattle.run_laws.proofs.BracketLemmas.{all_show}
use Rattle.run_laws.proofs.ProgramLemmas.{loop_program}

pub deliveries_show_steps : DeliveriesShowSteps
deliveries_show_steps request env status d es safe honest = all_show safe.plays honest

pub deliveries_are_programs : DeliveriesArePrograms
deliveries_are_programs request env status es delivers actors spares =
    loop_program actors actor env.token (asked_in delivers.plays) (round request env) Any (commits-round request env) (ends-round request env) delivers.plays tt spares (λ k at. at)
