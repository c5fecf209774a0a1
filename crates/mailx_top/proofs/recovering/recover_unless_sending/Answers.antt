use Rattle.std.proofs.Common.{refl, inl}
use Rattle.host_port.proofs.RanLemmas.{Ran-none, Ran-map}
use Rattle.mailx_top.proofs.FileLemmas.{recovering-goes}
use Rattle.mailx_top.proofs.recovering.recover_unless_sending.Goals as goal

pub returns-in-Opens-clause-ran : goal.returns-in-Opens-clause-ran
returns-in-Opens-clause-ran g c = λ env is.
    rw c.in-Opens.is (Ran-map (recovering-goes env _ _ _ (rw c.in-Opens.is at is)) (c.recover_first.ensures.ran env))

pub returns-in-Sends-clause-ran : goal.returns-in-Sends-clause-ran
returns-in-Sends-clause-ran g c = λ env is. rw c.in-Sends.is (Ran-none (refl, inl refl))
