use Rattle.std.proofs.Common.{[], refl, inl}
use Rattle.host_port.proofs.RanLemmas.{Ran-none}
use Rattle.mailx_top.proofs.FolderLemmas.{heard-none, heard-all}
use Rattle.mailx_top.proofs.open.tell.Goals as goal

pub returns-then-options-clause-ran : goal.returns-then-options-clause-ran
returns-then-options-clause-ran g c = rw (heard-none c.args.options.now c.args.line.now c.if-options.true) (Ran-none (inl (tt, [], [], refl, refl, (refl, inl refl))))

pub returns-else-options-clause-ran : goal.returns-else-options-clause-ran
returns-else-options-clause-ran g c = rw (heard-all c.args.options.now c.args.line.now c.if-options.false) c.say.ensures.ran
