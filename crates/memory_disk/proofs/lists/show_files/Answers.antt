use Rattle.std.proofs.Common.{arith}
use Rattle.memory_disk.specs.Lists.{named, names_of}
use Rattle.memory_disk.proofs.NamedLemmas.{among-more, among-all, names-more, names-once}
use Rattle.memory_disk.proofs.lists.show_files.Goals as goal

pub loop-k-preserved : goal.loop-k-preserved
loop-k-preserved c = (
  λ q. among-more (names_of c.args.files.now) c.loop-k.k q (named c.args.files.now q) _ _ (c.in_ok-show_file.ensures.shows q) (c.loop-k.invariant.0 q),
  names-more c.args.files.now c.loop-k.k _ _ c.in_ok-show_file.ensures.names c.loop-k.invariant.1,
)

pub returns-clause-shows : goal.returns-clause-shows
returns-clause-shows c = λ q. among-all c.args.files.now c.loop-k.k q _ (omega (arith, c.loop-k-test.false, c.len-k-end.ensures.count)) (c.loop-k.invariant.0 q)

pub returns-clause-once : goal.returns-clause-once
returns-clause-once c = names-once c.args.files.now c.loop-k.shown c.loop-k.k (omega (arith, c.loop-k-test.false, c.len-k-end.ensures.count)) c.len-k-end.ensures.once c.loop-k.invariant.1
