use Rattle.std.proofs.Common.{arith}
use Rattle.mailx_macros.proofs.DefinitionLemmas.{keeps_without}
use Rattle.mailx_macros.proofs.macros.Macros.undef.Goals as goal

pub invariant_of-self : goal.invariant_of-self
invariant_of-self c =
    let held = c.self.invariant in
    let kept = keeps_without c.self.inside.list.items c.take_out.new.list.items c.self.inside.unfinished c.args.name.now c.in-Some.lines
    c.self.inside.lines c.in-Some.ensures.items c.in-Some.ensures.lines held.0 held.1 in
    (kept.0, kept.1, λ h. let room = held.2 h in let len = c.in-Some.ensures.len in let same = c.in-Some.ensures.room in omega arith)

pub invariant_of-self-in-None : goal.invariant_of-self-in-None
invariant_of-self-in-None c =
    let held = c.self.invariant in
    let kept = keeps_without c.self.inside.list.items c.take_out.new.list.items c.self.inside.unfinished c.args.name.now 0 c.self.inside.lines
    c.in-None.ensures.items c.in-None.ensures.lines held.0 held.1 in
    (kept.0, (let e = kept.1 in omega arith), λ h. let room = held.2 h in let len = c.in-None.ensures.len in let same = c.in-None.ensures.room in omega arith)
