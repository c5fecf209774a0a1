use Rattle.std.proofs.Common.{refl, sym, ◌∙◌}
use Rattle.host_port.proofs.RanLemmas.{Ran-map, called, said-counted}
use Rattle.mailx_top.proofs.EndLemmas.{said-far, says-read}
use Rattle.mailx_top.proofs.top.say_last.Goals as goal

pub returns-then-may_say : goal.returns-then-may_say
returns-then-may_say g c =
    Ran-map (λ es far. says-read _ _ es (sym c.may_say.ensures ∙ c.if-may_say.true) far)
    (called (said-far c.say.result _ _ refl) (said-counted c.say.result _ _ _ c.say.ensures.cause) c.say.ensures.start c.say.ensures.counts c.say.ensures.call)
