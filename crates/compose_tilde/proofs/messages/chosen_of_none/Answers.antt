use Rattle.std.proofs.Common.{ℕ, List, ◌∙◌, subst}
use Rattle.mbox_scan.proofs.TextLemmas.{texts-empty}
use Rattle.message_list.specs.declared.list.Purpose.TheVariants.{Live}
use Rattle.message_list.specs.Choosing.{chosen, IsChosen}
use Rattle.compose_tilde.proofs.messages.chosen_of_none.Goals as goal

pub returns-in-Ok-clause-chosen : goal.returns-in-Ok-clause-chosen
returns-in-Ok-clause-chosen c =
    subst (λ (texts : List (List ℕ)). IsChosen c.chosen.result (chosen Live c.args.shown.now texts c.args.words.now))
    (texts-empty c.in-Ok.none (c.in-Ok.ensures.ok ∙ c.new.ensures)) c.chosen.ensures.chosen
