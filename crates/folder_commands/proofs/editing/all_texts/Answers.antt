use Rattle.std.proofs.Common.{◌∙◌, ◌++◌, ◌∷◌, [], ℕ, List, take, sym, ap, arith}
use Rattle.std.proofs.lemmas.List.{take_all}
use Rattle.mbox_scan.specs.Mailbox.{texts_of}
use Rattle.folder_commands.proofs.editing.all_texts.Goals as goal

pub loop-k-preserved : goal.loop-k-preserved
loop-k-preserved c =
    c.in_ok-push.ensures.ok
    ∙ ap (λ (ts : List (List ℕ)). ts ++ c.in_ok-copy.field-0 ∷ []) c.loop-k.invariant
    ∙ ap (λ (t : List ℕ). take c.loop-k.k (texts_of c.args.folder.now) ++ t ∷ []) (c.in_ok-copy.ensures ∙ c.text.ensures)
    ∙ sym c.message.ensures.front

pub returns-clause-texts : goal.returns-clause-texts
returns-clause-texts c =
    c.loop-k.invariant
    ∙ take_all c.loop-k.k (texts_of c.args.folder.now) (let done = c.loop-k-test.false in let count = c.count-k-end.ensures.count in omega (arith, done, count))
