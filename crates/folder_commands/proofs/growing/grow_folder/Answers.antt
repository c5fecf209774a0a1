use Rattle.std.proofs.Common.{rules, ◌≡◌, ◌∙◌, ap}
use Rattle.std.specs.declared.option.Option.TheVariants.{None}
use Rattle.mbox_scan.specs.Mailbox.{list_of, texts_of}
use Rattle.folder_commands.specs.Growing.{changed_from}
use Rattle.std.specs.declared.result.Result.TheVariants.{Ok}
use Rattle.folder_commands.proofs.GrowingLemmas.{more-than, listed-grown, if-done}
use Rattle.folder_commands.proofs.growing.grow_folder.Goals as goal

pub returns-then-branch-clause-more : goal.returns-then-branch-clause-more
returns-then-branch-clause-more c =
    let done = c.in_ok-grow_by_tail.was ∙ ap (λ b. Ok b) c.if-branch.true in
    more-than c.args.name.now c.args.folder.now c.args.bytes c.grow_by_tail.new.folder (rw c.bytes-2.ensures at c.grow_by_tail.ensures.grown done c.args.name.now)

pub returns-in-None-clause-more : goal.returns-in-None-clause-more
returns-in-None-clause-more c =
    let folder = c.args.folder.now in
    let stays : c.grow_by_tail.new.folder ≡ folder = c.grow_by_tail.ensures.stays (λ done. absurd (cc (done, c.in_ok-grow_by_tail.was, c.if-branch.false))) in
    let same : None ≡ changed_from (texts_of folder) (list_of c.args.bytes) = search rules in
    if-done c.reopen.result _ _ (λ is. more-than c.args.name.now folder c.args.bytes c.reopen.new.folder
    (listed-grown c.args.name.now folder c.args.bytes c.reopen.new.folder same is)) c.reopen.ensures.ok
