use Rattle.mailx_top.proofs.FolderLemmas.{with-held, with-large}
use Rattle.mailx_top.proofs.open.open_found.Goals as goal

pub returns-in-Bytes-default-true-clause-ran : goal.returns-in-Bytes-default-true-clause-ran
returns-in-Bytes-default-true-clause-ran g c =
    let w = c.in-Bytes-default-true in
    rw (with-held c.args.session.now c.args.options.now c.args.name.now _ _ _ w.is w.held-test) (c.end_at_file.ensures.ran c.args.session.now)

pub returns-in-TooLarge-clause-ran : goal.returns-in-TooLarge-clause-ran
returns-in-TooLarge-clause-ran g c =
    rw (with-large c.args.session.now c.args.options.now c.args.name.now _ _ c.in-TooLarge.is) (c.end_at_file-in-TooLarge.ensures.ran c.args.session.now)
