use Rattle.std.proofs.Common.{◌≡◌, false, sym, ap, ◌∙◌}
use Rattle.mailx_vars.specs.Names.{is_short_name}
use Rattle.session_state.specs.Placing.{placed}
use Rattle.mailx_top.proofs.FolderLemmas.{with-bad-name}
use Rattle.mailx_top.proofs.open.open_placed.Goals as goal

pub returns-else-is_short_name-clause-ran : goal.returns-else-is_short_name-clause-ran
returns-else-is_short_name-clause-ran g c =
    let bad : is_short_name (placed c.args.session.now.here c.args.name.now) ≡ false = ap is_short_name (sym c.requires) ∙ (sym c.is_short_name.ensures ∙ c.if-is_short_name.false) in
    rw (with-bad-name c.args.session.now c.args.options.now c.args.name.now bad) (c.end_at_file.ensures.ran c.args.session.now)
