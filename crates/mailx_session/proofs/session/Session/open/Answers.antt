use Rattle.std.proofs.Common.{◌≡◌, ap, ◌∙◌, subst}
use Rattle.session_state.specs.declared.state.SessionState.{SessionState}
use Rattle.session_state.specs.States.{with_desk}
use Rattle.session_asks.specs.Openings.{with_opened}
use Rattle.session_asks.proofs.OpeningLemmas.{laid-is}
use Rattle.mailx_session.proofs.session.Session.open.Goals as goal

pub returns-clause-ok : goal.returns-clause-ok
returns-clause-ok c =
    let is = c.in_ok-opening.ensures in
    let put = c.put_folder.ensures.put ∙ laid-is c.self.inside.state c.args.name c.args.folder _ is in (
      is.rows,
      is.are,
      subst (λ (s : SessionState). with_desk c.self.inside.state c.put_folder.new.desk
          ≡ with_opened s c.args.name c.args.folder is.rows) c.self.view_is (ap (with_desk c.self.inside.state) put),
    )
