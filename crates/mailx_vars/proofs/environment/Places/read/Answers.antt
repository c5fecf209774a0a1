use Rattle.std.proofs.Common.{List, ℕ, ap, sym, ◌∙◌}
use Rattle.std.specs.declared.option.Option.TheVariants.{Some}
use Rattle.std.proofs.lemmas.Bool.{cond-true}
use Rattle.mail_text.specs.Number.{number_of}
use Rattle.mailx_vars.specs.Environment.{dead_in, mail_in, mbox_in, places_in, rc_in, width_of}
use Rattle.mailx_vars.specs.declared.environment.Places.{Places}
use Rattle.mailx_vars.proofs.PlaceLemmas.{same-places}
use Rattle.mailx_vars.proofs.environment.Places.read.Goals as goal

abbrev Both : Type 0
Both = List ℕ × List ℕ

pub returns-clause-places : goal.returns-clause-places
returns-clause-places c =
    let pairs = c.args.pairs.now in
    let home = c.variable-home.ensures in
    let user = c.variable-user.ensures in
    ap (λ (p : Places). Some p)
    (same-places _ (places_in pairs)
    (ap (λ (b : Both). b.0) c.in_ok-own.ensures ∙ home)
    (ap (λ (b : Both). b.1) c.in_ok-own.ensures ∙ user)
    (ap (λ (b : Both). b.0) c.in_ok-inboxes.ensures ∙ ap (mail_in pairs) user)
    (ap (λ (b : Both). b.1) c.in_ok-inboxes.ensures ∙ ap (rc_in pairs) home)
    (ap (λ (b : Both). b.0) c.in_ok-outboxes.ensures ∙ ap (mbox_in pairs) home)
    (ap (λ (b : Both). b.1) c.in_ok-outboxes.ensures ∙ ap (dead_in pairs) home)
    (ap (λ (b : Both). b.0) c.in_ok-programs.ensures)
    (ap (λ (b : Both). b.1) c.in_ok-programs.ensures)
    (ap (λ (b : Both). b.0) c.in_ok-editors.ensures)
    (ap (λ (b : Both). b.1) c.in_ok-editors.ensures)
    (c.in_ok-tz.ensures ∙ c.variable.ensures)
    (c.width_of.ensures.width ∙ ap (λ (v : List ℕ). width_of (number_of v)) c.variable-2.ensures))
    ∙ sym (cond-true _ _ _ (sym c.knows_user.ensures ∙ c.if-not-knows_user.false))
