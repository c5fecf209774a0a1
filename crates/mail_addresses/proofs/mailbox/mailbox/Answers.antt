use Rattle.std.proofs.Common.{◌≡◌, ◌∙◌, inl, inr}
use Rattle.mail_addresses.specs.Forms.{GivesSpec, IsAngled, IsMailbox}
use Rattle.mail_addresses.specs.Tokens.{tokens_in}
use Rattle.mail_addresses.proofs.MailboxLemmas.{mailbox_angled, mailbox_bare, answers}
use Rattle.mail_addresses.proofs.mailbox.mailbox.Goals as goal

pub returns-in-None : goal.returns-in-None
returns-in-None c =
    let ts = tokens_in c.args.bytes.now in
    answers c.spec_address.result (λ a. GivesSpec ts a × (a.name ≡ c.new.result)) (GivesSpec ts) (IsMailbox ts)
    (λ a said. inl (said.0, said.1 ∙ c.new.ensures))
    (λ a is. mailbox_bare ts a c.in-None.ensures is)
    c.spec_address.ensures

pub returns-in-Some : goal.returns-in-Some
returns-in-Some c =
    let ts = tokens_in c.args.bytes.now in
    let front = tokens_in c.in-Some.front.now in
    let back = tokens_in c.in-Some.back.now in
    answers c.name_address.result (IsAngled front back) (IsAngled front back) (IsMailbox ts)
    (λ a said. inr (front, (back, c.in-Some.ensures.0, said)))
    (λ a is. mailbox_angled ts front back a c.in-Some.ensures.0 c.in-Some.ensures.1 is)
    c.name_address.ensures
