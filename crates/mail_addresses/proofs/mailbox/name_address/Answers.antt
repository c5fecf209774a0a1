use Rattle.std.proofs.Common.{◌≡◌, sym, ◌∙◌, subst}
use Rattle.std.proofs.lemmas.Bool.{both_ways}
use Rattle.mail_addresses.specs.Forms.{GivesSpec, IsDisplayName, IsAngled}
use Rattle.mail_addresses.specs.Tokens.{tokens_in}
use Rattle.mail_addresses.proofs.MailboxLemmas.{angled_parts, angled_from, answers, at_none, at_some}
use Rattle.mail_addresses.proofs.mailbox.name_address.Goals as goal

pub returns-then-not-are_gaps : goal.returns-then-not-are_gaps
returns-then-not-are_gaps c = λ a is.
    both_ways _ c.if-not-are_gaps.true (c.are_gaps.ensures
    ∙ (angled_parts (tokens_in c.args.front.now) (tokens_in c.args.back.now) (tokens_in c.in-Some.inside.now)
    (tokens_in c.in-Some.after.now) a c.in-Some.ensures.0 c.in-Some.ensures.1 is).gaps_after)

pub returns-in-None-name : goal.returns-in-None-name
returns-in-None-name c = λ a is.
    at_none _ _ _ c.in-None-name.is c.in_ok-name-in-Some.ensures a.name
    (angled_parts (tokens_in c.args.front.now) (tokens_in c.args.back.now) (tokens_in c.in-Some.inside.now) (tokens_in c.in-Some.after.now) a c.in-Some.ensures.0 c.in-Some.ensures.1 is).named

pub returns-in-Some-name : goal.returns-in-Some-name
returns-in-Some-name c =
    let front = tokens_in c.args.front.now in
    let back = tokens_in c.args.back.now in
    let inside = tokens_in c.in-Some.inside.now in
    let after = tokens_in c.in-Some.after.now in
    let name = c.in-Some-name.name in
    let named : IsDisplayName front name = at_some _ name _ _ c.in-Some-name.is c.in_ok-name-in-Some.ensures in
    answers c.spec_address.result (λ a. GivesSpec inside a × (a.name ≡ name)) (GivesSpec inside) (IsAngled front back)
    (λ a said. angled_from front back inside after a c.in-Some.ensures.0 record {
      named = subst (IsDisplayName front) (sym said.1) named;
      gives_spec = said.0;
      gaps_after = sym c.are_gaps.ensures ∙ c.if-not-are_gaps.false;
    })
    (λ a is. (angled_parts front back inside after a c.in-Some.ensures.0 c.in-Some.ensures.1 is).gives_spec)
    c.spec_address.ensures
