use Rattle.std.proofs.Common.{sym, ◌∙◌}
use Rattle.std.proofs.lemmas.Bool.{both_ways, MatchBool-at_true, MatchBool-at_false}
use Rattle.mail_addresses.specs.Listing.{pieces, Lists, SpellsMailbox, IsGrouped}
use Rattle.mail_addresses.specs.Tokens.{tokens_in}
use Rattle.mail_addresses.proofs.GroupLemmas.{grouped_parts, grouped_from, added}
use Rattle.mail_addresses.proofs.read.read_grouped.Goals as goal

pub returns-then-not-are_gaps : goal.returns-then-not-are_gaps
returns-then-not-are_gaps c = λ list is.
    both_ways _ c.if-not-are_gaps.true (c.are_gaps.ensures
    ∙ (grouped_parts (tokens_in c.args.front.now) (tokens_in c.args.back.now) (tokens_in c.in-Some.inside.now)
    (tokens_in c.in-Some.after.now) list c.in-Some.ensures.0 c.in-Some.ensures.1 is).gaps_after)

pub returns-then-not-named : goal.returns-then-not-named
returns-then-not-named c = λ list is.
    let group = grouped_parts (tokens_in c.args.front.now) (tokens_in c.args.back.now) (tokens_in c.in-Some.inside.now)
    (tokens_in c.in-Some.after.now) list c.in-Some.ensures.0 c.in-Some.ensures.1 is in
    group.not_empty (MatchBool-at_false _ _ c.if-not-named.true c.in_ok-named-in-Some.ensures group.name group.named)

pub returns-else-not-named : goal.returns-else-not-named
returns-else-not-named c =
    let front = tokens_in c.args.front.now in
    let back = tokens_in c.args.back.now in
    let inside = tokens_in c.in-Some.inside.now in
    let after = tokens_in c.in-Some.after.now in
    let name = MatchBool-at_true _ _ c.if-not-named.false c.in_ok-named-in-Some.ensures in
    added c.args.keep c.read_members.result _ _ (Lists SpellsMailbox (pieces inside)) (IsGrouped front back)
    (λ list said. grouped_from front back inside after list c.in-Some.ensures.0 record {
      name = name.0;
      named = name.1;
      not_empty = name.2;
      lists = said;
      gaps_after = sym c.are_gaps.ensures ∙ c.if-not-are_gaps.false;
    })
    (λ list is. (grouped_parts front back inside after list c.in-Some.ensures.0 c.in-Some.ensures.1 is).lists)
    c.read_members.ensures
