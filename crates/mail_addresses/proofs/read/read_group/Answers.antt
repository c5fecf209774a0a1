use Rattle.mail_addresses.specs.Listing.{IsGrouped, SpellsGroup}
use Rattle.mail_addresses.specs.Tokens.{tokens_in}
use Rattle.mail_addresses.proofs.GroupLemmas.{group_parts, added}
use Rattle.mail_addresses.proofs.read.read_group.Goals as goal

pub returns-in-Some : goal.returns-in-Some
returns-in-Some c =
    let piece = tokens_in c.args.piece.now in
    let front = tokens_in c.in-Some.front.now in
    let back = tokens_in c.in-Some.back.now in
    added c.args.keep c.read_grouped.result _ _ (IsGrouped front back) (SpellsGroup piece)
    (λ list said. (front, (back, c.in-Some.ensures.0, said)))
    (λ list is. group_parts piece front back list c.in-Some.ensures.0 c.in-Some.ensures.1 is)
    c.read_grouped.ensures
