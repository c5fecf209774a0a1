use Rattle.std.proofs.Common.{refl, sym, ◌∙◌}
use Rattle.std.proofs.lemmas.Bool.{eqb-true}
use Rattle.std.proofs.lemmas.List.{nil_from_length}
use Rattle.mail_addresses.proofs.PlainLemmas.{reads_angled}
use Rattle.mail_addresses.proofs.plain.plain_angled.Goals as goal

pub returns-else-not-is_empty : goal.returns-else-not-is_empty
returns-else-not-is_empty c =
    let none = nil_from_length c.in-Some-behind.after.now (eqb-true _ _ (sym c.is_empty.ensures ∙ c.if-not-is_empty.false)) in
    reads_angled c.args.value.now c.in-Some.back.now c.in-Some-spec_front.last.now c.in-Some-behind.after.now c.in-Some-spec_front.local _
    c.in-Some.ensures c.in-Some-spec_front.ensures c.in-Some-behind.ensures none c.split_at.ensures.front refl
