use Rattle.std.proofs.Common.{refl, sym, ◌∙◌}
use Rattle.std.proofs.lemmas.Bool.{eqb-true}
use Rattle.std.proofs.lemmas.List.{nil_from_length}
use Rattle.mail_addresses.proofs.PlainLemmas.{reads_spec}
use Rattle.mail_addresses.proofs.plain.plain_spec.Goals as goal

pub returns-else-not-is_empty : goal.returns-else-not-is_empty
returns-else-not-is_empty c =
    let none = nil_from_length c.in-Some.after.now (eqb-true _ _ (sym c.is_empty.ensures ∙ c.if-not-is_empty.false)) in
    reads_spec c.args.value.now c.in-Some.after.now c.in-Some.local _ c.in-Some.ensures none refl refl refl
