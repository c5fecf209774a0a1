use Rattle.std.proofs.Common.{sym, ◌∙◌}
use Rattle.std.proofs.lemmas.Bool.{both_ways}
use Rattle.mail_addresses.specs.Tokens.{tokens_in}
use Rattle.mail_addresses.proofs.Walks.{spec_domain, local_of}
use Rattle.mail_addresses.proofs.FormLemmas.{spec_at}
use Rattle.mail_addresses.proofs.parts.local_length.Goals as goal
use Rattle.mail_addresses.proofs.parts.local_length.Goals.{else-is_local_part-via-then-is_local_part+else-is_domain, else-is_local_part-via-else-is_local_part}

pub returns-else-is_local_part : goal.returns-else-is_local_part
returns-else-is_local_part c = λ n spec.
    let parts = spec_at _ (tokens_in c.in-Some.local.now) (tokens_in c.in-Some.domain.now) n c.in-Some.ensures.0 c.in-Some.ensures.1 spec in
    elim c.else-is_local_part.branch [
      | else-is_local_part-via-then-is_local_part+else-is_domain w ↦ both_ways _ w.if-is_domain.false (w.is_domain.ensures ∙ parts.1)
      | else-is_local_part-via-else-is_local_part w ↦ both_ways _ w.if-is_local_part.false (c.is_local_part.ensures ∙ parts.0)
    ]

pub returns-then-is_domain : goal.returns-then-is_domain
returns-then-is_domain c =
    spec_domain c.args.bytes.now c.in-Some.local.now c.in-Some.domain.now c.in-Some.ensures (sym c.is_local_part.ensures ∙ c.if-is_local_part.true) (sym c.is_domain.ensures ∙ c.if-is_domain.true)

pub returns-in-None : goal.returns-in-None
returns-in-None c = local_of (tokens_in c.args.bytes.now) c.whole_local.result c.in-None.ensures c.whole_local.ensures
