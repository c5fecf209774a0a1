use Rattle.std.proofs.Common.{◌≡◌, [], ℕ, true, false, List, Some, sym, ap, ◌∙◌, arith}
use Rattle.std.proofs.lemmas.List.{append-nil}
use Rattle.mail_addresses.specs.Forms.{part_text, spaced}
use Rattle.mail_addresses.specs.Tokens.{tokens_in}
use Rattle.mail_addresses.proofs.NameLemmas.{after, after-append, name_from, name_from-gap, name_from-part, name_from-none, name_from-end, read_is_name, no_name}
use Rattle.mail_addresses.proofs.TokenLemmas.{token_less}
use Rattle.mail_addresses.proofs.Walks.{in_none, in_more}
use Rattle.mail_addresses.proofs.name.display_name.Goals as goal

pub loop-token-smaller : goal.loop-token-smaller
loop-token-smaller c = token_less c.in-Some.token c.loop-token.rest.now c.in-Some.after.now c.in-Some.ensures.0 c.in-Some.ensures.1

pub returns-else-is_part : goal.returns-else-is_part
returns-else-is_part c =
    let t = c.in-Some.token in
    let rest = tokens_in c.in-Some.after.now in
    let here = in_more c.loop-token.rest.now c.in-Some.after.now t c.in-Some.ensures.0 c.in-Some.ensures.1 in
    no_name (tokens_in c.args.bytes.now) (sym c.loop-token.invariant ∙ ap (after c.loop-token.name)
    (ap (name_from c.loop-token.begun c.loop-token.apart) here
    ∙ name_from-none c.loop-token.begun c.loop-token.apart t rest (sym c.is_gap.ensures ∙ c.if-is_gap.false) (sym c.is_part.ensures ∙ c.if-is_part.false)))

pub loop-token-preserved-then-is_gap : goal.loop-token-preserved-then-is_gap
loop-token-preserved-then-is_gap c =
    let t = c.in-Some.token in
    let begun = c.loop-token.begun in
    let apart = c.loop-token.apart in
    let rest = tokens_in c.in-Some.after.now in
    let here = in_more c.loop-token.rest.now c.in-Some.after.now t c.in-Some.ensures.0 c.in-Some.ensures.1 in
    ap (after c.loop-token.name) (sym (ap (name_from begun apart) here ∙ name_from-gap begun apart t rest (sym c.is_gap.ensures ∙ c.if-is_gap.true))) ∙ c.loop-token.invariant

pub loop-token-preserved : goal.loop-token-preserved
loop-token-preserved c =
    let t = c.in-Some.token in
    let name = c.loop-token.name in
    let begun = c.loop-token.begun in
    let apart = c.loop-token.apart in
    let rest = tokens_in c.in-Some.after.now in
    let here = in_more c.loop-token.rest.now c.in-Some.after.now t c.in-Some.ensures.0 c.in-Some.ensures.1 in
    ap (λ (x : List ℕ). after x (name_from true false rest)) c.in_ok-push_next.ensures
    ∙ after-append name (spaced apart (part_text t)) (name_from true false rest)
    ∙ ap (after name) (sym (ap (name_from begun apart) here ∙ name_from-part begun apart t rest (sym c.is_gap.ensures ∙ c.if-is_gap.false) (sym c.is_part.ensures ∙ c.if-is_part.true)))
    ∙ c.loop-token.invariant

pub returns : goal.returns
returns c =
    let name = c.loop-token.name in
    let begun = c.loop-token.begun in
    let apart = c.loop-token.apart in
    let ended : name_from begun apart (tokens_in c.loop-token.rest.now) ≡ Some [] =
    ap (name_from begun apart) (in_none c.loop-token.rest.now c.in_default.ensures) ∙ name_from-end begun apart 0 [] (omega arith) in
    read_is_name (tokens_in c.args.bytes.now) name (sym c.loop-token.invariant ∙ ap (after name) ended ∙ ap (λ (x : List ℕ). Some x) (append-nil name))
