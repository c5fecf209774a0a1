use Rattle.std.proofs.Common.{◌≡◌, true, false, ap, sym, ◌∙◌, Some}
use Rattle.std.specs.List.{list_any}
use Rattle.memory_disk.specs.Lists.{named}
use Rattle.core_steps.specs.Settling.{standing_in}
use Rattle.actor_disk.specs.Starting.{is_found_of}
use Rattle.actor_disk.proofs.StartLemmas.{finds_token, finds_nothing}
use Rattle.actor_disk.proofs.starting.found_taken.Goals as goal

pub returns-then-branch : goal.returns-then-branch
returns-then-branch c =
    let files = named c.args.files.now in
    let stands : standing_in files c.args.actor.now.name ≡ Some c.in-Some.value = ap (standing_in files) (sym c.bytes-name.ensures) ∙ sym c.in_ok-standing.ensures ∙ c.in-Some.is in
    let found : list_any (is_found_of files c.args.actor.now.name c.in-Some.value.token) c.args.earlier.now ≡ true =
    ap (λ n. list_any (is_found_of files n c.in-Some.value.token) c.args.earlier.now) (sym c.bytes-name.ensures) ∙ sym c.in_ok-is_found-in-Some.ensures ∙ c.if-branch.true in
    finds_token files c.args.earlier.now c.args.actor.now c.in-Some.value stands found

pub returns : goal.returns
returns c =
    let files = named c.args.files.now in
    let stands : standing_in files c.args.actor.now.name ≡ Some c.in-Some.value = ap (standing_in files) (sym c.bytes-name.ensures) ∙ sym c.in_ok-standing.ensures ∙ c.in-Some.is in
    let found : list_any (is_found_of files c.args.actor.now.name c.in-Some.value.token) c.args.earlier.now ≡ false =
    ap (λ n. list_any (is_found_of files n c.in-Some.value.token) c.args.earlier.now) (sym c.bytes-name.ensures) ∙ sym c.in_ok-is_found-in-Some.ensures ∙ c.if-branch.false in
    finds_nothing files c.args.earlier.now c.args.actor.now c.in-Some.value stands found
