use Rattle.std.proofs.Common.{ℕ, List, nat_eq, ◌==◌, ap, sym, ◌∙◌}
use Rattle.std.specs.List.{list_any, ends_with}
use Rattle.memory_disk.specs.Lists.{named}
use Rattle.actor_disk.specs.Starting.{FindsTaken, Takes}
use Rattle.actor_disk.proofs.StartLemmas.{looked, takes_own, takes_found, on_ok}
use Rattle.actor_disk.proofs.starting.taken.Goals as goal

pub returns-then-is_one-clause-takes : goal.returns-then-is_one-clause-takes
returns-then-is_one-clause-takes c = λ all once apart same_files same_locks are.
    let files = named c.args.disk.now.files in
    let locks = named c.args.disk.now.locks in
    let actor = c.args.actor.now in
    takes_own files locks all c.args.earlier.now actor _
    (looked c.args.shown.now.files c.args.shown.now.locks all c.args.earlier.now actor c.args.records.now c.bytes.result.now once apart files locks same_files same_locks are
    (c.bytes.ensures ∙ c.in_ok-end.ensures) c.has_actor-earlier_one.result c.has_lock-lock.result c.has_end-staged.result c.has_token-record.result c.has_actor-earlier_one.ensures
    (c.has_lock-lock.ensures ∙ ap (λ (ls : List (List ℕ × ℕ)). list_any (λ (p : List ℕ × ℕ). p.1 == actor.token) ls) c.items.ensures)
    (c.has_end-staged.ensures ∙ ap (λ (fs : List (List ℕ × List ℕ)). list_any (λ (p : List ℕ × List ℕ). ends_with nat_eq p.0 c.bytes.result.now) fs) c.items-2.ensures)
    c.has_token-record.ensures)
    (sym c.is_one.ensures ∙ c.if-is_one.true)

pub returns-clause-takes : goal.returns-clause-takes
returns-clause-takes c = λ all once apart same_files same_locks are.
    let files = named c.args.disk.now.files in
    let locks = named c.args.disk.now.locks in
    let actor = c.args.actor.now in
    on_ok (FindsTaken files c.args.earlier.now actor) (Takes files locks all c.args.earlier.now actor) c.found_taken.result
    (λ o found. takes_found files locks all c.args.earlier.now actor _ o
    (looked c.args.shown.now.files c.args.shown.now.locks all c.args.earlier.now actor c.args.records.now c.bytes.result.now once apart files locks same_files same_locks are
    (c.bytes.ensures ∙ c.in_ok-end.ensures) c.has_actor-earlier_one.result c.has_lock-lock.result c.has_end-staged.result c.has_token-record.result c.has_actor-earlier_one.ensures
    (c.has_lock-lock.ensures ∙ ap (λ (ls : List (List ℕ × ℕ)). list_any (λ (p : List ℕ × ℕ). p.1 == actor.token) ls) c.items.ensures)
    (c.has_end-staged.ensures ∙ ap (λ (fs : List (List ℕ × List ℕ)). list_any (λ (p : List ℕ × List ℕ). ends_with nat_eq p.0 c.bytes.result.now) fs) c.items-2.ensures)
    c.has_token-record.ensures)
    (sym c.is_one.ensures ∙ c.if-is_one.false) found)
    c.found_taken.ensures
