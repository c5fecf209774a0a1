use Rattle.std.proofs.Common.{◌≡◌, ◌<◌, ◌≤◌, ℕ, List, length, sym, ap, ◌∙◌, subst}
use Rattle.mbox_scan.specs.Mailbox.{message_limit}
use Rattle.message_state.specs.declared.row.Row.{Row}
use Rattle.thread_view.specs.Views.{IsViewOf}
use Rattle.session_asks.proofs.EditingLemmas.{put-back, put-there, set-length}
use Rattle.session_asks.proofs.editing.view_with.Goals as goal

pub view_of-requires : goal.view_of-requires
view_of-requires c =
    let put : length c.put-was.new.self ≡ length c.args.rows.now = ap (λ (l : List Row). length l) c.put-was.ensures.rows ∙ set-length c.args.rows.now c.args.k c.args.row in
    subst (λ (n : ℕ). n ≤ message_limit) (sym (ap (λ (l : List Row). length l) c.items.ensures ∙ put)) c.requires.few

pub put-back-requires : goal.put-back-requires
put-back-requires c =
    let put : length c.put-was.new.self ≡ length c.args.rows.now = ap (λ (l : List Row). length l) c.put-was.ensures.rows ∙ set-length c.args.rows.now c.args.k c.args.row in
    subst (λ (n : ℕ). c.args.k < n) (sym put) c.requires.within

pub put-other-requires : goal.put-other-requires
put-other-requires c =
    let put : length c.put-was.new.self ≡ length c.args.rows.now = ap (λ (l : List Row). length l) c.put-was.ensures.rows ∙ set-length c.args.rows.now c.args.k c.args.row in
    subst (λ (n : ℕ). c.args.k < n) (sym put) c.requires.within

pub returns-in-Ok-clause-rows : goal.returns-in-Ok-clause-rows
returns-in-Ok-clause-rows c =
    put-back c.args.rows.now c.put-was.new.self c.put-back.new.self c.args.k c.put-was.result c.args.row c.put-was.ensures.was c.put-was.ensures.rows c.put-back.ensures.rows

pub returns-in-Ok-clause-view : goal.returns-in-Ok-clause-view
returns-in-Ok-clause-view c = subst (λ (l : List Row). IsViewOf c.args.kind l c.in-Ok.view) (c.items.ensures ∙ c.put-was.ensures.rows) c.in-Ok.ensures

pub returns-in-Ok-clause-row : goal.returns-in-Ok-clause-row
returns-in-Ok-clause-row c = put-there c.args.rows.now c.put-was.new.self c.args.k c.args.row c.put-back.result c.requires.within c.put-was.ensures.rows c.put-back.ensures.was

pub returns-in-Err-clause-rows : goal.returns-in-Err-clause-rows
returns-in-Err-clause-rows c =
    put-back c.args.rows.now c.put-was.new.self c.put-other.new.self c.args.k c.put-was.result c.args.row c.put-was.ensures.was c.put-was.ensures.rows c.put-other.ensures.rows
