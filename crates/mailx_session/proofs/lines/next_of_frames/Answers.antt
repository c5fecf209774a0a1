use Rattle.std.proofs.Common.{◌≡◌, ℕ, List, length, ◌∙◌, ap}
use Rattle.std.specs.declared.option.Option.{Option}
use Rattle.command_desk.specs.declared.desk.Desk.{Desk}
use Rattle.session_state.specs.Waits.{Pending}
use Rattle.session_state.specs.Pending.{capped, open_before, closed}
use Rattle.session_state.specs.States.{cut_to}
use Rattle.session_state.proofs.RestLemmas.{cut-capped}
use Rattle.mailx_session.proofs.lines.next_of_frames.Goals as goal

pub returns-in-Ok-clause-resumed : goal.returns-in-Ok-clause-resumed
returns-in-Ok-clause-resumed c =
    let s = c.args.state.now in
    let left = c.next_line.new.self in
    let told : c.cap.new.self ≡ capped (length s.desk.conditions) s.frames = c.cap.ensures ∙ ap (λ (n : ℕ). capped n s.frames) c.depth.ensures.depth in
    let was : c.in-Ok.field-0.nested ≡ open_before (closed c.cap.new.self left) = c.in-Ok.ensures.nested in
    let desk : c.cut_to.new.desk ≡ cut_to (open_before (closed s.frames left)) s.desk =
    c.cut_to.ensures ∙ (ap (λ (n : Option ℕ). cut_to n s.desk) (was ∙ ap (λ (fs : List Pending). open_before (closed fs left)) told) ∙ cut-capped s.desk s.frames left) in
    ap (λ (d : Desk). record s { desk = d; frames = left }) desk
