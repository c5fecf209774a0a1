use Rattle.std.proofs.Common.{◌≡◌, ◌<◌, List, length, sym, ◌∙◌, ap, subst}
use Rattle.std.proofs.lemmas.List.Edits.{map_over_more}
use Rattle.session_state.specs.Waits.{Pending}
use Rattle.session_state.specs.Pending.{capped_to}
use Rattle.session_state.proofs.frames.Frames.cap.Goals as goal

pub loop-frame-preserved : goal.loop-frame-preserved
loop-frame-preserved c =
    let f : Pending → Pending = capped_to c.args.depth in
    let told : c.cap.new.self ≡ f c.frame-item.result = c.cap.ensures ∙ ap f (sym c.frame-item.is) in
    let low : c.loop-frame.frame-index < length c.args.self.now =
    subst (λ (fs : List Pending). c.loop-frame.frame-index < length fs) (c.deref_mut-frame-items.ensures.value ∙ c.self.view_is) c.loop-frame-test.true in
    rw told (map_over_more f c.args.self.now c.loop-frame.frame-items c.loop-frame.frame-index c.frame-item.result low c.loop-frame.invariant c.frame-item.is)
