use Rattle.std.proofs.Common.{◌≡◌, ◌++◌, ◌∷◌, ℕ, List, [], length, sym, ◌∙◌, ap, subst}
use Rattle.read_commands.specs.declared.origin.Origin.{Origin}
use Rattle.session_state.specs.Waits.{Pending}
use Rattle.session_state.specs.Pending.{frame_of}
use Rattle.session_state.specs.States.{with_frames}
use Rattle.session_state.specs.Bringing.{origin_at, OnlyBrings}
use Rattle.session_asks.proofs.SourcingLemmas.{brings-lines}
use Rattle.session_asks.proofs.bringing.push_lines.Goals as goal

pub returns-in-Ok-clause-brings : goal.returns-in-Ok-clause-brings
returns-in-Ok-clause-brings c =
    let s = c.args.state.now in
    let framed : c.new-frame.result ≡ frame_of (origin_at s.frames) c.args.kind (length s.desk.conditions) c.args.text =
    c.new-frame.ensures ∙ ap (λ (o : Origin). frame_of o c.args.kind c.depth-nested.result c.args.text) c.origin.ensures
    ∙ ap (λ (n : ℕ). frame_of (origin_at s.frames) c.args.kind n c.args.text) c.depth-nested.ensures.depth in
    let same : c.push.new.self ≡ s.frames ++ frame_of (origin_at s.frames) c.args.kind (length s.desk.conditions) c.args.text ∷ [] =
    c.in-Ok.ensures.ok ∙ ap (λ (f : Pending). s.frames ++ f ∷ []) framed in
    subst (λ (fs : List Pending). OnlyBrings s (with_frames s fs)) (sym same) (brings-lines c.args.kind s c.args.text c.requires c.size_of-size.ensures.small)
