use Rattle.std.proofs.Common.{◌≡◌, List, ℕ, ◌++◌, take, ◌∷◌, [], ap, ◌∙◌, sym, append-nil}
use Rattle.std.specs.List.{flat_map}
use Rattle.mail_text.specs.Lines.{lines_of, with_feed}
use Rattle.message_show.specs.ShownText.{shown_text}
use Rattle.message_show.specs.declared.text.How.TheVariants.{Kept}
use Rattle.message_show.proofs.TextLemmas.{take-ended, top-more}
use Rattle.message_show.proofs.text.top.Goals as goal

pub returns : goal.returns
returns c =
    let none = take-ended c.loop-line.line-iterator.n c.loop-line.line-iterator.iter (λ more. (c.in-None.ensures.steps more).0) in
    let first = c.into_iter-line-iterator.result in
    let count : first.n ≡ c.args.count = cc (c.into_iter-line-iterator.ensures.into_iter_gives, c.take-line-items.ensures.count) in
    let lines : first.iter ≡ lines_of (shown_text c.args.m.now c.args.sets.now Kept) =
    cc (c.into_iter-line-iterator.ensures.into_iter_gives, c.take-line-items.ensures.source, c.lines.ensures.lines, c.bytes.ensures, c.in_ok-shown.ensures) in
    sym (append-nil c.loop-line.top)
    ∙ ap (λ (ls : List (List ℕ)). c.loop-line.top ++ flat_map with_feed ls) (sym none)
    ∙ c.loop-line.invariant.2
    ∙ ap (λ (n : ℕ). flat_map with_feed (take n first.iter)) count
    ∙ ap (λ (ls : List (List ℕ)). flat_map with_feed (take c.args.count ls)) lines

pub loop-line-preserved : goal.loop-line-preserved
loop-line-preserved c =
    let steps = c.in-Some.ensures.steps in
    let rest = flat_map with_feed (take c.next.new.self.n c.next.new.self.iter) in
    let more = top-more c.loop-line.top c.loop-line.line-iterator.n c.next.new.self.n c.loop-line.line-iterator.iter c.next.new.self.iter c.in-Some.line.now steps.0 steps.1 in (
      tt,
      tt,
      ap (λ (top : List ℕ). top ++ rest) (c.in_ok-push-2.ensures.ok ∙ ap (λ (top : List ℕ). top ++ 10 ∷ []) c.in_ok-push.ensures.ok) ∙ more ∙ c.loop-line.invariant.2,
    )
