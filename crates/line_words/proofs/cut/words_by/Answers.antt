use Rattle.std.proofs.Common.{◌≡◌, ◌<◌, ◌+◌, ℕ, List, [], ◌∷◌, ◌++◌, length, drop, get_or, Option, IfOk, refl, sym, ap, subst, ◌∙◌, arith}
use Rattle.std.proofs.lemmas.List.{at_drop_more, at_drop_all}
use Rattle.line_words.specs.declared.cut.Place.TheVariants.{Between}
use Rattle.line_words.specs.declared.cut.Act.TheVariants.{Pass, Keep, End}
use Rattle.line_words.specs.Cutting.{gives}
use Rattle.line_words.proofs.WordLemmas.{given_by, ready_by, depth_by, same_gives, same_ready}
use Rattle.line_words.proofs.PartLemmas.{gives_all}
use Rattle.line_words.proofs.cut.words_by.Goals as goal
use Rattle.line_words.proofs.cut.words_by.Goals.{in-Pass, in-Keep+in_ok-push-in-Keep, in-End+in_ok-push-in-End}

pub loop-byte-init : goal.loop-byte-init
loop-byte-init c = record {
  same = same_gives c.args.lists Between Between _ [] _ [] c.args.bytes.now refl c.new-words.ensures c.new-word.ensures ∙ gives_all c.args.lists c.args.bytes.now;
  ready = c.new-word.ensures;
  fits = omega arith;
}

pub loop-byte-preserved : goal.loop-byte-preserved
loop-byte-preserved c =
    let bytes = c.args.bytes.now in
    let lists = c.args.lists in
    let i = c.loop-byte.byte-index in
    let lt : i < length bytes = omega arith in
    let b = get_or bytes i 0 in
    let rest = drop (i + 1) bytes in
    let place = c.loop-byte.place in
    let words = c.loop-byte.words in
    let word = c.loop-byte.word in
    let ready = c.loop-byte.invariant.ready in
    let step = c.step_of-step.result in
    let is = c.step_of-step.ensures in
    let so_far = sym (at_drop_more (gives lists place words word) bytes i 0 lt) ∙ c.loop-byte.invariant.same in
    elim c.match-step.branch [
      | in-Pass w ↦ record {
        same = same_gives lists _ _ _ _ _ _ rest w.place-is w.words-is w.word-is ∙ given_by lists place words word b rest _ step Pass is w.in-Pass.is ready so_far;
        ready = same_ready _ _ _ _ w.place-is w.word-is (ready_by lists place word b step Pass is w.in-Pass.is ready);
        fits = depth_by lists place b i step _ is w.place-is c.loop-byte.invariant.fits;
      }
      | in-Keep+in_ok-push-in-Keep w ↦ record {
        same = same_gives lists _ _ _ _ _ (word ++ b ∷ []) rest w.place-is w.words-is (w.word-is ∙ w.in_ok-push-in-Keep.ensures.ok)
            ∙ given_by lists place words word b rest _ step Keep is w.in-Keep.is ready so_far;
        ready = same_ready _ _ _ (word ++ b ∷ []) w.place-is (w.word-is ∙ w.in_ok-push-in-Keep.ensures.ok) (ready_by lists place word b step Keep is w.in-Keep.is ready);
        fits = depth_by lists place b i step _ is w.place-is c.loop-byte.invariant.fits;
      }
      | in-End+in_ok-push-in-End w ↦ record {
        same = same_gives lists _ _ _ (words ++ word ∷ []) _ [] rest w.place-is
            (w.words-is ∙ w.in_ok-push-in-End.ensures.ok ∙ ap (λ (x : List ℕ). words ++ x ∷ []) w.replace.ensures.value)
            (w.word-is ∙ w.replace.ensures.after ∙ w.new.ensures) ∙ given_by lists place words word b rest _ step End is w.in-End.is ready so_far;
        ready = same_ready _ _ _ [] w.place-is (w.word-is ∙ w.replace.ensures.after ∙ w.new.ensures) (ready_by lists place word b step End is w.in-End.is ready);
        fits = depth_by lists place b i step _ is w.place-is c.loop-byte.invariant.fits;
      }
    ]

pub returns : goal.returns
returns c =
    let given = gives c.args.lists c.loop-byte.place c.loop-byte.words c.loop-byte.word in
    let whole = sym (at_drop_all given c.args.bytes.now c.loop-byte.byte-index (omega arith)) ∙ c.loop-byte.invariant.same in
    subst (λ (x : Option (List (List ℕ))). IfOk c.finish.result (λ all. all ≡ x)) whole c.finish.ensures
