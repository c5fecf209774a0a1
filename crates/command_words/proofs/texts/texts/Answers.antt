use Rattle.std.proofs.Common.{◌≡◌, ◌++◌, ◌∷◌, [], ap, sym, ◌∙◌, map, ℕ, List, take, get_or, refl, arith, ◌+◌}
use Rattle.std.specs.Borrow.{Bor}
use Rattle.std.specs.List.{list_all}
use Rattle.std.specs.Str.{is_utf8}
use Rattle.std.proofs.lemmas.Bool.{and_from}
use Rattle.std.proofs.lemmas.List.{map-append, take_more}
use Rattle.std.proofs.lemmas.List.Folds.{list_all-append}
use Rattle.std.proofs.lemmas.Str.{is_utf8-from_IsUtf8}
use Rattle.command_words.proofs.ReadingLemmas.{not-all, not-utf8}
use Rattle.command_words.proofs.texts.texts.Goals as goal

pub returns-in-Err-clause-usage : goal.returns-in-Err-clause-usage
returns-in-Err-clause-usage c = λ same.
    not-all c.args.words.now c.loop-word.word-index c.word-item.result c.loop-word-test.true
    (sym (ap is_utf8 (c.bytes.ensures ∙ c.word-item.is)) ∙ not-utf8 _ c.in-Err.ensures.cases.0)

pub loop-word-preserved : goal.loop-word-preserved
loop-word-preserved c =
    let i = c.loop-word.word-index in
    let words = c.args.words.now in
    let held = c.loop-word.invariant in
    let here : c.bytes.result.now ≡ get_or words i c.word-item.result = c.bytes.ensures ∙ c.word-item.is in
    let word : c.in-Ok.text.now ≡ get_or words i c.word-item.result = c.in-Ok.ensures.cases.0 ∙ here in
    let utf8 = sym (ap is_utf8 here) ∙ is_utf8-from_IsUtf8 _ c.in-Ok.ensures.cases.1 in
    let more : take (i + 1) words ≡ take i words ++ get_or words i c.word-item.result ∷ [] = take_more words i c.word-item.result c.loop-word-test.true in (
      ap (map (λ (s : Bor (List ℕ)). s.now)) c.push_reserved.ensures.items
          ∙ map-append (λ (s : Bor (List ℕ)). s.now) c.loop-word.texts.items (c.in-Ok.text ∷ [])
          ∙ (λ j. held.0 j ++ word j ∷ [])
          ∙ sym more,
      ap (list_all is_utf8) more ∙ list_all-append is_utf8 (take i words) (get_or words i c.word-item.result ∷ []) ∙ and_from _ _ held.1 (and_from _ _ utf8 refl),
      (let len = c.push_reserved.ensures.len in let was = held.2 in omega arith),
      c.push_reserved.ensures.capacity ∙ held.3,
    )
