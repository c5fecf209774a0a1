use Rattle.std.proofs.Common.{◌≡◌, List, ℕ, get_or, is_none, Some, sym, ap, ◌∙◌, arith, inl, inr}
use Rattle.std.proofs.lemmas.Bool.{cases_eq}
use Rattle.std.proofs.lemmas.List.{get_or_read}
use Rattle.std.proofs.lemmas.List.Elements.{All-same, All-push}
use Rattle.message_list.specs.declared.list.Item.{Item}
use Rattle.message_list.specs.ListWords.{kind_of}
use Rattle.message_list.proofs.WordLemmas.{bad_list, words_more}
use Rattle.message_list.proofs.read.read_list.Goals as goal

pub returns-in-None-clause-err : goal.returns-in-None-clause-err
returns-in-None-clause-err c =
    let word : List ℕ = c.word-item.result in
    bad_list c.args.words.now c.loop-word.word-index word c.bad_word.result (omega arith) c.word-item.is (λ k lt. c.loop-word.invariant.good k word lt)
    (ap is_none (ap kind_of (sym c.bytes.ensures) ∙ sym c.in_ok-kind.ensures ∙ c.in-None.is)) c.bad_word.ensures

pub loop-word-preserved : goal.loop-word-preserved
loop-word-preserved c =
    let word : List ℕ = c.word-item.result in
    let i = c.loop-word.word-index in
    let same : c.in_ok-word-in-Some.word ≡ word = c.in_ok-word-in-Some.ensures ∙ c.bytes-in-Some.ensures in
    let kind = ap kind_of (sym c.bytes.ensures) ∙ sym c.in_ok-kind.ensures ∙ c.in-Some.is in
    let good : Item → Type 0 = λ (x : Item). kind_of x.word ≡ Some x.kind in
    record {
      in_order = words_more c.args.words.now i word c.loop-word.items c.push.new.self _ (omega arith) c.word-item.is c.loop-word.invariant.in_order c.in_ok-push-in-Some.ensures.ok same;
      kinds = All-same good _ _ c.in_ok-push-in-Some.ensures.ok (All-push good c.loop-word.items _ c.loop-word.invariant.kinds (ap kind_of same ∙ kind));
      good = λ k d lt. elim (cases_eq k i) [
        | inl e ↦ ap (λ n. is_none (kind_of (get_or c.args.words.now n d))) e
            ∙ ap (λ (w : List ℕ). is_none (kind_of w)) (sym (get_or_read c.args.words.now i word (omega arith) c.word-item.is d)) ∙ ap is_none kind
        | inr ne ↦ c.loop-word.invariant.good k d (omega arith)
      ];
    }
