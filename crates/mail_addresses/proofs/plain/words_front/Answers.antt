use Rattle.std.proofs.Common.{◌≡◌, ℕ, List, ◌∷◌, ◌++◌, [], sym, ap, ◌∙◌, subst, append_assoc}
use Rattle.mail_addresses.specs.Plain.{HasName, HasWords}
use Rattle.mail_addresses.proofs.PlainLemmas.{words_last, words_more, words_text, name_words}
use Rattle.mail_addresses.proofs.plain.words_front.Goals as goal

pub returns-in-Some-behind_bracket : goal.returns-in-Some-behind_bracket
returns-in-Some-behind_bracket c =
    let bytes = c.args.bytes.now in
    let inv = c.loop-after.invariant in
    let back = c.in-Some-behind_bracket.back.now in
    let run = c.in-Some.field-0-0.now in
    let text : c.split_at.result.0.now ≡ inv.before ++ run = c.split_at.ensures.front ∙ words_text bytes inv.before c.loop-after.rest.now run c.in-Some.after.now inv.whole c.in-Some.ensures in
    subst (λ (name : List ℕ). HasName bytes name back) (sym text)
    (name_words bytes (inv.before ++ run) back (inv.words run back (words_last c.loop-after.rest.now run c.in-Some.after.now back c.in-Some.ensures c.in-Some-behind_bracket.ensures)))

pub loop-after-preserved : goal.loop-after-preserved
loop-after-preserved c =
    let inv = c.loop-after.invariant in
    let run : List ℕ = c.in-Some.field-0-0.now in
    let later : List ℕ = c.in-Some-behind.later.now in
    let first = c.in-Some.ensures in
    record {
      before = inv.before ++ (run ++ 32 ∷ []);
      whole = inv.whole
          ∙ ap (λ (xs : List ℕ). inv.before ++ xs) (first.joined ∙ ap (λ (xs : List ℕ). run ++ xs) c.in-Some-behind.ensures ∙ sym (append_assoc run (32 ∷ []) later))
          ∙ sym (append_assoc inv.before (run ++ 32 ∷ []) later);
      words = λ text back w.
          subst (λ (name : List ℕ). HasWords c.args.bytes.now name back)
          (ap (λ (xs : List ℕ). inv.before ++ xs) (sym (append_assoc run (32 ∷ []) text)) ∙ sym (append_assoc inv.before (run ++ 32 ∷ []) text))
          (inv.words (run ++ 32 ∷ text) back (words_more c.loop-after.rest.now run c.in-Some.after.now later text back first c.in-Some-behind.ensures w));
    }
