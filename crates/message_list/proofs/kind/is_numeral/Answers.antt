use Rattle.std.proofs.Common.{sym, ◌∙◌, ◌&&◌, ◌<◌, Bool, ap, rules, tests, arith, length}
use Rattle.std.specs.Char.{is_ascii_digit}
use Rattle.std.specs.Str.{all_ascii_digits}
use Rattle.std.proofs.lemmas.Bool.{lt-ltb, eqb-false}
use Rattle.std.proofs.lemmas.Iterator.{YieldsList-from_slice}
use Rattle.std.proofs.lemmas.Iterator.Search.{all_from_yields_List}
use Rattle.mail_text.proofs.NumberLemmas.{list_all-is_ascii_digit}
use Rattle.message_list.proofs.kind.is_numeral.Goals as goal

pub returns-then-not-is_empty : goal.returns-then-not-is_empty
returns-then-not-is_empty c =
    let bs = c.args.text.now in
    let all = all_from_yields_List is_ascii_digit _ _ c.all.result c.all.ensures.ran (YieldsList-from_slice bs cc) (λ x b q k. search (rules, tests)) in
    let some : 0 < length bs = let empty = eqb-false (length bs) 0 (sym c.is_empty.ensures ∙ c.if-not-is_empty.true) in omega arith in
    all ∙ list_all-is_ascii_digit bs ∙ ap (λ (t : Bool). t && all_ascii_digits bs) (sym (lt-ltb 0 (length bs) some))
