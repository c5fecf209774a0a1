use Rattle.std.proofs.Common.{sym, ◌∙◌, rules, tests}
use Rattle.std.specs.Char.{is_ascii_digit}
use Rattle.std.proofs.lemmas.Iterator.{YieldsList-from_slice}
use Rattle.std.proofs.lemmas.Iterator.Search.{all_from_yields_List}
use Rattle.mail_text.proofs.NumberLemmas.{list_all-is_ascii_digit, number_of-other, IsUtf8-from_digits, number_of-parsed}
use Rattle.mail_text.proofs.number.read_number.Goals as goal

pub returns-then-not-all : goal.returns-then-not-all
returns-then-not-all c =
    let bs = c.args.bytes.now in
    let all = all_from_yields_List is_ascii_digit _ _ _ c.all.ensures.ran (YieldsList-from_slice bs cc) (λ x b q k. search (rules, tests)) in
    sym (number_of-other bs (sym (list_all-is_ascii_digit bs) ∙ sym all ∙ c.if-not-all.true))

pub returns-in-Ok : goal.returns-in-Ok
returns-in-Ok c =
    let bs = c.args.bytes.now in
    let all = all_from_yields_List is_ascii_digit _ _ _ c.all.ensures.ran (YieldsList-from_slice bs cc) (λ x b q k. search (rules, tests)) in
    let digits = sym (list_all-is_ascii_digit bs) ∙ sym all ∙ c.if-not-all.false in
    let parsed = rw c.in-Ok.ensures.cases.0 at c.parse.ensures.value.0 in
    c.ok.ensures.value ∙ number_of-parsed bs _ parsed digits

pub returns-in-Err : goal.returns-in-Err
returns-in-Err c =
    let bs = c.args.bytes.now in
    let all = all_from_yields_List is_ascii_digit _ _ _ c.all.ensures.ran (YieldsList-from_slice bs cc) (λ x b q k. search (rules, tests)) in
    let digits = sym (list_all-is_ascii_digit bs) ∙ sym all ∙ c.if-not-all.false in
    absurd (c.in-Err.ensures.cases.0 (IsUtf8-from_digits bs digits))
