use Rattle.std.proofs.Common.{rules, ap₂, codes, ◌≡◌, ◌∙◌}
use Rattle.std.proofs.lemmas.Result.{IfOk-weaker}
use Rattle.clap.specs.Walk.{rule_of}
use Rattle.clap.specs.Simple.{App, app_of, with_rule}
use Rattle.command_words.specs.Words.{flag_rule, valued_rule, try_rule, operand_rule, bare, mailx}
use Rattle.command_words.proofs.parse.command.Goals as goal

pub returns : goal.returns
unfolding mailx
returns c =
    let e0 : app_of c.empty.result ≡ bare = c.empty.ensures in
    let a1 : App = with_rule bare (flag_rule (codes "e") 101) in
    let e1 : app_of c.in_ok-command.command ≡ a1 = c.in_ok-command.ensures.shape c.flag.ensures.own ∙ ap₂ with_rule e0 c.flag.ensures.rule in
    let a2 : App = with_rule a1 (flag_rule (codes "H") 72) in
    let e2 : app_of c.in_ok-command-2.command ≡ a2 = c.in_ok-command-2.ensures.shape c.flag-2.ensures.own ∙ ap₂ with_rule e1 c.flag-2.ensures.rule in
    let a3 : App = with_rule a2 (flag_rule (codes "i") 105) in
    let e3 : app_of c.in_ok-command-3.command ≡ a3 = c.in_ok-command-3.ensures.shape c.flag-3.ensures.own ∙ ap₂ with_rule e2 c.flag-3.ensures.rule in
    let a4 : App = with_rule a3 (flag_rule (codes "N") 78) in
    let e4 : app_of c.in_ok-command-4.command ≡ a4 = c.in_ok-command-4.ensures.shape c.flag-4.ensures.own ∙ ap₂ with_rule e3 c.flag-4.ensures.rule in
    let a5 : App = with_rule a4 (flag_rule (codes "n") 110) in
    let e5 : app_of c.in_ok-command-5.command ≡ a5 = c.in_ok-command-5.ensures.shape c.flag-5.ensures.own ∙ ap₂ with_rule e4 c.flag-5.ensures.rule in
    let a6 : App = with_rule a5 (flag_rule (codes "F") 70) in
    let e6 : app_of c.in_ok-command-6.command ≡ a6 = c.in_ok-command-6.ensures.shape c.flag-6.ensures.own ∙ ap₂ with_rule e5 c.flag-6.ensures.rule in
    let a7 : App = with_rule a6 (flag_rule (codes "f") 102) in
    let e7 : app_of c.in_ok-command-7.command ≡ a7 = c.in_ok-command-7.ensures.shape c.flag-7.ensures.own ∙ ap₂ with_rule e6 c.flag-7.ensures.rule in
    let a8 : App = with_rule a7 (valued_rule (codes "u") 117) in
    let e8 : app_of c.in_ok-command-8.command ≡ a8 = c.in_ok-command-8.ensures.shape c.valued.ensures.own ∙ ap₂ with_rule e7 c.valued.ensures.rule in
    let a9 : App = with_rule a8 (valued_rule (codes "s") 115) in
    let e9 : app_of c.in_ok-command-9.command ≡ a9 = c.in_ok-command-9.ensures.shape c.valued-2.ensures.own ∙ ap₂ with_rule e8 c.valued-2.ensures.rule in
    let a10 : App = with_rule a9 (valued_rule (codes "b") 98) in
    let e10 : app_of c.in_ok-command-10.command ≡ a10 = c.in_ok-command-10.ensures.shape c.valued-3.ensures.own ∙ ap₂ with_rule e9 c.valued-3.ensures.rule in
    let a11 : App = with_rule a10 (valued_rule (codes "c") 99) in
    let e11 : app_of c.in_ok-command-11.command ≡ a11 = c.in_ok-command-11.ensures.shape c.valued-4.ensures.own ∙ ap₂ with_rule e10 c.valued-4.ensures.rule in
    let long_is : rule_of c.action-long.result ≡ try_rule = search rules in
    let operand_is : rule_of c.action-operand.result ≡ operand_rule = search rules in
    let a12 : App = with_rule a11 try_rule in
    let e12 : app_of c.in_ok-command-12.command ≡ a12 = c.in_ok-command-12.ensures.shape (search rules) ∙ ap₂ with_rule e11 long_is in
    IfOk-weaker c.arg-13.result _ _ (λ r h. h.shape (search rules) ∙ ap₂ with_rule e12 operand_is) c.arg-13.ensures
