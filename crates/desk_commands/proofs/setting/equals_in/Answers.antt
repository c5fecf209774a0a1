use Rattle.std.proofs.Common.{true, false, ◌+◌, ap, take, drop, ◌∙◌, sym, arith}
use Rattle.std.proofs.lemmas.Bool.{eq-eqb, ne_eqb}
use Rattle.std.proofs.lemmas.List.Sums.{position_or_len_is}
use Rattle.message_list.proofs.ListFacts.{any_found}
use Rattle.desk_commands.specs.Setting.{is_equals}
use Rattle.desk_commands.proofs.setting.equals_in.Goals as goal

pub returns-then-b-eq61 : goal.returns-then-b-eq61
returns-then-b-eq61 c =
    let xs = c.args.word.now in
    let at = position_or_len_is is_equals xs c.loop-k.k 0 (omega arith) (λ j h. ne_eqb _ _ (c.loop-k.invariant j h)) (λ _. eq-eqb _ _ c.if-b-eq61.true) in (
      sym (any_found is_equals xs 0 true (λ t. (c.loop-k.k, omega arith, eq-eqb _ _ c.if-b-eq61.true)) (λ f. absurd (cc f))),
      c.split_at.ensures.front ∙ ap (λ n. take n xs) (sym at),
      c.split_at-then-b-eq61.ensures.back ∙ ap (λ n. drop (n + 1) xs) (sym at),
    )

pub returns : goal.returns
returns c = sym (any_found is_equals c.args.word.now 0 false (λ f. absurd (cc f)) (λ t j h. ne_eqb _ _ (c.loop-k.invariant j (omega arith))))
