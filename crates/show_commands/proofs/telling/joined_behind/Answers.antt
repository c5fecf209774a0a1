use Rattle.std.proofs.Common.{List, ℕ, ◌++◌, ◌∷◌, [], sym, ap, ◌∙◌}
use Rattle.std.specs.List.{flat_map}
use Rattle.show_commands.proofs.ListLemmas.{joined-first}
use Rattle.show_commands.proofs.telling.joined_behind.Goals as goal

pub returns : goal.returns
returns c =
    let first = c.args.first.now in
    let rest = c.args.rest.now in
    c.in_ok-push.ensures.ok
    ∙ ap (λ (l : List ℕ). l ++ 10 ∷ []) (c.in_ok-put_rest.ensures
    ∙ ap (λ (l : List ℕ). l ++ flat_map (λ word. 32 ∷ word) rest) (c.in_ok-out.ensures ∙ c.bytes.ensures) ∙ sym (joined-first 32 first rest))
