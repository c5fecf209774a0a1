use Rattle.std.proofs.Common.{◌≡◌, ℕ, List, [], ◌∷◌, ◌++◌, Some, length, ap, ◌∙◌, sym, subst}
use Rattle.std.specs.BTreeMap.{Updates}
use Rattle.std.specs.Cmp.Lexicographic.{slice_cmp}
use Rattle.std.specs.List.{position_from}
use Rattle.std.specs.Ordering.{nat_cmp}
use Rattle.std.specs.Str.{bytes_eq, str_to_ascii_lowercase}
use Rattle.name_lists.specs.Names.{has_name, with_name}
use Rattle.name_lists.proofs.PlaceLemmas.{Key}
use Rattle.name_lists.proofs.NameLemmas.{found-has, places-push, with_name-new, with_name-there}
use Rattle.name_lists.proofs.names.Names.put.Goals as goal

pub returns-then-contains_key-clause-ok : goal.returns-then-contains_key-clause-ok
returns-then-contains_key-clause-ok c =
    let there = found-has c.self.inside.names.items c.self.inside.places c.self.invariant c.args.name.now c.as_slice.result.now (c.as_slice.ensures.value ∙ c.in_ok-key.ensures) in
    sym (with_name-there c.args.self.now c.args.name.now
    (ap (λ (names : List (List ℕ)). has_name names c.args.name.now) (sym c.self.view_is) ∙ sym there ∙ sym c.contains_key.ensures ∙ c.if-contains_key.true))

pub invariant_of-self-2 : goal.invariant_of-self-2
invariant_of-self-2 c = λ key.
    let names = c.self.inside.names.items in
    let there = found-has names c.self.inside.places c.self.invariant c.args.name.now c.as_slice.result.now (c.as_slice.ensures.value ∙ c.in_ok-key.ensures) in
    let count : c.len.result ≡ length names = c.len.ensures ∙ c.in_ok-try_reserve.ensures.len ∙ c.self.inside.names.ok.0 in
    let updates = subst (λ n. Updates (λ (x y : Key). slice_cmp nat_cmp x.items y.items) c.self.inside.places c.insert.new.self c.in_ok-key.key (Some n)) count c.in_ok-insert.ensures.updates in
    places-push names c.self.inside.places c.self.invariant c.args.name.now c.in_ok-key.key c.insert.new.self
    (sym there ∙ sym c.contains_key.ensures ∙ c.if-contains_key.false) c.in_ok-key.ensures updates key
    ∙ ap (λ (l : List (List ℕ)). position_from (λ name. bytes_eq key (str_to_ascii_lowercase name)) 0 l)
    (sym (c.in-Ok.ensures.items ∙ ap (λ (l : List (List ℕ)). l ++ c.in_ok-text.text ∷ []) c.in_ok-try_reserve.ensures.items ∙ ap (λ (name : List ℕ). names ++ name ∷ []) c.in_ok-text.ensures))

pub returns-clause-ok : goal.returns-clause-ok
returns-clause-ok c =
    let names = c.self.inside.names.items in
    let there = found-has names c.self.inside.places c.self.invariant c.args.name.now c.as_slice.result.now (c.as_slice.ensures.value ∙ c.in_ok-key.ensures) in
    c.in-Ok.ensures.items
    ∙ ap (λ (l : List (List ℕ)). l ++ c.in_ok-text.text ∷ []) c.in_ok-try_reserve.ensures.items
    ∙ ap (λ (name : List ℕ). names ++ name ∷ []) c.in_ok-text.ensures
    ∙ sym (with_name-new names c.args.name.now (sym there ∙ sym c.contains_key.ensures ∙ c.if-contains_key.false))
    ∙ ap (λ (l : List (List ℕ)). with_name l c.args.name.now) c.self.view_is
