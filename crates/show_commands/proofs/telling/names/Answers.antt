use Rattle.std.proofs.Common.{◌≡◌, ◌≤◌, ◌<◌, ◌++◌, ◌∷◌, [], ℕ, List, length, take, refl, sym, ap, ◌∙◌, arith, append_assoc}
use Rattle.std.specs.List.{flat_map}
use Rattle.mail_text.specs.Lines.{with_feed}
use Rattle.std.proofs.lemmas.List.{take_all}
use Rattle.std.proofs.lemmas.Option.{slice_get_within, get_or_from_slice_get}
use Rattle.line_words.specs.Spellings.{spellings, names}
use Rattle.show_commands.proofs.ListLemmas.{pieces-more, none-past}
use Rattle.show_commands.proofs.telling.names.Goals as goal

few : length names ≡ 77
unfolding spellings
few = refl

pub overflow_add-k : goal.overflow_add-k
overflow_add-k c =
    let within : c.loop-name.k < length names = slice_get_within names c.loop-name.k c.in-Some.name.now (sym c.in-Some.ensures) in
    let count = few in
    omega arith

pub loop-name-smaller : goal.loop-name-smaller
loop-name-smaller c =
    let within : c.loop-name.k < length names = slice_get_within names c.loop-name.k c.in-Some.name.now (sym c.in-Some.ensures) in
    omega arith

pub loop-name-preserved : goal.loop-name-preserved
loop-name-preserved c =
    let name = c.in-Some.name.now in
    let within : c.loop-name.k < length names = slice_get_within names c.loop-name.k name (sym c.in-Some.ensures) in
    let put : c.push-in-Some.new.self ≡ c.loop-name.out ++ with_feed name =
    c.in_ok-push-2.ensures.ok ∙ ap (λ (l : List ℕ). l ++ 10 ∷ []) c.in_ok-push.ensures.ok ∙ append_assoc c.loop-name.out name (10 ∷ []) in (
      omega arith,
      put ∙ ap (λ (l : List ℕ). l ++ with_feed name) c.loop-name.invariant.1
          ∙ ap (λ (n : List ℕ). flat_map with_feed (take c.loop-name.k names) ++ with_feed n) (sym (get_or_from_slice_get names c.loop-name.k name name (sym c.in-Some.ensures)))
          ∙ sym (pieces-more with_feed names c.loop-name.k name within),
    )

pub returns : goal.returns
returns c =
    let past : length names ≤ c.loop-name.k = none-past names c.loop-name.k (sym c.in_default.ensures) in
    c.loop-name.invariant.1 ∙ ap (flat_map with_feed) (take_all c.loop-name.k names past)
