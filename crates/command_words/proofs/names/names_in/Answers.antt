use Rattle.std.proofs.Common.{◌≡◌, ◌++◌, ◌+◌, ◌<◌, ℕ, List, [], ◌∷◌, length, drop, get_or, sym, ap, ◌∙◌, arith}
use Rattle.std.proofs.lemmas.List.{at_drop_more, at_drop_all}
use Rattle.command_words.specs.Names.{kept, names_in}
use Rattle.command_words.proofs.NameLemmas.{gives, gives-all, gives-parted, gives-more, gives-last, same-gives}
use Rattle.command_words.proofs.names.names_in.Goals as goal
use Rattle.command_words.proofs.names.names_in.Goals.{then-parts_names+in_ok-keep, else-parts_names+in_ok-push}

pub loop-byte-init : goal.loop-byte-init
loop-byte-init c = same-gives _ [] _ [] c.args.value.now c.new-names.ensures c.new-name.ensures ∙ gives-all c.args.value.now

pub loop-byte-preserved : goal.loop-byte-preserved
loop-byte-preserved c =
    let bytes = c.args.value.now in
    let i = c.loop-byte.byte-index in
    let lt : i < length bytes = omega arith in
    let b = get_or bytes i 0 in
    let rest = drop (i + 1) bytes in
    let names = c.loop-byte.names in
    let name = c.loop-byte.name in
    let so_far : gives names name (b ∷ rest) ≡ names_in bytes = sym (at_drop_more (gives names name) bytes i 0 lt) ∙ c.loop-byte.invariant in
    elim c.if-parts_names.branch [
      | then-parts_names+in_ok-keep w ↦
          same-gives _ (names ++ kept name) _ [] rest
          (w.names-is ∙ w.in_ok-keep.ensures ∙ ap (λ (x : List ℕ). names ++ kept x) w.replace.ensures.value) (w.name-is ∙ w.replace.ensures.after ∙ w.new.ensures)
          ∙ (sym (gives-parted b names name rest (sym c.parts_names.ensures ∙ w.if-parts_names.true)) ∙ so_far)
      | else-parts_names+in_ok-push w ↦
          same-gives _ names _ (name ++ b ∷ []) rest w.names-is (w.name-is ∙ w.in_ok-push.ensures.ok)
          ∙ (sym (gives-more b names name rest (sym c.parts_names.ensures ∙ w.if-parts_names.false)) ∙ so_far)
    ]

pub returns : goal.returns
returns c =
    let names = c.loop-byte.names in
    let name = c.loop-byte.name in
    let whole : gives names name [] ≡ names_in c.args.value.now = sym (at_drop_all (gives names name) c.args.value.now c.loop-byte.byte-index (omega arith)) ∙ c.loop-byte.invariant in
    c.in_ok-keep-2.ensures ∙ (sym (gives-last names name) ∙ whole)
