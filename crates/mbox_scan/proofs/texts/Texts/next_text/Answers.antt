use Rattle.std.proofs.Common.{◌≡◌, ◌∙◌, sym, []}
use Rattle.std.proofs.lemmas.List.{nil_from_length}
use Rattle.std.proofs.lemmas.Bool.{eqb-true}
use Rattle.mbox_scan.proofs.TextLemmas.{texts-empty}
use Rattle.mbox_scan.proofs.texts.Texts.next_text.Goals as goal

pub returns-then-is_empty : goal.returns-then-is_empty
returns-then-is_empty c =
    let b = c.self.inside.rest.now in
    let none : c.args.self.now ≡ [] = sym c.self.view_is ∙ texts-empty b (nil_from_length b (eqb-true _ _ (sym c.is_empty.ensures ∙ c.if-is_empty.true))) in
    (none, none)
