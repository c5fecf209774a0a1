use Rattle.std.proofs.Common.{◌≡◌, List, ℕ, sym, ap, ◌∙◌, arith}
use Rattle.std.proofs.lemmas.List.{length-map}
use Rattle.std.specs.Str.{str_to_ascii_lowercase}
use Rattle.std.specs.Char.{to_ascii_lowercase}
use Rattle.mail_text.specs.Holding.{holds}
use Rattle.mail_text.proofs.HoldingLemmas.{holds-found, holds-short}
use Rattle.mail_text.proofs.holding.holds_ascii.Goals as goal

pub returns-then-text-string : goal.returns-then-text-string
returns-then-text-string c =
    sym (holds-short (str_to_ascii_lowercase c.args.string.now) (str_to_ascii_lowercase c.args.text.now)
    (omega (arith, length-map c.args.text.now to_ascii_lowercase, length-map c.args.string.now to_ascii_lowercase)))

pub returns : goal.returns
returns c =
    let string : c.deref-2.result.now ≡ str_to_ascii_lowercase c.args.string.now = c.deref-2.ensures.value ∙ c.in_ok-string.ensures.ok in
    let text : c.deref.result.now ≡ str_to_ascii_lowercase c.args.text.now = c.deref.ensures.value ∙ c.in_ok-text.ensures.ok in
    c.is_some.ensures ∙ holds-found c.deref-2.result.now c.deref.result.now c.find.result c.find.ensures
    ∙ ap (λ (s : List ℕ). holds s c.deref.result.now) string ∙ ap (λ (t : List ℕ). holds (str_to_ascii_lowercase c.args.string.now) t) text
