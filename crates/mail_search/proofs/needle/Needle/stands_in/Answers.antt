use Rattle.std.proofs.Common.{◌≡◌, List, ℕ, length, sym, ap, ◌∙◌, arith}
use Rattle.std.proofs.lemmas.List.{length-map}
use Rattle.std.specs.Str.{str_to_ascii_lowercase}
use Rattle.std.specs.Char.{to_ascii_lowercase}
use Rattle.mail_text.specs.Holding.{holds}
use Rattle.mail_text.proofs.HoldingLemmas.{holds-found, holds-short}
use Rattle.mail_search.proofs.needle.Needle.stands_in.Goals as goal

pub returns-then-text-bytes : goal.returns-then-text-bytes
returns-then-text-bytes c =
    let string : length c.bytes.result.now ≡ length c.args.self.now = ap length (c.bytes.ensures ∙ c.self.view_is) in
    sym (holds-short (str_to_ascii_lowercase c.args.self.now) (str_to_ascii_lowercase c.args.text.now)
    (omega (arith, string, length-map c.args.text.now to_ascii_lowercase, length-map c.args.self.now to_ascii_lowercase)))

pub returns : goal.returns
returns c =
    let string : c.self.inside.finder ≡ str_to_ascii_lowercase c.args.self.now = c.self.invariant ∙ ap str_to_ascii_lowercase c.self.view_is in
    let text : c.deref.result.now ≡ str_to_ascii_lowercase c.args.text.now = c.deref.ensures.value ∙ c.in_ok-put_small.ensures in
    c.is_some.ensures ∙ holds-found c.self.inside.finder c.deref.result.now c.find.result c.find.ensures
    ∙ ap (λ (s : List ℕ). holds s c.deref.result.now) string ∙ ap (λ (t : List ℕ). holds (str_to_ascii_lowercase c.args.self.now) t) text
