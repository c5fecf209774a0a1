use Rattle.std.proofs.Common.{◌∷◌, refl, ap, ◌∙◌}
use Rattle.mail_addresses.specs.Lexical.{IsCommentContent, IsQuotedContent, IsLiteralContent, comment, quoted, literal}
use Rattle.mail_addresses.specs.Lexical.NeverCloses.{comment_open, quote_open, literal_open}
use Rattle.mail_addresses.proofs.TokenLemmas.{enclosed_begins}
use Rattle.mail_addresses.proofs.scan.token_from.Goals as goal

pub returns-in-40 : goal.returns-in-40
returns-in-40 c =
    let inside = c.args.inside.now in
    enclosed_begins IsCommentContent comment 40 41 (λ content. refl) (λ content rest is. is) c.args.bytes.now inside c.enclosed.result.1.now c.comment_end.result c.enclosed.result.0
    (c.requires ∙ ap (λ b. b ∷ inside) c.in-40.is) (λ never. comment_open never) c.comment_end.ensures c.enclosed.ensures

pub returns-in-34 : goal.returns-in-34
returns-in-34 c =
    let inside = c.args.inside.now in
    enclosed_begins IsQuotedContent quoted 34 34 (λ content. refl) (λ content rest is. is) c.args.bytes.now inside c.enclosed-in-34.result.1.now c.quote_end.result c.enclosed-in-34.result.0
    (c.requires ∙ ap (λ b. b ∷ inside) c.in-34.is) (λ never. quote_open never) c.quote_end.ensures.end c.enclosed-in-34.ensures

pub returns-in-91 : goal.returns-in-91
returns-in-91 c =
    let inside = c.args.inside.now in
    enclosed_begins IsLiteralContent literal 91 93 (λ content. refl) (λ content rest is. is) c.args.bytes.now inside c.enclosed-in-91.result.1.now c.literal_end.result c.enclosed-in-91.result.0
    (c.requires ∙ ap (λ b. b ∷ inside) c.in-91.is) (λ never. literal_open never) c.literal_end.ensures c.enclosed-in-91.ensures
