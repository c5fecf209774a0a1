-- What contracts see of a token.
use Rattle.std.specs.Prelude.{ℕ, List}
use Rattle.mail_addresses.specs.declared.token.Kind.{Kind}
use Rattle.mail_addresses.specs.declared.token.Kind.TheVariants.{Blanks, Comment, Atom, Quoted, Literal, Mark, Unclosed}
use Rattle.mail_addresses.specs.Lexical.{Lexeme, blanks, comment, atom, quoted, literal, mark, unclosed}

abbrev pub lexeme : Kind → List ℕ → Lexeme
lexeme Blanks text = blanks text
lexeme Comment text = comment text
lexeme Atom text = atom text
lexeme Quoted text = quoted text
lexeme Literal text = literal text
lexeme (Mark b) text = mark b
lexeme Unclosed text = unclosed text
