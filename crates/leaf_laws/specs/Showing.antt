-- What stands in a text that is shown.
use Rattle.std.specs.Prelude.{◌≡◌, ℕ, List, filter}
use Rattle.mail_headers.specs.Header.{body_of, entries_of, from_line}
use Rattle.message_show.specs.declared.text.How.TheVariants.{Kept}
use Rattle.message_show.specs.FieldSets.{FieldNames}
use Rattle.message_show.specs.ShownText.{is_kept, shown_text}

-- read as a message, a text has the From line and the body of another, and of its entries exactly those that are kept
pub record HasTheKept (sets : FieldNames) (t shown : List ℕ) : Type 0 where
  pub from_line : from_line shown ≡ from_line t
  pub entries : entries_of shown ≡ filter (is_kept sets) (entries_of t)
  pub body : body_of shown ≡ body_of t

-- so it is with what is shown of a message
abbrev pub KeptAreShown : Type 0
KeptAreShown = (t : List ℕ) (sets : FieldNames) → HasTheKept sets t (shown_text t sets Kept)
