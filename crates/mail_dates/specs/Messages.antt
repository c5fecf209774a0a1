-- The moment of a message.
use Rattle.std.specs.Prelude.{ℕ, List, drop, codes, Option}
use Rattle.std.specs.Option.{option_or, option_and_then}
use Rattle.mail_headers.specs.Field.{Field, unfolded}
use Rattle.mail_headers.specs.Header.{from_line, field_named}
use Rattle.mail_dates.specs.declared.moment.Moment.{Moment}
use Rattle.mail_dates.specs.DateFields.{date_of}
use Rattle.mail_dates.specs.FromLines.{arrival_of}

-- the From line without the `From ` in front
abbrev pub after_from : List ℕ → List ℕ
after_from t = drop 5 (from_line t)

-- the date of a field, if there is a field and it reads
abbrev pub date_in : Option Field → Option Moment
date_in field = option_and_then (λ f. date_of (unfolded f)) field

-- a message's moment is its `Date` if that reads, else its From line's, if there is one
abbrev pub moment_of : List ℕ → Option Moment
moment_of t = option_or (date_in (field_named (codes "Date") t)) (arrival_of (after_from t))
