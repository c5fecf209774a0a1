-- What is said of the recovery at the start of a run.
use Rattle.std.specs.Prelude.{ℕ, ℤ, pos, Bool, true, false, List, [], ◌++◌, codes}
use Rattle.std.specs.declared.option.Option.{Option}
use Rattle.std.specs.declared.option.Option.TheVariants.{Some, None}
use Rattle.mail_text.specs.Lines.{with_feed}
use Rattle.mail_dates.specs.declared.moment.Moment.{Moment}
use Rattle.mail_dates.specs.Printed.{from_date_text}
use Rattle.mail_dates.specs.Zones.{within_years}
use Rattle.commit_driver.specs.declared.step.Recovered.{Recovered}
use Rattle.commit_driver.specs.declared.step.Recovered.TheVariants.{Nothing, RolledBack, Finished}

-- the moment at a second since 1970, for clocks that show UTC; a record's second lies in the years that can be printed
abbrev pub in_utc : ℤ → Moment
in_utc seconds = record { seconds = within_years seconds; offset = pos 0 }

-- ` of ` and the moment of a record, if it has one
abbrev pub of_moment : Option ℤ → List ℕ
of_moment None = []
of_moment (Some seconds) = codes " of " ++ from_date_text (in_utc seconds)

-- the line that says what a recovery did to the commit whose record stood; none if no record stood
abbrev pub recovery_line : Recovered → Option (List ℕ)
recovery_line Nothing = None
recovery_line (RolledBack moment) = Some (with_feed (codes "rolled back commit" ++ of_moment moment))
recovery_line (Finished moment) = Some (with_feed (codes "finished commit" ++ of_moment moment))

-- the line that is printed of it, if any is; with `-e` none is
abbrev pub heard_recovery : Bool → Recovered → Option (List ℕ)
heard_recovery true found = None
heard_recovery false found = recovery_line found
