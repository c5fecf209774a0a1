use Rattle.std.proofs.Common.{◌≡◌, arith, refl, ℤ}
use Rattle.std.proofs.lemmas.Int.{ints}
use Rattle.mail_dates.specs.declared.moment.Moment.{Moment}
use Rattle.mail_dates.proofs.values.moment.Goals as goal

abbrev moment_with : ℤ → ℤ → Moment
moment_with seconds offset = record { seconds = seconds; offset = offset }

same_moment : (a b c d : ℤ) → a ≡ b → c ≡ d → moment_with a c ≡ moment_with b d
same_moment a b c d e f = rw (e, f) refl

pub returns-clause-value : goal.returns-clause-value
returns-clause-value c = same_moment _ _ _ _ (omega (arith, ints, c.from.ensures, c.from-2.ensures, c.from-3.ensures)) (omega (arith, ints))
