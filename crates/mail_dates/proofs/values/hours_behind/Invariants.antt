use Rattle.std.proofs.Common.{◌≡◌, drop}
use Rattle.mail_dates.specs.Values.{hours_behind, zone_words}
use Rattle.mail_dates.proofs.values.hours_behind.Given as goal

abbrev pub invariant-loop-name : goal.invariant-loop-name
invariant-loop-name l = hours_behind (drop l.name-index zone_words) l.word ≡ hours_behind zone_words l.word
