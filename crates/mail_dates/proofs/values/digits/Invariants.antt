use Rattle.std.proofs.Common.{◌≡◌, ◌*◌, ◌+◌, ◌-◌, ◌<◌, ◌^◌, drop, fold}
use Rattle.std.specs.List.{list_all}
use Rattle.std.specs.Char.{is_ascii_digit}
use Rattle.mail_dates.specs.Values.{decimal}
use Rattle.mail_dates.proofs.values.digits.Given as goal

abbrev pub invariant-loop-b : goal.invariant-loop-b
invariant-loop-b l = record {
  all : list_all is_ascii_digit (drop l.b-index l.text) ≡ list_all is_ascii_digit l.text;
  value : fold (λ n b. n * 10 + (b - 48)) l.number (drop l.b-index l.text) ≡ decimal l.text;
  bound : l.number < 10 ^ l.b-index;
}
