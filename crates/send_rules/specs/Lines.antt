-- The lines that say why a draft isn't sent.
use Rattle.std.specs.Prelude.{ℕ, ℤ, List, ◌++◌, codes, option_map}
use Rattle.std.specs.Fmt.{signed_decimal}
use Rattle.std.specs.declared.option.Option.{Option}
use Rattle.mail_text.specs.Lines.{with_feed}
use Rattle.sender_port.specs.declared.error.NamesFault.{NamesFault}
use Rattle.sender_port.specs.declared.error.NamesFault.TheVariants as fault
use Rattle.sender_port.specs.Names.{names_fault}

abbrev pub too_many_recipients : List ℕ
too_many_recipients = with_feed (codes "too many recipients")

abbrev pub no_recipients : List ℕ
no_recipients = with_feed (codes "no recipients")

-- the name can't be given to the sender
abbrev pub not_an_address : List ℕ → List ℕ
not_an_address name = with_feed (name ++ codes ": not an address")

-- the line of what is wrong with names
abbrev pub names_line : NamesFault → List ℕ
names_line fault.NoRecipients = no_recipients
names_line (fault.NotAnAddress name) = not_an_address name

-- the line that refuses names, if mail can't be sent to them
abbrev pub names_refused : List (List ℕ) → Option (List ℕ)
names_refused names = option_map names_line (names_fault names)

abbrev pub sender_not_run : List ℕ
sender_not_run = with_feed (codes "sender could not be run")

-- the sender ended with this status
abbrev pub sender_ended : ℤ → List ℕ
sender_ended n = with_feed (codes "sender ended with " ++ signed_decimal n)
