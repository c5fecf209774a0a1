-- The draft of send mode.
use Rattle.std.specs.Prelude.{ℕ, List, [], unwrap_or}
use Rattle.std.specs.Option.{option_map_or}
use Rattle.std.specs.declared.option.Option.{Option}
use Rattle.command_words.specs.declared.options.Options.{Options}
use Rattle.command_words.specs.Names.{names_in}
use Rattle.draft_text.specs.declared.draft.Draft.{Draft}
use Rattle.rc_conditionals.specs.declared.conditions.Mode.{Mode}
use Rattle.rc_conditionals.specs.declared.conditions.Mode.TheVariants.{Send, Receive}
use Rattle.command_desk.specs.declared.desk.Desk.{Desk}
use Rattle.draft_commands.specs.Mailing.{writer}
use Rattle.mailx_top.specs.Words.{Start, Opens, Sends}

-- the mode of a run that opens a folder, or that sends a draft
abbrev pub mode_with : Start → Mode
mode_with (Opens o) = Receive
mode_with (Sends o) = Send

-- the names of an option's value; without the option there are none
abbrev pub names_of : Option (List ℕ) → List (List ℕ)
names_of value = option_map_or names_in value []

-- what a draft begins with: the operands are the names that it goes to, `-c` and `-b` give further ones, and `-s` the subject
abbrev pub draft_with : Desk → Options → Draft
draft_with desk o = record {
  to = o.operands;
  cc = names_of o.copies;
  bcc = names_of o.blind;
  subject = unwrap_or o.subject [];
  from = writer desk;
  reply = [];
  references = [];
  body = [];
}
