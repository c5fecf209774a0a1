use Rattle.std.proofs.Common.{ap, ◌∙◌}
use Rattle.clap.specs.Matches.{found_of}
use Rattle.clap.proofs.WalkLemmas.{first_value-rows}
use Rattle.command_words.specs.Options.{is_true}
use Rattle.command_words.proofs.options.is_on.Goals as goal

pub returns-in-Some : goal.returns-in-Some
returns-in-Some c = c.eq.ensures ∙ ap is_true (c.in-Some.ensures ∙ first_value-rows (found_of c.args.matches.now) c.args.id.now)

pub returns-in-None : goal.returns-in-None
returns-in-None c = ap is_true (c.in-None.ensures ∙ first_value-rows (found_of c.args.matches.now) c.args.id.now)
