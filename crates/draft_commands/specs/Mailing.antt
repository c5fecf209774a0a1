-- A message that is begun to names.
use Rattle.std.specs.Prelude.{ℕ, List, [], ◌∷◌, codes, unwrap_or, Option}
use Rattle.std.specs.declared.option.Option.TheVariants.{None}
use Rattle.std.specs.declared.result.Result.TheVariants.{Ok, Err}
use Rattle.mailx_vars.specs.Settings.{value_of}
use Rattle.draft_text.specs.declared.draft.Draft.{Draft}
use Rattle.command_desk.specs.declared.desk.Desk.{Desk}
use Rattle.command_desk.specs.declared.steps.Ask.TheVariants as asks
use Rattle.command_desk.specs.declared.steps.Steps.{Steps}
use Rattle.command_desk.specs.Answers.{OrFault}
use Rattle.command_desk.specs.Effects.{unchanged}
use Rattle.command_desk.specs.Faults.{bad_arguments}

-- who writes messages: the value of the variable `from`; one that is unset counts as empty
abbrev pub writer : Desk → List ℕ
writer desk = unwrap_or (value_of desk.vars (codes "from")) []

-- a draft to these names, with who writes it and nothing else
abbrev pub draft_to : Desk → List (List ℕ) → Draft
draft_to desk names = record {
  to = names;
  cc = [];
  bcc = [];
  subject = [];
  from = writer desk;
  reply = [];
  references = [];
  body = [];
}

-- this draft is asked for, which is recorded in this file if there is one, and before which this message becomes current if there is one
abbrev pub drafting : Draft → Option (List ℕ) → Option ℕ → Steps
drafting draft file current = record { asks = asks.Draft draft file current ∷ []; effects = unchanged }

-- `mail`: a message is begun to the names that its words are
abbrev pub mail : Desk → List (List ℕ) → OrFault Steps
mail desk [] = Err (bad_arguments (codes "mail"))
mail desk (w ∷ ws) = Ok (drafting (draft_to desk (w ∷ ws)) None None)
