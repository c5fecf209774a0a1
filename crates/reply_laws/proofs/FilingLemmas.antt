-- What a command prints of messages that it put into a file.
use Rattle.std.proofs.Common.{◌≡◌, ◌⊎◌, ℕ, zero, suc, ◌<◌, Bool, true, false, inl, inr, List, [], ◌∷◌, ◌++◌, length, get_or, Ok, Err, refl, subst, arith}
use Rattle.std.specs.Prelude.{codes, if◌then◌else◌}
use Rattle.std.specs.List.{Contains}
use Rattle.mailx_vars.specs.Settings.{is_set}
use Rattle.quit_rules.specs.Gathering.{change_of}
use Rattle.folder_change.specs.declared.change.Change.{Change}
use Rattle.command_desk.specs.declared.desk.Desk.{Desk}
use Rattle.command_desk.specs.declared.steps.Ask.{Ask}
use Rattle.command_desk.specs.declared.steps.Ask.TheVariants.{Say, Gather}
use Rattle.command_desk.specs.declared.steps.Steps.{Steps}
use Rattle.command_desk.specs.Answers.{OrFault}
use Rattle.folder_commands.specs.declared.wanted.Filing.{Filing}
use Rattle.read_commands.specs.Commands.{filed, gathering, steps_by, steps_of}
use Rattle.filing_laws.proofs.TellingLemmas.{begins_with}
use Rattle.reply_laws.specs.Filing.{FilingsTellBehind, IsGathered, IsPut}

abbrev ok_of : Steps → OrFault Steps
ok_of s = Ok s

same_steps : (a b : Steps) → ok_of a ≡ ok_of b → a ≡ b
same_steps a b e = cc

is_put : (filing : Filing) → IsPut filing (steps_of filing)
is_put filing = record {
  behind = λ front behind bytes is. begins_with (change_of filing.put) (change_of filing.put ∷ []) _ front behind bytes (0, omega arith, refl) is;
  told = (1, omega arith, refl);
}

-- one ask that prints nothing
gather_silent : (name bytes : List ℕ) → Contains (Gather name ∷ []) (Say bytes) → ⊥
gather_silent name bytes at = go at.0 at.1 at.2
  where
    go : (k : ℕ) → k < length (Gather name ∷ []) → get_or (Gather name ∷ []) k (Say bytes) ≡ Say bytes → ⊥
    go zero within is = absurd (cc)
    go (suc k) within is = absurd (omega arith)

is_gathered : (desk : Desk) (filing : Filing) → IsGathered desk filing (gathering filing)
is_gathered desk filing = record { silent = λ bytes at. gather_silent filing.put.name bytes at; gathered = refl }

pub filings_tell : FilingsTellBehind
filings_tell desk filing steps is = go (is_set desk.vars (codes "batch")) (same_steps (steps_by desk filing) steps is)
  where
    go : (b : Bool) → (if b then gathering filing else steps_of filing) ≡ steps → IsPut filing steps ⊎ IsGathered desk filing steps
    go true same = inr (subst (IsGathered desk filing) same (is_gathered desk filing))
    go false same = inl (subst (IsPut filing) same (is_put filing))
