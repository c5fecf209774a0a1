-- Whom a draft goes to.
use Rattle.std.specs.Prelude.{nat_lt, ℕ, List, ◌++◌, drop, length, codes, if◌then◌else◌}
use Rattle.std.specs.declared.option.Option.{Option}
use Rattle.std.specs.declared.option.Option.TheVariants.{Some, None}
use Rattle.mailx_vars.specs.Settings.{is_set}
use Rattle.alias_groups.specs.Expansion.{expansion}
use Rattle.draft_text.specs.declared.draft.Draft.{Draft}
use Rattle.command_desk.specs.declared.desk.Desk.{Desk}
use Rattle.send_rules.specs.declared.addressing.Recipients.{Recipients}

-- the most names that a draft goes to
abbrev pub recipient_limit : ℕ
recipient_limit = 10000

abbrev pub few : List (List ℕ) → Option (List (List ℕ))
few names = if nat_lt recipient_limit (length names) then None else Some names

-- the names that names stand for by the aliases
abbrev pub names_of : Desk → List (List ℕ) → List (List ℕ)
names_of desk names = expansion desk.aliases desk.own (is_set desk.vars (codes "metoo")) names

-- these, or none if they are too many
abbrev pub stands_for : Desk → List (List ℕ) → Option (List (List ℕ))
stands_for desk names = few (names_of desk names)

-- if none are too many: To stands for the first names, Cc shows those that the second add to these, and the message goes to the third
abbrev pub all_of : Option (List (List ℕ)) → Option (List (List ℕ)) → Option (List (List ℕ)) → Option Recipients
all_of None shown all = None
all_of (Some to) None all = None
all_of (Some to) (Some shown) None = None
all_of (Some to) (Some shown) (Some all) = Some (record { to = to; cc = drop (length to) shown; all = all })

-- whom a draft goes to: what its names stand for, those of Bcc too, of which its text says nothing; none if they are too many
abbrev pub addressees : Desk → Draft → Option Recipients
addressees desk draft =
    all_of (stands_for desk draft.to) (stands_for desk (draft.to ++ draft.cc)) (stands_for desk ((draft.to ++ draft.cc) ++ draft.bcc))

-- the draft with what its names stand for
abbrev pub addressed : Draft → Recipients → Draft
addressed draft a = record draft { to = a.to; cc = a.cc }
