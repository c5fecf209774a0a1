-- What changes make of files, and why they can't be made, change by change.
use Rattle.std.proofs.Common.{◌≡◌, ◌≤◌, ℕ, ℤ, true, false, List, [], ◌∷◌, Option, Some, None, Result, is_some, length, get_or, ap, sym, ◌∙◌, arith}
use Rattle.std.specs.Option.{option_map}
use Rattle.folder_change.specs.Outcomes.{outcome_of}
use Rattle.commit_machine.specs.Refusals.{ChangeRefusal, refusal_of, or_else}
use Rattle.commit_machine.specs.Edits.{cause_of}
use Rattle.commit_machine.specs.Jobs.{seen_files}
use Rattle.commit_machine.specs.Settled.{Files}
use Rattle.core_steps.specs.declared.change.CoreChange.{CoreChange}
use Rattle.core_steps.specs.declared.actor.Actor.{Actor}
use Rattle.core_steps.specs.declared.actor.Task.{Task}
use Rattle.core_steps.specs.declared.actor.Task.TheVariants.{Commit}
use Rattle.core_steps.specs.Changes.{after_one, apply_each, base_of, change_of, file_of, first_refusal_each}
use Rattle.core_steps.specs.Tasks.{job_of}
use Rattle.core_steps.proofs.Views.{same_at}
use Rattle.core_fact.proofs.Edits.{each-alone}
use Rattle.actor_bracket.specs.declared.stand.Made.{Made}
use Rattle.actor_bracket.specs.declared.stand.Refusal.{Refusal}
use Rattle.actor_bracket.specs.Stands.{changes_of, mades_as, refusal_as}

-- the first of changes, and those after it
pub split_first : (cs : List CoreChange) (c : CoreChange) → 1 ≤ length cs → c ≡ get_or cs 0 c → (rest : List CoreChange) × (cs ≡ c ∷ rest)
split_first [] c h e = absurd (omega arith)
split_first (x ∷ xs) c h e = (xs, ap (λ (z : CoreChange). z ∷ xs) (sym e))

pub all_none : (cs : List CoreChange) (file : Option (List ℕ)) (name : List ℕ) → cs ≡ [] → file ≡ apply_each cs (λ n. file) name
unfolding apply_each
all_none cs file name is = ap (λ (ds : List CoreChange). apply_each ds (λ n. file) name) (sym is)

all_next : (rest : List CoreChange) (c : CoreChange) (file made last : Option (List ℕ)) (name : List ℕ) → made ≡ after_one (λ n. file) c name → last ≡ apply_each rest (λ n. made) name
    → last ≡ apply_each (c ∷ rest) (λ n. file) name
unfolding apply_each
all_next rest c file made last name one e = e ∙ each-alone rest (λ n. made) (after_one (λ n. file) c) name one

pub all_more : (cs rest : List CoreChange) (c : CoreChange) (file made last : Option (List ℕ)) (name : List ℕ) → made ≡ after_one (λ n. file) c name → last ≡ apply_each rest (λ n. made) name
    → cs ≡ c ∷ rest → last ≡ apply_each cs (λ n. file) name
all_more cs rest c file made last name one e is = all_next rest c file made last name one e ∙ ap (λ (ds : List CoreChange). apply_each ds (λ n. file) name) (sym is)

pub refusal_none : (cs : List CoreChange) (files : Files) → cs ≡ [] → None ≡ option_map cause_of (first_refusal_each cs files)
unfolding first_refusal_each
refusal_none cs files is = ap (λ (ds : List CoreChange). option_map cause_of (first_refusal_each ds files)) (sym is)

taken_first : (o later : Option ChangeRefusal) (why : Option Refusal) → is_some why ≡ true → option_map refusal_as why ≡ option_map cause_of o
    → option_map refusal_as why ≡ option_map cause_of (or_else o later)
taken_first o later None some e = absurd (cc)
taken_first None later (Some x) some e = absurd (cc)
taken_first (Some y) later (Some x) some e = e

taken_later : (o later : Option ChangeRefusal) (why last : Option Refusal) → is_some why ≡ false → option_map refusal_as why ≡ option_map cause_of o
    → option_map refusal_as last ≡ option_map cause_of later
    → option_map refusal_as last ≡ option_map cause_of (or_else o later)
taken_later o later (Some x) last none e h = absurd (cc)
taken_later None later None last none e h = h
taken_later (Some y) later None last none e h = absurd (cc)

module _ (rest : List CoreChange) (c : CoreChange) (files : Files) (name : List ℕ) (file : Option (List ℕ)) (made : Result (Option (List ℕ)) ℕ) (why : Option Refusal)
    (named : name ≡ file_of c) (stands : file ≡ files name) (made_is : made ≡ outcome_of file (change_of c) (base_of c))
    (why_is : option_map refusal_as why ≡ option_map cause_of (refusal_of name made)) where
  here : option_map refusal_as why ≡ option_map cause_of (refusal_of (file_of c) (outcome_of (files (file_of c)) (change_of c) (base_of c)))
  here =
      why_is ∙ ap (λ (o : Result (Option (List ℕ)) ℕ). option_map cause_of (refusal_of name o)) (made_is ∙ ap (λ (f : Option (List ℕ)). outcome_of f (change_of c) (base_of c)) stands)
      ∙ ap (λ (n : List ℕ). option_map cause_of (refusal_of n (outcome_of (files n) (change_of c) (base_of c)))) named

  here_first : is_some why ≡ true → option_map refusal_as why ≡ option_map cause_of (first_refusal_each (c ∷ rest) files)
  unfolding first_refusal_each
  here_first some = taken_first (refusal_of (file_of c) (outcome_of (files (file_of c)) (change_of c) (base_of c))) (first_refusal_each rest (after_one files c)) why some here

  pub refused_first : (cs : List CoreChange) → is_some why ≡ true → cs ≡ c ∷ rest → option_map refusal_as why ≡ option_map cause_of (first_refusal_each cs files)
  refused_first cs some is = here_first some ∙ ap (λ (ds : List CoreChange). option_map cause_of (first_refusal_each ds files)) (sym is)

  here_later : (now : Files) (last : Option Refusal) → is_some why ≡ false → ((q : List ℕ) → now q ≡ after_one files c q)
      → option_map refusal_as last ≡ option_map cause_of (first_refusal_each rest now)
      → option_map refusal_as last ≡ option_map cause_of (first_refusal_each (c ∷ rest) files)
  unfolding first_refusal_each
  here_later now last none put e =
      taken_later (refusal_of (file_of c) (outcome_of (files (file_of c)) (change_of c) (base_of c))) (first_refusal_each rest (after_one files c)) why last none here
      (e ∙ ap (λ (f : Files). option_map cause_of (first_refusal_each rest f)) (same_at put))

  pub refused_later : (cs : List CoreChange) (now : Files) (last : Option Refusal) → is_some why ≡ false → ((q : List ℕ) → now q ≡ after_one files c q)
      → option_map refusal_as last ≡ option_map cause_of (first_refusal_each rest now) → cs ≡ c ∷ rest → option_map refusal_as last ≡ option_map cause_of (first_refusal_each cs files)
  refused_later cs now last none put e is = here_later now last none put e ∙ ap (λ (ds : List CoreChange). option_map cause_of (first_refusal_each ds files)) (sym is)

-- why a bracket is refused
pub refusal_there : (a : Actor) (t : Task) (cs items : List CoreChange) (moment : ℤ) (files : Files) (made : List Made) (why : Option Refusal) → t ≡ Commit cs moment → items ≡ cs
    → ((ds : List CoreChange) (q : List ℕ) → files q ≡ seen_files (mades_as ds made) q) → option_map refusal_as why ≡ option_map cause_of (first_refusal_each items files)
    → option_map refusal_as why ≡ (job_of a t).refusal (seen_files (mades_as (changes_of t) made))
refusal_there a t cs items moment files made why is same shows e =
    e ∙ ap (λ (f : Files). option_map cause_of (first_refusal_each items f)) (same_at (shows cs))
    ∙ ap (λ (ds : List CoreChange). option_map cause_of (first_refusal_each ds (seen_files (mades_as cs made)))) same
    ∙ ap (λ (u : Task). (job_of a u).refusal (seen_files (mades_as (changes_of u) made))) (sym is)
