-- Names of the files of changes, and the first that is at fault.
use Rattle.std.proofs.Common.{◌≡◌, ◌<◌, ◌≤◌, ◌+◌, ℕ, suc, Bool, true, false, List, [], ◌∷◌, length, drop, get_or, refl, sym, ap, ◌∙◌, drop-cons, add-one}
use Rattle.std.specs.Prelude.{if◌then◌else◌}
use Rattle.std.specs.Option.{option_map, option_or}
use Rattle.std.specs.declared.option.Option.{Option}
use Rattle.std.specs.declared.option.Option.TheVariants.{Some, None}
use Rattle.std.proofs.lemmas.List.{drop_all}
use Rattle.std.proofs.lemmas.List.Elements.{All-nil, All-cons}
use Rattle.folder_change.specs.declared.change.Change.{Change}
use Rattle.folder_change.specs.Changes.{name_of}
use Rattle.folder_commit.specs.Names.{is_file_name}
use Rattle.folder_commit.specs.Plans.{AreFiles}
use Rattle.mailx_vars.specs.Names.{is_short_name}
use Rattle.session_play.specs.declared.naming.NameFault.{NameFault}
use Rattle.session_play.specs.declared.naming.NameFault.TheVariants as fault
use Rattle.session_play.specs.Naming.{target_fault}
use Rattle.session_play.specs.Committing.{first_target_fault}

-- what is wrong with the name of one change
abbrev with_name : List ℕ → Option NameFault → Option (List ℕ × NameFault)
with_name name o = option_map (λ fault. (name, fault)) o

abbrev here : List ℕ → Change → Option (List ℕ × NameFault)
here actor c = with_name (name_of c) (target_fault actor (name_of c))

none-here : (name : List ℕ) (o : Option NameFault) → with_name name o ≡ None → o ≡ None
none-here name None is = refl
none-here name (Some f) is = absurd (cc is)

both-none : (a b : Option (List ℕ × NameFault)) → option_or a b ≡ None → (a ≡ None) × (b ≡ None)
both-none (Some x) b is = absurd (cc is)
both-none None b is = (refl, is)

-- a name that isn't at fault can be that of a file that a commit changes
named-file : (actor name : List ℕ) → target_fault actor name ≡ None → is_file_name actor name ≡ true
named-file actor name plain = go (is_short_name name) (is_file_name actor name) plain
  where
    go : (short file : Bool) → (if short then (if file then None else Some fault.Reserved) else Some fault.Bad) ≡ None → file ≡ true
    go true true h = refl
    go true false h = absurd (cc h)
    go false file h = absurd (cc h)

-- so can the files of changes none of whose names is at fault
pub named-files : (actor : List ℕ) (cs : List Change) → first_target_fault actor cs ≡ None → AreFiles actor cs
named-files actor [] plain = All-nil (λ (c : Change). is_file_name actor (name_of c) ≡ true)
named-files actor (c ∷ cs) plain =
    let p = both-none (here actor c) (first_target_fault actor cs) plain in
    All-cons (λ (c : Change). is_file_name actor (name_of c) ≡ true) c cs (named-file actor (name_of c) (none-here (name_of c) (target_fault actor (name_of c)) p.0)) (named-files actor cs p.1)

-- the changes from a place on
from-place : (actor : List ℕ) (cs : List Change) (i : ℕ) (d c : Change) → i < length cs → get_or cs i d ≡ c
    → first_target_fault actor (drop i cs) ≡ option_or (here actor c) (first_target_fault actor (drop (i + 1) cs))
from-place actor cs i d c within is =
    ap (first_target_fault actor) (drop-cons cs i d within)
    ∙ (ap (λ (b : Change). option_or (here actor b) (first_target_fault actor (drop (suc i) cs))) is
    ∙ ap (λ (j : ℕ). option_or (here actor c) (first_target_fault actor (drop j cs))) (sym (add-one i)))

pub fault-here : (actor : List ℕ) (cs : List Change) (i : ℕ) (d c : Change) (f : NameFault) → i < length cs → get_or cs i d ≡ c
    → target_fault actor (name_of c) ≡ Some f → first_target_fault actor (drop i cs) ≡ Some (name_of c, f)
fault-here actor cs i d c f within is wrong =
    from-place actor cs i d c within is ∙ ap (λ (o : Option NameFault). option_or (with_name (name_of c) o) (first_target_fault actor (drop (i + 1) cs))) wrong

pub fault-later : (actor : List ℕ) (cs : List Change) (i : ℕ) (d c : Change) → i < length cs → get_or cs i d ≡ c
    → target_fault actor (name_of c) ≡ None → first_target_fault actor (drop i cs) ≡ first_target_fault actor (drop (i + 1) cs)
fault-later actor cs i d c within is plain =
    from-place actor cs i d c within is ∙ ap (λ (o : Option NameFault). option_or (with_name (name_of c) o) (first_target_fault actor (drop (i + 1) cs))) plain

pub fault-nowhere : (actor : List ℕ) (cs : List Change) (i : ℕ) → length cs ≤ i → first_target_fault actor (drop i cs) ≡ None
fault-nowhere actor cs i past = ap (first_target_fault actor) (drop_all i cs past)
