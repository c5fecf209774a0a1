-- What is gathered isn't lost.
use Rattle.std.proofs.Common.{◌≡◌, ◌≢◌, ℕ, zero, suc, ◌<◌, Bool, true, false, List, [], ◌∷◌, ◌++◌, Some, None, Option, length, get_or, refl, sym, ap, subst, ◌∙◌, append-nil, append_assoc, arith}
use Rattle.std.specs.Str.{bytes_eq}
use Rattle.std.proofs.lemmas.Bool.{false≢true}
use Rattle.std.proofs.lemmas.Slice.Eq.{bytes_eq-Decides}
use Rattle.mbox_scan.specs.Mailbox.{join}
use Rattle.folder_change.specs.declared.change.Change.TheVariants.{Add, AddRaw}
use Rattle.folder_change.specs.Apply.{Files, after, apply}
use Rattle.folder_change.specs.Changes.{name_of}
use Rattle.folder_change.specs.Outcomes.{bytes_of, missing_feeds, outcome_of}
use Rattle.folder_change.proofs.ApplyLemmas.{after-here, after-other}
use Rattle.quit_rules.specs.declared.gathered.Payload.{Payload}
use Rattle.quit_rules.specs.declared.gathered.Payload.TheVariants.{Texts, Bytes}
use Rattle.quit_rules.specs.declared.gathered.BatchItem.{BatchItem}
use Rattle.quit_rules.specs.Gathering.{change_of, gathered_changes, put}
use Rattle.command_desk.specs.declared.naming.Naming.{Naming}
use Rattle.command_desk.specs.declared.naming.Naming.TheVariants as naming
use Rattle.command_desk.specs.Naming.{gathered_after}
use Rattle.filing_laws.specs.Saving.{StandsIn}
use Rattle.filing_laws.specs.Gathering.{put_bytes, GatheredStays, GatheredIsPut}
use Rattle.filing_laws.proofs.Places.{stands_before, stands_last}

more_gathered : (change : Option Naming) (gathered : List BatchItem) → (more : List BatchItem) × (gathered_after change gathered ≡ gathered ++ more)
more_gathered None gathered = ([], sym (append-nil gathered))
more_gathered (Some (naming.Gather one)) gathered = (one ∷ [], refl)
more_gathered (Some (naming.Alias name members)) gathered = ([], sym (append-nil gathered))
more_gathered (Some (naming.Unalias names)) gathered = ([], sym (append-nil gathered))
more_gathered (Some (naming.Alternates names)) gathered = ([], sym (append-nil gathered))
more_gathered (Some (naming.Ignore names)) gathered = ([], sym (append-nil gathered))
more_gathered (Some (naming.Retain names)) gathered = ([], sym (append-nil gathered))
more_gathered (Some (naming.Begin name)) gathered = ([], sym (append-nil gathered))
more_gathered (Some (naming.Line line)) gathered = ([], sym (append-nil gathered))
more_gathered (Some naming.End) gathered = ([], sym (append-nil gathered))
more_gathered (Some (naming.Undef names)) gathered = ([], sym (append-nil gathered))

pub gathered_stays : GatheredStays
gathered_stays desk effects = more_gathered effects.naming desk.gathered

-- ---- in the files
-- what a thing leaves of its file: all that stood there, and then it
record Puts (before now : List ℕ) (part : List ℕ) : Type 0 where
  between : List ℕ
  is : now ≡ before ++ (between ++ part)

pub added_here : (name : List ℕ) (texts base : List (List ℕ)) (files : Files)
    → after files (Add name texts) base name ≡ Some (bytes_of (files name) ++ missing_feeds (bytes_of (files name)) ++ join texts)
unfolding outcome_of
added_here name texts base files = after-here files (Add name texts) base (Some (bytes_of (files name) ++ missing_feeds (bytes_of (files name)) ++ join texts)) refl

pub raw_here : (name bytes : List ℕ) (base : List (List ℕ)) (files : Files) → after files (AddRaw name bytes) base name ≡ Some (bytes_of (files name) ++ bytes)
unfolding outcome_of
raw_here name bytes base files = after-here files (AddRaw name bytes) base (Some (bytes_of (files name) ++ bytes)) refl

put_on : (name : List ℕ) (what : Payload) (base : List (List ℕ)) (files : Files) → Puts (bytes_of (files name)) (bytes_of (after files (put name what) base name)) (put_bytes what)
put_on name (Texts texts) base files = record {
  between = missing_feeds (bytes_of (files name));
  is = ap bytes_of (added_here name texts base files) ∙ append_assoc (bytes_of (files name)) (missing_feeds (bytes_of (files name))) (join texts);
}
put_on name (Bytes bytes) base files = record { between = []; is = ap bytes_of (raw_here name bytes base files) }

put_name : (one : BatchItem) → name_of (change_of one) ≡ one.name
put_name one = go one.what
  where
    go : (what : Payload) → name_of (put one.name what) ≡ one.name
    go (Texts texts) = refl
    go (Bytes bytes) = refl

-- what stands in a file stays when one thing more is put
stays_once : (part name : List ℕ) (one : BatchItem) (base : List (List ℕ)) (files : Files)
    → StandsIn part (bytes_of (files name)) → StandsIn part (bytes_of (after files (change_of one) base name))
stays_once part name one base files s = go (bytes_eq name one.name) refl
  where
    here : name ≡ one.name → StandsIn part (bytes_of (after files (change_of one) base name))
    here same =
        let p = put_on one.name one.what base files in
        let at : StandsIn part (bytes_of (files one.name)) = subst (λ (n : List ℕ). StandsIn part (bytes_of (files n))) same s in
        subst (λ (n : List ℕ). StandsIn part (bytes_of (after files (change_of one) base n))) (sym same)
        (subst (StandsIn part) (sym p.is) (stands_before part (bytes_of (files one.name)) (p.between ++ put_bytes one.what) at))

    go : (b : Bool) → bytes_eq name one.name ≡ b → StandsIn part (bytes_of (after files (change_of one) base name))
    go true is = here ((bytes_eq-Decides name one.name).0 is)
    go false is =
        let other : name ≢ name_of (change_of one) = λ same. false≢true (sym is ∙ (bytes_eq-Decides name one.name).1 (same ∙ put_name one)) in
        subst (λ (f : Option (List ℕ)). StandsIn part (bytes_of f)) (sym (after-other files (change_of one) base name other)) s

stays_all : (part name : List ℕ) (gathered : List BatchItem) (base : List (List ℕ)) (files : Files)
    → StandsIn part (bytes_of (files name)) → StandsIn part (bytes_of (apply (gathered_changes gathered) base files name))
unfolding apply
stays_all part name [] base files s = s
stays_all part name (one ∷ more) base files s = stays_all part name more base (after files (change_of one) base) (stays_once part name one base files s)

-- one thing is put
put_once : (one : BatchItem) (base : List (List ℕ)) (files : Files) → StandsIn (put_bytes one.what) (bytes_of (after files (change_of one) base one.name))
put_once one base files =
    let p = put_on one.name one.what base files in
    subst (StandsIn (put_bytes one.what)) (sym (p.is ∙ sym (append_assoc (bytes_of (files one.name)) p.between (put_bytes one.what))))
    (stands_last (bytes_of (files one.name) ++ p.between) (put_bytes one.what))

all_put : (one : BatchItem) (gathered : List BatchItem) (base : List (List ℕ)) (files : Files) (k : ℕ) → k < length gathered → get_or gathered k one ≡ one
    → StandsIn (put_bytes one.what) (bytes_of (apply (gathered_changes gathered) base files one.name))
unfolding apply
all_put one [] base files k within is = absurd (omega arith)
all_put one (g ∷ gs) base files zero within is =
    stays_all (put_bytes one.what) one.name gs base (after files (change_of g) base)
    (subst (λ (x : BatchItem). StandsIn (put_bytes one.what) (bytes_of (after files (change_of x) base one.name))) (sym is) (put_once one base files))
all_put one (g ∷ gs) base files (suc k) within is = all_put one gs base (after files (change_of g) base) k (omega arith) is

pub gathered_is_put : GatheredIsPut
gathered_is_put gathered base files one at = all_put one gathered base files at.0 at.1 at.2
