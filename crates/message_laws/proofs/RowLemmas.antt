-- What becomes of a message through runs in a row.
use Rattle.std.proofs.Common.{◌≡◌, ◌⊎◌, ℕ, List, [], ◌++◌, refl, sym, subst, inl, inr, append-nil}
use Rattle.std.specs.Prelude.{All}
use Rattle.host_port.specs.declared.event.Event.{Event}
use Rattle.host_port.specs.Disk.{Disk, disk}
use Rattle.commit_machine.specs.Due.{settled_files}
use Rattle.commit_machine.specs.Rows.{run_files}
use Rattle.play_safety.specs.Safe.{queue, IsCrashSafe}
use Rattle.run_laws.specs.Rows.{Leg, Row, none, run, others}
use Rattle.commit_laws.specs.Kinds.{IsKnown}
use Rattle.commit_laws.proofs.RunLemmas.{commits_are_known}
use Rattle.message_laws.specs.Messages.{Stands, GoesToMbox, SomeDecided, IsKept, stands, taken, OthersLeaveIt}
use Rattle.message_laws.specs.Rows.{AllLeaveIt, DecidedInRow, DecidedSince, RowsKeepMessages}
use Rattle.message_laws.proofs.ChangeLemmas.{stands_alike}
use Rattle.message_laws.proofs.RunLemmas.{from_on}

module _ {actor : List ℕ} {d mid : Disk} (leg : Leg actor d mid) where
  -- the run is one of this actor
  safe_of : IsCrashSafe actor leg.env.token d leg.es leg.safe.commits leg.safe.out
  safe_of = subst (λ (a : List ℕ). IsCrashSafe a leg.env.token d leg.es leg.safe.commits leg.safe.out) leg.same leg.safe.safe

  known_of : All (IsKnown actor leg.env.token) (leg.safe.commits.accepted ++ leg.safe.commits.pending)
  known_of =
      subst (λ (a : List ℕ). All (IsKnown a leg.env.token) (leg.safe.commits.accepted ++ leg.safe.commits.pending)) leg.same
      (commits_are_known leg.start leg.env leg.status d leg.es leg.safe)

  abbrev Kept : List Event → List ℕ → List ℕ → Type 0
  Kept from home text = IsKept actor (λ P. SomeDecided actor leg.env.token d leg.safe.commits from leg.seen P) mid home text

  kept_from : (front behind : List Event) (home text : List ℕ) → leg.seen ≡ front ++ behind → OthersLeaveIt actor text (disk d front) behind
      → Stands (run_files actor leg.env.token d (queue leg.safe.commits) (settled_files actor d) front) home text → Kept front home text
  kept_from front behind home text is leave at =
      from_on actor leg.env.token d mid leg.es leg.seen leg.safe.commits leg.safe.out safe_of leg.left known_of front home text behind front is ([], sym (append-nil front)) leave home (inl refl) at

  -- what follows a run
  module _ {now : Disk} (row : Row actor mid now) (from : List Event) (home text : List ℕ) where
    abbrev Then : Type 0
    Then = IsKept actor (λ P. DecidedSince leg from row P) now home text

    abbrev Later : List ℕ → Type 0
    Later name = IsKept actor (λ P. DecidedInRow row P) now name text

    abbrev Moved : List ℕ → Type 0
    Moved name = (name ≡ home) ⊎ SomeDecided actor leg.env.token d leg.safe.commits from leg.seen (λ files c. GoesToMbox c name text)

    abbrev Placed : List ℕ → Type 0
    Placed name = (name ≡ home) ⊎ DecidedSince leg from row (λ files c. GoesToMbox c name text)

    placed : (name : List ℕ) → Moved name → Placed name
    placed name (inl same) = inl same
    placed name (inr some) = inr (inl some)

    further : (name : List ℕ) → Placed name → Later name → Then
    further name place (taken last some) = taken last (inr some)
    further name place (stands last (inr some) at) = stands last (inr (inr some)) at
    further name place (stands last (inl same) at) = stands last (subst Placed (sym same) place) at

    through : ((name : List ℕ) → Stands (settled_files actor mid) name text → Later name) → Kept from home text → Then
    through more (taken name some) = taken name (inl some)
    through more (stands name place at) = further name (placed name place) (more name at)

through_all : {actor : List ℕ} {d now : Disk} (row : Row actor d now) (home text : List ℕ) → Stands (settled_files actor d) home text → AllLeaveIt text row
    → IsKept actor (λ P. DecidedInRow row P) now home text
through_all none home text at leave = stands home (inl refl) at
through_all (others step row) home text at leave = through_all row home text (leave.0 home at) leave.1
through_all (run leg row) home text at leave =
    through leg row [] home text (λ name there. through_all row name text there leave.1) (kept_from leg [] leg.seen home text refl leave.0 at)

pub rows_keep_messages : RowsKeepMessages
rows_keep_messages actor d mid now leg row front rest behind home text is at seen leave more =
    let due = (safe_of leg).moments front rest is in
    let files = run_files actor leg.env.token d (queue leg.safe.commits) (settled_files actor d) front in
    through leg row front home text (λ name there. through_all row name text there more)
    (kept_from leg front behind home text seen leave (stands_alike (settled_files actor (disk d front)) files home text (due.same_files home) at))
