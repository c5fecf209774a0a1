-- One call of a host is one call of the machine.
use Rattle.std.proofs.Common.{◌≡◌, ℕ, ℤ, Bool, true, false, ◌&&◌, List, [], ◌∷◌, is_some, is_none, refl, sym, subst}
use Rattle.std.specs.declared.option.Option.TheVariants.{Some}
use Rattle.std.specs.declared.result.Result.{Result}
use Rattle.std.specs.declared.result.Result.TheVariants.{Ok, Err}
use Rattle.std.proofs.lemmas.Bool.{and_parts}
use Rattle.host_port.specs.declared.event.Event.{Event}
use Rattle.host_port.specs.declared.event.Event.TheVariants as event
use Rattle.host_port.specs.declared.event.Seen.TheVariants as seen
use Rattle.host_port.specs.declared.event.LoadAnswer.{LoadAnswer}
use Rattle.host_port.specs.declared.host.DiskFault.{DiskFault}
use Rattle.host_port.specs.declared.host.LoadError.{LoadError}
use Rattle.host_port.specs.declared.host.LoadError.TheVariants as error
use Rattle.host_port.specs.Disk.{Disk}
use Rattle.host_port.specs.Ends.{is_after, is_owner, is_open, cut_short}
use Rattle.host_port.specs.Calls.{Loaded, LoadCause, Staged, Published, Extended, Erased, Locked, Unlocked, Seized, Released, TimeTold, LoadFits}
use Rattle.host_port.specs.Ran.{Agrees}
use Rattle.host_port.specs.Own.{own}
use Rattle.commit_machine.specs.Machine.{Call, ToAsk, ToLoad, ToStage, ToPublish, ToExtend, ToErase, ToLock, ToUnlock, ToSeize, ToRelease, Reply, Went, Fault}
use Rattle.commit_machine.specs.Goes.{IsOf, asks, loads, stages, stage_fails, publishes, extends, extend_fails, erases, locks, unlocks, seizes, releases, reply}
use Rattle.commit_driver.specs.Did.{Did, DidUnlock, told_reply, done_reply, load_reply}
use Rattle.commit_driver.specs.Drives.{AnswersSo, Performed}

abbrev Both : Disk → Event → (List Event → Type 0) → Type 0
Both d e P = Agrees d e × P (own (e ∷ []))

one : (c : Call) (e : Event) → IsOf c e → LoadFits e → Did c (reply e) (e ∷ [])
one c e of within = record { event = e; is = refl; of = of; replies = refl; within = within }

allowed : (a b : Bool) → (a && b) ≡ true → b ≡ true
allowed a b h = (and_parts a b h).1

pub asked : (seconds told : ℤ) → told ≡ seconds → (d : Disk) (e : Event) → TimeTold seconds d e → Both d e (Did (ToAsk told) (Went true))
asked seconds told same d e is =
    let P : Event → Type 0 = λ e. Both d e (Did (ToAsk told) (Went true)) in
    let Q : ℤ → Type 0 = λ s. Both d (event.Now s) (Did (ToAsk told) (Went true)) in
    subst P (sym is) (subst Q same (tt, one (ToAsk told) (event.Now told) asks tt))

pub loaded : (before now : ℕ) (name : List ℕ) (r : Result LoadAnswer LoadError) (d : Disk) (e : Event) → LoadCause before now r → Loaded name r d e → Both d e (Did (ToLoad name) (load_reply r))
loaded before now name (Ok a) d e cause is =
    let P : Event → Type 0 = λ e. Both d e (Did (ToLoad name) (load_reply (Ok a))) in
    subst P (sym is.0) ((is.1, is.2), one (ToLoad name) (event.Load name (seen.Bytes a.bytes a.held)) loads cause)
loaded before now name (Err (error.TooLarge n)) d e cause is =
    let P : Event → Type 0 = λ e. Both d e (Did (ToLoad name) (load_reply (Err (error.TooLarge n)))) in
    subst P (sym is.0) (is.1, one (ToLoad name) (event.Load name (seen.TooLarge n)) loads tt)
loaded before now name (Err error.Failed) d e cause is =
    let P : Event → Type 0 = λ e. Both d e (Did (ToLoad name) (load_reply (Err error.Failed))) in
    subst P (sym is) (tt, one (ToLoad name) (event.Load name seen.Failed) loads tt)
loaded before now name (Err error.Memory) d e cause is =
    let P : Event → Type 0 = λ e. Both d e (Did (ToLoad name) (load_reply (Err error.Memory))) in
    subst P (sym is) (tt, one (ToLoad name) (event.Load name seen.Memory) loads tt)

pub staged : (name bytes : List ℕ) (r : Result Unit DiskFault) (d : Disk) (e : Event) → Staged name bytes r d e → Both d e (Did (ToStage name bytes) (done_reply r))
staged name bytes (Ok u) d e is =
    let P : Event → Type 0 = λ e. Both d e (Did (ToStage name bytes) (Went true)) in
    subst P (sym is) (tt, one (ToStage name bytes) (event.Stage name (Some bytes) false) stages tt)
staged name bytes (Err fault) d e is =
    let P : Event → Type 0 = λ e. Both d e (Did (ToStage name bytes) Fault) in
    subst P (sym is.1) (tt, one (ToStage name bytes) (cut_short d (event.Stage name (Some bytes) false) is.0) stage_fails tt)

pub published : (from to : List ℕ) (r : Result Bool DiskFault) (d : Disk) (e : Event) → Published from to r d e → Both d e (Did (ToPublish from to) (told_reply r))
published from to (Ok done) d e is =
    let P : Event → Type 0 = λ e. Both d e (Did (ToPublish from to) (Went done)) in
    subst P (sym is.0) (is.1, one (ToPublish from to) (event.Publish from to done false) publishes tt)
published from to (Err fault) d e is =
    let P : Event → Type 0 = λ e. Both d e (Did (ToPublish from to) Fault) in
    subst P (sym is.1) (allowed (is_after is.0) (is_some (d.files from)), one (ToPublish from to) (cut_short d (event.Publish from to true false) is.0) publishes tt)

pub extended : (name : List ℕ) (at : ℕ) (bytes : List ℕ) (r : Result Unit DiskFault) (d : Disk) (e : Event) → Extended name at bytes r d e → Both d e (Did (ToExtend name at bytes) (done_reply r))
extended name at bytes (Ok u) d e is =
    let P : Event → Type 0 = λ e. Both d e (Did (ToExtend name at bytes) (Went true)) in
    subst P (sym is.0) ((λ fine. is.1), one (ToExtend name at bytes) (event.Extend name at bytes false) extends tt)
extended name at bytes (Err fault) d e is =
    let P : Event → Type 0 = λ e. Both d e (Did (ToExtend name at bytes) Fault) in
    subst P (sym is.1) ((λ fine. absurd (cc)), one (ToExtend name at bytes) (cut_short d (event.Extend name at bytes false) is.0) extend_fails tt)

pub erased : (name : List ℕ) (r : Result Unit DiskFault) (d : Disk) (e : Event) → Erased name r d e → Both d e (Did (ToErase name) (done_reply r))
erased name (Ok u) d e is =
    let P : Event → Type 0 = λ e. Both d e (Did (ToErase name) (Went true)) in
    subst P (sym is) (refl, one (ToErase name) (event.Erase name true false) erases tt)
erased name (Err fault) d e is =
    let P : Event → Type 0 = λ e. Both d e (Did (ToErase name) Fault) in
    subst P (sym is.1) ((λ h. refl), one (ToErase name) (cut_short d (event.Erase name true false) is.0) erases tt)

pub locked : (name : List ℕ) (t : ℕ) (r : Result Bool DiskFault) (d : Disk) (e : Event) → Locked name t r d e → Both d e (Did (ToLock name t) (told_reply r))
locked name t (Ok got) d e is =
    let P : Event → Type 0 = λ e. Both d e (Did (ToLock name t) (Went got)) in
    subst P (sym is.0) (is.1, one (ToLock name t) (event.Lock name t got false) locks tt)
locked name t (Err fault) d e is =
    let P : Event → Type 0 = λ e. Both d e (Did (ToLock name t) Fault) in
    subst P (sym is.1) (allowed (is_after is.0) (is_none (d.locks name)), one (ToLock name t) (cut_short d (event.Lock name t true false) is.0) locks tt)

pub unlocked : (name : List ℕ) (t : ℕ) (r : Result Unit DiskFault) (d : Disk) (e : Event) → Unlocked name t r d e → Both d e (DidUnlock name t r)
unlocked name t (Ok u) d e is =
    let P : Event → Type 0 = λ e. Both d e (DidUnlock name t (Ok u)) in
    subst P (sym is) (refl, (is_owner t (d.locks name), one (ToUnlock name t) (event.Unlock name t (is_owner t (d.locks name)) false) unlocks tt))
unlocked name t (Err fault) d e is =
    let P : Event → Type 0 = λ e. Both d e (Did (ToUnlock name t) Fault) in
    subst P (sym is.1) (allowed (is_after is.0) (is_owner t (d.locks name)), one (ToUnlock name t) (cut_short d (event.Unlock name t true false) is.0) unlocks tt)

pub seized : (name : List ℕ) (r : Result Bool DiskFault) (d : Disk) (e : Event) → Seized name r d e → Both d e (Did (ToSeize name) (told_reply r))
seized name (Ok got) d e is =
    let P : Event → Type 0 = λ e. Both d e (Did (ToSeize name) (Went got)) in
    subst P (sym is.0) (is.1, one (ToSeize name) (event.Seize name got false) seizes tt)
seized name (Err fault) d e is =
    let P : Event → Type 0 = λ e. Both d e (Did (ToSeize name) Fault) in
    subst P (sym is.1) (allowed (is_after is.0) (is_open (d.rights name)), one (ToSeize name) (cut_short d (event.Seize name true false) is.0) seizes tt)

pub released : (name : List ℕ) (d : Disk) (e : Event) → Released name d e → Both d e (Did (ToRelease name) (Went true))
released name d e is =
    let P : Event → Type 0 = λ e. Both d e (Did (ToRelease name) (Went true)) in
    subst P (sym is) (tt, one (ToRelease name) (event.Release name) releases tt)

-- a call that is answered as its event has it
answers-self : (c : Call) (r : Reply) → AnswersSo c r r
answers-self (ToUnlock n t) (Went b) = tt
answers-self (ToUnlock n t) r = refl
answers-self c r = refl

pub performed : (c : Call) (r : Reply) (es : List Event) → Did c r es → Performed c r es
performed c r es did = record { reply = r; same = answers-self c r; did = did }

pub performed-unlock : (n : List ℕ) (t : ℕ) (r : Result Unit DiskFault) (es : List Event) → DidUnlock n t r es → Performed (ToUnlock n t) (done_reply r) es
performed-unlock n t (Ok u) es did = record { reply = Went did.0; same = tt; did = did.1 }
performed-unlock n t (Err f) es did = record { reply = Fault; same = refl; did = did }
