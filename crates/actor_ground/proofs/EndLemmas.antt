-- Events of calls that agree with the disk before them.
use Rattle.std.proofs.Common.{◌≡◌, ◌⊎◌, ◌≤◌, ◌<◌, ◌&&◌, ℕ, Bool, true, false, not, nat_le, List, length, Option, Some, None, is_some, is_none, refl, ap, sym, subst, inl, inr, ◌∙◌, arith}
use Rattle.std.proofs.lemmas.Bool.{cases_Bool, le-leb, lt-leb, leb-true, leb-false}
use Rattle.host_port.specs.declared.event.Event.{Event}
use Rattle.host_port.specs.declared.event.Event.TheVariants as event
use Rattle.host_port.specs.declared.event.Part.{Part}
use Rattle.host_port.specs.declared.event.Part.TheVariants.{Before, After, Bytes, Nothing}
use Rattle.host_port.specs.declared.event.Seen.{Seen}
use Rattle.host_port.specs.declared.event.Seen.TheVariants as seen
use Rattle.host_port.specs.Calls.{FitsLoad, LoadFits, IsTooLarge, load_limit}
use Rattle.host_port.specs.Disk.{Disk, reaches}
use Rattle.host_port.specs.Ends.{is_after, is_owner, is_open}
use Rattle.host_port.specs.Ran.{Agrees, AllowedBy}
use Rattle.host_port.proofs.EndLemmas.{carried-agrees, cut-agrees}
use Rattle.commit_machine.specs.Machine.{Call, ToAsk, ToLoad, ToStage, ToPublish, ToExtend, ToErase, ToLock, ToUnlock, ToSeize, ToRelease}
use Rattle.commit_machine.specs.Goes.{IsOf, asks, loads, stages, stage_fails, publishes, extends, extend_fails, erases, locks, unlocks, seizes, releases}
use Rattle.actor_ground.specs.CallEnds.{seen_of, asked, answered, IsFailing, IsShort, IsEnd, CallsEndSo, EndsAreOfCalls}

-- a call that may be done or not: the event by whether it was done is what the disk allows, or such a part of it
allowed-end : (d : Disk) (make : Bool → Bool → Event) (allowed done failed : Bool) → AllowedBy allowed done failed
    → (make done failed ≡ make allowed false) ⊎ ((part : Part) × (make done failed ≡ make (is_after part && allowed) true))
allowed-end d make allowed done false is = inl (ap (λ (b : Bool). make b false) is)
allowed-end d make allowed true true is = inr (After, ap (λ (b : Bool). make b true) (sym (is refl)))
allowed-end d make allowed false true is = inr (Before, refl)

-- an end of a call that isn't a load
ended : {A B C : Type 0} → A ⊎ B → A ⊎ (B ⊎ C)
ended (inl a) = inl a
ended (inr b) = inr (inl b)

-- what a load sees of a file within the limit, and of one past it
fits-seen : (file : Option (List ℕ)) (held : Bool) → FitsLoad file → seen.Bytes file held ≡ seen_of file held
fits-seen None held fits = refl
fits-seen (Some bytes) held fits = let y : nat_le (length bytes) load_limit ≡ true = le-leb _ _ fits in rw y refl

long-seen : (file : Option (List ℕ)) (held : Bool) (m : ℕ) → IsTooLarge file m → seen.TooLarge m ≡ seen_of file held
long-seen None held m long = absurd long
long-seen (Some bytes) held m long =
    let past : load_limit < length bytes = omega (arith, long.0, long.1) in
    let y : nat_le (length bytes) load_limit ≡ false = lt-leb _ _ past in
    rw y (ap seen.TooLarge (sym long.0))

load-end : (d : Disk) (n : List ℕ) (s : Seen) → Agrees d (event.Load n s) → LoadFits (event.Load n s) → IsEnd d (ToLoad n) (event.Load n s)
load-end d n (seen.Bytes bytes held) agrees within =
    let fits : FitsLoad (d.files n) = subst FitsLoad agrees.0 within in
    let same : seen.Bytes bytes held ≡ seen.Bytes (d.files n) (is_some (d.locks n)) = cc in
    inl (ap (event.Load n) (same ∙ fits-seen (d.files n) (is_some (d.locks n)) fits))
load-end d n (seen.TooLarge m) agrees within = inl (ap (event.Load n) (long-seen (d.files n) (is_some (d.locks n)) m agrees))
load-end d n seen.Failed agrees within = inr (inl refl)
load-end d n seen.Memory agrees within = inr (inr refl)

erase-end : (d : Disk) (n : List ℕ) (done failed : Bool) → AllowedBy true done failed → IsEnd d (ToErase n) (event.Erase n done failed)
erase-end d n done false is = inl (ap (λ (b : Bool). event.Erase n b false) is)
erase-end d n true true is = inr (inl (After, refl))
erase-end d n false true is = inr (inl (Before, refl))

pub calls-end-so : CallsEndSo
calls-end-so d (ToAsk time) _ asks agrees within = inl refl
calls-end-so d (ToLoad n) _ (loads {s = s}) agrees within = load-end d n s agrees within
calls-end-so d (ToStage n c) _ stages agrees within = inl refl
calls-end-so d (ToStage n c) _ (stage_fails {left = Some bytes}) agrees within = inr (inl (Bytes bytes, refl))
calls-end-so d (ToStage n c) _ (stage_fails {left = None}) agrees within = inr (inl (Nothing, refl))
calls-end-so d (ToPublish from to) _ (publishes {done = done} {failed = failed}) agrees within = ended (allowed-end d (event.Publish from to) (is_some (d.files from)) done failed agrees)
calls-end-so d (ToExtend n at c) _ extends agrees within = let reach = agrees refl in inl (ap (λ (b : Bool). event.Extend n at c (not b)) (sym reach))
calls-end-so d (ToExtend n at c) _ (extend_fails {left = left}) agrees within = inr (inl (Bytes left, refl))
calls-end-so d (ToErase n) _ (erases {done = done} {failed = failed}) agrees within = erase-end d n done failed agrees
calls-end-so d (ToLock n t) _ (locks {got = got} {failed = failed}) agrees within = ended (allowed-end d (event.Lock n t) (is_none (d.locks n)) got failed agrees)
calls-end-so d (ToUnlock n t) _ (unlocks {done = done} {failed = failed}) agrees within = ended (allowed-end d (event.Unlock n t) (is_owner t (d.locks n)) done failed agrees)
calls-end-so d (ToSeize n) _ (seizes {got = got} {failed = failed}) agrees within = ended (allowed-end d (event.Seize n) (is_open (d.rights n)) got failed agrees)
calls-end-so d (ToRelease n) _ releases agrees within = inl refl

-- what a load is answered is so
seen-agrees : (d : Disk) (n : List ℕ) (file : Option (List ℕ)) → d.files n ≡ file
    → Agrees d (event.Load n (seen_of file (is_some (d.locks n)))) × LoadFits (event.Load n (seen_of file (is_some (d.locks n))))
seen-agrees d n None is = ((sym is, refl), tt)
seen-agrees d n (Some bytes) is = elim (cases_Bool (nat_le (length bytes) load_limit)) [
  | inl y ↦ (let fits : length bytes ≤ load_limit = leb-true _ _ y in rw y ((sym is, refl), fits))
  | inr nay ↦ (
      let past : load_limit < length bytes = leb-false _ _ nay in
      let long : IsTooLarge (d.files n) (length bytes) = subst (λ (f : Option (List ℕ)). IsTooLarge f (length bytes)) (sym is) (refl, past) in
      rw nay (long, tt))
]

-- an event of a call that may change the disk
of-asked : (d : Disk) (c : Call) → IsOf c (answered d c)
of-asked d (ToAsk time) = asks
of-asked d (ToLoad n) = loads
of-asked d (ToStage n c) = stages
of-asked d (ToPublish from to) = publishes
of-asked d (ToExtend n at c) = elim (cases_Bool (reaches at (d.files n))) [ inl y ↦ (rw y extends) | inr nay ↦ (rw nay extend_fails) ]
of-asked d (ToErase n) = erases
of-asked d (ToLock n t) = locks
of-asked d (ToUnlock n t) = unlocks
of-asked d (ToSeize n) = seizes
of-asked d (ToRelease n) = releases

answered-so : (d : Disk) (c : Call) → Agrees d (answered d c) × LoadFits (answered d c)
answered-so d (ToAsk time) = (tt, tt)
answered-so d (ToLoad n) = seen-agrees d n (d.files n) refl
answered-so d (ToStage n c) = (tt, tt)
answered-so d (ToPublish from to) = (refl, tt)
answered-so d (ToExtend n at c) = (carried-agrees d (event.Extend n at c false) refl, tt)
answered-so d (ToErase n) = (refl, tt)
answered-so d (ToLock n t) = (refl, tt)
answered-so d (ToUnlock n t) = (refl, tt)
answered-so d (ToSeize n) = (refl, tt)
answered-so d (ToRelease n) = (tt, tt)

-- what is said of an event of a call
abbrev IsSo : Disk → Call → Event → Type 0
IsSo d c e = IsOf c e × Agrees d e × LoadFits e

failing-so : (d : Disk) (c : Call) (e : Event) → IsFailing d c e → IsSo d c e
failing-so d (ToAsk time) e is = absurd is
failing-so d (ToRelease n) e is = absurd is
failing-so d (ToLoad n) e is = subst (IsSo d (ToLoad n)) (sym is) (loads, tt, tt)
failing-so d (ToStage n c) e is = subst (IsSo d (ToStage n c)) (sym is.1) (stage_fails, tt, tt)
failing-so d (ToPublish from to) e is = subst (IsSo d (ToPublish from to)) (sym is.1) (publishes, cut-agrees d (asked d (ToPublish from to)) is.0 refl, tt)
failing-so d (ToExtend n at c) e is = subst (IsSo d (ToExtend n at c)) (sym is.1) (extend_fails, cut-agrees d (asked d (ToExtend n at c)) is.0 refl, tt)
failing-so d (ToErase n) e is = subst (IsSo d (ToErase n)) (sym is.1) (erases, cut-agrees d (asked d (ToErase n)) is.0 refl, tt)
failing-so d (ToLock n t) e is = subst (IsSo d (ToLock n t)) (sym is.1) (locks, cut-agrees d (asked d (ToLock n t)) is.0 refl, tt)
failing-so d (ToUnlock n t) e is = subst (IsSo d (ToUnlock n t)) (sym is.1) (unlocks, cut-agrees d (asked d (ToUnlock n t)) is.0 refl, tt)
failing-so d (ToSeize n) e is = subst (IsSo d (ToSeize n)) (sym is.1) (seizes, cut-agrees d (asked d (ToSeize n)) is.0 refl, tt)

short-so : (d : Disk) (c : Call) (e : Event) → IsShort c e → IsSo d c e
short-so d (ToLoad n) e is = subst (IsSo d (ToLoad n)) (sym is) (loads, tt, tt)
short-so d c e is = absurd is

pub ends-are-of-calls : EndsAreOfCalls
ends-are-of-calls d c e (inl is) = subst (IsSo d c) (sym is) (of-asked d c, (answered-so d c).0, (answered-so d c).1)
ends-are-of-calls d c e (inr (inl is)) = failing-so d c e is
ends-are-of-calls d c e (inr (inr is)) = short-so d c e is
