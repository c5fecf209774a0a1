-- Events that are, one by one, the machine's next calls.
use Rattle.std.specs.Prelude.{◌≡◌, ◌⊎◌, ℕ, ℤ, Bool, true, false, List, [], ◌∷◌}
use Rattle.std.specs.declared.option.Option.{Option}
use Rattle.std.specs.declared.option.Option.TheVariants.{Some, None}
use Rattle.host_port.specs.declared.event.Event.{Event}
use Rattle.host_port.specs.declared.event.Event.TheVariants as event
use Rattle.host_port.specs.declared.event.Seen.{Seen}
use Rattle.host_port.specs.declared.event.Seen.TheVariants as seen
use Rattle.commit_machine.specs.Jobs.{Job}
use Rattle.commit_machine.specs.Machine.{State, Call, ToAsk, ToLoad, ToStage, ToPublish, ToExtend, ToErase, ToLock, ToUnlock, ToSeize, ToRelease, Reply, Went, Saw, Long, Short, Fault, next, after_reply, refused}

-- the event is one of this call, carried out or failing
pub data IsOf : Call → Event → Type 0 where
  asks : {time : ℤ} → IsOf (ToAsk time) (event.Now time)
  loads : {n : List ℕ} {s : Seen} → IsOf (ToLoad n) (event.Load n s)
  stages : {n c : List ℕ} → IsOf (ToStage n c) (event.Stage n (Some c) false)
  stage_fails : {n c : List ℕ} {left : Option (List ℕ)} → IsOf (ToStage n c) (event.Stage n left true)
  publishes : {from to : List ℕ} {done failed : Bool} → IsOf (ToPublish from to) (event.Publish from to done failed)
  extends : {n : List ℕ} {at : ℕ} {c : List ℕ} → IsOf (ToExtend n at c) (event.Extend n at c false)
  extend_fails : {n : List ℕ} {at : ℕ} {c left : List ℕ} → IsOf (ToExtend n at c) (event.Extend n at left true)
  erases : {n : List ℕ} {done failed : Bool} → IsOf (ToErase n) (event.Erase n done failed)
  locks : {n : List ℕ} {t : ℕ} {got failed : Bool} → IsOf (ToLock n t) (event.Lock n t got failed)
  unlocks : {n : List ℕ} {t : ℕ} {done failed : Bool} → IsOf (ToUnlock n t) (event.Unlock n t done failed)
  seizes : {n : List ℕ} {got failed : Bool} → IsOf (ToSeize n) (event.Seize n got failed)
  releases : {n : List ℕ} → IsOf (ToRelease n) (event.Release n)

abbrev pub went : Bool → Bool → Reply
went done true = Fault
went done false = Went done

abbrev pub seen_reply : Seen → Reply
seen_reply (seen.Bytes bytes held) = Saw bytes
seen_reply (seen.TooLarge n) = Long n
seen_reply seen.Failed = Fault
seen_reply seen.Memory = Short

-- what an event answers
abbrev pub reply : Event → Reply
reply (event.Load n s) = seen_reply s
reply (event.Stage n c failed) = went true failed
reply (event.Publish from to done failed) = went done failed
reply (event.Extend n at tail failed) = went true failed
reply (event.Erase n done failed) = went done failed
reply (event.Lock n t got failed) = went got failed
reply (event.Unlock n t done failed) = went done failed
reply (event.Seize n got failed) = went got failed
reply e = Went true

abbrev pub IsNext : Option Call → Event → Type 0
IsNext None e = ⊥
IsNext (Some c) e = IsOf c e

-- The events carry the machine from a state to another. Memory may run out in place of any call.
abbrev pub Goes : Job → State → List Event → State → Type 0
Goes j s [] last = (s ≡ last) ⊎ (refused j s ≡ last)
Goes j s (e ∷ es) last = (now : State) × ((now ≡ s) ⊎ (now ≡ refused j s)) × IsNext (next j now) e × Goes j (after_reply j now (reply e)) es last
