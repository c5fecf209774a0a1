-- What a step asks of the disk is an event of its call, and what that says is so.
use Rattle.std.proofs.Common.{◌≡◌, true, refl, inl, inr}
use Rattle.host_port.specs.declared.event.Event.{Event}
use Rattle.host_port.specs.declared.event.Event.TheVariants as event
use Rattle.host_port.specs.declared.event.Seen.TheVariants as seen
use Rattle.host_port.specs.declared.event.Part.{Part}
use Rattle.host_port.specs.Disk.{Disk}
use Rattle.host_port.specs.Ends.{cut_short}
use Rattle.host_port.specs.Ran.{Agrees}
use Rattle.host_port.specs.Calls.{LoadFits}
use Rattle.commit_machine.specs.Machine.{Call, ToAsk, ToLoad, ToStage, ToPublish, ToExtend, ToErase, ToLock, ToUnlock, ToSeize, ToRelease}
use Rattle.commit_machine.specs.Goes.{IsOf}
use Rattle.actor_ground.specs.CallEnds.{asked, answered}
use Rattle.core_steps.specs.Turns.{failing, can_fail}
use Rattle.actor_ground.proofs.EndLemmas.{ends-are-of-calls}

abbrev pub IsSo : Disk → Call → Event → Type 0
IsSo d c e = IsOf c e × Agrees d e × LoadFits e

pub answered_so : (d : Disk) (c : Call) → IsSo d c (answered d c)
answered_so d c = ends-are-of-calls d c (answered d c) (inl refl)

pub cut_so : (d : Disk) (c : Call) (part : Part) → IsSo d c (cut_short d (asked d c) part)
cut_so d (ToAsk time) part = answered_so d (ToAsk time)
cut_so d (ToLoad n) part = answered_so d (ToLoad n)
cut_so d (ToRelease n) part = answered_so d (ToRelease n)
cut_so d (ToStage n c) part = ends-are-of-calls d (ToStage n c) _ (inr (inl (part, refl)))
cut_so d (ToPublish from to) part = ends-are-of-calls d (ToPublish from to) _ (inr (inl (part, refl)))
cut_so d (ToExtend n at c) part = ends-are-of-calls d (ToExtend n at c) _ (inr (inl (part, refl)))
cut_so d (ToErase n) part = ends-are-of-calls d (ToErase n) _ (inr (inl (part, refl)))
cut_so d (ToLock n t) part = ends-are-of-calls d (ToLock n t) _ (inr (inl (part, refl)))
cut_so d (ToUnlock n t) part = ends-are-of-calls d (ToUnlock n t) _ (inr (inl (part, refl)))
cut_so d (ToSeize n) part = ends-are-of-calls d (ToSeize n) _ (inr (inl (part, refl)))

pub failing_so : (d : Disk) (c : Call) (part : Part) → can_fail c ≡ true → IsSo d c (failing d c part)
failing_so d (ToAsk time) part may = absurd (cc)
failing_so d (ToRelease n) part may = absurd (cc)
failing_so d (ToLoad n) part may = ends-are-of-calls d (ToLoad n) (event.Load n seen.Failed) (inr (inl refl))
failing_so d (ToStage n c) part may = cut_so d (ToStage n c) part
failing_so d (ToPublish from to) part may = cut_so d (ToPublish from to) part
failing_so d (ToExtend n at c) part may = cut_so d (ToExtend n at c) part
failing_so d (ToErase n) part may = cut_so d (ToErase n) part
failing_so d (ToLock n t) part may = cut_so d (ToLock n t) part
failing_so d (ToUnlock n t) part may = cut_so d (ToUnlock n t) part
failing_so d (ToSeize n) part may = cut_so d (ToSeize n) part
