-- Events that are, in order, the steps of one actor in a bracket.
use Rattle.std.specs.Prelude.{◌≡◌, ◌⊎◌, ℕ, Bool, true, false, List, [], ◌∷◌, ◌++◌}
use Rattle.std.specs.declared.option.Option.{Option}
use Rattle.std.specs.declared.option.Option.TheVariants.{Some}
use Rattle.host_port.specs.declared.event.Event.{Event}
use Rattle.host_port.specs.declared.event.Event.TheVariants.{Load, Now, Foreign}
use Rattle.host_port.specs.declared.event.Seen.TheVariants as seen
use Rattle.host_port.specs.declared.event.Part.{Part}
use Rattle.host_port.specs.Disk.{Disk, after, after_step}
use Rattle.host_port.specs.Own.{own}
use Rattle.host_port.specs.Ran.{Honest}
use Rattle.host_port.specs.Calls.{LoadFits}
use Rattle.folder_change.specs.declared.change.Change.{Change}
use Rattle.folder_change.specs.declared.change.Change.TheVariants as change
use Rattle.commit_machine.specs.Jobs.{Ending}
use Rattle.commit_machine.specs.Machine.{Seizing, Ended, Call, ToLoad, next}
use Rattle.commit_machine.specs.Goes.{Goes}
use Rattle.commit_machine.specs.Settled.{Mem}
use Rattle.actor_ground.specs.CallEnds.{answered}
use Rattle.core_steps.specs.declared.change.CoreChange.{CoreChange}
use Rattle.core_steps.specs.declared.change.CoreChange.TheVariants.{Rewrite, Add, Front, AddRaw}
use Rattle.core_steps.specs.declared.actor.Actor.{Actor}
use Rattle.core_steps.specs.declared.actor.Task.{Task}
use Rattle.core_steps.specs.declared.actor.Past.{Past}
use Rattle.core_steps.specs.declared.actor.Past.TheVariants.{Shown, Wanted}
use Rattle.core_steps.specs.Tasks.{job_of, state_of, may_want}
use Rattle.core_steps.specs.Turns.{failing, can_fail}

-- a change beside the texts for which it was made
abbrev pub with_base : List (List ℕ) → Change → CoreChange
with_base base (change.Rewrite name list keep) = Rewrite name list keep base
with_base base (change.Add name texts) = Add name texts
with_base base (change.Front name texts) = Front name texts
with_base base (change.AddRaw name bytes) = AddRaw name bytes

-- the actor's next call, by what happened so far
abbrev pub next_of : Actor → Task → List Past → Option Call
next_of a t past = next (job_of a t) (state_of a t past)

-- the event is the actor's step Call or Fail on this disk
abbrev pub IsStepOf : Actor → Task → List Past → Disk → Event → Type 0
IsStepOf a t past d e = (c : Call) × (next_of a t past ≡ Some c) × ((e ≡ answered d c) ⊎ ((can_fail c ≡ true) × ((part : Part) × (e ≡ failing d c part))))

-- memory was wanted before
abbrev pub has_wanted : List Past → Bool
has_wanted [] = false
has_wanted (Shown e ∷ past) = has_wanted past
has_wanted (Wanted ∷ past) = true

-- the actor's step Refuse, which comes once at most
abbrev pub Wants : Actor → Task → List Past → List Past → Type 0
Wants a t past now = (may_want (state_of a t past) ≡ true) × (has_wanted past ≡ false) × (now ≡ past ++ Wanted ∷ [])

-- what follows is so, or it is once memory was wanted
abbrev pub OrOnceWanted : Actor → Task → List Past → (List Past → Type 0) → Type 0
OrOnceWanted a t past P = P past ⊎ ((now : List Past) × Wants a t past now × P now)

-- a load for which memory ran out is a Refuse in its place; where none may come, it counts as a load that failed
abbrev pub IsShortLoad : Actor → Task → List Past → Event → List Past → Type 0
IsShortLoad a t past e now =
    (n : List ℕ) × (next_of a t past ≡ Some (ToLoad n)) × (e ≡ Load n seen.Memory)
    × (Wants a t past now ⊎ ((may_want (state_of a t past) ≡ false) × (now ≡ past ++ Shown (Load n seen.Failed) ∷ [])))

-- Among the steps of others, and but for the question for the time, the events are, one by one, steps Call or Fail of the actor, each on the disk
-- that stands just before it.
abbrev pub AreSteps : Actor → Task → List Past → Disk → List Event → List Past → Type 0
AreSteps a t past d [] last = OrOnceWanted a t past (λ now. now ≡ last)
AreSteps a t past d (Foreign f ∷ es) last = AreSteps a t past (after_step d f) es last
AreSteps a t past d (Now time ∷ es) last = AreSteps a t past d es last
AreSteps a t past d (e ∷ es) last =
    OrOnceWanted a t past (λ now. (IsStepOf a t now d e × AreSteps a t (now ++ Shown e ∷ []) (after d e) es last)
    ⊎ ((after : List Past) × IsShortLoad a t now e after × AreSteps a t after d es last))

-- the events are steps of an actor that began with this, up to the end of its bracket
abbrev pub IsBracketOf : Actor → Task → Disk → List Event → Ending → Type 0
IsBracketOf a t d es end = (last : List Past) × AreSteps a t [] d es last × (state_of a t last ≡ Ended end)

-- Events that are, one by one, the machine's next calls are such steps. Each says what is so, and no load saw a file past the limit.
abbrev pub BracketsAreSteps : Type 0
BracketsAreSteps = (a : Actor) (t : Task) (d : Disk) (es : List Event) (end : Ending)
    → Goes (job_of a t) Seizing (own es) (Ended end) → Honest d es → ((e : Event) → Mem e (own es) → LoadFits e)
    → IsBracketOf a t d es end
