-- How a bracket goes on, and its next call.
use Rattle.std.proofs.Common.{◌≡◌, List, [], ◌∷◌, ◌++◌, Option, Bool, ap, sym, ◌∙◌}
use Rattle.host_port.specs.declared.event.Event.{Event}
use Rattle.commit_machine.specs.Goes.{reply}
use Rattle.commit_machine.specs.Machine.{State, Seizing, after_reply, refused}
use Rattle.core_steps.specs.declared.change.CoreChange.{CoreChange}
use Rattle.core_steps.specs.declared.actor.Actor.{Actor}
use Rattle.core_steps.specs.declared.actor.Task.{Task}
use Rattle.core_steps.specs.declared.actor.Past.{Past}
use Rattle.core_steps.specs.declared.actor.Past.TheVariants.{Shown, Wanted}
use Rattle.core_steps.specs.declared.actor.Doing.TheVariants.{Bracket}
use Rattle.core_steps.specs.Tasks.{job_of, on_time, state_of}
use Rattle.core_steps.specs.Turns.{doing_at, doing_then}
use Rattle.core_fact.proofs.Pasts.{state-shown, state-wanted}
use Rattle.actor_bracket.specs.declared.going.Goes.{Goes}
use Rattle.actor_bracket.specs.declared.stand.Stand.{Stand}
use Rattle.actor_bracket.specs.Going.{doing_goes}
use Rattle.actor_bracket.specs.Stands.{changes_of, state_as}

module _ (a : Actor) (t : Task) (past : List Past) (before now : Stand) (was : state_as (changes_of t) before ≡ state_of a t past) where
  -- how a bracket goes on once its call was this event
  pub goes_shown : (e : Event) (goes : Goes) → state_as (changes_of t) now ≡ on_time (after_reply (job_of a t) (state_as (changes_of t) before) (reply e))
      → ((cs : List CoreChange) (u : Task) (ps : List Past) (p : Past) → doing_goes (Bracket u ps) p goes ≡ doing_at u (ps ++ p ∷ []) (state_as cs now))
      → doing_goes (Bracket t past) (Shown e) goes ≡ doing_then a t past (Shown e)
  goes_shown e goes is on =
      on (changes_of t) t past (Shown e)
      ∙ ap (doing_at t (past ++ Shown e ∷ [])) (is ∙ ap (λ (s : State). on_time (after_reply (job_of a t) s (reply e))) was ∙ sym (state-shown (job_of a t) Seizing past e))

  -- and once it wanted memory
  pub goes_wanted : (goes : Goes) → state_as (changes_of t) now ≡ refused (job_of a t) (state_as (changes_of t) before)
      → ((cs : List CoreChange) (u : Task) (ps : List Past) (p : Past) → doing_goes (Bracket u ps) p goes ≡ doing_at u (ps ++ p ∷ []) (state_as cs now))
      → doing_goes (Bracket t past) Wanted goes ≡ doing_then a t past Wanted
  goes_wanted goes is on =
      on (changes_of t) t past Wanted
      ∙ ap (doing_at t (past ++ Wanted ∷ [])) (is ∙ ap (refused (job_of a t)) was ∙ sym (state-wanted (job_of a t) Seizing past))
