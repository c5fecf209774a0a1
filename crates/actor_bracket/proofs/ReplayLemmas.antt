-- The state of a bracket after one thing more, and the call at its decision.
use Rattle.std.proofs.Common.{◌≡◌, ◌+◌, ◌<◌, ℕ, false, List, [], ◌∷◌, ◌++◌, Some, length, take, get_or, ap, sym, ◌∙◌}
use Rattle.std.specs.Option.{option_map}
use Rattle.std.proofs.lemmas.List.{take_more}
use Rattle.commit_record.specs.Format.{written}
use Rattle.host_port.specs.declared.event.Event.{Event}
use Rattle.host_port.specs.declared.event.Event.TheVariants as event
use Rattle.host_port.specs.Disk.{Disk}
use Rattle.commit_machine.specs.Jobs.{Job, go_of}
use Rattle.commit_machine.specs.Machine.{State, Seizing, next}
use Rattle.commit_machine.specs.Names.{new_name}
use Rattle.actor_ground.specs.CallEnds.{asked}
use Rattle.core_steps.specs.declared.actor.Actor.{Actor}
use Rattle.core_steps.specs.declared.actor.Past.{Past}
use Rattle.core_steps.specs.declared.actor.Past.TheVariants.{Shown, Wanted}
use Rattle.core_steps.specs.declared.actor.Task.{Task}
use Rattle.core_steps.specs.Tasks.{job_of, state_from, state_of}
use Rattle.core_fact.proofs.Pasts.{state-shown, state-wanted}
use Rattle.actor_bracket.specs.declared.stand.Made.{Made}
use Rattle.actor_bracket.specs.declared.stand.Stand.{Stand}
use Rattle.actor_bracket.specs.declared.stand.Stand.TheVariants.{Deciding}
use Rattle.actor_bracket.specs.Stands.{changes_of, mades_as, state_as}
use Rattle.actor_bracket.proofs.StandLemmas.{job_actor}

state_both : (j : Job) (s : State) (past : List Past) (p : Past) → state_from j s (past ++ p ∷ []) ≡ state_from j (state_from j s past) (p ∷ [])
state_both j s past (Shown e) = state-shown j s past e
state_both j s past Wanted = state-wanted j s past

pub replay_more : (a : Actor) (t : Task) (past : List Past) (i : ℕ) (p : Past) (old now : State) → i < length past → p ≡ get_or past i p → old ≡ state_of a t (take i past)
    → now ≡ state_from (job_of a t) old (p ∷ []) → now ≡ state_of a t (take (i + 1) past)
replay_more a t past i p old now lt is was e =
    e ∙ ap (λ (s : State). state_from (job_of a t) s (p ∷ [])) was ∙ sym (state_both (job_of a t) Seizing (take i past) p)
    ∙ ap (state_of a t) (sym (take_more past i p lt ∙ ap (λ (x : Past). take i past ++ x ∷ []) (sym is)))

pub go_asked : (a : Actor) (t : Task) (made items : List Made) (d : Disk) (s : Stand) (e : Event) → items ≡ made → s ≡ Deciding made
    → e ≡ event.Stage (new_name a.name) (Some (written (go_of (job_of a t) (mades_as (changes_of t) items)))) false
    → Some e ≡ option_map (asked d) (next (job_of a t) (state_as (changes_of t) s))
go_asked a t made items d s e same is h =
    ap (λ (x : Event). Some x) (
    h ∙ ap (λ (n : List ℕ). event.Stage (new_name n) (Some (written (go_of (job_of a t) (mades_as (changes_of t) items)))) false) (sym (job_actor a t))
    ∙ ap (λ (ms : List Made). event.Stage (new_name (job_of a t).actor) (Some (written (go_of (job_of a t) (mades_as (changes_of t) ms)))) false) same
    )
    ∙ ap (λ (x : Stand). option_map (asked d) (next (job_of a t) (state_as (changes_of t) x))) (sym is)
