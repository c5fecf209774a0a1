-- A file that is opened in place of the folder.
use Rattle.std.proofs.Common.{◌≡◌, ℕ, Bool, true, false, List, [], refl, sym, ◌∙◌, ap, subst, inl}
use Rattle.std.specs.Prelude.{if◌then◌else◌}
use Rattle.std.specs.declared.option.Option.{Option}
use Rattle.std.specs.declared.option.Option.TheVariants.{Some, None}
use Rattle.std.specs.declared.result.Result.{Result}
use Rattle.std.specs.declared.result.Result.TheVariants.{Ok, Err}
use Rattle.host_port.specs.declared.event.Event.{Event}
use Rattle.folder_change.specs.declared.change.Change.{Change}
use Rattle.mailx_vars.specs.Names.{is_short_name}
use Rattle.session_play.specs.declared.stop.Stop.{Stop}
use Rattle.session_play.specs.Play.{Goes}
use Rattle.session_play.specs.Steps.{After, Over, Refused, Ended}
use Rattle.command_desk.specs.declared.desk.Desk.{Desk}
use Rattle.command_desk.specs.Answers.{OrFault, Means}
use Rattle.command_desk.specs.Faults.{bad_name}
use Rattle.command_desk.specs.declared.steps.Refusal.{Refusal}
use Rattle.command_desk.specs.declared.steps.Refusal.TheVariants as refusal
use Rattle.session_play.proofs.PlayLemmas.{at-memory, goes-as, goes-cut}
use Rattle.session_state.specs.declared.answers.AskResult.{AskResult}
use Rattle.session_state.specs.declared.answers.AskResult.TheVariants as answered
use Rattle.session_state.specs.declared.error.RunError.{RunError}
use Rattle.session_state.specs.Answers.{after_asks, in_play, stop_of}
use Rattle.session_asks.specs.Asks.{all_done, IsRefusedSo}
use Rattle.session_asks.specs.declared.opening.Opening.{Opening}
use Rattle.session_state.specs.declared.state.SessionState.{SessionState}
use Rattle.session_state.specs.declared.status.Status.{Status}
use Rattle.session_state.specs.Placing.{placed}
use Rattle.session_state.specs.Saving.{names_fault, saved}
use Rattle.session_asks.specs.Openings.{opened, IsOpening}
use Rattle.session_asks.specs.Switching.{open_fault, switched, laid_as, announced, switching, switched_to}
use Rattle.session_asks.proofs.OpeningLemmas.{laid-is}

-- where nothing stands in the way of a load the name isn't at fault
pub open-fault-none : (s : SessionState) (name : List ℕ) (changes : List Change) → open_fault s name changes ≡ None → is_short_name (placed s.here name) ≡ true
open-fault-none s name changes plain = go (is_short_name (placed s.here name)) (names_fault s changes) plain
  where
    go : (short : Bool) (fault : Option (List ℕ)) → (if short then fault else Some (bad_name name)) ≡ None → short ≡ true
    go true fault h = refl
    go false fault h = absurd (cc h)

-- where not all of the changes were committed, what that left stays
pub announced-off : (s : SessionState) (changes : List Change) (reply : List ℕ) (desk : Desk) (r : Result AskResult RunError) → all_done r ≡ false
    → (es : List Event) → Goes (saved s changes) es (in_play (after_asks s) r) → Goes (switching s changes reply desk) es (in_play (after_asks s) r)
announced-off s changes reply desk (Ok answered.On) off es went = absurd (cc off)
announced-off s changes reply desk (Ok answered.Over) off es went = goes-as (saved s changes) (announced reply desk) (Over s) (Over s) es refl went
announced-off s changes reply desk (Ok (answered.Refused line)) off es went = goes-as (saved s changes) (announced reply desk) (Refused line) (Refused line) es refl went
announced-off s changes reply desk (Ok (answered.Ended e)) off es went = goes-as (saved s changes) (announced reply desk) (Ended e) (Ended e) es refl went
announced-off s changes reply desk (Err e) off es went = goes-cut (saved s changes) (announced reply desk) (stop_of e) es went

-- the desk with what is to be put on it is the one that is opened
laid-switched : (s : SessionState) (name bytes : List ℕ) (o : Opening) (previous : List ℕ) (is : IsOpening s name bytes o) → previous ≡ s.desk.folder.name
    → laid_as s.desk o previous ≡ switched s name bytes is.rows
laid-switched s name bytes o previous is same =
    ap (λ (d : Desk). record d { previous = previous; gathered = [] }) (laid-is s name bytes o is)
    ∙ ap (λ (p : List ℕ). record (opened s name bytes is.rows) { previous = p; gathered = [] }) same

-- a load that refuses the command
pub refused-switched : (s : SessionState) (name : List ℕ) (changes : List Change) (reply : List ℕ) (f : OrFault (List ℕ)) (r : Refusal) (result : Result AskResult RunError) (t : SessionState)
    → Means {A = List ℕ} (Err r) f → IsRefusedSo r result → Goes (switched_to s name changes reply f) [] (in_play (after_asks t) result)
refused-switched s name changes reply f (refusal.Fault line) result t is so =
    let G : OrFault (List ℕ) → Type 0 = λ h. Goes (switched_to s name changes reply h) [] (in_play (after_asks t) result) in
    let K : Result AskResult RunError → Type 0 = λ h. Goes (switched_to s name changes reply (Err line)) [] (in_play (after_asks t) h) in
    subst G (sym is) (subst K (sym so) (refl, inl refl))
refused-switched s name changes reply f refusal.Memory result t is so =
    let K : Result AskResult RunError → Type 0 = λ h. Goes (switched_to s name changes reply f) [] (in_play (after_asks t) h) in
    subst K (sym so) (at-memory (switched_to s name changes reply f))

-- once the rows are known it goes on with that desk
pub know-switched : (s : SessionState) (name bytes : List ℕ) (changes : List Change) (reply : List ℕ) (o : Opening) (previous : List ℕ) (out : Result (After SessionState Status) Stop)
    → IsOpening s name bytes o → previous ≡ s.desk.folder.name
    → (es : List Event) → Goes (switching s changes reply (laid_as s.desk o previous)) es out → Goes (switched_to s name changes reply (Ok bytes)) es out
know-switched s name bytes changes reply o previous out is same es went =
    let G : Desk → Type 0 = λ d. Goes (switching s changes reply d) es out in
    inl (is.rows, [], es, refl, (refl, is.are), subst G (laid-switched s name bytes o previous is same) went)
