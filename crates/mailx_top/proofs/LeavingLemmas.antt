-- The end of the input, and how it ends a run.
use Rattle.std.proofs.Common.{◌≡◌, ◌⊎◌, ℕ, Bool, true, false, List, [], ◌∷◌, ◌++◌, length, refl, sym, ap, subst, inl, inr}
use Rattle.std.specs.Prelude.{◌||◌, ◌==◌, if◌then◌else◌}
use Rattle.std.specs.Option.{option_map_or}
use Rattle.std.specs.declared.result.Result.TheVariants.{Ok}
use Rattle.host_port.specs.declared.event.Event.{Event}
use Rattle.folder_change.specs.declared.change.Change.{Change}
use Rattle.session_play.specs.declared.changing.Attempt.{Attempt}
use Rattle.session_play.specs.declared.changing.Attempt.TheVariants.{Made, Misnamed}
use Rattle.session_play.specs.declared.changing.Committed.TheVariants as committed
use Rattle.session_play.specs.Acts.{AllEnds}
use Rattle.session_play.specs.Play.{Play, Ret, Next, Go, Last, Goes, bind}
use Rattle.session_play.specs.Steps.{Refused, Ended, onward, in_order}
use Rattle.session_play.proofs.ShapeLemmas.{goes-ends}
use Rattle.command_desk.specs.declared.steps.Ask as asked_of
use Rattle.command_desk.specs.declared.steps.Ask.TheVariants as asks
use Rattle.folder_commands.specs.Leaving.{said, left_reply}
use Rattle.session_state.specs.Placing.{placed_changes}
use Rattle.session_state.specs.declared.state.SessionState.{SessionState}
use Rattle.session_state.specs.declared.status.Status.{Status}
use Rattle.session_state.specs.declared.status.Status.TheVariants as status
use Rattle.session_state.specs.Saving.{is_changed, refuses, is_refused, after_commit, saved}
use Rattle.session_asks.specs.Asks.{asked}
use Rattle.mailx_session.specs.Leaving.{left_by}
use Rattle.mailx_top.specs.Meaning.{RunState, last_round}
use Rattle.session_state.specs.declared.outcome.SendOutcome.{SendOutcome}
use Rattle.session_state.specs.declared.outcome.SendOutcome.TheVariants as outcome
use Rattle.session_state.specs.Outcomes.{status_of}
use Rattle.mailx_top.specs.Leavings.{first_answer, left_changes, is_quit_refused, is_refused_before}
use Rattle.mailx_top.specs.Met.{some_act}

-- a line ends the run by what became of drafts, or since the record can't be read
abbrev pub EndsBy : SendOutcome → Status → Type 0
EndsBy o e = (e ≡ status_of o) ⊎ (e ≡ status.BadRecord)

-- the ends of a session by its last quit and its drafts: it is refused, or done, which stands for one that wasn't sent and for a record that can't
-- be read too
abbrev pub end_at : Bool → Status
end_at refused = if refused then status.Refused else status.Done

-- once the folder is open a run ends in one of four ways, of which three count as one
abbrev pub opened_end : Status → Status
opened_end status.BadRecord = status.Done
opened_end (status.NotSent n) = status.Done
opened_end e = e

-- a run that ends by what became of drafts, and one that ends for its record
pub outcome-end : (o : SendOutcome) → opened_end (status_of o) ≡ end_at (is_refused_before o (status_of o))
outcome-end outcome.Fine = refl
outcome-end (outcome.NotSent n) = refl
outcome-end outcome.Refused = refl
outcome-end outcome.Unrecorded = refl

pub record-end : (o : SendOutcome) → status.Done ≡ end_at (is_refused_before o status.BadRecord)
record-end outcome.Fine = refl
record-end (outcome.NotSent n) = refl
record-end outcome.Refused = refl
record-end outcome.Unrecorded = refl

-- a quit that was refused or not ends the run so
abbrev pub EndsByQuit : SendOutcome → Bool → Status → Type 0
EndsByQuit o true e = e ≡ status.Refused
EndsByQuit o false e = EndsBy o e

pub quit-end : (o : SendOutcome) (b : Bool) (e : Status) → EndsByQuit o b e → opened_end e ≡ end_at (b || is_refused_before o e)
quit-end o true e is = ap opened_end is
quit-end o false e (inl is) = subst (λ (e : Status). opened_end e ≡ end_at (is_refused_before o e)) (sym is) (outcome-end o)
quit-end o false e (inr is) = subst (λ (e : Status). opened_end e ≡ end_at (is_refused_before o e)) (sym is) (record-end o)

-- the round ends the run so
abbrev EndsAt : SendOutcome → Bool → Next RunState Status → Type 0
EndsAt o b (Go y) = ⊥
EndsAt o b (Last r) = EndsByQuit o b r

abbrev ended : Status → Play (Next RunState Status)
ended e = Ret (Last e)

-- what follows the commit of a quit
abbrev after_change : SessionState → List Change → List asked_of.Ask → Attempt → Play (Next RunState Status)
after_change s changes rest a = bind (bind (onward (λ (t : SessionState). in_order asked t rest) (after_commit s changes a)) left_by) ended

-- a quit of these changes
abbrev quit_of : SessionState → List Change → List asked_of.Ask → Play (Next RunState Status)
quit_of s changes rest = bind (bind (bind (saved s changes) (onward (λ (t : SessionState). in_order asked t rest))) left_by) ended

-- once it was committed the run is done
done-ends : (b : Bool) (s : SessionState) (text : List ℕ) → AllEnds (EndsAt s.outcome false) (bind (bind (in_order asked s ((if b then [] else asks.Say text ∷ []) ++ asks.Exit ∷ [])) left_by) ended)
done-ends true s text = inl refl
done-ends false s text = λ u. inl refl

large-ends : (b : Bool) (line : List ℕ) (s : SessionState) (rest : List asked_of.Ask)
    → AllEnds (EndsAt s.outcome b) (bind (bind (onward (λ (t : SessionState). in_order asked t rest) (if b then Refused line else Ended status.BadRecord)) left_by) ended)
large-ends true line s rest = λ u. refl
large-ends false line s rest = inr refl

answered-ends : (s : SessionState) (changes : List Change) (text : List ℕ) (a : Attempt)
    → AllEnds (EndsAt s.outcome (refuses (placed_changes s.here changes) a)) (after_change s changes (said text ++ asks.Exit ∷ []) a)
answered-ends s changes text (Made committed.Done) = done-ends (length text == 0) s text
answered-ends s changes text (Made (committed.Busy name)) = λ u. refl
answered-ends s changes text (Made committed.NotARecord) = inr refl
answered-ends s changes text (Made (committed.Changed name at)) = λ u. refl
answered-ends s changes text (Made (committed.TooLarge name length)) = large-ends (is_changed (placed_changes s.here changes) name) _ s (said text ++ asks.Exit ∷ [])
answered-ends s changes text (Made (committed.TooManyNames count)) = λ u. refl
answered-ends s changes text (Misnamed name fault) = λ u. refl

quit-ends : (s : SessionState) (changes : List Change) (text : List ℕ) (es : List Event) (r : Status) (goes : Goes (quit_of s changes (said text ++ asks.Exit ∷ [])) es (Ok (Last r)))
    → EndsByQuit s.outcome (option_map_or (refuses (placed_changes s.here changes)) (first_answer (quit_of s changes (said text ++ asks.Exit ∷ [])) es (Ok (Last r)) goes) false) r
quit-ends s changes text es r (inl (a, front, rest, is, did, goes)) =
    goes-ends (EndsAt s.outcome (refuses (placed_changes s.here changes) a)) (after_change s changes (said text ++ asks.Exit ∷ []) a) rest (Last r) (answered-ends s changes text a) goes
quit-ends s changes text es r (inr (cause, other, part)) = absurd (cc other)

-- the end of a run whose last round left the folder
pub last-ends : (s : SessionState) (es : List Event) (r : Status) (goes : Goes (last_round s) es (Ok (Last r)))
    → EndsByQuit s.outcome (is_quit_refused s (first_answer (last_round s) es (Ok (Last r)) goes)) r
last-ends s es r goes = quit-ends s (left_changes s) (left_reply s.desk) es r goes

-- a quit that was refused met that in its round
or-first : (a b : Bool) → a ≡ true → (a || b) ≡ true
or-first true b is = refl
or-first false b is = absurd (cc is)

quit-meets : (s : SessionState) (changes : List Change) (text : List ℕ) (es : List Event) (r : Status) (goes : Goes (quit_of s changes (said text ++ asks.Exit ∷ [])) es (Ok (Last r)))
    → option_map_or (refuses (placed_changes s.here changes)) (first_answer (quit_of s changes (said text ++ asks.Exit ∷ [])) es (Ok (Last r)) goes) false ≡ true
    → some_act (λ act answer front. is_refused act answer) (quit_of s changes (said text ++ asks.Exit ∷ [])) es (Ok (Last r)) goes ≡ true
quit-meets s changes text es r (inl (a, front, rest, is, did, goes)) refused = or-first (refuses (placed_changes s.here changes) a) _ refused
quit-meets s changes text es r (inr (cause, other, part)) refused = absurd (cc other)

pub quit-met : (s : SessionState) (es : List Event) (r : Status) (goes : Goes (last_round s) es (Ok (Last r)))
    → is_quit_refused s (first_answer (last_round s) es (Ok (Last r)) goes) ≡ true → some_act (λ act answer front. is_refused act answer) (last_round s) es (Ok (Last r)) goes ≡ true
quit-met s es r goes = quit-meets s (left_changes s) (left_reply s.desk) es r goes
