-- What is asked for, by the kind of ask.
use Rattle.std.proofs.Common.{◌≡◌, Option, ℕ, List, [], ◌∷◌, refl, sym, ap, arith, subst, inl, append_assoc, append-nil}
use Rattle.host_port.specs.Calls.{Counts, NeverFall}
use Rattle.std.specs.Prelude.{true, false, ◌++◌, length}
use Rattle.std.specs.declared.result.Result.{Result}
use Rattle.std.specs.declared.result.Result.TheVariants.{Ok, Err}
use Rattle.session_state.specs.declared.error.RunError.{RunError}
use Rattle.session_state.specs.declared.error.RunError.TheVariants as error
use Rattle.session_state.specs.declared.answers.AskResult.{AskResult}
use Rattle.session_state.specs.declared.answers.AskResult.TheVariants as answered
use Rattle.host_port.specs.declared.event.Event.{Event}
use Rattle.session_play.specs.declared.stop.Stop.{Stop}
use Rattle.session_play.specs.Play.{Play, Ret, Ask, Say, Goes}
use Rattle.session_play.specs.Steps.{After, On, Over, Refused, Ended, onward, in_order}
use Rattle.session_play.proofs.LeadLemmas.{Leads}
use Rattle.session_play.proofs.PlayLemmas.{goes-then, goes-cut, goes-as}
use Rattle.session_state.specs.declared.state.SessionState.{SessionState}
use Rattle.session_state.specs.declared.status.Status.{Status}
use Rattle.command_desk.specs.declared.steps.Ask as asked_of
use Rattle.session_asks.specs.Running.{after_run, run_asked}
use Rattle.std.specs.declared.option.Option.TheVariants.{Some}
use Rattle.host_port.specs.declared.event.ChildAnswer.{ChildAnswer}
use Rattle.host_port.proofs.RanLemmas.{rose-back}
use Rattle.compose_tilde.specs.Answering.{said_of}
use Rattle.session_asks.specs.Asks.{asked, all_done}
use Rattle.session_state.specs.Answers.{after_asks, in_play, stop_of, LineCaused}

-- an ask, by its kind
pub asked-as : (s : SessionState) (a b : asked_of.Ask) → a ≡ b → asked s a ≡ asked s b
asked-as s a b is = ap (asked s) is

-- a command that is run, where it and its input are others' bytes
pub run-asked-as : (s : SessionState) (w v input bytes : List ℕ) (out : Result (After SessionState Status) Stop) → w ≡ v → input ≡ bytes
    → (es : List Event) → Goes (run_asked s w input) es out → Goes (run_asked s v bytes) es out
run-asked-as s w v input bytes out command same =
    let G : List ℕ → List ℕ → Type 0 = λ x y. (es : List Event) → Goes (run_asked s w input) es out → Goes (run_asked s x y) es out in
    subst (λ (y : List ℕ). G v y) same (subst (λ (x : List ℕ). G x input) command (λ es goes. goes))

-- what follows a command that was run
pub after-run : (s : SessionState) (answer : Option ChildAnswer) (child : ChildAnswer) → answer ≡ Some child → after_run s answer ≡ Ask (Say (said_of child)) (λ _. Ret (On s))
after-run s answer child is = ap (after_run s) is

-- a cause in a later call is one in the whole stretch
pub caused-later : (a b c : Counts) (r : Result AskResult RunError) → NeverFall a b → LineCaused b c r → LineCaused a c r
caused-later a b c (Ok asked) fall t = tt
caused-later a b c (Err error.Output) fall rose = rose-back a.outs b.outs c.outs fall.outs rose
caused-later a b c (Err error.Disk) fall rose = rose-back a.disks b.disks c.disks fall.disks rose
caused-later a b c (Err error.Memory) fall t = tt

-- all was done, and the command isn't over
pub done-on : (r : Result AskResult RunError) → all_done r ≡ true → r ≡ Ok answered.On
done-on (Ok answered.On) done = refl
done-on (Ok answered.Over) done = absurd (cc done)
done-on (Ok (answered.Refused line)) done = absurd (cc done)
done-on (Ok (answered.Ended e)) done = absurd (cc done)
done-on (Err e) done = absurd (cc done)

-- what is left of asks in order, where these are still to be done
abbrev pub LeftOf : SessionState → List asked_of.Ask → SessionState → List asked_of.Ask → List Event → Type 0
LeftOf first asks s rest es = Leads (in_order asked first asks) (in_order asked s rest) es

-- one of them was done
pub left-on : (first s t : SessionState) (l left rest : List asked_of.Ask) (a : asked_of.Ask) → left ≡ a ∷ rest
    → (es fs : List Event) → LeftOf first l s left es → Goes (asked s a) fs (Ok (On t)) → LeftOf first l t rest (es ++ fs)
left-on first s t l left rest a is es fs leads did gs out g =
    let here : LeftOf first l s (a ∷ rest) es = subst (λ (asks : List asked_of.Ask). LeftOf first l s asks es) is leads in
    subst (λ (all : List Event). Goes (in_order asked first l) all out) (sym (append_assoc es fs gs))
    (here (fs ++ gs) out (goes-then (asked s a) (onward (λ (u : SessionState). in_order asked u rest)) (On t) out fs gs did g))

-- all of them were
pub left-all : (first s : SessionState) (l left : List asked_of.Ask) → left ≡ [] → (es : List Event) → LeftOf first l s left es → Goes (in_order asked first l) es (Ok (On s))
left-all first s l left is es leads =
    let here : LeftOf first l s [] es = subst (λ (asks : List asked_of.Ask). LeftOf first l s asks es) is leads in
    subst (λ (all : List Event). Goes (in_order asked first l) all (Ok (On s))) (append-nil es) (here [] (Ok (On s)) (refl, inl refl))

-- what one of the asks leaves is what all of them leave, unless all was done
pub left-off : (first s t : SessionState) (r : Result AskResult RunError) (l left rest : List asked_of.Ask) (a : asked_of.Ask) → left ≡ a ∷ rest → all_done r ≡ false
    → (es fs : List Event) → LeftOf first l s left es → Goes (asked s a) fs (in_play (after_asks t) r) → Goes (in_order asked first l) (es ++ fs) (in_play (after_asks t) r)
left-off first s t r l left rest a is off es fs leads did = here fs (in_play (after_asks t) r) (go r off did)
  where
    follows : After SessionState Status → Play (After SessionState Status)
    follows = onward (λ (u : SessionState). in_order asked u rest)

    here : LeftOf first l s (a ∷ rest) es
    here = subst (λ (asks : List asked_of.Ask). LeftOf first l s asks es) is leads

    go : (r : Result AskResult RunError) → all_done r ≡ false → Goes (asked s a) fs (in_play (after_asks t) r) → Goes (in_order asked s (a ∷ rest)) fs (in_play (after_asks t) r)
    go (Ok answered.On) off did = absurd (cc off)
    go (Ok answered.Over) off did = goes-as (asked s a) follows (Over t) (Over t) fs refl did
    go (Ok (answered.Refused line)) off did = goes-as (asked s a) follows (Refused line) (Refused line) fs refl did
    go (Ok (answered.Ended e)) off did = goes-as (asked s a) follows (Ended e) (Ended e) fs refl did
    go (Err e) off did = goes-cut (asked s a) follows (stop_of e) fs did

pub nothing-left : {X : Type 0} (l : List X) → length l ≡ 0 → l ≡ []
nothing-left [] none = refl
nothing-left (x ∷ xs) none = absurd (omega arith)
