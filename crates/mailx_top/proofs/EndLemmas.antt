-- How a run ends, and the last line of one that was cut off.
use Rattle.std.proofs.Common.{◌≡◌, ℕ, Bool, true, false, List, [], ◌∷◌, ◌++◌, refl, sym, ◌∙◌, ap, subst, inl, inr, take}
use Rattle.std.specs.declared.result.Result.{Result}
use Rattle.std.specs.declared.result.Result.TheVariants.{Ok, Err}
use Rattle.host_port.specs.declared.event.Event.{Event}
use Rattle.host_port.specs.declared.event.Event.TheVariants as event
use Rattle.host_port.specs.declared.host.OutFault.{OutFault}
use Rattle.host_port.specs.Disk.{Disk}
use Rattle.host_port.specs.Calls.{Said}
use Rattle.host_port.specs.Ran.{Agrees}
use Rattle.host_port.specs.Own.{own, OnlyLooks}
use Rattle.host_port.specs.Calls.{Counts, NeverFall}
use Rattle.host_port.proofs.RanLemmas.{rose-back}
use Rattle.session_play.specs.declared.stop.Stop.{Stop}
use Rattle.session_play.specs.declared.stop.Stop.TheVariants as stop
use Rattle.std.specs.Prelude.{if◌then◌else◌, codes, IfErr, IfOk, IfSome, IfNone, IsSome}
use Rattle.session_play.specs.Play.{Caused, Play, Ret, Ask, Goes, Next, Last, Loop, again, last, cut}
use Rattle.mailx_vars.specs.declared.environment.Places.{Places}
use Rattle.mailx_vars.specs.Environment.{Pairs, knows_user, places_in, places_of}
use Rattle.mailx_top.specs.declared.environment.Environment.{Environment}
use Rattle.mailx_top.specs.Meaning.{actor_in, actor_said, first_of, pairs_for, next_state, after_recovery}
use Rattle.session_state.specs.declared.state.SessionState.{SessionState}
use Rattle.session_play.specs.Input.{Input}
use Rattle.session_play.specs.Cuts.{IsLoadCut}
use Rattle.session_state.specs.declared.error.RunError.{RunError}
use Rattle.session_state.specs.declared.error.RunError.TheVariants as error
use Rattle.session_state.specs.declared.status.Status.{Status}
use Rattle.session_state.specs.declared.status.Status.TheVariants as status
use Rattle.session_state.specs.Answers.{LineCaused, stop_of}
use Rattle.session_state.specs.Statuses.{IsEnd, IsLineEnd}
use Rattle.std.specs.declared.option.Option.{Option}
use Rattle.std.specs.declared.option.Option.TheVariants.{Some, None}
use Rattle.mailx_top.specs.Statuses.{status_at_stop, line_at_stop}
use Rattle.mailx_top.specs.Usage.{IsSayCut, IsStartCut, IsStartEnd, EndsOr, EndsOrOpens, StopsAtStart, EndsUnopened, EndsAsNamed, IsBadName, IsOrCut, IsUnopened}
use Rattle.mailx_top.specs.Words.{Start, options_of}
use Rattle.mailx_top.specs.Sending.{mode_with}
use Rattle.session_asks.specs.Openings.{first_state}
use Rattle.mailx_top.specs.Runs.{AsFar, SaysLast, SaysAtCut, SaysAtEnd, SaysUnlessIdle}

pub said-far : (r : Result Unit OutFault) (bytes line : List ℕ) → bytes ≡ line → (d : Disk) (e : Event) → Said r bytes d e → Agrees d e × AsFar line (own (e ∷ []))
said-far (Ok u) bytes line same d e is =
    let P : Event → Type 0 = λ e. Agrees d e × AsFar line (own (e ∷ [])) in
    subst P (sym is) (tt, inl (ap (λ (b : List ℕ). event.Out b false ∷ []) same))
said-far (Err f) bytes line same d e is =
    let P : Event → Type 0 = λ e. Agrees d e × AsFar line (own (e ∷ [])) in
    subst P (sym is.1) (tt, inr (is.0, ap (λ (b : List ℕ). event.Out (take is.0 b) true ∷ []) same))

pub says-read : (read : Bool) (bytes : List ℕ) (es : List Event) → read ≡ true → AsFar bytes es → SaysLast read bytes es
says-read true bytes es is far = far
says-read false bytes es is far = absurd (cc is)

-- the line of a cut changes no disk
pub last-looks : (read : Bool) (bytes : List ℕ) (es : List Event) → SaysLast read bytes es → OnlyLooks es
last-looks false bytes es is = subst OnlyLooks (sym is) tt
last-looks true bytes es (inl is) = subst OnlyLooks (sym is) (refl, tt)
last-looks true bytes es (inr part) = subst OnlyLooks (sym part.1) (refl, tt)

-- so does the line of an end
pub end-looks : (read : Bool) (line : Option (List ℕ)) (es : List Event) → SaysAtEnd read line es → OnlyLooks es
end-looks read None es is = subst OnlyLooks (sym is) tt
end-looks read (Some line) es is = last-looks read line es is

-- so does what is said at a cut
pub cut-looks : (may : Bool) (cause : Stop) (es : List Event) → SaysAtCut may cause es → OnlyLooks es
cut-looks may stop.Memory es (inl said) = last-looks may (line_at_stop stop.Memory) es said
cut-looks may stop.Memory es (inr none) = subst OnlyLooks (sym none) tt
cut-looks may stop.Input es said = last-looks may (line_at_stop stop.Input) es said
cut-looks may stop.Output es said = last-looks may (line_at_stop stop.Output) es said
cut-looks may stop.Disk es said = last-looks may (line_at_stop stop.Disk) es said
cut-looks may stop.TooMuch es said = last-looks may (line_at_stop stop.TooMuch) es said

-- the line of a cut is said
pub cut-said : (may : Bool) (cause : Stop) (es : List Event) → SaysLast may (line_at_stop cause) es → SaysAtCut may cause es
cut-said may stop.Memory es said = inl said
cut-said may stop.Input es said = said
cut-said may stop.Output es said = said
cut-said may stop.Disk es said = said
cut-said may stop.TooMuch es said = said

far-some : {A : Type 0} (bytes : List ℕ) (es : List Event) → AsFar bytes es → es ≡ [] → A
far-some bytes es (inl is) none = absurd (cc (is, none))
far-some bytes es (inr part) none = absurd (let is = part.1 in cc (is, none))

-- so it isn't left out
pub cut-unless-idle : (may : Bool) (bytes : List ℕ) (cause : Stop) (front behind : List Event) → SaysLast may bytes behind → SaysUnlessIdle may (Err cause) front behind
cut-unless-idle true bytes cause front behind said = λ is none. far-some bytes behind said none
cut-unless-idle false bytes cause front behind said = λ is none. absurd (cc is)

-- if memory runs out at an end, the play is cut off there
goes-short : {R : Type 0} (p : Play R) (es : List Event) (r : R) → Goes p es (Ok r) → Goes p es (Err stop.Memory)
goes-short (Ret q) es r (none, end) = (none, inr refl)
goes-short (Ask act go) es r (inl (answer, front, rest, is, did, goes)) = inl (answer, front, rest, is, did, goes-short (go answer) rest r goes)
goes-short (Ask act go) es r (inr (cause, other, part)) = absurd (cc other)

pub loop-short : {X R : Type 0} (round : X → Play (Next X R)) (e : R) {x : X} {es : List Event} {out : Result R Stop} → out ≡ Ok e → Loop round x es out → Loop round x es (Err stop.Memory)
loop-short round e is (again front rest same goes more) = again front rest same goes (loop-short round e is more)
loop-short round e {x = x} {es = es} is (last {r = r} goes) = cut (goes-short (round x) es (Last r) goes)
loop-short round e is (cut goes) = absurd (cc is)

-- if memory runs out at an end, it is named so too
pub named-short : (env : Environment) (start : Option Start) (s : Status) → EndsAsNamed env start (Ok s) → EndsAsNamed env start (Err stop.Memory)
named-short env None s named = tt
named-short env (Some start) s named = (tt, λ bad. tt)

-- the actor is the same whatever user's mailbox is opened
pub actor-same : (env : Environment) (start : Start) → (first_of env (Some start)).actor ≡ actor_in env
actor-same env start = go (options_of start).user
  where
    go : (user : Option (List ℕ)) → (first_state env.folder (pairs_for user env.pairs) (mode_with start) env.terminal (options_of start).named env.token).actor ≡ actor_in env
    go None = refl
    go (Some user) = refl

-- so is what is known of home folder and user
pub user-known : (user : List ℕ) (pairs : Pairs) → knows_user (pairs_for (Some user) pairs) ≡ knows_user pairs
user-known user pairs = refl

-- the actor of a run whose places are read, as it is said
pub actor-read : (env : Environment) (places : Places) → Some places ≡ places_of env.pairs → places.home ++ codes "/.mailx" ≡ actor_said env
actor-read env places is = ap (λ (p : Places). p.home ++ codes "/.mailx") (go (knows_user env.pairs) is)
  where
    go : (b : Bool) → Some places ≡ (if b then Some (places_in env.pairs) else None) → places ≡ places_in env.pairs
    go true same = cc same
    go false same = absurd (cc same)

-- an error has the cause of its cut
pub caused-line : (T U : Type 0) (old new : Counts) (e : RunError) → LineCaused {T = T} old new (Err e) → Caused {T = U} old new (Err (stop_of e))
caused-line T U old new error.Output rose = rose
caused-line T U old new error.Disk rose = rose
caused-line T U old new error.Memory c = tt

-- the cause of a later cut is one since before
pub caused-since : {T : Type 0} (a b c : Counts) (r : Result T Stop) → NeverFall a b → Caused b c r → Caused a c r
caused-since a b c (Ok t) fall u = tt
caused-since a b c (Err stop.Input) fall rose = rose-back a.ins b.ins c.ins fall.ins rose
caused-since a b c (Err stop.Output) fall rose = rose-back a.outs b.outs c.outs fall.outs rose
caused-since a b c (Err stop.Disk) fall rose = rose-back a.disks b.disks c.disks fall.disks rose
caused-since a b c (Err stop.TooMuch) fall u = tt
caused-since a b c (Err stop.Memory) fall u = tt

-- an environment, where any will do
pub any-env : Environment
any-env = record { pairs = []; folder = []; terminal = false; token = 0 }

-- where a run has ended nothing is said of its going on
pub ended-whatever : (r : Result (Option Status) Stop) (P : Type 0) → IfOk r IsSome → IfOk r (λ e. IfNone e P)
ended-whatever (Ok (Some e)) P some = tt
ended-whatever (Ok None) P never = absurd (cc never)
ended-whatever (Err cause) P some = tt

-- a line ends a run so that isn't cut off
pub line-ends : (r : Result (Option Status) Stop) → IfOk r (λ e. IfSome e IsLineEnd) → IfOk r (λ e. IfSome e IsEnd)
line-ends (Ok (Some e)) ends = go e ends
  where
    go : (e : Status) → IsLineEnd e → IsEnd e
    go status.Done t = tt
    go status.BadRecord t = tt
    go (status.NotSent n) t = tt
    go status.Refused t = tt
    go status.NoMail never = absurd never
    go status.Usage never = absurd never
    go status.InputFault never = absurd never
    go status.OutputFault never = absurd never
    go status.DiskFault never = absurd never
    go status.Memory never = absurd never
    go status.InputLimit never = absurd never
    go status.NoFolder never = absurd never
line-ends (Ok None) ends = tt
line-ends (Err cause) ends = tt

-- the status of a fault
abbrev pub IsFault : Status → Type 0
IsFault status.InputFault = Unit {0}
IsFault status.OutputFault = Unit {0}
IsFault status.DiskFault = Unit {0}
IsFault s = ⊥

-- a run that isn't cut off ends with no fault
pub end-no-fault : {A : Type 0} (env : Environment) (start : Option Start) (s f : Status) → EndsAsNamed env start (Ok s) → IsFault f → s ≡ f → A
end-no-fault env None s f named fault is = absurd (subst IsFault (sym is ∙ named) fault)
end-no-fault {A = A} env (Some start) s f named fault is = go f (subst IsEnd is named.0) fault
  where
    go : (f : Status) → IsEnd f → IsFault f → A
    go status.Done e never = absurd never
    go (status.NotSent n) e never = absurd never
    go status.NoMail e never = absurd never
    go status.Refused e never = absurd never
    go status.NoFolder e never = absurd never
    go status.BadRecord e never = absurd never
    go status.Usage never f = absurd never
    go status.InputFault never f = absurd never
    go status.OutputFault never f = absurd never
    go status.DiskFault never f = absurd never
    go status.Memory never f = absurd never
    go status.InputLimit never f = absurd never

pub only-usage : (env : Environment) (start : Option Start) (s : Status) → EndsAsNamed env start (Ok s) → s ≡ status.Usage → start ≡ None
only-usage env None s named is = refl
only-usage env (Some start) s named is = absurd (subst IsEnd is named.0)

or-same : (wanted s : Status) → s ≡ wanted → IsOrCut wanted s
or-same wanted status.Done is = is
or-same wanted (status.NotSent n) is = is
or-same wanted status.NoMail is = is
or-same wanted status.Usage is = is
or-same wanted status.InputFault is = is
or-same wanted status.OutputFault is = tt
or-same wanted status.DiskFault is = is
or-same wanted status.Refused is = is
or-same wanted status.Memory is = tt
or-same wanted status.InputLimit is = is
or-same wanted status.NoFolder is = is
or-same wanted status.BadRecord is = is

or-cut : (wanted : Status) (cause : Stop) → IsSayCut cause → IsOrCut wanted (status_at_stop cause)
or-cut wanted stop.Output c = tt
or-cut wanted stop.Memory c = tt
or-cut wanted stop.Input never = absurd never
or-cut wanted stop.Disk never = absurd never
or-cut wanted stop.TooMuch never = absurd never

pub usage-ended : (env : Environment) (start : Option Start) (s : Status) → EndsAsNamed env start (Ok s) → start ≡ None → IsOrCut status.Usage s
usage-ended env None s named none = or-same status.Usage s named
usage-ended env (Some start) s named none = absurd (cc none)

pub usage-cut : (env : Environment) (start : Option Start) (cause : Stop) → EndsAsNamed env start (Err cause) → start ≡ None → IsOrCut status.Usage (status_at_stop cause)
usage-cut env None cause named none = or-cut status.Usage cause named
usage-cut env (Some start) cause named none = absurd (cc none)

-- a run that opened no folder
unopened-end : (s : Status) → EndsUnopened (Ok s) → IsUnopened s
unopened-end status.NoFolder u = tt
unopened-end status.Refused u = tt
unopened-end status.BadRecord u = tt
unopened-end status.Done never = absurd never
unopened-end (status.NotSent n) never = absurd never
unopened-end status.NoMail never = absurd never
unopened-end status.Usage never = absurd never
unopened-end status.InputFault never = absurd never
unopened-end status.OutputFault never = absurd never
unopened-end status.DiskFault never = absurd never
unopened-end status.Memory never = absurd never
unopened-end status.InputLimit never = absurd never

unopened-cut : (cause : Stop) → IsStartCut cause → IsUnopened (status_at_stop cause)
unopened-cut stop.Output c = tt
unopened-cut stop.Disk c = tt
unopened-cut stop.Memory c = tt
unopened-cut stop.Input never = absurd never
unopened-cut stop.TooMuch never = absurd never

pub bad-ended : (env : Environment) (start : Option Start) (s : Status) → EndsAsNamed env start (Ok s) → IsBadName env start → IsUnopened s
bad-ended env None s named never = absurd never
bad-ended env (Some start) s named bad = unopened-end s (named.1 bad)

pub bad-cut : (env : Environment) (start : Option Start) (cause : Stop) → EndsAsNamed env start (Err cause) → IsBadName env start → IsUnopened (status_at_stop cause)
bad-cut env None cause named never = absurd never
bad-cut env (Some start) cause named bad = unopened-cut cause (named.1 bad)

pub say-start : (cause : Stop) → IsSayCut cause → IsStartCut cause
say-start stop.Output c = tt
say-start stop.Memory c = tt
say-start stop.Input never = absurd never
say-start stop.Disk never = absurd never
say-start stop.TooMuch never = absurd never

-- a failed output is such a cut
pub output-said : {A : Type 0} (r : Result A Stop) → IfErr r (λ cause. cause ≡ stop.Output) → IfErr r IsSayCut
output-said (Ok a) only = tt
output-said (Err cause) only = subst IsSayCut (sym only) tt

-- the opening opened none
pub opens-none : (out : Result Status Stop) → EndsOr status.NoFolder out → EndsUnopened out
opens-none (Ok s) is = subst (λ (s : Status). EndsUnopened (Ok s)) (sym is) tt
opens-none (Err cause) c = say-start cause c

-- the recovery ended the run
pub start-unopened : (s : Status) → IsStartEnd s → EndsUnopened (Ok s)
start-unopened status.Refused e = tt
start-unopened status.BadRecord e = tt
start-unopened status.Done never = absurd never
start-unopened (status.NotSent n) never = absurd never
start-unopened status.NoFolder never = absurd never
start-unopened status.NoMail never = absurd never
start-unopened status.Usage never = absurd never
start-unopened status.InputFault never = absurd never
start-unopened status.OutputFault never = absurd never
start-unopened status.DiskFault never = absurd never
start-unopened status.Memory never = absurd never
start-unopened status.InputLimit never = absurd never

pub start-end : (s : Status) → IsStartEnd s → IsEnd s
start-end status.Refused e = tt
start-end status.BadRecord e = tt
start-end status.Done never = absurd never
start-end (status.NotSent n) never = absurd never
start-end status.NoFolder never = absurd never
start-end status.NoMail never = absurd never
start-end status.Usage never = absurd never
start-end status.InputFault never = absurd never
start-end status.OutputFault never = absurd never
start-end status.DiskFault never = absurd never
start-end status.Memory never = absurd never
start-end status.InputLimit never = absurd never

-- a line that is said where the recovery ends the run
pub said-stops : (result : Result (Option Status) Stop) → EndsOrOpens status.Refused result → StopsAtStart result
said-stops (Ok None) never = absurd never
said-stops (Ok (Some s)) is = subst IsStartEnd (sym is) tt
said-stops (Err cause) c = say-start cause c

-- a load's cut is one of the start
pub load-stops : (cause : Stop) → IsLoadCut cause → IsStartCut cause
load-stops stop.Disk c = tt
load-stops stop.Memory c = tt
load-stops stop.Input never = absurd never
load-stops stop.Output never = absurd never
load-stops stop.TooMuch never = absurd never

-- what a line leads to after a busy right
pub said-next : (s : SessionState) (i : Input) (env : Environment) (start : Start) (result : Result (Option Status) Stop)
    → EndsOrOpens status.Refused result → next_state s i result ≡ after_recovery env start result
said-next s i env start (Ok None) never = absurd never
said-next s i env start (Ok (Some e)) is = refl
said-next s i env start (Err cause) c = refl
