-- A play is carried out call by call.
use Rattle.std.proofs.Common.{◌≡◌, ◌<◌, ◌+◌, ℕ, List, [], ◌++◌, refl, sym, subst, inl, append_assoc, arith}
use Rattle.std.proofs.lemmas.List.{append-nil}
use Rattle.std.specs.declared.result.Result.{Result}
use Rattle.std.specs.declared.result.Result.TheVariants.{Ok, Err}
use Rattle.host_port.specs.declared.event.Event.{Event}
use Rattle.host_port.specs.Calls.{Counts, World, NeverFall}
use Rattle.host_port.specs.Ran.{Ran}
use Rattle.host_port.proofs.RanLemmas.{Ran-none, Ran-then, Ran-map}
use Rattle.session_play.specs.declared.stop.Stop.{Stop}
use Rattle.session_play.specs.declared.stop.Stop.TheVariants as stop
use Rattle.session_play.specs.Play.{Play, Ret, Next, Goes, bind}
use Rattle.session_play.proofs.PlayLemmas.{at-memory, goes-then, goes-cut, goes-as}
use Rattle.sender_port.specs.declared.error.SendError.{SendError}
use Rattle.sender_port.specs.declared.error.SendError.TheVariants as send
use Rattle.sender_port.specs.Sending.{as_played}
use Rattle.session_state.specs.declared.answers.AskResult.{AskResult}
use Rattle.session_state.specs.declared.answers.AskResult.TheVariants as asked
use Rattle.session_state.specs.declared.error.RunError.{RunError}
use Rattle.session_state.specs.declared.error.RunError.TheVariants as error
use Rattle.session_state.specs.declared.flow.Flow.{Flow}
use Rattle.session_state.specs.declared.state.SessionState.{SessionState}
use Rattle.session_state.specs.declared.status.Status.{Status}
use Rattle.session_state.specs.Answers.{in_play, next_of, IsNoDiskFault, LineCaused}
use Rattle.session_state.specs.States.{IsState}
use Rattle.activities.specs.declared.call.Answer.{Answer}
use Rattle.activities.specs.declared.call.Answer.TheVariants as answer
use Rattle.activities.specs.declared.call.Call.{Call}
use Rattle.activities.specs.declared.call.Call.TheVariants as call
use Rattle.activities.specs.declared.call.Turn.{Turn}
use Rattle.activities.specs.declared.call.Turn.TheVariants as turn
use Rattle.activities.specs.Acting.{Reply, Sent, asked_of, reply_of, left_of, most_of, sent_as, IsCutOf, IsReady, Leads}

-- a play whose answer is only handed on as a reply
pub replied : {A : Type 0} (p : Play A) (reply : A → Reply) (a : A) (es : List Event) → Goes p es (Ok a) → Goes (bind p (λ x. Ret (reply x))) es (Ok (reply a))
replied p reply a es goes = goes-as p (λ x. Ret (reply x)) a (reply a) es refl goes

pub cut-off : {A : Type 0} (p : Play A) (reply : A → Reply) (cause : Stop) (es : List Event) → Goes p es (Err cause) → Goes (bind p (λ x. Ret (reply x))) es (Err cause)
cut-off p reply cause es goes = goes-cut p (λ x. Ret (reply x)) cause es goes

-- what the sender is answered is a reply, unless memory ran out
pub sent-on : (s : SessionState) (p : Play (Result (List ℕ) SendError)) (r : Result (List ℕ) SendError) (es : List Event)
    → Goes p es (as_played r) → Goes (bind p (λ x. Ret (Sent x))) es (in_play (reply_of s) (sent_as r))
sent-on s p (Ok output) es goes = replied p Sent (Ok output) es goes
sent-on s p (Err send.Memory) es goes = cut-off p Sent stop.Memory es goes
sent-on s p (Err send.NoRecipients) es goes = replied p Sent (Err send.NoRecipients) es goes
sent-on s p (Err (send.NotAnAddress name)) es goes = replied p Sent (Err (send.NotAnAddress name)) es goes
sent-on s p (Err (send.Refused status output)) es goes = replied p Sent (Err (send.Refused status output)) es goes
sent-on s p (Err send.Child) es goes = replied p Sent (Err send.Child) es goes

pub sent-uncaused : (old new : Counts) (r : Result (List ℕ) SendError) → LineCaused old new (sent_as r)
sent-uncaused old new (Ok output) = tt
sent-uncaused old new (Err send.Memory) = tt
sent-uncaused old new (Err send.NoRecipients) = tt
sent-uncaused old new (Err (send.NotAnAddress name)) = tt
sent-uncaused old new (Err (send.Refused status output)) = tt
sent-uncaused old new (Err send.Child) = tt

-- a fault that came late came
pub caused-later : {T : Type 0} (a b c : Counts) (r : Result T RunError) → NeverFall a b → LineCaused b c r → LineCaused a c r
caused-later a b c (Ok t) never cause = tt
caused-later a b c (Err error.Output) never cause = let l = never.outs in omega (arith, l, cause)
caused-later a b c (Err error.Disk) never cause = let l = never.disks in omega (arith, l, cause)
caused-later a b c (Err error.Memory) never cause = tt

-- once these events came, this is left of the play
abbrev pub Reaches : Play (Next SessionState Status) → Play (Next SessionState Status) → List Event → Type 0
Reaches p q es = (fs : List Event) (out : Result (Next SessionState Status) Stop) → Goes q fs out → Goes p (es ++ fs) out

-- what was called so far, and then what is left from a turn on, is the play; the turn can be carried out
pub record Driving {H : Type 0} (w : World H) (old now : H) (p : Play (Next SessionState Status)) (follows : Reply → Play (Next SessionState Status))
    (takes : Answer → Type 0) (ends : Flow → Type 0) (s : SessionState) (t : Turn) (Changed : Type 0) : Type 0 where
  pub ran : Ran w old now (Reaches p (left_of follows s t))
  pub ready : IsReady takes ends t
  pub state : IsState s
  pub changed : Changed

pub driving-start : {H : Type 0} {w : World H} {at : H} {Changed : Type 0} (follows : Reply → Play (Next SessionState Status)) (takes : Answer → Type 0)
    (ends : Flow → Type 0) (s : SessionState) (t : Turn) → IsReady takes ends t → IsState s → Changed → Driving w at at (left_of follows s t) follows takes ends s t Changed
driving-start follows takes ends s t ready state changed = record {
  ran = Ran-none (λ fs out goes. goes);
  ready = ready;
  state = state;
  changed = changed;
}

-- what a turn leads to
pub left-leads : (n m : ℕ) (p : Play (Next SessionState Status)) (f : Reply → Play (Next SessionState Status)) (T : Answer → Type 0) (E : Flow → Type 0) (s : SessionState)
    (t : Turn) → Leads n p f T E m s t → left_of f s t ≡ p
left-leads n m p f T E s (turn.Ask c) leads = leads.0
left-leads n m p f T E s (turn.End flow) leads = leads.0

pub ready-leads : (n m : ℕ) (p : Play (Next SessionState Status)) (f : Reply → Play (Next SessionState Status)) (T : Answer → Type 0) (E : Flow → Type 0) (s : SessionState)
    (t : Turn) → Leads n p f T E m s t → IsReady T E t
ready-leads n m p f T E s (turn.Ask c) (left, allowed, takes, fewer) = (allowed, takes)
ready-leads n m p f T E s (turn.End flow) leads = leads.1

pub fewer-leads : (n m : ℕ) (p : Play (Next SessionState Status)) (f : Reply → Play (Next SessionState Status)) (T : Answer → Type 0) (E : Flow → Type 0) (s : SessionState)
    (t : Turn) → Leads n p f T E m s t → most_of m t < n + 1
fewer-leads n m p f T E s (turn.Ask c) (left, allowed, takes, fewer) = omega (arith, fewer)
fewer-leads n m p f T E s (turn.End flow) leads = omega arith

-- a call was answered, and the answer taken
pub driving-more : {H : Type 0} {w : World H} {old mid new : H} {Changed More : Type 0} (p : Play (Next SessionState Status)) (f g : Reply → Play (Next SessionState Status))
    (T U : Answer → Type 0) (E : Flow → Type 0) (s u : SessionState) (r : Turn) (c : Call) (a : Answer) (t : Turn) (n m : ℕ)
    → r ≡ turn.Ask c → Driving w old mid p f T E s r Changed → Ran w mid new (λ es. Goes (asked_of s c) es (Ok (reply_of s a)))
    → Leads n (f (reply_of s a)) g U E m u t → IsState u → More → Driving w old new p g U E u t More
driving-more {w = w} {old = old} {mid = mid} p f g T U E s u r c a t n m is d ran leads state more = record {
  ran = Ran-then (λ front rest reaches goes fs out left.
      let G : List Event → Type 0 = λ es. Goes p es out in
      let L : Play (Next SessionState Status) → Type 0 = λ q. Goes q fs out in
      subst G (sym (append_assoc front rest fs))
      (reaches (rest ++ fs) out (goes-then (asked_of s c) f (reply_of s a) out rest fs goes (subst L (left-leads n m (f (reply_of s a)) g U E u t leads) left))))
      (let L : Turn → Type 0 = λ r. Ran w old mid (Reaches p (left_of f s r)) in subst L is d.ran) ran;
  ready = ready-leads n m (f (reply_of s a)) g U E u t leads;
  state = state;
  changed = more;
}

pub driven : {H : Type 0} {w : World H} {old now : H} {Changed : Type 0} (p : Play (Next SessionState Status)) (f : Reply → Play (Next SessionState Status)) (T : Answer → Type 0)
    (E : Flow → Type 0) (s : SessionState) (t : Turn) (flow : Flow) → t ≡ turn.End flow → Driving w old now p f T E s t Changed → Ran w old now (λ es. Goes p es (Ok (next_of s flow)))
driven {w = w} {old = old} {now = now} p f T E s t flow is d =
    Ran-map (λ es reaches. let G : List Event → Type 0 = λ es. Goes p es (Ok (next_of s flow)) in subst G (append-nil es) (reaches [] (Ok (next_of s flow)) (refl, inl refl)))
    (let L : Turn → Type 0 = λ r. Ran w old now (Reaches p (left_of f s r)) in subst L is d.ran)

-- a call was cut off
pub driven-cut : {H : Type 0} {w : World H} {old mid new : H} {Changed : Type 0} (p : Play (Next SessionState Status)) (f : Reply → Play (Next SessionState Status)) (T : Answer → Type 0)
    (E : Flow → Type 0) (s : SessionState) (t : Turn) (c : Call) (cause : Stop) → t ≡ turn.Ask c → Driving w old mid p f T E s t Changed
    → Ran w mid new (λ es. Goes (asked_of s c) es (Err cause)) → Ran w old new (λ es. Goes p es (Err cause))
driven-cut {w = w} {old = old} {mid = mid} p f T E s t c cause is d ran =
    Ran-then (λ front rest reaches goes. reaches rest (Err cause) (goes-cut (asked_of s c) f cause rest goes))
    (let L : Turn → Type 0 = λ r. Ran w old mid (Reaches p (left_of f s r)) in subst L is d.ran) ran

-- memory ran out as the answer was taken
pub driven-short : {H : Type 0} {w : World H} {old mid new : H} {Changed : Type 0} (p : Play (Next SessionState Status)) (f : Reply → Play (Next SessionState Status)) (T : Answer → Type 0)
    (E : Flow → Type 0) (s : SessionState) (t : Turn) (c : Call) (a : Answer) → t ≡ turn.Ask c → Driving w old mid p f T E s t Changed
    → Ran w mid new (λ es. Goes (asked_of s c) es (Ok (reply_of s a))) → Ran w old new (λ es. Goes p es (Err stop.Memory))
driven-short {w = w} {old = old} {mid = mid} p f T E s t c a is d ran =
    Ran-then (λ front rest reaches goes.
    let G : List Event → Type 0 = λ es. Goes (bind (asked_of s c) f) es (Err stop.Memory) in
    reaches rest (Err stop.Memory) (subst G (append-nil rest) (goes-then (asked_of s c) f (reply_of s a) (Err stop.Memory) rest [] goes (at-memory (f (reply_of s a))))))
    (let L : Turn → Type 0 = λ r. Ran w old mid (Reaches p (left_of f s r)) in subst L is d.ran) ran

-- only a commit is cut off by a fault of the disk, and what a commit leaves is never taken
pub spared : (T : Answer → Type 0) (E : Flow → Type 0) (t : Turn) (c : Call) (e : RunError) → t ≡ turn.Ask c → IsReady T E t → ((asked : AskResult) → T (answer.Committed asked) → ⊥)
    → IsCutOf c e → IsNoDiskFault e
spared T E t (call.Commit changes) e is ready never cut =
    let R : Turn → Type 0 = λ r. IsReady T E r in absurd (never asked.On ((subst R is ready).1 (answer.Committed asked.On) tt))
spared T E t (call.Say bytes) e is ready never cut = cut
spared T E t (call.Send names message) e is ready never cut = cut
spared T E t call.Now e is ready never cut = cut
spared T E t (call.Load file) e is ready never cut = cut
spared T E t (call.Shell command input) e is ready never cut = cut
spared T E t (call.Edit command text) e is ready never cut = cut
