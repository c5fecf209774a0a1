-- Lines of a draft, and answers to it, as what the draft took of them.
use Rattle.std.proofs.Common.{◌≡◌, ℕ, List, sym, ◌∙◌, ap, subst}
use Rattle.std.specs.Option.{option_map}
use Rattle.std.specs.declared.option.Option.{Option}
use Rattle.std.specs.declared.option.Option.TheVariants.{Some, None}
use Rattle.std.specs.declared.result.Result.{Result}
use Rattle.std.specs.declared.result.Result.TheVariants.{Ok, Err}
use Rattle.message_list.specs.declared.list.ListError.TheVariants as list_error
use Rattle.compose_tilde.specs.declared.machine.Machine.{Machine}
use Rattle.compose_tilde.specs.declared.need.Need.{Need}
use Rattle.compose_tilde.specs.declared.need.Need.TheVariants.{More}
use Rattle.compose_tilde.specs.declared.need.Answer.{Answer}
use Rattle.compose_tilde.specs.declared.need.ComposeError.{ComposeError}
use Rattle.compose_tilde.specs.declared.need.ComposeError.TheVariants as error
use Rattle.compose_tilde.specs.Steps.{Step, Means}
use Rattle.compose_tilde.specs.Lines.{line_step}
use Rattle.compose_tilde.specs.Answering.{idle, answer_step}
use Rattle.session_play.specs.Play.{Play, Next}
use Rattle.session_play.specs.Steps.{refused}
use Rattle.session_state.specs.declared.state.SessionState.{SessionState}
use Rattle.session_state.specs.declared.status.Status.{Status}
use Rattle.session_state.specs.States.{with_draft}
use Rattle.session_asks.specs.Beginning.{view_in}
use Rattle.mailx_session.specs.Drafting.{escape_fault, released, told, took_answer, given, answered, needed, took_line, drafted, draft_play}
use Rattle.mailx_session.specs.Taking.{TookAnswer, TookLine, RefusesLine, IsEscapeFault, SaysFault}

abbrev plays : Type 0
plays = Play (Next SessionState Status)

-- a step that is refused, with the line that refuses it
step-refused : (e : ComposeError) (line : List ℕ) (m : Machine) (step : Step) (k : Step → plays) (s : SessionState)
    → ((e : ComposeError) → k (Err e) ≡ refused s (escape_fault e)) → IsEscapeFault e line → Means (Err e) m step → k step ≡ refused s line
step-refused (error.Unknown letter) line m step k s to fault means = ap k means ∙ (to (error.Unknown letter) ∙ ap (refused s) (sym fault))
step-refused (error.BadArguments letter) line m step k s to fault means = ap k means ∙ (to (error.BadArguments letter) ∙ ap (refused s) (sym fault))
step-refused error.NotSending line m step k s to fault means = ap k means ∙ (to error.NotSending ∙ ap (refused s) (sym fault))
step-refused error.TooMuch line m step k s to fault means = ap k means ∙ (to error.TooMuch ∙ ap (refused s) (sym fault))
step-refused (error.List (list_error.Syntax word)) line m step k s to fault means = ap k means ∙ (to (error.List (list_error.Syntax word)) ∙ ap (refused s) (sym fault))
step-refused (error.List (list_error.NoSuch word)) line m step k s to fault means = ap k means ∙ (to (error.List (list_error.NoSuch word)) ∙ ap (refused s) (sym fault))
step-refused (error.List list_error.NoneMatch) line m step k s to fault means = ap k means ∙ (to (error.List list_error.NoneMatch) ∙ ap (refused s) (sym fault))
step-refused (error.List list_error.Memory) line m step k s to fault means = absurd fault
step-refused error.Memory line m step k s to fault means = absurd fault

abbrev took : Need → Result Need ComposeError
took need = Ok need

more-only : (need : Need) → took need ≡ took More → need ≡ More
more-only need same = cc same

no-draft : (m : Machine) → None ≡ Some m → ⊥
no-draft m same = cc same

same-draft : (m n : Machine) → Some m ≡ Some n → m ≡ n
same-draft m n same = cc same

abbrev taken : Machine × Need → Step
taken step = Ok step

abbrev refusal : ComposeError → Step
refusal e = Err e

no-step : (step : Machine × Need) (e : ComposeError) → taken step ≡ refusal e → ⊥
no-step step e same = cc same

-- what follows an answer that the draft took
pub answered-told : (s : SessionState) (d : Option Machine) (a : Answer) (need : Need) (new : Option Machine) → s.draft ≡ d → TookAnswer (Ok need) d a new
    → answered s a ≡ told (with_draft s new) need
answered-told s None a need new is has =
    let same : with_draft s new ≡ s = ap (with_draft s) (has.is ∙ sym is) in
    ap (λ (d : Option Machine). given s d a) is ∙ (ap (λ (t : SessionState). told t More) (sym same) ∙ ap (told (with_draft s new)) (sym (more-only need has.went)))
answered-told s (Some m) a need new is has =
    ap (λ (d : Option Machine). given s d a) is
    ∙ (ap (took_answer s) has.means ∙ ap (λ (d : Option Machine). told (with_draft s d) need) (sym has.is))

-- and one that it refused
pub answered-refused : (s : SessionState) (d : Option Machine) (a : Answer) (e : ComposeError) (new : Option Machine) → s.draft ≡ d → TookAnswer (Err e) d a new
    → SaysFault e (with_draft s new) (answered s a)
answered-refused s None a e new is has = λ line fault. absurd (cc has.went)
answered-refused s (Some m) a e new is has = λ line fault.
    let there : released s ≡ with_draft s new = ap (λ (d : Option Machine). with_draft s (option_map idle d)) is ∙ ap (with_draft s) (sym (has.is ∙ ap (λ (n : Machine). Some n) has.stays)) in
    ap (λ (d : Option Machine). given s d a) is
    ∙ step-refused e line has.machine (answer_step m a) (took_answer s) (with_draft s new) (λ e. ap (λ (t : SessionState). refused t (escape_fault e)) there) fault has.means

-- a line that the draft took
pub drafted-needed : (s : SessionState) (d : Option Machine) (line : List ℕ) (need : Need) (new : Option Machine) → s.draft ≡ d → TookLine (Ok need) d line (view_in s) new
    → draft_play s line ≡ needed (with_draft s new) need
drafted-needed s None line need new is has =
    let t = released s in
    let out : t.draft ≡ None = ap (option_map idle) is in
    let same : with_draft s new ≡ t = ap (with_draft s) (has.is ∙ sym out) in
    ap (λ (d : Option Machine). drafted t d line) out ∙ (ap (λ (u : SessionState). needed u More) (sym same) ∙ ap (needed (with_draft s new)) (sym (more-only need has.went)))
drafted-needed s (Some m) line need new is has =
    let t = released s in
    let inside : t.draft ≡ Some (idle m) = ap (option_map idle) is in
    ap (λ (d : Option Machine). drafted t d line) inside
    ∙ (ap (took_line t) has.means ∙ ap (λ (d : Option Machine). needed (with_draft s d) need) (sym has.is))

-- a line that it took isn't one that it refuses
pub took-not-refused : (s : SessionState) (d : Option Machine) (line : List ℕ) (need : Need) (new : Option Machine) → s.draft ≡ d → TookLine (Ok need) d line (view_in s) new
    → RefusesLine s line → ⊥
took-not-refused s None line need new is has r = no-draft r.machine (sym is ∙ r.draft)
took-not-refused s (Some m) line need new is has r =
    let same : r.machine ≡ m = same-draft r.machine m (sym r.draft ∙ is) in
    no-step (has.machine, need) r.fault (sym has.means ∙ subst (λ (n : Machine). line_step (idle n) line (view_in s) ≡ Err r.fault) same r.refused)

-- after one that it refused it is as it was
pub refused-released : (s : SessionState) (d : Option Machine) (line : List ℕ) (e : ComposeError) (new : Option Machine) → s.draft ≡ d → TookLine (Err e) d line (view_in s) new
    → with_draft s new ≡ released s
refused-released s None line e new is has = absurd (cc has.went)
refused-released s (Some m) line e new is has =
    ap (with_draft s) ((has.is ∙ ap (λ (n : Machine). Some n) has.stays) ∙ sym (ap (option_map idle) is))

-- and one that it refused
pub drafted-refused : (s : SessionState) (d : Option Machine) (line : List ℕ) (e : ComposeError) (new : Option Machine) → s.draft ≡ d → TookLine (Err e) d line (view_in s) new
    → SaysFault e (with_draft s new) (draft_play s line)
drafted-refused s None line e new is has = λ said fault. absurd (cc has.went)
drafted-refused s (Some m) line e new is has = λ said fault.
    let t = released s in
    let inside : t.draft ≡ Some (idle m) = ap (option_map idle) is in
    let there : t ≡ with_draft s new = sym (refused-released s (Some m) line e new is has) in
    ap (λ (d : Option Machine). drafted t d line) inside
    ∙ step-refused e said has.machine (line_step (idle m) line (view_in s)) (took_line t) (with_draft s new) (λ e. ap (λ (u : SessionState). refused u (escape_fault e)) there) fault has.means
