-- Lines of start-up files: all that wait are such lines, and after each the session goes on.
use Rattle.std.proofs.Common.{◌≡◌, ℕ, true, List, length, sym, subst}
use Rattle.std.specs.Prelude.{◌≢◌, IfOk, IfErr}
use Rattle.std.specs.List.{list_all}
use Rattle.std.specs.declared.option.Option.TheVariants.{Some}
use Rattle.std.specs.declared.result.Result.{Result}
use Rattle.std.specs.declared.result.Result.TheVariants.{Ok, Err}
use Rattle.command_desk.specs.declared.desk.Desk.{Desk}
use Rattle.command_desk.specs.declared.steps.Steps.{Steps}
use Rattle.command_desk.specs.Answers.{OrFault}
use Rattle.read_commands.specs.declared.origin.Origin.{Origin}
use Rattle.read_commands.specs.declared.origin.Origin.TheVariants.{Input, Startup, Draft}
use Rattle.read_commands.specs.Origins.{commanded, is_startup_ask, AsksLittle}
use Rattle.read_commands.proofs.StartupLemmas.{startup_asks_little}
use Rattle.session_state.specs.declared.error.RunError.{RunError}
use Rattle.session_state.specs.declared.error.RunError.TheVariants as error
use Rattle.session_state.specs.declared.flow.Flow.{Flow}
use Rattle.session_state.specs.declared.frames.WaitingLine.{WaitingLine}
use Rattle.session_state.specs.declared.state.SessionState.{SessionState}
use Rattle.session_state.specs.Waits.{Pending}
use Rattle.session_state.specs.Pending.{capped}
use Rattle.session_state.specs.Bringing.{origin_at, AllFrom}
use Rattle.session_state.specs.States.{next_waiting}
use Rattle.session_state.specs.Answers.{EndsByLine, EndsFrom, GoesOn, IsNoDiskFault}
use Rattle.session_state.proofs.OriginLemmas.{TookFrom, taken-from, all-capped}
use Rattle.mailx_session.specs.Startup.{WaitsInStartup}
use Rattle.mailx_session.proofs.RoundLemmas.{next-taken, next-undrafting}

-- where the session goes on, the line ends as one from anywhere may
pub goes-ends : (from : Origin) (r : Result Flow RunError) → GoesOn r → EndsFrom from r
goes-ends Startup r goes = goes
goes-ends Input (Ok went) goes = subst EndsByLine (sym goes) tt
goes-ends Input (Err e) goes = tt
goes-ends Draft (Ok went) goes = subst EndsByLine (sym goes) tt
goes-ends Draft (Err e) goes = tt

pub ends-by-line : (from : Origin) (r : Result Flow RunError) → EndsFrom from r → IfOk r EndsByLine
ends-by-line Startup (Ok went) goes = subst EndsByLine (sym goes) tt
ends-by-line Startup (Err e) goes = tt
ends-by-line Input r ends = ends
ends-by-line Draft r ends = ends

-- a line of a start-up file asks for little, after which the session goes on
pub carried-ends : (from : Origin) (desk : Desk) (line : List ℕ) (steps : Steps) (r : Result Flow RunError) → commanded from desk line ≡ Ok steps
    → (list_all is_startup_ask steps.asks ≡ true → GoesOn r) → IfOk r EndsByLine → EndsFrom from r
carried-ends Startup desk line steps r comes goes done = goes (subst (λ (m : OrFault Steps). AsksLittle m) comes (startup_asks_little desk line))
carried-ends Input desk line steps r comes goes done = done
carried-ends Draft desk line steps r comes goes done = done

pub memory-only : (e : RunError) → e ≡ error.Memory → IsNoDiskFault e
memory-only e is = subst IsNoDiskFault (sym is) tt

pub spares-disk : {T : Type 0} (r : Result T RunError) → IfErr r IsNoDiskFault → IfErr r (λ e. e ≢ error.Disk)
spares-disk (Ok t) no_disk = tt
spares-disk (Err e) no_disk = λ same. subst IsNoDiskFault same no_disk

-- the line that is carried out next is one of a start-up file
pub startup-next : (s : SessionState) (line : WaitingLine) (left : List Pending) → WaitsInStartup s → next_waiting s ≡ Some (line, left)
    → (line.origin ≡ Startup) × (origin_at left ≡ Startup) × AllFrom Startup left
startup-next s line left waits is =
    subst (TookFrom Startup) (next-taken s line left is)
    (taken-from Startup (capped (length s.desk.conditions) s.frames) (all-capped Startup (length s.desk.conditions) s.frames (waits (next-undrafting s line left is))))
