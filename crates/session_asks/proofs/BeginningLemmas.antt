-- A draft that begins.
use Rattle.std.proofs.Common.{◌≡◌, Bool, List, refl, subst}
use Rattle.std.specs.declared.option.Option.TheVariants.{Some}
use Rattle.std.specs.declared.result.Result.TheVariants.{Ok, Err}
use Rattle.compose_tilde.specs.declared.machine.Machine.{Machine}
use Rattle.compose_tilde.specs.Lines.{asks_subject}
use Rattle.host_port.specs.declared.event.Event.{Event}
use Rattle.session_play.specs.declared.stop.Stop.{Stop}
use Rattle.session_play.specs.Play.{Ret, Goes}
use Rattle.session_play.specs.Steps.{Over}
use Rattle.session_play.proofs.PlayLemmas.{goes-as, goes-cut}
use Rattle.session_state.specs.declared.state.SessionState.{SessionState}
use Rattle.session_state.specs.States.{with_draft}
use Rattle.session_asks.specs.Beginning.{view_in, subject_asked, begun_with}

-- a draft begins once its subject was asked for, where it was
pub begun-goes : (s : SessionState) (m : Machine) (asks : Bool) (es : List Event) → asks ≡ asks_subject m (view_in s) → Goes (subject_asked asks) es (Ok tt)
    → Goes (begun_with s m) es (Ok (Over (with_draft s (Some m))))
begun-goes s m asks es asked went =
    goes-as (subject_asked (asks_subject m (view_in s))) (λ u. Ret (Over (with_draft s (Some m)))) tt (Over (with_draft s (Some m))) es refl
    (subst (λ (t : Bool). Goes (subject_asked t) es (Ok tt)) asked went)

pub begun-cut : (s : SessionState) (m : Machine) (asks : Bool) (cause : Stop) (es : List Event) → asks ≡ asks_subject m (view_in s) → Goes (subject_asked asks) es (Err cause)
    → Goes (begun_with s m) es (Err cause)
begun-cut s m asks cause es asked went =
    goes-cut (subject_asked (asks_subject m (view_in s))) (λ u. Ret (Over (with_draft s (Some m)))) cause es (subst (λ (t : Bool). Goes (subject_asked t) es (Err cause)) asked went)
