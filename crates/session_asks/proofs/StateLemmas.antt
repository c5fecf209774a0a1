-- The state that a session begins with is valid.
use Rattle.std.proofs.Common.{◌≡◌, ◌≤◌, ℕ, Bool, true, List, codes, refl, ap, ◌∙◌}
use Rattle.std.specs.declared.option.Option.TheVariants.{Some}
use Rattle.std.proofs.lemmas.Bool.{and_parts, cond-true}
use Rattle.mailx_vars.specs.declared.environment.Places.{Places}
use Rattle.mailx_vars.specs.Environment.{Pairs, knows_user, places_in, places_of, variable}
use Rattle.mailx_vars.specs.Names.{is_short_name}
use Rattle.rc_conditionals.specs.declared.conditions.Mode.{Mode}
use Rattle.session_state.specs.Placing.{front_of}
use Rattle.session_state.specs.States.{IsSession}
use Rattle.session_asks.specs.Openings.{state_with}
use Rattle.session_state.proofs.ActorLemmas.{actor-is, front-clear}
use Rattle.session_asks.proofs.OpeningLemmas.{empty-desk}

-- the name of a home folder that is known can be used
pub home-short : (pairs : Pairs) (places : Places) → Some places ≡ places_of pairs → knows_user pairs ≡ true → is_short_name places.home ≡ true
home-short pairs places is known =
    let found : Some places ≡ Some (places_in pairs) = is ∙ cond-true _ _ _ known in
    let same : places ≡ places_in pairs = cc found in
    ap (λ (p : Places). is_short_name p.home) same ∙ (and_parts (is_short_name (variable pairs (codes "HOME"))) _ known).0

pub first-valid : (folder : List ℕ) (places : Places) (mode : Mode) (terminal by_recipient : Bool) (token : ℕ) → 2 ≤ places.width → is_short_name places.home ≡ true
    → IsSession (state_with folder places mode terminal by_recipient token)
first-valid folder places mode terminal by_recipient token wide home = record {
  state = record { desk = empty-desk places mode terminal wide; actor = actor-is (front_of folder) places.home (front-clear folder) home };
  frames = λ o. refl;
  count = λ o. refl;
}
