-- Runs and deliveries at once, any of them killed: what becomes of the files.
use Rattle.std.proofs.Common.{◌≡◌, ℕ, List, [], ◌∷◌, ◌++◌, Option, Some, None, refl, ap, sym, subst, inl, inr, ◌∙◌}
use Rattle.host_port.specs.declared.event.Event.{Event}
use Rattle.commit_driver.specs.Did.{LoadsFit}
use Rattle.commit_driver.proofs.WithinLemmas.{fits-none}
use Rattle.core_steps.specs.declared.actor.Actor.{Actor}
use Rattle.core_steps.specs.declared.actor.Task.{Task}
use Rattle.core_steps.specs.Cores.{CoreDisk}
use Rattle.core_steps.specs.Starts.{begun}
use Rattle.core_steps.specs.Programs.{IsProgram, Run, actor_at}
use Rattle.core_steps.specs.RunSteps.{left_by}
use Rattle.core_fact.proofs.Interleavings.{every_interleaving}
use Rattle.core_fact.proofs.Runs.{programs-interleave}
use Rattle.mail_delivery.specs.Words.{actor}
use Rattle.mailx_top.specs.Meaning.{actor_in}
use Rattle.session_play.specs.Committing.{Commit}
use Rattle.run_laws.specs.Programs.{asked_in, IsProgramOf}
use Rattle.run_laws.specs.Together.{IsOfRun, IsOfDelivery, IsOfEither, IsFrontOf, IsGoing, asked_either, asked_going, calls_of, AreFor, RunsInterleave}
use Rattle.run_laws.proofs.CallLemmas.{events_of}
use Rattle.run_laws.proofs.StoppedLemmas.{stopped_are_programs}
use Rattle.run_laws.proofs.RunLemmas.{runs_are_programs}
use Rattle.run_laws.proofs.DeliveryLemmas.{deliveries_are_programs}
use Rattle.run_laws.proofs.TaskLemmas.{Known, AreKnown, named, done_named, bare_named, disk_named, answered_named}

module _ (actors : List Actor) where
  of_actor : (a : Actor) (name : List ℕ) (token : ℕ) (cs : List Commit) (es : List Event) → a.name ≡ name → a.token ≡ token
      → IsProgramOf actors (record { name = name; token = token }) cs es → IsProgramOf actors a cs es
  of_actor a name token cs es name_is token_is p =
      subst (λ (t : ℕ). IsProgramOf actors (record { name = a.name; token = t }) cs es) (sym token_is)
      (subst (λ (n : List ℕ). IsProgramOf actors (record { name = n; token = token }) cs es) (sym name_is) p)

  of_run : (a : Actor) (es : List Event) (r : IsOfRun actors a es) → IsProgramOf actors a (asked_in r.run.whole.plays) es
  of_run a es r =
      let cs = asked_in r.run.whole.plays in
      of_actor a (actor_in r.env) r.env.token cs es r.name_is r.token_is
      (subst (λ (l : List Event). IsProgramOf actors (record { name = actor_in r.env; token = r.env.token }) cs l) r.calls
      (runs_are_programs r.start r.env r.status r.own_ones r.run actors r.spares))

  of_delivery : (a : Actor) (es : List Event) (r : IsOfDelivery actors a es) → IsProgramOf actors a (asked_in r.delivers.plays) es
  of_delivery a es r =
      let cs = asked_in r.delivers.plays in
      of_actor a actor r.env.token cs es r.name_is r.token_is
      (subst (λ (l : List Event). IsProgramOf actors (record { name = actor; token = r.env.token }) cs l) r.calls
      (deliveries_are_programs r.request r.env r.status r.own_ones r.delivers actors r.spares))

  of_either : (a : Actor) (es : List Event) (it : IsOfEither actors a es) → IsProgramOf actors a (asked_either it) es
  of_either a es (inl run) = of_run a es run
  of_either a es (inr delivery) = of_delivery a es delivery

  of_front : (a : Actor) (cs : List Commit) (front rest : List Event) (e : Event) (es : List Event) → IsProgramOf actors a cs (front ++ e ∷ rest)
      → IsFrontOf front e es → IsProgramOf actors a cs es
  of_front a cs front rest e es whole (inl is) =
      subst (λ (l : List Event). IsProgramOf actors a cs l) (sym is) (stopped_are_programs actors a cs front rest e whole).0
  of_front a cs front rest e es whole (inr (d, part, is)) =
      subst (λ (l : List Event). IsProgramOf actors a cs l) (sym is) ((stopped_are_programs actors a cs front rest e whole).1 d part)

  -- the calls of an actor, with what each is for
  pub record Told (o : Option Actor) (cs : List Commit) (es : List Event) : Type 0 where
    pub calls : List (Task × Event)
    pub events : events_of calls ≡ es
    pub program : IsProgram actors o calls
    pub asked : AreFor cs calls
    pub fit : LoadsFit es

  of_program : (a : Actor) (cs : List Commit) (es : List Event) → IsProgramOf actors a cs es → Told (Some a) cs es
  of_program a cs es p = record { calls = p.calls; events = p.events; program = p.program; asked = p.asked; fit = p.fit }

  told_of : (o : Option Actor) (es : List Event) (going : IsGoing actors o es) → Told o (asked_going actors o es going) es
  told_of None es none =
      record { calls = []; events = sym none; program = refl; asked = λ x never. absurd never; fit = subst LoadsFit (sym none) fits-none }
  told_of (Some a) es (inl whole) = of_program a (asked_either whole) es (of_either a es whole)
  told_of (Some a) es (inr (front, rest, e, whole, is)) =
      of_program a (asked_either whole) es (of_front a (asked_either whole) front rest e es (of_either a (front ++ e ∷ rest) whole) is)

pub runs_interleave : RunsInterleave
runs_interleave files locks actors deeds may told going =
    let d = (begun files locks actors).disk in
    let cs : ℕ → List Commit = λ k. asked_going actors (actor_at actors k) (calls_of k deeds) (going k) in
    let one : (k : ℕ) → Told actors (actor_at actors k) (cs k) (calls_of k deeds) = λ k. told_of actors (actor_at actors k) (calls_of k deeds) (going k) in
    let c : Known = λ k. (one k).calls in
    let known : AreKnown c deeds = λ k. (one k).events in
    let run : Run actors d (named c deeds) = record {
      answered = answered_named deeds c d known (λ k. (one k).fit) told;
      programs = λ k. subst (λ (xs : List (Task × Event)). IsProgram actors (actor_at actors k) xs) (sym (done_named deeds c known k)) (one k).program;
    } in (
      named c deeds,
      bare_named deeds c,
      run,
      λ k. subst (λ (xs : List (Task × Event)). AreFor (cs k) xs) (sym (done_named deeds c known k)) (one k).asked,
      λ n. ap (λ (d : CoreDisk). left_by actors d.files n) (sym (disk_named deeds c d)) ∙ programs-interleave every_interleaving files locks actors (named c deeds) may run n,
    )
