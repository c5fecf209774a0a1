-- A turn that is taken is the step.
use Rattle.std.proofs.Common.{◌≡◌, ◌⊎◌, ◌==◌, ◌+◌, ◌-◌, ◌<◌, ℕ, zero, suc, Bool, true, false, List, [], ◌∷◌, ◌++◌, Option, Some, None, length, map, slice_get, slice_set, refl, inl, inr, ap, sym, subst, ◌∙◌, arith, if◌then◌else◌}
use Rattle.std.specs.Option.{option_map, option_and_then}
use Rattle.std.specs.Result.{IfOk, OnErr}
use Rattle.std.specs.declared.result.Result.{Result}
use Rattle.std.specs.declared.result.Result.TheVariants.{Ok, Err}
use Rattle.std.proofs.lemmas.List.{append-nil}
use Rattle.std.proofs.lemmas.Option.{slice_get_past}
use Rattle.mail_text.specs.declared.memory.Memory.{Memory}
use Rattle.memory_disk.specs.Lists.{NamesOnce}
use Rattle.core_steps.specs.declared.step.CoreStep.{CoreStep}
use Rattle.core_steps.specs.declared.actor.Doing.{Doing}
use Rattle.core_steps.specs.declared.actor.Member.{Member}
use Rattle.core_steps.specs.Turns as turns
use Rattle.core_steps.specs.Turns.{Passed, turn_of}
use Rattle.core_steps.specs.Cores.{CoreState, SameCore, actors_of, after_turn, member_at, seen_by, stepped}
use Rattle.core_steps.specs.Theorem.{IsReached, Settles}
use Rattle.actor_disk.specs.declared.seeing.Lists.{Lists}
use Rattle.actor_core.specs.declared.turning.Turn.{Turn}
use Rattle.actor_core.specs.Answers.{Steps, StepsTo}
use Rattle.actor_disk.specs.Seeing.{shown_disk}
use Rattle.actor_core.specs.Shown.{Held, IsCore, state_shown}
use Rattle.actor_core.specs.Turning.{Turns, TurnsTo, OnceThere, disk_there, doing_next, held_of, lists_there, passed_there}
use Rattle.actor_core.proofs.ReachLemmas.{steps_settle}

there_shown : (l : Lists) (there : Option Lists) → disk_there (shown_disk l) there ≡ shown_disk (lists_there l there)
there_shown l None = refl
there_shown l (Some now) = refl

once_there : (l : Lists) (there : Option Lists) → OnceThere there → NamesOnce l.files → NamesOnce l.locks → NamesOnce (lists_there l there).files × NamesOnce (lists_there l there).locks
once_there l None h files locks = (files, locks)
once_there l (Some now) h files locks = h

pub member_is : (ms : List Member) (k at : ℕ) (o : Option Member) → k ≡ at + 1 → slice_get ms at ≡ o → member_at ms k ≡ o
member_is ms k at o e is =
    let zero : (k == 0) ≡ false = grind arith in
    let back : k - 1 ≡ at = omega (arith, e) in
    ap (λ (b : Bool). if b then None else slice_get ms (k - 1)) zero ∙ ap (slice_get ms) back ∙ is

members_have : (ms : List Member) (at : ℕ) → at < length ms → (m : Member) × (slice_get ms at ≡ Some m)
members_have [] at h = absurd (omega arith)
members_have (x ∷ xs) zero h = (x, refl)
members_have (x ∷ xs) (suc at) h = members_have xs at (omega arith)

-- nobody has such a number
pub no_number : (ms : List Member) (k : ℕ) → (k ≡ 0) ⊎ (length ms < k) → member_at ms k ≡ None
no_number ms k (inl e) = ap (member_at ms) e
no_number ms k (inr h) = member_is ms k (k - 1) None (omega (arith, h)) (slice_get_past ms (k - 1) (omega (arith, h)))

module _ (l : Lists) (ms : List Member) (ps : List Passed) (step : CoreStep) where
  abbrev was : Held
  was = held_of l ms ps

  abbrev turn : Member → Option turns.Turn
  turn m = turn_of (actors_of (state_shown was)) m.actor m.doing step.kind (seen_by step.actor (shown_disk l))

  stepped_is : (m : Member) (o : Option turns.Turn) → member_at ms step.actor ≡ Some m → turn m ≡ o → stepped (state_shown was) step ≡ option_map (after_turn (state_shown was) step.actor m) o
  stepped_is m o is e =
      ap (λ (z : Option Member). option_and_then (λ (x : Member). option_map (after_turn (state_shown was) step.actor x) (turn x)) z) is
      ∙ ap (λ (z : Option turns.Turn). option_map (after_turn (state_shown was) step.actor m) z) e

  -- nobody has the number
  pub no_member : member_at ms step.actor ≡ None → Steps was step false was
  no_member none =
      let e : stepped (state_shown was) step ≡ None = ap (λ (z : Option Member). option_and_then (λ (x : Member). option_map (after_turn (state_shown was) step.actor x) (turn x)) z) none in
      subst (λ (z : Option CoreState). StepsTo was z false was) (sym e) (refl, refl)

  module _ (at : ℕ) (m : Member) (number : step.actor ≡ at + 1) (is : slice_get ms at ≡ Some m) where
    here : member_at ms step.actor ≡ Some m
    here = member_is ms step.actor at (Some m) number is

    -- the step isn't allowed
    not_taken : TurnsTo step.actor (shown_disk l) m.doing None (turn m) → Steps was step false was
    not_taken h = go (turn m) refl h
      where
        go : (o : Option turns.Turn) → turn m ≡ o → TurnsTo step.actor (shown_disk l) m.doing None o → Steps was step false was
        go None e w = subst (λ (z : Option CoreState). StepsTo was z false was) (sym (stepped_is m None here e)) (refl, refl)
        go (Some x) e w = absurd w

    module _ (t : Turn) (l' : Lists) (ms' : List Member) (ps' : List Passed) (lists : l' ≡ lists_there l t.there)
        (members : ms' ≡ slice_set ms at (record { actor = m.actor; doing = doing_next m.doing t.doing })) (places : ps' ≡ ps ++ passed_there t.passed) where
      same : (x : turns.Turn) → Turns step.actor (shown_disk l) m.doing t x → SameCore (state_shown (held_of l' ms' ps')) (after_turn (state_shown was) step.actor m x)
      same x w =
          let shown : shown_disk l' ≡ disk_there (shown_disk l) t.there = ap shown_disk lists ∙ sym (there_shown l t.there) in
          let back : step.actor - 1 ≡ at = omega (arith, number) in
          record {
            files = λ q. ap (λ d. d.files q) shown ∙ w.disk.files q;
            locks = λ q. ap (λ d. d.locks q) shown ∙ w.disk.locks q;
            holders = λ q. ap (λ d. d.holders q) shown ∙ w.disk.holders q;
            members = members ∙ ap (λ d. slice_set ms at (record { actor = m.actor; doing = d })) w.doing
                ∙ ap (λ (n : ℕ). slice_set ms n (record { actor = m.actor; doing = x.doing })) (sym back);
            places = places ∙ ap (λ (more : List Passed). ps ++ more) w.passed;
          }

      go : (o : Option turns.Turn) → turn m ≡ o → TurnsTo step.actor (shown_disk l) m.doing (Some t) o → Steps was step true (held_of l' ms' ps') × OnceThere t.there
      go None e w = absurd w
      go (Some x) e w = (
        subst (λ (z : Option CoreState). StepsTo was z true (held_of l' ms' ps')) (sym (stepped_is m (Some x) here e)) (refl, same x w),
        w.once,
      )

      -- it is, and is taken
      taken : TurnsTo step.actor (shown_disk l) m.doing (Some t) (turn m) → Steps was step true (held_of l' ms' ps')
      taken w = (go (turn m) refl w).0

      core_taken : TurnsTo step.actor (shown_disk l) m.doing (Some t) (turn m) → IsCore was → IsCore (held_of l' ms' ps')
      core_taken w core =
          let once = once_there l t.there (go (turn m) refl w).1 core.files core.locks in
          record {
            reached = (steps_settle was step true (held_of l' ms' ps') (taken w) core.reached).0;
            files = subst (λ (z : Lists). NamesOnce z.files) (sym lists) once.0;
            locks = subst (λ (z : Lists). NamesOnce z.locks) (sym lists) once.1;
          }

-- so it is for the actor with this number, from 0, whoever it is
module _ (l : Lists) (ms items : List Member) (ps : List Passed) (step : CoreStep) (at : ℕ) (o : Option Turn) (number : step.actor ≡ at + 1) (lt : at < length ms) (same : items ≡ ms)
    (turned : (m : Member) → slice_get items at ≡ Some m → TurnsTo step.actor (shown_disk l) m.doing o
    (turn_of (map (λ (x : Member). x.actor) items) m.actor m.doing step.kind (seen_by step.actor (shown_disk l)))) where
  turned_there : (u : Option Turn) → o ≡ u → (m : Member) → slice_get ms at ≡ Some m → TurnsTo step.actor (shown_disk l) m.doing u
      (turn_of (map (λ (x : Member). x.actor) ms) m.actor m.doing step.kind (seen_by step.actor (shown_disk l)))
  turned_there u is m e =
      let there : TurnsTo step.actor (shown_disk l) m.doing o (turn_of (map (λ (x : Member). x.actor) items) m.actor m.doing step.kind (seen_by step.actor (shown_disk l))) =
      turned m (ap (λ (z : List Member). slice_get z at) same ∙ e) in
      subst (λ (z : Option Turn). TurnsTo step.actor (shown_disk l) m.doing z (turn_of (map (λ (x : Member). x.actor) ms) m.actor m.doing step.kind (seen_by step.actor (shown_disk l)))) is
      (subst (λ (z : List Member). TurnsTo step.actor (shown_disk l) m.doing o (turn_of (map (λ (x : Member). x.actor) z) m.actor m.doing step.kind (seen_by step.actor (shown_disk l)))) same there)

  pub refused_at : o ≡ None → Steps (held_of l ms ps) step false (held_of l ms ps)
  refused_at is = let h = members_have ms at lt in not_taken l ms ps step at h.0 number h.1 (turned_there None is h.0 h.1)

  module _ (t : Turn) (is : o ≡ Some t) (l' : Lists) (ms' : List Member) (ps' : List Passed) (lists : l' ≡ lists_there l t.there)
      (members : (m : Member) → slice_get ms at ≡ Some m → ms' ≡ slice_set ms at (record { actor = m.actor; doing = doing_next m.doing t.doing })) (places : ps' ≡ ps ++ passed_there t.passed) where
    pub taken_at : Steps (held_of l ms ps) step true (held_of l' ms' ps')
    taken_at =
        let h = members_have ms at lt in
        taken l ms ps step at h.0 number h.1 t l' ms' ps' lists (members h.0 h.1) places (turned_there (Some t) is h.0 h.1)

    pub core_at : IsCore (held_of l ms ps) → IsCore (held_of l' ms' ps')
    core_at core =
        let h = members_have ms at lt in
        core_taken l ms ps step at h.0 number h.1 t l' ms' ps' lists (members h.0 h.1) places (turned_there (Some t) is h.0 h.1) core

-- an actor that is as before
set_same : (ms : List Member) (at : ℕ) (m : Member) → slice_get ms at ≡ Some m → slice_set ms at m ≡ ms
set_same [] at m e = absurd (cc)
set_same (x ∷ xs) zero m e = let same : m ≡ x = cc in ap (λ (z : Member). z ∷ xs) same
set_same (x ∷ xs) (suc at) m e = ap (λ (z : List Member). x ∷ z) (set_same xs at m e)

pub kept_member : (ms : List Member) (at : ℕ) (m : Member) (doing : Doing) (r : Result Unit Memory) → slice_get ms at ≡ Some m → OnErr r (doing ≡ m.doing)
    → OnErr r (slice_set ms at (record { actor = m.actor; doing = doing }) ≡ ms)
kept_member ms at m doing (Ok u) e h = tt
kept_member ms at m doing (Err why) e h = ap (λ (d : Doing). slice_set ms at (record { actor = m.actor; doing = d })) h ∙ set_same ms at m e

-- what a step leaves of the settled files and of messages
module _ (old now : Held) (step : CoreStep) (r : Result Bool Memory) (steps : IfOk r (λ done. Steps old step done now)) (memory : OnErr r (now ≡ old)) (reached : IsReached (state_shown old)) where
  pub settles_after : (more : List Passed) × Settles (state_shown old) (state_shown now) more
  settles_after = after r steps memory
    where
      after : (x : Result Bool Memory) → IfOk x (λ done. Steps old step done now) → OnErr x (now ≡ old) → (more : List Passed) × Settles (state_shown old) (state_shown now) more
      after (Ok done) w m = (steps_settle old step done now w reached).1
      after (Err e) w m = ([], subst (λ (z : Held). Settles (state_shown old) (state_shown z) []) (sym m) (record { places = sym (append-nil old.places); files = λ n. refl }))
