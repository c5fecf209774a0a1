-- What an actor of a run is still to do, by what it is doing.
use Rattle.std.proofs.Common.{◌≡◌, ◌⊎◌, true, List, [], ◌∷◌, ◌++◌, Option, Some, None, refl, ap, sym, subst, inl, inr, ◌∙◌}
use Rattle.host_port.specs.declared.event.Event.{Event}
use Rattle.commit_machine.specs.Jobs.{Job, Ending, Done, Recovered, Refused, Failed, NoMemory}
use Rattle.commit_machine.specs.Machine.{State, Timing, Ended, Call, next, after_reply, refused}
use Rattle.commit_machine.specs.Goes.{IsNext, Goes, reply}
use Rattle.core_steps.specs.declared.actor.Actor.{Actor}
use Rattle.core_steps.specs.declared.actor.Task.{Task}
use Rattle.core_steps.specs.declared.actor.Past.{Past}
use Rattle.core_steps.specs.declared.actor.Doing.{Doing}
use Rattle.core_steps.specs.declared.actor.Doing.TheVariants.{Nothing, Bracket, Stopped}
use Rattle.core_steps.specs.Tasks.{job_of, state_of, on_time}
use Rattle.core_steps.specs.Turns.{doing_at}
use Rattle.core_steps.specs.Shown.{next_of}
use Rattle.core_steps.specs.Programs.{Work, for_task, is_whole, AreWorks}
use Rattle.core_fact.proofs.Following.{Follows}

-- what an actor did, and for what
abbrev pub Acts : Type 0
Acts = List (Task × Event)

-- after the machine's way to a state: nothing more, or the machine is at its end and other works follow
abbrev pub Later : List Actor → Actor → State → Acts → Type 0
Later actors a last more = (more ≡ []) ⊎ ((end : Ending) × (last ≡ Ended end) × (is_whole end ≡ true) × ((ws : List Work) × AreWorks actors a ws more))

-- the acts are the machine's way from a state on, and what comes later
pub record Future (actors : List Actor) (a : Actor) (t : Task) (s : State) (xs : Acts) : Type 0 where
  pub front : List Event
  pub more : Acts
  pub last : State
  pub is : xs ≡ for_task t front ++ more
  pub goes : Goes (job_of a t) s front last
  pub later : Later actors a last more

-- in a bracket
pub record Inside (actors : List Actor) (a : Actor) (t : Task) (past : List Past) (xs : Acts) : Type 0 where
  pub state : State
  pub follows : Follows a t past state
  pub future : Future actors a t state xs
  pub call : Call
  pub live : next_of a t past ≡ Some call

-- the acts are what the actor may still do
abbrev pub Will : List Actor → Actor → Doing → Acts → Type 0
Will actors a Nothing xs = (ws : List Work) × AreWorks actors a ws xs
Will actors a (Bracket t past) xs = Inside actors a t past xs
Will actors a Stopped xs = xs ≡ []

some_or_none : (o : Option Call) → (o ≡ None) ⊎ ((c : Call) × (o ≡ Some c))
some_or_none None = inl refl
some_or_none (Some c) = inr (c, refl)

none-ended : (j : Job) (s : State) → next j s ≡ None → (end : Ending) × (s ≡ Ended end)
none-ended j (Ended end) h = (end, refl)
none-ended j s h = absurd (cc)

-- where a call is next the bracket goes on
pub doing-live : (j : Job) (t : Task) (past : List Past) (s : State) (c : Call) → next j s ≡ Some c → doing_at t past s ≡ Bracket t past
doing-live j t past (Ended end) c h = absurd (cc)
doing-live j t past s c h = refl

-- where no call failed the end of a bracket leaves its actor in none
pub doing-whole : (t : Task) (past : List Past) (end : Ending) → is_whole end ≡ true → doing_at t past (Ended end) ≡ Nothing
doing-whole t past (Failed passed) h = absurd (cc)
doing-whole t past Done h = refl
doing-whole t past (Recovered found) h = refl
doing-whole t past (Refused why) h = refl
doing-whole t past NoMemory h = refl

-- the end of a bracket isn't followed by a call of it
pub no_more : (j : Job) (end : Ending) (e : Event) (es : List Event) (last : State) → Goes j (Ended end) (e ∷ es) last → ⊥
no_more j end e es last g =
    let same : g.0 ≡ Ended end = elim g.1 [ inl x ↦ x | inr x ↦ x ] in
    subst (λ (s : State). IsNext (next j s) e) same g.2

module _ (actors : List Actor) (a : Actor) (t : Task) where
  -- what comes once the machine is at its end
  at_end : (end : Ending) (xs : Acts) → Future actors a t (Ended end) xs → Later actors a (Ended end) xs
  at_end end xs f = by_front f.front f.is f.goes
    where
      by_front : (front : List Event) → xs ≡ for_task t front ++ f.more → Goes (job_of a t) (Ended end) front f.last → Later actors a (Ended end) xs
      by_front [] is goes =
          let at : Ended end ≡ f.last = elim goes [ inl x ↦ x | inr x ↦ x ] in
          subst (λ (s : State). Later actors a s xs) (sym at) (subst (λ (ys : Acts). Later actors a f.last ys) (sym is) f.later)
      by_front (e ∷ es) is goes = absurd (no_more (job_of a t) end e es f.last goes)

  will_ended : (end : Ending) (past : List Past) (xs : Acts) → Later actors a (Ended end) xs → Will actors a (doing_at t past (Ended end)) xs
  will_ended end past xs (inr w) =
      let same : end ≡ w.0 = (let e = w.1 in cc) in
      subst (λ (d : Doing). Will actors a d xs) (sym (doing-whole t past end (ap is_whole same ∙ w.2))) w.3
  will_ended (Failed passed) past xs (inl e) = e
  will_ended Done past xs (inl e) = ([], inl e)
  will_ended (Recovered found) past xs (inl e) = ([], inl e)
  will_ended (Refused why) past xs (inl e) = ([], inl e)
  will_ended NoMemory past xs (inl e) = ([], inl e)

  will_at : (past : List Past) (s : State) (xs : Acts) → Follows a t past s → Future actors a t s xs → Will actors a (doing_at t past (on_time s)) xs
  will_at past s xs f future = elim (some_or_none (next (job_of a t) (on_time s))) [
    | inl h ↦ (
        let e = none-ended (job_of a t) (on_time s) h in
        let at : s ≡ Ended e.0 = untime s e.0 e.1 in
        subst (λ (x : State). Will actors a (doing_at t past (on_time x)) xs) (sym at) (will_ended e.0 past xs (at_end e.0 xs (subst (λ (x : State). Future actors a t x xs) at future))))
    | inr c ↦ subst (λ (d : Doing). Will actors a d xs) (sym (doing-live (job_of a t) t past (on_time s) c.0 c.1))
        (record { state = s; follows = f; future = future; call = c.0; live = ap (next (job_of a t)) f.is ∙ c.1 })
  ]
    where
      untime : (x : State) (end : Ending) → on_time x ≡ Ended end → x ≡ Ended end
      untime (Timing time) end h = absurd (cc)
      untime x end h = h

  -- what is to be done after what happened in a bracket
  pub will_after : (past : List Past) (s : State) (xs : Acts) → Follows a t past s → Future actors a t s xs → Will actors a (doing_at t past (state_of a t past)) xs
  will_after past s xs f future = subst (λ (x : State). Will actors a (doing_at t past x) xs) (sym f.is) (will_at past s xs f future)

  -- the machine's next call, with what is to be done then
  pub record One (s : State) (u : Task) (e : Event) (xs : Acts) : Type 0 where
    pub same : u ≡ t
    pub now : State
    pub wants : (now ≡ s) ⊎ (now ≡ refused (job_of a t) s)
    pub of : IsNext (next (job_of a t) now) e
    pub rest : Future actors a t (after_reply (job_of a t) now (reply e)) xs

  -- the bracket is over, and other works follow
  abbrev pub IsOver : State → Acts → Type 0
  IsOver s xs = (end : Ending) × ((Ended end ≡ s) ⊎ (Ended end ≡ refused (job_of a t) s)) × (is_whole end ≡ true) × ((ws : List Work) × AreWorks actors a ws xs)

  pub one_of : (s : State) (u : Task) (e : Event) (xs more : Acts) (x : Event) (front : List Event) (last : State) → (u, e) ∷ xs ≡ (t, x) ∷ (for_task t front ++ more)
      → Goes (job_of a t) s (x ∷ front) last → Later actors a last more → One s u e xs
  one_of s u e xs more x front last is g later =
      let head : ◌≡◌ {A = Task × Event} (u, e) (t, x) = cons_head is in
      let tail : xs ≡ for_task t front ++ more = cons_tail is in
      let ex : e ≡ x = ap (λ (p : Task × Event). p.1) head in
      record {
        same = ap (λ (p : Task × Event). p.0) head;
        now = g.0;
        wants = g.1;
        of = subst (λ (y : Event). IsNext (next (job_of a t) g.0) y) (sym ex) g.2;
        rest = subst (λ (y : Event). Future actors a t (after_reply (job_of a t) g.0 (reply y)) xs) (sym ex) (record { front = front; more = more; last = last; is = tail; goes = g.3; later = later });
      }
    where
      cons_head : {x y : Task × Event} {xs ys : Acts} → x ∷ xs ≡ y ∷ ys → x ≡ y
      cons_head h = cc

      cons_tail : {x y : Task × Event} {xs ys : Acts} → x ∷ xs ≡ y ∷ ys → xs ≡ ys
      cons_tail h = cc

  -- one more act in a bracket
  pub one_or_over : (s : State) (u : Task) (e : Event) (xs : Acts) → Future actors a t s ((u, e) ∷ xs) → One s u e xs ⊎ IsOver s ((u, e) ∷ xs)
  one_or_over s u e xs f = by_front f.front f.is f.goes
    where
      by_front : (front : List Event) → (u, e) ∷ xs ≡ for_task t front ++ f.more → Goes (job_of a t) s front f.last → One s u e xs ⊎ IsOver s ((u, e) ∷ xs)
      by_front (x ∷ front) is g = inl (one_of s u e xs f.more x front f.last is g f.later)
      by_front [] is g = elim f.later [
        | inl none ↦ (let h : (u, e) ∷ xs ≡ [] = is ∙ none in absurd (cc))
        | inr w ↦ inr (w.0, (elim g [ inl x ↦ inl (sym w.1 ∙ sym x) | inr x ↦ inr (sym w.1 ∙ sym x) ]), w.2, subst (λ (ys : Acts). (ws : List Work) × AreWorks actors a ws ys) (sym is) w.3)
      ]
