-- Stretches of a machine's events, one after the other.
use Rattle.std.proofs.Common.{◌≡◌, ℕ, List, [], ◌∷◌, ◌++◌, refl, sym, subst, inl, inr, ◌∙◌}
use Rattle.commit_record.specs.declared.record.Record.{Record}
use Rattle.host_port.specs.declared.event.Event.{Event}
use Rattle.commit_machine.specs.Jobs.{NoMemory, Job, all_of, prepare_of}
use Rattle.commit_machine.specs.Machine.{GoOn, Answer, State, Seizing, Timing, Looking, Undoing, Placing, Testing, Removing, Extending, Discarding, Unlocking, Erasing, Clearing, Preparing, Publishing, Locking, Loading, Staging, Deciding, Committing, Checking, Releasing, Ended, unlocking, undoing, refused, next, after_reply}
use Rattle.commit_machine.specs.Goes.{IsNext, Goes, reply}
use Rattle.commit_machine.specs.Laws.{StretchesJoin}

module _ (j : Job) where
  unlocking_twice : (r : Record) (ls : List (List ℕ)) → refused j (unlocking r ls (Answer NoMemory)) ≡ unlocking r ls (Answer NoMemory)
  unlocking_twice r [] = refl
  unlocking_twice r (n ∷ ns) = refl

  undoing_twice : (r : Record) (ns ls : List (List ℕ)) → refused j (undoing r ns ls (Answer NoMemory)) ≡ undoing r ns ls (Answer NoMemory)
  undoing_twice r [] ls = unlocking_twice r ls
  undoing_twice r (n ∷ ns) ls = refl

  -- running out of memory twice is as running out once
  pub refused_twice : (s : State) → refused j (refused j s) ≡ refused j s
  refused_twice Seizing = refl
  refused_twice (Timing time) = refl
  refused_twice Looking = refl
  refused_twice (Undoing r n ns ls GoOn) = refl
  refused_twice (Undoing r n ns ls (Answer e)) = refl
  refused_twice (Placing r x xs ls GoOn) = refl
  refused_twice (Placing r x xs ls (Answer e)) = refl
  refused_twice (Testing r x xs ls) = refl
  refused_twice (Removing r x xs ls GoOn) = refl
  refused_twice (Extending r x xs ls GoOn) = refl
  refused_twice (Removing r x xs ls (Answer e)) = refl
  refused_twice (Extending r x xs ls (Answer e)) = refl
  refused_twice (Discarding r x xs ls GoOn) = refl
  refused_twice (Discarding r x xs ls (Answer e)) = refl
  refused_twice (Unlocking r n ns GoOn) = refl
  refused_twice (Unlocking r n ns (Answer e)) = refl
  refused_twice (Erasing r GoOn) = refl
  refused_twice (Erasing r (Answer e)) = refl
  refused_twice (Clearing found) = refl
  refused_twice Preparing = refl
  refused_twice Publishing = refl
  refused_twice (Locking ls e left) = undoing_twice (prepare_of j) [] ls
  refused_twice (Loading done e left) = undoing_twice (prepare_of j) [] (all_of j)
  refused_twice (Staging ns done x left) = undoing_twice (prepare_of j) ns (all_of j)
  refused_twice (Deciding done) = undoing_twice (prepare_of j) (all_of j) (all_of j)
  refused_twice (Committing done) = undoing_twice (prepare_of j) (all_of j) (all_of j)
  refused_twice Checking = refl
  refused_twice (Releasing e) = refl
  refused_twice (Ended e) = refl

  -- what goes on from where memory ran out goes on from before it
  after_refusal : (s : State) (es : List Event) (last : State) → Goes j (refused j s) es last → Goes j s es last
  after_refusal s [] last (inl e) = inr e
  after_refusal s [] last (inr e) = inr (sym (refused_twice s) ∙ e)
  after_refusal s (e ∷ es) last (now, from, is, more) = (now, elim from [ inl p ↦ inr p | inr p ↦ inr (p ∙ refused_twice s) ], is, more)

  -- one stretch after another
  pub goes_then : (xs ys : List Event) (s mid last : State) → Goes j s xs mid → Goes j mid ys last → Goes j s (xs ++ ys) last
  goes_then [] ys s mid last (inl e) more = subst (λ (z : State). Goes j z ys last) (sym e) more
  goes_then [] ys s mid last (inr e) more = after_refusal s ys last (subst (λ (z : State). Goes j z ys last) (sym e) more)
  goes_then (x ∷ xs) ys s mid last (now, from, is, rest) more = (now, from, is, goes_then xs ys (after_reply j now (reply x)) mid last rest more)

  -- one event of the next call
  pub goes_one : (s : State) (e : Event) → IsNext (next j s) e → Goes j s (e ∷ []) (after_reply j s (reply e))
  goes_one s e is = (s, inl refl, is, inl refl)

  -- no event
  pub goes_none : (s : State) → Goes j s [] s
  goes_none s = inl refl

  pub goes_short : (s : State) → Goes j s [] (refused j s)
  goes_short s = inr refl

pub stretches_join : StretchesJoin
stretches_join j first mid last xs ys x y = goes_then j xs ys first mid last x y
