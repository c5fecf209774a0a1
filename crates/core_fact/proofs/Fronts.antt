-- The first calls of a run are a run.
use Rattle.std.proofs.Common.{◌≡◌, ◌⊎◌, ◌==◌, ℕ, true, List, [], ◌∷◌, ◌++◌, Option, Some, None, refl, ap, sym, subst, inl, inr, ◌∙◌}
use Rattle.std.proofs.lemmas.Bool.{cases_Bool}
use Rattle.host_port.specs.declared.event.Event.{Event}
use Rattle.commit_machine.specs.Jobs.{Job}
use Rattle.commit_machine.specs.Machine.{State, Seizing, Ended, after_reply}
use Rattle.commit_machine.specs.Goes.{Goes, reply}
use Rattle.core_steps.specs.declared.actor.Actor.{Actor}
use Rattle.core_steps.specs.declared.actor.Task.{Task}
use Rattle.core_steps.specs.Tasks.{job_of}
use Rattle.core_steps.specs.Cores.{CoreDisk}
use Rattle.core_steps.specs.Programs.{Deed, disk_once, done_of, AreAnswered, Work, for_task, may_begin, IsLastWork, AreWorks, IsProgram, actor_at, Run}
use Rattle.core_fact.proofs.Futures.{Acts}

-- what comes first of the machine's way is one
pub goes-front : (j : Job) (s last : State) (front back : List Event) → Goes j s (front ++ back) last → (mid : State) × Goes j s front mid
goes-front j s last [] back g = (s, inl refl)
goes-front j s last (e ∷ front) back g = let r = goes-front j (after_reply j g.0 (reply e)) last front back g.3 in (r.0, (g.0, g.1, g.2, r.1))

head-is : {A : Type 0} {x y : A} {xs ys : List A} → x ∷ xs ≡ y ∷ ys → x ≡ y
head-is h = cc

tail-is : {A : Type 0} {x y : A} {xs ys : List A} → x ∷ xs ≡ y ∷ ys → xs ≡ ys
tail-is h = cc

nil-first : {A : Type 0} (xs ys : List A) → xs ++ ys ≡ [] → xs ≡ []
nil-first [] ys h = refl
nil-first (x ∷ xs) ys h = absurd (cc)

-- the first acts of one task
for-front : (t : Task) (es : List Event) (xs ys : Acts) → for_task t es ≡ xs ++ ys → (front : List Event) × (back : List Event) × (es ≡ front ++ back) × (xs ≡ for_task t front)
for-front t es [] ys h = ([], es, refl, refl)
for-front t [] (x ∷ xs) ys h = absurd (cc)
for-front t (e ∷ es) (x ∷ xs) ys h =
    let head : ◌≡◌ {A = Task × Event} (t, e) x = head-is h in
    let r = for-front t es xs ys (tail-is h) in
    (e ∷ r.0, r.1, ap (λ (z : List Event). e ∷ z) r.2, ap (λ (z : Acts). x ∷ z) r.3 ∙ ap (λ (p : Task × Event). p ∷ for_task t r.0) (sym head))

-- two ways to cut a list
cuts : {A : Type 0} (xs ys us vs : List A) → xs ++ ys ≡ us ++ vs → ((rest : List A) × (us ≡ xs ++ rest)) ⊎ ((rest : List A) × (xs ≡ us ++ rest) × (vs ≡ rest ++ ys))
cuts [] ys us vs h = inl (us, refl)
cuts (x ∷ xs) ys [] vs h = inr (x ∷ xs, refl, sym h)
cuts (x ∷ xs) ys (u ∷ us) vs h =
    let head : x ≡ u = head-is h in
    elim (cuts xs ys us vs (tail-is h)) [
      | inl r ↦ inl (r.0, ap (λ zs. u ∷ zs) r.1 ∙ ap (λ z. z ∷ (xs ++ r.0)) (sym head))
      | inr r ↦ inr (r.0, ap (λ zs. x ∷ zs) r.1 ∙ ap (λ z. z ∷ (us ++ r.0)) head, r.2)
    ]

module _ (actors : List Actor) (a : Actor) where
  -- the first acts of one work
  cut_work : (t : Task) (es : List Event) (s : State) (xs ys : Acts) → may_begin actors a t ≡ true → Goes (job_of a t) Seizing es s → for_task t es ≡ xs ++ ys → IsLastWork actors a xs
  cut_work t es s xs ys may goes is =
      let r = for-front t es xs ys is in
      let g = goes-front (job_of a t) Seizing s r.0 r.1 (subst (λ (z : List Event). Goes (job_of a t) Seizing z s) r.2 goes) in
      inr (t, r.0, g.0, r.3, may, g.1)

  works-front : (ws : List Work) (xs ys : Acts) → AreWorks actors a ws (xs ++ ys) → (works : List Work) × AreWorks actors a works xs
  works-front [] xs ys (inl h) = ([], inl (nil-first xs ys h))
  works-front [] xs ys (inr w) = ([], cut_work w.0 w.1 w.2 xs ys w.4 w.5 (sym w.3))
  works-front (w ∷ ws) xs ys works = elim (cuts xs ys (for_task w.task w.calls) works.0 works.1) [
    | inl r ↦ ([], cut_work w.task w.calls (Ended w.end) xs r.0 works.2.0 works.2.1 r.1)
    | inr r ↦ (
        let more = works-front ws r.0 ys (subst (λ (z : Acts). AreWorks actors a ws z) r.2 works.3) in
        (w ∷ more.0, (r.0, r.1, works.2, more.1)))
  ]

program-front : (actors : List Actor) (o : Option Actor) (xs ys : Acts) → IsProgram actors o (xs ++ ys) → IsProgram actors o xs
program-front actors None xs ys h = nil-first xs ys h
program-front actors (Some a) xs ys h = works-front actors a h.0 xs ys h.1

pub done-both : (k : ℕ) (xs ys : List Deed) → done_of k (xs ++ ys) ≡ done_of k xs ++ done_of k ys
done-both k [] ys = refl
done-both k (x ∷ xs) ys = elim (cases_Bool (x.actor == k)) [
  | inl y ↦ (rw y (ap (λ (z : Acts). (x.task, x.event) ∷ z) (done-both k xs ys)))
  | inr n ↦ (rw n (done-both k xs ys))
]

answered-front : (d : CoreDisk) (xs ys : List Deed) → AreAnswered d (xs ++ ys) → AreAnswered d xs
answered-front d [] ys h = tt
answered-front d (x ∷ xs) ys h = (h.0, h.1, (λ stops. nil-first (done_of x.actor xs) (done_of x.actor ys) (sym (done-both x.actor xs ys) ∙ h.2 stops)), answered-front (disk_once d x) xs ys h.3)

pub run-front : (actors : List Actor) (d : CoreDisk) (xs ys : List Deed) → Run actors d (xs ++ ys) → Run actors d xs
run-front actors d xs ys run = record {
  answered = answered-front d xs ys run.answered;
  programs = λ k. program-front actors (actor_at actors k) (done_of k xs) (done_of k ys) (subst (λ (z : Acts). IsProgram actors (actor_at actors k) z) (done-both k xs ys) (run.programs k));
}
