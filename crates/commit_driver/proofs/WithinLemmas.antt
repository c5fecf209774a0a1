-- Events of which no load saw a file past the limit.
use Rattle.std.proofs.Common.{◌≡◌, ◌⊎◌, List, [], ◌∷◌, ◌++◌, sym, subst, inl, inr, ◌∙◌}
use Rattle.host_port.specs.declared.event.Event.{Event}
use Rattle.host_port.specs.Calls.{LoadFits}
use Rattle.commit_machine.specs.Settled.{Mem}
use Rattle.commit_machine.specs.Machine.{Call, Reply}
use Rattle.commit_driver.specs.Did.{Did, LoadsFit}

pub fits-none : LoadsFit []
fits-none e m = absurd m

pub fits-did : (c : Call) (r : Reply) (es : List Event) → Did c r es → LoadsFit es
fits-did c r es did = subst LoadsFit (sym did.is) (λ e m. alone e m)
  where
    alone : (e : Event) → Mem e (did.event ∷ []) → LoadFits e
    alone e (inl is) = subst LoadFits (sym is) did.within
    alone e (inr m) = absurd m

Mem-parts : (xs ys : List Event) (e : Event) → Mem e (xs ++ ys) → Mem e xs ⊎ Mem e ys
Mem-parts [] ys e m = inr m
Mem-parts (x ∷ xs) ys e (inl is) = inl (inl is)
Mem-parts (x ∷ xs) ys e (inr m) = elim (Mem-parts xs ys e m) [ inl h ↦ inl (inr h) | inr h ↦ inr h ]

pub fits-both : (xs ys : List Event) → LoadsFit xs → LoadsFit ys → LoadsFit (xs ++ ys)
fits-both xs ys a b = λ e m. elim (Mem-parts xs ys e m) [ inl h ↦ a e h | inr h ↦ b e h ]
