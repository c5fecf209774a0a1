-- Events among others.
use Rattle.std.proofs.Common.{◌≡◌, Bool, true, false, ◌||◌, List, [], ◌∷◌, ◌++◌, refl, ap, sym, inl, inr, ◌∙◌}
use Rattle.std.specs.List.{list_any}
use Rattle.std.proofs.lemmas.Bool.{cases_Bool}
use Rattle.host_port.specs.declared.event.Event.{Event}
use Rattle.host_port.specs.declared.event.Event.TheVariants as event
use Rattle.host_port.specs.Own.{own}
use Rattle.commit_machine.specs.Settled.{Mem}

-- an own event stands among all
pub own-split : (es : List Event) (e : Event) → Mem e (own es) → (front : List Event) × (rest : List Event) × (es ≡ front ++ e ∷ rest)
own-split [] e m = absurd m
own-split (event.Foreign f ∷ es) e m = let w = own-split es e m in (event.Foreign f ∷ w.0, w.1, ap (λ (xs : List Event). event.Foreign f ∷ xs) w.2)
own-split (x ∷ es) e (inl is) = ([], es, ap (λ (y : Event). y ∷ es) (sym is))
own-split (x ∷ es) e (inr m) = let w = own-split es e m in (x ∷ w.0, w.1, ap (λ (xs : List Event). x ∷ xs) w.2)

pub or-parts : (a b : Bool) → (a || b) ≡ false → (a ≡ false) × (b ≡ false)
or-parts true b h = absurd (cc)
or-parts false b h = (refl, h)

-- what none of the events is
pub none-of : (p : Event → Bool) (es : List Event) (e : Event) → list_any p es ≡ false → Mem e es → p e ≡ false
none-of p [] e h m = absurd m
none-of p (x ∷ es) e h (inl is) = ap p is ∙ (or-parts (p x) (list_any p es) h).0
none-of p (x ∷ es) e h (inr m) = none-of p es e (or-parts (p x) (list_any p es) h).1 m

-- one of the events is such
pub some-of : (p : Event → Bool) (es : List Event) → list_any p es ≡ true → (e : Event) × Mem e es × (p e ≡ true)
some-of p [] h = absurd (cc)
some-of p (x ∷ es) h = elim (cases_Bool (p x)) [
  | inl y ↦ (x, inl refl, y)
  | inr n ↦ (let w = some-of p es (ap (λ (b : Bool). b || list_any p es) (sym n) ∙ h) in (w.0, inr w.1, w.2))
]
