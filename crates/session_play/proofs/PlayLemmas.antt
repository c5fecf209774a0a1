-- Plays go on from one another.
use Rattle.std.proofs.Common.{◌≡◌, List, [], ◌++◌, refl, sym, ◌∙◌, ap, subst, inl, inr, append_assoc}
use Rattle.std.proofs.lemmas.List.{append-nil}
use Rattle.std.specs.declared.result.Result.{Result}
use Rattle.std.specs.declared.result.Result.TheVariants.{Ok, Err}
use Rattle.host_port.specs.declared.event.Event.{Event}
use Rattle.session_play.specs.declared.stop.Stop.{Stop}
use Rattle.session_play.specs.declared.stop.Stop.TheVariants as stop
use Rattle.session_play.specs.Play.{Play, Ret, Ask, bind, Goes}

-- memory may run out before any act
pub at-memory : {R : Type 0} (p : Play R) → Goes p [] (Err stop.Memory)
at-memory (Ret r) = (refl, inr refl)
at-memory (Ask act go) = inr (stop.Memory, refl, inl (refl, refl))

pub goes-then : {A B : Type 0} (p : Play A) (k : A → Play B) (a : A) (out : Result B Stop) (es fs : List Event) → Goes p es (Ok a) → Goes (k a) fs out → Goes (bind p k) (es ++ fs) out
goes-then {A = A} (Ret r) k a out es fs (none, inl same) y =
    let G : List Event → Type 0 = λ es. Goes (k r) (es ++ fs) out in
    subst G (sym none) (let K : A → Type 0 = λ a. Goes (k a) fs out in subst K (cc same) y)
goes-then (Ret r) k a out es fs (none, inr other) y = absurd (cc other)
goes-then (Ask act go) k a out es fs (inl (answer, front, rest, is, did, goes)) y =
    inl (answer, front, rest ++ fs, ap (λ r. r ++ fs) is ∙ append_assoc front rest fs, did, goes-then (go answer) k a out rest fs goes y)
goes-then (Ask act go) k a out es fs (inr (cause, other, partly)) y = absurd (cc other)

pub goes-cut : {A B : Type 0} (p : Play A) (k : A → Play B) (cause : Stop) (es : List Event) → Goes p es (Err cause) → Goes (bind p k) es (Err cause)
goes-cut (Ret r) k cause es (none, inl other) = absurd (cc other)
goes-cut {B = B} (Ret r) k cause es (none, inr same) =
    let G : List Event → Type 0 = λ es. Goes (k r) es (Err cause) in
    let C : Stop → Type 0 = λ c. Goes (k r) [] (Err c) in
    subst G (sym none) (subst C (cc same) (at-memory (k r)))
goes-cut (Ask act go) k cause es (inl (answer, front, rest, is, did, goes)) = inl (answer, front, rest, is, did, goes-cut (go answer) k cause rest goes)
goes-cut (Ask act go) k cause es (inr (why, same, partly)) = inr (why, cc same, partly)

-- an end that is only renamed
pub goes-as : {A B : Type 0} (p : Play A) (k : A → Play B) (a : A) (b : B) (es : List Event) → k a ≡ Ret b → Goes p es (Ok a) → Goes (bind p k) es (Ok b)
goes-as {B = B} p k a b es is x =
    let K : Play B → Type 0 = λ q. Goes q [] (Ok b) in
    let G : List Event → Type 0 = λ fs. Goes (bind p k) fs (Ok b) in
    subst G (append-nil es) (goes-then p k a (Ok b) es [] x (subst K (sym is) (refl, inl refl)))
