-- Events that lead from a play to what is left of it, and asks in order.
use Rattle.std.proofs.Common.{◌≡◌, ◌<◌, ◌≤◌, ◌+◌, ℕ, suc, List, [], ◌∷◌, ◌++◌, length, drop, get_or, refl, sym, ap, ◌∙◌, subst, inl, append_assoc, append-nil, drop-cons, add-one}
use Rattle.std.proofs.lemmas.List.{drop_all}
use Rattle.std.specs.declared.result.Result.{Result}
use Rattle.std.specs.declared.result.Result.TheVariants.{Ok, Err}
use Rattle.host_port.specs.declared.event.Event.{Event}
use Rattle.session_play.specs.declared.stop.Stop.{Stop}
use Rattle.session_play.specs.Play.{Play, Ret, Goes}
use Rattle.session_play.specs.Steps.{After, On, Over, Refused, Ended, onward, in_order}
use Rattle.session_play.proofs.PlayLemmas.{goes-then, goes-cut, goes-as}

-- after these events the play q is left of p
abbrev pub Leads : {R : Type 0} → Play R → Play R → List Event → Type 0
Leads {R = R} p q es = (fs : List Event) (out : Result R Stop) → Goes q fs out → Goes p (es ++ fs) out

pub leads-none : {R : Type 0} (p : Play R) → Leads p p []
leads-none p fs out g = g

leads-end : {R : Type 0} (p : Play R) (r : R) (es : List Event) → Leads p (Ret r) es → Goes p es (Ok r)
leads-end p r es leads = subst (λ (l : List Event). Goes p l (Ok r)) (append-nil es) (leads [] (Ok r) (refl, inl refl))

-- what is asked for from a place on
ask-at : {S R A : Type 0} (asked : S → A → Play (After S R)) (s : S) (l : List A) (i : ℕ) (d a : A) → i < length l → get_or l i d ≡ a
    → in_order asked s (drop i l) ≡ in_order asked s (a ∷ drop (i + 1) l)
ask-at {A = A} asked s l i d a within is =
    ap (in_order asked s) (drop-cons l i d within ∙ ap (λ (b : A). b ∷ drop (suc i) l) is ∙ ap (λ (j : ℕ). a ∷ drop j l) (sym (add-one i)))

-- what is left of asks in order at a place
abbrev pub LeftAt : {S R A : Type 0} → (S → A → Play (After S R)) → S → List A → ℕ → S → List Event → Type 0
LeftAt asked first l i s es = Leads (in_order asked first l) (in_order asked s (drop i l)) es

pub asked-on : {S R A : Type 0} (asked : S → A → Play (After S R)) (first s t : S) (l : List A) (i : ℕ) (d a : A) → i < length l → get_or l i d ≡ a
    → (es fs : List Event) → LeftAt asked first l i s es → Goes (asked s a) fs (Ok (On t)) → LeftAt asked first l (i + 1) t (es ++ fs)
asked-on {S = S} {R = R} asked first s t l i d a within is es fs left did gs out g =
    let here : Leads (in_order asked first l) (in_order asked s (a ∷ drop (i + 1) l)) es =
    subst (λ (q : Play (After S R)). Leads (in_order asked first l) q es) (ask-at asked s l i d a within is) left in
    subst (λ (l2 : List Event). Goes (in_order asked first l) l2 out) (sym (append_assoc es fs gs))
    (here (fs ++ gs) out (goes-then (asked s a) (onward (λ (u : S). in_order asked u (drop (i + 1) l))) (On t) out fs gs did g))

-- the command is over with an answer
pub asked-over : {S R A : Type 0} (asked : S → A → Play (After S R)) (first s t : S) (l : List A) (i : ℕ) (d a : A) → i < length l → get_or l i d ≡ a
    → (es fs : List Event) → LeftAt asked first l i s es → Goes (asked s a) fs (Ok (Over t)) → Goes (in_order asked first l) (es ++ fs) (Ok (Over t))
asked-over {S = S} {R = R} asked first s t l i d a within is es fs left did =
    let here : Leads (in_order asked first l) (in_order asked s (a ∷ drop (i + 1) l)) es =
    subst (λ (q : Play (After S R)). Leads (in_order asked first l) q es) (ask-at asked s l i d a within is) left in
    here fs (Ok (Over t)) (goes-as (asked s a) (onward (λ (u : S). in_order asked u (drop (i + 1) l))) (Over t) (Over t) fs refl did)

-- an answer refuses what follows
pub asked-refused : {S R A : Type 0} (asked : S → A → Play (After S R)) (first s : S) (line : List ℕ) (l : List A) (i : ℕ) (d a : A) → i < length l → get_or l i d ≡ a
    → (es fs : List Event) → LeftAt asked first l i s es → Goes (asked s a) fs (Ok (Refused line)) → Goes (in_order asked first l) (es ++ fs) (Ok (Refused line))
asked-refused {S = S} {R = R} asked first s line l i d a within is es fs left did =
    let here : Leads (in_order asked first l) (in_order asked s (a ∷ drop (i + 1) l)) es =
    subst (λ (q : Play (After S R)). Leads (in_order asked first l) q es) (ask-at asked s l i d a within is) left in
    here fs (Ok (Refused line)) (goes-as (asked s a) (onward (λ (u : S). in_order asked u (drop (i + 1) l))) (Refused line) (Refused line) fs refl did)

-- an answer ends the run
pub asked-ended : {S R A : Type 0} (asked : S → A → Play (After S R)) (first s : S) (r : R) (l : List A) (i : ℕ) (d a : A) → i < length l → get_or l i d ≡ a
    → (es fs : List Event) → LeftAt asked first l i s es → Goes (asked s a) fs (Ok (Ended r)) → Goes (in_order asked first l) (es ++ fs) (Ok (Ended r))
asked-ended {S = S} {R = R} asked first s r l i d a within is es fs left did =
    let here : Leads (in_order asked first l) (in_order asked s (a ∷ drop (i + 1) l)) es =
    subst (λ (q : Play (After S R)). Leads (in_order asked first l) q es) (ask-at asked s l i d a within is) left in
    here fs (Ok (Ended r)) (goes-as (asked s a) (onward (λ (u : S). in_order asked u (drop (i + 1) l))) (Ended r) (Ended r) fs refl did)

-- an ask is cut off
pub asked-cut : {S R A : Type 0} (asked : S → A → Play (After S R)) (first s : S) (cause : Stop) (l : List A) (i : ℕ) (d a : A) → i < length l → get_or l i d ≡ a
    → (es fs : List Event) → LeftAt asked first l i s es → Goes (asked s a) fs (Err cause) → Goes (in_order asked first l) (es ++ fs) (Err cause)
asked-cut {S = S} {R = R} asked first s cause l i d a within is es fs left did =
    let here : Leads (in_order asked first l) (in_order asked s (a ∷ drop (i + 1) l)) es =
    subst (λ (q : Play (After S R)). Leads (in_order asked first l) q es) (ask-at asked s l i d a within is) left in
    here fs (Err cause) (goes-cut (asked s a) (onward (λ (u : S). in_order asked u (drop (i + 1) l))) cause fs did)

-- all was done
pub asked-all : {S R A : Type 0} (asked : S → A → Play (After S R)) (first s : S) (l : List A) (i : ℕ) → length l ≤ i → (es : List Event)
    → LeftAt asked first l i s es → Goes (in_order asked first l) es (Ok (On s))
asked-all {S = S} {R = R} asked first s l i past es left =
    leads-end (in_order asked first l) (On s) es
    (subst (λ (q : Play (After S R)). Leads (in_order asked first l) q es) (ap (in_order asked s) (drop_all i l past)) left)
