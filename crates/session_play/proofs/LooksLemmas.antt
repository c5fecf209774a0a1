-- The events of plays of neutral acts change no disk.
use Rattle.std.proofs.Common.{◌≡◌, ℕ, true, false, List, [], ◌∷◌, ◌++◌, refl, sym, ◌∙◌, ap, subst, inl, inr}
use Rattle.std.specs.declared.option.Option.TheVariants.{Some}
use Rattle.std.specs.declared.result.Result.{Result}
use Rattle.host_port.specs.declared.event.Event.{Event}
use Rattle.host_port.specs.declared.event.Event.TheVariants as event
use Rattle.host_port.specs.Disk.{disk}
use Rattle.host_port.specs.Calls.{World}
use Rattle.host_port.specs.Own.{own, of_others, OnlyLooks}
use Rattle.host_port.specs.Ran.{Ran}
use Rattle.host_port.proofs.RanLemmas.{own-append, disk-append}
use Rattle.host_port.proofs.OwnLemmas.{disk-of_others}
use Rattle.session_play.specs.declared.stop.Stop.{Stop}
use Rattle.session_play.specs.declared.stop.Stop.TheVariants as stop
use Rattle.session_play.specs.Input.{Input, took, Reads}
use Rattle.session_play.specs.Acts.{is_neutral, AllActs}
use Rattle.session_play.specs.Play.{Act, Answer, Line, Say, Read, Try, Changes, Recover, Child, Editor, Now, Know, Play, Ret, Ask, Says, SaysInPart, Did, Partly, Goes, Next, Loop, again, last, cut}

looks-then : (es fs : List Event) → OnlyLooks es → OnlyLooks fs → OnlyLooks (es ++ fs)
looks-then [] fs x y = y
looks-then (e ∷ es) fs x y = (x.0, looks-then es fs x.1 y)

looks-front : (es fs : List Event) → OnlyLooks (es ++ fs) → OnlyLooks es
looks-front [] fs x = tt
looks-front (e ∷ es) fs x = (x.0, looks-front es fs x.1)

looks-none : (es : List Event) → es ≡ [] → OnlyLooks es
looks-none es is = subst OnlyLooks (sym is) tt

looks-reads : (es : List Event) (i j : Input) → Reads i es j → OnlyLooks es
looks-reads [] i j r = tt
looks-reads (event.In bytes false ∷ es) i j r = (refl, looks-reads es (took i bytes) j r.2)
looks-reads (e ∷ es) i j never = absurd never

looks-says : (bytes : List ℕ) (es : List Event) → Says bytes es → OnlyLooks es
looks-says bytes [] s = tt
looks-says bytes (event.Out front false ∷ es) s = (refl, looks-says s.0 es s.2)
looks-says bytes (e ∷ es) never = absurd never

looks-part : (bytes : List ℕ) (es : List Event) → SaysInPart bytes es → OnlyLooks es
looks-part bytes [] s = tt
looks-part bytes (event.Out front false ∷ es) s = (refl, looks-part s.0 es s.2)
looks-part bytes (event.Out front true ∷ es) s = (refl, looks-none es s.2)
looks-part bytes (e ∷ es) never = absurd never

looks-line : (cause : Stop) (i : Input) (es : List Event) → Partly (Line i) cause es → OnlyLooks es
looks-line stop.Input i es (front, j, short, is) = subst OnlyLooks (sym is) (looks-then front _ (looks-reads front i j short.reads) (refl, tt))
looks-line stop.TooMuch i es (front, j, bytes, short, large, is) =
    subst OnlyLooks (sym is) (looks-then front _ (looks-reads front i j short.reads) (refl, tt))
looks-line stop.Memory i es (j, reads) = looks-reads es i j reads
looks-line stop.Output i es never = absurd never
looks-line stop.Disk i es never = absurd never

-- an act that changes nothing is carried out by events that change no disk
pub neutral-did : (act : Act) (a : Answer act) (es : List Event) → is_neutral act ≡ true → Did act a es → OnlyLooks es
neutral-did (Line i) a es neutral did = looks-reads es i did.0 did.1
neutral-did (Say bytes) u es neutral did = looks-says bytes es did
neutral-did (Read name) f es neutral did = subst OnlyLooks (sym did) (refl, tt)
neutral-did (Try name) f es neutral did = subst OnlyLooks (sym did) (refl, tt)
neutral-did (Changes c) a es neutral did = absurd (cc neutral)
neutral-did (Recover actor token) a es neutral did = absurd (cc neutral)
neutral-did (Child program args input) a es neutral did = subst OnlyLooks (sym did) (refl, tt)
neutral-did (Editor name shell command text) a es neutral did = subst OnlyLooks (sym did) (refl, tt)
neutral-did (Now tz) m es neutral did = subst OnlyLooks (sym did.1) (refl, tt)
neutral-did (Know texts) rows es neutral did = looks-none es did.0

-- where it is cut off, too
pub neutral-part : (act : Act) (cause : Stop) (es : List Event) → is_neutral act ≡ true → Partly act cause es → OnlyLooks es
neutral-part (Line i) cause es neutral part = looks-line cause i es part
neutral-part (Say bytes) stop.Output es neutral part = looks-part bytes es part
neutral-part (Say bytes) stop.Input es neutral never = absurd never
neutral-part (Say bytes) stop.Disk es neutral never = absurd never
neutral-part (Say bytes) stop.TooMuch es neutral never = absurd never
neutral-part (Say bytes) stop.Memory es neutral never = absurd never
neutral-part (Read name) stop.Disk es neutral is = subst OnlyLooks (sym is) (refl, tt)
neutral-part (Read name) stop.Memory es neutral is = subst OnlyLooks (sym is) (refl, tt)
neutral-part (Read name) stop.Input es neutral never = absurd never
neutral-part (Read name) stop.Output es neutral never = absurd never
neutral-part (Read name) stop.TooMuch es neutral never = absurd never
neutral-part (Try name) stop.Memory es neutral is = subst OnlyLooks (sym is) (refl, tt)
neutral-part (Try name) stop.Disk es neutral never = absurd never
neutral-part (Try name) stop.Input es neutral never = absurd never
neutral-part (Try name) stop.Output es neutral never = absurd never
neutral-part (Try name) stop.TooMuch es neutral never = absurd never
neutral-part (Changes c) cause es neutral part = absurd (cc neutral)
neutral-part (Recover actor token) cause es neutral part = absurd (cc neutral)
neutral-part (Child program args input) stop.Memory es neutral is = subst OnlyLooks (sym is) (refl, tt)
neutral-part (Child program args input) stop.Disk es neutral never = absurd never
neutral-part (Child program args input) stop.Input es neutral never = absurd never
neutral-part (Child program args input) stop.Output es neutral never = absurd never
neutral-part (Child program args input) stop.TooMuch es neutral never = absurd never
neutral-part (Editor name shell command text) stop.Memory es neutral is = subst OnlyLooks (sym is) (refl, tt)
neutral-part (Editor name shell command text) stop.Disk es neutral never = absurd never
neutral-part (Editor name shell command text) stop.Input es neutral never = absurd never
neutral-part (Editor name shell command text) stop.Output es neutral never = absurd never
neutral-part (Editor name shell command text) stop.TooMuch es neutral never = absurd never
neutral-part (Now tz) cause es neutral never = absurd never
neutral-part (Know texts) cause es neutral never = absurd never

goes-looks : {R : Type 0} (p : Play R) (es : List Event) (out : Result R Stop) → AllActs is_neutral p → Goes p es out → OnlyLooks es
goes-looks (Ret r) es out all g = looks-none es g.0
goes-looks (Ask act go) es out all (inl (answer, front, rest, is, did, goes)) =
    subst OnlyLooks (sym is) (looks-then front rest (neutral-did act answer front all.0 did) (goes-looks (go answer) rest out (all.1 answer) goes))
goes-looks (Ask act go) es out all (inr (cause, is, inl none)) = looks-none es none.1
goes-looks (Ask act go) es out all (inr (cause, is, inr part)) = neutral-part act cause es all.0 part

-- the events of rounds of plays of such acts change no disk
pub loop-looks : {X R : Type 0} {round : X → Play (Next X R)} → ((x : X) → AllActs is_neutral (round x))
    → {x : X} {es : List Event} {out : Result R Stop} → Loop round x es out → OnlyLooks es
loop-looks {round = round} all {x = x} (again {y = y} front rest is goes more) =
    subst OnlyLooks (sym is) (looks-then front rest (goes-looks (round x) front _ (all x) goes) (loop-looks all more))
loop-looks {round = round} all {x = x} {es = es} (last goes) = goes-looks (round x) es _ (all x) goes
loop-looks {round = round} all {x = x} {es = es} (cut goes) = goes-looks (round x) es _ (all x) goes

-- events with what follows them change no disk
pub looks-both : (es fs : List Event) → OnlyLooks es → OnlyLooks fs → OnlyLooks (es ++ fs)
looks-both es fs x y = looks-then es fs x y

same-rest : (before xs ys : List Event) → before ++ xs ≡ before ++ ys → xs ≡ ys
same-rest [] xs ys e = e
same-rest (b ∷ bs) xs ys e = same-rest bs xs ys (let rest : bs ++ xs ≡ bs ++ ys = cc in rest)

-- where a run's own events change no disk, the disk at each moment of it is the one at its start with the steps of others
pub looked : {H : Type 0} {w : World H} {old new : H} {P : List Event → Type 0}
    → ((es : List Event) → P es → OnlyLooks es) → Ran w old new P
    → (before front rest : List Event) → w.told old ≡ Some before → w.told new ≡ Some (before ++ (front ++ rest))
    → disk (w.start new) (before ++ front) ≡ disk (w.start new) (before ++ of_others front)
looked {w = w} {new = new} looks ran before front rest was told =
    let s = ran.told_is (before ++ (front ++ rest)) told in
    let same : s.0 ≡ before = (let both = sym s.1 ∙ was in cc) in
    let added : front ++ rest ≡ s.2.added = same-rest before (front ++ rest) s.2.added (s.2.is ∙ ap (λ (b : List Event). b ++ s.2.added) same) in
    let all = looks (own s.2.added) s.2.own_ones in
    let fronts : OnlyLooks (own front) = looks-front (own front) (own rest) (subst OnlyLooks (ap own (sym added) ∙ own-append front rest) all) in
    disk-append (w.start new) before front ∙ disk-of_others (disk (w.start new) before) front fronts ∙ sym (disk-append (w.start new) before (of_others front))
