-- What loads saw, and that other acts see nothing.
use Rattle.std.proofs.Common.{◌≡◌, ◌||◌, ℕ, Bool, true, false, List, [], ◌∷◌, ◌++◌, refl, sym, ◌∙◌, subst, inl, inr}
use Rattle.std.specs.declared.result.Result.{Result}
use Rattle.host_port.specs.declared.event.Event.{Event}
use Rattle.host_port.specs.declared.event.Event.TheVariants as event
use Rattle.host_port.specs.declared.event.Seen.{Seen}
use Rattle.session_play.specs.declared.stop.Stop.{Stop}
use Rattle.session_play.specs.declared.stop.Stop.TheVariants as stop
use Rattle.session_play.specs.Input.{Input, took, Reads}
use Rattle.session_play.specs.Play.{Act, Answer, Line, Say, Read, Try, Changes, Recover, Child, Editor, Now, Know, Play, Ret, Ask, Says, SaysInPart, Did, Partly, Goes}
use Rattle.session_play.specs.Acts.{AllActs, loads_nothing}
use Rattle.session_play.specs.Causes.{some_load_saw}

pub saw-append : (test : Seen → Bool) (es fs : List Event) → some_load_saw test es ≡ false → some_load_saw test (es ++ fs) ≡ some_load_saw test fs
saw-append test [] fs h = refl
saw-append test (event.Load name s ∷ es) fs h = go (test s) h (saw-append test es fs)
  where
    go : (b : Bool) → (b || some_load_saw test es) ≡ false → (some_load_saw test es ≡ false → some_load_saw test (es ++ fs) ≡ some_load_saw test fs)
        → (b || some_load_saw test (es ++ fs)) ≡ some_load_saw test fs
    go true h more = absurd (cc h)
    go false h more = more h
saw-append test (e ∷ es) fs h = saw-append test es fs h

-- no load saw such a thing
abbrev pub Unseen : (Seen → Bool) → List Event → Type 0
Unseen test es = some_load_saw test es ≡ false

pub unseen-then : (test : Seen → Bool) (es fs : List Event) → Unseen test es → Unseen test fs → Unseen test (es ++ fs)
unseen-then test es fs x y = saw-append test es fs x ∙ y

unseen-reads : (test : Seen → Bool) (es : List Event) (i j : Input) → Reads i es j → Unseen test es
unseen-reads test [] i j r = refl
unseen-reads test (event.In bytes false ∷ es) i j r = unseen-reads test es (took i bytes) j r.2
unseen-reads test (e ∷ es) i j never = absurd never

unseen-says : (test : Seen → Bool) (bytes : List ℕ) (es : List Event) → Says bytes es → Unseen test es
unseen-says test bytes [] s = refl
unseen-says test bytes (event.Out front false ∷ es) s = unseen-says test s.0 es s.2
unseen-says test bytes (e ∷ es) never = absurd never

unseen-part : (test : Seen → Bool) (bytes : List ℕ) (es : List Event) → SaysInPart bytes es → Unseen test es
unseen-part test bytes [] s = refl
unseen-part test bytes (event.Out front false ∷ es) s = unseen-part test s.0 es s.2
unseen-part test bytes (event.Out front true ∷ es) s = subst (λ (es : List Event). some_load_saw test es ≡ false) (sym s.2) refl
unseen-part test bytes (e ∷ es) never = absurd never

pub unseen-none : (test : Seen → Bool) (es : List Event) → es ≡ [] → Unseen test es
unseen-none test es is = subst (Unseen test) (sym is) refl

-- an act that loads nothing
pub unseen-did : (test : Seen → Bool) (act : Act) (a : Answer act) (es : List Event) → loads_nothing act ≡ true → Did act a es → Unseen test es
unseen-did test (Line i) a es l did = unseen-reads test es i did.0 did.1
unseen-did test (Say bytes) u es l did = unseen-says test bytes es did
unseen-did test (Read name) f es l did = absurd (cc l)
unseen-did test (Try name) f es l did = absurd (cc l)
unseen-did test (Changes c) a es l did = absurd (cc l)
unseen-did test (Recover actor token) a es l did = absurd (cc l)
unseen-did test (Child program args input) a es l did = subst (Unseen test) (sym did) refl
unseen-did test (Editor name shell command text) a es l did = subst (Unseen test) (sym did) refl
unseen-did test (Now tz) m es l did = subst (Unseen test) (sym did.1) refl
unseen-did test (Know texts) rows es l did = unseen-none test es did.0

unseen-line : (test : Seen → Bool) (cause : Stop) (i : Input) (es : List Event) → Partly (Line i) cause es → Unseen test es
unseen-line test stop.Input i es (front, j, short, is) =
    subst (Unseen test) (sym is) (unseen-then test front (event.In [] true ∷ []) (unseen-reads test front i j short.reads) refl)
unseen-line test stop.TooMuch i es (front, j, bytes, short, large, is) =
    subst (Unseen test) (sym is) (unseen-then test front (event.In bytes false ∷ []) (unseen-reads test front i j short.reads) refl)
unseen-line test stop.Memory i es (j, reads) = unseen-reads test es i j reads
unseen-line test stop.Output i es never = absurd never
unseen-line test stop.Disk i es never = absurd never

pub unseen-cut : (test : Seen → Bool) (act : Act) (cause : Stop) (es : List Event) → loads_nothing act ≡ true → Partly act cause es → Unseen test es
unseen-cut test (Line i) cause es l part = unseen-line test cause i es part
unseen-cut test (Say bytes) stop.Output es l part = unseen-part test bytes es part
unseen-cut test (Say bytes) stop.Input es l never = absurd never
unseen-cut test (Say bytes) stop.Disk es l never = absurd never
unseen-cut test (Say bytes) stop.TooMuch es l never = absurd never
unseen-cut test (Say bytes) stop.Memory es l never = absurd never
unseen-cut test (Read name) cause es l part = absurd (cc l)
unseen-cut test (Try name) cause es l part = absurd (cc l)
unseen-cut test (Changes c) cause es l part = absurd (cc l)
unseen-cut test (Recover actor token) cause es l part = absurd (cc l)
unseen-cut test (Child program args input) stop.Memory es l is = subst (Unseen test) (sym is) refl
unseen-cut test (Child program args input) stop.Disk es l never = absurd never
unseen-cut test (Child program args input) stop.Input es l never = absurd never
unseen-cut test (Child program args input) stop.Output es l never = absurd never
unseen-cut test (Child program args input) stop.TooMuch es l never = absurd never
unseen-cut test (Editor name shell command text) stop.Memory es l is = subst (Unseen test) (sym is) refl
unseen-cut test (Editor name shell command text) stop.Disk es l never = absurd never
unseen-cut test (Editor name shell command text) stop.Input es l never = absurd never
unseen-cut test (Editor name shell command text) stop.Output es l never = absurd never
unseen-cut test (Editor name shell command text) stop.TooMuch es l never = absurd never
unseen-cut test (Now tz) cause es l never = absurd never
unseen-cut test (Know texts) cause es l never = absurd never

-- a play that loads nothing
pub goes-unseen : {R : Type 0} (test : Seen → Bool) (p : Play R) (es : List Event) (out : Result R Stop) → AllActs loads_nothing p → Goes p es out → Unseen test es
goes-unseen test (Ret r) es out all g = unseen-none test es g.0
goes-unseen test (Ask act go) es out all (inl (answer, front, rest, is, did, goes)) =
    subst (Unseen test) (sym is) (unseen-then test front rest (unseen-did test act answer front all.0 did) (goes-unseen test (go answer) rest out (all.1 answer) goes))
goes-unseen test (Ask act go) es out all (inr (cause, is, inl none)) = unseen-none test es none.1
goes-unseen test (Ask act go) es out all (inr (cause, is, inr part)) = unseen-cut test act cause es all.0 part
