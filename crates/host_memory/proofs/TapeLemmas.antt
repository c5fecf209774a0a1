-- A tape goes on by one event.
use Rattle.std.proofs.Common.{◌≡◌, ◌≤◌, ◌+◌, ℕ, List, [], ◌∷◌, ◌++◌, length, take, get_or, arith, refl, sym, ◌∙◌, ap, subst, length-append}
use Rattle.std.specs.Prelude.{is_ok, OnErr, if◌then◌else◌, IfOk}
use Rattle.std.specs.declared.result.Result.{Result}
use Rattle.std.specs.declared.result.Result.TheVariants.{Ok, Err}
use Rattle.host_port.specs.declared.event.Event.{Event}
use Rattle.host_port.specs.Disk.{Disk, disk, after}
use Rattle.host_port.specs.declared.event.Part.{Part}
use Rattle.host_port.specs.Ends.{stopped}
use Rattle.memory_disk.specs.Standings.{ShowsSame}
use Rattle.host_port.specs.Disk.{SameDisk}
use Rattle.host_port.proofs.RanLemmas.{disk-append}
use Rattle.memory_disk.proofs.ReplayLemmas.{same-disk}

-- a view of the disk that is left by a stop
pub shows-stop : (view now old start : Disk) (e : Event) (part : Part) → ShowsSame view now → ShowsSame now (stopped old e part) → SameDisk old start → ShowsSame view (stopped start e part)
shows-stop view now old start e part seen left same =
    let P : Disk → Type 0 = λ d. ShowsSame view (stopped d e part) in
    subst P (same-disk _ _ same) (record { files = λ q. seen.files q ∙ left.files q; locks = λ q. seen.locks q ∙ left.locks q })

-- the event at the place after a list
at-length : (before rest : List Event) (e d : Event) → get_or (before ++ e ∷ rest) (length before) d ≡ e
at-length [] rest e d = refl
at-length (b ∷ before) rest e d = at-length before rest e d

-- the events before the place after a list
take-length : (before rest : List Event) → take (length before) (before ++ rest) ≡ before
take-length [] rest = refl
take-length (b ∷ before) rest = ap (λ r. b ∷ r) (take-length before rest)

-- the image at a place is that of the event there
pub image-there : (view start : Disk) (trace before rest : List Event) (e x : Event) (part : Part) (at : ℕ) → trace ≡ before ++ e ∷ rest → at ≡ length before → x ≡ get_or trace at e
    → ShowsSame view (stopped (disk start (take at trace)) x part) → ShowsSame view (stopped (disk start before) e part)
image-there view start trace before rest e x part at is at_is got seen =
    let same : x ≡ e = got ∙ ap (λ t. get_or t at e) is ∙ ap (λ k. get_or (before ++ e ∷ rest) k e) at_is ∙ at-length before rest e e in
    let front : take at trace ≡ before = ap (take at) is ∙ ap (λ k. take k (before ++ e ∷ rest)) at_is ∙ take-length before (e ∷ rest) in
    let P : List Event → Type 0 = λ b. ShowsSame view (stopped (disk start b) x part) in
    let Q : Event → Type 0 = λ y. ShowsSame view (stopped (disk start before) y part) in
    subst Q same (subst P front seen)

-- no event stands past the end
pub none-there : (trace before rest : List Event) (e : Event) (at : ℕ) → trace ≡ before ++ e ∷ rest → at ≡ length before → length trace ≤ at → ⊥
none-there trace before rest e at is at_is none = omega (arith, ap length is, length-append before (e ∷ rest))

pub if-ok : {X E : Type 0} {P Q : X → Type 0} (r : Result X E) → ((x : X) → P x → Q x) → IfOk r P → IfOk r Q
if-ok (Ok x) to p = to x p
if-ok (Err e) to p = p

pub shows-more : (start old new : Disk) (trace trace' : List Event) (e : Event) → SameDisk old (disk start trace) → SameDisk new (after old e)
    → trace' ≡ trace ++ e ∷ [] → SameDisk new (disk start trace')
shows-more start old new trace trace' e before next is =
    let whole : after old e ≡ disk start trace' = ap (λ d. after d e) (same-disk _ _ before) ∙ sym (disk-append start trace (e ∷ [])) ∙ ap (disk start) (sym is) in
    let S : Disk → Type 0 = λ d. SameDisk new d in
    subst S whole next

-- a push for which room was made
pub pushed : {A X : Type 0} (r : Result Unit X) (old new : List A) (x : A) (len cap : ℕ) → new ≡ (if is_ok r then old ++ x ∷ [] else old) → OnErr r (cap ≤ len) → len + 1 ≤ cap → new ≡ old ++ x ∷ []
pushed (Ok u) old new x len cap is full room = is
pushed (Err y) old new x len cap is full room = absurd (omega arith)
