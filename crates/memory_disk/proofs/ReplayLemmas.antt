-- The same events make the same disk.
use Rattle.std.proofs.Common.{◌≡◌, ◌<◌, ◌+◌, ℕ, suc, List, ◌∷◌, length, drop, get_or, refl, sym, ◌∙◌, ap, subst, drop-cons, add-one}
use Rattle.host_port.specs.declared.event.Event.{Event}
use Rattle.host_port.specs.Disk.{Disk, disk, after, SameDisk}

pub same-disk : (d e : Disk) → SameDisk d e → d ≡ e
same-disk d e s = λ i. record { files = λ q. s.files q i; locks = λ q. s.locks q i; rights = λ q. s.rights q i }

pub same-refl : (d : Disk) → SameDisk d d
same-refl d = record { files = λ q. refl; locks = λ q. refl; rights = λ q. refl }

-- from the same disk the same events make the same disk
pub disk-same : (d e : Disk) (es : List Event) → SameDisk d e → SameDisk (disk d es) (disk e es)
disk-same d e es s = let P : Disk → Type 0 = λ x. SameDisk (disk d es) (disk x es) in subst P (same-disk d e s) (same-refl (disk d es))

-- the same events from a disk that is the same
pub replayed-from : (new old start : Disk) (es : List Event) → SameDisk new (disk old es) → SameDisk old start → SameDisk new (disk start es)
replayed-from new old start es made same = let P : Disk → Type 0 = λ d. SameDisk new (disk d es) in subst P (same-disk _ _ same) made

-- one more event of a list is carried out
pub replay-more : (old new whole : Disk) (es : List Event) (i : ℕ) (item : Event) → i < length es → item ≡ get_or es i item → SameDisk new (after old item) → SameDisk (disk old (drop i es)) whole
    → SameDisk (disk new (drop (i + 1) es)) whole
replay-more old new whole es i item lt is step before =
    let there : drop i es ≡ item ∷ drop (i + 1) es = drop-cons es i item lt ∙ ap (λ x. x ∷ drop (suc i) es) (sym is) ∙ ap (λ j. item ∷ drop j es) (sym (add-one i)) in
    let P : Disk → Type 0 = λ d. SameDisk d whole in
    subst P (ap (disk old) there ∙ ap (λ d. disk d (drop (i + 1) es)) (sym (same-disk _ _ step))) before
