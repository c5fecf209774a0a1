-- What is held of files, file by file.
use Rattle.std.proofs.Common.{◌≡◌, ℕ, suc, zero, ◌+◌, ◌<◌, Bool, true, false, List, [], ◌∷◌, ◌++◌, length, take, drop, get_or, slice_set, Option, Some, None, refl, ap, sym, ◌∙◌, arith, add-one}
use Rattle.std.specs.Prelude.{nat_le, if◌then◌else◌}
use Rattle.std.proofs.lemmas.Bool.{leb-true}
use Rattle.std.proofs.lemmas.List.{append-nil}
use Rattle.std.proofs.Math.Seq.{drop-append_seam}
use Rattle.host_port.specs.Calls.{load_limit}
use Rattle.folder_change.specs.declared.change.Change.{Change}
use Rattle.commit_record.specs.declared.way.Way.{Way}
use Rattle.commit_machine.specs.Edits.{only_adds}
use Rattle.commit_driver.specs.Places.{tail_at, tails_for, file_way, file_ways, part_of, parts_of}
use Rattle.commit_driver.specs.Holding.{stay_end, ends_for, held_first, held_for, IsHeldOf, AreHeldOf}

-- the ends and the files so far
ends_taken : (files : List (Option (List ℕ))) (stays : List (Option ℕ)) (at : ℕ) (f : Option (List ℕ)) (t : Option ℕ) → at < length files → at < length stays
    → ends_for (take (suc at) files) (take (suc at) stays) ≡ ends_for (take at files) (take at stays) ++ stay_end (get_or files at f) (get_or stays at t) ∷ []
ends_taken [] stays at x y l k = absurd (omega (arith, l))
ends_taken (f ∷ fs) [] at x y l k = absurd (omega (arith, k))
ends_taken (f ∷ fs) (t ∷ ts) zero x y l k = refl
ends_taken (f ∷ fs) (t ∷ ts) (suc at) x y l k = ap (λ (es : List (List ℕ)). stay_end f t ∷ es) (ends_taken fs ts at x y (omega (arith, l)) (omega (arith, k)))

pub ends-more : (files : List (Option (List ℕ))) (stays : List (Option ℕ)) (at : ℕ) (f : Option (List ℕ)) (t : Option ℕ) → at < length files → at < length stays
    → ends_for (take (at + 1) files) (take (at + 1) stays) ≡ ends_for (take at files) (take at stays) ++ stay_end (get_or files at f) (get_or stays at t) ∷ []
ends-more files stays at f t l k = ap (λ (n : ℕ). ends_for (take n files) (take n stays)) (add-one at) ∙ ends_taken files stays at f t l k

pub held-long : (files : List (Option (List ℕ))) (stays : List (Option ℕ)) → length (held_for files stays) ≡ length files
held-long [] stays = refl
held-long (f ∷ fs) [] = refl
held-long (f ∷ fs) (t ∷ ts) = ap suc (held-long fs ts)

pub ends-long : (files : List (Option (List ℕ))) (stays : List (Option ℕ)) → length stays ≡ length files → length (ends_for files stays) ≡ length files
ends-long [] stays h = refl
ends-long (f ∷ fs) [] h = absurd (omega (arith, h))
ends-long (f ∷ fs) (t ∷ ts) h = ap suc (ends-long fs ts (omega (arith, h)))

pub held-none : (files : List (Option (List ℕ))) → held_for files [] ≡ files
held-none [] = refl
held-none (f ∷ fs) = refl

held_taken : (files : List (Option (List ℕ))) (stays : List (Option ℕ)) (at : ℕ) (t : Option ℕ) (f : Option (List ℕ)) → at < length files → at < length stays
    → slice_set (held_for files (take at stays)) at (held_first (get_or stays at t) (get_or (held_for files (take at stays)) at f)) ≡ held_for files (take (suc at) stays)
held_taken [] stays at t f l k = absurd (omega (arith, l))
held_taken (x ∷ xs) [] at t f l k = absurd (omega (arith, k))
held_taken (x ∷ xs) (v ∷ vs) zero t f l k = ap (λ (ys : List (Option (List ℕ))). held_first v x ∷ ys) (sym (held-none xs))
held_taken (x ∷ xs) (v ∷ vs) (suc at) t f l k = ap (λ (ys : List (Option (List ℕ))). held_first v x ∷ ys) (held_taken xs vs at t f (omega (arith, l)) (omega (arith, k)))

pub held-more : (files : List (Option (List ℕ))) (stays : List (Option ℕ)) (at : ℕ) (t : Option ℕ) (f : Option (List ℕ)) → at < length files → at < length stays
    → slice_set (held_for files (take at stays)) at (held_first (get_or stays at t) (get_or (held_for files (take at stays)) at f)) ≡ held_for files (take (at + 1) stays)
held-more files stays at t f l k = held_taken files stays at t f l k ∙ ap (λ (n : ℕ). held_for files (take n stays)) (sym (add-one at))

-- at first nothing is held of the bytes that stay
first-file : (adds : Bool) (file : Option (List ℕ)) → IsHeldOf (tail_at adds file) (stay_end file (tail_at adds file)) file (held_first (tail_at adds file) file)
first-file false file = refl
first-file true None = refl
first-file true (Some b) = go (nat_le (length b) load_limit) refl
  where
    stay : Bool → Option ℕ
    stay t = if t then Some (length b) else None

    go : (t : Bool) → nat_le (length b) load_limit ≡ t → IsHeldOf (stay t) (stay_end (Some b) (stay t)) (Some b) (held_first (stay t) (Some b))
    go true is = (b, [], refl, leb-true (length b) load_limit is, refl, refl, ap (λ (l : List ℕ). Some l) (sym (append-nil b)))
    go false is = refl

pub held-first : (changes : List Change) (names : List (List ℕ)) (files : List (Option (List ℕ))) → length names ≡ length files
    → AreHeldOf (tails_for changes names files) (ends_for files (tails_for changes names files)) files (held_for files (tails_for changes names files))
held-first changes [] [] h = tt
held-first changes [] (f ∷ fs) h = absurd (omega (arith, h))
held-first changes (n ∷ ns) [] h = absurd (omega (arith, h))
held-first changes (n ∷ ns) (f ∷ fs) h = (first-file (only_adds changes n) f, held-first changes ns fs (omega (arith, h)))

-- one of the files, and one of them set
pub held-at : (stays : List (Option ℕ)) (ends : List (List ℕ)) (wholes helds : List (Option (List ℕ))) (at : ℕ) (e : List ℕ) → AreHeldOf stays ends wholes helds → at < length helds
    → IsHeldOf (get_or stays at None) (get_or ends at e) (get_or wholes at None) (get_or helds at None)
held-at [] [] [] [] at e all l = absurd (omega (arith, l))
held-at (t ∷ ts) (x ∷ xs) (w ∷ ws) (h ∷ hs) zero e all l = all.0
held-at (t ∷ ts) (x ∷ xs) (w ∷ ws) (h ∷ hs) (suc at) e all l = held-at ts xs ws hs at e all.1 (omega (arith, l))
held-at [] [] [] (h ∷ hs) at e all l = elim all [ ]
held-at [] [] (w ∷ ws) helds at e all l = elim all [ ]
held-at [] (x ∷ xs) wholes helds at e all l = elim all [ ]
held-at (t ∷ ts) [] wholes helds at e all l = elim all [ ]
held-at (t ∷ ts) (x ∷ xs) [] helds at e all l = elim all [ ]
held-at (t ∷ ts) (x ∷ xs) (w ∷ ws) [] at e all l = elim all [ ]

pub held-set : (stays : List (Option ℕ)) (ends : List (List ℕ)) (wholes helds : List (Option (List ℕ))) (at : ℕ) (e : List ℕ) (whole held : Option (List ℕ))
    → AreHeldOf stays ends wholes helds → at < length helds → IsHeldOf (get_or stays at None) (get_or ends at e) whole held
    → AreHeldOf stays ends (slice_set wholes at whole) (slice_set helds at held)
held-set [] [] [] [] at e whole held all l is = absurd (omega (arith, l))
held-set (t ∷ ts) (x ∷ xs) (w ∷ ws) (h ∷ hs) zero e whole held all l is = (is, all.1)
held-set (t ∷ ts) (x ∷ xs) (w ∷ ws) (h ∷ hs) (suc at) e whole held all l is = (all.0, held-set ts xs ws hs at e whole held all.1 (omega (arith, l)) is)
held-set [] [] [] (h ∷ hs) at e whole held all l is = elim all [ ]
held-set [] [] (w ∷ ws) helds at e whole held all l is = elim all [ ]
held-set [] (x ∷ xs) wholes helds at e whole held all l is = elim all [ ]
held-set (t ∷ ts) [] wholes helds at e whole held all l is = elim all [ ]
held-set (t ∷ ts) (x ∷ xs) [] helds at e whole held all l is = elim all [ ]
held-set (t ∷ ts) (x ∷ xs) (w ∷ ws) [] at e whole held all l is = elim all [ ]

pub as-many : (stays : List (Option ℕ)) (ends : List (List ℕ)) (wholes helds : List (Option (List ℕ))) → AreHeldOf stays ends wholes helds → length wholes ≡ length helds
as-many [] [] [] [] all = refl
as-many (t ∷ ts) (x ∷ xs) (w ∷ ws) (h ∷ hs) all = ap suc (as-many ts xs ws hs all.1)
as-many [] [] [] (h ∷ hs) all = elim all [ ]
as-many [] [] (w ∷ ws) helds all = elim all [ ]
as-many [] (x ∷ xs) wholes helds all = elim all [ ]
as-many (t ∷ ts) [] wholes helds all = elim all [ ]
as-many (t ∷ ts) (x ∷ xs) [] helds all = elim all [ ]
as-many (t ∷ ts) (x ∷ xs) (w ∷ ws) [] all = elim all [ ]

-- files come to be by what is held as they do by the whole ones, and what is held is what is staged for them
way-held : (stay : Option ℕ) (end : List ℕ) (whole held : Option (List ℕ)) → IsHeldOf stay end whole held → file_way held stay ≡ file_way whole stay
way-held None end whole held is = ap (λ (f : Option (List ℕ)). file_way f None) is
way-held (Some stay) end whole held is =
    ap (λ (f : Option (List ℕ)). file_way f (Some stay)) is.5 ∙ sym (ap (λ (f : Option (List ℕ)). file_way f (Some stay)) is.6)

pub ways-held : (stays : List (Option ℕ)) (ends : List (List ℕ)) (wholes helds : List (Option (List ℕ))) → AreHeldOf stays ends wholes helds → file_ways helds stays ≡ file_ways wholes stays
ways-held [] [] [] [] all = refl
ways-held (t ∷ ts) (x ∷ xs) (w ∷ ws) (h ∷ hs) all =
    ap (λ (y : Way). y ∷ file_ways hs ts) (way-held t x w h all.0) ∙ ap (λ (ys : List Way). file_way w t ∷ ys) (ways-held ts xs ws hs all.1)
ways-held [] [] [] (h ∷ hs) all = elim all [ ]
ways-held [] [] (w ∷ ws) helds all = elim all [ ]
ways-held [] (x ∷ xs) wholes helds all = elim all [ ]
ways-held (t ∷ ts) [] wholes helds all = elim all [ ]
ways-held (t ∷ ts) (x ∷ xs) [] helds all = elim all [ ]
ways-held (t ∷ ts) (x ∷ xs) (w ∷ ws) [] all = elim all [ ]

part-held : (stay : Option ℕ) (end : List ℕ) (whole held : Option (List ℕ)) → IsHeldOf stay end whole held → held ≡ part_of (file_way whole stay) whole
part-held None end None held is = is
part-held None end (Some b) held is = is
part-held (Some stay) end whole held is =
    let all : part_of (file_way whole (Some stay)) whole ≡ Some (drop stay (is.0 ++ is.1)) = ap (λ (w : Option (List ℕ)). part_of (file_way w (Some stay)) w) is.6 in
    let rest : drop stay (is.0 ++ is.1) ≡ is.1 = ap (λ (k : ℕ). drop k (is.0 ++ is.1)) (sym is.2) ∙ drop-append_seam is.0 is.1 in
    is.5 ∙ ap (λ (l : List ℕ). Some l) (sym rest) ∙ sym all

pub parts-held : (stays : List (Option ℕ)) (ends : List (List ℕ)) (wholes helds : List (Option (List ℕ))) → AreHeldOf stays ends wholes helds
    → helds ≡ parts_of wholes (file_ways wholes stays)
parts-held [] [] [] [] all = refl
parts-held (t ∷ ts) (x ∷ xs) (w ∷ ws) (h ∷ hs) all =
    ap (λ (y : Option (List ℕ)). y ∷ hs) (part-held t x w h all.0) ∙ ap (λ (ys : List (Option (List ℕ))). part_of (file_way w t) w ∷ ys) (parts-held ts xs ws hs all.1)
parts-held [] [] [] (h ∷ hs) all = elim all [ ]
parts-held [] [] (w ∷ ws) helds all = elim all [ ]
parts-held [] (x ∷ xs) wholes helds all = elim all [ ]
parts-held (t ∷ ts) [] wholes helds all = elim all [ ]
parts-held (t ∷ ts) (x ∷ xs) [] helds all = elim all [ ]
parts-held (t ∷ ts) (x ∷ xs) (w ∷ ws) [] all = elim all [ ]
