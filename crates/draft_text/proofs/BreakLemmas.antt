-- Where no break between two messages stands: in lines that don't begin with `From `.
use Rattle.std.proofs.Common.{◌≡◌, ℕ, zero, suc, ◌+◌, ◌-◌, false, List, [], ◌∷◌, ◌++◌, length, get_or, refl, sym, ap, ◌∙◌, subst, arith, ⊎_elim, append_assoc}
use Rattle.std.specs.Prelude.{nat_eq}
use Rattle.std.specs.List.{starts_with, flat_map, AllByRecursion}
use Rattle.std.proofs.lemmas.Bool.{cases_lt, false≢true}
use Rattle.std.proofs.lemmas.List.{get_or-append_right}
use Rattle.memchr.specs.Find.{OccursAt}
use Rattle.mail_text.specs.Lines.{with_feed, HasNoFeed}
use Rattle.mbox_scan.specs.Mailbox.{from_mark, break_mark}
use Rattle.mbox_scan.proofs.StartLemmas.{OccursAt-starts_with, OccursAt-left_back, covers_no_feed}

-- a line that begins no message: it holds no line feed and doesn't begin with `From `
pub record IsQuiet (l : List ℕ) : Type 0 where
  pub apart : HasNoFeed l
  pub other : starts_with nat_eq l from_mark ≡ false

-- an occurrence after a byte
next : (b : ℕ) (hay needle : List ℕ) (k : ℕ) → OccursAt (b ∷ hay) needle (suc k) → OccursAt hay needle k
next b hay needle k there =
    let fits = there.fits in
    record {
      fits = omega arith;
      reads = λ j lt. let place : suc k + j ≡ suc (k + j) = omega arith in sym (ap (λ (i : ℕ). get_or (b ∷ hay) i 0) place) ∙ there.reads j lt;
    }

-- an occurrence at the front, without its first byte
tail : (b c : ℕ) (hay needle : List ℕ) → OccursAt (b ∷ hay) (c ∷ needle) 0 → OccursAt hay needle 0
tail b c hay needle there =
    let fits = there.fits in
    record {
      fits = omega arith;
      reads = λ j lt. let place : 0 + suc j ≡ suc (0 + j) = omega arith in sym (ap (λ (i : ℕ). get_or (b ∷ hay) i 0) place) ∙ there.reads (suc j) (omega arith);
    }

-- the lines after a line feed don't begin with `From `
no-third : (ls : List (List ℕ)) → AllByRecursion IsQuiet ls → OccursAt (flat_map with_feed ls) from_mark 0 → ⊥
no-third [] all there = let fits = there.fits in omega arith
no-third (m ∷ ms) all there =
    let later = 10 ∷ flat_map with_feed ms in
    let at : OccursAt (m ++ later) from_mark 0 = subst (λ (x : List ℕ). OccursAt x from_mark 0) (append_assoc m (10 ∷ []) (flat_map with_feed ms)) there in
    ⊎_elim
    (λ short.
    let place : length m - length m ≡ 0 = omega arith in
    let feed : get_or (m ++ later) (length m) 0 ≡ 10 = get_or-append_right m later (length m) (length m) 0 refl (omega arith) ∙ ap (λ (i : ℕ). get_or later i 0) place in
    covers_no_feed (m ++ later) 0 (length m) at (omega arith) (omega arith) feed)
    (λ long. false≢true (sym all.0.other ∙ OccursAt-starts_with m from_mark 0 (OccursAt-left_back m later from_mark 0 (omega arith) at)))
    (cases_lt (length m) 5)

-- nor does one of them after an empty line
no-second : (ls : List (List ℕ)) → AllByRecursion IsQuiet ls → OccursAt (flat_map with_feed ls) (10 ∷ from_mark) 0 → ⊥
no-second [] all there = let fits = there.fits in omega arith
no-second ([] ∷ ms) all there = no-third ms all.1 (tail 10 10 (flat_map with_feed ms) from_mark there)
no-second ((b ∷ m) ∷ ms) all there = all.0.apart 0 0 (omega arith) (there.reads 0 (omega arith))

-- a line has no break where what follows it, with its line feed, has none
in-line : (l rest : List ℕ) → HasNoFeed l → ((k : ℕ) → OccursAt (10 ∷ rest) break_mark k → ⊥) → (k : ℕ) → OccursAt (l ++ 10 ∷ rest) break_mark k → ⊥
in-line [] rest apart none k there = none k there
in-line (b ∷ l) rest apart none zero there = apart 0 0 (omega arith) (there.reads 0 (omega arith))
in-line (b ∷ l) rest apart none (suc k) there = in-line l rest (λ i d lt. apart (suc i) d (omega arith)) none k (next b (l ++ 10 ∷ rest) break_mark k there)

after-feed : (ls : List (List ℕ)) → AllByRecursion IsQuiet ls → (k : ℕ) → OccursAt (10 ∷ flat_map with_feed ls) break_mark k → ⊥
after-feed [] all zero there = no-second [] all (tail 10 10 [] (10 ∷ from_mark) there)
after-feed [] all (suc k) there = let fits = there.fits in omega arith
after-feed (m ∷ ms) all zero there = no-second (m ∷ ms) all (tail 10 10 (flat_map with_feed (m ∷ ms)) (10 ∷ from_mark) there)
after-feed (m ∷ ms) all (suc k) there =
    in-line m (flat_map with_feed ms) all.0.apart (after-feed ms all.1) k
    (subst (λ (x : List ℕ). OccursAt x break_mark k) (append_assoc m (10 ∷ []) (flat_map with_feed ms)) (next 10 (flat_map with_feed (m ∷ ms)) break_mark k there))

-- a line and quiet ones after it have no break
pub no-break : (l : List ℕ) (ls : List (List ℕ)) → HasNoFeed l → AllByRecursion IsQuiet ls → (k : ℕ) → OccursAt (flat_map with_feed (l ∷ ls)) break_mark k → ⊥
no-break l ls apart all k there =
    in-line l (flat_map with_feed ls) apart (after-feed ls all) k
    (subst (λ (x : List ℕ). OccursAt x break_mark k) (append_assoc l (10 ∷ []) (flat_map with_feed ls)) there)
