-- Values without their line feeds and outer blanks.
use Rattle.std.proofs.Common.{◌≡◌, ℕ, suc, ◌+◌, ◌<◌, get_or, drop, length-append, length-drop, true, false, not, ◌==◌, List, [], ◌∷◌, ◌++◌, length, refl, sym, ap, ◌∙◌, arith, ⊎_elim}
use Rattle.std.specs.List.{concat}
use Rattle.std.proofs.lemmas.Bool.{cond-true, cond-false, ne_eqb, false≢true, cases_Bool, or_cases, or_parts, not_from_true, not_from_false}
use Rattle.std.proofs.lemmas.List.{append-nil, get_or_append_left, get_or-drop}
use Rattle.std.proofs.lemmas.List.Elements.{filter-append}
use Rattle.mail_text.specs.Lines.{lines_of, in_front}
use Rattle.mail_text.proofs.LineLemmas.{lines_of-nil, lines_of-feed, lines_of-byte}
use Rattle.mail_headers.specs.Field.{without_feeds, trim_start, unless_last_blank, trim_end}
use Rattle.mail_text.specs.Ascii.{is_blank}
use Rattle.mail_headers.specs.Cutting.{IsFlat, is_space}

-- ---- line feeds

without_feeds-feed : (b : ℕ) (bs : List ℕ) → (b == 10) ≡ true → without_feeds (b ∷ bs) ≡ without_feeds bs
without_feeds-feed b bs feed = cond-false _ _ _ (not_from_true (b == 10) feed)

without_feeds-byte : (b : ℕ) (bs : List ℕ) → (b == 10) ≡ false → without_feeds (b ∷ bs) ≡ b ∷ without_feeds bs
without_feeds-byte b bs byte = cond-true _ _ _ (not_from_false (b == 10) byte)

without_feeds-push : (bs : List ℕ) (b : ℕ) → without_feeds (bs ++ b ∷ []) ≡ without_feeds bs ++ without_feeds (b ∷ [])
without_feeds-push bs b = filter-append (λ x. not (x == 10)) bs (b ∷ [])

concat-in_front : (b : ℕ) (ls : List (List ℕ)) → concat (in_front b ls) ≡ b ∷ concat ls
concat-in_front b [] = refl
concat-in_front b (l ∷ ls) = refl

-- the lines of a text, one after the other, are the text without its line feeds
pub concat-lines_of : (bs : List ℕ) → concat (lines_of bs) ≡ without_feeds bs
concat-lines_of [] = ap concat lines_of-nil
concat-lines_of (b ∷ bs) =
    ⊎_elim
    (λ feed. ap concat (lines_of-feed b bs feed) ∙ concat-lines_of bs ∙ sym (without_feeds-feed b bs feed))
    (λ byte. ap concat (lines_of-byte b bs byte) ∙ concat-in_front b (lines_of bs) ∙ ap (λ (l : List ℕ). b ∷ l) (concat-lines_of bs) ∙ sym (without_feeds-byte b bs byte))
    (cases_Bool (b == 10))

-- without line feeds the bytes are as they are
pub without_feeds-none : (bs : List ℕ) → ((k : ℕ) → k < length bs → get_or bs k 0 ≡ 10 → ⊥) → without_feeds bs ≡ bs
without_feeds-none [] none = refl
without_feeds-none (b ∷ bs) none =
    without_feeds-byte b bs (ne_eqb _ _ (none 0 (omega arith))) ∙ ap (λ (l : List ℕ). b ∷ l) (without_feeds-none bs (λ k l e. none (suc k) (omega arith) e))

-- parts of such bytes
pub IsFlat-after : (b : ℕ) (bs whole : List ℕ) → whole ≡ b ∷ bs → IsFlat whole → IsFlat bs
IsFlat-after b bs whole is flat k lt feed =
    flat (suc k) (omega (arith, ap (λ (l : List ℕ). length l) is)) (ap (λ (l : List ℕ). get_or l (suc k) 0) is ∙ feed)

pub IsFlat-before : (b : ℕ) (bs whole : List ℕ) → whole ≡ bs ++ b ∷ [] → IsFlat whole → IsFlat bs
IsFlat-before b bs whole is flat k lt feed =
    flat k (omega (arith, ap (λ (l : List ℕ). length l) is, length-append bs (b ∷ []))) (ap (λ (l : List ℕ). get_or l k 0) is ∙ get_or_append_left bs (b ∷ []) 0 k lt ∙ feed)

pub IsFlat-drop : (bs : List ℕ) (n : ℕ) → IsFlat bs → IsFlat (drop n bs)
IsFlat-drop bs n flat k lt feed = flat (n + k) (omega (arith, length-drop n bs)) (sym (get_or-drop n bs k 0) ∙ feed)

-- ---- blanks at the front

trim_start-blank : (b : ℕ) (bs : List ℕ) → is_blank b ≡ true → trim_start (b ∷ bs) ≡ trim_start bs
unfolding trim_start
trim_start-blank b bs blank = cond-true _ _ _ blank

trim_start-other : (b : ℕ) (bs : List ℕ) → is_blank b ≡ false → trim_start (b ∷ bs) ≡ b ∷ bs
unfolding trim_start
trim_start-other b bs other = cond-false _ _ _ other

pub trim_start-nil : trim_start [] ≡ []
unfolding trim_start
trim_start-nil = refl

-- a blank or a line feed at the front makes no difference
pub trim_start-space : (b : ℕ) (bs : List ℕ) → is_space b ≡ true → trim_start (without_feeds (b ∷ bs)) ≡ trim_start (without_feeds bs)
trim_start-space b bs space =
    ⊎_elim
    (λ feed. ap trim_start (without_feeds-feed b bs feed))
    (λ byte.
    ap trim_start (without_feeds-byte b bs byte)
    ∙ trim_start-blank b (without_feeds bs) (⊎_elim (λ blank. blank) (λ feed. absurd (false≢true (sym byte ∙ feed))) (or_cases (is_blank b) (b == 10) space)))
    (cases_Bool (b == 10))

-- another byte keeps what follows
pub trim_start-kept : (b : ℕ) (bs : List ℕ) → is_space b ≡ false → trim_start (without_feeds (b ∷ bs)) ≡ without_feeds (b ∷ bs)
trim_start-kept b bs other =
    let parts = or_parts (is_blank b) (b == 10) other in
    ap trim_start (without_feeds-byte b bs parts.1) ∙ trim_start-other b (without_feeds bs) parts.0 ∙ sym (without_feeds-byte b bs parts.1)

-- ---- blanks at the end

pub trim_end-nil : trim_end [] ≡ []
unfolding trim_end
trim_end-nil = refl

trim_end-blank : (bs : List ℕ) (b : ℕ) → is_blank b ≡ true → trim_end (bs ++ b ∷ []) ≡ trim_end bs
unfolding trim_end
trim_end-blank [] b blank = cond-true _ _ _ blank
trim_end-blank (c ∷ cs) b blank = ap (unless_last_blank c) (trim_end-blank cs b blank)

unless_last_blank-push : (c : ℕ) (bs : List ℕ) (b : ℕ) → unless_last_blank c (bs ++ b ∷ []) ≡ c ∷ (bs ++ b ∷ [])
unless_last_blank-push c [] b = refl
unless_last_blank-push c (d ∷ ds) b = refl

trim_end-other : (bs : List ℕ) (b : ℕ) → is_blank b ≡ false → trim_end (bs ++ b ∷ []) ≡ bs ++ b ∷ []
unfolding trim_end
trim_end-other [] b other = cond-false _ _ _ other
trim_end-other (c ∷ cs) b other = ap (unless_last_blank c) (trim_end-other cs b other) ∙ unless_last_blank-push c cs b

-- a blank or a line feed at the end makes no difference
pub trim_end-space : (bs : List ℕ) (b : ℕ) → is_space b ≡ true → trim_end (without_feeds (bs ++ b ∷ [])) ≡ trim_end (without_feeds bs)
trim_end-space bs b space =
    ap trim_end (without_feeds-push bs b)
    ∙ ⊎_elim
    (λ feed. ap (λ (l : List ℕ). trim_end (without_feeds bs ++ l)) (without_feeds-feed b [] feed) ∙ ap trim_end (append-nil (without_feeds bs)))
    (λ byte.
    ap (λ (l : List ℕ). trim_end (without_feeds bs ++ l)) (without_feeds-byte b [] byte)
    ∙ trim_end-blank (without_feeds bs) b (⊎_elim (λ blank. blank) (λ feed. absurd (false≢true (sym byte ∙ feed))) (or_cases (is_blank b) (b == 10) space)))
    (cases_Bool (b == 10))

-- another byte keeps what stands before it
pub trim_end-kept : (bs : List ℕ) (b : ℕ) → is_space b ≡ false → trim_end (without_feeds (bs ++ b ∷ [])) ≡ without_feeds (bs ++ b ∷ [])
trim_end-kept bs b other =
    let parts = or_parts (is_blank b) (b == 10) other in
    let cut : without_feeds (bs ++ b ∷ []) ≡ without_feeds bs ++ b ∷ [] = without_feeds-push bs b ∙ ap (λ (l : List ℕ). without_feeds bs ++ l) (without_feeds-byte b [] parts.1) in
    ap trim_end cut ∙ trim_end-other (without_feeds bs) b parts.0 ∙ sym cut

-- nothing has nothing at either end
pub trim_start-empty : (bs : List ℕ) → length bs ≡ 0 → without_feeds bs ≡ trim_start (without_feeds bs)
trim_start-empty [] none = sym trim_start-nil
trim_start-empty (b ∷ bs) none = absurd (omega arith)

pub trim_end-empty : (bs : List ℕ) → length bs ≡ 0 → without_feeds bs ≡ trim_end (without_feeds bs)
trim_end-empty [] none = sym trim_end-nil
trim_end-empty (b ∷ bs) none = absurd (omega arith)
