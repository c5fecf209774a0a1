-- The parts of a text that is made of a From line, the lines of a header and a body.
use Rattle.std.proofs.Common.{◌≡◌, ℕ, suc, Bool, false, ◌&&◌, ◌==◌, List, [], ◌∷◌, ◌++◌, get_or, drop, Option, Some, None, refl, sym, ap, ◌∙◌, subst, arith, append_assoc, append-nil, ⊎_elim}
use Rattle.std.specs.List.{take_while, AllByRecursion}
use Rattle.std.proofs.lemmas.Bool.{cond-true, cond-false, cases_Bool, false≢true, ne_eqb}
use Rattle.std.proofs.lemmas.List.Sums.{take_while-cons}
use Rattle.mail_text.specs.Lines.{lines_of, in_front, HasNoFeed}
use Rattle.mail_text.proofs.LineLemmas.{lines_of-nil, lines_of-feed, lines_of-byte, lines_of-apart}
use Rattle.mail_headers.specs.Header.{first_line, from_line, has_bytes, header_lines, body_of}
use Rattle.message_state.specs.Stamp.{body_part}
use Rattle.message_state.proofs.StampLemmas.{after_feeds}
use Rattle.message_state.proofs.EntryLines.{IsLine, AreLines}

head_apart : (b : ℕ) (l : List ℕ) → HasNoFeed (b ∷ l) → (b == 10) ≡ false
head_apart b l apart = ne_eqb _ _ (apart 0 0 (omega arith))

tail_apart : (b : ℕ) (l : List ℕ) → HasNoFeed (b ∷ l) → HasNoFeed l
tail_apart b l apart k d lt = apart (suc k) d (omega arith)

-- ---- lines of a text

lines_of-before_feed : (l x : List ℕ) → HasNoFeed l → lines_of (l ++ 10 ∷ x) ≡ l ∷ lines_of x
lines_of-before_feed [] x apart = lines_of-feed 10 x refl
lines_of-before_feed (b ∷ l) x apart = lines_of-byte b (l ++ 10 ∷ x) (head_apart b l apart) ∙ ap (in_front b) (lines_of-before_feed l x (tail_apart b l apart))

lines_of-some : (b : ℕ) (l : List ℕ) → HasNoFeed (b ∷ l) → lines_of (b ∷ l) ≡ (b ∷ l) ∷ []
lines_of-some b [] apart = lines_of-byte b [] (head_apart b [] apart) ∙ ap (in_front b) lines_of-nil
lines_of-some b (c ∷ l) apart = lines_of-byte b (c ∷ l) (head_apart b (c ∷ l) apart) ∙ ap (in_front b) (lines_of-some c l (tail_apart b (c ∷ l) apart))

lines_of-one : (l : List ℕ) → IsLine l → lines_of l ≡ l ∷ []
lines_of-one [] line = absurd (false≢true line.bytes)
lines_of-one (b ∷ l) line = lines_of-some b l line.apart

-- the lines after a header: an empty one and those of the body
abbrev lines_behind : Option (List ℕ) → List (List ℕ)
lines_behind None = []
lines_behind (Some body) = [] ∷ lines_of body

lines_of-header : (l : List ℕ) (ls : List (List ℕ)) (body : Option (List ℕ)) → IsLine l → AreLines ls → lines_of (l ++ (after_feeds ls ++ body_part body)) ≡ l ∷ (ls ++ lines_behind body)
lines_of-header l [] None line lines = ap lines_of (append-nil l) ∙ lines_of-one l line
lines_of-header l [] (Some body) line lines = lines_of-before_feed l (10 ∷ body) line.apart ∙ ap (λ (x : List (List ℕ)). l ∷ x) (lines_of-feed 10 body refl)
lines_of-header l (m ∷ ls) body line lines =
    ap (λ (x : List ℕ). lines_of (l ++ 10 ∷ x)) (append_assoc m (after_feeds ls) (body_part body))
    ∙ lines_of-before_feed l (m ++ (after_feeds ls ++ body_part body)) line.apart
    ∙ ap (λ (x : List (List ℕ)). l ∷ x) (lines_of-header m ls body lines.0 lines.1)

lines_of-text : (from m : List ℕ) (ls : List (List ℕ)) (body : Option (List ℕ)) → HasNoFeed from → AreLines (m ∷ ls)
    → lines_of (from ++ (after_feeds (m ∷ ls) ++ body_part body)) ≡ from ∷ ((m ∷ ls) ++ lines_behind body)
lines_of-text from m ls body apart lines =
    ap (λ (x : List ℕ). lines_of (from ++ 10 ∷ x)) (append_assoc m (after_feeds ls) (body_part body))
    ∙ lines_of-before_feed from (m ++ (after_feeds ls ++ body_part body)) apart
    ∙ ap (λ (x : List (List ℕ)). from ∷ x) (lines_of-header m ls body lines.0 lines.1)

take_while-header : (ls : List (List ℕ)) (body : Option (List ℕ)) → AreLines ls → take_while has_bytes (ls ++ lines_behind body) ≡ ls
take_while-header [] None lines = refl
take_while-header [] (Some body) lines = take_while-cons has_bytes [] (lines_of body)
take_while-header (l ∷ ls) body lines =
    take_while-cons has_bytes l (ls ++ lines_behind body) ∙ cond-true _ _ _ lines.0.bytes ∙ ap (λ (x : List (List ℕ)). l ∷ x) (take_while-header ls body lines.1)

-- ---- the body

body_of-past : (l x : List ℕ) → HasNoFeed l → body_of (l ++ x) ≡ body_of x
unfolding body_of
body_of-past [] x apart = refl
body_of-past (b ∷ l) x apart =
    cond-false _ _ _ (ap (λ (first : Bool). first && get_or (b ∷ (l ++ x)) 1 0 == 10) (head_apart b l apart)) ∙ body_of-past l x (tail_apart b l apart)

body_of-feeds : (ls : List (List ℕ)) (body : Option (List ℕ)) → AreLines ls → body_of (after_feeds ls ++ body_part body) ≡ body
unfolding body_of
body_of-feeds [] None lines = refl
body_of-feeds [] (Some body) lines = refl
body_of-feeds ([] ∷ ls) body lines = absurd (false≢true lines.0.bytes)
body_of-feeds ((b ∷ l) ∷ ls) body lines =
    cond-false _ _ _ (head_apart b l lines.0.apart)
    ∙ ap body_of (append_assoc (b ∷ l) (after_feeds ls) (body_part body))
    ∙ body_of-past (b ∷ l) (after_feeds ls ++ body_part body) lines.0.apart
    ∙ body_of-feeds ls body lines.1

-- ---- the parts of the text

-- the text has this From line, these lines of a header and this body
pub record HasTextParts (t from : List ℕ) (ls : List (List ℕ)) (body : Option (List ℕ)) : Type 0 where
  pub from_line : from_line t ≡ from
  pub header_lines : header_lines t ≡ ls
  pub body_of : body_of t ≡ body

no-parts : (t from : List ℕ) (body : Option (List ℕ)) → t ≡ from ++ body_part body → HasNoFeed from → HasTextParts t from [] body
no-parts t [] None is apart =
    let none : t ≡ [] = is in
    let all : lines_of t ≡ [] = ap lines_of none ∙ lines_of-nil in
    record {
      from_line = ap first_line all;
      header_lines = ap (λ (x : List (List ℕ)). take_while has_bytes (drop 1 x)) all;
      body_of = ap body_of none ∙ body_of-feeds [] None tt;
    }
no-parts t (b ∷ l) None is apart =
    let all = ap lines_of (is ∙ append-nil (b ∷ l)) ∙ lines_of-some b l apart in
    record {
      from_line = ap first_line all;
      header_lines = ap (λ (x : List (List ℕ)). take_while has_bytes (drop 1 x)) all;
      body_of = ap body_of is ∙ body_of-past (b ∷ l) [] apart ∙ body_of-feeds [] None tt;
    }
no-parts t from (Some body) is apart =
    let all = ap lines_of is ∙ lines_of-before_feed from (10 ∷ body) apart ∙ ap (λ (x : List (List ℕ)). from ∷ x) (lines_of-feed 10 body refl) in
    record {
      from_line = ap first_line all;
      header_lines = ap (λ (x : List (List ℕ)). take_while has_bytes (drop 1 x)) all ∙ take_while-header [] (Some body) tt;
      body_of = ap body_of is ∙ body_of-past from (body_part (Some body)) apart ∙ body_of-feeds [] (Some body) tt;
    }

-- the parts of a text that is made of a From line, lines and a body
pub text-parts : (t from : List ℕ) (ls : List (List ℕ)) (body : Option (List ℕ)) → t ≡ from ++ (after_feeds ls ++ body_part body) → HasNoFeed from → AreLines ls → HasTextParts t from ls body
text-parts t from [] body is apart lines = no-parts t from body is apart
text-parts t from (m ∷ ls) body is apart lines =
    let all = ap lines_of is ∙ lines_of-text from m ls body apart lines in
    record {
      from_line = ap first_line all;
      header_lines = ap (λ (x : List (List ℕ)). take_while has_bytes (drop 1 x)) all ∙ take_while-header (m ∷ ls) body lines;
      body_of = ap body_of is ∙ body_of-past from (after_feeds (m ∷ ls) ++ body_part body) apart ∙ body_of-feeds (m ∷ ls) body lines;
    }

-- ---- what holds of any text's lines

first-apart : (ls : List (List ℕ)) → AllByRecursion HasNoFeed ls → HasNoFeed (first_line ls)
first-apart [] all = λ k d lt. absurd (omega arith)
first-apart (l ∷ ls) all = all.0

pub from_line-apart : (t : List ℕ) → HasNoFeed (from_line t)
from_line-apart t = first-apart (lines_of t) (lines_of-apart t)

later-apart : (ls : List (List ℕ)) → AllByRecursion HasNoFeed ls → AllByRecursion HasNoFeed (drop 1 ls)
later-apart [] all = tt
later-apart (l ∷ ls) all = all.1

take-lines : (ls : List (List ℕ)) → AllByRecursion HasNoFeed ls → AreLines (take_while has_bytes ls)
take-lines [] all = tt
take-lines (l ∷ ls) all =
    ⊎_elim
    (λ some. subst AreLines (sym (take_while-cons has_bytes l ls ∙ cond-true _ _ _ some)) (record { apart = all.0; bytes = some }, take-lines ls all.1))
    (λ none. subst AreLines (sym (take_while-cons has_bytes l ls ∙ cond-false _ _ _ none)) tt)
    (cases_Bool (has_bytes l))

pub header_lines-lines : (t : List ℕ) → AreLines (header_lines t)
header_lines-lines t = take-lines (drop 1 (lines_of t)) (later-apart (lines_of t) (lines_of-apart t))

-- a text that is its own only line is apart
pub apart-one : (l : List ℕ) → lines_of l ≡ l ∷ [] → HasNoFeed l
apart-one l is = let all = subst (AllByRecursion HasNoFeed) is (lines_of-apart l) in all.0
