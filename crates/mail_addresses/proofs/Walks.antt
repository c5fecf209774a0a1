-- Tokens of bytes that are walked over, one by one.
use Rattle.std.proofs.Common.{◌≡◌, ◌≢◌, ℕ, ◌-◌, ◌≤◌, Bool, true, false, not, ◌&&◌, ◌==◌, List, [], ◌∷◌, ◌++◌, Option, Some, None, MatchOption, inl, inr, refl, sym, ap, ◌∙◌, length, take, arith, length-append}
use Rattle.std.specs.Borrow.{Bor}
use Rattle.std.specs.List.{list_all, list_any}
use Rattle.std.proofs.lemmas.Bool.{and_parts, and_from, and_left, and_right, or_from, not-true, ne_eqb, false≢true, both_ways}
use Rattle.std.proofs.lemmas.List.{append-nil, take_at}
use Rattle.mail_addresses.specs.Lexical.{Lexeme, blanks, comment, atom, quoted, literal, mark, unclosed, text_of, texts, is_blank_byte, is_atom_byte, begins, IsRun, IsToken, StandBefore, AreTokens}
use Rattle.mail_addresses.specs.Forms.{is_mark, is_atom, is_dot_atom, is_one, is_local_part, is_domain, IsSpec, Lacks, IsCutAtMark}
use Rattle.mail_addresses.specs.Listing.{pieces}
use Rattle.mail_addresses.specs.Pieces.{IsLastPiece, IsPieceBefore}
use Rattle.mail_addresses.specs.Plain.{AreFront}
use Rattle.mail_addresses.specs.Tokens.{tokens_in}
use Rattle.mail_addresses.proofs.ListLemmas.{empty_front}
use Rattle.mail_addresses.proofs.MailboxLemmas.{has_mark}
use Rattle.mail_addresses.proofs.TotalLemmas.{are_in, mark_is}
use Rattle.mail_addresses.proofs.TokenUnique.{tokens_unique}
use Rattle.mail_addresses.proofs.PlainLemmas.{front_append, front_one, front_none, front_within}

-- ---- the tokens of bytes

pub in_is : (bytes : List ℕ) (ts : List Lexeme) → AreTokens bytes ts → tokens_in bytes ≡ ts
in_is bytes ts are = tokens_unique bytes (tokens_in bytes) ts (are_in bytes) are

pub texts_in : (bytes : List ℕ) → texts (tokens_in bytes) ≡ bytes
texts_in bytes = (are_in bytes).joined

texts_none : texts [] ≡ []
unfolding texts
texts_none = refl

pub in_none : (bytes : List ℕ) → bytes ≡ [] → tokens_in bytes ≡ []
unfolding texts
in_none bytes e = in_is bytes [] (record { joined = sym e; stand = tt })

-- bytes that aren't empty have a token
pub some_in : (bytes : List ℕ) → bytes ≢ [] → (t : Lexeme) × ((ts : List Lexeme) × (tokens_in bytes ≡ t ∷ ts))
some_in bytes some = go (tokens_in bytes) refl
  where
    go : (ts : List Lexeme) → tokens_in bytes ≡ ts → (t : Lexeme) × ((us : List Lexeme) × (tokens_in bytes ≡ t ∷ us))
    go [] e = absurd (some (sym (texts_in bytes) ∙ ap texts e ∙ texts_none))
    go (t ∷ ts) e = (t, (ts, e))

pub front_in : (bytes rest : List ℕ) (ts : List Lexeme) → AreFront bytes rest ts → tokens_in bytes ≡ ts ++ tokens_in rest
front_in bytes rest ts front =
    let last : AreFront rest [] (tokens_in rest) = record { joined = sym (texts_in rest) ∙ sym (append-nil (texts (tokens_in rest))); stand = (are_in rest).stand } in
    let all = front_append bytes rest [] ts (tokens_in rest) front last in
    in_is bytes (ts ++ tokens_in rest) (record { joined = sym (all.joined ∙ append-nil (texts (ts ++ tokens_in rest))); stand = all.stand })

pub in_more : (rest after : List ℕ) (t : Lexeme) → rest ≡ text_of t ++ after → IsToken t after → tokens_in rest ≡ t ∷ tokens_in after
in_more rest after t e is = front_in rest after (t ∷ []) (front_one rest after t e is)

-- ---- tokens before a rest are tokens by themselves

front_ends : (p : ℕ → Bool) (xs rest : List ℕ) → begins p (xs ++ rest) ≡ false → begins p (xs ++ []) ≡ false
front_ends p [] rest h = refl
front_ends p (x ∷ xs) rest h = h

run_alone : (p : ℕ → Bool) (run xs rest : List ℕ) → IsRun p run (xs ++ rest) → IsRun p run (xs ++ [])
run_alone p run xs rest is = record { some = is.some; all = is.all; ends = front_ends p xs rest is.ends }

token_alone : (t : Lexeme) (xs rest : List ℕ) → IsToken t (xs ++ rest) → IsToken t (xs ++ [])
token_alone (blanks run) xs rest is = run_alone is_blank_byte run xs rest is
token_alone (comment inside) xs rest is = is
token_alone (atom run) xs rest is = run_alone is_atom_byte run xs rest is
token_alone (quoted inside) xs rest is = is
token_alone (literal inside) xs rest is = is
token_alone (mark b) xs rest is = is
token_alone (unclosed text) xs rest (never, none) = (never, ap (λ (ys : List ℕ). ys ++ []) (empty_front xs rest none))

stand_alone : (ts : List Lexeme) (rest : List ℕ) → StandBefore ts rest → StandBefore ts []
stand_alone [] rest h = tt
stand_alone (t ∷ ts) rest h = (token_alone t (texts ts) rest h.0, stand_alone ts rest h.1)

front_bytes : (bytes rest : List ℕ) (ts : List Lexeme) → AreFront bytes rest ts → take (length bytes - length rest) bytes ≡ texts ts
front_bytes bytes rest ts front =
    let count : length (texts ts ++ rest) - length rest ≡ length (texts ts) = omega (arith, length-append (texts ts) rest) in
    ap (λ (xs : List ℕ). take (length xs - length rest) xs) front.joined ∙ ap (λ (n : ℕ). take n (texts ts ++ rest)) count ∙ take_at (texts ts) rest (length (texts ts)) refl

pub front_alone : (bytes rest : List ℕ) (ts : List Lexeme) → AreFront bytes rest ts → tokens_in (take (length bytes - length rest) bytes) ≡ ts
front_alone bytes rest ts front = in_is (take (length bytes - length rest) bytes) ts (record { joined = sym (front_bytes bytes rest ts front); stand = stand_alone ts rest front.stand })

-- ---- a walk over tokens that pass a test

pub record Walked (p : Lexeme → Bool) (bytes rest : List ℕ) : Type 0 where
  pub front : List Lexeme
  pub is_front : AreFront bytes rest front
  pub all : list_all p front ≡ true

pub walked_none : (p : Lexeme → Bool) (bytes : List ℕ) → Walked p bytes bytes
walked_none p bytes = record { front = []; is_front = front_none bytes bytes refl; all = refl }

all_push : (p : Lexeme → Bool) (ts : List Lexeme) (t : Lexeme) → list_all p ts ≡ true → p t ≡ true → list_all p (ts ++ t ∷ []) ≡ true
all_push p [] t h k = and_from _ _ k refl
all_push p (u ∷ ts) t h k = let both = and_parts _ _ h in and_from _ _ both.0 (all_push p ts t both.1 k)

all_fails : (p : Lexeme → Bool) (ts : List Lexeme) (t : Lexeme) (us : List Lexeme) → p t ≡ false → list_all p (ts ++ t ∷ us) ≡ false
all_fails p [] t us k = and_left _ _ k
all_fails p (u ∷ ts) t us k = and_right _ _ (all_fails p ts t us k)

pub walked_more : (p : Lexeme → Bool) (bytes rest after : List ℕ) (t : Lexeme) → Walked p bytes rest → rest ≡ text_of t ++ after → IsToken t after → p t ≡ true → Walked p bytes after
walked_more p bytes rest after t w e is passes = record {
  front = w.front ++ t ∷ [];
  is_front = front_append bytes rest after w.front (t ∷ []) w.is_front (front_one rest after t e is);
  all = all_push p w.front t w.all passes;
}

pub walked_within : (p : Lexeme → Bool) (bytes rest : List ℕ) → Walked p bytes rest → length rest ≤ length bytes
walked_within p bytes rest w = front_within bytes rest w.front w.is_front

-- what was walked over, taken by itself
pub walked_front : (p : Lexeme → Bool) (bytes rest front : List ℕ) → Walked p bytes rest → front ≡ take (length bytes - length rest) bytes → list_all p (tokens_in front) ≡ true
walked_front p bytes rest front w e = ap (λ (xs : List ℕ). list_all p (tokens_in xs)) e ∙ ap (list_all p) (front_alone bytes rest w.front w.is_front) ∙ w.all

pub walked_cut : (p : Lexeme → Bool) (bytes rest front : List ℕ) → Walked p bytes rest → front ≡ take (length bytes - length rest) bytes → tokens_in bytes ≡ tokens_in front ++ tokens_in rest
walked_cut p bytes rest front w e =
    front_in bytes rest w.front w.is_front
    ∙ ap (λ (ts : List Lexeme). ts ++ tokens_in rest) (sym (front_alone bytes rest w.front w.is_front) ∙ ap tokens_in (sym e))

pub walked_fails : (p : Lexeme → Bool) (bytes rest after : List ℕ) (t : Lexeme) → Walked p bytes rest → rest ≡ text_of t ++ after → IsToken t after → p t ≡ false → list_all p (tokens_in bytes) ≡ false
walked_fails p bytes rest after t w e is fails =
    ap (list_all p) (front_in bytes rest w.front w.is_front ∙ ap (λ (ts : List Lexeme). w.front ++ ts) (in_more rest after t e is))
    ∙ all_fails p w.front t (tokens_in after) fails

pub walked_all : (p : Lexeme → Bool) (bytes rest : List ℕ) → Walked p bytes rest → rest ≡ [] → list_all p (tokens_in bytes) ≡ true
walked_all p bytes rest w e =
    ap (list_all p) (front_in bytes rest w.front w.is_front ∙ ap (λ (ts : List Lexeme). w.front ++ ts) (in_none rest e) ∙ append-nil w.front) ∙ w.all

pub begins_none : (p : Lexeme → Bool) (rest : List ℕ) → rest ≡ [] → begins p (tokens_in rest) ≡ false
begins_none p rest e = ap (begins p) (in_none rest e)

pub begins_with : (p : Lexeme → Bool) (rest after : List ℕ) (t : Lexeme) → rest ≡ text_of t ++ after → IsToken t after → p t ≡ false → begins p (tokens_in rest) ≡ false
begins_with p rest after t e is fails = ap (begins p) (in_more rest after t e is) ∙ fails

-- ---- a walk up to a mark

abbrev pub is_other : ℕ → Lexeme → Bool
is_other c t = not (is_mark c t)

pub lacks_from : (c : ℕ) (ts : List Lexeme) → list_all (is_other c) ts ≡ true → Lacks c ts
lacks_from c [] h = refl
lacks_from c (t ∷ ts) h = let both = and_parts _ _ h in or_from _ _ (not-true _ both.0) (lacks_from c ts both.1)

pub mark_cut : (c : ℕ) (bytes rest after front : List ℕ) (t : Lexeme) → Walked (is_other c) bytes rest → rest ≡ text_of t ++ after → IsToken t after
    → is_mark c t ≡ true → front ≡ take (length bytes - length rest) bytes
    → IsCutAtMark c (tokens_in bytes) (tokens_in front) (tokens_in after)
mark_cut c bytes rest after front t w e is found cut = (
  walked_cut (is_other c) bytes rest front w cut ∙ ap (λ (ts : List Lexeme). tokens_in front ++ ts) (in_more rest after t e is ∙ ap (λ (u : Lexeme). u ∷ tokens_in after) (mark_is c t found)),
  lacks_from c (tokens_in front) (walked_front (is_other c) bytes rest front w cut),
)

-- ---- the first piece

pub last_in : (value : List ℕ) (piece : List Lexeme) → IsLastPiece value piece → pieces (tokens_in value) ≡ piece ∷ []
last_in value piece last = ap pieces (in_is value piece last.are_tokens) ∙ last.one

pub cut_in : (value after : List ℕ) (piece : List Lexeme) → IsPieceBefore value piece after → pieces (tokens_in value) ≡ piece ∷ pieces (tokens_in after)
cut_in value after piece cut = ap pieces (in_is value (piece ++ mark 44 ∷ tokens_in after) (cut.are_tokens (tokens_in after) (are_in after))) ∙ cut.cut (tokens_in after)

pub piece_in : (value : List ℕ) (piece : List Lexeme) (after : Option (Bor (List ℕ))) → MatchOption after (IsLastPiece value piece) (λ later. IsPieceBefore value piece later.now)
    → (others : List (List Lexeme)) × (pieces (tokens_in value) ≡ piece ∷ others)
piece_in value piece None last = ([], last_in value piece last)
piece_in value piece (Some later) cut = (pieces (tokens_in later.now), cut_in value later.now piece cut)

-- ---- atoms joined by dots, and one token

pub dots_none : (rest : List ℕ) → rest ≡ [] → is_dot_atom (tokens_in rest) ≡ false
unfolding is_dot_atom
dots_none rest e = ap is_dot_atom (in_none rest e)

pub dots_one : (rest after : List ℕ) (t : Lexeme) → rest ≡ text_of t ++ after → IsToken t after → after ≡ [] → is_dot_atom (tokens_in rest) ≡ is_atom t
unfolding is_dot_atom
dots_one rest after t e is none = ap is_dot_atom (in_more rest after t e is ∙ ap (λ (ts : List Lexeme). t ∷ ts) (in_none after none))

-- the first is no atom
not_dots : (t : Lexeme) (ts : List Lexeme) → is_atom t ≡ false → is_dot_atom (t ∷ ts) ≡ false
unfolding is_dot_atom
not_dots t [] other = other
not_dots t (dot ∷ ts) other = and_left _ _ (and_left _ _ other)

pub dots_other : (rest after : List ℕ) (t : Lexeme) → rest ≡ text_of t ++ after → IsToken t after → is_atom t ≡ false → is_dot_atom (tokens_in rest) ≡ false
dots_other rest after t e is other = ap is_dot_atom (in_more rest after t e is) ∙ not_dots t (tokens_in after) other

-- an atom and another token, before what is left
two : (t u : Lexeme) (ts : List Lexeme) → is_atom t ≡ true → is_dot_atom (t ∷ u ∷ ts) ≡ (is_mark 46 u && is_dot_atom ts)
unfolding is_dot_atom
two t u ts atom_first = ap (λ (b : Bool). (b && is_mark 46 u) && is_dot_atom ts) atom_first

two_in : (rest after later : List ℕ) (t u : Lexeme) → rest ≡ text_of t ++ after → IsToken t after → after ≡ text_of u ++ later → IsToken u later → tokens_in rest ≡ t ∷ u ∷ tokens_in later
two_in rest after later t u e is f is_u = in_more rest after t e is ∙ ap (λ (ts : List Lexeme). t ∷ ts) (in_more after later u f is_u)

pub dots_after : (rest after later : List ℕ) (t u : Lexeme) → rest ≡ text_of t ++ after → IsToken t after → after ≡ text_of u ++ later → IsToken u later → is_atom t ≡ true → is_mark 46 u ≡ true
    → is_dot_atom (tokens_in rest) ≡ is_dot_atom (tokens_in later)
dots_after rest after later t u e is f is_u atom_first dot =
    ap is_dot_atom (two_in rest after later t u e is f is_u) ∙ two t u (tokens_in later) atom_first ∙ ap (λ (b : Bool). b && is_dot_atom (tokens_in later)) dot

pub dots_broken : (rest after later : List ℕ) (t u : Lexeme) → rest ≡ text_of t ++ after → IsToken t after → after ≡ text_of u ++ later → IsToken u later → is_atom t ≡ true → is_mark 46 u ≡ false
    → is_dot_atom (tokens_in rest) ≡ false
dots_broken rest after later t u e is f is_u atom_first dot =
    ap is_dot_atom (two_in rest after later t u e is f is_u) ∙ two t u (tokens_in later) atom_first ∙ and_left _ _ dot

pub only_one : (p : Lexeme → Bool) (rest after : List ℕ) (t : Lexeme) (empty : Bool) → rest ≡ text_of t ++ after → IsToken t after
    → empty ≡ (length after == 0) → empty ≡ true → is_one p (tokens_in rest) ≡ p t
only_one p rest [] t empty e is same h = ap (is_one p) (in_more rest [] t e is ∙ ap (λ (ts : List Lexeme). t ∷ ts) (in_none [] refl))
only_one p rest (b ∷ bs) t empty e is same h = absurd (false≢true (sym (ne_eqb (length (b ∷ bs)) 0 (λ z. absurd (omega (arith, z)))) ∙ sym same ∙ h))

pub only_more : (p : Lexeme → Bool) (rest after : List ℕ) (t : Lexeme) (empty : Bool) → rest ≡ text_of t ++ after → IsToken t after
    → empty ≡ (length after == 0) → empty ≡ false → is_one p (tokens_in rest) ≡ false
only_more p rest [] t empty e is same h = absurd (false≢true (sym h ∙ same))
only_more p rest (b ∷ bs) t empty e is same h =
    let some = some_in (b ∷ bs) (λ z. cc) in
    ap (is_one p) (in_more rest (b ∷ bs) t e is ∙ ap (λ (ts : List Lexeme). t ∷ ts) some.1.1)

pub only_none : (p : Lexeme → Bool) (rest : List ℕ) → rest ≡ [] → false ≡ is_one p (tokens_in rest)
only_none p rest e = ap (is_one p) (sym (in_none rest e))

-- ---- a spec

pub spec_alone : (bytes : List ℕ) → is_local_part (tokens_in bytes) ≡ true → IsSpec (tokens_in bytes) (length bytes)
spec_alone bytes h = inl (h, ap (λ (xs : List ℕ). length xs) (sym (texts_in bytes)))

pub no_spec : (ts : List Lexeme) (n : ℕ) → Lacks 64 ts → is_local_part ts ≡ false → IsSpec ts n → ⊥
no_spec ts n lacks other (inl (h, count)) = both_ways _ other h
no_spec ts n lacks other (inr at) = both_ways _ lacks (ap (list_any (is_mark 64)) at.whole ∙ has_mark 64 at.local at.domain)

pub spec_domain : (bytes local domain : List ℕ) → IsCutAtMark 64 (tokens_in bytes) (tokens_in local) (tokens_in domain)
    → is_local_part (tokens_in local) ≡ true → is_domain (tokens_in domain) ≡ true → IsSpec (tokens_in bytes) (length local)
spec_domain bytes local domain cut h k = inr (record {
  local = tokens_in local;
  domain = tokens_in domain;
  whole = cut.0;
  is_local = h;
  has_domain = k;
  count = ap (λ (xs : List ℕ). length xs) (sym (texts_in local));
})

pub local_of : (ts : List Lexeme) (o : Option ℕ) → Lacks 64 ts → MatchOption o (is_local_part ts ≡ false) (λ n. IsSpec ts n) → MatchOption o ((n : ℕ) → IsSpec ts n → ⊥) (λ n. IsSpec ts n)
local_of ts None lacks other = λ n spec. no_spec ts n lacks other spec
local_of ts (Some k) lacks spec = spec
