-- The forms of addresses over tokens (RFC 5322, section 3.4). Blanks stand at the ends of a spec and of a name and between the parts of a name, and nowhere inside a spec.
use Rattle.std.specs.Prelude.{◌≡◌, ◌≢◌, ◌⊎◌, ℕ, Bool, true, false, not, ◌==◌, ◌&&◌, ◌||◌, if◌then◌else◌, List, [], ◌∷◌, ◌++◌, length, Option, MatchOption}
use Rattle.std.specs.List.{list_all, list_any}
use Rattle.mail_addresses.specs.declared.address.Address.{Address}
use Rattle.mail_addresses.specs.Lexical.{Lexeme, blanks, comment, atom, quoted, literal, mark, text_of, texts, is_blank_byte}

-- blanks, and comments, which count as blanks (3.2.2, CFWS)
abbrev pub is_gap : Lexeme → Bool
is_gap (blanks run) = true
is_gap (comment inside) = true
is_gap t = false

abbrev pub is_solid : Lexeme → Bool
is_solid t = not (is_gap t)

-- blanks and comments alone, or nothing
abbrev pub AreGaps : List Lexeme → Type 0
AreGaps ts = list_all is_gap ts ≡ true

abbrev pub is_mark : ℕ → Lexeme → Bool
is_mark c (mark b) = b == c
is_mark c t = false

-- no mark of this byte is among the tokens
abbrev pub Lacks : ℕ → List Lexeme → Type 0
Lacks c ts = list_any (is_mark c) ts ≡ false

-- what stands before the first mark of this byte, and what stands after it
abbrev pub IsCutAtMark : ℕ → List Lexeme → List Lexeme → List Lexeme → Type 0
IsCutAtMark c ts front back = (ts ≡ front ++ mark c ∷ back) × Lacks c front

abbrev pub is_atom : Lexeme → Bool
is_atom (atom run) = true
is_atom t = false

abbrev pub is_quoted : Lexeme → Bool
is_quoted (quoted inside) = true
is_quoted t = false

-- a literal without blanks
abbrev pub is_domain_literal : Lexeme → Bool
is_domain_literal (literal inside) = not (list_any is_blank_byte inside)
is_domain_literal t = false

-- atoms joined by single dots: an atom alone, or an atom, a dot and such a list (3.2.3, dot-atom)
unfoldable pub is_dot_atom : List Lexeme → Bool
is_dot_atom [] = false
is_dot_atom (t ∷ []) = is_atom t
is_dot_atom (t ∷ dot ∷ ts) = is_atom t && is_mark 46 dot && is_dot_atom ts

-- one token, which passes
abbrev pub is_one : (Lexeme → Bool) → List Lexeme → Bool
is_one p [] = false
is_one p (t ∷ []) = p t
is_one p (t ∷ u ∷ ts) = false

-- a dot-atom or a quoted string (3.4.1, local-part)
abbrev pub is_local_part : List Lexeme → Bool
is_local_part ts = is_dot_atom ts || is_one is_quoted ts

-- a dot-atom or a literal without blanks (3.4.1, domain)
abbrev pub is_domain : List Lexeme → Bool
is_domain ts = is_dot_atom ts || is_one is_domain_literal ts

-- a local part of n bytes, `@` and a domain (3.4.1, addr-spec)
pub record IsAtDomain (ts : List Lexeme) (n : ℕ) : Type 0 where
  pub local : List Lexeme
  pub domain : List Lexeme
  pub whole : ts ≡ local ++ mark 64 ∷ domain
  pub is_local : is_local_part local ≡ true
  pub has_domain : is_domain domain ≡ true
  pub count : n ≡ length (texts local)

-- a spec whose local part has n bytes: a local part alone, or one at a domain
abbrev pub IsSpec : List Lexeme → ℕ → Type 0
IsSpec ts n = ((is_local_part ts ≡ true) × (n ≡ length (texts ts))) ⊎ IsAtDomain ts n

-- a spec with blanks at its ends is the spec of the address
pub record GivesSpec (ts : List Lexeme) (a : Address) : Type 0 where
  pub before : List Lexeme
  pub spec : List Lexeme
  pub after : List Lexeme
  pub whole : ts ≡ before ++ (spec ++ after)
  pub gaps_before : AreGaps before
  pub gaps_after : AreGaps after
  pub is_spec : IsSpec spec a.local
  pub text : a.spec ≡ texts spec

-- what a quoted string stands for: a backslash is taken off, and the byte after it stays; true after a backslash (3.2.4)
unfoldable pub unescaped : Bool → List ℕ → List ℕ
unescaped escaped [] = []
unescaped true (b ∷ bs) = b ∷ unescaped false bs
unescaped false (b ∷ bs) = if b == 92 then unescaped true bs else b ∷ unescaped false bs

-- the parts of a name: atoms, dots and quoted strings
abbrev pub is_part : Lexeme → Bool
is_part (atom run) = true
is_part (quoted inside) = true
is_part (mark b) = b == 46
is_part t = false

abbrev pub part_text : Lexeme → List ℕ
part_text (quoted inside) = unescaped false inside
part_text t = text_of t

-- a text, with a space before it if it stands apart
abbrev pub spaced : Bool → List ℕ → List ℕ
spaced apart text = if apart then 32 ∷ text else text

-- a name and its text: a part, or a part beside a name, or a part, blanks that stand for one space and a name (3.2.5, phrase, with the dots of 4.1)
pub data IsName : List Lexeme → List ℕ → Type 0 where
  one : {t : Lexeme} → is_part t ≡ true → IsName (t ∷ []) (part_text t)
  beside : {t : Lexeme} {ts : List Lexeme} {text : List ℕ} → is_part t ≡ true → IsName ts text → IsName (t ∷ ts) (part_text t ++ text)
  apart : {t : Lexeme} {ts : List Lexeme} {text : List ℕ} (gaps : List Lexeme) → is_part t ≡ true → gaps ≢ [] → AreGaps gaps → IsName ts text → IsName (t ∷ (gaps ++ ts)) (part_text t ++ 32 ∷ text)

-- a name with blanks at its ends
pub record IsPaddedName (ts : List Lexeme) (text : List ℕ) : Type 0 where
  pub before : List Lexeme
  pub name : List Lexeme
  pub after : List Lexeme
  pub whole : ts ≡ before ++ (name ++ after)
  pub gaps_before : AreGaps before
  pub gaps_after : AreGaps after
  pub is_name : IsName name text

-- a name with blanks at its ends, or blanks alone, which are no name and have no text
abbrev pub IsDisplayName : List Lexeme → List ℕ → Type 0
IsDisplayName ts text = (AreGaps ts × (text ≡ [])) ⊎ IsPaddedName ts text

-- a name, and, after its `<`, a spec, `>` and nothing but blanks
pub record IsAngled (front back : List Lexeme) (a : Address) : Type 0 where
  pub inside : List Lexeme
  pub after : List Lexeme
  pub whole : back ≡ inside ++ mark 62 ∷ after
  pub named : IsDisplayName front a.name
  pub gives_spec : GivesSpec inside a
  pub gaps_after : AreGaps after

-- an optional name and a spec in angle brackets (3.4, name-addr)
abbrev pub IsNameAddress : List Lexeme → Address → Type 0
IsNameAddress ts a = (front : List Lexeme) × ((back : List Lexeme) × (ts ≡ front ++ mark 60 ∷ back) × IsAngled front back a)

-- an address: a spec without a name, or one in angle brackets (3.4, mailbox)
abbrev pub IsMailbox : List Lexeme → Address → Type 0
IsMailbox ts a = (GivesSpec ts a × (a.name ≡ [])) ⊎ IsNameAddress ts a

-- the value of which this holds, or none if it holds of none
abbrev pub Finds : {A : Type 0} → (A → Type 0) → Option A → Type 0
Finds P found = MatchOption found ((x : _) → P x → ⊥) P
