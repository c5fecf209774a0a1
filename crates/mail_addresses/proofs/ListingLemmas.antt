-- Lists of addresses: pieces read one after another.
use Rattle.std.proofs.Common.{◌≡◌, ℕ, ◌+◌, false, List, [], ◌∷◌, ◌++◌, inl, inr, refl, sym, subst, arith, append_assoc}
use Rattle.std.specs.List.{list_all}
use Rattle.std.proofs.lemmas.Bool.{both_ways}
use Rattle.std.proofs.lemmas.List.{append-nil}
use Rattle.mail_addresses.specs.declared.address.Address.{Address}
use Rattle.mail_addresses.specs.Lexical.{Lexeme}
use Rattle.mail_addresses.specs.Forms.{is_gap, IsMailbox}
use Rattle.mail_addresses.specs.Listing.{Gives, Lists, SpellsMailbox, Spells, IsBad, IsFirstBad}

-- what pieces may spell
abbrev pub Form : Type 1
Form = List Lexeme → List Address → Type 0

pub lists_last : (S : Form) (list : List (List Lexeme)) (piece : List Lexeme) (here : List Address) → list ≡ piece ∷ [] → Gives S piece here → Lists S list here
lists_last S list piece here e gives = subst (λ (ps : List (List Lexeme)). Lists S ps here) (sym e) (here, ([], sym (append-nil here), gives, refl))

pub lists_more : (S : Form) (list rest : List (List Lexeme)) (piece : List Lexeme) (here later : List Address) → list ≡ piece ∷ rest
    → Gives S piece here → Lists S rest later → Lists S list (here ++ later)
lists_more S list rest piece here later e gives lists = subst (λ (ps : List (List Lexeme)). Lists S ps (here ++ later)) (sym e) (here, (later, refl, gives, lists))

-- the lists of the whole, once a piece more is read
pub lists_step : (S : Form) (whole list rest : List (List Lexeme)) (piece : List Lexeme) (added here : List Address) → list ≡ piece ∷ rest → Gives S piece here
    → ((later : List Address) → Lists S list later → Lists S whole (added ++ later)) → (later : List Address) → Lists S rest later → Lists S whole ((added ++ here) ++ later)
lists_step S whole list rest piece added here e gives so_far later lists =
    subst (Lists S whole) (sym (append_assoc added here later)) (so_far (here ++ later) (lists_more S list rest piece here later e gives lists))

-- the list of all, once the last piece is read
pub lists_end : (S : Form) (whole list : List (List Lexeme)) (piece : List Lexeme) (added here : List Address) → list ≡ piece ∷ [] → Gives S piece here
    → ((later : List Address) → Lists S list later → Lists S whole (added ++ later)) → Lists S whole (added ++ here)
lists_end S whole list piece added here e gives so_far = so_far here (lists_last S list piece here e gives)

-- the first bad piece of the whole, once a piece more is read
pub bad_step : (whole list rest : List (List Lexeme)) (piece : List Lexeme) (here : List Address) (number : ℕ) → list ≡ piece ∷ rest → Gives Spells piece here
    → ((at : ℕ) → IsFirstBad list at → IsFirstBad whole (number + at)) → (at : ℕ) → IsFirstBad rest at → IsFirstBad whole (number + 1 + at)
bad_step whole list rest piece here number e gives so_far at bad =
    subst (IsFirstBad whole) (omega arith) (so_far (at + 1) (subst (λ (ps : List (List Lexeme)). IsFirstBad ps (at + 1)) (sym e) (inr (here, gives, (at, refl, bad)))))

pub bad_here : (whole list rest : List (List Lexeme)) (piece : List Lexeme) (number : ℕ) → list ≡ piece ∷ rest → IsBad piece
    → ((at : ℕ) → IsFirstBad list at → IsFirstBad whole (number + at)) → IsFirstBad whole number
bad_here whole list rest piece number e bad so_far =
    subst (IsFirstBad whole) (omega arith) (so_far 0 (subst (λ (ps : List (List Lexeme)). IsFirstBad ps 0) (sym e) (inl (bad, refl))))

-- a list has lists of its first piece and of the others
pub lists_first : (S : Form) (list rest : List (List Lexeme)) (piece : List Lexeme) → list ≡ piece ∷ rest → (all : List Address) → Lists S list all → (here : List Address) × Gives S piece here
lists_first S list rest piece e all lists = let l = subst (λ (ps : List (List Lexeme)). Lists S ps all) e lists in (l.0, l.1.2)

pub lists_others : (S : Form) (list rest : List (List Lexeme)) (piece : List Lexeme) → list ≡ piece ∷ rest → (all : List Address) → Lists S list all → (later : List Address) × Lists S rest later
lists_others S list rest piece e all lists = let l = subst (λ (ps : List (List Lexeme)). Lists S ps all) e lists in (l.1.0, l.1.3)

-- tokens that are neither blanks nor a mailbox give nothing in a group
pub no_member : (piece : List Lexeme) → list_all is_gap piece ≡ false → ((a : Address) → IsMailbox piece a → ⊥) → (added : List Address) → Gives SpellsMailbox piece added → ⊥
no_member piece gaps none added (inl (g, e)) = both_ways _ gaps g
no_member piece gaps none added (inr (a, e, is)) = none a is
