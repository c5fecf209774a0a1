-- A group is cut in one way at its marks.
use Rattle.std.proofs.Common.{◌≡◌, ◌≢◌, ℕ, Bool, true, false, List, [], ◌∷◌, ◌++◌, inl, inr, Result, Ok, Err, IfOk, MatchBool, refl, sym, ap, ◌∙◌, subst, arith}
use Rattle.std.specs.List.{list_all, list_any}
use Rattle.std.proofs.lemmas.Bool.{both_ways, cases_Bool, cond-true, cond-false, or_from, or_parts}
use Rattle.mail_addresses.specs.declared.address.Address.{Address}
use Rattle.mail_addresses.specs.declared.pieces.Place.{Place}
use Rattle.mail_addresses.specs.declared.pieces.Place.TheVariants.{Outside}
use Rattle.mail_addresses.specs.Lexical.{Lexeme, mark}
use Rattle.mail_addresses.specs.Forms.{is_gap, is_mark, Lacks, IsDisplayName, IsMailbox}
use Rattle.mail_addresses.specs.Listing.{place_after, is_cut, in_first, pieces_from, pieces, Gives, Lists, SpellsMailbox, IsGrouped, SpellsGroup, Spells, IsBad}
use Rattle.mail_addresses.specs.declared.read.Keep.{Keep}
use Rattle.mail_addresses.specs.Keeping.{kept}
use Rattle.mail_addresses.proofs.ListLemmas.{split_unique}
use Rattle.mail_addresses.proofs.FormLemmas.{one_mark}
use Rattle.mail_addresses.proofs.PieceLemmas.{cut_is_comma}
use Rattle.mail_addresses.proofs.MailboxLemmas.{has_mark, gaps_lack, display_lacks, mailbox_lacks}

-- no piece has this mark
AllLack : ℕ → List (List Lexeme) → Type 0
AllLack c [] = Unit {0}
AllLack c (piece ∷ pieces) = Lacks c piece × AllLack c pieces

record FirstLacks (c : ℕ) (t : Lexeme) (list : List (List Lexeme)) : Type 0 where
  here : is_mark c t ≡ false
  others : AllLack c list

in_first_lacks : (c : ℕ) (t : Lexeme) (list : List (List Lexeme)) → AllLack c (in_first t list) → FirstLacks c t list
unfolding AllLack
in_first_lacks c t [] h = record { here = (or_parts _ _ h.0).0; others = tt }
in_first_lacks c t (piece ∷ pieces) h = let parts = or_parts _ _ h.0 in record { here = parts.0; others = (parts.1, h.1) }

-- where no piece has a mark that isn't a comma, no token is one
pieces_lack : (c : ℕ) → c ≢ 44 → (place : Place) (ts : List Lexeme) → AllLack c (pieces_from place ts) → Lacks c ts
unfolding AllLack pieces_from
pieces_lack c n place [] h = refl
pieces_lack c n place (t ∷ ts) h =
    elim (cases_Bool (is_cut place t)) [
      | inl e ↦ let list = subst (AllLack c) (cond-true _ _ _ e) h in or_from _ _ (one_mark c 44 t n (cut_is_comma place t e)) (pieces_lack c n Outside ts list.1)
      | inr e ↦ let list = in_first_lacks c t (pieces_from (place_after place t) ts) (subst (AllLack c) (cond-false _ _ _ e) h) in
          or_from _ _ list.here (pieces_lack c n (place_after place t) ts list.others)
    ]

-- addresses and blanks have no `;`
members_lack : (list : List (List Lexeme)) (all : List Address) → Lists SpellsMailbox list all → AllLack 59 list
unfolding AllLack
members_lack [] all h = tt
members_lack (piece ∷ pieces) all (here, (later, e, inl (gaps, f), rest)) = (gaps_lack 59 piece gaps, members_lack pieces later rest)
members_lack (piece ∷ pieces) all (here, (later, e, inr (a, f, is), rest)) =
    (mailbox_lacks 59 piece a (λ z. absurd (omega (arith, z))) (λ z. absurd (omega (arith, z))) (λ z. absurd (omega (arith, z))) (λ z. absurd (omega (arith, z))) is, members_lack pieces later rest)

pub inside_lacks : (inside : List Lexeme) (list : List Address) → Lists SpellsMailbox (pieces inside) list → Lacks 59 inside
inside_lacks inside list lists = pieces_lack 59 (λ z. absurd (omega (arith, z))) Outside inside (members_lack (pieces inside) list lists)

-- what stands in a group and after it
pub record InGroup (front inside after : List Lexeme) (list : List Address) : Type 0 where
  pub name : List ℕ
  pub named : IsDisplayName front name
  pub not_empty : name ≢ []
  pub lists : Lists SpellsMailbox (pieces inside) list
  pub gaps_after : list_all is_gap after ≡ true

pub grouped_parts : (front back inside after : List Lexeme) (list : List Address) → back ≡ inside ++ mark 59 ∷ after → Lacks 59 inside → IsGrouped front back list → InGroup front inside after list
grouped_parts front back inside after list e lacks is =
    let parts = split_unique (is_mark 59) inside is.inside after is.after (mark 59) (mark 59) lacks (inside_lacks is.inside list is.lists) refl refl (sym e ∙ is.whole) in
    record {
      name = is.name;
      named = is.named;
      not_empty = is.not_empty;
      lists = subst (λ (ts : List Lexeme). Lists SpellsMailbox (pieces ts) list) (sym parts.0) is.lists;
      gaps_after = ap (list_all is_gap) parts.1 ∙ is.gaps_after;
    }

pub grouped_from : (front back inside after : List Lexeme) (list : List Address) → back ≡ inside ++ mark 59 ∷ after → InGroup front inside after list → IsGrouped front back list
grouped_from front back inside after list e is = record {
  inside = inside;
  after = after;
  name = is.name;
  whole = e;
  named = is.named;
  not_empty = is.not_empty;
  lists = is.lists;
  gaps_after = is.gaps_after;
}

pub group_parts : (piece front back : List Lexeme) (list : List Address) → piece ≡ front ++ mark 58 ∷ back → Lacks 58 front → SpellsGroup piece list → IsGrouped front back list
group_parts piece front back list e lacks (first, (rest, whole, is)) =
    let parts = split_unique (is_mark 58) front first back rest (mark 58) (mark 58) lacks (display_lacks 58 first is.name (λ z. absurd (omega (arith, z))) is.named) refl refl (sym e ∙ whole) in
    subst (λ (ts : List Lexeme). IsGrouped ts back list) (sym parts.0) (subst (λ (ts : List Lexeme). IsGrouped first ts list) (sym parts.1) is)

pub no_group : (piece : List Lexeme) (list : List Address) → Lacks 58 piece → SpellsGroup piece list → ⊥
no_group piece list lacks (first, (rest, whole, is)) = both_ways _ lacks (ap (list_any (is_mark 58)) whole ∙ has_mark 58 first rest)

-- an answer for one form of list is an answer for another
pub added : {E : Type 0} (keep : Keep) (r : Result Bool E) (old new : List Address) (Said Form : List Address → Type 0)
    → ((list : List Address) → Said list → Form list) → ((list : List Address) → Form list → Said list)
    → IfOk r (λ good. MatchBool good ((list : List Address) × (new ≡ kept keep old list) × Said list) ((list : List Address) → Said list → ⊥))
    → IfOk r (λ good. MatchBool good ((list : List Address) × (new ≡ kept keep old list) × Form list) ((list : List Address) → Form list → ⊥))
added keep (Err e) old new Said Form f g h = tt
added keep (Ok true) old new Said Form f g (list, put, said) = (list, put, f list said)
added keep (Ok false) old new Said Form f g h = λ list form. h list (g list form)

-- what a piece that is neither blanks nor a mailbox gives, by what it spells as a group
pub piece_answers : {E : Type 0} (keep : Keep) (r : Result Bool E) (old new : List Address) (piece : List Lexeme) → list_all is_gap piece ≡ false → ((a : Address) → IsMailbox piece a → ⊥)
    → IfOk r (λ good. MatchBool good ((list : List Address) × (new ≡ kept keep old list) × SpellsGroup piece list) ((list : List Address) → SpellsGroup piece list → ⊥))
    → IfOk r (λ good. MatchBool good ((list : List Address) × (new ≡ kept keep old list) × Gives Spells piece list) (IsBad piece))
piece_answers keep (Err e) old new piece gaps none h = tt
piece_answers keep (Ok true) old new piece gaps none (list, put, group) = (list, put, inr (inr group))
piece_answers keep (Ok false) old new piece gaps none h = (gaps, bad)
  where
    bad : (list : List Address) → Spells piece list → ⊥
    bad list (inl (a, e, is)) = none a is
    bad list (inr group) = h list group
