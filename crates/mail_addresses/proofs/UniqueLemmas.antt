-- A list of tokens spells one list of addresses or has one first bad piece, and never both.
use Rattle.std.proofs.Common.{◌≡◌, ℕ, ◌+◌, ◌≤◌, true, List, [], ◌∷◌, ◌++◌, inl, inr, refl, sym, ap, ◌∙◌, subst, arith, length, length-append, All}
use Rattle.std.specs.List.{list_all, list_any}
use Rattle.std.proofs.lemmas.Bool.{and_parts, both_ways, not-true}
use Rattle.std.proofs.lemmas.List.Folds.{list_all-append}
use Rattle.std.proofs.lemmas.List.Elements.{All-nil, All-cons, All-append, All-same}
use Rattle.mail_addresses.specs.declared.address.Address.{Address}
use Rattle.mail_addresses.specs.Lexical.{Lexeme, mark, texts}
use Rattle.mail_addresses.specs.Forms.{is_gap, is_solid, is_mark, IsSpec, GivesSpec, IsAngled, IsMailbox}
use Rattle.mail_addresses.specs.Listing.{pieces, Gives, Lists, SpellsMailbox, SpellsGroup, Spells, IsBad, IsFirstBad, Reads, IsFault}
use Rattle.mail_addresses.proofs.FormLemmas.{local_lacks, spec_at, spec_solid, begins_solid, ends_solid, IsSolid, IsCut, spec_is_run}
use Rattle.mail_addresses.proofs.TokenLemmas.{texts-append}
use Rattle.mail_addresses.proofs.NameLemmas.{name_unique}
use Rattle.mail_addresses.proofs.MailboxLemmas.{has_mark, gaps_lack, gives_lacks, display_lacks, mailbox_lacks, mailbox_angled, angled_parts}
use Rattle.mail_addresses.proofs.GroupLemmas.{inside_lacks, grouped_parts, group_parts}
use Rattle.mail_addresses.proofs.ListingLemmas.{Form}
use Rattle.mail_addresses.proofs.TokenUnique.{tokens_unique}

-- one count of bytes of the local part
spec_count : (ts : List Lexeme) (n m : ℕ) → IsSpec ts n → IsSpec ts m → n ≡ m
spec_count ts n m (inl (h, count)) (inl (k, other)) = count ∙ sym other
spec_count ts n m (inl (h, count)) (inr at) =
    absurd (both_ways _ (local_lacks 64 ts (λ z. absurd (omega (arith, z))) h) (ap (list_any (is_mark 64)) at.whole ∙ has_mark 64 at.local at.domain))
spec_count ts n m (inr at) spec =
    at.count ∙ sym (spec_at ts at.local at.domain m at.whole (local_lacks 64 at.local (λ z. absurd (omega (arith, z))) at.is_local) spec).2

gives_cut : (ts : List Lexeme) (a : Address) (gives : GivesSpec ts a) → IsCut ts gives.before gives.spec gives.after
gives_cut ts a gives =
    let solid = spec_solid gives.spec a.local gives.is_spec in
    record {
      whole = gives.whole;
      gaps = gives.gaps_before;
      starts = begins_solid gives.spec gives.after solid;
      solid = solid.all;
      ends = ends_solid gives.after gives.gaps_after;
    }

pub record SameSpec (a b : Address) : Type 0 where
  pub spec : a.spec ≡ b.spec
  pub local : a.local ≡ b.local

gives_unique : (ts : List Lexeme) (a b : Address) → GivesSpec ts a → GivesSpec ts b → SameSpec a b
gives_unique ts a b p q =
    let run = spec_is_run ts p.before p.spec p.after b (gives_cut ts a p) q in
    record {
      spec = p.text ∙ sym run.text;
      local = spec_count p.spec a.local b.local p.is_spec run.is_spec;
    }

abbrev address : List ℕ → List ℕ → ℕ → Address
address name spec local = record { name = name; spec = spec; local = local }

same_address : (a b : Address) → a.name ≡ b.name → SameSpec a b → a ≡ b
same_address a b e same = ap (λ (n : List ℕ). address n a.spec a.local) e ∙ ap (λ (s : List ℕ). address b.name s a.local) same.spec ∙ ap (λ (k : ℕ). address b.name b.spec k) same.local

angled_unique : (front back : List Lexeme) (a b : Address) → IsAngled front back a → IsAngled front back b → a ≡ b
angled_unique front back a b p q =
    let other = angled_parts front back p.inside p.after b p.whole (gives_lacks 62 p.inside a (λ z. absurd (omega (arith, z))) (λ z. absurd (omega (arith, z))) p.gives_spec) q in
    same_address a b (name_unique front a.name b.name p.named other.named) (gives_unique p.inside a b p.gives_spec other.gives_spec)

bare_or_angled : (ts : List Lexeme) (a b : Address) → GivesSpec ts a → (front back : List Lexeme) → ts ≡ front ++ mark 60 ∷ back → ⊥
bare_or_angled ts a b gives front back whole =
    both_ways _ (gives_lacks 60 ts a (λ z. absurd (omega (arith, z))) (λ z. absurd (omega (arith, z))) gives) (ap (list_any (is_mark 60)) whole ∙ has_mark 60 front back)

mailbox_unique : (ts : List Lexeme) (a b : Address) → IsMailbox ts a → IsMailbox ts b → a ≡ b
mailbox_unique ts a b (inl (p, none)) (inl (q, nothing)) = same_address a b (none ∙ sym nothing) (gives_unique ts a b p q)
mailbox_unique ts a b (inl (p, none)) (inr (front, (back, whole, is))) = absurd (bare_or_angled ts a b p front back whole)
mailbox_unique ts a b (inr (front, (back, whole, is))) q =
    angled_unique front back a b is (mailbox_angled ts front back b whole (display_lacks 60 front a.name (λ z. absurd (omega (arith, z))) is.named) q)

-- blanks alone spell nothing
solid_no_gaps : (before spec after : List Lexeme) → IsSolid spec → list_all is_gap (before ++ (spec ++ after)) ≡ true → ⊥
solid_no_gaps before [] after solid gaps = solid.some refl
solid_no_gaps before (s ∷ spec) after solid gaps =
    let later = (and_parts (list_all is_gap before) (list_all is_gap ((s ∷ spec) ++ after)) (sym (list_all-append is_gap before ((s ∷ spec) ++ after)) ∙ gaps)).1 in
    both_ways (is_gap s) (not-true (is_gap s) (and_parts (is_solid s) (list_all is_solid spec) solid.all).0) (and_parts (is_gap s) (list_all is_gap (spec ++ after)) later).0

one_no_gaps : (piece : List Lexeme) (list : List Address) → SpellsMailbox piece list → list_all is_gap piece ≡ true → ⊥
one_no_gaps piece list (a, e, inl (p, none)) gaps =
    solid_no_gaps p.before p.spec p.after (spec_solid p.spec a.local p.is_spec) (ap (list_all is_gap) (sym p.whole) ∙ gaps)
one_no_gaps piece list (a, e, inr (front, (back, whole, is))) gaps =
    both_ways _ (gaps_lack 60 piece gaps) (ap (list_any (is_mark 60)) whole ∙ has_mark 60 front back)

spells_no_gaps : (piece : List Lexeme) (list : List Address) → Spells piece list → list_all is_gap piece ≡ true → ⊥
spells_no_gaps piece list (inl one) gaps = one_no_gaps piece list one gaps
spells_no_gaps piece list (inr (front, (back, whole, is))) gaps =
    both_ways _ (gaps_lack 58 piece gaps) (ap (list_any (is_mark 58)) whole ∙ has_mark 58 front back)

abbrev Unique : Form → Type 0
Unique S = (piece : List Lexeme) (p q : List Address) → S piece p → S piece q → p ≡ q

abbrev NoGaps : Form → Type 0
NoGaps S = (piece : List Lexeme) (p : List Address) → S piece p → list_all is_gap piece ≡ true → ⊥

gives_one : (S : Form) → NoGaps S → Unique S → (piece : List Lexeme) (p q : List Address) → Gives S piece p → Gives S piece q → p ≡ q
gives_one S none unique piece p q (inl (gaps, e)) (inl (blank, f)) = e ∙ sym f
gives_one S none unique piece p q (inl (gaps, e)) (inr s) = absurd (none piece q s gaps)
gives_one S none unique piece p q (inr s) (inl (gaps, e)) = absurd (none piece p s gaps)
gives_one S none unique piece p q (inr s) (inr t) = unique piece p q s t

lists_one : (S : Form) → NoGaps S → Unique S → (list : List (List Lexeme)) (p q : List Address) → Lists S list p → Lists S list q → p ≡ q
lists_one S none unique [] p q e f = e ∙ sym f
lists_one S none unique (piece ∷ pieces) p q (here, (later, e, gives, rest)) (first, (others, f, given, left)) =
    e ∙ ap (λ (xs : List Address). xs ++ later) (gives_one S none unique piece here first gives given)
    ∙ ap (λ (xs : List Address). first ++ xs) (lists_one S none unique pieces later others rest left) ∙ sym f

one_unique : Unique SpellsMailbox
one_unique piece p q (a, e, is) (b, f, other) = e ∙ ap (λ (x : Address). x ∷ []) (mailbox_unique piece a b is other) ∙ sym f

group_unique : Unique SpellsGroup
group_unique piece p q (front, (back, whole, is)) other =
    let grouped = group_parts piece front back q whole (display_lacks 58 front is.name (λ z. absurd (omega (arith, z))) is.named) other in
    let inside = grouped_parts front back is.inside is.after q is.whole (inside_lacks is.inside p is.lists) grouped in
    lists_one SpellsMailbox one_no_gaps one_unique (pieces is.inside) p q is.lists inside.lists

one_or_group : (piece : List Lexeme) (p q : List Address) → SpellsMailbox piece p → SpellsGroup piece q → ⊥
one_or_group piece p q (a, e, is) (front, (back, whole, grouped)) =
    both_ways _ (mailbox_lacks 58 piece a (λ z. absurd (omega (arith, z))) (λ z. absurd (omega (arith, z))) (λ z. absurd (omega (arith, z)))
    (λ z. absurd (omega (arith, z))) is) (ap (list_any (is_mark 58)) whole ∙ has_mark 58 front back)

spells_unique : Unique Spells
spells_unique piece p q (inl one) (inl other) = one_unique piece p q one other
spells_unique piece p q (inl one) (inr group) = absurd (one_or_group piece p q one group)
spells_unique piece p q (inr group) (inl one) = absurd (one_or_group piece q p one group)
spells_unique piece p q (inr group) (inr other) = group_unique piece p q group other

-- one list
pub lists_unique : (list : List (List Lexeme)) (p q : List Address) → Lists Spells list p → Lists Spells list q → p ≡ q
lists_unique list p q = lists_one Spells spells_no_gaps spells_unique list p q

bad_gives : (piece : List Lexeme) (p : List Address) → IsBad piece → Gives Spells piece p → ⊥
bad_gives piece p (some, none) (inl (gaps, e)) = both_ways _ some gaps
bad_gives piece p (some, none) (inr s) = none p s

-- no list where a piece is bad
pub lists_no_bad : (list : List (List Lexeme)) (p : List Address) (at : ℕ) → Lists Spells list p → IsFirstBad list at → ⊥
lists_no_bad [] p at lists bad = bad
lists_no_bad (piece ∷ pieces) p at (here, (later, e, gives, rest)) (inl (bad, z)) = bad_gives piece here bad gives
lists_no_bad (piece ∷ pieces) p at (here, (later, e, gives, rest)) (inr (list, given, (next, f, bad))) = lists_no_bad pieces later next rest bad

-- one first bad piece
pub bad_unique : (list : List (List Lexeme)) (m n : ℕ) → IsFirstBad list m → IsFirstBad list n → m ≡ n
bad_unique [] m n p q = absurd p
bad_unique (piece ∷ pieces) m n (inl (bad, z)) (inl (worse, y)) = z ∙ sym y
bad_unique (piece ∷ pieces) m n (inl (bad, z)) (inr (list, gives, more)) = absurd (bad_gives piece list bad gives)
bad_unique (piece ∷ pieces) m n (inr (list, gives, more)) (inl (bad, z)) = absurd (bad_gives piece list bad gives)
bad_unique (piece ∷ pieces) m n (inr (list, gives, (k, e, p))) (inr (other, given, (j, f, q))) = e ∙ ap (λ x. x + 1) (bad_unique pieces k j p q) ∙ sym f

-- the local part lies in the spec
abbrev pub IsInSpec : Address → Type 0
IsInSpec a = a.local ≤ length a.spec

spec_holds : (ts : List Lexeme) (n : ℕ) → IsSpec ts n → n ≤ length (texts ts)
spec_holds ts n (inl (h, count)) = omega (arith, count)
spec_holds ts n (inr at) =
    let longer : length (texts ts) ≡ length (texts at.local) + length (texts (mark 64 ∷ at.domain)) =
    ap (λ (us : List Lexeme). length (texts us)) at.whole ∙ ap (λ (xs : List ℕ). length xs) (texts-append at.local (mark 64 ∷ at.domain))
    ∙ length-append (texts at.local) (texts (mark 64 ∷ at.domain)) in
    omega (arith, at.count)

gives_holds : (ts : List Lexeme) (a : Address) → GivesSpec ts a → IsInSpec a
gives_holds ts a gives = let h = spec_holds gives.spec a.local gives.is_spec in omega (arith, ap (λ (xs : List ℕ). length xs) gives.text)

mailbox_holds : (ts : List Lexeme) (a : Address) → IsMailbox ts a → IsInSpec a
mailbox_holds ts a (inl (gives, none)) = gives_holds ts a gives
mailbox_holds ts a (inr (front, (back, whole, is))) = gives_holds is.inside a is.gives_spec

one_holds : (piece : List Lexeme) (list : List Address) → SpellsMailbox piece list → All IsInSpec list
one_holds piece list (a, e, is) = All-same IsInSpec list (a ∷ []) e (All-cons IsInSpec a [] (mailbox_holds piece a is) (All-nil IsInSpec))

lists_hold : (S : Form) → ((piece : List Lexeme) (list : List Address) → S piece list → All IsInSpec list) → (list : List (List Lexeme)) (p : List Address) → Lists S list p → All IsInSpec p
lists_hold S holds [] p e = All-same IsInSpec p [] e (All-nil IsInSpec)
lists_hold S holds (piece ∷ pieces) p (here, (later, e, inl (gaps, f), rest)) =
    All-same IsInSpec p (here ++ later) e (All-append IsInSpec here later (All-same IsInSpec here [] f (All-nil IsInSpec)) (lists_hold S holds pieces later rest))
lists_hold S holds (piece ∷ pieces) p (here, (later, e, inr s, rest)) =
    All-same IsInSpec p (here ++ later) e (All-append IsInSpec here later (holds piece here s) (lists_hold S holds pieces later rest))

spells_hold : (piece : List Lexeme) (list : List Address) → Spells piece list → All IsInSpec list
spells_hold piece list (inl one) = one_holds piece list one
spells_hold piece list (inr (front, (back, whole, is))) = lists_hold SpellsMailbox one_holds (pieces is.inside) list is.lists

pub all_in_spec : (list : List (List Lexeme)) (p : List Address) → Lists Spells list p → All IsInSpec p
all_in_spec list p lists = lists_hold Spells spells_hold list p lists

-- a value has one list of addresses
pub reads_unique : (value : List ℕ) (p q : List Address) → Reads value p → Reads value q → p ≡ q
reads_unique value p q r s =
    lists_unique (pieces r.tokens) p q r.lists (subst (λ (ts : List Lexeme). Lists Spells (pieces ts) q) (tokens_unique value s.tokens r.tokens s.are_tokens r.are_tokens) s.lists)

-- or a fault
pub reads_no_fault : (value : List ℕ) (p : List Address) (at : ℕ) → Reads value p → IsFault value at → ⊥
reads_no_fault value p at r f =
    lists_no_bad (pieces r.tokens) p at r.lists (subst (λ (ts : List Lexeme). IsFirstBad (pieces ts) at) (tokens_unique value f.tokens r.tokens f.are_tokens r.are_tokens) f.first_bad)

-- and one fault
pub fault_unique : (value : List ℕ) (m n : ℕ) → IsFault value m → IsFault value n → m ≡ n
fault_unique value m n f g =
    bad_unique (pieces f.tokens) m n f.first_bad (subst (λ (ts : List Lexeme). IsFirstBad (pieces ts) n) (tokens_unique value g.tokens f.tokens g.are_tokens f.are_tokens) g.first_bad)

pub reads_in_spec : (value : List ℕ) (p : List Address) → Reads value p → All IsInSpec p
reads_in_spec value p r = all_in_spec (pieces r.tokens) p r.lists
