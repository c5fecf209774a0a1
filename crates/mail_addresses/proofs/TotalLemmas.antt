-- Each value has tokens, and its pieces have a list of addresses or a first bad one.
use Rattle.std.proofs.Common.{◌≡◌, ◌≢◌, ◌⊎◌, ℕ, zero, suc, ◌+◌, ◌≤◌, Bool, true, false, not, ◌==◌, List, [], ◌∷◌, ◌++◌, Option, Some, None, inl, inr, refl, sym, ap, ◌∙◌, subst, length, take, drop, arith, append_assoc}
use Rattle.std.specs.List.{list_all, list_any}
use Rattle.std.proofs.lemmas.Bool.{cases_Bool, cases_eq, and_from, and_parts, or_from, both_ways, eqb-true, false≢true, not-true}
use Rattle.std.proofs.lemmas.List.{append-nil}
use Rattle.std.proofs.lemmas.List.Folds.{list_all-append}
use Rattle.mail_addresses.specs.declared.address.Address.{Address}
use Rattle.mail_addresses.specs.Lexical.{Lexeme, blanks, comment, atom, quoted, literal, mark, unclosed, text_of, texts, begins, is_blank_byte, is_atom_byte, IsRun, IsCommentContent, IsQuotedContent, IsLiteralContent, NeverEnds, IsEnd, NeverCloses, IsToken, StandBefore, AreTokens}
use Rattle.mail_addresses.specs.Lexical.NeverCloses.{comment_open, quote_open, literal_open}
use Rattle.mail_addresses.specs.Forms.{is_gap, is_solid, is_mark, Lacks, is_local_part, is_domain, IsSpec, GivesSpec, IsDisplayName, IsAngled, IsMailbox}
use Rattle.mail_addresses.specs.Listing.{pieces, Gives, Lists, SpellsMailbox, IsGrouped, SpellsGroup, Spells, IsBad, IsFirstBad, Reads, IsFault}
use Rattle.mail_addresses.specs.Tokens.{close, unquote, Step, first_step, tokens_within, tokens_in}
use Rattle.mail_addresses.proofs.Closing.{comment_found, comment_none}
use Rattle.mail_addresses.proofs.Quoting.{quoted_found, quoted_none}
use Rattle.mail_addresses.proofs.TokenLemmas.{enclosed_begins, token_less}
use Rattle.mail_addresses.proofs.TokenUnique.{first_is}
use Rattle.mail_addresses.proofs.FormLemmas.{spec_at, IsCut, is_cut, spec_is_run, run_is_spec}
use Rattle.mail_addresses.proofs.NameLemmas.{name_from, read_is_name, no_name, name_unique}
use Rattle.mail_addresses.proofs.MailboxLemmas.{has_mark, angled_parts, angled_from, no_angled, mailbox_angled, mailbox_bare}
use Rattle.mail_addresses.proofs.GroupLemmas.{grouped_parts, grouped_from, group_parts, no_group}
use Rattle.mail_addresses.proofs.ListingLemmas.{Form, no_member}

-- ---- tokens

-- the front that passes, and what follows it
record Parted {A : Type 0} (p : A → Bool) (xs : List A) : Type 0 where
  front : List A
  back : List A
  whole : xs ≡ front ++ back
  all : list_all p front ≡ true
  ends : begins p back ≡ false

part : {A : Type 0} (p : A → Bool) (xs : List A) → Parted p xs
part p [] = record { front = []; back = []; whole = refl; all = refl; ends = refl }
part p (x ∷ xs) =
    elim (cases_Bool (p x)) [
      | inl e ↦ let later = part p xs in record { front = x ∷ later.front; back = later.back; whole = ap (λ ys. x ∷ ys) later.whole; all = and_from _ _ e later.all; ends = later.ends }
      | inr e ↦ record { front = []; back = x ∷ xs; whole = refl; all = refl; ends = e }
    ]

-- a token at the front
record First (bs : List ℕ) : Type 0 where
  token : Lexeme
  rest : List ℕ
  joined : bs ≡ text_of token ++ rest
  is_token : IsToken token rest

enclosed_first : (IsContent : List ℕ → Type 0) (make : List ℕ → Lexeme) (first last : ℕ)
    → ((content : List ℕ) → text_of (make content) ≡ first ∷ (content ++ last ∷ [])) → ((content rest : List ℕ) → IsContent content → IsToken (make content) rest)
    → (inside : List ℕ) (end : Option ℕ) → (NeverEnds IsContent last inside → NeverCloses (first ∷ inside)) → IsEnd IsContent last inside end → First (first ∷ inside)
enclosed_first IsContent make first last text token inside None never h =
    let p = enclosed_begins IsContent make first last text token (first ∷ inside) inside [] None (unclosed (first ∷ inside)) refl never h (refl, refl) in
    record { token = unclosed (first ∷ inside); rest = []; joined = p.0; is_token = p.1 }
enclosed_first IsContent make first last text token inside (Some n) never h =
    let p = enclosed_begins IsContent make first last text token (first ∷ inside) inside (drop (n + 1) inside) (Some n) (make (take n inside)) refl never h (refl, refl) in
    record { token = make (take n inside); rest = drop (n + 1) inside; joined = p.0; is_token = p.1 }

comment_is_end : (bs : List ℕ) (end : Option ℕ) → close false 0 0 bs ≡ end → IsEnd IsCommentContent 41 bs end
comment_is_end bs None e = λ inside after content f. comment_none bs e inside after content f
comment_is_end bs (Some k) e = comment_found bs k e

quote_is_end : (bs : List ℕ) (end : Option ℕ) → unquote false 0 bs ≡ end → IsEnd IsQuotedContent 34 bs end
quote_is_end bs None e = quoted_none bs e
quote_is_end bs (Some k) e = quoted_found bs k e

abbrev stays : ℕ → Bool
stays b = not (b == 93)

all_stay : (bs : List ℕ) → list_all stays bs ≡ true → IsLiteralContent bs
all_stay [] h = refl
all_stay (b ∷ bs) h = let parts = and_parts _ _ h in or_from _ _ (not-true (b == 93) parts.0) (all_stay bs parts.1)

never_bracket : (bs : List ℕ) → list_all stays bs ≡ true → NeverEnds IsLiteralContent 93 bs
never_bracket bs h inside after content e =
    false≢true (and_parts (list_all stays inside) (list_all stays (93 ∷ after)) (sym (list_all-append stays inside (93 ∷ after)) ∙ ap (list_all stays) (sym e) ∙ h)).1

literal_ends : (bs front : List ℕ) (back : List ℕ) → bs ≡ front ++ back → list_all stays front ≡ true → begins stays back ≡ false → First (91 ∷ bs)
literal_ends bs front [] whole all ends =
    let stay : list_all stays bs ≡ true = ap (list_all stays) (whole ∙ append-nil front) ∙ all in
    record { token = unclosed (91 ∷ bs); rest = []; joined = sym (append-nil (91 ∷ bs)); is_token = (literal_open (never_bracket bs stay), refl) }
literal_ends bs front (c ∷ cs) whole all ends =
    let is : c ≡ 93 = eqb-true c 93 (from_not (c == 93) ends) in
    record {
      token = literal front;
      rest = cs;
      joined = ap (λ (xs : List ℕ). 91 ∷ xs) (whole ∙ ap (λ (b : ℕ). front ++ b ∷ cs) is ∙ sym (append_assoc front (93 ∷ []) cs));
      is_token = all_stay front all;
    }
  where
    from_not : (b : Bool) → not b ≡ false → b ≡ true
    from_not true h = refl
    from_not false h = absurd (false≢true (sym h))

literal_first : (bs : List ℕ) → First (91 ∷ bs)
literal_first bs = let p = part stays bs in literal_ends bs p.front p.back p.whole p.all p.ends

-- a byte that passes begins a run
run_first : (p : ℕ → Bool) (make : List ℕ → Lexeme) → ((run : List ℕ) → text_of (make run) ≡ run)
    → ((run rest : List ℕ) → IsRun p run rest → IsToken (make run) rest) → (b : ℕ) (bs : List ℕ) → p b ≡ true → First (b ∷ bs)
run_first p make text token b bs e =
    let later = part p bs in
    record {
      token = make (b ∷ later.front);
      rest = later.back;
      joined = ap (λ (xs : List ℕ). b ∷ xs) later.whole ∙ ap (λ (xs : List ℕ). xs ++ later.back) (sym (text (b ∷ later.front)));
      is_token = token (b ∷ later.front) later.back (record { some = λ e. cc; all = and_from _ _ e later.all; ends = later.ends });
    }

plain_first : (b : ℕ) (bs : List ℕ) → b ≢ 40 → b ≢ 34 → b ≢ 91 → First (b ∷ bs)
plain_first b bs p q r =
    elim (cases_Bool (is_blank_byte b)) [
      | inl e ↦ run_first is_blank_byte blanks (λ run. refl) (λ run rest is. is) b bs e
      | inr blank ↦ elim (cases_Bool (is_atom_byte b)) [
        | inl e ↦ run_first is_atom_byte atom (λ run. refl) (λ run rest is. is) b bs e
        | inr byte ↦ record { token = mark b; rest = bs; joined = refl; is_token = (blank, byte, p, q, r) }
      ]
    ]

first_same : (b c : ℕ) (bs : List ℕ) → b ≡ c → First (c ∷ bs) → First (b ∷ bs)
first_same b c bs e f = subst (λ (x : ℕ). First (x ∷ bs)) (sym e) f

first_token : (b : ℕ) (bs : List ℕ) → First (b ∷ bs)
first_token b bs =
    elim (cases_eq b 40) [
      | inl e ↦ first_same b 40 bs e (enclosed_first IsCommentContent comment 40 41 (λ content. refl) (λ content rest is. is) bs (close false 0 0 bs)
          (λ never. comment_open never) (comment_is_end bs (close false 0 0 bs) refl))
      | inr p ↦ elim (cases_eq b 34) [
        | inl e ↦ first_same b 34 bs e (enclosed_first IsQuotedContent quoted 34 34 (λ content. refl) (λ content rest is. is) bs (unquote false 0 bs)
            (λ never. quote_open never) (quote_is_end bs (unquote false 0 bs) refl))
        | inr q ↦ elim (cases_eq b 91) [
          | inl e ↦ first_same b 91 bs e (literal_first bs)
          | inr r ↦ plain_first b bs p q r
        ]
      ]
    ]

-- the tokens of a value of at most n bytes
within_are : (n : ℕ) (bs : List ℕ) → length bs ≤ n → (texts (tokens_within n bs) ≡ bs) × StandBefore (tokens_within n bs) []
unfolding texts tokens_within
within_are zero [] le = (refl, tt)
within_are (suc n) [] le = (refl, tt)
within_are zero (b ∷ bs) le = absurd (omega arith)
within_are (suc n) (b ∷ bs) le =
    let first = first_token b bs in
    let is = ap first_step first.joined ∙ first_is first.token first.rest first.is_token in
    let token = ap (λ (s : Step). s.token) is in
    let rest = ap (λ (s : Step). s.rest) is in
    let less = token_less first.token (b ∷ bs) first.rest first.joined first.is_token in
    let later = within_are n first.rest (omega arith) in
    let P : Lexeme → List ℕ → Type 0 = λ t after. (text_of t ++ texts (tokens_within n after) ≡ b ∷ bs) × IsToken t (texts (tokens_within n after) ++ []) × StandBefore (tokens_within n after) [] in
    let found : P first.token first.rest = (
      ap (λ (xs : List ℕ). text_of first.token ++ xs) later.0 ∙ sym first.joined,
      subst (IsToken first.token) (sym (append-nil (texts (tokens_within n first.rest)) ∙ later.0)) first.is_token,
      later.1,
    ) in
    let all = subst (λ (t : Lexeme). P t (first_step (b ∷ bs)).rest) (sym token) (subst (λ (after : List ℕ). P first.token after) (sym rest) found) in
    (all.0, (all.1, all.2))

pub are_in : (bytes : List ℕ) → AreTokens bytes (tokens_in bytes)
unfolding tokens_in
are_in bytes = let all = within_are (length bytes) bytes (omega arith) in record { joined = all.0; stand = all.1 }

pub tokens_of : (value : List ℕ) → (ts : List Lexeme) × AreTokens value ts
tokens_of value = (tokens_in value, are_in value)

-- ---- forms

pub mark_is : (c : ℕ) (t : Lexeme) → is_mark c t ≡ true → t ≡ mark c
mark_is c (mark b) h = ap (λ (x : ℕ). mark x) (eqb-true b c h)
mark_is c (blanks run) h = absurd (false≢true h)
mark_is c (comment inside) h = absurd (false≢true h)
mark_is c (atom run) h = absurd (false≢true h)
mark_is c (quoted inside) h = absurd (false≢true h)
mark_is c (literal inside) h = absurd (false≢true h)
mark_is c (unclosed text) h = absurd (false≢true h)

-- tokens are cut at a mark, or lack it
record CutAt (c : ℕ) (ts : List Lexeme) : Type 0 where
  front : List Lexeme
  back : List Lexeme
  whole : ts ≡ front ++ mark c ∷ back
  lacks : Lacks c front

cut_or : (c : ℕ) (ts : List Lexeme) → CutAt c ts ⊎ Lacks c ts
cut_or c [] = inr refl
cut_or c (t ∷ ts) =
    elim (cases_Bool (is_mark c t)) [
      | inl e ↦ inl record { front = []; back = ts; whole = ap (λ (u : Lexeme). u ∷ ts) (mark_is c t e); lacks = refl }
      | inr e ↦ elim (cut_or c ts) [
        | inl cut ↦ inl record { front = t ∷ cut.front; back = cut.back; whole = ap (λ (us : List Lexeme). t ∷ us) cut.whole; lacks = or_from _ _ e cut.lacks }
        | inr lacks ↦ inr (or_from _ _ e lacks)
      ]
    ]

-- it holds of some value, or of none
abbrev Or : (A : Type 0) → (A → Type 0) → Type 0
Or A P = ((x : A) × P x) ⊎ ((x : A) → P x → ⊥)

no_local : (ts : List Lexeme) (n : ℕ) → Lacks 64 ts → is_local_part ts ≡ false → IsSpec ts n → ⊥
no_local ts n lacks h (inl (k, count)) = both_ways _ h k
no_local ts n lacks h (inr at) = both_ways _ lacks (ap (list_any (is_mark 64)) at.whole ∙ has_mark 64 at.local at.domain)

is_spec_or : (ts : List Lexeme) → Or ℕ (IsSpec ts)
is_spec_or ts =
    elim (cut_or 64 ts) [
      | inl cut ↦ elim (cases_Bool (is_local_part cut.front)) [
        | inl l ↦ elim (cases_Bool (is_domain cut.back)) [
          | inl d ↦ inl (length (texts cut.front), inr record { local = cut.front; domain = cut.back; whole = cut.whole; is_local = l; has_domain = d; count = refl })
          | inr d ↦ inr (λ n spec. both_ways _ d (spec_at ts cut.front cut.back n cut.whole cut.lacks spec).1)
        ]
        | inr l ↦ inr (λ n spec. both_ways _ l (spec_at ts cut.front cut.back n cut.whole cut.lacks spec).0)
      ]
      | inr lacks ↦ elim (cases_Bool (is_local_part ts)) [
        | inl l ↦ inl (length (texts ts), inl (l, refl))
        | inr l ↦ inr (λ n spec. no_local ts n lacks l spec)
      ]
    ]

-- an address of this name with the spec that the tokens are
abbrev IsNamed : List ℕ → List Lexeme → Address → Type 0
IsNamed name ts a = GivesSpec ts a × (a.name ≡ name)

spec_or : (name : List ℕ) (ts : List Lexeme) → ((a : Address) × IsNamed name ts a) ⊎ ((a : Address) → GivesSpec ts a → ⊥)
spec_or name ts =
    let front = part is_gap ts in
    let run = part is_solid front.back in
    let cut : IsCut ts front.front run.front run.back = is_cut ts front.front front.back run.front run.back front.whole run.whole front.all front.ends run.all run.ends in
    elim (cases_Bool (list_all is_gap run.back)) [
      | inl gaps ↦ elim (is_spec_or run.front) [
        | inl is ↦ let a : Address = record { name = name; spec = texts run.front; local = is.0 } in
            inl (a, (run_is_spec ts front.front run.front run.back a cut record { gaps_after = gaps; is_spec = is.1; text = refl }, refl))
        | inr none ↦ inr (λ a gives. none a.local (spec_is_run ts front.front run.front run.back a cut gives).is_spec)
      ]
      | inr gaps ↦ inr (λ a gives. both_ways _ gaps (spec_is_run ts front.front run.front run.back a cut gives).gaps_after)
    ]

name_at : (ts : List Lexeme) (name : Option (List ℕ)) → name_from false false ts ≡ name → Or (List ℕ) (IsDisplayName ts)
name_at ts None e = inr (λ text named. no_name ts e text named)
name_at ts (Some text) e = inl (text, read_is_name ts text e)

name_or : (ts : List Lexeme) → Or (List ℕ) (IsDisplayName ts)
name_or ts = name_at ts (name_from false false ts) refl

angled_or : (front back : List Lexeme) → Or Address (IsAngled front back)
angled_or front back =
    elim (cut_or 62 back) [
      | inl cut ↦ elim (cases_Bool (list_all is_gap cut.back)) [
        | inl gaps ↦ elim (name_or front) [
          | inl name ↦ elim (spec_or name.0 cut.front) [
            | inl is ↦ inl (is.0, angled_from front back cut.front cut.back is.0 cut.whole record { named = subst (IsDisplayName front) (sym is.1.1) name.1; gives_spec = is.1.0; gaps_after = gaps })
            | inr none ↦ inr (λ a is. none a (angled_parts front back cut.front cut.back a cut.whole cut.lacks is).gives_spec)
          ]
          | inr none ↦ inr (λ a is. none a.name (angled_parts front back cut.front cut.back a cut.whole cut.lacks is).named)
        ]
        | inr gaps ↦ inr (λ a is. both_ways _ gaps (angled_parts front back cut.front cut.back a cut.whole cut.lacks is).gaps_after)
      ]
      | inr lacks ↦ inr (λ a is. no_angled front back a lacks is)
    ]

mailbox_or : (ts : List Lexeme) → Or Address (IsMailbox ts)
mailbox_or ts =
    elim (cut_or 60 ts) [
      | inl cut ↦ elim (angled_or cut.front cut.back) [
        | inl is ↦ inl (is.0, inr (cut.front, (cut.back, cut.whole, is.1)))
        | inr none ↦ inr (λ a is. none a (mailbox_angled ts cut.front cut.back a cut.whole cut.lacks is))
      ]
      | inr lacks ↦ elim (spec_or [] ts) [
        | inl is ↦ inl (is.0, inl (is.1.0, is.1.1))
        | inr none ↦ inr (λ a is. none a (mailbox_bare ts a lacks is))
      ]
    ]

-- ---- lists

lists_or : (S : Form) → ((piece : List Lexeme) → Or (List Address) (Gives S piece)) → (list : List (List Lexeme)) → Or (List Address) (Lists S list)
lists_or S decide [] = inl ([], refl)
lists_or S decide (piece ∷ pieces) =
    elim (decide piece) [
      | inl here ↦ elim (lists_or S decide pieces) [
        | inl later ↦ inl (here.0 ++ later.0, (here.0, (later.0, refl, here.1, later.1)))
        | inr none ↦ inr (λ list lists. none lists.1.0 lists.1.3)
      ]
      | inr none ↦ inr (λ list lists. none lists.0 lists.1.2)
    ]

member_or : (piece : List Lexeme) → Or (List Address) (Gives SpellsMailbox piece)
member_or piece =
    elim (cases_Bool (list_all is_gap piece)) [
      | inl gaps ↦ inl ([], inl (gaps, refl))
      | inr gaps ↦ elim (mailbox_or piece) [
        | inl is ↦ inl (is.0 ∷ [], inr (is.0, refl, is.1))
        | inr none ↦ inr (λ list gives. no_member piece gaps none list gives)
      ]
    ]

some_name : (ts : List Lexeme) (name : List ℕ) → IsDisplayName ts name → ((other : List ℕ) × IsDisplayName ts other × (other ≢ [])) ⊎ ((other : List ℕ) → IsDisplayName ts other → other ≡ [])
some_name ts [] named = inr (λ other d. name_unique ts other [] d named)
some_name ts (b ∷ bs) named = inl (b ∷ bs, named, λ e. cc)

named_or : (ts : List Lexeme) → ((name : List ℕ) × IsDisplayName ts name × (name ≢ [])) ⊎ ((name : List ℕ) → IsDisplayName ts name → name ≡ [])
named_or ts =
    elim (name_or ts) [
      | inl name ↦ some_name ts name.0 name.1
      | inr none ↦ inr (λ name d. absurd (none name d))
    ]

grouped_or : (front back : List Lexeme) → Or (List Address) (IsGrouped front back)
grouped_or front back =
    elim (cut_or 59 back) [
      | inl cut ↦ elim (cases_Bool (list_all is_gap cut.back)) [
        | inl gaps ↦ elim (named_or front) [
          | inl name ↦ elim (lists_or SpellsMailbox member_or (pieces cut.front)) [
            | inl is ↦ inl (is.0, grouped_from front back cut.front cut.back is.0 cut.whole record { name = name.0; named = name.1; not_empty = name.2; lists = is.1; gaps_after = gaps })
            | inr none ↦ inr (λ list is. none list (grouped_parts front back cut.front cut.back list cut.whole cut.lacks is).lists)
          ]
          | inr none ↦ inr (λ list is. let g = grouped_parts front back cut.front cut.back list cut.whole cut.lacks is in g.not_empty (none g.name g.named))
        ]
        | inr gaps ↦ inr (λ list is. both_ways _ gaps (grouped_parts front back cut.front cut.back list cut.whole cut.lacks is).gaps_after)
      ]
      | inr lacks ↦ inr (λ list is. both_ways _ lacks (ap (list_any (is_mark 59)) is.whole ∙ has_mark 59 is.inside is.after))
    ]

group_or : (piece : List Lexeme) → Or (List Address) (SpellsGroup piece)
group_or piece =
    elim (cut_or 58 piece) [
      | inl cut ↦ elim (grouped_or cut.front cut.back) [
        | inl is ↦ inl (is.0, (cut.front, (cut.back, cut.whole, is.1)))
        | inr none ↦ inr (λ list is. none list (group_parts piece cut.front cut.back list cut.whole cut.lacks is))
      ]
      | inr lacks ↦ inr (λ list is. no_group piece list lacks is)
    ]

bad_piece : (piece : List Lexeme) → list_all is_gap piece ≡ false → ((a : Address) → IsMailbox piece a → ⊥) → ((list : List Address) → SpellsGroup piece list → ⊥) → IsBad piece
bad_piece piece gaps one group = (gaps, spells)
  where
    spells : (list : List Address) → Spells piece list → ⊥
    spells list (inl is) = one is.0 is.2
    spells list (inr is) = group list is

piece_or : (piece : List Lexeme) → ((here : List Address) × Gives Spells piece here) ⊎ IsBad piece
piece_or piece =
    elim (cases_Bool (list_all is_gap piece)) [
      | inl gaps ↦ inl ([], inl (gaps, refl))
      | inr gaps ↦ elim (mailbox_or piece) [
        | inl is ↦ inl (is.0 ∷ [], inr (inl (is.0, refl, is.1)))
        | inr none ↦ elim (group_or piece) [
          | inl is ↦ inl (is.0, inr (inr is.1))
          | inr neither ↦ inr (bad_piece piece gaps none neither)
        ]
      ]
    ]

pieces_or : (list : List (List Lexeme)) → ((all : List Address) × Lists Spells list all) ⊎ ((at : ℕ) × IsFirstBad list at)
pieces_or [] = inl ([], refl)
pieces_or (piece ∷ pieces) =
    elim (piece_or piece) [
      | inl here ↦ elim (pieces_or pieces) [
        | inl later ↦ inl (here.0 ++ later.0, (here.0, (later.0, refl, here.1, later.1)))
        | inr bad ↦ inr (bad.0 + 1, inr (here.0, here.1, (bad.0, refl, bad.1)))
      ]
      | inr bad ↦ inr (0, inl (bad, refl))
    ]

-- a value has a list, or a first bad piece
pub reads_or_fault : (value : List ℕ) → ((list : List Address) × Reads value list) ⊎ ((at : ℕ) × IsFault value at)
reads_or_fault value =
    let ts = tokens_of value in
    elim (pieces_or (pieces ts.0)) [
      | inl all ↦ inl (all.0, record { tokens = ts.0; are_tokens = ts.1; lists = all.1 })
      | inr bad ↦ inr (bad.0, record { tokens = ts.0; are_tokens = ts.1; first_bad = bad.1 })
    ]
